-- Regions inside a root whose unreached blocks are removed, one after the other.
use mathlib.Core.Path.{◌≡◌, refl, sym, ap, ◌∙◌, subst}
use Rattle.std.proofs.Common.{ℕ, ◌+◌, ◌≤◌, ◌↔◌, ◌⊎◌, inl, inr, Bool, true, false, Option, Some, None, List, [], ◌∷◌, ◌++◌, map, is_some, length, arith}
use Rattle.std.specs.Prelude.{IsTrue}
use Rattle.std.specs.List.{filter, AllZip}
use Rattle.std.proofs.lemmas.Bool.{false≢true}
use Rattle.std.proofs.lemmas.List.Sums.{length-filter}
use Rattle.ir_model.specs.Ids.{Ids, Distinct}
use Rattle.ir_model.specs.Forest.{Dialect, Behaviour, Entity, an_op, a_block, a_region, OpRecord, Forest, Operand, Definition}
use Rattle.ir_model.specs.Nesting.{In, itself, below, list_of, children, Inside, IsLive, Nested, WellFormed, blocks_of, operands_of, regions_of}
use Rattle.ir_model.proofs.Loops.{Lawful}
use Rattle.ir_model.proofs.Nests.{In-append, In-map, In-map_back, Distinct-append}
use Rattle.ir_model.proofs.Keeps.{Distinct-unmap}
use Rattle.ir_model.proofs.Filters.{In-filter, Distinct-filter}
use Rattle.ir_model.proofs.Removal.{length-within}
use Rattle.ir_model_passes.specs.Meaning.{Interpretation, Consistent, KeepsValues}
use Rattle.ir_model_passes.specs.Merging.{MovesBack, OperandsMoveBack}
use Rattle.ir_model_passes.specs.Unreached.{IsUnreached, NamesStayInside, RemovesUnreached}
use Rattle.ir_run_unreached.specs.Inside.{Treats, NamesStayInsideEach, NoneUnreachedInside, RemovesSomeInside, none_inside, one_inside, InsideTells}
use Rattle.ir_run_unreached.proofs.Others.{live_stays, was_inside, still_inside, op_stays, block_was, block_gone, region_was, names_still, none_still}

module _ {N : Ids} {W : Dialect} where
  -- ## What stays is as it was

  -- each operation that is there is as it was
  abbrev AsWas : Forest N W → Forest N W → Type 0
  AsWas f g = (o : N.Op) → IsLive g (an_op o) → g.ops o ≡ f.ops o

  pub some_as_was : (root : Entity N) (f g : Forest N W) (count : ℕ) → RemovesSomeInside root f g count → AsWas f g
  some_as_was root f _ _ none_inside o live = refl
  some_as_was root f h _ (one_inside {g = g} {n = n} {m = m} r some i removed) o live =
      let same = op_stays g r h m removed o live in
      same ∙ some_as_was root f g n some o (sym (ap is_some same) ∙ live)

  module _ (f g : Forest N W) (same : AsWas f g) where
    same_operands : (o : N.Op) → IsLive g (an_op o) → operands_of g o ≡ operands_of f o
    same_operands o live = ap (list_of (λ (r : OpRecord N W). r.operands)) (same o live)

    pub values_kept : (B : Behaviour W) {V : Type 0} (gives : Interpretation W V) → KeepsValues B gives f g
    values_kept B gives a was = record {
      consistent = λ o r place d e plain at. was o r place d (sym (same o (ap is_some e)) ∙ e) plain at;
      values = λ o live. ap (map (λ (p : Operand N). a p.value)) (same_operands o live);
    }

    pub back_moved : OperandsMoveBack f g
    back_moved o live = subst (AllZip (MovesBack f g) (operands_of f o)) (sym (same_operands o live)) (all_same (operands_of f o))
      where
        all_same : (ps : List (Operand N)) → AllZip (MovesBack f g) ps ps
        all_same [] = tt
        all_same (p ∷ ps) = (inl refl, all_same ps)

  -- ## One region more

  region_live : (f : Forest N W) → Nested f → (o : N.Op) (r : N.Region) → Inside f (an_op o) (a_region r) → IsLive f (a_region r)
  region_live f nested o r i = by (a_region r) i refl
    where
      by : (x : Entity N) → Inside f (an_op o) x → x ≡ a_region r → IsLive f (a_region r)
      by _ itself e = absurd (let z : an_op o ≡ a_region r = e in cc)
      by x (below {c = c} h v) e = nested.live (a_region r) c (subst (λ y. In y (children f c)) e h)

  module _ (L : Lawful N) (root : N.Op) (g : Forest N W) (r : N.Region) (h : Forest N W) (m : ℕ) (removed : RemovesUnreached g r h m) where
    same_or_not : (q : N.Region) → (q ≡ r) ⊎ (q ≡ r → ⊥)
    same_or_not q = by (N.same_region q r) refl
      where
        by : (t : Bool) → N.same_region q r ≡ t → (q ≡ r) ⊎ (q ≡ r → ⊥)
        by true e = inl ((L.regions q r).0 e)
        by false e = inr (λ s. false≢true (sym e ∙ (L.regions q r).1 s))

    module _ (before : Nested g) (after : Nested h) (none : (b : N.Block) → IsUnreached h r b → ⊥) where
      pub each_names_still : NamesStayInsideEach (an_op root) g → NamesStayInsideEach (an_op root) h
      each_names_still each q i = elim (same_or_not q) [
        | inl e ↦ (λ user d k goes. absurd (none goes.0 (subst (λ z. IsUnreached h z goes.0) e goes.1)))
        | inr differs ↦ names_still g r h m removed before q (live_stays g r h m removed (a_region q) (region_live h after root q i)) differs (each q (was_inside g r h m removed (an_op root) (a_region q) i))
      ]

      pub none_more : (q : N.Region) → ((b : N.Block) → IsUnreached g q b → ⊥) → (b : N.Block) → IsUnreached h q b → ⊥
      none_more q so b u = elim (same_or_not q) [
        | inl e ↦ none b (subst (λ z. IsUnreached h z b) e u)
        | inr differs ↦ none_still g r h m removed before q differs so b u
      ]

  -- ## A walk through a list of regions

  -- the regions in front were treated; those in the list are all that are inside the root, and others only where they are dead
  pub record Treating (root : N.Op) (f : Forest N W) (regions front : List N.Region) (g : Forest N W) (count : ℕ) : Type 0 where
    pub some : RemovesSomeInside (an_op root) f g count
    pub listed : (r : N.Region) → Inside g (an_op root) (a_region r) → In r regions
    pub inside : (r : N.Region) → In r regions → IsLive g (a_region r) → Inside g (an_op root) (a_region r)
    pub names : NamesStayInsideEach (an_op root) g
    pub none : (r : N.Region) → In r front → (b : N.Block) → IsUnreached g r b → ⊥

  pub treating_starts : (root : N.Op) (f : Forest N W) (regions : List N.Region) → ((r : N.Region) → In r regions ↔ Inside f (an_op root) (a_region r)) → NamesStayInsideEach (an_op root) f → Treating root f regions [] f 0
  treating_starts root f regions all names = record {
    some = none_inside;
    listed = λ r i. (all r).1 i;
    inside = λ r h live. (all r).0 h;
    names = names;
    none = λ r h. absurd h;
  }

  module _ (root : N.Op) (f : Forest N W) (regions front : List N.Region) (g : Forest N W) (count : ℕ) (t : Treating root f regions front g count) where
    -- at the end none is left
    pub none_at_end : front ≡ regions → NoneUnreachedInside (an_op root) g
    none_at_end e r b i = t.none r (subst (In r) (sym e) (t.listed r i)) b

    -- a dead region is passed over
    pub treating_over : (r : N.Region) → (IsLive g (a_region r) → ⊥) → Treating root f regions (front ++ r ∷ []) g count
    treating_over r dead = record {
      some = t.some;
      listed = t.listed;
      inside = t.inside;
      names = t.names;
      none = λ q h b u. elim (In-append q front (r ∷ []) h) [
        | inl k ↦ t.none q k b u
        | inr k ↦ elim k [ inl e ↦ dead (has_list b (g.regions r) (subst (λ z. In b (blocks_of g z)) e u.0)) | inr z ↦ z ]
      ];
    }
      where
        has_list : (b : N.Block) (bs : Option (List N.Block)) → In b (list_of (λ (q : List N.Block). q) bs) → is_some bs ≡ true
        has_list b None k = absurd k
        has_list b (Some q) k = refl

    module _ (L : Lawful N) (r : N.Region) (h : Forest N W) (m : ℕ) (here : In r regions) (live : IsLive g (a_region r)) (removed : RemovesUnreached g r h m)
        (before : Nested g) (after : Nested h) (none : (b : N.Block) → IsUnreached h r b → ⊥) where
      pub treating_goes_on : Treating root f regions (front ++ r ∷ []) h (count + m)
      treating_goes_on = record {
        some = one_inside r t.some (t.inside r here live) removed;
        listed = λ q i. t.listed q (was_inside g r h m removed (an_op root) (a_region q) i);
        inside = λ q k there. still_inside g r h m removed (an_op root) (a_region q) (live_stays g r h m removed (a_region q) there) (t.inside q k (region_was g r h m removed q there));
        names = each_names_still L root g r h m removed before after none t.names;
        none = λ q k b u. elim (In-append q front (r ∷ []) k) [
          | inl i ↦ none_more L root g r h m removed before after none q (t.none q i) b u
          | inr i ↦ elim i [ inl e ↦ none b (subst (λ z. IsUnreached h z b) e u) | inr z ↦ z ]
        ];
      }
      -- so it is, whether the region was live or dead

    pub treated : Lawful N → (r : N.Region) (h : Forest N W) → In r regions → Treats g r h → Nested g → Nested h → (n : ℕ) × Treating root f regions (front ++ r ∷ []) h n
    treated L r h here (inl k) before after = (count + k.0, treating_goes_on L r h k.0 here k.1 k.2 before after k.3)
    treated L r h here (inr k) before after = (count, subst (λ z. Treating root f regions (front ++ r ∷ []) z count) (sym k.1) (treating_over r k.0))

  -- ## All steps

  module _ (L : Lawful N) (root : N.Op) (f : Forest N W) (keys : ℕ) (w : WellFormed f keys)
      (one : (g h : Forest N W) (r : N.Region) (m : ℕ) → WellFormed g keys → RemovesUnreached g r h m → (NamesStayInside g r → WellFormed h keys) × ((b : N.Block) → IsUnreached h r b → ⊥)) where
    pub each_formed : (g : Forest N W) (count : ℕ) → RemovesSomeInside (an_op root) f g count → NamesStayInsideEach (an_op root) f → WellFormed g keys × NamesStayInsideEach (an_op root) g
    each_formed _ _ none_inside each = (w, each)
    each_formed h _ (one_inside {g = g} {n = n} {m = m} r some i removed) each =
        let so = each_formed g n some each in
        let told = one g h r m so.0 removed in
        let formed = told.0 (so.1 r i) in
        (formed, each_names_still L root g r h m removed so.0.nested formed.nested told.1 so.1)
