-- What one merging of two alike operations leaves.
use mathlib.Core.Path.{◌≡◌, refl, sym, ap, ap₂, ◌∙◌, subst}
use Rattle.std.proofs.Common.{ℕ, zero, suc, ◌⊎◌, inl, inr, Bool, true, false, not, cond, Option, Some, None, List, [], ◌∷◌, map, take, is_some}
use Rattle.std.specs.Prelude.{IsTrue, slice_get}
use Rattle.std.specs.List.{filter, zip, AllZip}
use Rattle.std.specs.Option.{option_map, option_map_or}
use Rattle.ir_model.specs.Ids.{Ids, Distinct}
use Rattle.ir_model.specs.Forest.{Dialect, Behaviour, Definer, of_op, of_block, Entity, an_op, a_block, a_region, Definition, OpRecord, BlockRecord, Forest, Value, Operand, Successor, Named, a_value, the_block, definer_entity, same_value, same_entity}
use Rattle.ir_model.specs.Nesting.{In, itself, below, list_of, children, Inside, IsLive, IsLiveNamed, IsClosed, Nested, WellFormed, names_of, operands_of, regions_of, ops_of, definitions_of}
use Rattle.ir_model.specs.Changes.{redirect, redirected, on_operands, on_ops, on_regions, but, Removes}
use Rattle.ir_model.specs.BlockGraph.{implements, pure_interface}
use Rattle.ir_model.proofs.Loops.{Lawful}
use Rattle.ir_model.proofs.Redirected.{value_tells}
use Rattle.ir_model.proofs.Nests.{In-map, In-map_back, In-append, not_in-Absent}
use Rattle.ir_model.proofs.Keeps.{list_of-map, is_some-map, Distinct-unmap}
use Rattle.ir_model.proofs.KeepsUses.{ReplaceAllUses-kept}
use Rattle.ir_model.proofs.KeepsErase.{Removes-kept}
use Rattle.ir_model.proofs.Back.{slice_get-in}
use Rattle.ir_model_passes.specs.Meaning.{SameAttributes, Interpretation, Respects, Consistent, IsPlain, SameButNamed, GoesWithPure, OnlyPureGo, SeesTheSame, KeepsMeaning, given_by, result_types}
use Rattle.ir_model_passes.specs.Merging.{StandsBefore, values_given, redirect_each, redirect_results, Alike, MergesOne, MergesPartly, MovesBack, OperandsMoveBack}
use Rattle.ir_model_passes.proofs.Going.{filter_same, none_is_not_some, some_one}
use Rattle.ir_model_passes.proofs.Preorder.{all_pass, is_there}

-- ## Lists

pub map_twice : {A B C : Type 0} (g : B → C) (h : A → B) (xs : List A) → map g (map h xs) ≡ map (λ x. g (h x)) xs
map_twice g h [] = refl
map_twice g h (x ∷ xs) = ap (λ ys. g (h x) ∷ ys) (map_twice g h xs)

map_same : {A B : Type 0} (g h : A → B) → ((x : A) → g x ≡ h x) → (xs : List A) → map g xs ≡ map h xs
map_same g h e [] = refl
map_same g h e (x ∷ xs) = ap₂ (λ y ys. y ∷ ys) (e x) (map_same g h e xs)

map_itself : {A : Type 0} (xs : List A) → map (λ x. x) xs ≡ xs
map_itself [] = refl
map_itself (x ∷ xs) = ap (λ ys. x ∷ ys) (map_itself xs)

tails : {A : Type 0} (x y : A) (xs ys : List A) → x ∷ xs ≡ y ∷ ys → xs ≡ ys
tails x y xs ys e = cc

empty_or : {A : Type 0} (y : A) (ys : List A) → [] ≡ y ∷ ys → ⊥
empty_or y ys e = cc

or_empty : {A : Type 0} (y : A) (ys : List A) → y ∷ ys ≡ [] → ⊥
or_empty y ys e = cc

-- what holds place by place holds of the pairs
pairs_all : {X Y A C : Type 0} (F : X → A) (G : Y → C) (P : A → C → Type 0) (xs : List X) (ys : List Y)
    → ((i : ℕ) (x : X) (y : Y) → slice_get xs i ≡ Some x → slice_get ys i ≡ Some y → P (F x) (G y)) → (p : A × C) → In p (zip (map F xs) (map G ys)) → P p.0 p.1
pairs_all F G P [] ys h p k = elim k [ ]
pairs_all F G P (x ∷ xs) [] h p k = elim k [ ]
pairs_all F G P (x ∷ xs) (y ∷ ys) h p (inl e) = subst (λ q. P q.0 q.1) (sym e) (h zero x y refl refl)
pairs_all F G P (x ∷ xs) (y ∷ ys) h p (inr k) = pairs_all F G P xs ys (λ i a b. h (suc i) a b) p k

-- where both lists have the same images, each of the first stands in a pair
first_paired : {X Y A C T : Type 0} (F : X → A) (G : Y → C) (s : X → T) (t : Y → T) (xs : List X) (ys : List Y) → map s xs ≡ map t ys
    → (x : X) → In x xs → (p : A × C) × In p (zip (map F xs) (map G ys)) × (p.0 ≡ F x)
first_paired F G s t [] ys e x k = elim k [ ]
first_paired F G s t (z ∷ zs) [] e x k = absurd (or_empty (s z) (map s zs) e)
first_paired F G s t (z ∷ zs) (y ∷ ys) e x (inl q) = ((F z, G y), inl refl, ap F (sym q))
first_paired F G s t (z ∷ zs) (y ∷ ys) e x (inr k) = let more = first_paired F G s t zs ys (tails (s z) (t y) (map s zs) (map t ys) e) x k in (more.0, inr more.1, more.2)

-- what stands behind another one is in the list, and is another one where none stands twice
pub before_in : {A : Type 0} (x y : A) (xs : List A) → StandsBefore x y xs → In x xs × In y xs
before_in x y [] h = absurd h
before_in x y (z ∷ zs) (inl h) = (inl h.0, inr h.1)
before_in x y (z ∷ zs) (inr h) = let more = before_in x y zs h in (inr more.0, inr more.1)

pub before_differs : {A : Type 0} (x y : A) (xs : List A) → Distinct xs → StandsBefore x y xs → x ≡ y → ⊥
before_differs x y [] d h e = absurd h
before_differs x y (z ∷ zs) d (inl h) e = not_in-Absent z zs d.0 (subst (λ w. In w zs) (sym e ∙ h.0) h.1)
before_differs x y (z ∷ zs) d (inr h) e = before_differs x y zs d.1 h e

module _ {N : Ids} where
  value_of_named : (v u : Value N) → ◌≡◌ {A = Named N} (a_value v) (a_value u) → v ≡ u
  value_of_named v u e = cc

  pub of_op_one : {o p : N.Op} → ◌≡◌ {A = Definer N} (of_op o) (of_op p) → o ≡ p
  of_op_one e = cc

-- ## What operands come to name

module _ {N : Ids} where
  -- the operand after each pair, one after the other
  abbrev pub moved : List (Value N × Value N) → Operand N → Operand N
  moved [] p = p
  moved (q ∷ ps) p = moved ps (redirected q.0 q.1 p)

  one_number : (old new : Value N) (p : Operand N) → (redirected old new p).use_number ≡ p.use_number
  one_number old new p = by (same_value N p.value old)
    where
      by : (b : Bool) → (cond b (record p { value = new }) p).use_number ≡ p.use_number
      by true = refl
      by false = refl

  pub moved_number : (ps : List (Value N × Value N)) (p : Operand N) → (moved ps p).use_number ≡ p.use_number
  moved_number [] p = refl
  moved_number (q ∷ ps) p = moved_number ps (redirected q.0 q.1 p) ∙ one_number q.0 q.1 p

  module _ (L : Lawful N) where
    -- the operand is as it was, or named the old value and names the new one
    one_case : (old new : Value N) (p : Operand N) → ((redirected old new p ≡ p) × (p.value ≡ old → ⊥)) ⊎ ((p.value ≡ old) × ((redirected old new p).value ≡ new))
    one_case old new p = by (same_value N p.value old) refl
      where
        by : (b : Bool) → same_value N p.value old ≡ b → ((cond b (record p { value = new }) p ≡ p) × (p.value ≡ old → ⊥)) ⊎ ((p.value ≡ old) × ((cond b (record p { value = new }) p).value ≡ new))
        by true e = inr ((value_tells L p.value old).0 e, refl)
        by false e = inl (refl, λ k. (let t : same_value N p.value old ≡ true = (value_tells L p.value old).1 k in let z : true ≡ false = sym t ∙ e in cc))

    -- where both of each pair have one value, what the operand names has the value that it had
    pub moved_value : {V : Type 0} (a : Value N → V) (ps : List (Value N × Value N)) → ((q : Value N × Value N) → In q ps → a q.0 ≡ a q.1) → (p : Operand N) → a (moved ps p).value ≡ a p.value
    moved_value a [] same p = refl
    moved_value a (q ∷ ps) same p = moved_value a ps (λ z k. same z (inr k)) (redirected q.0 q.1 p) ∙ elim (one_case q.0 q.1 p) [
      | inl k ↦ ap (λ (z : Operand N). a z.value) k.0
      | inr k ↦ ap a k.1 ∙ sym (same q (inl refl)) ∙ ap a (sym k.0)
    ]

    -- what is no new value comes up nowhere
    stays_off : (ps : List (Value N × Value N)) (x : Value N) → ((q : Value N × Value N) → In q ps → q.1 ≡ x → ⊥) → (p : Operand N) → (p.value ≡ x → ⊥) → (moved ps p).value ≡ x → ⊥
    stays_off [] x off p n = n
    stays_off (q ∷ ps) x off p n = stays_off ps x (λ z k. off z (inr k)) (redirected q.0 q.1 p) (elim (one_case q.0 q.1 p) [
      | inl k ↦ (λ e. n (sym (ap (λ (z : Operand N). z.value) k.0) ∙ e))
      | inr k ↦ (λ e. off q (inl refl) (sym k.1 ∙ e))
    ])

    -- an old value that is no new one is named no more
    pub moves_off : (ps : List (Value N × Value N)) (x : Value N) → ((q : Value N × Value N) → In q ps → q.1 ≡ x → ⊥) → (o : Value N × Value N) → In o ps → o.0 ≡ x → (p : Operand N) → (moved ps p).value ≡ x → ⊥
    moves_off [] x off o h s p = elim h [ ]
    moves_off (q ∷ ps) x off o (inl e) s p = stays_off ps x (λ z k. off z (inr k)) (redirected q.0 q.1 p) (elim (one_case q.0 q.1 p) [
      | inl k ↦ (λ z. k.1 (sym (ap (λ (w : Operand N). w.value) k.0) ∙ z ∙ sym s ∙ ap (λ (w : Value N × Value N). w.0) e))
      | inr k ↦ (λ z. off q (inl refl) (sym k.1 ∙ z))
    ])
    moves_off (q ∷ ps) x off o (inr h) s p = moves_off ps x (λ z k. off z (inr k)) o h s (redirected q.0 q.1 p)

    -- the operand is as it was, or named what one definer gives and names what the other one gives
    pub moved_case : (d e : Definer N) (ps : List (Value N × Value N)) → ((q : Value N × Value N) → In q ps → (q.0.definer ≡ d) × (q.1.definer ≡ e)) → (p : Operand N)
        → (moved ps p ≡ p) ⊎ ((p.value.definer ≡ d) × ((moved ps p).value.definer ≡ e))
    moved_case d e [] all p = inl refl
    moved_case d e (q ∷ ps) all p = elim (one_case q.0 q.1 p) [
      | inl k ↦ subst (λ z. (moved ps z ≡ p) ⊎ ((p.value.definer ≡ d) × ((moved ps z).value.definer ≡ e))) (sym k.0) (moved_case d e ps (λ z i. all z (inr i)) p)
      | inr k ↦ (
          let old : p.value.definer ≡ d = ap (λ (v : Value N). v.definer) k.0 ∙ (all q (inl refl)).0 in
          elim (moved_case d e ps (λ z i. all z (inr i)) (redirected q.0 q.1 p)) [
            | inl s ↦ inr (old, ap (λ (z : Operand N). z.value.definer) s ∙ ap (λ (v : Value N). v.definer) k.1 ∙ (all q (inl refl)).1)
            | inr s ↦ inr (old, s.1)
          ])
    ]

module _ {N : Ids} {W : Dialect} where
  operands_twice : (g h : Operand N → Operand N) (m : Option (OpRecord N W)) → option_map (on_operands (map g)) (option_map (on_operands (map h)) m) ≡ option_map (on_operands (map (λ p. g (h p)))) m
  operands_twice g h None = refl
  operands_twice g h (Some r) = ap (λ ps. Some (record r { operands = ps })) (map_twice g h r.operands)

  operands_kept : (m : Option (OpRecord N W)) → m ≡ option_map (on_operands (map (λ p. p))) m
  operands_kept None = refl
  operands_kept (Some r) = ap (λ ps. Some (record r { operands = ps })) (sym (map_itself r.operands))

  pub each_ops : (ps : List (Value N × Value N)) (f : Forest N W) (o : N.Op) → (redirect_each f ps).ops o ≡ option_map (on_operands (map (moved ps))) (f.ops o)
  each_ops [] f o = operands_kept (f.ops o)
  each_ops (q ∷ ps) f o = each_ops ps (redirect f q.0 q.1) o ∙ operands_twice (moved ps) (redirected q.0 q.1) (f.ops o)

  pub each_blocks : (ps : List (Value N × Value N)) (f : Forest N W) → (redirect_each f ps).blocks ≡ f.blocks
  each_blocks [] f = refl
  each_blocks (q ∷ ps) f = each_blocks ps (redirect f q.0 q.1)

  pub each_regions : (ps : List (Value N × Value N)) (f : Forest N W) → (redirect_each f ps).regions ≡ f.regions
  each_regions [] f = refl
  each_regions (q ∷ ps) f = each_regions ps (redirect f q.0 q.1)

  -- a value is live where it was
  still_live : (f : Forest N W) (old new v : Value N) → IsLiveNamed f (a_value v) → IsLiveNamed (redirect f old new) (a_value v)
  still_live f old new v h = by v.definer h
    where
      by : (d : Definer N) → In v.number (map (λ (x : Definition N W). x.number) (definitions_of f d)) → In v.number (map (λ (x : Definition N W). x.number) (definitions_of (redirect f old new) d))
      by (of_op o) k = subst (λ xs. In v.number (map (λ (x : Definition N W). x.number) xs)) (sym (list_of-map (λ (r : OpRecord N W). r.results) (on_operands (map (redirected old new))) (λ r. refl) (f.ops o))) k
      by (of_block b) k = k

  pub each_formed : (ps : List (Value N × Value N)) (f : Forest N W) (keys : ℕ) → WellFormed f keys → ((q : Value N × Value N) → In q ps → IsLiveNamed f (a_value q.1)) → WellFormed (redirect_each f ps) keys
  each_formed [] f keys w live = w
  each_formed (q ∷ ps) f keys w live = each_formed ps (redirect f q.0 q.1) keys (ReplaceAllUses-kept f keys [] w q.0 q.1 (live q (inl refl))).forest
      (λ z k. still_live f q.0 q.1 z.1 (live z (inr k)))

-- ## Two alike operations

module _ {N : Ids} {W : Dialect} (B : Behaviour W) (same : SameAttributes W) (f : Forest N W) (earlier later : N.Op) (alike : Alike B same f earlier later) where
  -- each result of the later one beside that of the earlier one at the same place
  abbrev pub paired : List (Value N × Value N)
  paired = zip (values_given f later) (values_given f earlier)

  pub later_results : definitions_of f (of_op later) ≡ alike.other.results
  later_results = ap (list_of (λ (r : OpRecord N W). r.results)) alike.other_is

  pub earlier_results : definitions_of f (of_op earlier) ≡ alike.one.results
  earlier_results = ap (list_of (λ (r : OpRecord N W). r.results)) alike.one_is

  -- both give equally many results
  pub shapes : map (λ (d : Definition N W). d.ty) (definitions_of f (of_op later)) ≡ map (λ (d : Definition N W). d.ty) (definitions_of f (of_op earlier))
  shapes = ap (map (λ (d : Definition N W). d.ty)) later_results ∙ sym alike.types ∙ sym (ap (map (λ (d : Definition N W). d.ty)) earlier_results)

  pub second_live : (q : Value N × Value N) → In q paired → IsLiveNamed f (a_value q.1)
  second_live = pairs_all (given_by later) (given_by earlier) (λ v u. IsLiveNamed f (a_value u)) (definitions_of f (of_op later)) (definitions_of f (of_op earlier))
      (λ i x y h k. In-map (λ (d : Definition N W). d.number) y (definitions_of f (of_op earlier)) (slice_get-in (definitions_of f (of_op earlier)) i y k))

  module _ {V : Type 0} (gives : Interpretation W V) (respects : Respects W V same gives) (a : Value N → V) (was : Consistent B gives a f) where
    seen_alike : map (λ (p : Operand N). a p.value) alike.other.operands ≡ map (λ (p : Operand N). a p.value) alike.one.operands
    seen_alike = sym (map_twice a (λ (p : Operand N). p.value) alike.other.operands) ∙ ap (map a) (sym alike.operands) ∙ map_twice a (λ (p : Operand N). p.value) alike.one.operands

    -- results at one place have one value
    pub agree : (q : Value N × Value N) → In q paired → a q.0 ≡ a q.1
    agree = pairs_all (given_by later) (given_by earlier) (λ v u. a v ≡ a u) (definitions_of f (of_op later)) (definitions_of f (of_op earlier)) (λ i x y h k.
        let r = alike.other in
        let q = alike.one in
        was later r i x alike.other_is alike.other_plain (sym (ap (λ l. slice_get l i) later_results) ∙ h)
        ∙ ap (λ n. gives n r.attributes (map (λ (p : Operand N). a p.value) r.operands) (result_types r) i) (sym alike.kinds)
        ∙ sym (respects q.kind q.attributes r.attributes (map (λ (p : Operand N). a p.value) r.operands) (result_types r) i alike.attributes)
        ∙ ap (λ vs. gives q.kind q.attributes vs (result_types r) i) seen_alike
        ∙ ap (λ ts. gives q.kind q.attributes (map (λ (p : Operand N). a p.value) q.operands) ts i) (sym alike.types)
        ∙ sym (was earlier q i y alike.one_is alike.one_plain (sym (ap (λ l. slice_get l i) earlier_results) ∙ k)))

-- ## The results of an operation are replaced by those of an alike one

module _ {N : Ids} {W : Dialect} (L : Lawful N) (B : Behaviour W) (same : SameAttributes W) (f : Forest N W) (keys : ℕ) (w : WellFormed f keys) (earlier later : N.Op) (apart : earlier ≡ later → ⊥) (alike : Alike B same f earlier later) where
  both : List (Value N × Value N)
  both = zip (values_given f later) (values_given f earlier)

  between_both : Forest N W
  between_both = redirect_results f later earlier

  -- the first of a pair is given by the later, the second by the earlier
  both_given : (q : Value N × Value N) → In q both → (q.0.definer ≡ of_op later) × (q.1.definer ≡ of_op earlier)
  unfolding both
  both_given = pairs_all (given_by later) (given_by earlier) (λ v u. (v.definer ≡ of_op later) × (u.definer ≡ of_op earlier)) (definitions_of f (of_op later)) (definitions_of f (of_op earlier)) (λ i x y h k. (refl, refl))

  pub replaced_given : (q : Value N × Value N) → In q (zip (values_given f later) (values_given f earlier)) → (q.0.definer ≡ of_op later) × (q.1.definer ≡ of_op earlier)
  unfolding both
  replaced_given = both_given

  both_ops : (o : N.Op) → between_both.ops o ≡ option_map (on_operands (map (moved both))) (f.ops o)
  unfolding both between_both
  both_ops o = each_ops both f o

  both_formed : WellFormed between_both keys
  unfolding both between_both
  both_formed = each_formed both f keys w (second_live B same f earlier later alike)

  pub replaced_formed : WellFormed (redirect_results f later earlier) keys
  unfolding between_both
  replaced_formed = both_formed

  -- nothing is inside the later one but itself
  alone_both : (x : Entity N) → Inside between_both (an_op later) x → x ≡ an_op later
  alone_both x itself = refl
  alone_both x (below {c = c} h v) =
      let k : In x (children between_both (an_op later)) = subst (λ y. In x (children between_both y)) (alone_both c v) h in
      let rs : regions_of between_both later ≡ [] = ap (list_of (λ (r : OpRecord N W). r.regions)) (both_ops later ∙ ap (option_map (on_operands (map (moved both)))) alike.other_is) ∙ alike.other_plain.no_regions in
      absurd (let n : In x (map a_region []) = subst (λ (l : List N.Region). In x (map {A = N.Region} {B = Entity N} a_region l)) rs k in n)

  pub replaced_alone : (x : Entity N) → Inside (redirect_results f later earlier) (an_op later) x → x ≡ an_op later
  unfolding between_both
  replaced_alone = alone_both

  results_both : definitions_of between_both (of_op later) ≡ alike.other.results
  results_both =
      ap (list_of (λ (r : OpRecord N W). r.results)) (both_ops later)
      ∙ list_of-map (λ (r : OpRecord N W). r.results) (on_operands (map (moved both))) (λ r. refl) (f.ops later)
      ∙ later_results B same f earlier later alike

  operands_both : (o : N.Op) → operands_of between_both o ≡ map (moved both) (operands_of f o)
  operands_both o = ap (list_of (λ (r : OpRecord N W). r.operands)) (both_ops o) ∙ by (f.ops o)
    where
      by : (k : Option (OpRecord N W)) → list_of (λ (r : OpRecord N W). r.operands) (option_map (on_operands (map (moved both))) k) ≡ map (moved both) (list_of (λ (r : OpRecord N W). r.operands) k)
      by None = refl
      by (Some r) = refl

  -- each result of the later one stands first in a pair
  first_of : (d : Definition N W) → In d (definitions_of f (of_op later)) → (q : Value N × Value N) × In q both × (q.0 ≡ given_by later d)
  unfolding both
  first_of = first_paired (given_by later) (given_by earlier) (λ (d : Definition N W). d.ty) (λ (d : Definition N W). d.ty) (definitions_of f (of_op later)) (definitions_of f (of_op earlier)) (shapes B same f earlier later alike)

  -- no result of the later one is named any more
  unnamed : (user : N.Op) (v : Value N) → In (a_value v) (names_of between_both user) → v.definer ≡ of_op later → ⊥
  unnamed user v h d = elim (In-append (a_value v) (map (λ (p : Operand N). a_value p.value) (operands_of between_both user)) _ h) [
    | inl k ↦ (
        let at = In-map_back (λ (p : Operand N). a_value p.value) (a_value v) (operands_of between_both user) k in
        let moved_so = In-map_back (moved both) at.0 (operands_of f user) (subst (In at.0) (operands_both user) at.1) in
        let is : v ≡ (moved both moved_so.0).value = value_of_named v at.0.value at.2 ∙ ap (λ (p : Operand N). p.value) moved_so.2 in
        let live : In v.number (map (λ (x : Definition N W). x.number) (definitions_of between_both v.definer)) = both_formed.named user (a_value v) h in
        let of_later : In v.number (map (λ (x : Definition N W). x.number) alike.other.results) = subst (λ xs. In v.number (map (λ (x : Definition N W). x.number) xs)) results_both (subst (λ z. In v.number (map (λ (x : Definition N W). x.number) (definitions_of between_both z))) d live) in
        let def = In-map_back (λ (x : Definition N W). x.number) v.number alike.other.results of_later in
        let pair = first_of def.0 (subst (In def.0) (sym (later_results B same f earlier later alike)) def.1) in
        let v_is : given_by later def.0 ≡ v = λ i. record { definer = sym d i; number = sym def.2 i } in
        moves_off L both v (λ q k2 e. apart (of_op_one (sym (both_given q k2).1 ∙ ap (λ (x : Value N). x.definer) e ∙ d))) pair.0 pair.1 (pair.2 ∙ v_is) moved_so.0 (sym is))
    | inr k ↦ (let at = In-map_back (λ (p : Successor N). the_block p.block) (a_value v) _ k in let z : a_value v ≡ the_block at.0.block = at.2 in absurd cc)
  ]

  closed_both : IsClosed between_both (an_op later)
  closed_both user (a_value v) h i = absurd (unnamed user v h (definer_is v.definer (alone_both (definer_entity N v.definer) i)))
    where
      definer_is : (d : Definer N) → definer_entity N d ≡ an_op later → d ≡ of_op later
      definer_is (of_op o) e = let z : o ≡ later = cc in ap of_op z
      definer_is (of_block c) e = absurd cc
  closed_both user (the_block c) h i = (let e : a_block c ≡ an_op later = alone_both (a_block c) i in absurd cc)

  pub replaced_closed : IsClosed (redirect_results f later earlier) (an_op later)
  unfolding between_both
  replaced_closed = closed_both

-- ## Some values are replaced by others that have the same value

module _ {N : Ids} {W : Dialect} (L : Lawful N) (B : Behaviour W) (f : Forest N W) (ps : List (Value N × Value N)) (n : Nested f) where
  abbrev replaced : Forest N W
  replaced = redirect_each f ps

  -- the record that an operation had
  record_was : (o : N.Op) (r : OpRecord N W) → replaced.ops o ≡ Some r → (q : OpRecord N W) × (f.ops o ≡ Some q) × (r ≡ on_operands (map (moved ps)) q)
  record_was o r e = by (f.ops o) refl (sym e ∙ each_ops ps f o)
    where
      by : (k : Option (OpRecord N W)) → f.ops o ≡ k → Some r ≡ option_map (on_operands (map (moved ps))) k → (q : OpRecord N W) × (f.ops o ≡ Some q) × (r ≡ on_operands (map (moved ps)) q)
      by None s t = absurd (none_is_not_some r (sym t))
      by (Some q) s t = (q, s, some_one r (on_operands (map (moved ps)) q) t)

  replaced_only : OnlyPureGo B f replaced
  replaced_only = record {
    stays = stays;
    ops = λ o r e. (let was = record_was o r e in (was.0, was.1, subst (SameButNamed was.0) (sym was.2) (record { rest = refl; uses = map_twice (λ (p : Operand N). p.use_number) (moved ps) was.0.operands ∙ map_same _ _ (moved_number ps) was.0.operands })));
    blocks = λ c r e. (let was = sym (ap (λ (k : N.Block → Option (BlockRecord N W)). k c) (each_blocks ps f)) ∙ e in (r, was, ap (λ os. record r { ops = os }) (sym (all_pass (λ o. is_some (replaced.ops o)) r.ops (listed c r was)))));
    regions = λ c bs e. sym (ap (λ (k : N.Region → Option (List N.Block)). k c) (each_regions ps f)) ∙ e;
    goes = λ x z live. still_there z.0 z.1 z.2;
  }
    where
      -- a pure operation is there as it was
      still_there : (p : N.Op) → IsTrue (implements B f pure_interface p) → replaced.ops p ≡ None → ⊥
      still_there p is_pure gone = by (f.ops p) is_pure (sym (each_ops ps f p) ∙ gone)
        where
          by : (m : Option (OpRecord N W)) → option_map_or (λ (q : OpRecord N W). B.op_impls q.kind pure_interface) m false ≡ true → option_map (on_operands (map (moved ps))) m ≡ None → ⊥
          by None e k = cc
          by (Some r) e k = cc

      stays : (x : Entity N) → IsLive f x → (GoesWithPure B f replaced x → ⊥) → IsLive replaced x
      stays (an_op o) live out = ap is_some (each_ops ps f o) ∙ is_some-map (on_operands (map (moved ps))) (f.ops o) ∙ live
      stays (a_block c) live out = ap (λ (k : N.Block → Option (BlockRecord N W)). is_some (k c)) (each_blocks ps f) ∙ live
      stays (a_region r) live out = ap (λ (k : N.Region → Option (List N.Block)). is_some (k r)) (each_regions ps f) ∙ live

      listed : (c : N.Block) (r : BlockRecord N W) → f.blocks c ≡ Some r → (o : N.Op) → In o r.ops → is_some (replaced.ops o) ≡ true
      listed c r e o h = ap is_some (each_ops ps f o) ∙ is_some-map (on_operands (map (moved ps))) (f.ops o)
          ∙ n.live (an_op o) (a_block c) (subst (λ m. In {A = Entity N} (an_op o) (map an_op (list_of (λ (q : BlockRecord N W). q.ops) m))) (sym e) (In-map {B = Entity N} an_op o r.ops h))

  pub replaced_keeps : {V : Type 0} (gives : Interpretation W V) → ((a : Value N → V) → Consistent B gives a f → (q : Value N × Value N) → In q ps → a q.0 ≡ a q.1) → KeepsMeaning B gives f replaced
  replaced_keeps gives agrees = record { only_pure = replaced_only; values = seen }
    where
      still : (a : Value N → _) → Consistent B gives a f → (xs : List (Operand N)) → map (λ (p : Operand N). a p.value) (map (moved ps) xs) ≡ map (λ (p : Operand N). a p.value) xs
      still a was xs = map_twice (λ (p : Operand N). a p.value) (moved ps) xs ∙ map_same _ _ (moved_value L a ps (agrees a was)) xs

      consistent_at : (a : Value N → _) (was : Consistent B gives a f) (o : N.Op) (q : OpRecord N W) → f.ops o ≡ Some q → (place : ℕ) (d : Definition N W) → IsPlain B (on_operands (map (moved ps)) q) → slice_get q.results place ≡ Some d
          → a (given_by o d) ≡ gives q.kind q.attributes (map (λ (p : Operand N). a p.value) (map (moved ps) q.operands)) (result_types q) place
      consistent_at a was o q e place d plain at =
          was o q place d e (record { is_pure = plain.is_pure; no_regions = plain.no_regions; no_successors = plain.no_successors }) at
          ∙ ap (λ vs. gives q.kind q.attributes vs (result_types q) place) (sym (still a was q.operands))

      seen : (a : Value N → _) → Consistent B gives a f → SeesTheSame B gives f replaced a
      seen a was = record {
        consistent = λ o r place d e. (let was_so = record_was o r e in
            subst (λ (x : OpRecord N W). IsPlain B x → slice_get x.results place ≡ Some d → a (given_by o d) ≡ gives x.kind x.attributes (map (λ (p : Operand N). a p.value) x.operands) (result_types x) place)
            (sym was_so.2) (consistent_at a was o was_so.0 was_so.1 place d));
        values = λ o live. (let at = is_there (replaced.ops o) live in let was_so = record_was o at.0 at.1 in
            ap (λ k. map (λ (p : Operand N). a p.value) (list_of (λ (x : OpRecord N W). x.operands) k)) (at.1 ∙ ap Some was_so.2)
            ∙ still a was was_so.0.operands
            ∙ sym (ap (λ k. map (λ (p : Operand N). a p.value) (list_of (λ (x : OpRecord N W). x.operands) k)) was_so.1));
      }

-- ## One merging

module _ {N : Ids} {W : Dialect} (L : Lawful N) (B : Behaviour W) (same : SameAttributes W) (f : Forest N W) (keys : ℕ) (b : N.Block) (g : Forest N W) (w : WellFormed f keys) (m : MergesOne B same f b g) where
  pub pairs : List (Value N × Value N)
  pairs = zip (values_given f m.later) (values_given f m.earlier)

  listed : In m.earlier (ops_of f b) × In m.later (ops_of f b)
  listed = before_in m.earlier m.later (ops_of f b) m.in_order

  differ : m.earlier ≡ m.later → ⊥
  differ = before_differs m.earlier m.later (ops_of f b) (Distinct-unmap an_op (ops_of f b) (w.nested.once (a_block b))) m.in_order

  -- the first of a pair is given by the later, the second by the earlier
  pub given_so : (q : Value N × Value N) → In q pairs → (q.0.definer ≡ of_op m.later) × (q.1.definer ≡ of_op m.earlier)
  unfolding pairs
  given_so = replaced_given L B same f keys w m.earlier m.later differ m.alike

  between : Forest N W
  between = redirect_results f m.later m.earlier

  between_ops : (o : N.Op) → between.ops o ≡ option_map (on_operands (map (moved pairs))) (f.ops o)
  unfolding pairs between
  between_ops o = each_ops pairs f o

  between_blocks : between.blocks ≡ f.blocks
  unfolding pairs between
  between_blocks = each_blocks pairs f

  between_regions : between.regions ≡ f.regions
  unfolding pairs between
  between_regions = each_regions pairs f

  between_formed : WellFormed between keys
  unfolding between
  between_formed = replaced_formed L B same f keys w m.earlier m.later differ m.alike

  removed : Removes between (an_op m.later) g
  unfolding between
  removed = m.removes

  -- nothing is inside the later one but itself
  alone : (x : Entity N) → Inside between (an_op m.later) x → x ≡ an_op m.later
  unfolding between
  alone = replaced_alone L B same f keys w m.earlier m.later differ m.alike

  op_gone : g.ops m.later ≡ None
  op_gone = removed.ops_inside m.later itself

  regions_whole : (m : Option (OpRecord N W)) (o : N.Op) → option_map (on_regions (but {N = N} (an_op o) a_region)) m ≡ m
  regions_whole None o = refl
  regions_whole (Some r) o = ap (λ rs. Some (record r { regions = rs })) (all_pass (λ x. not (same_entity N (a_region x) (an_op o))) r.regions (λ x h. refl))

  blocks_whole : (m : Option (List N.Block)) (o : N.Op) → option_map (but {N = N} (an_op o) a_block) m ≡ m
  blocks_whole None o = refl
  blocks_whole (Some r) o = ap (λ bs. Some bs) (all_pass (λ x. not (same_entity N (a_block x) (an_op o))) r (λ x h. refl))

  op_left : (o : N.Op) → (o ≡ m.later → ⊥) → g.ops o ≡ option_map (on_operands (map (moved pairs))) (f.ops o)
  op_left o other = removed.ops_outside o (λ v. (let e : an_op o ≡ an_op m.later = alone (an_op o) v in let z : o ≡ m.later = cc in other z)) ∙ regions_whole (between.ops o) m.later ∙ between_ops o

  pub op_case : (o : N.Op) → ((o ≡ m.later) × (N.same_op o m.later ≡ true) × (g.ops o ≡ None)) ⊎ ((o ≡ m.later → ⊥) × (N.same_op o m.later ≡ false) × (g.ops o ≡ option_map (on_operands (map (moved pairs))) (f.ops o)))
  op_case o = by (N.same_op o m.later) refl
    where
      by : (t : Bool) → N.same_op o m.later ≡ t → ((o ≡ m.later) × (N.same_op o m.later ≡ true) × (g.ops o ≡ None)) ⊎ ((o ≡ m.later → ⊥) × (N.same_op o m.later ≡ false) × (g.ops o ≡ option_map (on_operands (map (moved pairs))) (f.ops o)))
      by true e = let one : o ≡ m.later = (L.ops o m.later).0 e in inl (one, e, ap g.ops one ∙ op_gone)
      by false e =
          let other : o ≡ m.later → ⊥ = λ k. (let t : N.same_op o m.later ≡ true = (L.ops o m.later).1 k in let z : true ≡ false = sym t ∙ e in cc) in
          inr (other, e, op_left o other)

  block_left : (c : N.Block) → g.blocks c ≡ option_map (on_ops (filter (λ o. not (N.same_op o m.later)))) (f.blocks c)
  block_left c = removed.blocks_outside c (λ v. (let e : a_block c ≡ an_op m.later = alone (a_block c) v in absurd cc)) ∙ ap (λ (k : N.Block → Option (BlockRecord N W)). option_map (on_ops (filter (λ o. not (N.same_op o m.later)))) (k c)) between_blocks

  region_left : (r : N.Region) → g.regions r ≡ f.regions r
  region_left r = removed.regions_outside r (λ v. (let e : a_region r ≡ an_op m.later = alone (a_region r) v in absurd cc)) ∙ blocks_whole (between.regions r) m.later ∙ ap (λ (k : N.Region → Option (List N.Block)). k r) between_regions

  -- ## Only the later one went

  there : (c : N.Block) (o : N.Op) → In o (ops_of f c) → not (N.same_op o m.later) ≡ is_some (g.ops o)
  there c o h = elim (op_case o) [
    | inl k ↦ ap not k.1 ∙ sym (ap is_some k.2)
    | inr k ↦ ap not k.1 ∙ sym (ap is_some k.2 ∙ is_some-map (on_operands (map (moved pairs))) (f.ops o) ∙ w.nested.live (an_op o) (a_block c) (In-map an_op o (ops_of f c) h))
  ]

  block_was : (c : N.Block) (r : BlockRecord N W) → g.blocks c ≡ Some r → (q : BlockRecord N W) × (f.blocks c ≡ Some q) × (r ≡ on_ops (filter (λ o. is_some (g.ops o))) q)
  block_was c r e = by (f.blocks c) refl (sym e ∙ block_left c)
    where
      by : (k : Option (BlockRecord N W)) → f.blocks c ≡ k → Some r ≡ option_map (on_ops (filter (λ o. not (N.same_op o m.later)))) k → (q : BlockRecord N W) × (f.blocks c ≡ Some q) × (r ≡ on_ops (filter (λ o. is_some (g.ops o))) q)
      by None s t = absurd (none_is_not_some r (sym t))
      by (Some q) s t =
          let lists = filter_same (λ o. not (N.same_op o m.later)) (λ o. is_some (g.ops o)) q.ops (λ o h. there c o (subst (λ k. In o (list_of (λ (x : BlockRecord N W). x.ops) k)) (sym s) h)) in
          (q, s, some_one r (on_ops (filter (λ o. not (N.same_op o m.later))) q) t ∙ ap (λ os. record q { ops = os }) lists)

  -- the record that an operation had
  pub op_was : (o : N.Op) (r : OpRecord N W) → g.ops o ≡ Some r → (q : OpRecord N W) × (f.ops o ≡ Some q) × (r ≡ on_operands (map (moved pairs)) q)
  op_was o r e = elim (op_case o) [
    | inl k ↦ absurd (none_is_not_some r (sym k.2 ∙ e))
    | inr k ↦ by (f.ops o) refl (sym e ∙ k.2)
  ]
    where
      by : (k : Option (OpRecord N W)) → f.ops o ≡ k → Some r ≡ option_map (on_operands (map (moved pairs))) k → (q : OpRecord N W) × (f.ops o ≡ Some q) × (r ≡ on_operands (map (moved pairs)) q)
      by None s t = absurd (none_is_not_some r (sym t))
      by (Some q) s t = (q, s, some_one r (on_operands (map (moved pairs)) q) t)

  same_but_named : (q : OpRecord N W) → SameButNamed q (on_operands (map (moved pairs)) q)
  same_but_named q = record { rest = refl; uses = map_twice (λ (p : Operand N). p.use_number) (moved pairs) q.operands ∙ map_same _ _ (moved_number pairs) q.operands }

  stays : (x : Entity N) → IsLive f x → (x ≡ an_op m.later → ⊥) → IsLive g x
  stays (an_op o) live other = elim (op_case o) [
    | inl k ↦ absurd (other (ap an_op k.0))
    | inr k ↦ ap is_some k.2 ∙ is_some-map (on_operands (map (moved pairs))) (f.ops o) ∙ live
  ]
  stays (a_block c) live other = ap is_some (block_left c) ∙ is_some-map (on_ops (filter (λ o. not (N.same_op o m.later)))) (f.blocks c) ∙ live
  stays (a_region r) live other = ap is_some (region_left r) ∙ live

  is_pure : IsTrue (implements B f pure_interface m.later)
  is_pure = ap (λ k. option_map_or (λ (q : OpRecord N W). B.op_impls q.kind pure_interface) k false) m.alike.other_is ∙ m.alike.other_plain.is_pure

  -- a pure operation that is gone is the later one, in which there is nothing else
  op_went : (p : N.Op) → IsTrue (implements B f pure_interface p) → g.ops p ≡ None → p ≡ m.later
  op_went p pure_one gone = elim (op_case p) [
    | inl k ↦ k.0
    | inr k ↦ by (f.ops p) pure_one (sym k.2 ∙ gone)
  ]
    where
      by : (q : Option (OpRecord N W)) → option_map_or (λ (r : OpRecord N W). B.op_impls r.kind pure_interface) q false ≡ true → option_map (on_operands (map (moved pairs))) q ≡ None → p ≡ m.later
      by None e k = absurd cc
      by (Some r) e k = absurd cc

  alone_before : (x : Entity N) → Inside f (an_op m.later) x → x ≡ an_op m.later
  alone_before x itself = refl
  alone_before x (below {c = c} h v) =
      let k : In x (children f (an_op m.later)) = subst (λ y. In x (children f y)) (alone_before c v) h in
      let rs : regions_of f m.later ≡ [] = ap (list_of (λ (r : OpRecord N W). r.regions)) m.alike.other_is ∙ m.alike.other_plain.no_regions in
      absurd (let n : In x (map a_region []) = subst (λ (l : List N.Region). In x (map {A = N.Region} {B = Entity N} a_region l)) rs k in n)

  gone_with : {p : N.Op} (x : Entity N) → p ≡ m.later → Inside f (an_op p) x → IsLive g x → ⊥
  gone_with x one inside live =
      let is : x ≡ an_op m.later = alone_before x (subst (λ q. Inside f (an_op q) x) one inside) in
      let k : IsLive g (an_op m.later) = subst (IsLive g) is live in
      let no : false ≡ true = sym (ap is_some op_gone) ∙ k in
      cc

  pub only_pure : OnlyPureGo B f g
  only_pure = record {
    stays = λ x live apart. stays x live (λ e. apart (m.later, is_pure, op_gone, subst (λ z. Inside f (an_op m.later) z) (sym e) itself));
    ops = λ o r e. (let was = op_was o r e in (was.0, was.1, subst (SameButNamed was.0) (sym was.2) (same_but_named was.0)));
    blocks = block_was;
    regions = λ c bs e. sym (region_left c) ∙ e;
    goes = λ x z live. gone_with x (op_went z.0 z.1 z.2) z.3 live;
  }

  -- ## The meaning

  module _ {V : Type 0} (gives : Interpretation W V) (respects : Respects W V same gives) (a : Value N → V) (was : Consistent B gives a f) where
    agree_here : (q : Value N × Value N) → In q pairs → a q.0 ≡ a q.1
    unfolding pairs
    agree_here = agree B same f m.earlier m.later m.alike gives respects a was

    seen_still : (ps : List (Operand N)) → map (λ (p : Operand N). a p.value) (map (moved pairs) ps) ≡ map (λ (p : Operand N). a p.value) ps
    seen_still ps = map_twice (λ (p : Operand N). a p.value) (moved pairs) ps ∙ map_same _ _ (moved_value L a pairs agree_here) ps

    consistent_at : (o : N.Op) (q : OpRecord N W) → f.ops o ≡ Some q → (place : ℕ) (d : Definition N W) → IsPlain B (on_operands (map (moved pairs)) q) → slice_get q.results place ≡ Some d
        → a (given_by o d) ≡ gives q.kind q.attributes (map (λ (p : Operand N). a p.value) (map (moved pairs) q.operands)) (result_types q) place
    consistent_at o q e place d plain at =
        was o q place d e (record { is_pure = plain.is_pure; no_regions = plain.no_regions; no_successors = plain.no_successors }) at
        ∙ ap (λ vs. gives q.kind q.attributes vs (result_types q) place) (sym (seen_still q.operands))

    pub sees_the_same : SeesTheSame B gives f g a
    sees_the_same = record {
      consistent = λ o r place d e. (let was_so = op_was o r e in
          subst (λ (x : OpRecord N W). IsPlain B x → slice_get x.results place ≡ Some d → a (given_by o d) ≡ gives x.kind x.attributes (map (λ (p : Operand N). a p.value) x.operands) (result_types x) place)
          (sym was_so.2) (consistent_at o was_so.0 was_so.1 place d));
      values = λ o live. (let at = is_there (g.ops o) live in let was_so = op_was o at.0 at.1 in
          ap (λ k. map (λ (p : Operand N). a p.value) (list_of (λ (x : OpRecord N W). x.operands) k)) (at.1 ∙ ap Some was_so.2)
          ∙ seen_still was_so.0.operands
          ∙ sym (ap (λ k. map (λ (p : Operand N). a p.value) (list_of (λ (x : OpRecord N W). x.operands) k)) was_so.1));
    }

  pub one_keeps_meaning : {V : Type 0} (gives : Interpretation W V) → Respects W V same gives → KeepsMeaning B gives f g
  one_keeps_meaning gives respects = record { only_pure = only_pure; values = sees_the_same gives respects }

  -- ## What is left is well formed

  closed : IsClosed between (an_op m.later)
  unfolding between
  closed = replaced_closed L B same f keys w m.earlier m.later differ m.alike

  pub one_formed : WellFormed g keys
  one_formed = (Removes-kept L between g (an_op m.later) keys between_formed removed [] closed).forest

  -- ## Operands move back

  pub list_left : (c : N.Block) → ops_of g c ≡ filter (λ o. not (N.same_op o m.later)) (ops_of f c)
  list_left c = ap (list_of (λ (r : BlockRecord N W). r.ops)) (block_left c) ∙ by (f.blocks c)
    where
      by : (k : Option (BlockRecord N W)) → list_of (λ (r : BlockRecord N W). r.ops) (option_map (on_ops (filter (λ o. not (N.same_op o m.later)))) k) ≡ filter (λ o. not (N.same_op o m.later)) (list_of (λ (r : BlockRecord N W). r.ops) k)
      by None = refl
      by (Some r) = refl

  one_back : (p : Operand N) → MovesBack f g p (moved pairs p)
  one_back p = elim (moved_case L (of_op m.later) (of_op m.earlier) pairs given_so p) [
    | inl same ↦ inl same
    | inr k ↦ inr ((m.later, k.0, op_gone), (b, m.earlier, m.later, k.1, k.0, m.in_order), moved_number pairs p)
  ]

  all_back : (ps : List (Operand N)) → AllZip (MovesBack f g) ps (map (moved pairs) ps)
  all_back [] = tt
  all_back (p ∷ ps) = (one_back p, all_back ps)

  pub one_moves_back : OperandsMoveBack f g
  one_moves_back o live =
      let at = is_there (g.ops o) live in
      let was_so = op_was o at.0 at.1 in
      subst (λ (k : Option (OpRecord N W)). AllZip (MovesBack f g) (operands_of f o) (list_of (λ (x : OpRecord N W). x.operands) k)) (sym (at.1 ∙ ap Some was_so.2))
      (subst (λ (k : Option (OpRecord N W)). AllZip (MovesBack f g) (list_of (λ (x : OpRecord N W). x.operands) k) (map (moved pairs) was_so.0.operands)) (sym was_so.1) (all_back was_so.0.operands))

-- ## A merging that was broken off

In-take : {A : Type 0} (n : ℕ) (x : A) (xs : List A) → In x (take n xs) → In x xs
In-take zero x xs h = elim h [ ]
In-take (suc n) x [] h = elim h [ ]
In-take (suc n) x (y ∷ xs) (inl e) = inl e
In-take (suc n) x (y ∷ xs) (inr h) = inr (In-take n x xs h)

module _ {N : Ids} {W : Dialect} (L : Lawful N) (B : Behaviour W) (same : SameAttributes W) (f : Forest N W) (keys : ℕ) (b : N.Block) (g : Forest N W) (w : WellFormed f keys) (m : MergesPartly B same f b g) where
  abbrev some_pairs : List (Value N × Value N)
  some_pairs = take m.count (zip (values_given f m.later) (values_given f m.earlier))

  pub partly_formed : WellFormed g keys
  partly_formed = subst (λ h. WellFormed h keys) (sym m.redirects) (each_formed some_pairs f keys w (λ q h. second_live B same f m.earlier m.later m.alike q (In-take m.count q _ h)))

  pub partly_keeps : {V : Type 0} (gives : Interpretation W V) → Respects W V same gives → KeepsMeaning B gives f g
  partly_keeps gives respects = subst (KeepsMeaning B gives f) (sym m.redirects) (replaced_keeps L B f some_pairs w.nested gives
      (λ a was q h. agree B same f m.earlier m.later m.alike gives respects a was q (In-take m.count q _ h)))
