-- What a sweep of all that lies inside a root leaves, and of one block.
use mathlib.Core.Path.{◌≡◌, refl, sym, ap, ◌∙◌, subst, fun_ext}
use Rattle.std.proofs.Common.{ℕ, ◌⊎◌, inl, inr, Bool, true, false, not, cond, Option, Some, None, List, [], ◌∷◌, ◌++◌, map, is_some, IsSome, length, ◌+◌}
use Rattle.std.specs.Prelude.{IsTrue}
use Rattle.std.specs.List.{filter}
use Rattle.std.specs.Option.{option_map, option_map_or}
use Rattle.ir_model.specs.Ids.{Ids}
use Rattle.ir_model.specs.Forest.{Dialect, Behaviour, Entity, an_op, a_block, a_region, OpRecord, BlockRecord, Forest, Operand, Successor, Named, a_value, the_block, owner}
use Rattle.ir_model.specs.Nesting.{In, itself, below, list_of, children, Inside, IsLive, Nested, WellFormed, names_of, ops_of}
use Rattle.ir_model.specs.Changes.{on_ops}
use Rattle.ir_model.specs.BlockGraph.{implements, pure_interface}
use Rattle.ir_model.specs.Dead.{Dead, dead, Sweeps}
use Rattle.ir_model.proofs.Nests.{In-map, In-map_back, In-append, In-left, In-right, Distinct-append, Within-fewer}
use Rattle.std.proofs.lemmas.List.{length-append}
use Rattle.ir_model.proofs.Removal.{length-same}
use Rattle.ir_model_passes.specs.Meaning.{Interpretation, KeepsMeaning}
use Rattle.ir_model_passes.specs.SweepInside as all
use Rattle.ir_model_passes.specs.SweepInside.{DeadInside, GoesAlong, IsSweptInside, SweepsInside, ListedInside, ListsLive, ListsOps, NoneIsClosedInside}
use Rattle.ir_model_passes.proofs.Going.{same_test, TakesOut, keeps_meaning, formed, op_case, Out, child_left, fewer, inside_still, names_still}

-- what isn't true is false
pub not_true : (b : Bool) → (b ≡ true → ⊥) → b ≡ false
not_true true h = absurd (h refl)
not_true false h = refl

-- of finitely many it is not refuted that each is decided
pub decided : {A : Type 0} (P : A → Type 0) (xs : List A) → (((x : A) → In x xs → P x ⊎ (P x → ⊥)) → ⊥) → ⊥
decided P [] refuted = refuted (λ x h. elim h [ ])
decided P (y ∷ xs) refuted = decided P xs (λ rest.
    let never : P y → ⊥ = λ p. refuted (λ x h. elim h [ inl e ↦ inl (subst P (sym e) p) | inr k ↦ rest x k ]) in
    refuted (λ x h. elim h [ inl e ↦ inr (λ p. never (subst P e p)) | inr k ↦ rest x k ]))

module _ {N : Ids} {W : Dialect} (B : Behaviour W) (f : Forest N W) where
  -- ## A sweep of one block

  abbrev pub block_takes : (b : N.Block) (g : Forest N W) (count : ℕ) → Sweeps B f b g count → TakesOut f (Dead B f b) g
  block_takes b g count s = record {
    is_gone = s.is_dead;
    dead_gone = λ o d. (s.decides o).1 d;
    gone_taken = λ o e. (o, (s.decides o).0 e, itself);
    ops_gone = s.ops_gone;
    ops_left = s.ops_left;
    blocks_gone = s.blocks_gone;
    blocks_left = s.blocks_left;
    regions_gone = s.regions_gone;
    regions_left = s.regions_left;
  }

  dead_pure : (b : N.Block) (o : N.Op) → Dead B f b o → IsTrue (implements B f pure_interface o)
  dead_pure b o (dead here is_pure goes) = is_pure

  pub block_keeps_meaning : {V : Type 0} (gives : Interpretation W V) (b : N.Block) (g : Forest N W) (count : ℕ) → Nested f → Sweeps B f b g count → KeepsMeaning B gives f g
  block_keeps_meaning gives b g count n s = keeps_meaning f (Dead B f b) g (block_takes b g count s) B (dead_pure b) n gives

  -- ## A sweep of all inside a root

  module _ (root : Entity N) where
    abbrev D : N.Op → Type 0
    D o = DeadInside B f root o

    abbrev left_by : (Entity N → Bool) → N.Block → Option (BlockRecord N W)
    left_by is_swept c = option_map (on_ops (filter (λ o. not (is_swept (an_op o))))) (f.blocks c)

    not_swept : (g : Forest N W) (count : ℕ) (s : SweepsInside B f root g count) (x : Entity N) → (IsSweptInside B f root x → ⊥) → s.is_swept x ≡ false
    not_swept g count s x out = not_true (s.is_swept x) (λ e. out ((s.decides x).0 e))

    pub all_takes : (g : Forest N W) (count : ℕ) → SweepsInside B f root g count → TakesOut f D g
    all_takes g count s = record {
      is_gone = λ o. s.is_swept (an_op o);
      dead_gone = λ o d. (s.decides (an_op o)).1 (o, d, itself);
      gone_taken = λ o e. (s.decides (an_op o)).0 e;
      ops_gone = λ o w. s.ops o ∙ ap (λ t. cond t None (f.ops o)) ((s.decides (an_op o)).1 w);
      ops_left = λ o out. s.ops o ∙ ap (λ t. cond t None (f.ops o)) (not_swept g count s (an_op o) out);
      blocks_gone = λ c w. s.blocks c ∙ ap (λ t. cond t None (left_by s.is_swept c)) ((s.decides (a_block c)).1 w);
      blocks_left = λ c out. s.blocks c ∙ ap (λ t. cond t None (left_by s.is_swept c)) (not_swept g count s (a_block c) out);
      regions_gone = λ r w. s.regions r ∙ ap (λ t. cond t None (f.regions r)) ((s.decides (a_region r)).1 w);
      regions_left = λ r out. s.regions r ∙ ap (λ t. cond t None (f.regions r)) (not_swept g count s (a_region r) out);
    }

    all_pure : (o : N.Op) → D o → IsTrue (implements B f pure_interface o)
    all_pure o (all.dead here is_pure goes) = is_pure

    pure_live : (p : N.Op) → IsTrue (implements B f pure_interface p) → IsSome (f.ops p)
    pure_live p is_pure = by (f.ops p) is_pure
      where
        by : (m : Option (OpRecord N W)) → option_map_or (λ (q : OpRecord N W). B.op_impls q.kind pure_interface) m false ≡ true → IsSome m
        by None e = (let k : false ≡ true = e in absurd cc)
        by (Some r) e = refl

    -- what names a definition that is swept is swept
    users_swept : (p user : N.Op) (d : Named N) → D p → In d (names_of f user) → Inside f (an_op p) (owner N d) → IsSweptInside B f root (an_op user)
    users_swept p user d (all.dead here is_pure goes) h i = elim (goes user d h i) [
      | all.inside_it v ↦ (p, all.dead here is_pure goes, v)
      | all.inside_dead {p = q} e v ↦ (q, e, v)
    ]

    module _ (g : Forest N W) (count : ℕ) (s : SweepsInside B f root g count) where
      pub all_one_outcome : (h : Forest N W) (other : ℕ) → SweepsInside B f root h other → (h ≡ g) × (other ≡ count)
      all_one_outcome h other t = (
        λ i. record {
          ops = fun_ext (λ o. t.ops o ∙ ap (λ p. cond (p (an_op o)) None (f.ops o)) one_test ∙ sym (s.ops o)) i;
          blocks = fun_ext (λ c. t.blocks c ∙ ap (λ p. cond (p (a_block c)) None (left_by p c)) one_test ∙ sym (s.blocks c)) i;
          regions = fun_ext (λ r. t.regions r ∙ ap (λ p. cond (p (a_region r)) None (f.regions r)) one_test ∙ sym (s.regions r)) i;
        },
        sym t.counted.3 ∙ length-same t.counted.0 s.counted.0 t.counted.1 s.counted.1
            (λ o k. (s.counted.2 o).1 ((t.counted.2 o).0 k)) (λ o k. (t.counted.2 o).1 ((s.counted.2 o).0 k)) ∙ s.counted.3,
      )
        where
          one_test : t.is_swept ≡ s.is_swept
          one_test = fun_ext (λ x. same_test (t.is_swept x) (s.is_swept x) (λ e. (s.decides x).1 ((t.decides x).0 e)) (λ e. (t.decides x).1 ((s.decides x).0 e)))

      pub all_formed : (keys : ℕ) → WellFormed f keys → WellFormed g keys
      all_formed keys w = formed f D g (all_takes g count s) keys w users_swept

      pub all_keeps_meaning : {V : Type 0} (gives : Interpretation W V) → Nested f → KeepsMeaning B gives f g
      all_keeps_meaning gives n = keeps_meaning f D g (all_takes g count s) B all_pure n gives

      -- the operations that were there are those that are there and those that went
      pub all_so_many : (keys : ℕ) → WellFormed f keys → (before after : List N.Op) → ListsOps f before → ListsOps g after → length before ≡ length after + count
      all_so_many keys w before after was now =
          length-same before (after ++ s.counted.0) was.0 (Distinct-append after s.counted.0 now.0 s.counted.1 (λ o h k. gone_then o h ((s.counted.2 o).0 k))) there back
          ∙ length-append after s.counted.0 ∙ ap (λ n. length after + n) s.counted.3
        where
          gone_then : (o : N.Op) → In o after → IsSweptInside B f root (an_op o) → ⊥
          gone_then o h sw = (let k : false ≡ true = sym (ap is_some ((all_takes g count s).ops_gone o sw)) ∙ (now.1 o).0 h in cc)

          there : (o : N.Op) → In o before → In o (after ++ s.counted.0)
          there o h = by (s.is_swept (an_op o)) refl
            where
              by : (t : Bool) → s.is_swept (an_op o) ≡ t → In o (after ++ s.counted.0)
              by true e = In-right o after s.counted.0 ((s.counted.2 o).1 ((s.decides (an_op o)).0 e))
              by false e = In-left o after s.counted.0 ((now.1 o).1 (ap is_some (s.ops o ∙ ap (λ t. cond t None (f.ops o)) e) ∙ (was.1 o).0 h))

          live_swept : (o : N.Op) → IsSweptInside B f root (an_op o) → IsSome (f.ops o)
          live_swept o (p, d, i) = by (an_op o) i refl
            where
              by : (x : Entity N) → Inside f (an_op p) x → x ≡ an_op o → IsSome (f.ops o)
              by x itself e = (let one : p ≡ o = cc in subst (λ z. IsSome (f.ops z)) one (pure_live p (all_pure p d)))
              by x (below {c = c} h v) e = subst (IsLive f) e (w.nested.live x c h)

          was_live : (o : N.Op) → IsSome (g.ops o) → IsSome (f.ops o)
          was_live o h = elim (op_case f D g (all_takes g count s) o) [
            | inl gone ↦ absurd (let k : false ≡ true = sym (ap is_some gone) ∙ h in cc)
            | inr kept ↦ sym (ap is_some kept.1) ∙ h
          ]

          back : (o : N.Op) → In o (after ++ s.counted.0) → In o before
          back o h = elim (In-append o after s.counted.0 h) [
            | inl k ↦ (was.1 o).1 (was_live o ((now.1 o).0 k))
            | inr k ↦ (was.1 o).1 (live_swept o ((s.counted.2 o).0 k))
          ]

      taken : TakesOut f D g
      taken = all_takes g count s

      -- what is listed inside the root was listed there, and is not dead
      listed_was : (o : N.Op) → ListedInside g root o → ListedInside f root o × (D o → ⊥)
      listed_was o (c, inside, here) =
          let left = child_left f D g taken (an_op o) (a_block c) (In-map an_op o (ops_of g c) here) in
          let at = In-map_back an_op (an_op o) (ops_of f c) left.1 in
          let one : o ≡ at.0 = cc in
          ((c, Within-fewer (children f) (children g) (fewer f D g taken) root (a_block c) inside, subst (λ p. In p (ops_of f c)) (sym one) at.1), left.2 o refl)

      names_live : (user : N.Op) (d : Named N) → In d (names_of f user) → IsSome (f.ops user)
      names_live user d = by (f.ops user)
        where
          by : (m : Option (OpRecord N W)) → In d (map (λ (x : Operand N). a_value x.value) (list_of (λ (q : OpRecord N W). q.operands) m) ++ map (λ (x : Successor N). the_block x.block) (list_of (λ (q : OpRecord N W). q.successors) m)) → IsSome m
          by None h = elim h [ ]
          by (Some r) h = refl

      pub all_none_left : (live : List (Entity N)) → ListsLive f live → NoneIsClosedInside B root g
      all_none_left live lists o here is_pure closed = decided (IsSweptInside B f root) live (λ known. was.1 (all.dead was.0 pure_before (goes known)))
        where
          was : ListedInside f root o × (D o → ⊥)
          was = listed_was o here

          pure_before : IsTrue (implements B f pure_interface o)
          pure_before = elim (op_case f D g taken o) [
            | inl gone ↦ absurd (let k : false ≡ true = sym (ap (λ m. option_map_or (λ (q : OpRecord N W). B.op_impls q.kind pure_interface) m false) gone) ∙ is_pure in cc)
            | inr kept ↦ subst (λ m. option_map_or (λ (q : OpRecord N W). B.op_impls q.kind pure_interface) m false ≡ true) kept.1 is_pure
          ]

          goes : ((u : Entity N) → In u live → IsSweptInside B f root u ⊎ (IsSweptInside B f root u → ⊥)) → (user : N.Op) (d : Named N) → In d (names_of f user) → Inside f (an_op o) (owner N d) → GoesAlong B f root o user
          goes known user d named i = elim (known (an_op user) (lists (an_op user) (names_live user d named))) [
            | inl sw ↦ all.inside_dead {p = sw.0} sw.1 sw.2
            | inr out ↦ (
                let stays : Out f D g taken (owner N d) = λ sw. out (users_swept sw.0 user d sw.1 named sw.2) in
                all.inside_it (Within-fewer (children f) (children g) (fewer f D g taken) (an_op o) (an_op user)
                (closed user d (names_still f D g taken user d out named) (inside_still f D g taken (an_op o) (owner N d) i stays))))
          ]
