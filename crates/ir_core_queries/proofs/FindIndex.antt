-- What looking for a value or for a use answers.
use Rattle.std.proofs.Common.{◌≡◌, refl, sym, ap, subst, ◌∙◌, ℕ, ◌==◌, ◌↔◌, Bool, true, false, Some, None, slice_get, slice_index_or, ◌<◌, length, position, List, [], ◌∷◌, zero, suc, inl, inr, map, All, Result, Ok, Err, IsTrue, is_ok, arith}
use Rattle.std.specs.Prelude.{IfOk, IsErr}
use Rattle.std.specs.Option.{option_map}
use Rattle.std.proofs.lemmas.Option.{slice_get-map}
use Rattle.ir_model.specs.ContextIds.{context_ids}
use Rattle.ir_model.specs.Forest.{Dialect, of_op, of_block, Forest, a_value, definer_entity, the_block}
use Rattle.ir_model.specs.Nesting.{In, IsLive, numbers_of, operands_of, successors_of}
use Rattle.ir_model.specs.Uses.{IsOperandAt, IsSuccessorAt, IsUse, Use}
use Rattle.ir_model.proofs.Back.{slice_get-in}
use Rattle.ir_model.proofs.Nests.{In-map_back}
use Rattle.ir_base_arenas.specs.Arena.{get}
use Rattle.ir_core_records.specs.declared.record.Definer.{Definer}
use Rattle.ir_core_records.specs.declared.record.Definer.TheVariants.{Op, Block}
use Rattle.ir_core_records.specs.declared.record.ValueIndex.{ValueIndex}
use Rattle.ir_core_records.specs.declared.record.BlockIndex.{BlockIndex}
use Rattle.ir_core_records.specs.declared.record.UseIndex.{UseIndex}
use Rattle.ir_core_records.specs.declared.record.UsePlace.{UsePlace}
use Rattle.ir_core_records.specs.declared.record.Definition.{Definition}
use Rattle.ir_core_records.specs.declared.record.Operation.{Operation}
use Rattle.ir_core_records.specs.Chains.{AreLinked, chains_of}
use Rattle.ir_core_records.specs.Lists.{HaveDistinctUses, in_record}
use Rattle.ir_core_records.specs.declared.records.Records.{Records}
use Rattle.ir_core_records.specs.Meaning.{definer_of, forest_in, use_of, value_of}
use Rattle.ir_core_records.specs.Table.{block_uses_at, definitions_at, operands_at, successors_at, uses_at}
use Rattle.ir_core_records.specs.Values.{IsLiveBlockUse, IsLiveUse}
use Rattle.ir_core_records.specs.Found.{number-found, number-missing}
use Rattle.ir_core_records.specs.KeptUses.{places-differ}
use Rattle.ir_core_records.specs.Meant.{numbers-meant}
use Rattle.ir_core_queries.specs.declared.error.IndexErr.{IndexErr}
use Rattle.ir_core_queries.specs.declared.error.IndexErr.TheVariants.{ValueError as OfValue}
use Rattle.ir_core_queries.specs.declared.error.ValueError.TheVariants.{NotInOpResult, NotInBlockArgument}
use Rattle.ir_core_queries.specs.Values.{LacksArgument, LacksResult, missing_from}
use Rattle.ir_core_queries.proofs.ValueLemmas.{operand-found, operand-missing, operand-use, successor-found, successor-missing, successor-use}

module _ {W : Dialect} (f : Forest context_ids W) where
  -- the answer says that what defines the value lacks it exactly where it does
  pub record TellsLack (v : ValueIndex) (answer : Result ℕ IndexErr) : Type 0 where
    pub no_result : (answer ≡ Err (OfValue NotInOpResult)) ↔ LacksResult f (value_of v)
    pub no_argument : (answer ≡ Err (OfValue NotInBlockArgument)) ↔ LacksArgument f (value_of v)

  pub found-tells : (v : ValueIndex) (i : ℕ) → slice_get (numbers_of f (definer_of v.definer)) i ≡ Some v.number → TellsLack v (Ok i)
  found-tells v i at =
      let here : In v.number (numbers_of f (definer_of v.definer)) = slice_get-in (numbers_of f (definer_of v.definer)) i v.number at in
      record {
        no_result = (λ e. absurd (cc), λ lacks. absurd (lacks.missing here));
        no_argument = (λ e. absurd (cc), λ lacks. absurd (lacks.missing here));
      }

  pub missing-tells : (v : ValueIndex) → IsLive f (definer_entity context_ids (definer_of v.definer)) → (In v.number (numbers_of f (definer_of v.definer)) → ⊥) → TellsLack v (Err (OfValue (missing_from v.definer)))
  missing-tells v live gone = by v.definer live gone
    where
      by : (d : Definer) → IsLive f (definer_entity context_ids (definer_of d)) → (In v.number (numbers_of f (definer_of d)) → ⊥) → TellsLack (record { definer = d; number = v.number }) (Err (OfValue (missing_from d)))
      by (Op o) live gone = record {
        no_result = (λ _. record { op = o; definer = refl; live = live; missing = gone }, λ _. refl);
        no_argument = (λ e. absurd (cc), λ lacks. absurd (let k : of_op o ≡ of_block lacks.block = lacks.definer in cc));
      }
      by (Block b) live gone = record {
        no_result = (λ e. absurd (cc), λ lacks. absurd (let k : of_block b ≡ of_op lacks.op = lacks.definer in cc));
        no_argument = (λ _. record { block = b; definer = refl; live = live; missing = gone }, λ _. refl);
      }

  -- a use whose place is known is a live one
  pub placed-live : (u : Use context_ids) (i : ℕ) → IsOperandAt f u i → IsLiveUse f u
  placed-live u i h = (h.0, slice_get-in (operands_of f u.user) i (record { use_number = u.number; value = h.0 }) h.1)

  pub placed-block-live : (u : Use context_ids) (i : ℕ) → IsSuccessorAt f u i → IsLiveBlockUse f u
  placed-block-live u i h = (h.0, slice_get-in (successors_of f u.user) i (record { use_number = u.number; block = h.0 }) h.1)

-- a look-up that answers exactly where the number is there
pub live-iff : {E : Type 0} (r : Result ℕ E) (ns : List ℕ) (n : ℕ) (b : Bool) → b ≡ is_ok r → IfOk r (λ i. slice_get ns i ≡ Some n) → (IsErr r → In n ns → ⊥) → IsTrue b ↔ In n ns
live-iff (Ok i) ns n b e found missing = (λ h. slice_get-in ns i n found, λ h. e)
live-iff (Err x) ns n b e found missing = (λ h. absurd (let k : true ≡ false = sym h ∙ e in cc), λ h. absurd (missing refl h))

in-images : {A B : Type 0} (f : A → B) (xs : List A) (i : ℕ) (d : A) → i < length xs → In (f (slice_index_or xs i d)) (map f xs)
in-images f [] i d h = absurd (omega arith)
in-images f (x ∷ xs) zero d h = inl refl
in-images f (x ∷ xs) (suc i) d h = inr (in-images f xs i d (omega arith))

-- what holds of each kept use holds of each handle that was made of them
pub each-copied : {A T E : Type 0} (named : A → Use context_ids) (items : T → List A) (kept : List (Use context_ids)) (Q : Use context_ids → Type 0) → ((u : Use context_ids) → In u kept → Q u) → (r : Result T E) → IfOk r (λ x. map named (items x) ≡ kept) → IfOk r (λ x. All (λ a. Q (named a)) (items x))
each-copied named items kept Q each (Ok x) is = λ k d within. each (named (slice_index_or (items x) k d)) (subst (In (named (slice_index_or (items x) k d))) is (in-images named (items x) k d within))
each-copied named items kept Q each (Err e) is = tt

module _ {D A K B S X L : Type 0} (t : Records D A K B S X L) where
  -- a value is found where a definition has its number
  module _ (v : ValueIndex) (ds : List Definition) (same : ds ≡ definitions_at t v.definer) where
    numbers-here : numbers_of (forest_in t) (definer_of v.definer) ≡ map (λ (r : Definition). r.number) ds
    numbers-here = numbers-meant t v.definer ∙ ap (map (λ (r : Definition). r.number)) (sym same)

    pub finds-definition : (i : ℕ) → position (λ (r : Definition). r.number == v.number) ds ≡ Some i → slice_get (numbers_of (forest_in t) (definer_of v.definer)) i ≡ Some v.number
    finds-definition i e =
        let p = number-found (λ (r : Definition). r.number) ds v.number i e in
        ap (λ ns. slice_get ns i) numbers-here ∙ slice_get-map (λ (r : Definition). r.number) ds i ∙ ap (option_map (λ (r : Definition). r.number)) p.1 ∙ ap Some p.2

    pub lacks-definition : position (λ (r : Definition). r.number == v.number) ds ≡ None → In v.number (numbers_of (forest_in t) (definer_of v.definer)) → ⊥
    lacks-definition none h =
        let at = In-map_back (λ (r : Definition). r.number) v.number ds (subst (In v.number) numbers-here h) in
        number-missing (λ (r : Definition). r.number) ds v.number none at.0 at.1 (sym at.2)

  -- a use is found where a place of its user has its number
  module _ (u : UseIndex) (op : Operation D A K B S X L) (at : Some op ≡ get t.ops u.user) where
    operands-here : op.operands ≡ operands_at t u.user
    operands-here = ap (in_record (λ (x : Operation D A K B S X L). x.operands) []) at

    successors-here : op.successors ≡ successors_at t u.user
    successors-here = ap (in_record (λ (x : Operation D A K B S X L). x.successors) []) at

    pub operands-differ : AreLinked (chains_of t) → HaveDistinctUses op.operands
    operands-differ linked = subst HaveDistinctUses (sym operands-here) (places-differ (operands_at t) (uses_at t) linked.values u.user)

    pub successors-differ : AreLinked (chains_of t) → HaveDistinctUses op.successors
    successors-differ linked = subst HaveDistinctUses (sym successors-here) (places-differ (successors_at t) (block_uses_at t) linked.blocks u.user)

    pub finds-operand : (i : ℕ) → position (λ (a : UsePlace ValueIndex). a.number == u.number) op.operands ≡ Some i → IsOperandAt (forest_in t) (use_of u) i
    finds-operand i e = operand-found t u i (ap (position (λ (a : UsePlace ValueIndex). a.number == u.number)) (sym operands-here) ∙ e)

    pub finds-successor : (i : ℕ) → position (λ (a : UsePlace BlockIndex). a.number == u.number) op.successors ≡ Some i → IsSuccessorAt (forest_in t) (use_of u) i
    finds-successor i e = successor-found t u i (ap (position (λ (a : UsePlace BlockIndex). a.number == u.number)) (sym successors-here) ∙ e)

    pub lacks-operand : position (λ (a : UsePlace ValueIndex). a.number == u.number) op.operands ≡ None → IsLiveUse (forest_in t) (use_of u) → ⊥
    lacks-operand none = operand-missing t u (ap (position (λ (a : UsePlace ValueIndex). a.number == u.number)) (sym operands-here) ∙ none)

    pub lacks-successor : position (λ (a : UsePlace BlockIndex). a.number == u.number) op.successors ≡ None → IsLiveBlockUse (forest_in t) (use_of u) → ⊥
    lacks-successor none = successor-missing t u (ap (position (λ (a : UsePlace BlockIndex). a.number == u.number)) (sym successors-here) ∙ none)

    -- what stands there is what the use is of
    pub operand-names : (i : ℕ) (a : UsePlace ValueIndex) → IsOperandAt (forest_in t) (use_of u) i → slice_get op.operands i ≡ Some a → IsUse (forest_in t) (a_value (value_of a.names)) (use_of u)
    operand-names i a placed e = operand-use t u i a placed (ap (λ xs. slice_get xs i) (sym operands-here) ∙ e)

    pub successor-names : (i : ℕ) (a : UsePlace BlockIndex) → IsSuccessorAt (forest_in t) (use_of u) i → slice_get op.successors i ≡ Some a → IsUse (forest_in t) (the_block a.names.index) (use_of u)
    successor-names i a placed e = successor-use t u i a placed (ap (λ xs. slice_get xs i) (sym successors-here) ∙ e)
