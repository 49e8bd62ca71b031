-- The type of a live value is the one that is found by its number.
use Rattle.std.proofs.Common.{◌≡◌, ◌≢◌, ◌∙◌, ℕ, ◌<◌, Bool, true, false, cond, List, [], ◌∷◌, map, length, All, Option, Some, None, find, refl, sym, ap, subst, inl, inr, slice_get, nat_eq}
use Rattle.std.specs.Option.{option_map, option_map_or}
use Rattle.std.specs.List.{AllZip}
use Rattle.std.proofs.lemmas.Bool.{eq-eqb}
use Rattle.std.proofs.lemmas.Bool.Decides.{eqb_tells}
use Rattle.std.proofs.lemmas.Option.{same_Some, slice_get-map}
use Rattle.ir_model.specs.ContextIds.{context_ids}
use Rattle.ir_model.specs.Forest.{Dialect, Definition as Plain, Forest, Operand, Value, a_value}
use Rattle.ir_model.specs.Ids.{Distinct}
use Rattle.ir_model.specs.Nesting.{In, IsLiveNamed, WellFormed, definitions_of}
use Rattle.ir_model.proofs.Nests.{In-map, In-map_back, not_in-Absent}
use Rattle.ir_core_records.specs.declared.record.BasicBlock.{BasicBlock}
use Rattle.ir_core_records.specs.declared.record.Definition.{Definition}
use Rattle.ir_core_records.specs.declared.record.Operation.{Operation}
use Rattle.ir_core_records.specs.declared.record.UsePlace.{UsePlace}
use Rattle.ir_core_records.specs.declared.record.ValueIndex.{ValueIndex}
use Rattle.ir_core_records.specs.Meaning.{closed, block_record, definition_of, op_record, operand_of, value_of}
use Rattle.ir_core_queries.specs.Values.{IsOfType}
use Rattle.ir_view_parts.specs.Parts.{OperandsAreLive, argument_types_of}
use Rattle.ir_view_parts.specs.Types.{operand_types_of, type_of}
use Rattle.ir_view_parts.proofs.Items.{all-mapped, zip-mapped}

-- a result or an argument, as the forest has it
abbrev Defined : Dialect → Type 0
Defined W = Plain context_ids W

module _ {W : Dialect} where
  -- where numbers stand once, the item with a number is found by it
  found : (ds : List (Defined W)) (d : Defined W) → Distinct (map (λ (x : Defined W). x.number) ds) → In d ds → option_map_or (λ (x : Defined W). x.ty) (find (λ (x : Defined W). nat_eq x.number d.number) ds) 0 ≡ d.ty
  found [] d once h = absurd h
  found (x ∷ xs) d once (inl e) =
      ap (λ b. option_map_or (λ (y : Defined W). y.ty) (cond b (Some x) (find (λ (y : Defined W). nat_eq y.number d.number) xs)) 0) (eq-eqb x.number d.number (ap (λ (y : Defined W). y.number) (sym e)))
      ∙ ap (λ (y : Defined W). y.ty) (sym e)
  found (x ∷ xs) d once (inr h) = elim (eqb_tells x.number d.number) [
    | inl same ↦ absurd (not_in-Absent x.number (map (λ (y : Defined W). y.number) xs) once.0 (subst (λ n. In n (map (λ (y : Defined W). y.number) xs)) (sym same.1) (In-map (λ (y : Defined W). y.number) d xs h)))
    | inr other ↦
        ap (λ b. option_map_or (λ (y : Defined W). y.ty) (cond b (Some x) (find (λ (y : Defined W). nat_eq y.number d.number) xs)) 0) other.0
        ∙ found xs d once.1 h
  ]

  module _ (f : Forest context_ids W) (keys : ℕ) (formed : WellFormed f keys) where
    -- what has a type has the one that is found
    pub type-found : (v : Value context_ids) (t : ℕ) → IsOfType f v t → type_of f v ≡ t
    type-found v t has =
        ap (λ n. option_map_or (λ (x : Defined W). x.ty) (find (λ (x : Defined W). nat_eq x.number n) (definitions_of f v.definer)) 0) (sym has.number)
        ∙ found (definitions_of f v.definer) has.definition (formed.numbers_once v.definer) has.defined
        ∙ has.is

    -- a live value has the type that is found
    pub type-live : (v : Value context_ids) → IsLiveNamed f (a_value v) → IsOfType f v (type_of f v)
    type-live v live =
        let at = In-map_back (λ (x : Defined W). x.number) v.number (definitions_of f v.definer) live in
        let has : IsOfType f v at.0.ty = record { definition = at.0; defined = at.1; number = sym at.2; is = refl } in
        subst (IsOfType f v) (sym (type-found v at.0.ty has)) has

    -- and that is known
    pub type-known : (v : Value context_ids) (t : ℕ) → IsOfType f v t → t < keys
    type-known v t has = formed.known v.definer t (subst (λ n. In n (map (λ (x : Defined W). x.ty) (definitions_of f v.definer))) has.is (In-map (λ (x : Defined W). x.ty) has.definition (definitions_of f v.definer) has.defined))

module _ {D A K B S X L : Type 0} where
  -- the type of an operand, read where the operand stands
  pub operand-type-at : (f : Forest context_ids (closed A K B S X L)) (op : Operation D A K B S X L) (k : ℕ) (v : Value context_ids) (t : ℕ)
      → option_map (λ (x : Operand context_ids). x.value) (slice_get (op_record op).operands k) ≡ Some v → type_of f v ≡ t → slice_get (operand_types_of f op) k ≡ Some t
  operand-type-at f op k v t e is = slice_get-map (λ (x : Operand context_ids). type_of f x.value) (op_record op).operands k ∙ by (slice_get (op_record op).operands k) e
    where
      by : (a : Option (Operand context_ids)) → option_map (λ (x : Operand context_ids). x.value) a ≡ Some v → option_map (λ (x : Operand context_ids). type_of f x.value) a ≡ Some t
      by None e = absurd cc
      by (Some x) e = ap Some (ap (type_of f) (same_Some _ _ e) ∙ is)

  -- the type of an argument, read where the argument stands
  pub argument-type-at : (b : BasicBlock D A K B S X L) (k : ℕ) (d : Definition) (t : ℕ) → slice_get b.arguments k ≡ Some d → t ≡ d.ty → slice_get (argument_types_of b) k ≡ Some t
  argument-type-at b k d t e is =
      slice_get-map (λ (x : Plain context_ids (closed A K B S X L)). x.ty) (block_record [] b).arguments k
      ∙ ap (option_map (λ (x : Plain context_ids (closed A K B S X L)). x.ty)) (slice_get-map definition_of b.arguments k ∙ ap (option_map definition_of) e)
      ∙ ap Some (sym is)

module _ {D A K B S X L : Type 0} (f : Forest context_ids (closed A K B S X L)) (keys : ℕ) (formed : WellFormed f keys) (op : Operation D A K B S X L) (live : OperandsAreLive f op) where
  -- each operand's type, where its operands name what is live
  operand-type : (k : ℕ) (a : UsePlace ValueIndex) → slice_get op.operands k ≡ Some a → IsOfType f (value_of a.names) (type_of f (value_of a.names))
  operand-type k a e = type-live f keys formed (value_of a.names) (live a.names k (ap (option_map (λ (x : Operand context_ids). x.value)) (slice_get-map operand_of op.operands k ∙ ap (option_map operand_of) e)))

  -- the values that operands name, one by one
  types-named : (xs : List (UsePlace ValueIndex)) → map (λ (a : Operand context_ids). type_of f a.value) (map operand_of xs) ≡ map (λ (a : UsePlace ValueIndex). type_of f (value_of a.names)) xs
  types-named [] = refl
  types-named (x ∷ xs) = ap (λ ts. type_of f (value_of x.names) ∷ ts) (types-named xs)

  pub operand-types : (result : List ℕ) → result ≡ operand_types_of f op → AllZip (λ a t. IsOfType f a.value t) (op_record op).operands result
  operand-types result is =
      let R : Operand context_ids → ℕ → Type 0 = λ a t. IsOfType f a.value t in
      subst (AllZip R (op_record op).operands) (sym (is ∙ types-named op.operands)) (zip-mapped R operand_of (λ (a : UsePlace ValueIndex). type_of f (value_of a.names)) op.operands operand-type)

  pub operand-types-known : (result : List ℕ) → result ≡ operand_types_of f op → All (λ t. t < keys) result
  operand-types-known result is =
      subst (All (λ t. t < keys)) (sym (is ∙ types-named op.operands)) (all-mapped (λ t. t < keys) (λ (a : UsePlace ValueIndex). type_of f (value_of a.names)) op.operands
      (λ k a e. type-known f keys formed (value_of a.names) (type_of f (value_of a.names)) (operand-type k a e)))
