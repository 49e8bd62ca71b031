-- The facts of the examples of own checks.
use mathlib.Core.Path.{◌≡◌, refl, sym, ap, ◌∙◌, subst}
use Rattle.std.proofs.Common.{ℕ, ◌≢◌, inl, inr, Bool, true, false, cond, Some, None, List, [], ◌∷◌, length, slice_get, arith}
use Rattle.ir_model.specs.declared.ids.ArenaIndex.{ArenaIndex}
use Rattle.ir_model.specs.ContextIds.{context_ids, same_id}
use Rattle.ir_model.specs.Forest.{Definer, of_op, of_block, Definition, Entity, an_op, a_block, Operand, OpRecord, a_value, definer_entity}
use Rattle.ir_model.specs.Nesting.{In, Inside, itself, below, children, definitions_of, list_of}
use Rattle.ir_model.specs.Edits.{State, StoredType, The}
use Rattle.ir_model.specs.Uses.{IsUse, AreUses}
use Rattle.ir_model.specs.Faults.{Fault, Check, op_list, op_own, attr_list, attr_own, type_list, type_own, IsRun, the_entity, NoParent, MissingTerminator, TerminatorNotLast, EntryHasPred, OperandNotUseOfDef, Verifier, CountsType}
use Rattle.ir_model.specs.IdForests.{first}
use Rattle.ir_model.specs.OwnCheckRows.{WidthOrName, an_int, a_name, with_types, types_behaviour, own_checks, own_code, StandsAtFirst, width, its_result, with_result, one_op, TypeFault, of_itself, OwnCheck}
use Rattle.ir_model.proofs.Found.{held, nothing}

module _ (n : ℕ) (types : List ℕ) (kind : ℕ) (operands : List (Operand context_ids)) where
  abbrev S : State context_ids with_types
  S = one_op (width n ∷ []) types kind operands

  -- the operation has nothing inside but itself
  only_it : (x : Entity context_ids) → Inside S.forest (an_op first) x → x ≡ an_op first
  only_it x itself = refl
  only_it x (below {c = c} h w) = absurd (let k : In x [] = subst (λ y. In x (children S.forest y)) (only_it c w) h in k)

  no_block : (b : ArenaIndex) → Inside S.forest (an_op first) (a_block b) → ⊥
  no_block b h = let e = only_it (a_block b) h in cc

  -- the only type is that of this width
  its_type : (key : WidthOrName) → CountsType types_behaviour S.forest S.store (the_entity (an_op first)) key → key ≡ an_int n
  its_type key h = by h.0 (only_it (definer_entity context_ids h.0) h.2) h.3 h.4
    where
      by : (d : Definer context_ids) → definer_entity context_ids d ≡ an_op first → In h.1 (definitions_of S.forest d) → The (slice_get S.store h.1.ty) (λ (t : StoredType with_types). t.key ≡ key) → key ≡ an_int n
      by (of_block b) e i k = absurd cc
      by (of_op o) e i k =
          let o_is : o ≡ first = cc in
          let i' : In h.1 (record { number = 0; ty = 0; name = None } ∷ []) = subst (λ p. In h.1 (definitions_of S.forest (of_op p))) o_is i in
          let x_is : h.1 ≡ record { number = 0; ty = 0; name = None } = elim i' [ inl s ↦ s | inr z ↦ elim z [ ] ] in
          let k' : The (Some (width n)) (λ (t : StoredType with_types). t.key ≡ key) = subst (λ (x : Definition context_ids with_types). The (slice_get S.store x.ty) (λ (t : StoredType with_types). t.key ≡ key)) x_is k in
          sym (held (width n) k')

  -- which fault can stand
  pub data CanStand (fault : Fault) : Type 0 where
    by_type : n ≡ 0 → fault ≡ Verifier 1 → CanStand fault
    by_op : kind ≡ 1 → length operands ≢ 2 → fault ≡ Verifier 2 → CanStand fault

  pub can_stand : (fault : Fault) → StandsAtFirst S fault → CanStand fault
  can_stand (NoParent name) h = absurd (no_block h.0 h.1)
  can_stand (MissingTerminator name) h = absurd (no_block h.0 h.1)
  can_stand (EntryHasPred name) h = absurd (no_block h.0 h.1)
  can_stand OperandNotUseOfDef h = absurd (no_block h.0 h.1)
  can_stand (TerminatorNotLast name) h = absurd h.4
  can_stand (Verifier code) h = by h.0 h.1 h.2
    where
      by : (c : Check with_types) → IsRun types_behaviour S.forest S.store (own_checks S.forest) (the_entity (an_op first)) c → own_code S.forest c code → CanStand (Verifier code)
      by (type_own (an_int w)) (inl run) st = let e : an_int w ≡ an_int n = its_type (an_int w) run in let m : w ≡ n = cc in by_type (sym m ∙ st.0) (ap Verifier st.1)
      by (type_own (an_int w)) (inr run) st = absurd run
      by (type_own (a_name t)) run st = absurd st
      by (op_own o) run st =
          let e = only_it (an_op o) run in
          let o_is : o ≡ first = cc in
          let st' : The (Some (with_result kind operands)) (λ r. (r.kind ≡ 1) × (length r.operands ≢ 2) × (code ≡ 2)) = subst (λ p. own_code S.forest (op_own p) code) o_is st in
          let is = held (with_result kind operands) st' in
          by_op is.0 is.1 (ap Verifier is.2)
      by (op_list m o) run st = absurd st
      by (attr_list m a) run st = absurd st
      by (attr_own a) run st = absurd st
      by (type_list m k) run st = absurd st

-- no operation has operands, or names the result
unused_at : (o : ArenaIndex) (kind : ℕ) (store : List (StoredType with_types)) (types : List ℕ) (u : ℕ) → IsUse (one_op store types kind []).forest (a_value its_result) (record { user = o; number = u }) → ⊥
unused_at o kind store types u = by (same_id o first)
  where
    by : (b : Bool) → In (record { use_number = u; value = its_result }) (list_of (λ (r : OpRecord context_ids with_types). r.operands) (cond b (Some (with_result kind [])) None)) → ⊥
    by true h = h
    by false h = h

none_use : (store : List (StoredType with_types)) (types : List ℕ) (kind : ℕ) → AreUses (one_op store types kind []).forest (a_value its_result) []
none_use store types kind = record { once = tt; exact = λ u. (λ h. elim h [ ], λ h. unused_at u.user kind store types u.number h) }

-- a type of the operation is at fault by its own check, and so is the operation
type_stands : StandsAtFirst (one_op (width 0 ∷ []) (0 ∷ 0 ∷ []) 0 []) (Verifier 1)
type_stands = (type_own (an_int 0), inl (of_op first, record { number = 0; ty = 0; name = None }, itself, inl refl, record { value = _; found = refl; holds = refl }), (refl, refl))

op_stands : (operands : List (Operand context_ids)) → length operands ≢ 2 → StandsAtFirst (one_op (width 32 ∷ []) (0 ∷ []) 1 operands) (Verifier 2)
op_stands operands few = (op_own first, itself, record { value = _; found = refl; holds = (refl, few, refl) })

pub type_fault : TypeFault
type_fault = record {
  type_made = λ new. refl;
  type_answer = refl;
  again_made = λ new. refl;
  again_answer = refl;
  op_made = record { value = first; found = refl; holds = refl };
  op_answer = refl;
  stands = type_stands;
  alone = λ fault h. (elim (can_stand 0 (0 ∷ 0 ∷ []) 0 [] fault h) [ by_type z e ↦ e | by_op k few e ↦ absurd (omega (arith, k)) ]);
  unused = none_use (width 0 ∷ []) (0 ∷ 0 ∷ []) 0;
  not_stored_twice = λ new c. (let n : 2 ≡ 1 = ap (λ (s : State context_ids with_types). length s.store) c in omega (arith, n));
  other_type = λ new. refl;
  not_with_a_width = λ fault h. (elim (can_stand 32 (0 ∷ 0 ∷ []) 0 [] fault h) [ by_type z e ↦ omega (arith, z) | by_op k few e ↦ omega (arith, k) ]);
}

pub own_check : OwnCheck
own_check = record {
  type_made = λ new. refl;
  type_answer = refl;
  op_made = record { value = first; found = refl; holds = refl };
  op_answer = refl;
  stands = op_stands [] (λ e. omega (arith, e));
  alone = λ fault h. (elim (can_stand 32 (0 ∷ []) 1 [] fault h) [ by_type z e ↦ absurd (omega (arith, z)) | by_op k few e ↦ e ]);
  unused = none_use (width 32 ∷ []) (0 ∷ []) 1;
  no_tenth = λ c. nothing c;
  not_of_another_kind = λ fault h. (elim (can_stand 32 (0 ∷ []) 0 [] fault h) [ by_type z e ↦ omega (arith, z) | by_op k few e ↦ omega (arith, k) ]);
  not_with_two = λ fault h. (elim (can_stand 32 (0 ∷ []) 1 of_itself fault h) [ by_type z e ↦ omega (arith, z) | by_op k few e ↦ few refl ]);
  stands_with_one = op_stands _ (λ e. omega (arith, e));
}
