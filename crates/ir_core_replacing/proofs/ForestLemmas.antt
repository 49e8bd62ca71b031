-- What it means for the forest that places name another definition.
use Rattle.std.proofs.Common.{◌≡◌, ◌↔◌, map, Bool, true, false, cond, Result, Ok, Err, OnOk, refl, ap}
use Rattle.ir_model.specs.declared.ids.ArenaIndex.{ArenaIndex}
use Rattle.ir_model.specs.ContextIds.{context_ids, same_id}
use Rattle.ir_model.specs.Changes.{redirect, redirected, retarget, retargeted}
use Rattle.ir_model.specs.Forest.{Operand, Successor, same_value}
use Rattle.ir_model.proofs.Redirected.{value_tells}
use Rattle.ir_model.proofs.TwoRuns.{lawful, id_tells}
use Rattle.ir_core_records.specs.Meant.{value-same}
use Rattle.ir_model.specs.Redirect.{redirect_uses, retarget_uses}
use Rattle.ir_model.specs.Uses.{Use}
use Rattle.ir_core_records.specs.declared.record.ValueIndex.{ValueIndex}
use Rattle.ir_core_records.specs.declared.record.BlockIndex.{BlockIndex}
use Rattle.ir_core_records.specs.declared.records.Records.{Records}
use Rattle.ir_core_records.specs.Chains.{names_in}
use Rattle.ir_core_records.specs.Meaning.{forest_in, value_of}
use Rattle.ir_core_records.specs.Table.{operands_at, successors_at, with_operands, with_successors, with_uses, with_block_uses}
use Rattle.ir_core_chains.specs.Chain.{Rewrites}
use Rattle.ir_core_chains.specs.Meanings.{operand_named, successor_named, operands-kind, successors-kind, forest-mapped}
use Rattle.ir_core_replacing.specs.Renamed.{renamed, named_by}

-- what follows from a clause of one outcome
pub ok_by : {T E : Type 0} {P Q : Type 0} (r : Result T E) → (P → Q) → OnOk r P → OnOk r Q
ok_by (Ok x) f p = f p
ok_by (Err e) f p = tt

of-either : {A B : Type 0} (f : A → B) (b : Bool) (x y : A) → f (cond b x y) ≡ cond b (f x) (f y)
of-either f true x y = refl
of-either f false x y = refl

module _ {D A K B S X L : Type 0} (t s : Records D A K B S X L) where
  pub values_redirected : (among : Use context_ids → Bool) (to : ValueIndex) → Rewrites with_operands with_uses t s → ((o : ArenaIndex) → names_in (operands_at s o) ≡ map (renamed among to o) (names_in (operands_at t o)))
      → forest_in s ≡ redirect_uses (forest_in t) among (value_of to)
  values_redirected among to w names =
      forest-mapped operands-kind (renamed among to) (λ o. λ (a : Operand context_ids). cond (among (record { user = o; number = a.use_number })) (record a { value = value_of to }) a)
      (λ o n. of-either operand_named (among (record { user = o; number = n.0 })) (n.0, to) n) t s w names

  pub blocks_redirected : (among : Use context_ids → Bool) (to : BlockIndex) → Rewrites with_successors with_block_uses t s → ((o : ArenaIndex) → names_in (successors_at s o) ≡ map (renamed among to o) (names_in (successors_at t o)))
      → forest_in s ≡ retarget_uses (forest_in t) among to.index
  blocks_redirected among to w names =
      forest-mapped successors-kind (renamed among to) (λ o. λ (a : Successor context_ids). cond (among (record { user = o; number = a.use_number })) (record a { block = to.index }) a)
      (λ o n. of-either successor_named (among (record { user = o; number = n.0 })) (n.0, to) n) t s w names

  -- all that names the first value
  pub values_replaced : (from to : ValueIndex) → Rewrites with_operands with_uses t s → ((passes : ValueIndex → Bool) → ((v : ValueIndex) → (passes v ≡ true) ↔ (v ≡ from)) → (o : ArenaIndex) → names_in (operands_at s o) ≡ map (named_by passes to) (names_in (operands_at t o)))
      → forest_in s ≡ redirect (forest_in t) (value_of from) (value_of to)
  values_replaced from to w names =
      let is : ValueIndex → Bool = λ v. same_value context_ids (value_of v) (value_of from) in
      let tells = λ (v : ValueIndex). value_tells lawful (value_of v) (value_of from) in
      forest-mapped operands-kind (λ o. named_by is to) (λ o. redirected (value_of from) (value_of to))
      (λ o n. of-either operand_named (is n.1) (n.0, to) n) t s w
      (names is (λ v. (λ h. value-same v from ((tells v).0 h), λ e. (tells v).1 (ap value_of e))))

  pub blocks_replaced : (from to : BlockIndex) → Rewrites with_successors with_block_uses t s → ((passes : BlockIndex → Bool) → ((b : BlockIndex) → (passes b ≡ true) ↔ (b ≡ from)) → (o : ArenaIndex) → names_in (successors_at s o) ≡ map (named_by passes to) (names_in (successors_at t o)))
      → forest_in s ≡ retarget (forest_in t) from.index to.index
  blocks_replaced from to w names =
      let is : BlockIndex → Bool = λ b. same_id b.index from.index in
      let tells = λ (b : BlockIndex). id_tells b.index from.index in
      forest-mapped successors-kind (λ o. named_by is to) (λ o. retargeted from.index to.index)
      (λ o n. of-either successor_named (is n.1) (n.0, to) n) t s w
      (names is (λ b. (λ h. same_block b from ((tells b).0 h), λ e. (tells b).1 (ap (λ (x : BlockIndex). x.index) e))))
    where
      same_block : (b c : BlockIndex) → b.index ≡ c.index → b ≡ c
      same_block b c e = λ i. record { index = e i }
