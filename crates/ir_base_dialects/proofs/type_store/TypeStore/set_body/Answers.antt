use Rattle.std.proofs.Common.{sym, subst}
use Rattle.std.specs.List.{IsDistinct}
use Rattle.std.specs.Map.{keys_of}
use Rattle.ir_base_dialects.proofs.StoreLemmas.{IsDistinct-with_value_at}
use Rattle.ir_base_dialects.proofs.type_store.TypeStore.set_body.Goals as goal
use Rattle.ir_base_dialects.proofs.type_store.TypeStore.set_body.Goals.{in-Some, in_default}

pub invariant_of-self : goal.invariant_of-self
invariant_of-self g c =
    elim c.match-get_index_mut.branch [
      | in-Some w ↦ subst (λ s. IsDistinct g.K.PartialEq.eq (keys_of s.pairs.entries)) (sym w.self-inside-is) (IsDistinct-with_value_at g.K.PartialEq.eq g.met.K.Eq.laws c.self.inside.pairs c.args.place c.args.body c.self.invariant)
      | in_default w ↦ subst (λ s. IsDistinct g.K.PartialEq.eq (keys_of s.pairs.entries)) (sym w.self-inside-is) c.self.invariant
    ]
