use Rattle.std.proofs.Common.{◌≡◌, sym, subst, inl, inr, map}
use Rattle.ir_model.specs.declared.ids.ArenaIndex.{ArenaIndex}
use Rattle.ir_model.specs.ContextIds.{context_ids}
use Rattle.ir_model.specs.Forest.{Entity, an_op}
use Rattle.ir_model.specs.Nesting.{In}
use Rattle.ir_core_queries.specs.Entities.{meant}
use Rattle.ir_rewrite.proofs.Lists.{in_longer}
use Rattle.ir_rewrite.proofs.worklist.push_op.Goals as goal

same_op : (p q : ArenaIndex) → ◌≡◌ {A = Entity context_ids} (an_op p) (an_op q) → q ≡ p
same_op p q e = cc

pub returns-in_ok-push-in-Op-clause-noted : goal.returns-in_ok-push-in-Op-clause-noted
returns-in_ok-push-in-Op-clause-noted g c = λ o h.
    subst (λ xs. In o (map (λ p. p.index) xs)) (sym c.in_ok-push-in-Op.ensures.items)
    (in_longer (λ p. p.index) o c.args.ops.now.items c.in-Op.op
    (elim h [ inl k ↦ inl k | inr e ↦ inr (same_op c.in-Op.op.index o (subst (λ z. meant z ≡ an_op o) c.in-Op.is e)) ]))
