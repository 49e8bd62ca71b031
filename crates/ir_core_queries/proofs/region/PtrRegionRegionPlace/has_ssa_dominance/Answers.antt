use Rattle.std.proofs.Common.{refl, sym, ◌∙◌, true}
use Rattle.ir_core_records.specs.Meaning.{op_record}
use Rattle.ir_core_context.specs.State.{forest_of}
use Rattle.ir_core_queries.proofs.Dominance.{dominance-asked, dominance-plain}
use Rattle.ir_core_queries.proofs.region.PtrRegionRegionPlace.has_ssa_dominance.Goals as goal
use Rattle.ir_core_records.specs.DialectAnswers.{behaviour_of, kinds_of}

pub returns-then-op_impls : goal.returns-then-op_impls
returns-then-op_impls g c =
    dominance-asked (behaviour_of g.D.Dialects g.D.TypeKey.PartialEq.eq)
    (kinds_of g.D.Dialects g.D.Saved.PartialEq.eq)
    (forest_of c.args.ctx.now) c.args.self.index c.get_parent_op.result.index (op_record c.deref.result.now) c.deref.ensures.found.found c.get_parent_op.ensures.parent c.kind-kind.result c.kind-kind.ensures c.region_ssa_dominance.result
    c.recall_well_formed.ensures.nested (sym c.op_impls.ensures ∙ c.if-op_impls.true) c.find_index_in_parent.result c.find_index_in_parent.ensures c.region_ssa_dominance.ensures

pub returns-else-op_impls : goal.returns-else-op_impls
returns-else-op_impls g c =
    dominance-plain (behaviour_of g.D.Dialects g.D.TypeKey.PartialEq.eq)
    (kinds_of g.D.Dialects g.D.Saved.PartialEq.eq)
    (forest_of c.args.ctx.now) c.args.self.index c.get_parent_op.result.index (op_record c.deref.result.now) c.deref.ensures.found.found c.get_parent_op.ensures.parent c.kind-kind.result c.kind-kind.ensures true
    (sym c.op_impls.ensures ∙ c.if-op_impls.false) refl
