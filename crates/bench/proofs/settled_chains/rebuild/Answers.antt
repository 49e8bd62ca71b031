use Rattle.std.proofs.Common.{◌<◌, ◌∙◌, arith, length}
use Rattle.ir_base.specs.Model.Forest.{a_value, an_op}
use Rattle.ir_base.specs.Model.Nesting.{IsLiveNamed}
use Rattle.ir_core.specs.Records.Meaning.{value_of}
use Rattle.ir_core.specs.Context.State.{forest_of}
use Rattle.bench.proofs.Placing.{both_hold}
use Rattle.bench.proofs.Rebuilding.{defined_by, link_operands, link_results, links_left, new_op_beside, old_closed, one_result, others_stand, standing_live}
use Rattle.bench.proofs.settled_chains.rebuild.Goals as goal

pub deref-record-requires : goal.deref-record-requires
deref-record-requires g c = standing_live (forest_of c.args.ctx.now) c.recall_well_formed.ensures.nested c.args.old.index c.args.block.index c.requires.stands

pub get_result-old_value-requires : goal.get_result-old_value-requires
get_result-old_value-requires g c = let k = link_results (forest_of c.args.ctx.now) c.args.old.index _ c.deref-record.ensures.found.found c.requires.link in omega (arith, k)

pub get_operand-first-requires : goal.get_operand-first-requires
get_operand-first-requires g c = let k = link_operands (forest_of c.args.ctx.now) c.args.old.index _ c.deref-record.ensures.found.found c.requires.link in omega (arith, k)

pub get_operand-second-requires : goal.get_operand-second-requires
get_operand-second-requires g c = let k = link_operands (forest_of c.args.ctx.now) c.args.old.index _ c.deref-record.ensures.found.found c.requires.link in omega (arith, k)

pub new-requires-clause-operands : goal.new-requires-clause-operands
new-requires-clause-operands g c =
    both_hold c.get_operand-first.result c.get_operand-second.result (λ v. IsLiveNamed (forest_of c.args.ctx.now) (a_value (value_of v.index)))
    (c.deref-record.ensures.leads.operands c.get_operand-first.result.index 0 c.get_operand-first.ensures)
    (c.deref-record.ensures.leads.operands c.get_operand-second.result.index 1 c.get_operand-second.ensures)

pub replace_all_uses_with-requires-clause-other_live : goal.replace_all_uses_with-requires-clause-other_live
replace_all_uses_with-requires-clause-other_live g c =
    c.insert_after.ensures.keeps.stay_live (a_value (value_of c.get_result-new_value.result.index)) (c.deref.ensures.leads.results c.get_result-new_value.result.index 0 c.get_result-new_value.ensures.definer c.get_result-new_value.ensures.number)

pub returns-clause-types : goal.returns-clause-types
returns-clause-types g c = c.erase.ensures.rest.store ∙ c.in_ok-replace_all_uses_with.ensures.keeps.types_stay ∙ c.insert_after.ensures.keeps.types_stay ∙ c.in_ok-new.ensures.keeps.types_stay

pub deref-requires : goal.deref-requires
deref-requires g c = c.in_ok-new.ensures.live

pub get_result-new_value-requires : goal.get_result-new_value-requires
get_result-new_value-requires g c = one_result (forest_of c.new.new.ctx) c.in_ok-new.new.index _ _ _ _ c.deref.ensures.found.found c.in_ok-new.ensures.counts

pub insert_after-requires-clause-live : goal.insert_after-requires-clause-live
insert_after-requires-clause-live g c = c.in_ok-new.ensures.live

pub insert_after-requires-clause-may_go : goal.insert_after-requires-clause-may_go
insert_after-requires-clause-may_go g c = new_op_beside _ _ _ c.recall_live_was_made.ensures _ _ _ _ _ c.in_ok-new.ensures.made c.recall_well_formed.ensures.nested c.args.old.index c.args.block.index c.requires.stands

pub replace_all_uses_with-requires-clause-live : goal.replace_all_uses_with-requires-clause-live
replace_all_uses_with-requires-clause-live g c =
    let v = a_value (value_of c.get_result-old_value.result.index) in
    c.insert_after.ensures.keeps.stay_live v (c.in_ok-new.ensures.keeps.stay_live v (c.deref-record.ensures.leads.results c.get_result-old_value.result.index 0 c.get_result-old_value.ensures.definer c.get_result-old_value.ensures.number))

pub erase-requires-clause-live : goal.erase-requires-clause-live
erase-requires-clause-live g c =
    let o = an_op c.args.old.index in
    c.in_ok-replace_all_uses_with.ensures.keeps.entities_stay_live o (c.insert_after.ensures.keeps.entities_stay_live o (c.in_ok-new.ensures.keeps.entities_stay_live o (standing_live (forest_of c.args.ctx.now) c.recall_well_formed.ensures.nested c.args.old.index c.args.block.index c.requires.stands)))

pub erase-requires-clause-closed : goal.erase-requires-clause-closed
erase-requires-clause-closed g c =
    let v = a_value (value_of c.get_result-old_value.result.index) in
    old_closed _ _ _ c.recall_live_was_made.ensures _ _ _ _ _ c.in_ok-new.ensures.made 0 c.in_ok-new.ensures.counts
    (forest_of c.insert_after.new.ctx) (forest_of c.replace_all_uses_with.new.ctx) c.args.old.index (value_of c.get_result-old_value.result.index) (value_of c.get_result-new_value.result.index)
    c.insert_after.ensures.forest c.in_ok-replace_all_uses_with.ensures.forest c.requires.link
    (standing_live (forest_of c.args.ctx.now) c.recall_well_formed.ensures.nested c.args.old.index c.args.block.index c.requires.stands)
    (defined_by c.get_result-old_value.result.index _ c.args.old.index c.get_result-old_value.ensures.definer c.deref-record.ensures.found.own)
    (defined_by c.get_result-new_value.result.index _ c.in_ok-new.new.index c.get_result-new_value.ensures.definer c.deref.ensures.found.own)
    _ c.recall_well_formed-2.ensures
    (c.in_ok-replace_all_uses_with.ensures.keeps.stay_live v (c.insert_after.ensures.keeps.stay_live v (c.in_ok-new.ensures.keeps.stay_live v (c.deref-record.ensures.leads.results c.get_result-old_value.result.index 0 c.get_result-old_value.ensures.definer c.get_result-old_value.ensures.number))))
    c.in_ok-replace_all_uses_with.ensures.counts

pub returns-clause-others : goal.returns-clause-others
returns-clause-others g c =
    others_stand _ _ _ c.recall_live_was_made.ensures _ _ _ _ _ c.in_ok-new.ensures.made 0 c.in_ok-new.ensures.counts
    (forest_of c.insert_after.new.ctx) (forest_of c.replace_all_uses_with.new.ctx) c.args.old.index (value_of c.get_result-old_value.result.index) (value_of c.get_result-new_value.result.index)
    c.insert_after.ensures.forest c.in_ok-replace_all_uses_with.ensures.forest c.requires.link (forest_of c.erase.new.ctx) c.erase.ensures.forest c.args.block.index

pub returns-clause-links : goal.returns-clause-links
returns-clause-links g c =
    links_left _ _ _ c.recall_live_was_made.ensures _ _ _ _ _ c.in_ok-new.ensures.made 0 c.in_ok-new.ensures.counts
    (forest_of c.insert_after.new.ctx) (forest_of c.replace_all_uses_with.new.ctx) c.args.old.index (value_of c.get_result-old_value.result.index) (value_of c.get_result-new_value.result.index)
    c.insert_after.ensures.forest c.in_ok-replace_all_uses_with.ensures.forest c.requires.link (forest_of c.erase.new.ctx) c.erase.ensures.forest c.args.block.index
