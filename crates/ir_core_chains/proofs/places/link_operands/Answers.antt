use Rattle.ir_core_chains.specs.Frames.{keeps-by_values, linked-by_values}
use Rattle.std.proofs.Common.{map}
use Rattle.ir_core_records.specs.Chains.{names_from}
use Rattle.ir_core_records.specs.Meaning.{operands_from}
use Rattle.ir_core_chains.proofs.ChainLoops.{ok_by, err_by}
use Rattle.ir_core_chains.specs.Meanings.{forest-linked, forest-undone, operands-named, operands-kind}
use Rattle.ir_core_chains.proofs.places.link_operands.Goals as goal

pub returns-clause-linked : goal.returns-clause-linked
returns-clause-linked g c = linked-by_values c.args.records.now c.link_all.new.records c.requires.linked c.link_all.ensures.rest c.link_all.ensures.linked

pub returns-clause-keeps : goal.returns-clause-keeps
returns-clause-keeps g c = keeps-by_values c.args.records.now c.link_all.new.records c.link_all.ensures.rest

pub returns-clause-forest : goal.returns-clause-forest
returns-clause-forest g c =
    let vs = map (λ (v : g.row.V.Denot). g.V.Names.named v) c.args.values.now in
    ok_by c.link_all.result (λ here. forest-linked operands-kind c.args.records.now c.link_all.new.records c.args.user (names_from c.args.first vs) (operands_from c.args.first vs) (operands-named c.args.first vs) c.link_all.ensures.rest here c.link_all.ensures.others) c.link_all.ensures.here

pub returns-clause-same : goal.returns-clause-same
returns-clause-same g c =
    err_by c.link_all.result (λ none. forest-undone operands-kind c.args.records.now c.link_all.new.records c.args.user c.link_all.ensures.rest c.requires.bare none c.link_all.ensures.others) c.link_all.ensures.err
