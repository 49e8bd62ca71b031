use Rattle.std.proofs.Common.{rules, tests}
use Rattle.std.proofs.lemmas.Iterator.Consumers.{YieldsList-from_first}
use Rattle.std.proofs.lemmas.Iterator.Search.{any_from_yields_List}
use Rattle.ir_model.specs.ContextIds.{same_id}
use Rattle.ir_view_parts.specs.Parts.{successor_blocks_of}
use Rattle.ir_view_parts.proofs.Items.{listed-told}
use Rattle.ir_view_parts.proofs.forward_edges.names_block.Goals as goal

pub returns : goal.returns
returns g c =
    listed-told c.args.block.index (successor_blocks_of c.args.op.now) c.any.result
    (any_from_yields_List (λ b. same_id b c.args.block.index) _ _ c.any.result c.any.ensures.ran (YieldsList-from_first (λ p. p.index) (λ xs. xs) (successor_blocks_of c.args.op.now) c.successors.ensures.exact) (λ x b q k. search (rules, tests)))
