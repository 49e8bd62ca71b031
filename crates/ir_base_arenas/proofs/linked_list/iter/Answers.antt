use Rattle.std.proofs.Common.{ap, ◌∙◌}
use Rattle.std.specs.Option.{option_map}
use Rattle.ir_base_arenas.specs.Lists.{Ends, seen}
use Rattle.ir_base_arenas.proofs.ListRehome.{head-read, tail-read}
use Rattle.ir_base_arenas.proofs.ListWalks.{list-piece, piece-items}
use Rattle.ir_base_arenas.proofs.linked_list.iter.Goals as goal

pub between-requires : goal.between-requires
between-requires g c =
    let ends = g.C.ContainsLinkedList.ends in
    let e : Ends = ends c.at-record.result.now in
    let live = ap (option_map ends) c.at-record.ensures in
    let l = c.requires.well_formed.1 in
    list-piece g.T.LinkedList.links c.args.nodes.now (seen ends c.args.containers.now) c.requires.well_formed.0 c.args.container.index c.get_head.result c.get_tail.result l
    (head-read l c.args.container.index e c.get_head.result live c.get_head.ensures) (tail-read l c.args.container.index e c.get_tail.result live c.get_tail.ensures)

pub returns : goal.returns
returns g c lists l =
    let ends = g.C.ContainsLinkedList.ends in
    let e : Ends = ends c.at-record.result.now in
    let live = ap (option_map ends) c.at-record.ensures in
    c.between.ensures ∙ piece-items (list-piece g.T.LinkedList.links c.args.nodes.now (seen ends c.args.containers.now) lists c.args.container.index c.get_head.result c.get_tail.result l
    (head-read l c.args.container.index e c.get_head.result live c.get_head.ensures) (tail-read l c.args.container.index e c.get_tail.result live c.get_tail.ensures))
