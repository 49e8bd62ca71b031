use Rattle.std.proofs.Common.{◌≡◌}
use Rattle.ir_base_arenas.specs.Lists.{Links, unlinked}
use Rattle.ir_base_arenas.proofs.ListRecords.{put-seen, put-rest, set-three}
use Rattle.ir_base_arenas.proofs.linked_list.set_links.Goals as goal

pub returns : goal.returns
returns g c =
    let L = g.T.LinkedList in
    let laws = g.met.T.LinkedList in
    let x = c.at_mut-record.result.now in
    let w = c.set_container.new.self in
    let l : Links = record { next = c.args.next; prev = c.args.prev; container = c.args.container } in
    let is : w ≡ L.with_links x l = set-three L.links L.with_links laws.get_put laws.put_put x c.set_next.new.self c.set_prev.new.self w c.args.next c.args.prev c.args.container c.set_next.ensures c.set_prev.ensures c.set_container.ensures in
    record {
      links = rw (← c.from_index.ensures) (put-seen L.links L.with_links laws.get_put laws.put_put c.args.nodes.now c.from_index.result.index x w (λ _. l) c.at_mut-record.ensures.value is);
      rest = put-rest L.links L.with_links laws.get_put laws.put_put c.args.nodes.now c.from_index.result.index x w l unlinked c.at_mut-record.ensures.value is;
    }
