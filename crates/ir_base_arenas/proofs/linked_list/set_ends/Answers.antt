use Rattle.std.proofs.Common.{◌≡◌}
use Rattle.ir_base_arenas.specs.Lists.{Ends, no_ends}
use Rattle.ir_base_arenas.proofs.ListRecords.{put-seen, put-rest, set-two}
use Rattle.ir_base_arenas.proofs.linked_list.set_ends.Goals as goal

pub returns : goal.returns
returns g c =
    let L = g.C.ContainsLinkedList in
    let laws = g.met.C.ContainsLinkedList in
    let x = c.at_mut-record.result.now in
    let w = c.set_tail.new.self in
    let e : Ends = record { head = c.args.head; tail = c.args.tail } in
    let is : w ≡ L.with_ends x e = set-two L.ends L.with_ends laws.get_put laws.put_put x c.set_head.new.self w c.args.head c.args.tail c.set_head.ensures c.set_tail.ensures in
    record {
      ends = rw (← c.from_index.ensures) (put-seen L.ends L.with_ends laws.get_put laws.put_put c.args.containers.now c.from_index.result.index x w (λ _. e) c.at_mut-record.ensures.value is);
      rest = put-rest L.ends L.with_ends laws.get_put laws.put_put c.args.containers.now c.from_index.result.index x w e no_ends c.at_mut-record.ensures.value is;
    }
