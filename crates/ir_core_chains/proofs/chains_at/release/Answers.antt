use Rattle.std.proofs.Common.{◌∙◌, sym}
use Rattle.ir_core_records.specs.declared.record.UseIndex.{UseIndex}
use Rattle.ir_core_chains.specs.Chain.{unchanged, by_places, by_uses}
use Rattle.ir_core_chains.proofs.Releases.{taken_last, taken_names, taken_distinct, taken_place, taken_user, placed_links, placed_names}
use Rattle.ir_core_chains.proofs.chains_at.release.Goals as goal

pub set_place-requires-clause-live : goal.set_place-requires-clause-live
set_place-requires-clause-live g c =
    let x : UseIndex = c.in-Some.moved in
    rw c.used.ensures (taken_user g.met.N.Named.chain c.args.records.now c.take_use.new.records c.args.named c.args.index x c.requires.linked c.requires.named c.requires.within (c.take_use.ensures.records x) x (sym (c.take_use.ensures.moved x) ∙ c.in-Some.is))

pub set_place-requires-clause-distinct : goal.set_place-requires-clause-distinct
set_place-requires-clause-distinct g c =
    let x : UseIndex = c.in-Some.moved in
    rw c.used.ensures (taken_distinct g.met.N.Named.chain c.args.records.now c.take_use.new.records c.args.named c.args.index x c.requires.linked c.requires.named c.requires.within (c.take_use.ensures.records x) x.user)

pub set_place-requires-clause-has : goal.set_place-requires-clause-has
set_place-requires-clause-has g c =
    let x : UseIndex = c.in-Some.moved in
    rw c.used.ensures (taken_place g.met.N.Named.chain c.args.records.now c.take_use.new.records c.args.named c.args.index x c.requires.linked c.requires.named c.requires.within (c.take_use.ensures.records x) x (sym (c.take_use.ensures.moved x) ∙ c.in-Some.is))

pub returns-in-Some-clause-linked : goal.returns-in-Some-clause-linked
returns-in-Some-clause-linked g c =
    let x : UseIndex = c.in-Some.moved in
    placed_links g.met.N.Named.chain c.args.records.now c.take_use.new.records c.args.named c.args.index x c.requires.linked c.requires.named c.requires.within (c.take_use.ensures.records x) x (sym (c.take_use.ensures.moved x) ∙ c.in-Some.is) c.set_place.new.records (rw c.used.ensures at c.set_place.ensures)

pub returns-in-Some-clause-names : goal.returns-in-Some-clause-names
returns-in-Some-clause-names g c o =
    let x : UseIndex = c.in-Some.moved in
    placed_names g.met.N.Named.chain c.args.records.now c.take_use.new.records c.args.named c.args.index x c.requires.linked c.requires.named c.requires.within (c.take_use.ensures.records x) x (sym (c.take_use.ensures.moved x) ∙ c.in-Some.is) c.set_place.new.records (rw c.used.ensures at c.set_place.ensures) o

pub returns-in-Some-clause-rest : goal.returns-in-Some-clause-rest
returns-in-Some-clause-rest g c =
    by_places _ _ _ _ (by_uses _ _ _ _ unchanged (c.take_use.ensures.records c.in-Some.moved)) c.set_place.ensures

pub returns-in_default-clause-linked : goal.returns-in_default-clause-linked
returns-in_default-clause-linked g c =
    let x : UseIndex = record { user = record { slot = 0; version = 0 }; number = 0 } in
    taken_last g.met.N.Named.chain c.args.records.now c.take_use.new.records c.args.named c.args.index x c.requires.linked c.requires.named c.requires.within (c.take_use.ensures.records x) (sym (c.take_use.ensures.moved x) ∙ c.in_default.is)

pub returns-in_default-clause-names : goal.returns-in_default-clause-names
returns-in_default-clause-names g c o =
    let x : UseIndex = record { user = record { slot = 0; version = 0 }; number = 0 } in
    taken_names g.met.N.Named.chain c.args.records.now c.take_use.new.records c.args.named c.args.index x c.requires.linked c.requires.named c.requires.within (c.take_use.ensures.records x) o

pub returns-in_default-clause-rest : goal.returns-in_default-clause-rest
returns-in_default-clause-rest g c =
    let x : UseIndex = record { user = record { slot = 0; version = 0 }; number = 0 } in
    by_uses _ _ _ _ unchanged (c.take_use.ensures.records x)
