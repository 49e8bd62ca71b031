use Rattle.std.proofs.Common.{◌≡◌, Err, Ok, refl, ap, ◌∙◌, rules}
use Rattle.ir_base_arenas.specs.Arena.{fill}
use Rattle.ir_core_data.proofs.AuxLemmas.{no_room, puts}
use Rattle.ir_core_data.proofs.FreedSlots.{all_first}
use Rattle.ir_core_data.proofs.Refusals.{answered, answered-memory, handed-memory, handed_on}
use Rattle.ir_core_data.proofs.side_data.SideData.insert_aux.Goals as goal

pub returns-in_err-ptr-clause-spent : goal.returns-in_err-ptr-clause-spent
returns-in_err-ptr-clause-spent g c =
    λ limits keeps.
    let e = c.in_err-ptr.field-0.0 in
    let was : c.insert.result ≡ Err e = search rules in
    let is : c.from_residual.result ≡ Err e = search rules in
    let spent = handed_on c.insert.result c.from_residual.result e was is c.insert.ensures.spent in
    let lacks = no_room c.args.self.now limits keeps c.insert.ensures.whole in (λ h. lacks.0 (spent.0 h), λ l. spent.1 (lacks.1 l))

pub returns-in_err-ptr-clause-grown : goal.returns-in_err-ptr-clause-grown
returns-in_err-ptr-clause-grown g c =
    λ limits keeps refused i.
    let e = c.in_err-ptr.field-0.0 in
    let was : c.insert.result ≡ Err e = search rules in
    let is : c.from_residual.result ≡ Err e = search rules in
    all_first limits c.args.self.now.aux keeps c.insert.ensures.whole (handed-memory c.insert.result c.from_residual.result e was is c.insert.ensures.grown refused) i

pub returns-clause-grown : goal.returns-clause-grown
returns-clause-grown g c = λ limits keeps refused. answered-memory (Ok (record { index = c.in_ok-ptr.ptr.index })) (record { index = c.in_ok-ptr.ptr.index }) refl refused

pub returns-clause-inserted : goal.returns-clause-inserted
returns-clause-inserted g c =
    let h = c.in_ok-ptr.ensures.inserted in
    let is : h.value ≡ c.args.value = search rules in
    puts c.args.self.now c.in_ok-ptr.ptr.index c.args.value c.insert.new.self h.new_id (h.filled ∙ ap (fill c.args.self.now.aux c.in_ok-ptr.ptr.index) is)

pub returns-clause-spent : goal.returns-clause-spent
returns-clause-spent g c =
    λ limits keeps.
    let was : c.insert.result ≡ Ok c.in_ok-ptr.ptr = search rules in
    let spent = answered c.insert.result (Ok (record { index = c.in_ok-ptr.ptr.index })) c.in_ok-ptr.ptr (record { index = c.in_ok-ptr.ptr.index }) was refl c.insert.ensures.spent in
    let lacks = no_room c.args.self.now limits keeps c.insert.ensures.whole in (λ h. lacks.0 (spent.0 h), λ l. spent.1 (lacks.1 l))
