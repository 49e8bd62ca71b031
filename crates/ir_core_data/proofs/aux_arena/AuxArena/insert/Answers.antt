use Rattle.std.proofs.Common.{◌≡◌, ◌↔◌, ◌+◌, Err, Ok, Some, refl, sym, ap, subst, ◌∙◌, rules}
use Rattle.ir_model.specs.declared.error.CoreError.TheVariants.{SlotsSpent}
use Rattle.ir_base_arenas.specs.Arena.{fill}
use Rattle.ir_core_data.specs.WrappedArena.{opened}
use Rattle.ir_core_data.proofs.Refusals.{answered, handed-memory, handed_on}
use Rattle.ir_core_data.proofs.WrappedArenas.{insert-kept, seen-insert, seen-room, seen-unused, seen-whole}
use Rattle.ir_core_data.proofs.aux_arena.AuxArena.insert.Goals as goal

pub returns-in_err-ptr-clause-spent : goal.returns-in_err-ptr-clause-spent
returns-in_err-ptr-clause-spent g c =
    let e = c.in_err-ptr.field-0.0 in
    let was : c.insert_with.result ≡ Err e = search rules in
    let is : c.from_residual.result ≡ Err e = search rules in
    let room = seen-room c.self.inside.items c.args.self.now c.self.invariant c.self.view_is in
    subst (λ n. (c.from_residual.result ≡ Err SlotsSpent) ↔ (n ≡ 0)) room (handed_on c.insert_with.result c.from_residual.result e was is c.insert_with.ensures.spent)

pub returns-in_err-ptr-clause-grown : goal.returns-in_err-ptr-clause-grown
returns-in_err-ptr-clause-grown g c =
    λ refused.
    let e = c.in_err-ptr.field-0.0 in
    let was : c.insert_with.result ≡ Err e = search rules in
    let is : c.from_residual.result ≡ Err e = search rules in
    let room = seen-room c.self.inside.items c.args.self.now c.self.invariant c.self.view_is in
    sym room ∙ handed-memory c.insert_with.result c.from_residual.result e was is c.insert_with.ensures.grown refused ∙ seen-unused c.self.inside.items c.args.self.now c.self.invariant c.self.view_is

pub returns-in_err-ptr-clause-whole : goal.returns-in_err-ptr-clause-whole
returns-in_err-ptr-clause-whole g c = seen-whole c.self.inside.items c.args.self.now c.self.invariant c.self.view_is c.insert_with.ensures.whole

pub invariant_of-self-2 : goal.invariant_of-self-2
invariant_of-self-2 g c =
    let h = c.in_ok-ptr.ensures.inserted in
    let is : h.value ≡ Some c.args.value = search rules in
    insert-kept c.self.inside.items c.args.self.now c.self.invariant c.self.view_is c.insert_with.new.self c.in_ok-ptr.ptr.index c.args.value (h.filled ∙ ap (fill c.self.inside.items c.in_ok-ptr.ptr.index) is)

pub returns-clause-inserted : goal.returns-clause-inserted
returns-clause-inserted g c =
    let h = c.in_ok-ptr.ensures.inserted in
    let is : h.value ≡ Some c.args.value = search rules in
    rw c.from_index.ensures
    (seen-insert c.self.inside.items c.args.self.now c.self.invariant c.self.view_is c.insert_with.new.self c.in_ok-ptr.ptr.index c.args.value h.new_id (h.filled ∙ ap (fill c.self.inside.items c.in_ok-ptr.ptr.index) is))

pub returns-clause-room : goal.returns-clause-room
returns-clause-room g c =
    let after = seen-room c.insert_with.new.self (opened c.insert_with.new.self) (invariant_of-self-2 g c) refl in
    ap (λ n. n + 1) (sym after) ∙ c.in_ok-ptr.ensures.room ∙ seen-room c.self.inside.items c.args.self.now c.self.invariant c.self.view_is

pub returns-clause-spent : goal.returns-clause-spent
returns-clause-spent g c =
    let was : c.insert_with.result ≡ Ok c.in_ok-ptr.ptr = search rules in
    let room = seen-room c.self.inside.items c.args.self.now c.self.invariant c.self.view_is in
    subst (λ n. (Ok c.from_index.result ≡ Err SlotsSpent) ↔ (n ≡ 0)) room (answered c.insert_with.result (Ok c.from_index.result) c.in_ok-ptr.ptr c.from_index.result was refl c.insert_with.ensures.spent)

pub returns-clause-whole : goal.returns-clause-whole
returns-clause-whole g c = seen-whole c.self.inside.items c.args.self.now c.self.invariant c.self.view_is c.insert_with.ensures.whole
