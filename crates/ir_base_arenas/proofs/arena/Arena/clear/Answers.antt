use Rattle.std.proofs.Common.{◌≡◌, ◌+◌, ◌-◌, suc, length, map, sym, ap, subst, ◌∙◌, arith}
use Rattle.std.proofs.lemmas.List.{length-map}
use Rattle.ir_model.proofs.Arenas.{get-cleared, passed-cleared}
use Rattle.ir_base_arenas.specs.Arena.{get, is_passed}
use Rattle.ir_base_arenas.specs.ArenaSound.{emptied_at, slot_shown, held}
use Rattle.ir_base_arenas.proofs.ArenaCleared.{IsEmptiedFrom, emptied-end, emptied-start, emptied-step, emptied-within}
use Rattle.ir_base_arenas.proofs.arena.Arena.clear.Goals as goal

pub loop-done-init : goal.loop-done-init
loop-done-init g c =
    let slots = map held c.self.inside.slots.items in
    let count : c.len-count.result ≡ length c.args.self.now.slots =
    subst (λ a. c.len-count.result ≡ length a.slots) c.self.view_is (omega (arith, c.len-count.ensures, length-map slots slot_shown, length-map c.self.inside.slots.items held)) in
    record { count = count; emptied = emptied-start c.args.self.now _ (omega (arith, count)) }

pub empty_slot-requires : goal.empty_slot-requires
empty_slot-requires g c =
    let i = c.loop-done.invariant in
    let test = c.loop-done-test.true in
    omega (arith, i.count, test, emptied-within _ _ _ i.emptied)

pub loop-done-preserved : goal.loop-done-preserved
loop-done-preserved g c =
    let i = c.loop-done.invariant in
    let test = c.loop-done-test.true in
    let old = c.args.self.now in
    let now = c.loop-done.self in
    let n = c.len-count.result in
    let k = n - 1 - c.loop-done.done in
    let before = subst (λ m. IsEmptiedFrom m old now) (let is : n - c.loop-done.done ≡ suc k = omega (arith, test) in is) i.emptied in
    let after = emptied-step k old now (omega (arith, i.count, test)) before in
    record {
      count = i.count;
      emptied = subst (λ a. IsEmptiedFrom (n - (c.loop-done.done + 1)) old a) (sym c.empty_slot.ensures) (subst (λ m. IsEmptiedFrom m old (emptied_at now k)) (let is : k ≡ n - (c.loop-done.done + 1) = omega (arith, test) in is) after);
    }

pub returns-clause-cleared : goal.returns-clause-cleared
returns-clause-cleared g c =
    let over = c.loop-done-test.false in
    let none : c.len-count.result - c.loop-done.done ≡ 0 = omega (arith, over) in
    emptied-end c.args.self.now c.loop-done.self (subst (λ k. IsEmptiedFrom k c.args.self.now c.loop-done.self) none c.loop-done.invariant.emptied)

pub returns-clause-gone : goal.returns-clause-gone
returns-clause-gone g c = λ id. ap (λ a. get a id) (returns-clause-cleared g c) ∙ get-cleared c.args.self.now id

pub returns-clause-passed : goal.returns-clause-passed
returns-clause-passed g c = λ id. ap (λ a. is_passed a id) (returns-clause-cleared g c) ∙ passed-cleared c.args.self.now id
