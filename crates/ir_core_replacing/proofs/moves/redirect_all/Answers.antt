use Rattle.std.proofs.Common.{◌≡◌, ◌+◌, ◌-◌, ◌≤◌, ◌==◌, ℕ, List, ◌++◌, Bool, false, cond, length, slice_get, refl, sym, ap, subst, ◌∙◌, arith}
use Rattle.std.proofs.lemmas.Bool.{false≢true, eq-eqb, ne_eqb}
use Rattle.std.proofs.lemmas.List.{nil_from_length}
use Rattle.ir_core_records.specs.declared.record.UseIndex.{UseIndex}
use Rattle.ir_core_records.specs.Chains.{names_in}
use Rattle.ir_core_records.specs.Table.{IsOp}
use Rattle.ir_core_chains.specs.Chain.{unchanged, by_uses}
use Rattle.ir_core_chains.specs.ChainEdits.{rewrites-same, rewrites-has}
use Rattle.ir_core_replacing.proofs.GroupLemmas.{Renaming, gone_to, go_behind, same_named, to_stays, given_back, ready_renaming, next_has, next_live, next_numbers, next_renamed, behind_linked, handed_places, handed_linked, all_names}
use Rattle.ir_core_replacing.proofs.moves.redirect_all.Goals as goal

pub returns-then-is_same-clause-names : goal.returns-then-is_same-clause-names
returns-then-is_same-clause-names g c passes is o =
    same_named c.args.from c.args.to (c.is_same.ensures.0 c.if-is_same.true) passes is (names_in (g.N.Named.places_at c.args.records.now o))

pub returns-then-is_same-clause-rest : goal.returns-then-is_same-clause-rest
returns-then-is_same-clause-rest g c = unchanged

pub returns-in_default-clause-rest : goal.returns-in_default-clause-rest
returns-in_default-clause-rest g c =
    let ne = λ (e : c.args.from ≡ c.args.to). false≢true (sym c.if-is_same.false ∙ c.is_same.ensures.1 e) in
    let taken = c.replace_uses-moved.ensures.records ∙ ap (g.N.Named.with_uses c.args.records.now c.args.from) c.new.ensures in
    rewrites-same g.met.N.Named.chain c.args.records.now c.replace_uses.new.records
    (given_back g.met.N.Named.chain c.args.records.now c.replace_uses-moved.new.records c.args.from c.args.to c.requires.linked c.requires.old c.requires.named ne taken c.make_ready.new.records c.replace_uses.new.records c.replace_uses-moved.result c.in_default.ensures.err c.replace_uses-moved.ensures.kept c.replace_uses.ensures.records)

pub loop-index-init : goal.loop-index-init
loop-index-init g c =
    let kept = c.replace_uses-moved.ensures.kept in
    let ne = λ (e : c.args.from ≡ c.args.to). false≢true (sym c.if-is_same.false ∙ c.is_same.ensures.1 e) in
    let taken = c.replace_uses-moved.ensures.records ∙ ap (g.N.Named.with_uses c.args.records.now c.args.from) c.new.ensures in
    let ready = c.in-Ok.ensures.ready ∙ ap (λ (ws : List UseIndex). cond (c.use_count-start.result == 0) c.replace_uses-moved.new.records (g.N.Named.with_uses c.replace_uses-moved.new.records c.args.to (g.N.Named.uses_at c.replace_uses-moved.new.records c.args.to ++ ws))) (c.as_slice.ensures ∙ kept) in
    let zero : c.use_count-start.result - c.use_count-start.result ≡ 0 = omega arith in
    ready_renaming g.met.N.Named.chain c.args.records.now c.replace_uses-moved.new.records c.args.from c.args.to c.requires.linked c.requires.old c.requires.named ne taken (c.use_count-start.result == 0) c.make_ready.new.records (go_behind c.args.to c.use_count-start.result) (c.use_count-start.result - c.use_count-start.result) ready zero

pub rename_place-requires-clause-live : goal.rename_place-requires-clause-live
rename_place-requires-clause-live g c =
    let kept = c.replace_uses-moved.ensures.kept in
    let at = ap (λ (ws : List UseIndex). slice_get ws (c.loop-index.index - c.use_count-start.result)) (sym kept) ∙ c.at-used.ensures in
    rw c.used.ensures (next_live g.met.N.Named.chain c.args.records.now c.make_ready.new.records c.loop-index.records c.args.from (go_behind c.args.to c.use_count-start.result) (c.loop-index.index - c.use_count-start.result) c.requires.linked c.loop-index.invariant c.at-used.result.now at)

pub rename_place-requires-clause-distinct : goal.rename_place-requires-clause-distinct
rename_place-requires-clause-distinct g c =
    let kept = c.replace_uses-moved.ensures.kept in
    let at = ap (λ (ws : List UseIndex). slice_get ws (c.loop-index.index - c.use_count-start.result)) (sym kept) ∙ c.at-used.ensures in
    rw c.used.ensures (next_numbers g.met.N.Named.chain c.args.records.now c.make_ready.new.records c.loop-index.records c.args.from (go_behind c.args.to c.use_count-start.result) (c.loop-index.index - c.use_count-start.result) c.requires.linked c.loop-index.invariant c.at-used.result.now at)

pub rename_place-requires-clause-has : goal.rename_place-requires-clause-has
rename_place-requires-clause-has g c =
    let kept = c.replace_uses-moved.ensures.kept in
    let at = ap (λ (ws : List UseIndex). slice_get ws (c.loop-index.index - c.use_count-start.result)) (sym kept) ∙ c.at-used.ensures in
    rw c.used.ensures (next_has g.met.N.Named.chain c.args.records.now c.make_ready.new.records c.loop-index.records c.args.from (go_behind c.args.to c.use_count-start.result) (c.loop-index.index - c.use_count-start.result) c.requires.linked c.loop-index.invariant c.at-used.result.now at)

pub loop-index-preserved : goal.loop-index-preserved
loop-index-preserved g c =
    let kept = c.replace_uses-moved.ensures.kept in
    let at = ap (λ (ws : List UseIndex). slice_get ws (c.loop-index.index - c.use_count-start.result)) (sym kept) ∙ c.at-used.ensures in
    let le : c.use_count-start.result ≤ c.loop-index.index = omega arith in
    let place : c.loop-index.index ≡ c.use_count-start.result + (c.loop-index.index - c.use_count-start.result) = omega (arith, le) in
    let next : c.loop-index.index - c.use_count-start.result + 1 ≡ c.loop-index.index + 1 - c.use_count-start.result = omega (arith, le) in
    subst (λ (k : ℕ). Renaming IsOp g.N.Named.places_at g.N.Named.with_places g.N.Named.uses_at g.N.Named.with_uses c.args.from (gone_to c.args.from (go_behind c.args.to c.use_count-start.result) k) c.args.records.now c.make_ready.new.records c.rename_place.new.records) next
    (next_renamed g.met.N.Named.chain c.args.records.now c.make_ready.new.records c.loop-index.records c.args.from (go_behind c.args.to c.use_count-start.result) (c.loop-index.index - c.use_count-start.result) c.requires.linked c.loop-index.invariant c.at-used.result.now at c.rename_place.new.records (c.args.to, c.loop-index.index) (λ q. (c.args.to, place q)) (rw c.used.ensures at c.rename_place.ensures))

pub returns-then-start-gt0-clause-linked : goal.returns-then-start-gt0-clause-linked
returns-then-start-gt0-clause-linked g c =
    let kept = c.replace_uses-moved.ensures.kept in
    let ne = λ (e : c.args.from ≡ c.args.to). false≢true (sym c.if-is_same.false ∙ c.is_same.ensures.1 e) in
    let taken = c.replace_uses-moved.ensures.records ∙ ap (g.N.Named.with_uses c.args.records.now c.args.from) c.new.ensures in
    let ready = c.in-Ok.ensures.ready ∙ ap (λ (ws : List UseIndex). cond (c.use_count-start.result == 0) c.replace_uses-moved.new.records (g.N.Named.with_uses c.replace_uses-moved.new.records c.args.to (g.N.Named.uses_at c.replace_uses-moved.new.records c.args.to ++ ws))) (c.as_slice.ensures ∙ kept) in
    let size = ap length (c.as_slice.ensures ∙ kept) in
    let past : length (g.N.Named.uses_at c.args.records.now c.args.from) ≤ c.loop-index.index - c.use_count-start.result = omega (arith, c.loop-index-test.false, c.in-Ok.ensures.end, size) in
    let at_start = c.use_count-start.ensures ∙ ap length (to_stays g.met.N.Named.chain c.args.records.now c.replace_uses-moved.new.records c.args.from c.args.to c.requires.linked c.requires.old c.requires.named ne taken) in
    let some : (c.use_count-start.result == 0) ≡ false = ne_eqb c.use_count-start.result 0 (λ (e : c.use_count-start.result ≡ 0). absurd (omega (arith, e, c.if-start-gt0.true))) in
    behind_linked g.met.N.Named.chain c.args.records.now c.replace_uses-moved.new.records c.args.from c.args.to c.requires.linked c.requires.old c.requires.named ne taken c.make_ready.new.records c.loop-index.records c.loop-index.records c.use_count-start.result (c.loop-index.index - c.use_count-start.result) at_start c.loop-index.invariant past refl (ready ∙ ap (λ (b : Bool). cond b c.replace_uses-moved.new.records (g.N.Named.with_uses c.replace_uses-moved.new.records c.args.to (g.N.Named.uses_at c.replace_uses-moved.new.records c.args.to ++ g.N.Named.uses_at c.args.records.now c.args.from))) some)

pub returns-then-start-gt0-clause-names : goal.returns-then-start-gt0-clause-names
returns-then-start-gt0-clause-names g c passes is o =
    let kept = c.replace_uses-moved.ensures.kept in
    let ne = λ (e : c.args.from ≡ c.args.to). false≢true (sym c.if-is_same.false ∙ c.is_same.ensures.1 e) in
    let taken = c.replace_uses-moved.ensures.records ∙ ap (g.N.Named.with_uses c.args.records.now c.args.from) c.new.ensures in
    let ready = c.in-Ok.ensures.ready ∙ ap (λ (ws : List UseIndex). cond (c.use_count-start.result == 0) c.replace_uses-moved.new.records (g.N.Named.with_uses c.replace_uses-moved.new.records c.args.to (g.N.Named.uses_at c.replace_uses-moved.new.records c.args.to ++ ws))) (c.as_slice.ensures ∙ kept) in
    let size = ap length (c.as_slice.ensures ∙ kept) in
    let past : length (g.N.Named.uses_at c.args.records.now c.args.from) ≤ c.loop-index.index - c.use_count-start.result = omega (arith, c.loop-index-test.false, c.in-Ok.ensures.end, size) in
    let at_start = c.use_count-start.ensures ∙ ap length (to_stays g.met.N.Named.chain c.args.records.now c.replace_uses-moved.new.records c.args.from c.args.to c.requires.linked c.requires.old c.requires.named ne taken) in
    all_names g.met.N.Named.chain c.args.records.now c.replace_uses-moved.new.records c.args.from c.args.to c.requires.linked c.requires.old c.requires.named ne taken c.make_ready.new.records c.loop-index.records c.loop-index.records c.use_count-start.result (c.loop-index.index - c.use_count-start.result) at_start c.loop-index.invariant past refl passes is o

pub replace_uses-requires-2 : goal.replace_uses-requires-2
replace_uses-requires-2 g c =
    rewrites-has g.met.N.Named.chain c.args.records.now c.loop-index.records c.args.to c.loop-index.invariant.rest c.requires.named

pub returns-clause-linked : goal.returns-clause-linked
returns-clause-linked g c =
    let kept = c.replace_uses-moved.ensures.kept in
    let ne = λ (e : c.args.from ≡ c.args.to). false≢true (sym c.if-is_same.false ∙ c.is_same.ensures.1 e) in
    let taken = c.replace_uses-moved.ensures.records ∙ ap (g.N.Named.with_uses c.args.records.now c.args.from) c.new.ensures in
    let ready = c.in-Ok.ensures.ready ∙ ap (λ (ws : List UseIndex). cond (c.use_count-start.result == 0) c.replace_uses-moved.new.records (g.N.Named.with_uses c.replace_uses-moved.new.records c.args.to (g.N.Named.uses_at c.replace_uses-moved.new.records c.args.to ++ ws))) (c.as_slice.ensures ∙ kept) in
    let size = ap length (c.as_slice.ensures ∙ kept) in
    let past : length (g.N.Named.uses_at c.args.records.now c.args.from) ≤ c.loop-index.index - c.use_count-start.result = omega (arith, c.loop-index-test.false, c.in-Ok.ensures.end, size) in
    let at_start = c.use_count-start.ensures ∙ ap length (to_stays g.met.N.Named.chain c.args.records.now c.replace_uses-moved.new.records c.args.from c.args.to c.requires.linked c.requires.old c.requires.named ne taken) in
    let e = c.replace_uses-2.ensures.records ∙ ap (g.N.Named.with_uses c.loop-index.records c.args.to) kept in
    let zero : c.use_count-start.result ≡ 0 = omega (arith, c.if-start-gt0.false) in
    let none = nil_from_length (g.N.Named.uses_at c.args.records.now c.args.to) (sym at_start ∙ zero) in
    handed_linked g.met.N.Named.chain c.args.records.now c.replace_uses-moved.new.records c.args.from c.args.to c.requires.linked c.requires.old c.requires.named ne taken c.make_ready.new.records c.loop-index.records c.replace_uses-2.new.records c.use_count-start.result (c.loop-index.index - c.use_count-start.result) at_start c.loop-index.invariant past e (ready ∙ ap (λ (b : Bool). cond b c.replace_uses-moved.new.records (g.N.Named.with_uses c.replace_uses-moved.new.records c.args.to (g.N.Named.uses_at c.replace_uses-moved.new.records c.args.to ++ g.N.Named.uses_at c.args.records.now c.args.from))) (eq-eqb c.use_count-start.result 0 zero)) none

pub returns-clause-names : goal.returns-clause-names
returns-clause-names g c passes is o =
    let kept = c.replace_uses-moved.ensures.kept in
    let ne = λ (e : c.args.from ≡ c.args.to). false≢true (sym c.if-is_same.false ∙ c.is_same.ensures.1 e) in
    let taken = c.replace_uses-moved.ensures.records ∙ ap (g.N.Named.with_uses c.args.records.now c.args.from) c.new.ensures in
    let ready = c.in-Ok.ensures.ready ∙ ap (λ (ws : List UseIndex). cond (c.use_count-start.result == 0) c.replace_uses-moved.new.records (g.N.Named.with_uses c.replace_uses-moved.new.records c.args.to (g.N.Named.uses_at c.replace_uses-moved.new.records c.args.to ++ ws))) (c.as_slice.ensures ∙ kept) in
    let size = ap length (c.as_slice.ensures ∙ kept) in
    let past : length (g.N.Named.uses_at c.args.records.now c.args.from) ≤ c.loop-index.index - c.use_count-start.result = omega (arith, c.loop-index-test.false, c.in-Ok.ensures.end, size) in
    let at_start = c.use_count-start.ensures ∙ ap length (to_stays g.met.N.Named.chain c.args.records.now c.replace_uses-moved.new.records c.args.from c.args.to c.requires.linked c.requires.old c.requires.named ne taken) in
    let e = c.replace_uses-2.ensures.records ∙ ap (g.N.Named.with_uses c.loop-index.records c.args.to) kept in
    all_names g.met.N.Named.chain c.args.records.now c.replace_uses-moved.new.records c.args.from c.args.to c.requires.linked c.requires.old c.requires.named ne taken c.make_ready.new.records c.loop-index.records c.replace_uses-2.new.records c.use_count-start.result (c.loop-index.index - c.use_count-start.result) at_start c.loop-index.invariant past (handed_places g.met.N.Named.chain c.args.records.now c.replace_uses-moved.new.records c.args.from c.args.to c.requires.linked c.requires.old c.requires.named ne taken c.make_ready.new.records c.loop-index.records c.replace_uses-2.new.records c.use_count-start.result (c.loop-index.index - c.use_count-start.result) at_start c.loop-index.invariant past e) passes is o

pub returns-clause-rest : goal.returns-clause-rest
returns-clause-rest g c =
    by_uses _ _ _ _ c.loop-index.invariant.rest c.replace_uses-2.ensures.records
