use Rattle.std.proofs.Common.{◌≡◌, ◌+◌, ◌-◌, ◌≤◌, ◌++◌, ℕ, List, Some, length, slice_get, true, false, not, is_ok, refl, sym, ap, ◌∙◌, arith}
use Rattle.std.proofs.lemmas.Bool.{false≢true}
use Rattle.std.proofs.lemmas.Option.{slice_get-get_or}
use Rattle.ir_core_records.specs.declared.record.UseIndex.{UseIndex}
use Rattle.ir_core_chains.specs.Chain.{unchanged, by_uses}
use Rattle.ir_core_chains.specs.ChainEdits.{linked_by, rewrites-same, rewrites-has}
use Rattle.ir_core_replacing.specs.Chosen.{chosen, left_out, count_no}
use Rattle.ir_core_replacing.proofs.ListLemmas.{chosen-room, counts, count-none, count-more}
use Rattle.ir_core_replacing.proofs.GroupLemmas.{go_chosen, goes-chosen, open_from, open_to, open_renaming, put_back, next_has, next_live, next_numbers, next_renamed, some_same, some_linked, some_names}
use Rattle.ir_core_replacing.proofs.moves.redirect_some.Goals as goal
use Rattle.ir_core_replacing.proofs.moves.redirect_some.Goals.{then-answer, else-answer}

pub returns-then-is_same-clause-names : goal.returns-then-is_same-clause-names
returns-then-is_same-clause-names g c =
    some_same g.met.N.Named.chain.tell c.args.from c.args.to (g.N.Named.places_at c.args.records.now) (g.N.Named.places_at c.args.records.now) (g.N.Named.uses_at c.args.records.now) c.requires.linked c.args.answers.now (c.is_same.ensures.0 c.if-is_same.true)

pub returns-then-is_same-clause-rest : goal.returns-then-is_same-clause-rest
returns-then-is_same-clause-rest g c = unchanged

pub take_both-left-requires-clause-apart : goal.take_both-left-requires-clause-apart
take_both-left-requires-clause-apart g c e = false≢true (sym c.if-is_same.false ∙ c.is_same.ensures.1 e)

pub keep_both-requires-clause-from : goal.keep_both-requires-clause-from
keep_both-requires-clause-from g c =
    open_from g.met.N.Named.chain c.args.records.now c.take_both-left.new.records c.args.from c.args.to c.requires.linked c.requires.old c.requires.named (λ e. false≢true (sym c.if-is_same.false ∙ c.is_same.ensures.1 e)) c.take_both-left.ensures.records

pub keep_both-requires-clause-to : goal.keep_both-requires-clause-to
keep_both-requires-clause-to g c =
    open_to g.met.N.Named.chain c.args.records.now c.take_both-left.new.records c.args.from c.args.to c.requires.linked c.requires.old c.requires.named (λ e. false≢true (sym c.if-is_same.false ∙ c.is_same.ensures.1 e)) c.take_both-left.ensures.records

pub returns-then-is_err-clause-err : goal.returns-then-is_err-clause-err
returns-then-is_err-clause-err g c =
    let denied : is_ok c.append_chosen.result ≡ false = c.is_err.ensures.negation ∙ ap not c.if-is_err.true in
    let kept = rw denied at c.append_chosen.ensures.uses in
    put_back g.met.N.Named.chain c.args.records.now c.take_both-left.new.records c.args.from c.args.to c.requires.linked c.requires.old c.requires.named (λ e. false≢true (sym c.if-is_same.false ∙ c.is_same.ensures.1 e)) c.take_both-left.ensures.records c.keep_both.new.records c.append_chosen.new.uses c.take_both-left.result.0 (kept ∙ c.take_both-left.ensures.to) c.take_both-left.ensures.from c.keep_both.ensures

pub returns-then-is_err-clause-linked : goal.returns-then-is_err-clause-linked
returns-then-is_err-clause-linked g c =
    linked_by g.met.N.Named.chain c.args.records.now c.keep_both.new.records (returns-then-is_err-clause-err g c) c.requires.linked

pub returns-then-is_err-clause-rest : goal.returns-then-is_err-clause-rest
returns-then-is_err-clause-rest g c =
    rewrites-same g.met.N.Named.chain c.args.records.now c.keep_both.new.records (returns-then-is_err-clause-err g c)

pub loop-index-init : goal.loop-index-init
loop-index-init g c = record {
  going = open_renaming g.met.N.Named.chain c.args.records.now c.take_both-left.new.records c.args.from c.args.to c.requires.linked c.requires.old c.requires.named (λ e. false≢true (sym c.if-is_same.false ∙ c.is_same.ensures.1 e)) c.take_both-left.ensures.records (go_chosen c.args.from c.args.to c.len-start.result c.args.answers.now) 0 refl;
  count = count-none c.args.answers.now;
}

pub overflow_add-start : goal.overflow_add-start
overflow_add-start g c =
    let done : is_ok c.append_chosen.result ≡ true = c.is_err.ensures.negation ∙ ap not c.if-is_err.false in
    let whole = rw done at c.append_chosen.ensures.uses in
    let grown = whole ∙ (λ q. c.take_both-left.ensures.to q ++ chosen ((c.as_slice.ensures ∙ c.take_both-left.ensures.from) q) c.args.answers.now) in
    let at_start = c.len-start.ensures ∙ ap length c.take_both-left.ensures.to in
    let at = ap (λ (ws : List UseIndex). slice_get ws c.loop-index.index) (sym c.take_both-left.ensures.from) ∙ c.at-used.ensures in
    let answer : slice_get c.args.answers.now c.loop-index.index ≡ Some true = slice_get-get_or c.args.answers.now c.loop-index.index false c.loop-index-test.true ∙ ap Some c.if-answer.true in
    let room = chosen-room (g.N.Named.uses_at c.args.records.now c.args.to) (g.N.Named.uses_at c.args.records.now c.args.from) c.args.answers.now c.append_chosen.new.uses c.len-start.result c.loop-index.moved c.loop-index.index c.at-used.result.now grown at_start c.loop-index.invariant.count at answer in
    let bound = c.append_chosen.ensures.size done in
    omega (arith, room, bound)

pub rename_place-requires-clause-live : goal.rename_place-requires-clause-live
rename_place-requires-clause-live g c =
    let at = ap (λ (ws : List UseIndex). slice_get ws c.loop-index.index) (sym c.take_both-left.ensures.from) ∙ c.at-used.ensures in
    rw c.used.ensures (next_live g.met.N.Named.chain c.args.records.now c.take_both-left.new.records c.loop-index.records c.args.from (go_chosen c.args.from c.args.to c.len-start.result c.args.answers.now) c.loop-index.index c.requires.linked c.loop-index.invariant.going c.at-used.result.now at)

pub rename_place-requires-clause-distinct : goal.rename_place-requires-clause-distinct
rename_place-requires-clause-distinct g c =
    let at = ap (λ (ws : List UseIndex). slice_get ws c.loop-index.index) (sym c.take_both-left.ensures.from) ∙ c.at-used.ensures in
    rw c.used.ensures (next_numbers g.met.N.Named.chain c.args.records.now c.take_both-left.new.records c.loop-index.records c.args.from (go_chosen c.args.from c.args.to c.len-start.result c.args.answers.now) c.loop-index.index c.requires.linked c.loop-index.invariant.going c.at-used.result.now at)

pub rename_place-requires-clause-bound : goal.rename_place-requires-clause-bound
rename_place-requires-clause-bound g c =
    let done : is_ok c.append_chosen.result ≡ true = c.is_err.ensures.negation ∙ ap not c.if-is_err.false in
    let whole = rw done at c.append_chosen.ensures.uses in
    let grown = whole ∙ (λ q. c.take_both-left.ensures.to q ++ chosen ((c.as_slice.ensures ∙ c.take_both-left.ensures.from) q) c.args.answers.now) in
    let at_start = c.len-start.ensures ∙ ap length c.take_both-left.ensures.to in
    let at = ap (λ (ws : List UseIndex). slice_get ws c.loop-index.index) (sym c.take_both-left.ensures.from) ∙ c.at-used.ensures in
    let answer : slice_get c.args.answers.now c.loop-index.index ≡ Some true = slice_get-get_or c.args.answers.now c.loop-index.index false c.loop-index-test.true ∙ ap Some c.if-answer.true in
    let room = chosen-room (g.N.Named.uses_at c.args.records.now c.args.to) (g.N.Named.uses_at c.args.records.now c.args.from) c.args.answers.now c.append_chosen.new.uses c.len-start.result c.loop-index.moved c.loop-index.index c.at-used.result.now grown at_start c.loop-index.invariant.count at answer in
    let bound = c.append_chosen.ensures.size done in
    omega (arith, room, bound)

pub rename_place-requires-clause-has : goal.rename_place-requires-clause-has
rename_place-requires-clause-has g c =
    let at = ap (λ (ws : List UseIndex). slice_get ws c.loop-index.index) (sym c.take_both-left.ensures.from) ∙ c.at-used.ensures in
    rw c.used.ensures (next_has g.met.N.Named.chain c.args.records.now c.take_both-left.new.records c.loop-index.records c.args.from (go_chosen c.args.from c.args.to c.len-start.result c.args.answers.now) c.loop-index.index c.requires.linked c.loop-index.invariant.going c.at-used.result.now at)

pub overflow_add-moved : goal.overflow_add-moved
overflow_add-moved g c =
    let done : is_ok c.append_chosen.result ≡ true = c.is_err.ensures.negation ∙ ap not c.if-is_err.false in
    let whole = rw done at c.append_chosen.ensures.uses in
    let grown = whole ∙ (λ q. c.take_both-left.ensures.to q ++ chosen ((c.as_slice.ensures ∙ c.take_both-left.ensures.from) q) c.args.answers.now) in
    let at_start = c.len-start.ensures ∙ ap length c.take_both-left.ensures.to in
    let at = ap (λ (ws : List UseIndex). slice_get ws c.loop-index.index) (sym c.take_both-left.ensures.from) ∙ c.at-used.ensures in
    let answer : slice_get c.args.answers.now c.loop-index.index ≡ Some true = slice_get-get_or c.args.answers.now c.loop-index.index false c.loop-index-test.true ∙ ap Some c.if-answer.true in
    let room = chosen-room (g.N.Named.uses_at c.args.records.now c.args.to) (g.N.Named.uses_at c.args.records.now c.args.from) c.args.answers.now c.append_chosen.new.uses c.len-start.result c.loop-index.moved c.loop-index.index c.at-used.result.now grown at_start c.loop-index.invariant.count at answer in
    let bound = c.append_chosen.ensures.size done in
    omega (arith, room, bound)

pub overflow_sub-index : goal.overflow_sub-index
overflow_sub-index g c =
    let count = c.loop-index.invariant.count in
    let test = c.loop-index-test.true in
    let both = counts c.args.answers.now c.loop-index.index (omega (arith, test)) in
    omega (arith, count, both)

pub rename_place-requires-else-answer-clause-live : goal.rename_place-requires-else-answer-clause-live
rename_place-requires-else-answer-clause-live g c =
    let at = ap (λ (ws : List UseIndex). slice_get ws c.loop-index.index) (sym c.take_both-left.ensures.from) ∙ c.at-used.ensures in
    rw c.used-else-answer.ensures (next_live g.met.N.Named.chain c.args.records.now c.take_both-left.new.records c.loop-index.records c.args.from (go_chosen c.args.from c.args.to c.len-start.result c.args.answers.now) c.loop-index.index c.requires.linked c.loop-index.invariant.going c.at-used.result.now at)

pub rename_place-requires-else-answer-clause-distinct : goal.rename_place-requires-else-answer-clause-distinct
rename_place-requires-else-answer-clause-distinct g c =
    let at = ap (λ (ws : List UseIndex). slice_get ws c.loop-index.index) (sym c.take_both-left.ensures.from) ∙ c.at-used.ensures in
    rw c.used-else-answer.ensures (next_numbers g.met.N.Named.chain c.args.records.now c.take_both-left.new.records c.loop-index.records c.args.from (go_chosen c.args.from c.args.to c.len-start.result c.args.answers.now) c.loop-index.index c.requires.linked c.loop-index.invariant.going c.at-used.result.now at)

pub rename_place-requires-else-answer-clause-bound : goal.rename_place-requires-else-answer-clause-bound
rename_place-requires-else-answer-clause-bound g c =
    let done : is_ok c.append_chosen.result ≡ true = c.is_err.ensures.negation ∙ ap not c.if-is_err.false in
    let test = c.loop-index-test.true in
    let bound = c.append_chosen.ensures.count done in
    omega (arith, test, bound)

pub rename_place-requires-else-answer-clause-has : goal.rename_place-requires-else-answer-clause-has
rename_place-requires-else-answer-clause-has g c =
    let at = ap (λ (ws : List UseIndex). slice_get ws c.loop-index.index) (sym c.take_both-left.ensures.from) ∙ c.at-used.ensures in
    rw c.used-else-answer.ensures (next_has g.met.N.Named.chain c.args.records.now c.take_both-left.new.records c.loop-index.records c.args.from (go_chosen c.args.from c.args.to c.len-start.result c.args.answers.now) c.loop-index.index c.requires.linked c.loop-index.invariant.going c.at-used.result.now at)

pub loop-index-preserved : goal.loop-index-preserved
loop-index-preserved g c =
    let at = ap (λ (ws : List UseIndex). slice_get ws c.loop-index.index) (sym c.take_both-left.ensures.from) ∙ c.at-used.ensures in
    let count = c.loop-index.invariant.count in
    let test = c.loop-index-test.true in
    let both = counts c.args.answers.now c.loop-index.index (omega (arith, test)) in
    let there = slice_get-get_or c.args.answers.now c.loop-index.index false c.loop-index-test.true in
    elim c.if-answer.branch [
      | then-answer w ↦
          let answer : slice_get c.args.answers.now c.loop-index.index ≡ Some true = there ∙ ap Some w.if-answer.true in
          record {
            going = next_renamed g.met.N.Named.chain c.args.records.now c.take_both-left.new.records c.loop-index.records c.args.from (go_chosen c.args.from c.args.to c.len-start.result c.args.answers.now) c.loop-index.index c.requires.linked c.loop-index.invariant.going c.at-used.result.now at c.if-answer.records (c.args.to, c.len-start.result + c.loop-index.moved)
                ((λ q. (c.args.to, c.len-start.result + count q)) ∙ sym (goes-chosen c.args.from c.args.to c.len-start.result c.args.answers.now c.loop-index.index (Some true) answer)) (w.records-is ∙ (rw w.used.ensures at w.rename_place.ensures));
            count = w.moved-is ∙ ap (λ (n : ℕ). n + 1) count ∙ sym (count-more c.args.answers.now c.loop-index.index true answer);
          }
      | else-answer w ↦
          let answer : slice_get c.args.answers.now c.loop-index.index ≡ Some false = there ∙ ap Some w.if-answer.false in
          let place : c.loop-index.index - c.loop-index.moved ≡ count_no c.args.answers.now c.loop-index.index = omega (arith, count, both) in
          record {
            going = next_renamed g.met.N.Named.chain c.args.records.now c.take_both-left.new.records c.loop-index.records c.args.from (go_chosen c.args.from c.args.to c.len-start.result c.args.answers.now) c.loop-index.index c.requires.linked c.loop-index.invariant.going c.at-used.result.now at c.if-answer.records (c.args.from, c.loop-index.index - c.loop-index.moved)
                ((λ q. (c.args.from, place q)) ∙ sym (goes-chosen c.args.from c.args.to c.len-start.result c.args.answers.now c.loop-index.index (Some false) answer)) (w.records-is ∙ (rw w.used-else-answer.ensures at w.rename_place-else-answer.ensures));
            count = w.moved-is ∙ count ∙ sym (count-more c.args.answers.now c.loop-index.index false answer);
          }
    ]

pub keep_both-requires-2-clause-from : goal.keep_both-requires-2-clause-from
keep_both-requires-2-clause-from g c = rewrites-has g.met.N.Named.chain c.args.records.now c.loop-index.records c.args.from c.loop-index.invariant.going.rest c.requires.old

pub keep_both-requires-2-clause-to : goal.keep_both-requires-2-clause-to
keep_both-requires-2-clause-to g c = rewrites-has g.met.N.Named.chain c.args.records.now c.loop-index.records c.args.to c.loop-index.invariant.going.rest c.requires.named

pub returns-clause-linked : goal.returns-clause-linked
returns-clause-linked g c =
    let done : is_ok c.append_chosen.result ≡ true = c.is_err.ensures.negation ∙ ap not c.if-is_err.false in
    let whole = rw done at c.append_chosen.ensures.uses in
    let grown = whole ∙ (λ q. c.take_both-left.ensures.to q ++ chosen ((c.as_slice.ensures ∙ c.take_both-left.ensures.from) q) c.args.answers.now) in
    let at_start = c.len-start.ensures ∙ ap length c.take_both-left.ensures.to in
    let count = c.requires.count in
    let over = c.loop-index-test.false in
    let past : length (g.N.Named.uses_at c.args.records.now c.args.from) ≤ c.loop-index.index = omega (arith, count, over) in
    some_linked g.met.N.Named.chain c.args.records.now c.take_both-left.new.records c.args.from c.args.to c.requires.linked c.requires.old c.requires.named (λ e. false≢true (sym c.if-is_same.false ∙ c.is_same.ensures.1 e)) c.take_both-left.ensures.records c.loop-index.records c.keep_both-2.new.records c.len-start.result c.loop-index.index c.args.answers.now at_start c.loop-index.invariant.going past c.append_chosen.new.uses c.keep_others.new.uses c.keep_both-2.ensures c.requires.count grown (c.keep_others.ensures ∙ ap (λ (us : List UseIndex). left_out us c.args.answers.now) c.take_both-left.ensures.from)

pub returns-clause-names : goal.returns-clause-names
returns-clause-names g c =
    let done : is_ok c.append_chosen.result ≡ true = c.is_err.ensures.negation ∙ ap not c.if-is_err.false in
    let whole = rw done at c.append_chosen.ensures.uses in
    let grown = whole ∙ (λ q. c.take_both-left.ensures.to q ++ chosen ((c.as_slice.ensures ∙ c.take_both-left.ensures.from) q) c.args.answers.now) in
    let at_start = c.len-start.ensures ∙ ap length c.take_both-left.ensures.to in
    let count = c.requires.count in
    let over = c.loop-index-test.false in
    let past : length (g.N.Named.uses_at c.args.records.now c.args.from) ≤ c.loop-index.index = omega (arith, count, over) in
    some_names g.met.N.Named.chain c.args.records.now c.take_both-left.new.records c.args.from c.args.to c.requires.linked c.requires.old c.requires.named (λ e. false≢true (sym c.if-is_same.false ∙ c.is_same.ensures.1 e)) c.take_both-left.ensures.records c.loop-index.records c.keep_both-2.new.records c.len-start.result c.loop-index.index c.args.answers.now at_start c.loop-index.invariant.going past c.append_chosen.new.uses c.keep_others.new.uses c.keep_both-2.ensures

pub returns-clause-rest : goal.returns-clause-rest
returns-clause-rest g c = by_uses _ _ _ _ (by_uses _ _ _ _ c.loop-index.invariant.going.rest refl) c.keep_both-2.ensures

pub returns-then-is_err-clause-itself : goal.returns-then-is_err-clause-itself
returns-then-is_err-clause-itself g c e = absurd (false≢true (sym c.if-is_same.false ∙ c.is_same.ensures.1 e))
