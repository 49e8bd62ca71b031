use Rattle.std.proofs.Common.{◌≡◌, ℕ, List, length, get_or, Option, sym, ap, subst, ◌∙◌}
use Rattle.ir_text_names.specs.declared.firsts.Found.{Found}
use Rattle.ir_text_names.specs.declared.fault.Wrong.TheVariants as wrongs
use Rattle.ir_text_names.specs.Firsts.{IsFirst, IsFirstWrong, told, sooner}
use Rattle.ir_text_names.specs.Numbers.{HasOtherResults, IsResultWrong}
use Rattle.ir_text_names.specs.Operations.{number_of}
use Rattle.ir_text_names.proofs.ResultNumbers.{other_results, result_wrong}
use Rattle.ir_text_names.proofs.result_numbers.result_fault.Goals as goal

first_of_both : (found a b : Option Found) (bad other : Option ℕ) → found ≡ sooner a b → a ≡ told bad wrongs.ResultCount → b ≡ told other wrongs.ResultTypes → sooner (told bad wrongs.ResultCount) (told other wrongs.ResultTypes) ≡ found
first_of_both found a b bad other e f g = sym (e ∙ ap (λ (x : Option Found). sooner x b) f ∙ ap (sooner (told bad wrongs.ResultCount)) g)

pub first_other_results-other-requires-clause-few : goal.first_other_results-other-requires-clause-few
first_other_results-other-requires-clause-few c = c.requires.few

pub first_other_results-other-requires-clause-types : goal.first_other_results-other-requires-clause-types
first_other_results-other-requires-clause-types c = ap length c.deref.ensures.value ∙ c.requires.types.room

pub returns : goal.returns
returns c =
    let text = c.args.text.now in
    let rows = c.args.rows.now in
    let bad = c.first_bad_count.result in
    let other = c.first_other_results-other.result in
    let is : IsFirst (HasOtherResults text rows) (length rows) other =
    other_results text rows c.deref.result.now other (λ k known le. ap (λ (xs : List ℕ). get_or xs (number_of rows k) 0) c.deref.ensures.value ∙ c.requires.types.counted k known le) c.first_other_results-other.ensures in
    subst (IsFirstWrong (IsResultWrong text rows) (length rows)) (first_of_both c.sooner.result c.told-unread.result c.told-uneven.result bad other c.sooner.ensures c.told-unread.ensures c.told-uneven.ensures)
    (result_wrong text rows bad other c.first_bad_count.ensures is)
