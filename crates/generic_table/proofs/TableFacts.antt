-- What the table is found to be by computing.
use Rattle.std.proofs.Common.{◌≡◌, ◌&&◌, ◌||◌, not, ℕ, ◌-◌, ◌<◌, ◌≤◌, Bool, true, false, List, length, take, drop, leb, leb-true, refl, sym, ap, subst, ◌∙◌, true≢false, All, get_or, arith}
use Rattle.std.specs.List.{list_all}
use Rattle.std.proofs.lemmas.List.Sums.{AllPass-from_list_all}
use Rattle.generic_table.specs.declared.traits.Traits.{Traits}
use Rattle.generic_table.specs.Cut.{Row, Operation, cut}
use Rattle.generic_table.specs.Table.{all_names, rows, operations}
use Rattle.generic_table.proofs.CutLemmas.{length-cut, placed, cut_at, start_at}
use Rattle.generic_table.specs.Safe.{is_safe, names_rise, ends_rise, IsSafe}

pub operations-names_rise : names_rise operations ≡ true
unfolding operations all_names rows cut names_rise
operations-names_rise = refl

pub rows-ends_rise : ends_rise (length all_names) 0 rows ≡ true
unfolding all_names rows ends_rise
rows-ends_rise = refl

few : leb (length rows) 65536 ≡ true
unfolding rows
few = refl

pub rows-few : length rows ≤ 65536
rows-few = leb-true (length rows) 65536 few

operations-safe : list_all (λ (o : Operation). is_safe o.1) operations ≡ true
unfolding operations all_names rows cut
operations-safe = refl

safe : (t : Traits) → is_safe t ≡ true → IsSafe t
safe t e = by t.pure_operation t.terminator t.symbol t.regions t.dominance refl refl refl refl refl e
  where
    by : (p e s r d : Bool) → t.pure_operation ≡ p → t.terminator ≡ e → t.symbol ≡ s → t.regions ≡ r → t.dominance ≡ d → ((not p || (not e && (not s && not r))) && (not d || r)) ≡ true → IsSafe t
    by false e s r true f g h i j k = record { ends_no_block = λ u. absurd (true≢false (sym u ∙ f)); no_symbol = λ u. absurd (true≢false (sym u ∙ f)); no_region = λ u. absurd (true≢false (sym u ∙ f)); has_region = λ _. i ∙ k }
    by false e s r false f g h i j k = record { ends_no_block = λ u. absurd (true≢false (sym u ∙ f)); no_symbol = λ u. absurd (true≢false (sym u ∙ f)); no_region = λ u. absurd (true≢false (sym u ∙ f)); has_region = λ u. absurd (true≢false (sym u ∙ j)) }
    by true false false false true f g h i j k = absurd (true≢false (sym k))
    by true false false false false f g h i j k = record { ends_no_block = λ _. g; no_symbol = λ _. h; no_region = λ _. i; has_region = λ u. absurd (true≢false (sym u ∙ j)) }
    by true false false true d f g h i j k = absurd (true≢false (sym k))
    by true false true r d f g h i j k = absurd (true≢false (sym k))
    by true true s r d f g h i j k = absurd (true≢false (sym k))

pub operations-IsSafe : All (λ (o : Operation). IsSafe o.1) operations
operations-IsSafe k d lt = safe (get_or operations k d).1 (AllPass-from_list_all (λ (o : Operation). is_safe o.1) operations operations-safe k d lt)

pub operations-length : length operations ≡ length rows
unfolding operations
operations-length = length-cut 0 all_names rows

-- where the name of a row stands among all names, and what is said of its operation
pub record IsRow (row start end : ℕ) (traits : Traits) : Type 0 where
  pub forward : start ≤ end
  pub within : end ≤ length all_names
  pub name : (d : Operation) → take (end - start) (drop start all_names) ≡ (get_or operations row d).0
  pub said : (d : Operation) → traits ≡ (get_or operations row d).1

pub row_facts : (row start : ℕ) (rs : List Row) (e : Row) → row < length operations → rs ≡ rows → start ≡ start_at 0 rows row → IsRow row start (get_or rs row e).0 (get_or rs row e).1
unfolding operations
row_facts row start rs e lt same begins =
    let less : row < length rows = let n = operations-length in omega (arith, lt, n) in
    let there = placed (length all_names) 0 rows row e rows-ends_rise less in
    let here = λ (d : Operation). cut_at (length all_names) 0 all_names rows row d e rows-ends_rise less in
    let from : start_at 0 rows row - 0 ≡ start_at 0 rows row = omega arith in
    subst (λ (r : Row). IsRow row start r.0 r.1) (ap (λ (q : List Row). get_or q row e) (sym same))
    (subst (λ (n : ℕ). IsRow row n (get_or rows row e).0 (get_or rows row e).1) (sym begins)
    (record {
      forward = there.forward;
      within = there.within;
      name = λ d. ap (λ (n : ℕ). take ((get_or rows row e).0 - start_at 0 rows row) (drop n all_names)) (sym from) ∙ sym (ap (λ (o : Operation). o.0) (here d));
      said = λ d. sym (ap (λ (o : Operation). o.1) (here d));
    }))

-- stands where no row is
abbrev pub no_row : Row
no_row = (0, record { terminator = false; no_terminator = false; dominance = false; pure_operation = false; symbol = false; regions = false })
