use Rattle.std.proofs.Common.{rules, ◌≡◌, ◌+◌, ◌<◌, ◌≤◌, ◌&&◌, ◌||◌, ◌++◌, ◌∷◌, ℕ, Bool, false, cond, nat_eq, bytes_eq, List, [], length, get_or, Option, Some, None, IfSome, refl, sym, ap, subst, ◌∙◌, arith}
use Rattle.std.proofs.lemmas.Bool.{false≢true}
use Rattle.std.proofs.lemmas.List.{length-replicate}
use Rattle.ir_text_tree.specs.declared.row.Part.TheVariants as parts
use Rattle.ir_text_names.specs.Firsts.{IsFirst}
use Rattle.ir_text_names.specs.NamedRows.{named_row}
use Rattle.ir_text_names.specs.Rows.{part_of, text_of, row_regions, region_of, regions_behind}
use Rattle.ir_text_names.specs.Values.{still_open, clashes, AreNamedBefore, IsMissing, IsNamedBefore, IsValueAgain}
use Rattle.ir_text_names.proofs.FirstRows.{first_none, first_kept, first_more_clear}
use Rattle.ir_text_names.proofs.Entries.{none_there}
use Rattle.ir_text_names.proofs.Gates.{or_none, named_is_no_close, gated_within, open_within}
use Rattle.ir_text_names.proofs.Scopes.{length-scopes_from, region_at_most}
use Rattle.ir_text_names.proofs.Tables.{entries_more, missing_more, missing_kept, misses_is, misses_told}
use Rattle.ir_text_names.proofs.ValuesBefore.{AreLast, AreEnds, last_none, last_more, ends_none, ends_more, known_within, named_before_is, clash_is, clash_told}
use Rattle.ir_text_names.proofs.value_names.named_before.Goals as goal
use Rattle.ir_text_names.proofs.value_names.named_before.Goals.{then-any+in_ok-push+in_ok-put_if, else-any+in_ok-push-2}

long_regions : (rows : _) (regions : List ℕ) → regions ≡ row_regions rows → length regions ≡ length rows
long_regions rows regions e = ap length e ∙ length-scopes_from regions_behind [] 0 rows

pub loop-at-init : goal.loop-at-init
loop-at-init c =
    let text = c.args.text.now in
    let rows = c.args.rows.now in
    record {
      limit = omega (arith, c.new-last.ensures.limit, c.requires.few);
      last = last_none text rows (named_row c.new-last.result) c.new-last.ensures.none;
      long = ap length c.in_ok-ends.ensures ∙ length-replicate (length rows) None;
      ends = ends_none rows (λ (s : ℕ). get_or c.in_ok-ends.ends s None) (λ s. ap (λ (t : List (Option ℕ)). get_or t s None) c.in_ok-ends.ensures ∙ none_there (length rows) s);
      table = (ap length c.in_ok-table.ensures, λ u lt. absurd (omega (arith, lt)));
      again = first_none (IsValueAgain text rows);
      missing = first_none (IsMissing rows c.in_ok-table.table);
    }

pub still_open-around-requires : goal.still_open-around-requires
still_open-around-requires c =
    let l = c.loop-at in
    let m = length c.args.regions.now in
    let known = named_row l.last in
    let name = c.piece-name.result.now in
    let long = long_regions c.args.rows.now c.args.regions.now c.requires.regions in
    let le : l.at ≤ m = omega (arith, long, c.loop-at-test.true) in
    subst (λ (o : Option ℕ). IfSome o (λ d. d < m)) (sym c.find_if-before.ensures) (known_within c.args.text.now c.args.rows.now l.at m known name (known name) l.invariant.last refl le)

pub bounds-regions-at : goal.bounds-regions-at
bounds-regions-at c = let long = long_regions c.args.rows.now c.args.regions.now c.requires.regions in omega (arith, long, c.loop-at-test.true)

pub bounds-regions-at-else-any : goal.bounds-regions-at-else-any
bounds-regions-at-else-any c = let long = long_regions c.args.rows.now c.args.regions.now c.requires.regions in omega (arith, long, c.loop-at-test.true)

pub push-requires : goal.push-requires
push-requires c =
    let l = c.loop-at in
    let m : ℕ = 4294967295 in
    let known = named_row l.last in
    let name = c.piece-name.result.now in
    let uses = c.is_operand-uses.result in
    let before = c.find_if-before.result in
    let around = c.still_open-around.result in
    let le : l.at ≤ m = omega (arith, c.requires.few, c.loop-at-test.true) in
    let few : IfSome before (λ d. d < m) = subst (λ (o : Option ℕ). IfSome o (λ d. d < m)) (sym c.find_if-before.ensures) (known_within c.args.text.now c.args.rows.now l.at m known name (known name) l.invariant.last refl le) in
    let opened : IfSome around (λ d. d < m) =
    subst (λ (o : Option ℕ). IfSome o (λ d. d < m)) (sym c.still_open-around.ensures) (open_within (λ (s : ℕ). get_or l.ends s None) c.args.regions.now before m few) in
    gated_within uses around c.only_if-found.result m c.only_if-found.ensures opened

pub end_if-requires-clause-within : goal.end_if-requires-clause-within
end_if-requires-clause-within c =
    let l = c.loop-at in
    let same : get_or c.args.regions.now l.at 0 ≡ region_of c.args.rows.now l.at = ap (λ (r : List ℕ). get_or r l.at 0) c.requires.regions in
    let le = region_at_most c.args.rows.now l.at in
    omega (arith, same, le, l.invariant.long, c.loop-at-test.true)

pub returns-clause-again : goal.returns-clause-again
returns-clause-again c =
    let l = c.loop-at in
    let end : l.at ≡ length c.args.rows.now = omega arith in
    subst (λ (n : ℕ). IsFirst (IsValueAgain c.args.text.now c.args.rows.now) n l.again) end l.invariant.again

pub loop-at-preserved : goal.loop-at-preserved
loop-at-preserved c =
    let l = c.loop-at in
    let text = c.args.text.now in
    let rows = c.args.rows.now in
    let known = named_row l.last in
    let ends : ℕ → Option ℕ = λ s. get_or l.ends s None in
    let holds = c.defines-is.result in
    let uses = c.is_operand-uses.result in
    let k = known (text_of text rows l.at) in
    let still : Option ℕ → Option ℕ = still_open ends (row_regions rows) in
    let within : l.at < length rows = c.loop-at-test.true in
    elim c.if-any.branch [
      | then-any+in_ok-push+in_ok-put_if w ↦
          let name = w.piece-name.ensures in
          let before = w.find_if-before.result in
          let around = w.still_open-around.result in
          let before_is : before ≡ k = w.find_if-before.ensures ∙ ap known name in
          let around_is : around ≡ still k = w.still_open-around.ensures ∙ ap (λ (r : List ℕ). still_open ends r before) c.requires.regions ∙ ap still before_is in
          let clash : w.clashes.result ≡ clashes holds k (still k) (region_of rows l.at) =
          w.clashes.ensures ∙ ap (λ (o : Option ℕ). clashes holds o around (get_or c.args.regions.now l.at 0)) before_is
          ∙ ap (λ (o : Option ℕ). clashes holds k o (get_or c.args.regions.now l.at 0)) around_is
          ∙ ap (λ (r : List ℕ). clashes holds k (still k) (get_or r l.at 0)) c.requires.regions in
          let named : IsNamedBefore text rows l.at w.only_if-found.result =
          named_before_is text rows l.at known ends uses w.only_if-found.result l.invariant.last l.invariant.ends c.is_operand-uses.ensures (w.only_if-found.ensures ∙ ap (λ (o : Option ℕ). cond uses o None) around_is) in
          let pushed : w.push.new.self ≡ l.table ++ w.only_if-found.result ∷ [] = search rules in
          let goes_on : part_of rows l.at ≡ parts.Close → ⊥ = named_is_no_close (part_of rows l.at) holds uses c.defines-is.ensures c.is_operand-uses.ensures (sym c.any.ensures ∙ w.if-any.true) in
          record {
            limit = subst (λ (x : _). x.limit ≤ 4294967295) (sym w.last-is) (omega (arith, w.in_ok-put_if.ensures.limit, l.invariant.limit));
            last = subst (λ (x : _). AreLast text rows (l.at + 1) (named_row x)) (sym w.last-is)
                (last_more text rows l.at holds known (named_row w.put_if.new.self) within c.defines-is.ensures
                (λ m. w.in_ok-put_if.ensures.puts m ∙ ap (λ (t : List ℕ). cond (holds && bytes_eq t m) (Some l.at) (known m)) name) l.invariant.last);
            long = ap length w.ends-is ∙ l.invariant.long;
            ends = subst (λ (t : List (Option ℕ)). AreEnds rows (l.at + 1) (λ (s : ℕ). get_or t s None)) (sym w.ends-is)
                (ends_more rows l.at false ends ends ((λ e. absurd (false≢true e)), λ e. absurd (goes_on e)) (λ s. refl) l.invariant.ends);
            table = subst (λ (t : List (Option ℕ)). AreNamedBefore text rows (l.at + 1) t) (sym w.table-is) (entries_more (IsNamedBefore text rows) l.at w.only_if-found.result l.table w.push.new.self named pushed l.invariant.table);
            again = subst (λ (o : Option ℕ). IsFirst (IsValueAgain text rows) (l.at + 1) o) (sym (w.again-is ∙ w.noted-again.ensures))
                (first_more_clear (IsValueAgain text rows) l.at l.again w.clashes.result (λ e. clash_is text rows l.at known ends holds within l.invariant.last l.invariant.ends c.defines-is.ensures (sym clash ∙ e))
                (λ clear again. clash ∙ clash_told text rows l.at known ends holds l.invariant.last l.invariant.ends c.defines-is.ensures clear again) l.invariant.again);
            missing = subst (λ (t : List (Option ℕ)). IsFirst (IsMissing rows t) (l.at + 1) c.if-any.missing) (sym w.table-is)
                (subst (λ (o : Option ℕ). IsFirst (IsMissing rows w.push.new.self) (l.at + 1) o) (sym (w.missing-is ∙ w.noted-missing.ensures))
                (missing_more rows l.at l.missing w.misses.result w.only_if-found.result l.table w.push.new.self pushed l.invariant.table.0
                (λ e. let both = misses_is uses w.only_if-found.result (sym w.misses.ensures ∙ e) in (c.is_operand-uses.ensures.0 both.0, both.1))
                (λ m. w.misses.ensures ∙ misses_told uses w.only_if-found.result (c.is_operand-uses.ensures.1 m.0) m.1) l.invariant.missing));
          }
      | else-any+in_ok-push-2 w ↦
          let neither = or_none holds uses (sym c.any.ensures ∙ w.if-any.false) in
          let named : IsNamedBefore text rows l.at None =
          named_before_is text rows l.at known ends uses None l.invariant.last l.invariant.ends c.is_operand-uses.ensures (sym (ap (λ (b : Bool). cond b (still k) None) neither.1)) in
          let pushed : w.push-else-any.new.self ≡ l.table ++ None ∷ [] = search rules in
          let unused : part_of rows l.at ≡ parts.Operand → ⊥ = λ e. false≢true (sym neither.1 ∙ c.is_operand-uses.ensures.1 e) in
          record {
            limit = subst (λ (x : _). x.limit ≤ 4294967295) (sym w.last-is) l.invariant.limit;
            last = subst (λ (x : _). AreLast text rows (l.at + 1) (named_row x)) (sym w.last-is)
                (last_more text rows l.at false known known within (sym neither.0 ∙ c.defines-is.ensures) (λ m. refl) l.invariant.last);
            long = ap length w.ends-is ∙ w.end_if.ensures.long ∙ l.invariant.long;
            ends = subst (λ (t : List (Option ℕ)). AreEnds rows (l.at + 1) (λ (s : ℕ). get_or t s None)) (sym w.ends-is)
                (ends_more rows l.at w.is_close.result ends (λ (s : ℕ). get_or w.end_if.new.ends s None) w.is_close.ensures
                (λ s. w.end_if.ensures.ends s ∙ ap (λ (r : List ℕ). cond (w.is_close.result && nat_eq (get_or r l.at 0) s) (Some l.at) (ends s)) c.requires.regions) l.invariant.ends);
            table = subst (λ (t : List (Option ℕ)). AreNamedBefore text rows (l.at + 1) t) (sym w.table-is) (entries_more (IsNamedBefore text rows) l.at None l.table w.push-else-any.new.self named pushed l.invariant.table);
            again = subst (λ (o : Option ℕ). IsFirst (IsValueAgain text rows) (l.at + 1) o) (sym w.again-is)
                (first_kept (IsValueAgain text rows) l.at l.again (λ again. false≢true (sym neither.0 ∙ c.defines-is.ensures ∙ again.0.1)) l.invariant.again);
            missing = subst (λ (t : List (Option ℕ)). IsFirst (IsMissing rows t) (l.at + 1) c.if-any.missing) (sym w.table-is)
                (subst (λ (o : Option ℕ). IsFirst (IsMissing rows w.push-else-any.new.self) (l.at + 1) o) (sym w.missing-is)
                (missing_kept rows l.at l.missing None l.table w.push-else-any.new.self pushed l.invariant.table.0 unused l.invariant.missing));
          }
    ]

pub returns-clause-missing : goal.returns-clause-missing
returns-clause-missing c =
    let l = c.loop-at in
    let end : l.at ≡ length c.args.rows.now = omega arith in
    subst (λ (n : ℕ). IsFirst (IsMissing c.args.rows.now l.table) n l.missing) end l.invariant.missing
