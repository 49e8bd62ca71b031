use Rattle.std.proofs.Common.{◌≡◌, ◌+◌, ◌-◌, ◌<◌, ◌≤◌, ◌&&◌, ◌||◌, ℕ, Bool, true, cond, bytes_eq, List, [], length, get_or, set, Option, Some, None, IfSome, refl, sym, ap, subst, ◌∙◌, ⊎_elim, arith}
use Rattle.std.proofs.lemmas.Bool.{cases_eq}
use Rattle.ir_text_names.specs.Blocks.{misses}
use Rattle.ir_text_names.specs.NamedRows.{named_row}
use Rattle.ir_text_names.specs.Rows.{text_of, row_regions, regions_behind}
use Rattle.ir_text_names.specs.Values.{reached, begins_before, IsNamedBefore, IsNamedUnlessAgain}
use Rattle.ir_text_names.proofs.Gates.{asked_is, begin_gated, lack_gated, gated_within, reach_within, set_if_same, set_if_other, set_if_long}
use Rattle.ir_text_names.proofs.Scopes.{length-scopes_from}
use Rattle.ir_text_names.proofs.ValueFaults.{completed}
use Rattle.ir_text_names.proofs.ValuesBehind.{AreWidest, widest_more, known_within}
use Rattle.ir_text_names.proofs.value_names.named_behind.Goals as goal

long_regions : (rows : _) (regions : List ℕ) → regions ≡ row_regions rows → length regions ≡ length rows
long_regions rows regions e = ap length e ∙ length-scopes_from regions_behind [] 0 rows

pub reached-requires : goal.reached-requires
reached-requires c =
    let l = c.loop-at in
    let m = length c.args.regions.now in
    let known = named_row l.widest in
    let name = c.piece-name.result.now in
    let long = long_regions c.args.rows.now c.args.regions.now c.requires.regions in
    let le : length c.args.rows.now ≤ m = omega (arith, long) in
    gated_within (c.defines-is.result || c.misses-lacks.result) (known name) c.find_if-behind.result m (asked_is c.defines-is.result c.misses-lacks.result c.any.result (known name) c.find_if-behind.result c.any.ensures c.find_if-behind.ensures) (known_within c.args.text.now c.args.rows.now l.at m known name (known name) l.invariant.widest refl le)

pub set_if-requires-clause-within : goal.set_if-requires-clause-within
set_if-requires-clause-within c = let l = c.loop-at in omega (arith, l.invariant.within, l.invariant.room, c.loop-at-test.true)

pub set_if-requires-clause-few : goal.set_if-requires-clause-few
set_if-requires-clause-few c =
    let l = c.loop-at in
    let m : ℕ = 4294967295 in
    let known = named_row l.widest in
    let name = c.piece-name.result.now in
    let behind = c.find_if-behind.result in
    let le : length c.args.rows.now ≤ m = omega (arith, c.requires.few) in
    let few : IfSome behind (λ d. d < m) =
    gated_within (c.defines-is.result || c.misses-lacks.result) (known name) behind m (asked_is c.defines-is.result c.misses-lacks.result c.any.result (known name) c.find_if-behind.result c.any.ensures c.find_if-behind.ensures) (known_within c.args.text.now c.args.rows.now l.at m known name (known name) l.invariant.widest refl le) in
    subst (λ (o : Option ℕ). IfSome o (λ d. d < m)) (sym c.reached.ensures) (reach_within c.args.regions.now (l.at - 1) behind m few)

pub begins_before-requires-clause-row : goal.begins_before-requires-clause-row
begins_before-requires-clause-row c =
    let l = c.loop-at in
    let long = long_regions c.args.rows.now c.args.regions.now c.requires.regions in
    omega (arith, long, l.invariant.within, c.loop-at-test.true)

pub begins_before-requires-clause-other : goal.begins_before-requires-clause-other
begins_before-requires-clause-other c =
    let l = c.loop-at in
    let m = length c.args.regions.now in
    let known = named_row l.widest in
    let name = c.piece-name.result.now in
    let long = long_regions c.args.rows.now c.args.regions.now c.requires.regions in
    let le : length c.args.rows.now ≤ m = omega (arith, long) in
    gated_within (c.defines-is.result || c.misses-lacks.result) (known name) c.find_if-behind.result m (asked_is c.defines-is.result c.misses-lacks.result c.any.result (known name) c.find_if-behind.result c.any.ensures c.find_if-behind.ensures) (known_within c.args.text.now c.args.rows.now l.at m known name (known name) l.invariant.widest refl le)

pub loop-at-preserved : goal.loop-at-preserved
loop-at-preserved c =
    let l = c.loop-at in
    let text = c.args.text.now in
    let rows = c.args.rows.now in
    let regions = c.args.regions.now in
    let n = l.at - 1 in
    let known = named_row l.widest in
    let up : l.at ≡ n + 1 = omega (arith, c.loop-at-test.true) in
    let before : n < length rows = omega (arith, l.invariant.within, c.loop-at-test.true) in
    let room : n < length l.table = omega (arith, l.invariant.room, before) in
    let widest : AreWidest text rows (n + 1) known = subst (λ (k : ℕ). AreWidest text rows k known) up l.invariant.widest in
    let behind = c.find_if-behind.result in
    let holds = c.defines-is.result in
    let lacks = c.misses-lacks.result in
    let name = c.piece-name.ensures in
    let k = known (text_of text rows n) in
    let old = get_or l.table n None in
    let lacking = c.misses-lacks.ensures in
    let behind_is : behind ≡ cond (holds || lacks) k None = asked_is holds lacks c.any.result (known c.piece-name.result.now) behind c.any.ensures c.find_if-behind.ensures ∙ ap (λ (t : List ℕ). cond (holds || lacks) (known t) None) name in
    let begins : c.begins_before.result ≡ begins_before holds (row_regions rows) n k =
    c.begins_before.ensures ∙ ap (λ (r : List ℕ). begins_before holds r n behind) c.requires.regions ∙ ap (begins_before holds (row_regions rows) n) behind_is ∙ begin_gated holds lacks (row_regions rows) n k in
    let reach : lacks ≡ true → c.reached.result ≡ reached (row_regions rows) n k =
    λ t. c.reached.ensures ∙ ap (λ (r : List ℕ). reached r n behind) c.requires.regions ∙ ap (reached (row_regions rows) n) (behind_is ∙ lack_gated holds lacks k t) in
    let entry : IsNamedUnlessAgain text rows n (cond lacks c.reached.result old) =
    completed text rows n known c.is_operand.result lacks old c.reached.result widest c.is_operand.ensures (lacking ∙ ap (λ (o : Option ℕ). misses c.is_operand.result o) c.get.ensures) reach (l.invariant.rest n (omega (arith, up))) in
    let table : List (Option ℕ) = cond lacks (set l.table n c.reached.result) l.table in
    let is : c.set_if.new.table ≡ table = c.set_if.ensures in
    record {
      within = omega (arith, l.invariant.within);
      limit = omega (arith, c.in_ok-put_if.ensures.limit, l.invariant.limit);
      room = ap length is ∙ set_if_long lacks l.table n c.reached.result ∙ l.invariant.room;
      widest = widest_more text rows n holds known (named_row c.put_if.new.self) before c.defines-is.ensures
          (λ m. c.in_ok-put_if.ensures.puts m ∙ ap (λ (b : Bool). cond (b && bytes_eq c.piece-name.result.now m) (Some n) (known m)) begins
          ∙ ap (λ (t : List ℕ). cond (begins_before holds (row_regions rows) n k && bytes_eq t m) (Some n) (known m)) name) widest;
      rest = λ u lt. subst (IsNamedBefore text rows u) (sym (ap (λ (t : List (Option ℕ)). get_or t u None) is ∙ set_if_other lacks l.table n u c.reached.result (λ e. absurd (omega (arith, lt, e))))) (l.invariant.rest u (omega (arith, lt, up)));
      table = λ u le lt.
          ⊎_elim (λ (e : n ≡ u). subst (λ (x : ℕ). IsNamedUnlessAgain text rows x (get_or c.set_if.new.table x None)) e (subst (IsNamedUnlessAgain text rows n) (sym (ap (λ (t : List (Option ℕ)). get_or t n None) is ∙ set_if_same lacks l.table n c.reached.result room)) entry))
          (λ (apart : n ≡ u → ⊥). subst (IsNamedUnlessAgain text rows u) (sym (ap (λ (t : List (Option ℕ)). get_or t u None) is ∙ set_if_other lacks l.table n u c.reached.result (λ e. apart (sym e)))) (l.invariant.table u (omega (arith, up, le, lt)) lt)) (cases_eq n u);
    }

pub returns : goal.returns
returns c =
    let l = c.loop-at in
    (l.invariant.room, λ u lt. l.invariant.table u (omega (arith, c.loop-at-test.false)) lt)
