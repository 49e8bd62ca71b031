-- What operands name, and the first fault of values' names.
use Rattle.std.proofs.Common.{◌≡◌, ◌⊎◌, ◌↔◌, ℕ, ◌+◌, ◌<◌, ◌≤◌, Bool, true, false, cond, leb, List, length, get_or, Option, Some, None, refl, sym, ap, subst, ◌∙◌, inl, inr, ⊎_elim, leb-true, leb-false, arith}
use Rattle.std.proofs.lemmas.Bool.{cases_order, false≢true}
use Rattle.ir_text_tree.specs.declared.row.Part.{Part}
use Rattle.ir_text_tree.specs.declared.row.Part.TheVariants as parts
use Rattle.ir_text_tree.specs.declared.row.Row.{Row}
use Rattle.ir_text_names.specs.declared.fault.Wrong.{Wrong}
use Rattle.ir_text_names.specs.declared.fault.Wrong.TheVariants as wrongs
use Rattle.ir_text_names.specs.Blocks.{misses}
use Rattle.ir_text_names.specs.Rows.{part_of, text_of, row_regions}
use Rattle.ir_text_names.specs.Firsts.{IsFirst, IsFirstWrong, told, sooner}
use Rattle.ir_text_names.proofs.Tables.{misses_is, misses_told}
use Rattle.ir_text_names.proofs.ValuesBehind.{AreWidest, named_behind_is}
use Rattle.ir_text_names.specs.Values.{defines, NamesValue, IsValueNamed, AreValuesNamed, NamesNoValue, IsValueAgain, IsValueWrong, reached, either, IsClear, IsNamedBefore, IsNamedBehind, IsNamedUnlessAgain, IsMissing}

-- an operand defines nothing
operand_defines : (p : Part) → p ≡ parts.Operand → defines p ≡ true → ⊥
operand_defines p e d = false≢true (sym (ap defines e) ∙ d)

either_is : (text : List ℕ) (rows : List Row) (u : ℕ) (a b : Option ℕ) → IsNamedBefore text rows u a → IsNamedBehind text rows u b → IsNamedUnlessAgain text rows u (either a b)
either_is text rows u (Some d) b h g = h
either_is text rows u None (Some d) h g = g
either_is text rows u None None h g =
    λ clear d names.
    ⊎_elim (λ (e : d ≡ u). operand_defines (part_of rows u) names.0 (subst (λ (k : ℕ). defines (part_of rows k) ≡ true) e names.1.1))
    (λ (o : (d < u) ⊎ (u < d)). ⊎_elim (λ (lt : d < u). h clear d lt names) (λ (lt : u < d). g d lt names) o) (cases_order d u)

-- what is found behind the row, where nothing is found before it
pub completed : (text : List ℕ) (rows : List Row) (n : ℕ) (known : List ℕ → Option ℕ) (uses lacks : Bool) (old reach : Option ℕ) → AreWidest text rows (n + 1) known → ((uses ≡ true) ↔ (part_of rows n ≡ parts.Operand)) → lacks ≡ misses uses old
    → (lacks ≡ true → reach ≡ reached (row_regions rows) n (known (text_of text rows n))) → IsNamedBefore text rows n old → IsNamedUnlessAgain text rows n (cond lacks reach old)
completed text rows n known uses true old reach widest is e found h =
    let both = misses_is uses old (sym e) in
    either_is text rows n None reach (subst (IsNamedBefore text rows n) both.1 h)
    (named_behind_is text rows n known uses reach widest is (found refl ∙ sym (ap (λ (b : Bool). cond b (reached (row_regions rows) n (known (text_of text rows n))) None) both.0)))
completed text rows n known uses false (Some d) reach widest is e found h = h
completed text rows n known uses false None reach widest is e found h = λ clear d names. false≢true (e ∙ misses_told uses None (is.1 names.0) refl)

entry_full : (text : List ℕ) (rows : List Row) (u : ℕ) (o : Option ℕ) → IsNamedBefore text rows u o → ((part_of rows u ≡ parts.Operand) × (o ≡ None) → ⊥) → IsNamedUnlessAgain text rows u o
entry_full text rows u (Some d) h full = h
entry_full text rows u None h full = λ clear d names. full (names.0, refl)

-- where each operand names something before it
pub none_missing : (text : List ℕ) (rows : List Row) (table : List (Option ℕ)) → IsFirst (IsMissing rows table) (length rows) None → ((u : ℕ) → u < length rows → IsNamedBefore text rows u (get_or table u None)) → (u : ℕ) → u < length rows
    → IsNamedUnlessAgain text rows u (get_or table u None)
none_missing text rows table full h u lt = entry_full text rows u (get_or table u None) (h u lt) (full u lt)

unless_none : (text : List ℕ) (rows : List Row) (u : ℕ) (o : Option ℕ) → IsNamedUnlessAgain text rows u o → o ≡ None → IsClear text rows u → (d : ℕ) → NamesValue text rows u d → ⊥
unless_none text rows u o h e = subst (λ (x : Option ℕ). IsNamedUnlessAgain text rows u x → IsClear text rows u → (d : ℕ) → NamesValue text rows u d → ⊥) (sym e) (λ h. h) h

none_if : (text : List ℕ) (rows : List Row) (u : ℕ) (o : Option ℕ) → IsNamedUnlessAgain text rows u o → ((d : ℕ) → NamesValue text rows u d → ⊥) → o ≡ None
none_if text rows u None h none = refl
none_if text rows u (Some d) h none = absurd (none d h)

wrong_split : (text : List ℕ) (rows : List Row) (v : Wrong) (k : ℕ) → IsValueWrong text rows v k → IsValueAgain text rows k ⊎ NamesNoValue text rows k
wrong_split text rows wrongs.ValueTwice k h = inl h
wrong_split text rows wrongs.UnknownValue k h = inr h
wrong_split text rows _ k h = absurd h

-- the row is an operand, and nothing is found
abbrev Lacks : List Row → (ℕ → Option ℕ) → ℕ → Type 0
Lacks rows found u = (part_of rows u ≡ parts.Operand) × (found u ≡ None)

abbrev AreFound : List ℕ → List Row → ℕ → (ℕ → Option ℕ) → Type 0
AreFound text rows n found = (u : ℕ) → u < n → IsNamedUnlessAgain text rows u (found u)

lacks_none : (text : List ℕ) (rows : List Row) (n : ℕ) (found : ℕ → Option ℕ) → AreFound text rows n found → (u : ℕ) → u < n → IsClear text rows u → Lacks rows found u → NamesNoValue text rows u
lacks_none text rows n found h u lt clear l = (l.0, unless_none text rows u (found u) (h u lt) l.1 clear)

none_lacks : (text : List ℕ) (rows : List Row) (n : ℕ) (found : ℕ → Option ℕ) → AreFound text rows n found → (u : ℕ) → u < n → NamesNoValue text rows u → Lacks rows found u
none_lacks text rows n found h u lt none = (none.0, none_if text rows u (found u) (h u lt) none.1)

-- no fault before a row before which nothing is defined again and nothing is lacking
none_before : (text : List ℕ) (rows : List Row) (n m : ℕ) (found : ℕ → Option ℕ) → AreFound text rows n found → m ≤ n → IsClear text rows m → ((k : ℕ) → k < m → Lacks rows found k → ⊥) → (k : ℕ) → k < m → (v : Wrong) → IsValueWrong text rows v k → ⊥
none_before text rows n m found h le clear full k lt v w =
    let within : k < n = omega (arith, lt, le) in
    ⊎_elim (λ (again : IsValueAgain text rows k). clear k lt again) (λ (none : NamesNoValue text rows k). full k lt (none_lacks text rows n found h k within none)) (wrong_split text rows v k w)

first_by : (text : List ℕ) (rows : List Row) (n : ℕ) (found : ℕ → Option ℕ) (i u : ℕ) (b : Bool) → AreFound text rows n found → IsFirst (IsValueAgain text rows) n (Some i) → IsFirst (Lacks rows found) n (Some u) → b ≡ leb i u
    → IsFirstWrong (IsValueWrong text rows) n (cond b (Some (record { row = i; what = wrongs.ValueTwice })) (Some (record { row = u; what = wrongs.UnknownValue })))
first_by text rows n found i u true h a m e =
    let within : i < n = a.0 in
    let before : i ≤ u = leb-true i u (sym e) in
    let le : i ≤ n = omega (arith, within) in
    (a.0, a.1, none_before text rows n i found h le a.2 (λ k lt. m.2 k (omega (arith, lt, before))))
first_by text rows n found i u false h a m e =
    let within : u < n = m.0 in
    let before : u < i = leb-false i u (sym e) in
    let le : u ≤ n = omega (arith, within) in
    let clear : IsClear text rows u = λ k lt. a.2 k (omega (arith, lt, before)) in
    (m.0, lacks_none text rows n found h u m.0 clear m.1, none_before text rows n u found h le clear m.2)

pub value_wrong : (text : List ℕ) (rows : List Row) (n : ℕ) (found : ℕ → Option ℕ) (a m : Option ℕ) → AreFound text rows n found → IsFirst (IsValueAgain text rows) n a → IsFirst (λ u. (part_of rows u ≡ parts.Operand) × (found u ≡ None)) n m
    → IsFirstWrong (IsValueWrong text rows) n (sooner (told a wrongs.ValueTwice) (told m wrongs.UnknownValue))
value_wrong text rows n found None None h a m = none_before text rows n n found h (omega arith) a m
value_wrong text rows n found None (Some u) h a m =
    let within : u < n = m.0 in
    let le : u ≤ n = omega (arith, within) in
    let clear : IsClear text rows u = λ k lt. a k (omega (arith, lt, within)) in
    (m.0, lacks_none text rows n found h u m.0 clear m.1, none_before text rows n u found h le clear m.2)
value_wrong text rows n found (Some i) None h a m =
    let within : i < n = a.0 in
    let le : i ≤ n = omega (arith, within) in
    (a.0, a.1, none_before text rows n i found h le a.2 (λ k lt. m k (omega (arith, lt, within))))
value_wrong text rows n found (Some i) (Some u) h a m = first_by text rows n found i u (leb i u) h a m refl

-- where nothing is wrong, each entry is right
entry_is : (text : List ℕ) (rows : List Row) (u : ℕ) (o : Option ℕ) → IsClear text rows u → IsNamedUnlessAgain text rows u o → IsValueNamed text rows u o
entry_is text rows u None clear h = h clear
entry_is text rows u (Some d) clear h = h

pub all_named : (text : List ℕ) (rows : List Row) (table : List (Option ℕ)) → length table ≡ length rows → AreFound text rows (length rows) (λ u. get_or table u None) → ((k : ℕ) → k < length rows → (v : Wrong) → IsValueWrong text rows v k → ⊥)
    → AreValuesNamed text rows (length rows) table
all_named text rows table long h well =
    (long, λ u lt. entry_is text rows u (get_or table u None) (λ k l. well k (omega (arith, lt, l)) wrongs.ValueTwice) (h u lt))
