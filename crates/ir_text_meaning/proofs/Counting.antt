-- How many rows of a sort an operation has.
use Rattle.std.proofs.Common.{◌≡◌, ◌⊎◌, ℕ, zero, suc, ◌+◌, ◌-◌, ◌<◌, ◌≤◌, Bool, true, false, cond, ◌&&◌, nat_eq, List, [], ◌∷◌, length, Option, Some, None, refl, sym, ap, ◌∙◌, inl, inr, ⊎_elim, eq-eqb, eqb-true, zero-add, arith}
use Rattle.std.proofs.lemmas.Bool.{and_parts, cases_Bool, false≢true}
use Rattle.ir_text_tree.specs.declared.row.Part.{Part}
use Rattle.ir_text_tree.specs.declared.row.Part.TheVariants as parts
use Rattle.ir_text_tree.specs.declared.row.Row.{Row}
use Rattle.ir_text_tree.specs.declared.row.Span.{Span}
use Rattle.ir_text_tree.specs.declared.text_step.TextKind.{TextKind}
use Rattle.ir_text_tree.specs.TextSteps.{part_of_text}
use Rattle.ir_text_tree.specs.Trees.{Text, Use, Entry, ResultTypes, bare, listed, Head, Tail, Body, maybe_row, maybe_text_row, use_rows, successor_rows, entry_rows, attribute_rows, type_rows, result_type_rows, tree_rows}
use Rattle.ir_text_names.specs.Rows.{row_of, part_of}
use Rattle.ir_text_names.specs.Types.{operation_of}
use Rattle.ir_text_names.specs.Counts.{tally}
use Rattle.ir_text_meaning.specs.Parts.{Operation, result_parts, operand_parts, tail_parts, named_size, head_size, body_size, regions_size, operation_size, HasOperation, IsAmong}
use Rattle.ir_text_meaning.specs.Regions.{IsWithin}
use Rattle.ir_text_names.specs.Sorts.{is_operand, is_operand_type, is_result_type}
use Rattle.ir_text_meaning.specs.Owners.{IsBehindName, result_type_count, IsName}
use Rattle.ir_text_meaning.proofs.Homes.{home, PartCases, of_operation}
use Rattle.ir_text_meaning.proofs.Places.{operation_bounds, within_bounds}
use Rattle.ir_text_meaning.proofs.Walks.{operation_at, name_fact}
use Rattle.ir_text_meaning.proofs.Bodies.{tree_size, tree_frame, frame}
use Rattle.ir_text_meaning.proofs.NameMeanings.{row_home, row_within}
use Rattle.ir_text_meaning.proofs.Owned.{behind_fact, owned}

-- of how many of these the test holds
abbrev pub count : (Part → Bool) → List Row → ℕ
count f [] = 0
count f (x ∷ xs) = cond (f x.part) 1 0 + count f xs

pub tally_same : (test : ℕ → Bool) (n m : ℕ) → ((j : ℕ) → n ≤ j → j < n + m → test j ≡ false) → tally test (n + m) ≡ tally test n
unfolding tally
tally_same test n zero h = let e : n + 0 ≡ n = omega arith in ap (tally test) e
tally_same test n (suc m) h =
    let e : n + suc m ≡ suc (n + m) = omega arith in
    let before = tally_same test n m (λ j from to. h j from (omega (arith, to))) in
    let here : test (n + m) ≡ false = h (n + m) (omega arith) (omega arith) in
    let none_here : tally test (suc (n + m)) ≡ tally test (n + m) + 0 = ap (λ (b : Bool). tally test (n + m) + cond b 1 0) here in
    ap (tally test) e ∙ none_here ∙ omega (arith, before)

tally_list : (test : ℕ → Bool) (f : Part → Bool) (ys : List Row) (n : ℕ) → ((j : ℕ) → j < length ys → test (n + j) ≡ f (row_of ys j).part) → tally test (n + length ys) ≡ tally test n + count f ys
unfolding tally
tally_list test f [] n h = let e : n + 0 ≡ n = omega arith in let g : tally test (n + 0) ≡ tally test n = ap (tally test) e in omega (arith, g)
tally_list test f (y ∷ ys) n h =
    let e : n + suc (length ys) ≡ suc n + length ys = omega arith in
    let later : (j : ℕ) → j < length ys → test (suc n + j) ≡ f (row_of ys j).part =
    λ j lt. let g : suc n + j ≡ n + suc j = omega arith in ap test g ∙ h (suc j) (omega (arith, lt)) in
    let rest = tally_list test f ys (suc n) later in
    let at : n ≡ n + 0 = omega arith in
    let here : test n ≡ f y.part = ap test at ∙ h 0 (omega arith) in
    let first : tally test (suc n) ≡ tally test n + cond (f y.part) 1 0 = ap (λ (b : Bool). tally test n + cond b 1 0) here in
    let all : tally test (n + suc (length ys)) ≡ tally test (suc n + length ys) = ap (tally test) e in
    omega (arith, rest, first, all)

pub tally_zero : (test : ℕ → Bool) → tally test 0 ≡ 0
unfolding tally
tally_zero test = refl

-- the test holds among those rows alone
tally_whole : (test : ℕ → Bool) (f : Part → Bool) (ys : List Row) (n m : ℕ) → ((j : ℕ) → j < length ys → test (n + j) ≡ f (row_of ys j).part) → ((j : ℕ) → (j < n) ⊎ (n + length ys ≤ j) → test j ≡ false) → n + length ys ≤ m → tally test m ≡ count f ys
tally_whole test f ys n m h outside le =
    let size = length ys in
    let front = tally_same test 0 n (λ j from to. outside j (inl (omega (arith, to)))) in
    let middle = tally_list test f ys n h in
    let back = tally_same test (n + size) (m - (n + size)) (λ j from to. outside j (inr from)) in
    let e : m ≡ (n + size) + (m - (n + size)) = omega (arith, le) in
    let g : tally test m ≡ tally test ((n + size) + (m - (n + size))) = ap (tally test) e in
    let i : tally test (0 + n) ≡ tally test n = ap (tally test) (zero-add n) in
    let z = tally_zero test in
    omega (arith, front, middle, back, g, i, z)

-- ---- how many there are in lists

maybe_count : (f : Part → Bool) (part : Part) (s : Option Span) (ys : List Row) → f part ≡ false → count f (maybe_row part s ys) ≡ count f ys
maybe_count f part None ys e = refl
maybe_count f part (Some at) ys e = ap (λ (b : Bool). cond b 1 0 + count f ys) e ∙ zero-add (count f ys)

text_count : (f : Part → Bool) {k : TextKind} (t : Option (Text k)) (ys : List Row) → f (part_of_text k) ≡ false → count f (maybe_text_row t ys) ≡ count f ys
text_count f None ys e = refl
text_count f (Some t) ys e = ap (λ (b : Bool). cond b 1 0 + count f ys) e ∙ zero-add (count f ys)

uses_count : (us : List Use) (ys : List Row) → count is_operand (use_rows us ys) ≡ length us + count is_operand ys
uses_count [] ys = sym (zero-add (count is_operand ys))
uses_count (u ∷ us) ys =
    let index = maybe_count is_operand parts.Index u.index (use_rows us ys) refl in
    let rest = uses_count us ys in
    omega (arith, index, rest)

successors_count : (bs : List Span) (ys : List Row) → count is_operand (successor_rows bs ys) ≡ count is_operand ys
successors_count [] ys = refl
successors_count (b ∷ bs) ys = zero-add (count is_operand (successor_rows bs ys)) ∙ successors_count bs ys

operands_count : (h : Head) → count is_operand (operand_parts h) ≡ length h.operands
operands_count h =
    let properties = maybe_row parts.Properties h.properties [] in
    let some = uses_count h.operands (successor_rows h.successors properties) in
    let others = successors_count h.successors properties in
    let last = maybe_count is_operand parts.Properties h.properties [] refl in
    omega (arith, some, others, last)

entries_count : (f : Part → Bool) (es : List Entry) (ys : List Row) → f parts.Key ≡ false → f parts.Value ≡ false → count f (entry_rows es ys) ≡ count f ys
entries_count f [] ys k v = refl
entries_count f (e ∷ es) ys k v =
    ap (λ (b : Bool). cond b 1 0 + count f (maybe_text_row e.value (entry_rows es ys))) k ∙ zero-add (count f (maybe_text_row e.value (entry_rows es ys))) ∙ text_count f e.value (entry_rows es ys) v ∙ entries_count f es ys k v

attributes_count : (f : Part → Bool) (o : Option (List Entry)) (ys : List Row) → f parts.Key ≡ false → f parts.Value ≡ false → count f (attribute_rows o ys) ≡ count f ys
attributes_count f None ys k v = refl
attributes_count f (Some es) ys k v = entries_count f es ys k v

no_types : (f : Part → Bool) {k : TextKind} (ts : List (Text k)) (ys : List Row) → f (part_of_text k) ≡ false → count f (type_rows ts ys) ≡ count f ys
no_types f [] ys e = refl
no_types f (t ∷ ts) ys e = ap (λ (b : Bool). cond b 1 0 + count f (type_rows ts ys)) e ∙ zero-add (count f (type_rows ts ys)) ∙ no_types f ts ys e

all_types : (f : Part → Bool) {k : TextKind} (ts : List (Text k)) (ys : List Row) → f (part_of_text k) ≡ true → count f (type_rows ts ys) ≡ length ts + count f ys
all_types f [] ys e = sym (zero-add (count f ys))
all_types f (t ∷ ts) ys e =
    let here : cond (f (part_of_text _)) 1 0 + count f (type_rows ts ys) ≡ 1 + count f (type_rows ts ys) = ap (λ (b : Bool). cond b 1 0 + count f (type_rows ts ys)) e in
    let rest = all_types f ts ys e in
    here ∙ omega (arith, rest)

result_types_none : (rs : ResultTypes) (ys : List Row) → count is_operand_type (result_type_rows rs ys) ≡ count is_operand_type ys
result_types_none (bare name is_name group) ys = zero-add (count is_operand_type ys)
result_types_none (listed ts) ys = no_types is_operand_type ts ys refl

result_types_all : (rs : ResultTypes) (ys : List Row) → count is_result_type (result_type_rows rs ys) ≡ result_type_count rs + count is_result_type ys
result_types_all (bare name is_name group) ys = refl
result_types_all (listed ts) ys = all_types is_result_type ts ys refl

operand_types_count : (t : Tail) → count is_operand_type (tail_parts t) ≡ length t.operand_types
operand_types_count t =
    let last = maybe_text_row t.location [] in
    let results = result_type_rows t.result_types last in
    let a = attributes_count is_operand_type t.attributes (type_rows t.operand_types results) refl refl in
    let b = all_types is_operand_type t.operand_types results refl in
    let c = result_types_none t.result_types last in
    let d = text_count is_operand_type t.location [] refl in
    omega (arith, a, b, c, d)

result_types_count : (t : Tail) → count is_result_type (tail_parts t) ≡ result_type_count t.result_types
result_types_count t =
    let last = maybe_text_row t.location [] in
    let results = result_type_rows t.result_types last in
    let a = attributes_count is_result_type t.attributes (type_rows t.operand_types results) refl refl in
    let b = no_types is_result_type t.operand_types results refl in
    let c = result_types_all t.result_types last in
    let d = text_count is_result_type t.location [] refl in
    omega (arith, a, b, c, d)

-- ---- how many rows there are

operand_at_home : (p : Part) → is_operand p ≡ true → home p ≡ 2
operand_at_home parts.Operand e = refl
operand_at_home _ e = absurd (false≢true e)

pub operand_type_at_home : (p : Part) → is_operand_type p ≡ true → home p ≡ 6
operand_type_at_home parts.OperandType e = refl
operand_type_at_home _ e = absurd (false≢true e)

pub result_type_at_home : (p : Part) → is_result_type p ≡ true → home p ≡ 6
result_type_at_home parts.ResultType e = refl
result_type_at_home parts.OnlyResultType e = refl
result_type_at_home _ e = absurd (false≢true e)

-- parts for which the test holds stand in that list of an operation
pub record Listed (f : Part → Bool) (o : Operation) (k n : ℕ) (ys : List Row) : Type 0 where
  pub behind : (j : ℕ) → j < length ys → IsBehindName o k (n + j) (row_of ys j)
  pub fits : n + length ys ≤ k + operation_size o
  pub homes : (p : Part) → f p ≡ true → (home p ≡ 2) ⊎ (home p ≡ 6)
  pub there : (j : ℕ) (x : Row) → f x.part ≡ true → PartCases o k j x → IsAmong ys n j x

and_true : (a b : Bool) → b ≡ true → (a && b) ≡ a
and_true true b e = e
and_true false b e = refl

-- a row with such a part that belongs to an operation
abbrev pub is_row_of : (Part → Bool) → List Row → ℕ → ℕ → Bool
is_row_of f rows operation j = f (part_of rows j) && nat_eq (operation_of rows j) operation

pub listed_inside : (f : Part → Bool) (b c : Body) (n : ℕ) (o : Operation) (k m : ℕ) (ys : List Row) → IsWithin c n b 0 → HasOperation c n o k → Listed f o k m ys
    → (j : ℕ) → j < length ys → is_row_of f (tree_rows b) (k + named_size o.head) (m + j) ≡ f (row_of ys j).part
listed_inside f b c n o k m ys w h l j lt =
    let rows = tree_rows b in
    let operation = k + named_size o.head in
    let z = behind_fact b c n o k (m + j) (row_of ys j) w h (l.behind j lt) in
    and_true (f (part_of rows (m + j))) (nat_eq (operation_of rows (m + j)) operation) (eq-eqb (operation_of rows (m + j)) operation z.operation) ∙ ap (λ (x : Row). f x.part) z.is

pub listed_outside : (f : Part → Bool) (b c : Body) (n : ℕ) (o : Operation) (k m : ℕ) (ys : List Row) → IsWithin c n b 0 → HasOperation c n o k → Listed f o k m ys
    → (j : ℕ) → (j < m) ⊎ (m + length ys ≤ j) → is_row_of f (tree_rows b) (k + named_size o.head) j ≡ false
listed_outside f b c n o k m ys w h l j out =
    let rows = tree_rows b in
    let operation = k + named_size o.head in
    ⊎_elim (λ (e : is_row_of f rows operation j ≡ true).
    let both = and_parts (f (part_of rows j)) (nat_eq (operation_of rows j) operation) e in
    let cases = owned b c n o k j w h (l.homes (part_of rows j) both.0) (eqb-true (operation_of rows j) operation both.1) in
    let among = l.there j (row_of rows j) both.0 cases in
    let lt : among.0 < length ys = among.1 in
    let is : j ≡ m + among.0 = among.2 in
    ⊎_elim (λ (x : j < m). absurd (omega (arith, x, is))) (λ (x : m + length ys ≤ j). absurd (omega (arith, x, is, lt))) out) (λ (e : is_row_of f rows operation j ≡ false). e) (cases_Bool (is_row_of f rows operation j))

counted_there : (f : Part → Bool) (b c : Body) (n : ℕ) (o : Operation) (k m : ℕ) (ys : List Row) → IsWithin c n b 0 → HasOperation c n o k → Listed f o k m ys
    → tally (is_row_of f (tree_rows b) (k + named_size o.head)) (length (tree_rows b)) ≡ count f ys
counted_there f b c n o k m ys w h l =
    let rows = tree_rows b in
    let size = tree_size b in
    let in_tree : n + body_size c ≤ 0 + body_size b = (within_bounds w).1 in
    let in_body : k + operation_size o ≤ n + body_size c = (operation_bounds c n o k h).1 in
    let fits : m + length ys ≤ k + operation_size o = l.fits in
    tally_whole (is_row_of f rows (k + named_size o.head)) f ys m (length rows) (listed_inside f b c n o k m ys w h l) (listed_outside f b c n o k m ys w h l) (omega (arith, in_tree, in_body, fits, size))

pub listed_operands : (o : Operation) (k : ℕ) → Listed is_operand o k (k + named_size o.head) (operand_parts o.head)
listed_operands o k = record {
  behind = λ j lt. inl (j, lt, refl, refl);
  fits = omega arith;
  homes = λ p e. inl (operand_at_home p e);
  there = λ j x e h. h.operands (operand_at_home x.part e);
}

pub listed_operand_types : (o : Operation) (k : ℕ) → Listed is_operand_type o k (k + head_size o.head + regions_size o.regions) (tail_parts o.tail)
listed_operand_types o k = record {
  behind = λ j lt. inr (j, lt, refl, refl);
  fits = omega arith;
  homes = λ p e. inr (operand_type_at_home p e);
  there = λ j x e h. h.tail (operand_type_at_home x.part e);
}

pub listed_result_types : (o : Operation) (k : ℕ) → Listed is_result_type o k (k + head_size o.head + regions_size o.regions) (tail_parts o.tail)
listed_result_types o k = record {
  behind = λ j lt. inr (j, lt, refl, refl);
  fits = omega arith;
  homes = λ p e. inr (result_type_at_home p e);
  there = λ j x e h. h.tail (result_type_at_home x.part e);
}

-- how many rows with such a part belong to that operation
abbrev pub rows_of : (Part → Bool) → List Row → ℕ → ℕ
rows_of f rows operation = tally (is_row_of f rows operation) (length rows)

pub operands_there : (b c : Body) (n : ℕ) (o : Operation) (k : ℕ) → IsWithin c n b 0 → HasOperation c n o k → rows_of is_operand (tree_rows b) (k + named_size o.head) ≡ length o.head.operands
operands_there b c n o k w h = counted_there is_operand b c n o k (k + named_size o.head) (operand_parts o.head) w h (listed_operands o k) ∙ operands_count o.head

pub operand_types_there : (b c : Body) (n : ℕ) (o : Operation) (k : ℕ) → IsWithin c n b 0 → HasOperation c n o k → rows_of is_operand_type (tree_rows b) (k + named_size o.head) ≡ length o.tail.operand_types
operand_types_there b c n o k w h = counted_there is_operand_type b c n o k (k + head_size o.head + regions_size o.regions) (tail_parts o.tail) w h (listed_operand_types o k) ∙ operand_types_count o.tail

pub result_types_there : (b c : Body) (n : ℕ) (o : Operation) (k : ℕ) → IsWithin c n b 0 → HasOperation c n o k → rows_of is_result_type (tree_rows b) (k + named_size o.head) ≡ result_type_count o.tail.result_types
result_types_there b c n o k w h = counted_there is_result_type b c n o k (k + head_size o.head + regions_size o.regions) (tail_parts o.tail) w h (listed_result_types o k) ∙ result_types_count o.tail

-- ---- an operation's name

pub name_found : (b : Body) (i : ℕ) → part_of (tree_rows b) i ≡ parts.Name → IsName b i
name_found b i e =
    let one_of : home (part_of (tree_rows b) i) ≡ 1 = ap home e in
    let x = row_home b i (row_within (tree_rows b) i parts.Name e (λ q. omega (arith, q))) (λ four. omega (arith, one_of, four)) in
    let named : home x.part.part ≡ 1 = ap (λ (y : Row). home y.part) (sym x.is) ∙ one_of in
    let o = of_operation x.body x.at i x.part x.stands (λ five. omega (arith, named, five)) in
    record { body = x.body; body_at = x.at; owner = o.0; owner_at = o.1; in_tree = x.within; in_body = o.2; is_name = o.3.name named }

pub name_there : (b : Body) (i : ℕ) → IsName b i → part_of (tree_rows b) i ≡ parts.Name
name_there b i h =
    let f = frame h.in_tree (tree_frame b) in
    let o = operation_at h.body (tree_rows b) h.body_at f.around f.inner f.rest h.owner h.owner_at f.cursor h.in_body in
    ap (part_of (tree_rows b)) (sym h.is_name) ∙ ap (λ (x : Row). x.part) (name_fact h.owner o.1 o.2).is

-- one more than its number is where the operation's rows say that it is
pub behind_name : (b : Body) (i : ℕ) (h : IsName b i) → i + 1 ≡ h.owner_at + named_size h.owner.head
behind_name b i h = let is : h.owner_at + length (result_parts h.owner.head) ≡ i = h.is_name in omega (arith, is)
