-- Names that are digits behind `%`, by the number that the digits make behind a 1.
use Rattle.std.proofs.Common.{◌≡◌, ◌⊎◌, ◌&&◌, ℕ, ◌+◌, ◌*◌, ◌-◌, ◌<◌, ◌≤◌, Bool, true, false, cond, nat_eq, bytes_eq, leb, ltb, List, [], ◌∷◌, get_or, Option, Some, None, refl, sym, ap, subst, ◌∙◌, inl, inr, ⊎_elim, eqb-true, eq-eqb, ne_eqb, ltb-true, le-ltb, leb-true, arith}
use Rattle.std.proofs.lemmas.Bool.{and_parts, cases_Bool, cases_eq}
use Rattle.std.proofs.lemmas.Slice.Eq.{bytes_eq-Decides}
use Rattle.ir_text_names.specs.declared.named_rows.NamedRows.{NamedRows}
use Rattle.ir_text_names.specs.Entries.{entry}
use Rattle.ir_text_names.specs.NamedRows.{below, spot, row_there, named_row}
use Rattle.ir_text_names.specs.Numbers.{is_digit, digits_behind}
use Rattle.ir_text_names.specs.Places.{row_at}

same_row : (i j : ℕ) → Some i ≡ Some j → i ≡ j
same_row i j e = cc

abbrev no_row_there : Option ℕ
no_row_there = None

none_there : (i : ℕ) → no_row_there ≡ Some i → ⊥
none_there i e = cc

-- one digit less
digit_step : (n b : ℕ) (bs : List ℕ) (x : ℕ) → digits_behind n (b ∷ bs) ≡ Some x → (48 ≤ b) × (b ≤ 57) × (digits_behind (10 * n + (b - 48)) bs ≡ Some x)
digit_step n b bs x e =
    ⊎_elim (λ (t : is_digit b ≡ true). let both = and_parts (leb 48 b) (leb b 57) t in (leb-true 48 b both.0, leb-true b 57 both.1, sym (ap (λ (q : Bool). cond q (digits_behind (10 * n + (b - 48)) bs) None) t) ∙ e))
    (λ (f : is_digit b ≡ false). absurd (none_there x (sym (ap (λ (q : Bool). cond q (digits_behind (10 * n + (b - 48)) bs) None) f) ∙ e))) (cases_Bool (is_digit b))

-- digits make a number no smaller
pub digits_grow : (n : ℕ) (bs : List ℕ) (x : ℕ) → digits_behind n bs ≡ Some x → n ≤ x
digits_grow n [] x e = let s = same_row n x e in omega (arith, s)
digits_grow n (b ∷ bs) x e = let h = digit_step n b bs x e in let le = digits_grow (10 * n + (b - 48)) bs x h.2 in omega (arith, le)

-- digits that make the same number behind others are the same digits behind the same number, or some of them belong to the other number
digits_meet : (bs cs : List ℕ) (n m x : ℕ) → digits_behind n bs ≡ Some x → digits_behind m cs ≡ Some x → ((n ≡ m) × (bs ≡ cs)) ⊎ ((10 * m ≤ n) ⊎ (10 * n ≤ m))
digits_meet [] [] n m x e f = inl (same_row n x e ∙ sym (same_row m x f), refl)
digits_meet [] (c ∷ cs) n m x e f =
    let s = same_row n x e in
    let h = digit_step m c cs x f in
    let le = digits_grow (10 * m + (c - 48)) cs x h.2 in
    inr (inl (omega (arith, s, le)))
digits_meet (b ∷ bs) [] n m x e f =
    let s = same_row m x f in
    let h = digit_step n b bs x e in
    let le = digits_grow (10 * n + (b - 48)) bs x h.2 in
    inr (inr (omega (arith, s, le)))
digits_meet (b ∷ bs) (c ∷ cs) n m x e f =
    let h = digit_step n b bs x e in
    let g = digit_step m c cs x f in
    let b_least : 48 ≤ b = h.0 in
    let b_most : b ≤ 57 = h.1 in
    let c_least : 48 ≤ c = g.0 in
    let c_most : c ≤ 57 = g.1 in
    ⊎_elim (λ (s : (10 * n + (b - 48) ≡ 10 * m + (c - 48)) × (bs ≡ cs)).
    let same : 10 * n + (b - 48) ≡ 10 * m + (c - 48) = s.0 in
    let number : n ≡ m = omega (arith, same, b_least, b_most, c_least, c_most) in
    let byte : b ≡ c = omega (arith, same, number, b_least, b_most, c_least, c_most) in
    inl (number, ap (λ (y : ℕ). y ∷ bs) byte ∙ ap (λ (ys : List ℕ). c ∷ ys) s.1))
    (λ (o : (10 * (10 * m + (c - 48)) ≤ 10 * n + (b - 48)) ⊎ (10 * (10 * n + (b - 48)) ≤ 10 * m + (c - 48))).
    ⊎_elim (λ (le : 10 * (10 * m + (c - 48)) ≤ 10 * n + (b - 48)). inr (inl (omega (arith, le, b_most)))) (λ (le : 10 * (10 * n + (b - 48)) ≤ 10 * m + (c - 48)). inr (inr (omega (arith, le, c_most)))) o)
    (digits_meet bs cs (10 * n + (b - 48)) (10 * m + (c - 48)) x h.2 g.2)

below_is : (limit : ℕ) (o : Option ℕ) (k : ℕ) → below limit o ≡ Some k → (o ≡ Some k) × (k < limit)
below_is limit None k e = absurd (none_there k e)
below_is limit (Some n) k e =
    ⊎_elim (λ (t : ltb n limit ≡ true). let s : Some n ≡ Some k = sym (ap (λ (q : Bool). cond q (Some n) None) t) ∙ e in (s, subst (λ (x : ℕ). x < limit) (same_row n k s) (ltb-true n limit t)))
    (λ (f : ltb n limit ≡ false). absurd (none_there k (sym (ap (λ (q : Bool). cond q (Some n) None) f) ∙ e))) (cases_Bool (ltb n limit))

-- what is no number below the limit
below_none : (limit : ℕ) (o : Option ℕ) → ((x : ℕ) → o ≡ Some x → limit ≤ x) → below limit o ≡ None
below_none limit None h = refl
below_none limit (Some n) h = ap (λ (q : Bool). cond q (Some n) None) (le-ltb n limit (h n refl))

pub large_none : (limit n : ℕ) (bs : List ℕ) → limit ≤ n → below limit (digits_behind n bs) ≡ None
large_none limit n bs le = below_none limit (digits_behind n bs) (λ x e. let grows = digits_grow n bs x e in omega (arith, le, grows))

spot_parts : (limit : ℕ) (name : List ℕ) (k : ℕ) → spot limit name ≡ Some k → (ds : List ℕ) × (name ≡ 37 ∷ ds) × (digits_behind 1 ds ≡ Some k) × (k < limit)
spot_parts limit [] k e = absurd (none_there k e)
spot_parts limit (b ∷ bs) k e =
    ⊎_elim (λ (t : nat_eq b 37 ≡ true).
    let h = below_is limit (digits_behind 1 bs) k (sym (ap (λ (q : Bool). cond q (below limit (digits_behind 1 bs)) None) t) ∙ e) in (bs, ap (λ (y : ℕ). y ∷ bs) (eqb-true b 37 t), h.0, h.1))
    (λ (f : nat_eq b 37 ≡ false). absurd (none_there k (sym (ap (λ (q : Bool). cond q (below limit (digits_behind 1 bs)) None) f) ∙ e))) (cases_Bool (nat_eq b 37))

pub spot_below : (limit : ℕ) (name : List ℕ) (k : ℕ) → spot limit name ≡ Some k → k < limit
spot_below limit name k e = (spot_parts limit name k e).3

-- a spot belongs to one name
spot_once : (limit : ℕ) (s t : List ℕ) (k : ℕ) → spot limit s ≡ Some k → spot limit t ≡ Some k → s ≡ t
spot_once limit s t k e f =
    let h = spot_parts limit s k e in
    let g = spot_parts limit t k f in
    ⊎_elim (λ (same : (1 ≡ 1) × (h.0 ≡ g.0)). h.1 ∙ ap (λ (ds : List ℕ). 37 ∷ ds) same.1 ∙ sym g.1) (λ (o : (10 * 1 ≤ 1) ⊎ (10 * 1 ≤ 1)). ⊎_elim (λ (le : 10 * 1 ≤ 1). absurd (omega (arith, le))) (λ (le : 10 * 1 ≤ 1). absurd (omega (arith, le))) o)
    (digits_meet h.0 g.0 1 1 k h.2 g.2)

-- ---- what is known of a name, when a row was put

bytes_same : (name m : List ℕ) → name ≡ m → bytes_eq name m ≡ true
bytes_same name m e = (bytes_eq-Decides name m).1 e

bytes_apart : (name m : List ℕ) → (name ≡ m → ⊥) → bytes_eq name m ≡ false
bytes_apart name m apart =
    ⊎_elim (λ (t : bytes_eq name m ≡ true). absurd (apart ((bytes_eq-Decides name m).0 t))) (λ (f : bytes_eq name m ≡ false). f) (cases_Bool (bytes_eq name m))

-- at its spot
at_spot : (limit : ℕ) (name m : List ℕ) (k row : ℕ) (old new : NamedRows) (j : Option ℕ) → spot limit name ≡ Some k → ((i : ℕ) → entry (get_or new.spots.items i 0) ≡ cond (nat_eq k i) (Some row) (entry (get_or old.spots.items i 0))) → new.others ≡ old.others → spot limit m ≡ j
    → row_there new m j ≡ cond (bytes_eq name m) (Some row) (row_there old m j)
at_spot limit name m k row old new None s puts others t =
    ap (λ (x : _). row_at x 0 m) others ∙ sym (ap (λ (q : Bool). cond q (Some row) (row_at old.others 0 m)) (bytes_apart name m (λ e. none_there k (sym t ∙ ap (spot limit) (sym e) ∙ s))))
at_spot limit name m k row old new (Some i) s puts others t =
    puts i
    ∙ ap (λ (q : Bool). cond q (Some row) (entry (get_or old.spots.items i 0)))
    (⊎_elim (λ (e : k ≡ i). eq-eqb k i e ∙ sym (bytes_same name m (spot_once limit name m k s (t ∙ ap (λ (x : ℕ). Some x) (sym e)))))
    (λ (apart : k ≡ i → ⊥). ne_eqb k i apart ∙ sym (bytes_apart name m (λ e. apart (same_row k i (sym s ∙ ap (spot limit) e ∙ t))))) (cases_eq k i))

pub put_at_spot : (name m : List ℕ) (k row : ℕ) (old new : NamedRows) → spot old.limit name ≡ Some k → ((i : ℕ) → entry (get_or new.spots.items i 0) ≡ cond (nat_eq k i) (Some row) (entry (get_or old.spots.items i 0))) → new.others ≡ old.others → new.limit ≡ old.limit
    → named_row new m ≡ cond (bytes_eq name m) (Some row) (named_row old m)
put_at_spot name m k row old new s puts others limit = ap (λ (l : ℕ). row_there new m (spot l m)) limit ∙ at_spot old.limit name m k row old new (spot old.limit m) s puts others refl

-- under a name with no spot
by_name : (limit : ℕ) (name m : List ℕ) (row : ℕ) (old new : NamedRows) (j : Option ℕ) → spot limit name ≡ None → ((s : ℕ) (n : List ℕ) → row_at new.others s n ≡ cond (nat_eq 0 s && bytes_eq name n) (Some row) (row_at old.others s n)) → new.spots ≡ old.spots → spot limit m ≡ j
    → row_there new m j ≡ cond (bytes_eq name m) (Some row) (row_there old m j)
by_name limit name m row old new None s puts spots t = puts 0 m
by_name limit name m row old new (Some i) s puts spots t =
    ap (λ (x : _). entry (get_or x.items i 0)) spots
    ∙ sym (ap (λ (q : Bool). cond q (Some row) (entry (get_or old.spots.items i 0))) (bytes_apart name m (λ e. none_there i (sym s ∙ ap (spot limit) e ∙ t))))

pub put_by_name : (name m : List ℕ) (row : ℕ) (old new : NamedRows) → spot old.limit name ≡ None → ((s : ℕ) (n : List ℕ) → row_at new.others s n ≡ cond (nat_eq 0 s && bytes_eq name n) (Some row) (row_at old.others s n)) → new.spots ≡ old.spots → new.limit ≡ old.limit
    → named_row new m ≡ cond (bytes_eq name m) (Some row) (named_row old m)
put_by_name name m row old new s puts spots limit = ap (λ (l : ℕ). row_there new m (spot l m)) limit ∙ by_name old.limit name m row old new (spot old.limit m) s puts spots refl
