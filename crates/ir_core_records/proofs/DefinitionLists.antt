-- Lists of definitions: as they are made, and with the uses of one of them written.
use Rattle.std.proofs.Common.{◌≡◌, ℕ, zero, suc, ◌+◌, ◌<◌, ◌==◌, List, [], ◌∷◌, ◌++◌, length, take, get_or, set, map, Some, None, slice_get, Bool, true, false, cond, refl, sym, ap, subst, ◌∙◌, arith, position}
use Rattle.std.proofs.lemmas.Bool.{eqb-true}
use Rattle.std.proofs.lemmas.Option.{same_Some, get_or_from_slice_get}
use Rattle.std.proofs.lemmas.List.{take_more, length-take-le}
use Rattle.std.proofs.lemmas.List.Quantifiers.{position-Some}
use Rattle.ir_model.specs.Ids.{Distinct}
use Rattle.ir_base_dialects.specs.declared.type_handle.TypeHandle.{TypeHandle}
use Rattle.ir_core_records.specs.declared.record.Definition.{Definition}
use Rattle.ir_core_records.specs.declared.record.UseIndex.{UseIndex}
use Rattle.ir_core_records.specs.Lists.{HaveDistinctNumbers, IsDefinition, definitions_from}
use Rattle.ir_core_records.specs.Distinct.{distinct_by_place}

definitions_from-push : (n : ℕ) (ts : List TypeHandle) (t : TypeHandle) → definitions_from n (ts ++ t ∷ []) ≡ definitions_from n ts ++ record { number = n + length ts; ty = t.place; name = None; uses = [] } ∷ []
definitions_from-push n [] t = let e : n ≡ n + 0 = omega arith in λ i. record { number = e i; ty = t.place; name = None; uses = [] } ∷ []
definitions_from-push n (s ∷ ts) t =
    let e : (n + 1) + length ts ≡ n + suc (length ts) = omega arith in
    ap (λ (rs : List Definition). record { number = n; ty = s.place; name = None; uses = [] } ∷ rs)
    (definitions_from-push (n + 1) ts t ∙ ap (λ (k : ℕ). definitions_from (n + 1) ts ++ record { number = k; ty = t.place; name = None; uses = [] } ∷ []) e)

-- the definitions of the first k types, and one more
pub definitions_from-more : (n k : ℕ) (ts : List TypeHandle) (t : TypeHandle) → k < length ts → definitions_from n (take (k + 1) ts) ≡ definitions_from n (take k ts) ++ record { number = n + k; ty = (get_or ts k t).place; name = None; uses = [] } ∷ []
definitions_from-more n k ts t within =
    let e : n + length (take k ts) ≡ n + k = ap (λ m. n + m) (length-take-le k ts (omega arith)) in
    ap (definitions_from n) (take_more ts k t within)
    ∙ definitions_from-push n (take k ts) (get_or ts k t)
    ∙ ap (λ (m : ℕ). definitions_from n (take k ts) ++ record { number = m; ty = (get_or ts k t).place; name = None; uses = [] } ∷ []) e

number_at : (n : ℕ) (ts : List TypeHandle) (i : ℕ) (r : Definition) → slice_get (definitions_from n ts) i ≡ Some r → r.number ≡ n + i
number_at n [] i r h = absurd (cc)
number_at n (t ∷ ts) zero r h = let e : n ≡ r.number = ap (λ (x : Definition). x.number) (same_Some (record { number = n; ty = t.place; name = None; uses = [] }) r h) in omega arith
number_at n (t ∷ ts) (suc i) r h = let k = number_at (n + 1) ts i r h in omega arith

-- numbers that follow on are distinct
pub distinct-from : (n : ℕ) (ts : List TypeHandle) → HaveDistinctNumbers (definitions_from n ts)
distinct-from n ts =
    distinct_by_place (λ (r : Definition). r.number) (definitions_from n ts)
    (λ i j x y at_x at_y e. let p = number_at n ts i x at_x in let q = number_at n ts j y at_y in omega arith)

numbers-set : (rs : List Definition) (k : ℕ) (r : Definition) (us : List UseIndex) → slice_get rs k ≡ Some r → map (λ (x : Definition). x.number) (set rs k (record r { uses = us })) ≡ map (λ (x : Definition). x.number) rs
numbers-set [] k r us at = refl
numbers-set (x ∷ rs) zero r us at = ap (λ (n : ℕ). n ∷ map (λ (y : Definition). y.number) rs) (sym (ap (λ (y : Definition). y.number) (same_Some x r at)))
numbers-set (x ∷ rs) (suc k) r us at = ap (λ (ns : List ℕ). x.number ∷ ns) (numbers-set rs k r us at)

-- a write of uses keeps the numbers
pub distinct-set : (rs : List Definition) (k : ℕ) (r : Definition) (us : List UseIndex) → slice_get rs k ≡ Some r → HaveDistinctNumbers rs → HaveDistinctNumbers (set rs k (record r { uses = us }))
distinct-set rs k r us at d = subst (λ (ns : List ℕ). Distinct ns) (sym (numbers-set rs k r us at)) d

-- a search for a number finds a definition with it
pub definition-found : (rs : List Definition) (n i : ℕ) (r : Definition) → slice_get rs i ≡ Some r → position (λ (x : Definition). x.number == n) rs ≡ Some i → IsDefinition rs n r
definition-found rs n i r at found =
    let p = position-Some (λ (x : Definition). x.number == n) rs i r found in
    let e = get_or_from_slice_get rs i r r at in
    (i, at, sym (ap (λ (x : Definition). x.number) e) ∙ eqb-true (get_or rs i r).number n p.1)

-- of two lists, whichever it is
pub distinct-either : (b : Bool) (rs ys xs : List Definition) → rs ≡ cond b ys xs → HaveDistinctNumbers ys → HaveDistinctNumbers xs → HaveDistinctNumbers rs
distinct-either true rs ys xs is first second = subst HaveDistinctNumbers (sym is) first
distinct-either false rs ys xs is first second = subst HaveDistinctNumbers (sym is) second
