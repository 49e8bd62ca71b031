-- Lists of definitions with one more, one fewer, or one of another type or name, and the uses that they have.
use Rattle.std.proofs.Common.{◌≡◌, ℕ, zero, suc, ◌==◌, Bool, true, false, cond, if◌then◌else◌, List, [], ◌∷◌, set, map, Option, Some, None, slice_get, refl, sym, ap, subst, ◌∙◌, inl, inr}
use Rattle.std.specs.Global.{Box}
use Rattle.std.specs.List.{insert, remove}
use Rattle.std.proofs.lemmas.Bool.{cases_eq, eq-eqb, ne_eqb}
use Rattle.std.proofs.lemmas.Option.{same_Some}
use Rattle.ir_model.specs.Ids.{Absent, Distinct}
use Rattle.ir_model.specs.Nesting.{In}
use Rattle.ir_model.proofs.Back.{slice_get-in}
use Rattle.ir_model.proofs.Entries.{AddsOne-map, AddsOne-insert, AddsOne-distinct}
use Rattle.ir_model.proofs.Nests.{In-map, In-map_back, not_in-Absent}
use Rattle.ir_model.proofs.Trees.{Sub-map, Sub-remove, Sub-distinct}
use Rattle.ir_core_records.specs.declared.record.Definition.{Definition}
use Rattle.ir_core_records.specs.Lists.{uses_with, HasNumber, HaveDistinctNumbers}
use Rattle.ir_core_records.specs.Found.{place-In}

-- with this number and type, and neither name nor uses
abbrev pub unused_definition : ℕ → ℕ → Definition
unused_definition n ty = record { number = n; ty = ty; name = None; uses = [] }

-- the definition is rewritten, where it has this number
abbrev pub rewritten : ℕ → (Definition → Definition) → Definition → Definition
rewritten n g r = if r.number == n then g r else r

-- with this type, and all else as it was
abbrev pub typed_as : ℕ → Definition → Definition
typed_as ty r = record r { ty = ty }

-- with this name, or none, and all else as it was
abbrev pub with_name : Option (Box (List ℕ)) → Definition → Definition
with_name name r = record r { name = name }

-- no definition has the number
none_in : (rs : List Definition) (n : ℕ) → ¬ (HasNumber rs n) → In n (map (λ (r : Definition). r.number) rs) → ⊥
none_in rs n none h =
    let at = In-map_back (λ (r : Definition). r.number) n rs h in
    let p = place-In rs at.0 at.1 in
    none (p.0, at.0, p.1, sym at.2)

none_behind : (r : Definition) (rs : List Definition) (n : ℕ) → ¬ (HasNumber (r ∷ rs) n) → ¬ (HasNumber rs n)
none_behind r rs n none h = none (suc h.0, h.1, h.2, h.3)

-- one more with a new number, and one fewer
pub distinct-insert : (rs : List Definition) (i n ty : ℕ) → ¬ (HasNumber rs n) → HaveDistinctNumbers rs → HaveDistinctNumbers (insert rs i (unused_definition n ty))
distinct-insert rs i n ty none d = AddsOne-distinct (AddsOne-map (λ (r : Definition). r.number) (AddsOne-insert (unused_definition n ty) rs i)) d (none_in rs n none)

pub distinct-remove : (rs : List Definition) (i : ℕ) → HaveDistinctNumbers rs → HaveDistinctNumbers (remove rs i)
distinct-remove rs i d = Sub-distinct (Sub-map (λ (r : Definition). r.number) (Sub-remove rs i)) d

-- the uses by number, where no definition has it
uses-absent : (rs : List Definition) (n : ℕ) → ¬ (HasNumber rs n) → uses_with rs n ≡ []
uses-absent [] n none = refl
uses-absent (r ∷ rs) n none =
    elim (cases_eq r.number n) [
      | inl q ↦ absurd (none (0, r, refl, q))
      | inr q ↦ let miss : r.number == n ≡ false = ne_eqb r.number n q in rw miss (uses-absent rs n (none_behind r rs n none))
    ]

-- a definition without uses is put in
put_first : (rs : List Definition) (n ty m : ℕ) → ¬ (HasNumber rs n) → uses_with (unused_definition n ty ∷ rs) m ≡ uses_with rs m
put_first rs n ty m none =
    elim (cases_eq n m) [
      | inl q ↦ let hit : n == m ≡ true = eq-eqb n m q in rw hit (sym (uses-absent rs m (subst (λ (k : ℕ). ¬ (HasNumber rs k)) q none)))
      | inr q ↦ let miss : n == m ≡ false = ne_eqb n m q in rw miss refl
    ]

pub uses-insert : (rs : List Definition) (i n ty m : ℕ) → ¬ (HasNumber rs n) → uses_with (insert rs i (unused_definition n ty)) m ≡ uses_with rs m
uses-insert rs zero n ty m none = put_first rs n ty m none
uses-insert [] (suc i) n ty m none = put_first [] n ty m none
uses-insert (r ∷ rs) (suc i) n ty m none = ap (λ us. cond (r.number == m) r.uses us) (uses-insert rs i n ty m (none_behind r rs n none))

-- a definition without uses is taken out
pub uses-remove : (rs : List Definition) (i : ℕ) (r : Definition) (m : ℕ) → HaveDistinctNumbers rs → slice_get rs i ≡ Some r → uses_with rs r.number ≡ [] → uses_with (remove rs i) m ≡ uses_with rs m
uses-remove [] i r m d at none = absurd (cc)
uses-remove (x ∷ rs) zero r m d at none =
    elim (cases_eq x.number m) [
      | inl q ↦
          let hit : x.number == m ≡ true = eq-eqb x.number m q in
          let same : x.number ≡ r.number = ap (λ (y : Definition). y.number) (same_Some x r at) in
          let own : x.number == r.number ≡ true = eq-eqb x.number r.number same in
          let gone : x.uses ≡ [] = (rw own at none) in
          let absent : ¬ (HasNumber rs m) = λ h. not_in-Absent x.number (map (λ (y : Definition). y.number) rs) d.0 (subst (λ (k : ℕ). In k (map (λ (y : Definition). y.number) rs)) (h.3 ∙ sym q) (In-map (λ (y : Definition). y.number) h.1 rs (slice_get-in rs h.0 h.1 h.2))) in
          rw hit (uses-absent rs m absent ∙ sym gone)
      | inr q ↦ let miss : x.number == m ≡ false = ne_eqb x.number m q in rw miss refl
    ]
uses-remove (x ∷ rs) (suc i) r m d at none =
    let there : In r.number (map (λ (y : Definition). y.number) rs) = In-map (λ (y : Definition). y.number) r rs (slice_get-in rs i r at) in
    let other : ¬ (x.number ≡ r.number) = λ e. not_in-Absent x.number (map (λ (y : Definition). y.number) rs) d.0 (subst (λ (k : ℕ). In k (map (λ (y : Definition). y.number) rs)) (sym e) there) in
    let miss : x.number == r.number ≡ false = ne_eqb x.number r.number other in
    ap (λ us. cond (x.number == m) x.uses us) (uses-remove rs i r m d.1 at (rw miss at none))

-- a definition is rewritten, and keeps its number and its uses
module _ (n : ℕ) (g : Definition → Definition) (number : (r : Definition) → (g r).number ≡ r.number) (uses : (r : Definition) → (g r).uses ≡ r.uses) where
  rewritten-number : (r : Definition) → (rewritten n g r).number ≡ r.number
  rewritten-number r = by (r.number == n)
    where
      by : (b : Bool) → (cond b (g r) r).number ≡ r.number
      by true = number r
      by false = refl

  rewritten-uses : (r : Definition) → (rewritten n g r).uses ≡ r.uses
  rewritten-uses r = by (r.number == n)
    where
      by : (b : Bool) → (cond b (g r) r).uses ≡ r.uses
      by true = uses r
      by false = refl

  pub uses-rewritten : (rs : List Definition) (m : ℕ) → uses_with (map (rewritten n g) rs) m ≡ uses_with rs m
  uses-rewritten [] m = refl
  uses-rewritten (r ∷ rs) m =
      let now : uses_with (map (rewritten n g) (r ∷ rs)) m ≡ cond (r.number == m) r.uses (uses_with (map (rewritten n g) rs) m) = λ i. cond (rewritten-number r i == m) (rewritten-uses r i) (uses_with (map (rewritten n g) rs) m) in
      now ∙ ap (λ us. cond (r.number == m) r.uses us) (uses-rewritten rs m)

  rewritten-none : (rs : List Definition) → Absent n (map (λ (r : Definition). r.number) rs) → map (rewritten n g) rs ≡ rs
  rewritten-none [] out = refl
  rewritten-none (r ∷ rs) out =
      let miss : r.number == n ≡ false = ne_eqb r.number n (λ e. out.0 (sym e)) in
      let first : rewritten n g r ≡ r = ap (λ (b : Bool). cond b (g r) r) miss in
      λ i. first i ∷ rewritten-none rs out.1 i

  numbers-rewritten : (rs : List Definition) → map (λ (r : Definition). r.number) (map (rewritten n g) rs) ≡ map (λ (r : Definition). r.number) rs
  numbers-rewritten [] = refl
  numbers-rewritten (r ∷ rs) = λ i. rewritten-number r i ∷ numbers-rewritten rs i

  -- the write, by place and by number
  pub rewritten-at : (rs : List Definition) (i : ℕ) (r : Definition) → HaveDistinctNumbers rs → slice_get rs i ≡ Some r → r.number ≡ n → set rs i (g r) ≡ map (rewritten n g) rs
  rewritten-at [] i r d at is = absurd (cc)
  rewritten-at (x ∷ rs) zero r d at is =
      let same = same_Some x r at in
      let hit : x.number == n ≡ true = eq-eqb x.number n (ap (λ (y : Definition). y.number) same ∙ is) in
      let rest : map (rewritten n g) rs ≡ rs = rewritten-none rs (subst (λ (k : ℕ). Absent k (map (λ (y : Definition). y.number) rs)) (ap (λ (y : Definition). y.number) same ∙ is) d.0) in
      let first : g r ≡ rewritten n g x = ap g (sym same) ∙ ap (λ (b : Bool). cond b (g x) x) (sym hit) in
      λ j. first j ∷ sym rest j
  rewritten-at (x ∷ rs) (suc i) r d at is =
      let there : In r.number (map (λ (y : Definition). y.number) rs) = In-map (λ (y : Definition). y.number) r rs (slice_get-in rs i r at) in
      let other : ¬ (x.number ≡ n) = λ e. not_in-Absent x.number (map (λ (y : Definition). y.number) rs) d.0 (subst (λ (k : ℕ). In k (map (λ (y : Definition). y.number) rs)) (is ∙ sym e) there) in
      let miss : x.number == n ≡ false = ne_eqb x.number n other in
      let first : x ≡ rewritten n g x = ap (λ (b : Bool). cond b (g x) x) (sym miss) in
      λ j. first j ∷ rewritten-at rs i r d.1 at is j

  pub distinct-rewritten : (rs : List Definition) (i : ℕ) (r : Definition) → HaveDistinctNumbers rs → slice_get rs i ≡ Some r → r.number ≡ n → HaveDistinctNumbers (set rs i (g r))
  distinct-rewritten rs i r d at is = subst (λ (ns : List ℕ). Distinct ns) (sym (ap (map (λ (x : Definition). x.number)) (rewritten-at rs i r d at is) ∙ numbers-rewritten rs)) d
