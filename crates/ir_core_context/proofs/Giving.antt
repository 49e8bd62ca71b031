-- An operation that was given regions, one after another.
use Rattle.std.proofs.Common.{◌≡◌, ◌≢◌, ◌⊎◌, ℕ, zero, suc, ◌+◌, List, [], ◌∷◌, ◌++◌, length, Option, Some, None, IsSome, refl, sym, ap, subst, ◌∙◌, inl, inr, arith}
use Rattle.std.proofs.lemmas.List.{length-append}
use Rattle.ir_model.specs.declared.ids.ArenaIndex.{ArenaIndex}
use Rattle.ir_model.specs.ContextIds.{context_ids}
use Rattle.ir_model.specs.Forest.{Dialect, Forest}
use Rattle.ir_model.specs.Ids.{Absent, Distinct}
use Rattle.ir_model.specs.Nesting.{In, regions_of}
use Rattle.ir_model.specs.Changes.{add_region, on_op, on_regions}
use Rattle.ir_model.proofs.Nests.{Absent-not_in, Distinct-append, In-append, In-left, In-right, not_in-Absent}
use Rattle.ir_core_nesting.specs.Leaves.{without_region}
use Rattle.ir_core_context.specs.Creation.{IsGiven, with_regions}
use Rattle.ir_core_context.proofs.Making.{given-less, given-more, given-none, given-regions, given_at}

none-some : {A : Type 0} {x : A} → None ≡ Some x → ⊥
none-some e = cc

-- the last of a list that isn't empty
last-of : {A : Type 0} (xs : List A) (n : ℕ) → length xs ≡ suc n → (rest : List A) × (x : A) × (xs ≡ rest ++ x ∷ []) × (length rest ≡ n)
last-of [] n e = absurd (omega (arith, e))
last-of (x ∷ []) n e = ([], x, refl, omega (arith, e))
last-of (x ∷ y ∷ ys) zero e = absurd (omega (arith, e))
last-of (x ∷ y ∷ ys) (suc n) e = let more = last-of (y ∷ ys) n (omega (arith, e)) in (x ∷ more.0, more.1, ap (λ zs. x ∷ zs) more.2, omega (arith, more.3))

left-distinct : {A : Type 0} (xs ys : List A) → Distinct (xs ++ ys) → Distinct xs
left-distinct [] ys d = tt
left-distinct (x ∷ xs) ys d = (Absent-not_in x xs (λ h. not_in-Absent x (xs ++ ys) d.0 (In-left x xs ys h)), left-distinct xs ys d.1)

last-apart : {A : Type 0} (xs : List A) (y : A) → Distinct (xs ++ y ∷ []) → In y xs → ⊥
last-apart [] y d h = h
last-apart (x ∷ xs) y d (inl e) = not_in-Absent x (xs ++ y ∷ []) d.0 (subst (λ z. In z (xs ++ y ∷ [])) e (In-right y xs (y ∷ []) (inl refl)))
last-apart (x ∷ xs) y d (inr h) = last-apart xs y d.1 h

module _ {W : Dialect} (f : Forest context_ids W) (o : ArenaIndex) where
  pub given-regions-of : (rs : List ArenaIndex) (n : ℕ) (g : Forest context_ids W) → IsGiven f o rs n g → regions_of g o ≡ rs
  given-regions-of rs n g h = ap (λ k. regions_of k o) h.is ∙ given-regions f o h.bare rs h.live

  pub given-some : (rs : List ArenaIndex) (n : ℕ) (g : Forest context_ids W) → IsGiven f o rs (suc n) g → regions_of g o ≡ [] → ⊥
  given-some rs n g h none = let e : length rs ≡ 0 = ap length (sym (given-regions-of rs (suc n) g h) ∙ none) in omega (arith, e, h.number)

  pub given-once : (rs : List ArenaIndex) (n : ℕ) (g : Forest context_ids W) → IsGiven f o rs n g → Distinct (regions_of g o)
  given-once rs n g h = subst Distinct (sym (given-regions-of rs n g h)) h.distinct

  given-at : (rs : List ArenaIndex) (n : ℕ) (g : Forest context_ids W) → IsGiven f o rs n g → (r : ArenaIndex) → In r rs → g.regions r ≡ Some []
  given-at rs n g h r i = ap (λ (k : Forest context_ids W). k.regions r) h.is ∙ elim (given_at f o rs r) [ inl k ↦ k.1 | inr k ↦ absurd (k.0 i) ]

  pub given-empty : (rs : List ArenaIndex) (n : ℕ) (g : Forest context_ids W) → IsGiven f o rs n g → (rest : List ArenaIndex) (r : ArenaIndex) → regions_of g o ≡ rest ++ r ∷ [] → g.regions r ≡ Some []
  given-empty rs n g h rest r e = given-at rs n g h r (subst (In r) (sym (sym (given-regions-of rs n g h) ∙ e)) (In-right r rest (r ∷ []) (inl refl)))

  -- the last one is taken back
  pub given-back : (rs : List ArenaIndex) (n : ℕ) (g h : Forest context_ids W) → IsGiven f o rs (suc n) g
      → ((rest : List ArenaIndex) (r : ArenaIndex) → regions_of g o ≡ rest ++ r ∷ [] → h ≡ without_region (on_op g o (on_regions (λ _. rest))) r)
      → (xs : List ArenaIndex) × IsGiven f o xs n h
  given-back rs n g h is back =
      let last = last-of rs n is.number in
      let rest = last.0 in
      let r = last.1 in
      let distinct : Distinct (rest ++ r ∷ []) = subst Distinct last.2 is.distinct in
      let dead : f.regions r ≡ None = is.were_dead r (subst (In r) (sym last.2) (In-right r rest (r ∷ []) (inl refl))) in
      let left : h ≡ without_region (on_op g o (on_regions (λ _. rest))) r = back rest r (given-regions-of rs (suc n) g is ∙ last.2) in (
        rest,
        record {
          number = last.3;
          distinct = left-distinct rest (r ∷ []) distinct;
          were_dead = λ q i. is.were_dead q (subst (In q) (sym last.2) (In-left q rest (r ∷ []) i));
          live = is.live;
          bare = is.bare;
          is = left ∙ ap (λ k. without_region (on_op k o (on_regions (λ _. rest))) r) (is.is ∙ ap (with_regions f o) last.2) ∙ given-less f o is.bare rest r dead (last-apart rest r distinct);
        },
      )

  pub given-done : (rs : List ArenaIndex) (g : Forest context_ids W) → IsGiven f o rs 0 g → g ≡ f
  given-done rs g h = h.is ∙ ap (with_regions f o) (none rs h.number) ∙ given-none f o
    where
      none : (xs : List ArenaIndex) → length xs ≡ 0 → xs ≡ []
      none [] e = refl
      none (x ∷ xs) e = absurd (omega (arith, e))

  -- one more
  pub given-next : (rs : List ArenaIndex) (n : ℕ) (g h : Forest context_ids W) (r : ArenaIndex) → IsGiven f o rs n g → g.regions r ≡ None → h ≡ add_region g o r → IsGiven f o (rs ++ r ∷ []) (n + 1) h
  given-next rs n g h r is dead more =
      let apart : In r rs → ⊥ = λ i. none-some (sym dead ∙ given-at rs n g is r i) in
      record {
        number = omega (arith, length-append rs (r ∷ []), is.number);
        distinct = Distinct-append rs (r ∷ []) is.distinct (tt, tt) (λ q here there. elim there [ inl e ↦ apart (subst (λ x. In x rs) e here) | inr k ↦ k ]);
        were_dead = λ q i. elim (In-append q rs (r ∷ []) i) [
          | inl k ↦ is.were_dead q k
          | inr k ↦ elim k [
            | inl e ↦ ap f.regions e ∙ sym (elim (given_at f o rs r) [ inl j ↦ absurd (apart j.0) | inr j ↦ j.1 ]) ∙ ap (λ (k : Forest context_ids W). k.regions r) (sym is.is) ∙ dead
            | inr j ↦ absurd j
          ]
        ];
        live = is.live;
        bare = is.bare;
        is = more ∙ ap (λ k. add_region k o r) is.is ∙ given-more f o rs r;
      }

  pub given-nothing : IsSome (f.ops o) → regions_of f o ≡ [] → IsGiven f o [] 0 f
  given-nothing live bare = record { number = refl; distinct = tt; were_dead = λ r h. absurd h; live = live; bare = bare; is = sym (given-none f o) }

  pub given-last : (rs : List ArenaIndex) (n : ℕ) (g : Forest context_ids W) → IsGiven f o rs (suc n) g → (rest : List ArenaIndex) × (r : ArenaIndex) × (regions_of g o ≡ rest ++ r ∷ [])
  given-last rs n g is = let last = last-of rs n is.number in (last.0, last.1, given-regions-of rs (suc n) g is ∙ last.2)
