-- Arenas that hand out new ids, one after another.
use Rattle.std.proofs.Common.{◌≡◌, ◌≢◌, ◌⊎◌, ℕ, ◌+◌, ◌≤◌, List, [], ◌∷◌, ◌++◌, length, Option, Some, None, is_some, IsSome, IsTrue, refl, sym, ap, subst, ◌∙◌, inl, inr, arith, true≢false}
use Rattle.std.proofs.lemmas.List.{length-append}
use Rattle.ir_model.specs.declared.ids.ArenaIndex.{ArenaIndex}
use Rattle.ir_model.specs.declared.ids.Limits.{Limits}
use Rattle.ir_model.specs.Nesting.{In}
use Rattle.ir_model.specs.Sessions.{IsNewId}
use Rattle.ir_model.proofs.Nests.{In-append, In-left, In-right, Distinct-append}
use Rattle.ir_base_arenas.specs.Arena.{Arena, get, IsLiveIn, is_passed}
use Rattle.ir_base_arenas.specs.Lists.{SameIds}
use Rattle.ir_core_records.specs.Growth.{Grows, SkipsIds}

module _ {T : Type 0} where
  pub Grows-none : (a : Arena T) → Grows a a []
  Grows-none a = record {
    distinct = tt;
    dead = λ i h. absurd h;
    are_new = λ limits slots last i h. absurd h;
    passed = λ i. (λ h. inl h, λ h. elim h [ inl p ↦ p | inr k ↦ absurd k ]);
    limit = refl;
    last_version = refl;
  }

  -- what hands out no id
  pub Grows-then : (a b c : Arena T) (xs : List ArenaIndex) → Grows a b xs → ((i : ArenaIndex) → is_passed c i ≡ is_passed b i) → c.limit ≡ b.limit → c.last_version ≡ b.last_version → Grows a c xs
  Grows-then a b c xs g passed limit last = record {
    distinct = g.distinct;
    dead = g.dead;
    are_new = g.are_new;
    passed = λ i. (λ p. (g.passed i).0 (sym (passed i) ∙ p), λ p. passed i ∙ (g.passed i).1 p);
    limit = limit ∙ g.limit;
    last_version = last ∙ g.last_version;
  }

  pub Grows-same : (a b : Arena T) → ((i : ArenaIndex) → is_passed b i ≡ is_passed a i) → b.limit ≡ a.limit → b.last_version ≡ a.last_version → Grows a b []
  Grows-same a b passed limit last = Grows-then a a b [] (Grows-none a) passed limit last

  pub Grows-ids : (a b c : Arena T) (xs : List ArenaIndex) → Grows a b xs → SameIds b c → Grows a c xs
  Grows-ids a b c xs g same = Grows-then a b c xs g same.passed same.limit same.last_version

  -- an id that is new after some were handed out was new before
  before : (limits : Limits) (a b : Arena T) (xs : List ArenaIndex) → Grows a b xs → ((i : ArenaIndex) → IsLiveIn a i → IsLiveIn b i) → ((i : ArenaIndex) → In i xs → IsLiveIn b i)
      → (i : ArenaIndex) → IsNewId limits (is_passed b) (IsLiveIn b) i → IsNewId limits (is_passed a) (IsLiveIn a) i
  before limits a b xs g still made i next = (next.0, next.1, next.2, by_version next.3)
    where
      earlier : (j : ArenaIndex) → IsTrue (is_passed a j) → IsTrue (is_passed b j)
      earlier j had = (g.passed j).1 (inl had)

      by_version : ((i.version ≡ 1) × ((j : ArenaIndex) → IsTrue (is_passed b j) → j.slot ≢ i.slot))
          ⊎ ((l : ArenaIndex) × (l.slot ≡ i.slot) × (i.version ≡ l.version + 2) × IsTrue (is_passed b l) × (IsLiveIn b l → ⊥)
          × ((j : ArenaIndex) → IsTrue (is_passed b j) → j.slot ≡ i.slot → j.version ≤ l.version))
          → ((i.version ≡ 1) × ((j : ArenaIndex) → IsTrue (is_passed a j) → j.slot ≢ i.slot))
          ⊎ ((l : ArenaIndex) × (l.slot ≡ i.slot) × (i.version ≡ l.version + 2) × IsTrue (is_passed a l) × (IsLiveIn a l → ⊥)
          × ((j : ArenaIndex) → IsTrue (is_passed a j) → j.slot ≡ i.slot → j.version ≤ l.version))
      by_version (inl first) = inl (first.0, λ j had. first.1 j (earlier j had))
      by_version (inr (l, slot, version, passed, dead, greatest)) =
          elim ((g.passed l).0 passed) [
            | inl had ↦ inr (l, slot, version, had, λ live. dead (still l live), λ j was here. greatest j (earlier j was) here)
            | inr k ↦ absurd (dead (made l k))
          ]

  -- and so on, where nothing is lost between
  pub Grows-join : (a b c : Arena T) (xs ys : List ArenaIndex) → Grows a b xs → ((i : ArenaIndex) → IsLiveIn a i → IsLiveIn b i) → ((i : ArenaIndex) → In i xs → IsLiveIn b i) → Grows b c ys → Grows a c (xs ++ ys)
  Grows-join a b c xs ys f still made g = record {
    distinct = Distinct-append xs ys f.distinct g.distinct apart;
    dead = λ i k. elim (In-append i xs ys k) [
      | inl here ↦ f.dead i here
      | inr there ↦ none_before i (g.dead i there)
    ];
    are_new = λ limits slots last i k. elim (In-append i xs ys k) [
      | inl here ↦ f.are_new limits slots last i here
      | inr there ↦ before limits a b xs f still made i (g.are_new limits (slots ∙ sym f.limit) (last ∙ sym f.last_version) i there)
    ];
    passed = λ i. (
      λ p. elim ((g.passed i).0 p) [
        | inl q ↦ elim ((f.passed i).0 q) [ inl r ↦ inl r | inr k ↦ inr (In-left i xs ys k) ]
        | inr k ↦ inr (In-right i xs ys k)
      ],
      λ p. (g.passed i).1 (elim p [
        | inl q ↦ inl ((f.passed i).1 (inl q))
        | inr k ↦ elim (In-append i xs ys k) [ inl here ↦ inl ((f.passed i).1 (inr here)) | inr there ↦ inr there ]
      ]),
    );
    limit = g.limit ∙ f.limit;
    last_version = g.last_version ∙ f.last_version;
  }
    where
      apart : (i : ArenaIndex) → In i xs → In i ys → ⊥
      apart i here there = true≢false (sym (made i here) ∙ ap is_some (g.dead i there))

      none_before : (i : ArenaIndex) → get b i ≡ None → get a i ≡ None
      none_before i gone = by (get a i) refl
        where
          by : (x : Option T) → get a i ≡ x → x ≡ None
          by None e = refl
          by (Some x) e = absurd (true≢false (sym (still i (ap is_some e)) ∙ ap is_some gone))

  -- some were handed out, at most so many skipped after them
  pub Skips-join : (a b c : Arena T) (xs : List ArenaIndex) (n m : ℕ) → Grows a b xs → ((i : ArenaIndex) → IsLiveIn a i → IsLiveIn b i) → ((i : ArenaIndex) → In i xs → IsLiveIn b i) → SkipsIds b c n → length xs + n ≤ m → SkipsIds a c m
  Skips-join a b c xs n m f still made g few = record {
    skipped = xs ++ g.skipped;
    few = omega (arith, length-append xs g.skipped, g.few, few);
    grows = Grows-join a b c xs g.skipped f still made g.grows;
  }

  pub Skips-of : (a b : Arena T) (xs : List ArenaIndex) (n : ℕ) → Grows a b xs → length xs ≤ n → SkipsIds a b n
  Skips-of a b xs n g few = record { skipped = xs; few = few; grows = g }

  pub Skips-then : (a b c : Arena T) (n : ℕ) → SkipsIds a b n → ((i : ArenaIndex) → is_passed c i ≡ is_passed b i) → c.limit ≡ b.limit → c.last_version ≡ b.last_version → SkipsIds a c n
  Skips-then a b c n s passed limit last = record { skipped = s.skipped; few = s.few; grows = Grows-then a b c s.skipped s.grows passed limit last }

  -- more that hands out none
  pub Grows-nil : (a b c : Arena T) (xs : List ArenaIndex) → Grows a b xs → Grows b c [] → Grows a c xs
  Grows-nil a b c xs f g = record {
    distinct = f.distinct;
    dead = f.dead;
    are_new = f.are_new;
    passed = λ i. (
      λ p. elim ((g.passed i).0 p) [ inl q ↦ (f.passed i).0 q | inr k ↦ absurd k ],
      λ p. (g.passed i).1 (inl ((f.passed i).1 p)),
    );
    limit = g.limit ∙ f.limit;
    last_version = g.last_version ∙ f.last_version;
  }

  pub Skips-nil : (a b c : Arena T) (n : ℕ) → SkipsIds a b n → Grows b c [] → SkipsIds a c n
  Skips-nil a b c n s g = record { skipped = s.skipped; few = s.few; grows = Grows-nil a b c s.skipped s.grows g }

  -- none were skipped
  pub Skips-none : (a b : Arena T) → SkipsIds a b 0 → Grows a b []
  Skips-none a b s = by s.skipped s.few s.grows
    where
      by : (xs : List ArenaIndex) → length xs ≤ 0 → Grows a b xs → Grows a b []
      by [] few grows = grows
      by (x ∷ xs) few grows = absurd (omega (arith, few))
