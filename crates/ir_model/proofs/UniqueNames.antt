-- Unique names are read from their ends: a value's ends in its number, a block's in its slot, `v` and its version.
use mathlib.Core.Path.{◌≡◌, refl, sym, ap, ◌∙◌, subst}
use mathlib.Core.List.{append_assoc}
use Rattle.std.proofs.Common.{ℕ, ◌+◌, ◌<◌, ◌≤◌, ◌^◌, ◌%◌, Option, Some, None, [], ◌∷◌, ◌++◌, arith}
use Rattle.std.specs.Fmt.{decimal}
use Rattle.std.proofs.lemmas.Fmt.{decimal_by_steps, decimal_injective}
use Rattle.ir_model.specs.declared.ids.ArenaIndex.{ArenaIndex}
use Rattle.ir_model.specs.ContextIds.{context_ids}
use Rattle.ir_model.specs.Forest.{Text, Dialect, Forest, Value, Definition}
use Rattle.ir_model.specs.Nesting.{In, WellFormed, numbers_of, definitions_of}
use Rattle.ir_model.specs.Names.{unique_name, value_id, block_id, IsValueName, IsBlockName}
use Rattle.ir_model.specs.DefinitionLaws.{FitsIndex}
use Rattle.ir_model.proofs.Nests.{In-map}

-- digits alone
Digits : Text → Type 0
Digits [] = Unit {0}
Digits (c ∷ cs) = (48 ≤ c) × (c < 58) × Digits cs

Digits-push : (cs : Text) (c : ℕ) → 48 ≤ c → c < 58 → Digits cs → Digits (cs ++ c ∷ [])
unfolding Digits
Digits-push [] c low high h = (low, high, tt)
Digits-push (d ∷ cs) c low high h = (h.0, h.1, Digits-push cs c low high h.2)

Digits-in : (c : ℕ) (xs cs : Text) → Digits (xs ++ c ∷ cs) → (48 ≤ c) × (c < 58)
unfolding Digits
Digits-in c [] cs h = (h.0, h.1)
Digits-in c (x ∷ xs) cs h = Digits-in c xs cs h.2

Digits-decimal : (n : ℕ) → n < 2 ^ 64 → Digits (decimal n)
unfolding Digits
Digits-decimal n h = decimal_by_steps (λ n ds. Digits ds)
    (λ n s. (omega arith, omega arith, tt))
    (λ n ds s more. Digits-push ds (48 + n % 10) (omega arith) (let k : n % 10 < 10 = search (arith) in omega arith) more)
    n h

-- two texts that end in digits behind something else are one in all three parts
record SameEnds (xs ys cs ds : Text) (c d : ℕ) : Type 0 where
  front : xs ≡ ys
  middle : c ≡ d
  digits : cs ≡ ds

IsOther : ℕ → Type 0
IsOther c = (48 ≤ c) × (c < 58) → ⊥

same_ends : (xs ys cs ds : Text) (c d : ℕ) → IsOther c → IsOther d → Digits cs → Digits ds → xs ++ c ∷ cs ≡ ys ++ d ∷ ds → SameEnds xs ys cs ds c d
unfolding IsOther
same_ends [] [] cs ds c d m n h k e = record { front = refl; middle = cc; digits = cc }
same_ends [] (y ∷ ys) cs ds c d m n h k e = absurd (n (Digits-in d ys ds (let t : cs ≡ ys ++ d ∷ ds = cc in subst Digits t h)))
same_ends (x ∷ xs) [] cs ds c d m n h k e = absurd (m (Digits-in c xs cs (let t : xs ++ c ∷ cs ≡ ds = cc in subst Digits (sym t) k)))
same_ends (x ∷ xs) (y ∷ ys) cs ds c d m n h k e =
    let t : xs ++ c ∷ cs ≡ ys ++ d ∷ ds = cc in
    let s : x ≡ y = cc in
    let more = same_ends xs ys cs ds c d m n h k t in
    record { front = (let f = more.front in cc); middle = more.middle; digits = more.digits }

-- what stands before the `v` of a value's name, and before the slot of a block's
abbrev before_value : Option Text → Text
before_value None = []
before_value (Some name) = name ++ 95 ∷ []

abbrev before_block : Option Text → Text
before_block None = 98 ∷ 108 ∷ 111 ∷ 99 ∷ []
before_block (Some name) = name ++ 95 ∷ 98 ∷ 108 ∷ 111 ∷ 99 ∷ []

value_name : (name : Option Text) (n : ℕ) → unique_name name (value_id n) ≡ before_value name ++ 118 ∷ decimal n
value_name None n = refl
value_name (Some name) n = refl

id_name : (i : ArenaIndex) → block_id i ≡ 98 ∷ 108 ∷ 111 ∷ 99 ∷ 107 ∷ (decimal i.slot ++ 118 ∷ decimal i.version)
id_name i = ap (λ z. 98 ∷ 108 ∷ 111 ∷ 99 ∷ 107 ∷ z) (append_assoc (decimal i.slot) (118 ∷ []) (decimal i.version))

block_name : (name : Option Text) (i : ArenaIndex) → unique_name name (block_id i) ≡ (before_block name ++ 107 ∷ decimal i.slot) ++ 118 ∷ decimal i.version
block_name None i = id_name i
block_name (Some name) i =
    ap (λ z. (name ++ 95 ∷ []) ++ z) (id_name i)
    ∙ append_assoc name (95 ∷ []) (98 ∷ 108 ∷ 111 ∷ 99 ∷ 107 ∷ (decimal i.slot ++ 118 ∷ decimal i.version))
    ∙ sym (ap (λ z. z ++ 118 ∷ decimal i.version) (append_assoc name (95 ∷ 98 ∷ 108 ∷ 111 ∷ 99 ∷ []) (107 ∷ decimal i.slot))
    ∙ append_assoc name (95 ∷ 98 ∷ 108 ∷ 111 ∷ 99 ∷ 107 ∷ decimal i.slot) (118 ∷ decimal i.version))

letter : (c : ℕ) → 58 ≤ c → IsOther c
unfolding IsOther
letter c h d = omega (arith, d)

pub values_tell : (name other : Option Text) (m n : ℕ) → m < 2 ^ 64 → n < 2 ^ 64 → unique_name name (value_id m) ≡ unique_name other (value_id n) → m ≡ n
values_tell name other m n h k e =
    let ends = same_ends (before_value name) (before_value other) (decimal m) (decimal n) 118 118 (letter 118 (omega arith)) (letter 118 (omega arith))
    (Digits-decimal m h) (Digits-decimal n k) (sym (value_name name m) ∙ e ∙ value_name other n) in
    decimal_injective m n h k ends.digits

wide : (n : ℕ) → n < 2 ^ 32 → n < 2 ^ 64
wide n h = omega arith

pub blocks_tell : (name other : Option Text) (i j : ArenaIndex) → FitsIndex i → FitsIndex j → unique_name name (block_id i) ≡ unique_name other (block_id j) → i ≡ j
blocks_tell name other i j h k e =
    let ends = same_ends (before_block name ++ 107 ∷ decimal i.slot) (before_block other ++ 107 ∷ decimal j.slot) (decimal i.version) (decimal j.version) 118 118
    (letter 118 (omega arith)) (letter 118 (omega arith)) (Digits-decimal i.version (wide i.version h.1)) (Digits-decimal j.version (wide j.version k.1))
    (sym (block_name name i) ∙ e ∙ block_name other j) in
    let inner = same_ends (before_block name) (before_block other) (decimal i.slot) (decimal j.slot) 107 107
    (letter 107 (omega arith)) (letter 107 (omega arith)) (Digits-decimal i.slot (wide i.slot h.0)) (Digits-decimal j.slot (wide j.slot k.0)) ends.front in
    let slots = decimal_injective i.slot j.slot (wide i.slot h.0) (wide j.slot k.0) inner.digits in
    let versions = decimal_injective i.version j.version (wide i.version h.1) (wide j.version k.1) ends.digits in
    λ t. record { slot = slots t; version = versions t }

-- before the last `v` stand nothing or `_` for a value, and a digit for a block
apart_front : (name other : Option Text) (i : ArenaIndex) → FitsIndex i → before_value name ≡ before_block other ++ 107 ∷ decimal i.slot → ⊥
unfolding Digits
apart_front None None i h e = cc
apart_front None (Some other) i h e = nothing_at_end other e
  where
    nothing_at_end : (xs : Text) → [] ≡ (xs ++ 95 ∷ 98 ∷ 108 ∷ 111 ∷ 99 ∷ []) ++ 107 ∷ decimal i.slot → ⊥
    nothing_at_end [] e = cc
    nothing_at_end (x ∷ xs) e = cc
apart_front (Some name) other i h e =
    let ends = same_ends name (before_block other) [] (decimal i.slot) 95 107 (letter 95 (omega arith)) (letter 107 (omega arith)) tt (Digits-decimal i.slot (wide i.slot h.0)) e in
    let m : 95 ≡ 107 = ends.middle in
    omega (arith, m)

pub apart : (name other : Option Text) (n : ℕ) (i : ArenaIndex) → n < 2 ^ 64 → FitsIndex i → unique_name name (value_id n) ≡ unique_name other (block_id i) → ⊥
apart name other n i h k e =
    let ends = same_ends (before_value name) (before_block other ++ 107 ∷ decimal i.slot) (decimal n) (decimal i.version) 118 118 (letter 118 (omega arith)) (letter 118 (omega arith))
    (Digits-decimal n h) (Digits-decimal i.version (wide i.version k.1)) (sym (value_name name n) ∙ e ∙ block_name other i) in
    apart_front name other i k ends.front

module _ {W : Dialect} (f : Forest context_ids W) (keys : ℕ) (w : WellFormed f keys) where
  pub value_names : (v u : Value context_ids) (text : Text) → v.number < 2 ^ 64 → u.number < 2 ^ 64 → IsValueName f v text → IsValueName f u text → v ≡ u
  value_names v u text h k p q =
      let n = values_tell p.0 q.0 v.number u.number h k (sym p.2 ∙ q.2) in
      let here : In v.number (numbers_of f v.definer) = subst (λ z. In z (numbers_of f v.definer)) p.1.2 (In-map (λ (x : Definition context_ids W). x.number) p.1.0 (definitions_of f v.definer) p.1.1) in
      let there : In u.number (numbers_of f u.definer) = subst (λ z. In z (numbers_of f u.definer)) q.1.2 (In-map (λ (x : Definition context_ids W). x.number) q.1.0 (definitions_of f u.definer) q.1.1) in
      let d = w.numbers v.definer u.definer u.number (subst (λ z. In z (numbers_of f v.definer)) n here) there in
      λ t. record { definer = d t; number = n t }

  pub block_names : (b c : ArenaIndex) (text : Text) → FitsIndex b → FitsIndex c → IsBlockName f b text → IsBlockName f c text → b ≡ c
  block_names b c text h k p q = blocks_tell p.value.label q.value.label b c h k (sym p.holds ∙ q.holds)

  pub names_apart : (v : Value context_ids) (b : ArenaIndex) (text : Text) → v.number < 2 ^ 64 → FitsIndex b → IsValueName f v text → IsBlockName f b text → ⊥
  names_apart v b text h k p q = apart p.0 q.value.label v.number b h k (sym p.2 ∙ q.holds)
