-- How many numbers and slots are left.
use Rattle.std.proofs.Common.{◌≡◌, refl, sym, ap, ℕ, zero, suc, ◌-◌, ◌<◌, ◌≤◌, ◌↔◌, inl, inr, List, [], ◌∷◌, length, Option, Some, None, IsTrue, Bool, true, false, ◌==◌, ◌≢◌, arith}
use Rattle.std.specs.Prelude.{nat_lt, IsSome}
use Rattle.std.specs.Option.{option_map}
use Rattle.std.proofs.lemmas.Bool.{lt-ltb, ltb-true, eqb-true, eqb-false}
use Rattle.ir_model.specs.declared.ids.ArenaIndex.{ArenaIndex}
use Rattle.ir_model.specs.declared.ids.Limits.{Limits}
use Rattle.ir_model.specs.Ids.{Absent, Distinct}
use Rattle.ir_model.specs.Nesting.{In}
use Rattle.ir_model.specs.Sessions.{Number, TakesSlot}
use Rattle.ir_base_arenas.specs.Arena.{Arena, get, IsLiveIn, IsWhole, is_passed, room}
use Rattle.ir_model.proofs.ArenaRoom.{takes-number, room-splits}
use Rattle.ir_core_context.specs.Calls.{Left}
use Rattle.ir_core_context.specs.Sound.{Keeps}

-- the numbers below n
abbrev pub below : ℕ → List ℕ
below zero = []
below (suc n) = n ∷ below n

In-below : (n m : ℕ) → In m (below n) → m < n
In-below zero m h = elim h [ ]
In-below (suc n) m (inl e) = omega (arith, e)
In-below (suc n) m (inr h) = let k : m < n = In-below n m h in omega arith

pub below-In : (n m : ℕ) → m < n → In m (below n)
below-In zero m h = absurd (omega arith)
below-In (suc n) m h = by (below-In n m) (m == n) refl
  where
    by : (m < n → In m (below n)) → (b : Bool) → m == n ≡ b → In m (below (suc n))
    by more true e = inl (eqb-true m n e)
    by more false e = inr (more (let ne : m ≢ n = eqb-false m n e in omega arith))

Absent-below : (n m : ℕ) → n ≤ m → Absent m (below n)
Absent-below zero m h = tt
Absent-below (suc n) m h = (λ e. omega (arith, e), Absent-below n m (omega arith))

Distinct-below : (n : ℕ) → Distinct (below n)
Distinct-below zero = tt
Distinct-below (suc n) = (Absent-below n n (omega arith), Distinct-below n)

pub length-below : (n : ℕ) → length (below n) ≡ n
length-below zero = refl
length-below (suc n) = ap suc (length-below n)

-- as many numbers are below n as n
pub Number-below : (n : ℕ) → Number (λ m. IsTrue (nat_lt m n)) n
Number-below n = (
  below n,
  Distinct-below n,
  λ m. (λ h. lt-ltb m n (In-below n m h), λ h. below-In n m (ltb-true m n h)),
  length-below n,
)

pub Number-same : {A : Type 0} {P Q : A → Type 0} (n : ℕ) → ((x : A) → P x ↔ Q x) → Number P n → Number Q n
Number-same n same p = (p.0, p.1, λ x. (λ h. (same x).0 ((p.2 x).0 h), λ h. (p.2 x).1 ((same x).1 h)), p.3)

pub Left-below : (n count : ℕ) → n ≤ count → Left count (λ m. IsTrue (nat_lt m n)) (count - n)
Left-below n count h = record { gone = n; number = Number-below n; whole = omega arith }

-- the slots that are taken
pub Left-taken : {T : Type 0} (limits : Limits) (a : Arena T) → Keeps limits a → IsWhole a → Left limits.slots (TakesSlot limits (is_passed a) (IsLiveIn a)) (room a)
Left-taken limits a keeps whole = record { gone = a.limit - room a; number = takes-number limits a (sym keeps.last_version) whole; whole = omega (arith, room-splits a whole, keeps.limit) }

module _ {T R : Type 0} (f : ArenaIndex → T → R) (limits : Limits) (a : Arena T) (keeps : Keeps limits a) (whole : IsWhole a) where
  there : (i : ArenaIndex) (m : Option T) → IsSome m ↔ IsSome (option_map (f i) m)
  there i None = (λ h. h, λ h. h)
  there i (Some x) = (λ _. refl, λ _. refl)

  -- the slots that are taken, counted by what the records mean
  pub takes-meant : Number (TakesSlot limits (is_passed a) (λ i. IsSome (option_map (f i) (get a i)))) (a.limit - room a)
  takes-meant = Number-same _ (λ i. (
    λ h. elim h [ inl live ↦ inl ((there i (get a i)).0 live) | inr gone ↦ inr (gone.0, λ live. gone.1 ((there i (get a i)).1 live), gone.2) ],
    λ h. elim h [ inl live ↦ inl ((there i (get a i)).1 live) | inr gone ↦ inr (gone.0, λ live. gone.1 ((there i (get a i)).0 live), gone.2) ],
  )) (takes-number limits a (sym keeps.last_version) whole)

  pub Left-slots : Left limits.slots (TakesSlot limits (is_passed a) (λ i. IsSome (option_map (f i) (get a i)))) (room a)
  Left-slots = record { gone = a.limit - room a; number = takes-meant; whole = omega (arith, room-splits a whole, keeps.limit) }
