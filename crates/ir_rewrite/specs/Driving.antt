-- What a driver does that applies patterns.
use Rattle.std.specs.Prelude.{◌≡◌, ⊤, ℕ, zero, suc, List, Bool, true, false, Result, Ok, Err, All}
use Rattle.ir_model.specs.declared.ids.ArenaIndex.{ArenaIndex}
use Rattle.ir_model.specs.ContextIds.{context_ids}
use Rattle.ir_model.specs.Forest.{Dialect, Forest, an_op}
use Rattle.ir_model.specs.Nesting.{In, Inside, IsLive}

module _ {E : Type 0} where
  -- P, if the answer is no
  abbrev pub OnNo : Result Bool E → Type 0 → Type 0
  OnNo (Ok true) P = ⊤
  OnNo (Ok false) P = P
  OnNo (Err e) P = ⊤

  -- P, if the answer is yes
  abbrev pub OnYes : Result Bool E → Type 0 → Type 0
  OnYes (Ok true) P = P
  OnYes (Ok false) P = ⊤
  OnYes (Err e) P = ⊤

module _ {W : Dialect} where
  -- the operation is live and stands inside the root
  abbrev pub Stands : Forest context_ids W → ArenaIndex → ArenaIndex → Type 0
  Stands f root o = IsLive f (an_op o) × Inside f (an_op root) (an_op o)

module _ {W : Dialect} {S P : Type 0} (forest : S → Forest context_ids W) where
  -- each of the patterns says no of each operation that stands inside the root
  abbrev pub NoneApplies : (P → S → ArenaIndex → Type 0) → ArenaIndex → List P → S → Type 0
  NoneApplies declines root patterns s = (o : ArenaIndex) → Stands (forest s) root o → All (λ p. declines p s o) patterns

  module _ (changes : P → S → ArenaIndex → S → Type 0) (root : ArenaIndex) (patterns : List P) where
    -- one of the patterns made the second of the first, asked of an operation that stands inside the root
    pub record OneChanges (s t : S) : Type 0 where
      pub pattern : P
      pub op : ArenaIndex
      pub listed : In pattern patterns
      pub stands : Stands (forest s) root op
      pub changed : changes pattern s op t

    -- so many times, one after the other, one of the patterns changed something
    pub data Rewrites (s : S) : S → ℕ → Type 0 where
      no_step : Rewrites s s zero
      one_step : {t u : S} {n : ℕ} → Rewrites s t n → OneChanges t u → Rewrites s u (suc n)
