-- Whether an operation has a region at a place that can be erased, by its record.
use Rattle.std.proofs.Common.{◌≡◌, sym, ap, subst, ◌∙◌, ℕ, ◌<◌, length, Some}
use Rattle.std.specs.Prelude.{slice_get}
use Rattle.std.proofs.lemmas.Option.{slice_get_within}
use Rattle.ir_model.specs.declared.ids.ArenaIndex.{ArenaIndex}
use Rattle.ir_model.specs.ContextIds.{context_ids}
use Rattle.ir_model.specs.Forest.{Dialect, Forest, OpRecord, a_region}
use Rattle.ir_model.specs.Nesting.{IsClosed, list_of, regions_of}
use Rattle.ir_model.specs.Edits.{The}

module _ {W : Dialect} (f : Forest context_ids W) (i : ArenaIndex) (r : OpRecord context_ids W) (is : f.ops i ≡ Some r) (at : ℕ) where
  abbrev ClosedAt : Type 0
  ClosedAt = The (slice_get (regions_of f i) at) (λ g. IsClosed f (a_region g))

  listed : slice_get (regions_of f i) at ≡ slice_get r.regions at
  listed = ap (λ q. slice_get (list_of (λ (o : OpRecord context_ids W). o.regions) q) at) is

  module _ (g : ArenaIndex) (found : slice_get r.regions at ≡ Some g) where
    pub closed_there : IsClosed f (a_region g) → ClosedAt
    closed_there free = record { value = g; found = listed ∙ found; holds = free }

    pub not_closed : (IsClosed f (a_region g) → ⊥) → ClosedAt → ⊥
    not_closed fails t =
        let both : Some t.value ≡ Some g = sym t.found ∙ listed ∙ found in
        let same : t.value ≡ g = cc in
        fails (subst (λ x. IsClosed f (a_region x)) same t.holds)

  pub within : ClosedAt → at < length r.regions
  within t = slice_get_within r.regions at t.value (sym listed ∙ t.found)
