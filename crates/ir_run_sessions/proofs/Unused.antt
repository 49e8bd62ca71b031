-- Whether an operation names the result or argument at a place, by what its value is asked.
use Rattle.std.proofs.Common.{◌≡◌, sym, subst, ◌∙◌, ℕ, ◌<◌, length, Some, arith}
use Rattle.std.specs.Prelude.{slice_get}
use Rattle.std.proofs.lemmas.List.{length-map}
use Rattle.std.proofs.lemmas.Option.{slice_get_within}
use Rattle.ir_model.specs.ContextIds.{context_ids}
use Rattle.ir_model.specs.Edits.{Unused}
use Rattle.ir_model.specs.Forest.{Definer, Definition, Dialect, Forest, Value, a_value}
use Rattle.ir_model.specs.Nesting.{definitions_of, numbers_of}
use Rattle.ir_model.specs.Uses.{IsUse, Use}
use Rattle.ir_core_queries.specs.Definitions.{UnusedAt}
use Rattle.ir_core_queries.specs.Named.{unused-value, use-names}

module _ {W : Dialect} (f : Forest context_ids W) (d : Definer context_ids) (at : ℕ) where
  -- what isn't named is there
  pub within : UnusedAt f d at → at < length (definitions_of f d)
  within t = omega (arith, slice_get_within (numbers_of f d) at t.value t.found, length-map (definitions_of f d) (λ (x : Definition context_ids W). x.number))

  module _ (v : Value context_ids) (own : v.definer ≡ d) (found : slice_get (numbers_of f d) at ≡ Some v.number) where
    -- the value that d defines with this number
    abbrev value_by : Definer context_ids → ℕ → Value context_ids
    value_by e n = record { definer = e; number = n }

    -- a value without uses isn't named
    pub unused_there : ((u : Use context_ids) × IsUse f (a_value v) u → ⊥) → UnusedAt f d at
    unused_there none = record { value = v.number; found = found; holds = subst (λ e. Unused f (a_value (value_by e v.number))) own (unused-value f v none) }

    -- and one with a use is
    pub used_there : (u : Use context_ids) × IsUse f (a_value v) u → UnusedAt f d at → ⊥
    used_there u t =
        let both : Some t.value ≡ Some v.number = sym t.found ∙ found in
        let same : t.value ≡ v.number = cc in
        let unused : Unused f (a_value v) = subst (λ e. Unused f (a_value (value_by e v.number))) (sym own) (subst (λ n. Unused f (a_value (value_by d n))) same t.holds) in
        unused u.0.user (use-names f v u.0 u.1)
