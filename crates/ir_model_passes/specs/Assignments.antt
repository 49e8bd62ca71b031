-- That there are consistent assignments, so that what holds under each of them says something.
use Rattle.std.specs.Prelude.{◌≡◌, ℕ, ◌<◌, map, Some}
use Rattle.ir_model.specs.Ids.{Ids}
use Rattle.ir_model.specs.Forest.{Dialect, Behaviour, Forest, Value, of_op, OpRecord}
use Rattle.ir_model.specs.Nesting.{In}
use Rattle.ir_model_passes.specs.Meaning.{Interpretation, IsPlain, Consistent, named_values}

module _ {N : Ids} {W : Dialect} (B : Behaviour W) where
  -- the value is a result of a plain operation
  abbrev pub IsPlainResult : Forest N W → Value N → Type 0
  IsPlainResult f v = (o : N.Op) × (r : OpRecord N W) × (v.definer ≡ of_op o) × (f.ops o ≡ Some r) × IsPlain B r × In v.number (map (λ d. d.number) r.results)

  -- plain operations have ranks, and each that names a result of another one has the higher rank: they don't use each other in a ring
  pub record IsRanked (f : Forest N W) : Type 0 where
    pub rank : N.Op → ℕ
    pub rises : (o q : N.Op) (r s : OpRecord N W) (v : Value N) → f.ops o ≡ Some r → IsPlain B r → f.ops q ≡ Some s → IsPlain B s → In v (named_values r) → v.definer ≡ of_op q → rank q < rank o

  -- whatever the other values are, an assignment that has these is consistent
  abbrev pub CanBeCompleted : {V : Type 0} → Interpretation W V → Forest N W → Type 0
  CanBeCompleted {V} gives f = (base : Value N → V) → (a : Value N → V) × Consistent B gives a f × ((v : Value N) → (IsPlainResult f v → ⊥) → a v ≡ base v)
