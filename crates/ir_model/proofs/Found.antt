-- What holds of a thing that is there.
use mathlib.Core.Path.{◌≡◌, refl, sym, ◌∙◌, subst}
use Rattle.std.proofs.Common.{Option, Some, None, IsSome}
use Rattle.ir_model.specs.Edits.{The}

-- it is there, so what holds of it holds of what is there
pub holds_of : {A : Type 0} {P : A → Type 0} (m : Option A) (x : A) → m ≡ Some x → The m P → P x
holds_of {P = P} m x e t = (let f : Some t.value ≡ Some x = sym t.found ∙ e in let g : t.value ≡ x = cc in subst P g t.holds)

-- the same of what is seen to be there
pub held : {A : Type 0} {P : A → Type 0} (a : A) → The (Some a) P → P a
held a t = holds_of (Some a) a refl t

-- nothing holds of what is not there
pub nothing : {A : Type 0} {P : A → Type 0} → The None P → ⊥
nothing t = let e : None ≡ Some t.value = t.found in cc

-- what is there is something
pub there : {A : Type 0} (m : Option A) → IsSome m → (a : A) × (m ≡ Some a)
there None h = cc
there (Some a) h = (a, refl)
