-- What stands in the list of an entity, and entities in which nothing stands deeper than that.
use Rattle.std.specs.Prelude.{◌≡◌, ◌⊎◌, List, []}
use Rattle.ir_model.specs.Nesting.{In}

-- a is e, or stands in its list
abbrev pub IsAt : {E : Type 0} → (E → List E) → E → E → Type 0
IsAt lists e a = (a ≡ e) ⊎ In a (lists e)

-- nothing stands in what stands in e
abbrev pub IsShallow : {E : Type 0} → (E → List E) → E → Type 0
IsShallow {E} lists e = (c : E) → In c (lists e) → lists c ≡ []
