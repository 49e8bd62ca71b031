-- What is written alike is one.
use Rattle.std.specs.Prelude.{◌≡◌, ◌≢◌, ℕ, List, [], Option, Some, codes}
use Rattle.std.specs.Option.{option_and_then}
use Rattle.ir_model.specs.Forest.{Text}
use Rattle.ir_model.specs.Stores.{attribute_at}
use Rattle.generic_dialect.specs.declared.generic.KeptAttr.{KeptAttr}
use Rattle.ir_text_described.specs.Words.{Words}
use Rattle.ir_opt_run.specs.GenericBehaviour.{AreGenericWords, generic}

-- By these words two types that are written alike are one, two attributes under one name that are written alike are one, and so are two properties; but for what is written as an empty text, which no tree has.
pub record AreOne (words : Words generic) : Type 0 where
  pub types : (p q : ℕ) → words.type_text p ≢ [] → words.type_text p ≡ words.type_text q → p ≡ q
  pub attributes : (name : Text) (a b : KeptAttr) (key : List ℕ) (value : Option (List ℕ)) → words.entry name a ≡ Some (key, value) → words.entry name b ≡ Some (key, value) → value ≢ Some [] → a ≡ b
  pub properties : (xs ys : List (Text × KeptAttr)) (text : List ℕ) → words.properties xs ≡ Some text → words.properties ys ≡ Some text → text ≢ []
      → option_and_then (λ a. Some a.0) (attribute_at xs (codes "__properties")) ≡ option_and_then (λ a. Some a.0) (attribute_at ys (codes "__properties"))

-- so it is by whatever words of the dialect
abbrev pub WrittenAlikeIsOne : Type 0
WrittenAlikeIsOne = (words : Words generic) → AreGenericWords words → AreOne words
