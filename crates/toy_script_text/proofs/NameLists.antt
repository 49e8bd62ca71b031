-- The numbers of a list of names are those of the names that it is cut into.
use mathlib.Core.Path.{◌≡◌, sym, subst}
use Rattle.std.proofs.lemmas.List.{map-append}
use Rattle.std.proofs.lemmas.Slice.Zip.{all_zipped_more}
use Rattle.std.proofs.Common.{ℕ, inr, ◌==◌, Option, Some, None, SomeIff, List, [], ◌∷◌, ◌++◌, map}
use Rattle.std.specs.List.{AllZip, slice_split}
use Rattle.toy_script_text.specs.Fields.{IsName, number_in_name, IsNameOf, AreNames}

-- one more name, and its number
pub more : {A : Type 0} (v : A → List ℕ) (letter : ℕ) (xs : List A) (x : A) (numbers : List ℕ) (number : ℕ) → AllZip (IsNameOf letter) (map v xs) numbers → IsNameOf letter (v x) number → AllZip (IsNameOf letter) (map v (xs ++ x ∷ [])) (numbers ++ number ∷ [])
more v letter xs x numbers number so_far one = subst (λ names. AllZip (IsNameOf letter) names (numbers ++ number ∷ [])) (sym (map-append v xs (x ∷ []))) (all_zipped_more (IsNameOf letter) (map v xs) numbers (v x) number so_far one)

-- all names
pub all_names : (letter : ℕ) (text : List ℕ) (names : List (List ℕ)) (numbers : List ℕ) → AllZip (IsNameOf letter) names numbers → names ≡ slice_split (λ byte. byte == 44) text → AreNames letter text numbers
all_names letter text names numbers h e = inr (subst (λ ns. AllZip (IsNameOf letter) ns numbers) e h)

-- what is read as a name is one
pub named : (letter : ℕ) (text : List ℕ) (read : Option ℕ) (number : ℕ) → SomeIff read (IsName letter text) (number_in_name text) → read ≡ Some number → IsNameOf letter text number
named letter text None number h e = absurd cc
named letter text (Some read) number h e = (let same : read ≡ number = cc in subst (λ n. IsNameOf letter text n) same (h.0, h.1))
