-- Where no letter or no answer is left, no line is.
use mathlib.Core.Path.{◌≡◌, refl, subst}
use Rattle.std.proofs.lemmas.List.{append-nil}
use Rattle.std.proofs.Common.{rules, ℕ, ◌⊎◌, List, [], ◌∷◌, ◌++◌}
use Rattle.ir_model.specs.declared.answer.Answer.{Answer}
use Rattle.toy_script_text.specs.declared.script_parse.Letter.{Letter}
use Rattle.toy_script_text.specs.Lines.{answer_lines}

none_left : (letters : List Letter) (answers : List Answer) → (letters ≡ []) ⊎ (answers ≡ []) → answer_lines letters answers ≡ []
none_left [] answers h = refl
none_left (letter ∷ letters) [] h = refl
none_left (letter ∷ letters) (answer ∷ answers) h = absurd (search rules)

-- then the text so far is all
pub ended : (text whole : List ℕ) (letters : List Letter) (answers : List Answer) → text ++ answer_lines letters answers ≡ whole → (letters ≡ []) ⊎ (answers ≡ []) → text ≡ whole
ended text whole letters answers e h = subst (λ t. t ≡ whole) (append-nil text) (subst (λ more. text ++ more ≡ whole) (none_left letters answers h) e)
