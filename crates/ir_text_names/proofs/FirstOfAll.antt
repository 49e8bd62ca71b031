-- The first fault of all.
use Rattle.std.proofs.Common.{◌≡◌, ◌⊎◌, ℕ, List, length, Option, sym, ap, subst, ◌∙◌}
use Rattle.ir_text_tree.specs.declared.row.Row.{Row}
use Rattle.ir_text_names.specs.declared.fault.Wrong.{Wrong}
use Rattle.ir_text_names.specs.declared.firsts.Found.{Found}
use Rattle.ir_text_names.specs.Firsts.{IsFirstWrong, sooner}
use Rattle.ir_text_names.specs.Blocks.{IsBlockWrong}
use Rattle.ir_text_names.specs.Counts.{IsCountWrong}
use Rattle.ir_text_names.specs.Keys.{IsKeyWrong}
use Rattle.ir_text_names.specs.Numbers.{IsResultWrong}
use Rattle.ir_text_names.specs.Uses.{IsUseWrong}
use Rattle.ir_text_names.specs.Resolved.{IsWrong}
use Rattle.ir_text_names.proofs.FirstRows.{sooner_first}

pub first_of_all : (text : List ℕ) (rows : List Row) (a b c d e places counts uses found : Option Found) → places ≡ sooner a b → counts ≡ sooner c d → uses ≡ sooner counts e → found ≡ sooner places uses → IsFirstWrong (IsBlockWrong text rows) (length rows) a
    → IsFirstWrong (IsKeyWrong text rows) (length rows) b → IsFirstWrong (IsCountWrong rows) (length rows) c → IsFirstWrong (IsResultWrong text rows) (length rows) d → IsFirstWrong (IsUseWrong text rows) (length rows) e
    → IsFirstWrong (IsWrong text rows) (length rows) found
first_of_all text rows a b c d e places counts uses found p q r s h i j k l =
    let n = length rows in
    let A : Wrong → ℕ → Type 0 = λ v i. IsBlockWrong text rows v i ⊎ IsKeyWrong text rows v i in
    let B : Wrong → ℕ → Type 0 = λ v i. IsCountWrong rows v i ⊎ IsResultWrong text rows v i in
    let C : Wrong → ℕ → Type 0 = λ v i. B v i ⊎ IsUseWrong text rows v i in
    let of_uses : uses ≡ sooner (sooner c d) e = r ∙ ap (λ (x : Option Found). sooner x e) q in
    let of_found : found ≡ sooner (sooner a b) (sooner (sooner c d) e) = s ∙ ap (λ (x : Option Found). sooner x uses) p ∙ ap (sooner (sooner a b)) of_uses in
    subst (IsFirstWrong (IsWrong text rows) n) (sym of_found)
    (sooner_first A C n (sooner a b) (sooner (sooner c d) e) (sooner_first (IsBlockWrong text rows) (IsKeyWrong text rows) n a b h i)
    (sooner_first B (IsUseWrong text rows) n (sooner c d) e (sooner_first (IsCountWrong rows) (IsResultWrong text rows) n c d j k) l))
