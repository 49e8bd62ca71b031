-- Sets of uses, as they are chosen to be redirected.
use Rattle.std.specs.Prelude.{Bool, true, false, ◌&&◌, if◌then◌else◌, nat_eq, ℕ, zero, suc, List, [], ◌∷◌}
use Rattle.ir_model.specs.ContextIds.{context_ids, same_id}
use Rattle.ir_model.specs.Uses.{Use}
use Rattle.ir_core_records.specs.declared.record.UseIndex.{UseIndex}
use Rattle.ir_core_records.specs.Meaning.{use_of}

-- whether both are one use
abbrev pub same_use : Use context_ids → Use context_ids → Bool
same_use u w = same_id u.user w.user && nat_eq u.number w.number

-- whether the use is one of these, and its answer is yes: the answers are as many as the uses, in their order
abbrev pub is_chosen : List UseIndex → List Bool → Use context_ids → Bool
is_chosen [] answers w = false
is_chosen (u ∷ us) [] w = false
is_chosen (u ∷ us) (answer ∷ answers) w = if answer && same_use (use_of u) w then true else is_chosen us answers w

-- the uses whose answer is yes, in order
abbrev pub chosen : List UseIndex → List Bool → List UseIndex
chosen [] answers = []
chosen (u ∷ us) [] = []
chosen (u ∷ us) (answer ∷ answers) = if answer then u ∷ chosen us answers else chosen us answers

-- the uses whose answer is no, in order
abbrev pub left_out : List UseIndex → List Bool → List UseIndex
left_out [] answers = []
left_out (u ∷ us) [] = u ∷ us
left_out (u ∷ us) (answer ∷ answers) = if answer then left_out us answers else u ∷ left_out us answers

-- how many of the first n answers are yes
abbrev pub count_yes : List Bool → ℕ → ℕ
count_yes [] n = 0
count_yes (answer ∷ answers) zero = 0
count_yes (answer ∷ answers) (suc n) = if answer then suc (count_yes answers n) else count_yes answers n

-- how many of the first n answers are no
abbrev pub count_no : List Bool → ℕ → ℕ
count_no [] n = 0
count_no (answer ∷ answers) zero = 0
count_no (answer ∷ answers) (suc n) = if answer then count_no answers n else suc (count_no answers n)
