-- Rows have exactly the faults of their parts in the tree.
use Rattle.std.proofs.Common.{◌≡◌, ◌⊎◌, ◌↔◌, ℕ, ◌+◌, ◌<◌, List, length, sym, ap, ◌∙◌, inl, inr, ⊎_elim, arith}
use Rattle.ir_text_tree.specs.declared.row.Part.TheVariants as parts
use Rattle.ir_text_tree.specs.Trees.{Body, tree_rows}
use Rattle.ir_text_names.specs.declared.fault.Wrong.{Wrong}
use Rattle.ir_text_names.specs.declared.fault.Wrong.TheVariants as wrongs
use Rattle.ir_text_names.specs.Counts.{HasOtherTypes}
use Rattle.ir_text_names.specs.Numbers.{results_before, HasOtherResults}
use Rattle.ir_text_names.specs.Indices.{IsBeyond}
use Rattle.ir_text_names.specs.Values.{IsValueAgain, NamesNoValue}
use Rattle.ir_text_names.specs.Firsts.{HasNone}
use Rattle.ir_text_names.specs.Resolved.{IsWrong}
use Rattle.ir_text_names.specs.Sorts.{is_operand, is_operand_type, is_result_type}
use Rattle.ir_text_meaning.specs.Owners.{IsName, HasOtherTypesAt, result_type_count}
use Rattle.ir_text_meaning.specs.Numbered.{value_count, HasOtherResultsAt}
use Rattle.ir_text_meaning.specs.Faults.{MeansNoValue}
use Rattle.ir_text_meaning.specs.Values.{IsBeyondThose}
use Rattle.ir_text_meaning.specs.WellNamed.{IsFaultAt, IsWellNamed}
use Rattle.ir_text_meaning.proofs.NameFaults.{values_again_meet, blocks_again_meet, no_values_meet, no_blocks_meet}
use Rattle.ir_text_meaning.proofs.Owned.{keys_meet}
use Rattle.ir_text_meaning.proofs.Counting.{rows_of, name_found, name_there, behind_name, operands_there, operand_types_there, result_types_there}
use Rattle.ir_text_meaning.proofs.Results.{results_there, no_counts_meet, count_within}
use Rattle.ir_text_meaning.proofs.NameMeanings.{row_within}
use Rattle.ir_text_meaning.proofs.OtherTypes.{other_type_meets}
use Rattle.ir_text_meaning.proofs.Indexed.{beyond_meets}

-- ---- numbers of types

operands_of : (b : Body) (i : ℕ) (h : IsName b i) → rows_of is_operand (tree_rows b) (i + 1) ≡ length h.owner.head.operands
operands_of b i h = ap (rows_of is_operand (tree_rows b)) (behind_name b i h) ∙ operands_there b h.body h.body_at h.owner h.owner_at h.in_tree h.in_body

operand_types_of : (b : Body) (i : ℕ) (h : IsName b i) → rows_of is_operand_type (tree_rows b) (i + 1) ≡ length h.owner.tail.operand_types
operand_types_of b i h = ap (rows_of is_operand_type (tree_rows b)) (behind_name b i h) ∙ operand_types_there b h.body h.body_at h.owner h.owner_at h.in_tree h.in_body

result_types_of : (b : Body) (i : ℕ) (h : IsName b i) → rows_of is_result_type (tree_rows b) (i + 1) ≡ result_type_count h.owner.tail.result_types
result_types_of b i h = ap (rows_of is_result_type (tree_rows b)) (behind_name b i h) ∙ result_types_there b h.body h.body_at h.owner h.owner_at h.in_tree h.in_body

values_of_name : (text : List ℕ) (b : Body) (i : ℕ) (h : IsName b i) → results_before text (tree_rows b) i ≡ value_count text h.owner.head.results
values_of_name text b i h = ap (results_before text (tree_rows b)) (sym h.is_name) ∙ results_there text b h.body h.body_at h.owner h.owner_at h.in_tree h.in_body

pub other_types_meet : (b : Body) (i : ℕ) → HasOtherTypes (tree_rows b) i ↔ HasOtherTypesAt b i
other_types_meet b i = (
  λ h. let x = name_found b i h.0 in (x, λ e. h.1 (operands_of b i x ∙ e ∙ sym (operand_types_of b i x))),
  λ h. (name_there b i h.0, λ e. h.1 (sym (operands_of b i h.0) ∙ e ∙ operand_types_of b i h.0)),
)

pub other_results_meet : (text : List ℕ) (b : Body) (i : ℕ) → HasOtherResults text (tree_rows b) i ↔ HasOtherResultsAt text b i
other_results_meet text b i = (
  λ h. let x = name_found b i h.0 in (x, λ e. h.1 (values_of_name text b i x ∙ e ∙ sym (result_types_of b i x))),
  λ h. (name_there b i h.0, λ e. h.1 (sym (values_of_name text b i h.0) ∙ e ∙ result_types_of b i h.0)),
)

-- ---- all faults

pick : {A B C E V W D : Type 0} → (A ⊎ B) ⊎ ((C ⊎ E) ⊎ (V ⊎ W)) → (A → D) → (B → D) → (C → D) → (E → D) → (V → D) → (W → D) → D
pick {A = A} {B = B} {C = C} {E = E} {V = V} {W = W} h f g i j k l =
    ⊎_elim (λ (x : A ⊎ B). ⊎_elim f g x) (λ (x : (C ⊎ E) ⊎ (V ⊎ W)). ⊎_elim (λ (y : C ⊎ E). ⊎_elim i j y) (λ (y : V ⊎ W). ⊎_elim k l y) x) h

never : {D : Type 0} → ⊥ → D
never h = absurd h

nothing : {D : Type 0} → ⊥ ⊎ ⊥ → D
nothing h = absurd (⊎_elim (λ (x : ⊥). x) (λ (x : ⊥). x) h)

either : {A B C E : Type 0} → A ↔ C → B ↔ E → A ⊎ B → C ⊎ E
either {A = A} {B = B} f g h = ⊎_elim (λ (x : A). inl (f.0 x)) (λ (x : B). inr (g.0 x)) h

first : {A C : Type 0} → A ↔ C → A ⊎ ⊥ → C
first {A = A} f h = ⊎_elim (λ (x : A). f.0 x) (λ (x : ⊥). absurd x) h

wrong_meant : (text : List ℕ) (b : Body) (v : Wrong) (i : ℕ) → IsWrong text (tree_rows b) v i → IsFaultAt text b v i
wrong_meant text b wrongs.BlockTwice i h = pick h (blocks_again_meet text b i).0 never never never nothing never
wrong_meant text b wrongs.UnknownBlock i h = pick h (no_blocks_meet text b i).0 never never never nothing never
wrong_meant text b wrongs.KeyTwice i h = pick h never (keys_meet text b i).0 never never nothing never
wrong_meant text b wrongs.OperandTypes i h = pick h never never (other_types_meet b i).0 never nothing never
wrong_meant text b wrongs.ResultCount i h = pick h never never never (no_counts_meet text b i).0 nothing never
wrong_meant text b wrongs.ResultTypes i h = pick h never never never (other_results_meet text b i).0 nothing never
wrong_meant text b wrongs.ValueTwice i h = pick h never never never never (first (values_again_meet text b i)) never
wrong_meant text b wrongs.UnknownValue i h = pick h never never never never (either (no_values_meet text b i) (beyond_meets text b i)) never
wrong_meant text b wrongs.TypeOther i h = pick h never never never never nothing (other_type_meets text b i).0

wrong_told : (text : List ℕ) (b : Body) (v : Wrong) (i : ℕ) → IsFaultAt text b v i → IsWrong text (tree_rows b) v i
wrong_told text b wrongs.BlockTwice i h = inl (inl ((blocks_again_meet text b i).1 h))
wrong_told text b wrongs.UnknownBlock i h = inl (inl ((no_blocks_meet text b i).1 h))
wrong_told text b wrongs.KeyTwice i h = inl (inr ((keys_meet text b i).1 h))
wrong_told text b wrongs.OperandTypes i h = inr (inl (inl ((other_types_meet b i).1 h)))
wrong_told text b wrongs.ResultCount i h = inr (inl (inr ((no_counts_meet text b i).1 h)))
wrong_told text b wrongs.ResultTypes i h = inr (inl (inr ((other_results_meet text b i).1 h)))
wrong_told text b wrongs.ValueTwice i h = inr (inr (inl (inl ((values_again_meet text b i).1 h))))
wrong_told text b wrongs.UnknownValue i h =
    inr (inr (inl (⊎_elim (λ (x : MeansNoValue text b i). inl ((no_values_meet text b i).1 x)) (λ (x : IsBeyondThose text b i). inr ((beyond_meets text b i).1 x)) h)))
wrong_told text b wrongs.TypeOther i h = inr (inr (inr ((other_type_meets text b i).1 h)))

pub wrongs_meet : (text : List ℕ) (b : Body) (v : Wrong) (i : ℕ) → IsWrong text (tree_rows b) v i ↔ IsFaultAt text b v i
wrongs_meet text b v i = (wrong_meant text b v i, wrong_told text b v i)

-- ---- no fault

wrong_within : (text : List ℕ) (b : Body) (v : Wrong) (i : ℕ) → IsWrong text (tree_rows b) v i → i < length (tree_rows b)
wrong_within text b wrongs.BlockTwice i h = pick h (λ x. row_within (tree_rows b) i parts.Label x.0 (λ q. omega (arith, q))) never never never nothing never
wrong_within text b wrongs.UnknownBlock i h = pick h (λ x. row_within (tree_rows b) i parts.Successor x.0 (λ q. omega (arith, q))) never never never nothing never
wrong_within text b wrongs.KeyTwice i h = pick h never (λ x. row_within (tree_rows b) i parts.Key x.0 (λ q. omega (arith, q))) never never nothing never
wrong_within text b wrongs.OperandTypes i h = pick h never never (λ x. row_within (tree_rows b) i parts.Name x.0 (λ q. omega (arith, q))) never nothing never
wrong_within text b wrongs.ResultCount i h = pick h never never never (λ x. count_within (tree_rows b) i x.0) nothing never
wrong_within text b wrongs.ResultTypes i h = pick h never never never (λ x. row_within (tree_rows b) i parts.Name x.0 (λ q. omega (arith, q))) nothing never
wrong_within text b wrongs.ValueTwice i h = pick h never never never never (λ y. ⊎_elim (λ (x : IsValueAgain text (tree_rows b) i). x.0.0) (λ (x : ⊥). absurd x) y) never
wrong_within text b wrongs.UnknownValue i h =
    pick h never never never never (λ y. ⊎_elim (λ (x : NamesNoValue text (tree_rows b) i). row_within (tree_rows b) i parts.Operand x.0 (λ q. omega (arith, q))) (λ (x : IsBeyond text (tree_rows b) i). row_within (tree_rows b) i parts.Operand x.1.1.0 (λ q. omega (arith, q))) y) never
wrong_within text b wrongs.TypeOther i h = pick h never never never never nothing (λ x. row_within (tree_rows b) i parts.Operand x.1.1.0 (λ q. omega (arith, q)))

pub well_named_meets : (text : List ℕ) (b : Body) → HasNone (IsWrong text (tree_rows b)) (length (tree_rows b)) ↔ IsWellNamed text b
well_named_meets text b = (
  λ none_wrong v i fault. let wrong = wrong_told text b v i fault in none_wrong i (wrong_within text b v i wrong) v wrong,
  λ well k lt v wrong. well v k (wrong_meant text b v k wrong),
)
