-- Each change of what stays is refused.
use mathlib.Core.Path.{◌≡◌, refl, sym, ap, ◌∙◌, subst}
use Rattle.std.proofs.Common.{ℕ, false, true, inl, inr, Option, Some, None, List, [], ◌∷◌, map, is_some}
use Rattle.std.specs.List.{filter}
use Rattle.ir_model.specs.Forest.{Definition, OpRecord, BlockRecord, Forest, Operand, Successor, an_op, a_block, a_region}
use Rattle.ir_model.specs.Nesting.{Inside, itself, below, regions_of}
use Rattle.ir_model.specs.Changes.{on_ops}
use Rattle.ir_model.specs.SmallForests.{Small, n0, n1, n2, n3, n4, n5, small_ids, table, result, operand, successor}
use Rattle.ir_model_passes.specs.Meaning.{SameButNamed, OnlyPureGo}
use Rattle.ir_model_passes.specs.MarkedForests.{marked, two_pure, gives_mark, constant, effect, block_with, one_block, one_mark}
use Rattle.ir_model_passes.specs.KeptRows.{changed, changed_block, IsRefused, with_block, block_alone, KeptRows}
use Rattle.ir_model_passes.proofs.Going.{some_one, none_is_not_some}
use Rattle.ir_model_passes.proofs.Preorder.{meaning_stays}
use Rattle.ir_model_passes.proofs.WrongPasses.{one_mark_formed, heads}
use Rattle.ir_model_passes.proofs.FlatForests.{alone}

abbrev Op : Type 0
Op = OpRecord small_ids marked

abbrev Block : Type 0
Block = BlockRecord small_ids marked

-- a record that differs in more than the named values is refused
op_refused : (change : Op → Op) → (SameButNamed (effect (result n0 n0)) (change (effect (result n0 n0))) → ⊥) → IsRefused (changed change)
op_refused change differs k =
    let was = k.ops n1 (change (effect (result n0 n0))) refl in
    differs (subst (λ (q : Op). SameButNamed q (change (effect (result n0 n0)))) (sym (some_one (effect (result n0 n0)) was.0 was.1)) was.2)

block_refused : (change : Block → Block) → (change (block_with (n0 ∷ n1 ∷ [])) ≡ block_with (n0 ∷ n1 ∷ []) → ⊥) → IsRefused (changed_block change)
block_refused change differs k =
    let was = k.blocks n0 (change (block_with (n0 ∷ n1 ∷ []))) refl in
    differs (was.2 ∙ ap (on_ops (filter (λ o. is_some ((changed_block change).ops o)))) (sym (some_one (block_with (n0 ∷ n1 ∷ [])) was.0 was.1)))

list_differs : {A : Type 0} (x : A) (xs : List A) → x ∷ xs ≡ [] → ⊥
list_differs x xs e = cc

shorter_differs : {A : Type 0} (x y : A) → x ∷ [] ≡ x ∷ y ∷ [] → ⊥
shorter_differs x y e = cc

empty_differs : {A : Type 0} (x : A) (xs : List A) → [] ≡ x ∷ xs → ⊥
empty_differs x xs e = cc

label_differs : {A : Type 0} (x : A) → Some x ≡ None → ⊥
label_differs x e = cc

number_differs : ◌≡◌ {A = ℕ} 1 0 → ⊥
number_differs e = cc

other_kind : SameButNamed (effect (result n0 n0)) (record (effect (result n0 n0)) { kind = 2 }) → ⊥
other_kind s = (let e : ◌≡◌ {A = ℕ} 2 1 = ap (λ (r : Op). r.kind) s.rest in cc)

other_use : SameButNamed (effect (result n0 n0)) (record (effect (result n0 n0)) { operands = operand n1 (result n0 n0) ∷ [] }) → ⊥
other_use s = (let e : n1 ≡ n0 = heads n1 n0 [] [] s.uses in cc)

-- the record of the constant, with a name for its result
abbrev named : Op
named = record (constant n0 1) { results = record { number = n0; ty = 0; name = Some [] } ∷ [] }

other_name : IsRefused (one_block (named ∷ effect (result n0 n0) ∷ []) (n0 ∷ n1 ∷ []))
other_name k =
    let was = k.ops n0 named refl in
    let same : SameButNamed (constant n0 1) named = subst (λ (q : Op). SameButNamed q named) (sym (some_one (constant n0 1) was.0 was.1)) was.2 in
    let one = heads (record { number = n0; ty = 0; name = Some [] }) (record { number = n0; ty = 0; name = None }) [] [] (ap (λ (r : Op). r.results) same.rest) in
    label_differs [] (ap (λ (d : Definition small_ids marked). d.name) one)

-- the block is inside no operation
not_inside : (p : Small) → Inside (one_mark 1) (an_op p) (a_block n0) → ⊥
not_inside p i = (let e : a_block n0 ≡ an_op p = alone (one_mark 1) p (no_regions p) (a_block n0) i in cc)
  where
    no_regions : (p : Small) → regions_of (one_mark 1) p ≡ []
    no_regions n0 = refl
    no_regions n1 = refl
    no_regions n2 = refl
    no_regions n3 = refl
    no_regions n4 = refl
    no_regions n5 = refl

left_inside : OnlyPureGo two_pure with_block block_alone → ⊥
left_inside k = k.goes (a_block n0) (n0, refl, refl, below {c = a_region n0} (inl refl) (below {c = an_op n0} (inl refl) itself)) refl

pub kept_rows : KeptRows
kept_rows = record {
  nothing_changed = (meaning_stays two_pure gives_mark (one_mark 1) (one_mark_formed 1).nested).only_pure;
  other_kind = op_refused (λ r. record r { kind = 2 }) other_kind;
  other_attributes = op_refused (λ r. record r { attributes = ([], 1) ∷ [] }) (λ s. list_differs _ [] (ap (λ (r : Op). r.attributes) s.rest));
  other_location = op_refused (λ r. record r { loc = 1 }) (λ s. number_differs (ap (λ (r : Op). r.loc) s.rest));
  new_result = op_refused (λ r. record r { results = record { number = n1; ty = 0; name = None } ∷ [] }) (λ s. list_differs _ [] (ap (λ (r : Op). r.results) s.rest));
  new_successor = op_refused (λ r. record r { successors = successor n1 n0 ∷ [] }) (λ s. list_differs _ [] (ap (λ (r : Op). r.successors) s.rest));
  new_region = op_refused (λ r. record r { regions = n0 ∷ [] }) (λ s. list_differs n0 [] (ap (λ (r : Op). r.regions) s.rest));
  other_use_number = op_refused (λ r. record r { operands = operand n1 (result n0 n0) ∷ [] }) other_use;
  operand_gone = op_refused (λ r. record r { operands = [] }) (λ s. empty_differs n0 [] s.uses);
  other_name = other_name;
  new_operation = λ k. (let was = k.ops n2 (constant n2 1) refl in none_is_not_some was.0 was.1);
  other_order = block_refused (λ r. record r { ops = n1 ∷ n0 ∷ [] }) (λ e. (let z : n1 ≡ n0 = heads n1 n0 (n0 ∷ []) (n1 ∷ []) (ap (λ (r : Block). r.ops) e) in cc));
  unlisted = block_refused (λ r. record r { ops = n0 ∷ [] }) (λ e. shorter_differs n0 n1 (ap (λ (r : Block). r.ops) e));
  new_label = block_refused (λ r. record r { label = Some [] }) (λ e. label_differs [] (ap (λ (r : Block). r.label) e));
  new_argument = block_refused (λ r. record r { arguments = record { number = n1; ty = 0; name = None } ∷ [] }) (λ e. list_differs _ [] (ap (λ (r : Block). r.arguments) e));
  new_block_attribute = block_refused (λ r. record r { attributes = ([], 1) ∷ [] }) (λ e. list_differs _ [] (ap (λ (r : Block). r.attributes) e));
  other_block_location = block_refused (λ r. record r { loc = 1 }) (λ e. number_differs (ap (λ (r : Block). r.loc) e));
  block_gone = λ k. (let no : is_some {T = Block} None ≡ true = k.stays (a_block n0) refl (λ w. not_inside w.0 w.3) in cc);
  region_appears = λ k. none_is_not_some [] (k.regions n0 [] refl);
  unlisted_block = λ k. list_differs n0 [] (some_one (n0 ∷ []) [] (k.regions n0 [] refl));
  left_inside = left_inside;
}
