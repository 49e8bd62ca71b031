-- Which operations of small forests are alike, and which are not.
use Rattle.std.specs.Prelude.{ℕ, true, List, [], ◌∷◌, length, Some, None, nat_eq, if◌then◌else◌}
use Rattle.ir_model.specs.Forest.{Dialect, of_block, Definition, OpRecord, BlockRecord, Forest}
use Rattle.ir_model.specs.SmallForests.{Small, n0, n1, n2, n3, n4, n5, small_ids, table, result, operand, successor}
use Rattle.ir_text_described.specs.Words.{Words}
use Rattle.ir_text_described.specs.Alike.{AreAlike}

-- a dialect whose attributes and locations are numbers
abbrev pub spoken : Dialect
spoken = record { Key = Unit {0}; Body = Unit {0}; Attr = ℕ; Saved = Unit {0}; Aux = Unit {0}; Loc = ℕ }

-- kinds and types are written as their numbers, but that 2 is written as 0
abbrev pub number_text : ℕ → List ℕ
number_text n = if nat_eq n 2 then 0 ∷ [] else n ∷ []

-- an attribute 0 has no entry; the properties tell how many attributes there are; all locations are known
abbrev pub spoken_words : Words spoken
spoken_words = record {
  operation_name = number_text;
  type_text = number_text;
  entry = λ key a. if nat_eq a 0 then None else Some (key, Some (a ∷ []));
  properties = λ attributes. Some (length attributes ∷ []);
  location = λ loc. Some (loc ∷ []);
  argument_location = λ loc k. Some (loc ∷ k ∷ []);
}

abbrev pub Op : Type 0
Op = OpRecord small_ids spoken

abbrev pub Block : Type 0
Block = BlockRecord small_ids spoken

-- a result or argument with that number and type
abbrev pub given : Small → ℕ → Definition small_ids spoken
given n ty = record { number = n; ty = ty; name = None }

-- an operation around a region
abbrev pub root : Op
root = record { kind = 1; results = []; operands = []; successors = []; regions = n0 ∷ []; attributes = []; loc = 1 }

-- an operation with two results of different types
abbrev pub giver : Op
giver = record { kind = 1; results = given n0 0 ∷ given n1 1 ∷ []; operands = []; successors = []; regions = []; attributes = []; loc = 2 }

-- an operation that names these results and the second block
abbrev pub user : Op
user = record {
  kind = 0;
  results = [];
  operands = operand n0 (result n1 n0) ∷ operand n1 (result n1 n1) ∷ [];
  successors = successor n2 n1 ∷ [];
  regions = [];
  attributes = (1 ∷ [], 5) ∷ (2 ∷ [], 6) ∷ (3 ∷ [], 0) ∷ [];
  loc = 3;
}

-- the block of both, with an argument
abbrev pub first : Block
first = record { label = None; arguments = given n2 0 ∷ []; ops = n1 ∷ n2 ∷ []; attributes = []; loc = 4 }

abbrev pub second : Block
second = record { label = None; arguments = []; ops = []; attributes = []; loc = 5 }

-- the root n0 around these blocks, with the giver n1 and the user n2
abbrev pub around : Op → Op → Block → List Small → Forest small_ids spoken
around giving using block blocks = record { ops = table (root ∷ giving ∷ using ∷ []); blocks = table (block ∷ second ∷ []); regions = table (blocks ∷ []) }

abbrev pub both : List Small
both = n0 ∷ n1 ∷ []

-- the root of that forest is alike to the root around the giver and the user
abbrev pub IsAlike : Forest small_ids spoken → Type 0
IsAlike g = AreAlike (around giver user first both) g (n0 ∷ []) (n0 ∷ []) spoken_words spoken_words true

-- the same with other ids and numbers; the kind, a type, a debug name, a label and an attribute without an entry differ too, and are written as they were
abbrev pub renamed : Forest small_ids spoken
renamed = record {
  ops = table (record user { kind = 2; operands = operand n5 (result n2 n4) ∷ operand n4 (result n2 n3) ∷ []; successors = successor n3 n0 ∷ []; attributes = (1 ∷ [], 5) ∷ (4 ∷ [], 0) ∷ (2 ∷ [], 6) ∷ [] } ∷ record root { regions = n1 ∷ [] } ∷ record giver { results = given n4 2 ∷ record (given n3 1) { name = Some (9 ∷ []) } ∷ [] } ∷ []);
  blocks = table (record second { label = Some (8 ∷ []) } ∷ record first { arguments = given n0 0 ∷ []; ops = n2 ∷ n0 ∷ [] } ∷ []);
  regions = table ([] ∷ (n1 ∷ n0 ∷ []) ∷ []);
}

-- what makes operations alike, part by part
pub record AlikeRows : Type 0 where
  -- other ids and numbers, and what isn't written
  pub others : AreAlike (around giver user first both) renamed (n0 ∷ []) (n1 ∷ []) spoken_words spoken_words true
  pub another_beside : AreAlike (around giver user first both) (around giver user first both) (n0 ∷ []) (n0 ∷ n0 ∷ []) spoken_words spoken_words true → ⊥
  pub other_name : IsAlike (around giver (record user { kind = 1 }) first both) → ⊥
  pub other_result_type : IsAlike (around (record giver { results = given n0 0 ∷ given n1 0 ∷ [] }) user first both) → ⊥
  pub results_turned : IsAlike (around (record giver { results = given n1 1 ∷ given n0 0 ∷ [] }) user first both) → ⊥
  pub more_results : IsAlike (around (record giver { results = given n0 0 ∷ given n1 1 ∷ given n3 0 ∷ [] }) user first both) → ⊥
  pub operands_turned : IsAlike (around giver (record user { operands = operand n0 (result n1 n1) ∷ operand n1 (result n1 n0) ∷ [] }) first both) → ⊥
  -- it names the argument in place of a result
  pub operand_of_another : IsAlike (around giver (record user { operands = operand n0 (record { definer = of_block n0; number = n2 }) ∷ operand n1 (result n1 n1) ∷ [] }) first both) → ⊥
  pub fewer_operands : IsAlike (around giver (record user { operands = operand n0 (result n1 n0) ∷ [] }) first both) → ⊥
  pub other_successor : IsAlike (around giver (record user { successors = successor n2 n0 ∷ [] }) first both) → ⊥
  pub other_properties : IsAlike (around giver (record user { attributes = (1 ∷ [], 5) ∷ (2 ∷ [], 6) ∷ [] }) first both) → ⊥
  pub other_value : IsAlike (around giver (record user { attributes = (1 ∷ [], 5) ∷ (2 ∷ [], 7) ∷ (3 ∷ [], 0) ∷ [] }) first both) → ⊥
  pub other_key : IsAlike (around giver (record user { attributes = (1 ∷ [], 5) ∷ (4 ∷ [], 6) ∷ (3 ∷ [], 0) ∷ [] }) first both) → ⊥
  pub entries_turned : IsAlike (around giver (record user { attributes = (2 ∷ [], 6) ∷ (1 ∷ [], 5) ∷ (3 ∷ [], 0) ∷ [] }) first both) → ⊥
  pub other_location : IsAlike (around giver (record user { loc = 9 }) first both) → ⊥
  pub other_argument_type : IsAlike (around giver user (record first { arguments = given n2 1 ∷ [] }) both) → ⊥
  pub fewer_arguments : IsAlike (around giver user (record first { arguments = [] }) both) → ⊥
  pub other_argument_location : IsAlike (around giver user (record first { loc = 9 }) both) → ⊥
  pub operations_turned : IsAlike (around giver user (record first { ops = n2 ∷ n1 ∷ [] }) both) → ⊥
  pub fewer_operations : IsAlike (around giver user (record first { ops = n1 ∷ [] }) both) → ⊥
  pub fewer_blocks : IsAlike (around giver user first (n0 ∷ [])) → ⊥
