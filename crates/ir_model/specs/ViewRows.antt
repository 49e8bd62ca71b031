-- The view of a small session in full, beside sessions whose views differ.
use Rattle.std.specs.Prelude.{◌≡◌, ◌≢◌, ℕ, List, [], ◌∷◌, Some, None, codes}
use Rattle.ir_model.specs.Forest.{Dialect, Value, of_block, Operand, Successor, OpRecord, BlockRecord}
use Rattle.ir_model.specs.Edits.{State, Tables}
use Rattle.ir_model.specs.Views.{View, view}
use Rattle.ir_model.specs.SmallForests.{Small, n0, n1, n2, n3, n4, n5, small_ids, table, result, operand, successor}

-- a dialect whose keys, attributes and locations are numbers
abbrev pub numbers : Dialect
numbers = record { Key = ℕ; Body = Unit {0}; Attr = ℕ; Saved = Unit {0}; Aux = Unit {0}; Loc = ℕ }

-- the value that block b has as an argument under number n
abbrev pub argument : Small → Small → Value small_ids
argument b n = record { definer = of_block b; number = n }

-- ## The records

-- a constant with two results of the types with these handles; the first is called `x`
abbrev pub constant : ℕ → ℕ → OpRecord small_ids numbers
constant one other = record {
  kind = 0;
  results = record { number = n1; ty = one; name = Some (codes "x") } ∷ record { number = n0; ty = other; name = None } ∷ [];
  operands = [];
  successors = [];
  regions = [];
  attributes = (codes "a", 7) ∷ [];
  loc = 3;
}

-- a branch with these operands and successors
abbrev pub branch : List (Operand small_ids) → List (Successor small_ids) → OpRecord small_ids numbers
branch operands successors = record { kind = 3; results = []; operands = operands; successors = successors; regions = []; attributes = []; loc = 4 }

-- a module with these regions
abbrev pub module_of : List Small → OpRecord small_ids numbers
module_of regions = record { kind = 5; results = []; operands = []; successors = []; regions = regions; attributes = []; loc = 5 }

-- a block with the label `entry` and an argument that is called `y`, with these operations
abbrev pub entry : List Small → BlockRecord small_ids numbers
entry ops = record { label = Some (codes "entry"); arguments = record { number = n2; ty = 0; name = Some (codes "y") } ∷ []; ops = ops; attributes = (codes "b", 8) ∷ []; loc = 6 }

-- a block of which nothing was said
abbrev pub plain : BlockRecord small_ids numbers
plain = record { label = None; arguments = []; ops = []; attributes = []; loc = 0 }

-- both results of the constant, the argument, and the first result again
abbrev pub its_operands : List (Operand small_ids)
its_operands = operand n0 (result n0 n1) ∷ operand n1 (result n0 n0) ∷ operand n2 (argument n1 n2) ∷ operand n3 (result n0 n1) ∷ []

-- the plain block, and the one with the label
abbrev pub its_successors : List (Successor small_ids)
its_successors = successor n4 n0 ∷ successor n5 n1 ∷ []

-- the tables: types 0 and 1 of which the second is listed twice, and beside what is live an operation, a block, a region and two values that are not
abbrev pub its_tables : Tables small_ids
its_tables = record {
  types = 1 ∷ 0 ∷ 1 ∷ [];
  ops = n2 ∷ n3 ∷ n0 ∷ n1 ∷ [];
  blocks = n1 ∷ n2 ∷ n0 ∷ [];
  regions = n2 ∷ n1 ∷ n0 ∷ [];
  values = result n0 n1 ∷ result n3 n3 ∷ result n0 n0 ∷ argument n1 n2 ∷ result n0 n4 ∷ [];
}

-- a state of these records, the first of each list that of n0, with types of the keys 32 and 64
abbrev pub state_of : List (OpRecord small_ids numbers) → List (BlockRecord small_ids numbers) → List (List Small) → Tables small_ids → State small_ids numbers
state_of ops blocks regions tables = record {
  forest = record { ops = table ops; blocks = table blocks; regions = table regions };
  store = record { key = 32; body = tt } ∷ record { key = 64; body = tt } ∷ [];
  tables = tables;
}

-- the module holds two regions, the second with both blocks; the one with the label holds the constant and the branch
abbrev pub shown : State small_ids numbers
shown = state_of (constant 1 0 ∷ branch its_operands its_successors ∷ module_of (n1 ∷ n0 ∷ []) ∷ []) (plain ∷ entry (n0 ∷ n1 ∷ []) ∷ []) ([] ∷ (n1 ∷ n0 ∷ []) ∷ []) its_tables

-- ## What is seen

-- the view, written out
abbrev pub seen : View numbers
seen = record {
  types = Some 64 ∷ Some 32 ∷ Some 64 ∷ [];
  ops =
      Some (record { kind = 5; results = []; operands = []; successors = []; regions = 1 ∷ 2 ∷ []; attributes = []; loc = 5 })
      ∷ None
      ∷ Some (record {
        kind = 0;
        results = record { value = 0; ty = 0; name = Some (codes "x") } ∷ record { value = 2; ty = 1; name = None } ∷ [];
        operands = [];
        successors = [];
        regions = [];
        attributes = (codes "a", 7) ∷ [];
        loc = 3;
      })
      ∷ Some (record { kind = 3; results = []; operands = 0 ∷ 2 ∷ 3 ∷ 0 ∷ []; successors = 2 ∷ 0 ∷ []; regions = []; attributes = []; loc = 4 })
      ∷ [];
  blocks =
      Some (record { label = Some (codes "entry"); arguments = record { value = 3; ty = 1; name = Some (codes "y") } ∷ []; ops = 2 ∷ 3 ∷ []; attributes = (codes "b", 8) ∷ []; loc = 6 })
      ∷ None
      ∷ Some (record { label = None; arguments = []; ops = []; attributes = []; loc = 0 })
      ∷ [];
  regions = None ∷ Some (0 ∷ 2 ∷ []) ∷ Some [] ∷ [];
  values = Some (record { value = 0; ty = 0; name = Some (codes "x") }) ∷ None ∷ Some (record { value = 2; ty = 1; name = None }) ∷ Some (record { value = 3; ty = 1; name = Some (codes "y") }) ∷ None ∷ [];
}

-- ## Neighbours, of which another view is seen

-- the branch's operands in another order
abbrev pub operands_turned : State small_ids numbers
operands_turned = state_of (constant 1 0 ∷ branch (operand n1 (result n0 n0) ∷ operand n0 (result n0 n1) ∷ operand n2 (argument n1 n2) ∷ operand n3 (result n0 n1) ∷ []) its_successors ∷ module_of (n1 ∷ n0 ∷ []) ∷ []) (plain ∷ entry (n0 ∷ n1 ∷ []) ∷ []) ([] ∷ (n1 ∷ n0 ∷ []) ∷ []) its_tables

-- the branch's successors in another order
abbrev pub successors_turned : State small_ids numbers
successors_turned = state_of (constant 1 0 ∷ branch its_operands (successor n5 n1 ∷ successor n4 n0 ∷ []) ∷ module_of (n1 ∷ n0 ∷ []) ∷ []) (plain ∷ entry (n0 ∷ n1 ∷ []) ∷ []) ([] ∷ (n1 ∷ n0 ∷ []) ∷ []) its_tables

-- the module's regions in another order
abbrev pub regions_turned : State small_ids numbers
regions_turned = state_of (constant 1 0 ∷ branch its_operands its_successors ∷ module_of (n0 ∷ n1 ∷ []) ∷ []) (plain ∷ entry (n0 ∷ n1 ∷ []) ∷ []) ([] ∷ (n1 ∷ n0 ∷ []) ∷ []) its_tables

-- the operations of the block in another order
abbrev pub operations_turned : State small_ids numbers
operations_turned = state_of (constant 1 0 ∷ branch its_operands its_successors ∷ module_of (n1 ∷ n0 ∷ []) ∷ []) (plain ∷ entry (n1 ∷ n0 ∷ []) ∷ []) ([] ∷ (n1 ∷ n0 ∷ []) ∷ []) its_tables

-- the blocks of the region in another order
abbrev pub blocks_turned : State small_ids numbers
blocks_turned = state_of (constant 1 0 ∷ branch its_operands its_successors ∷ module_of (n1 ∷ n0 ∷ []) ∷ []) (plain ∷ entry (n0 ∷ n1 ∷ []) ∷ []) ([] ∷ (n0 ∷ n1 ∷ []) ∷ []) its_tables

-- the constant's second result is of the other type
abbrev pub other_type : State small_ids numbers
other_type = state_of (constant 1 1 ∷ branch its_operands its_successors ∷ module_of (n1 ∷ n0 ∷ []) ∷ []) (plain ∷ entry (n0 ∷ n1 ∷ []) ∷ []) ([] ∷ (n1 ∷ n0 ∷ []) ∷ []) its_tables

-- the operation that is listed second is there
abbrev pub not_erased : State small_ids numbers
not_erased = state_of (constant 1 0 ∷ branch its_operands its_successors ∷ module_of (n1 ∷ n0 ∷ []) ∷ module_of [] ∷ []) (plain ∷ entry (n0 ∷ n1 ∷ []) ∷ []) ([] ∷ (n1 ∷ n0 ∷ []) ∷ []) its_tables

-- the region that is listed first is there
abbrev pub region_not_erased : State small_ids numbers
region_not_erased = state_of (constant 1 0 ∷ branch its_operands its_successors ∷ module_of (n1 ∷ n0 ∷ []) ∷ []) (plain ∷ entry (n0 ∷ n1 ∷ []) ∷ []) ([] ∷ (n1 ∷ n0 ∷ []) ∷ [] ∷ []) its_tables

-- the same records under other tables
abbrev pub under : Tables small_ids → State small_ids numbers
under tables = record shown { tables = tables }

-- the branch under other use numbers
abbrev pub renumbered : State small_ids numbers
renumbered = state_of (constant 1 0 ∷ branch (operand n5 (result n0 n1) ∷ operand n4 (result n0 n0) ∷ operand n1 (argument n1 n2) ∷ operand n2 (result n0 n1) ∷ []) (successor n3 n0 ∷ successor n0 n1 ∷ []) ∷ module_of (n1 ∷ n0 ∷ []) ∷ []) (plain ∷ entry (n0 ∷ n1 ∷ []) ∷ []) ([] ∷ (n1 ∷ n0 ∷ []) ∷ []) its_tables

-- the view of a small session is what is written out, and that of each neighbour is another
pub record SmallView : Type 0 where
  pub in_full : view shown ≡ seen
  -- use numbers are not seen
  pub renumbered : view renumbered ≡ seen
  pub operands : view operands_turned ≢ seen
  pub successors : view successors_turned ≢ seen
  pub regions : view regions_turned ≢ seen
  pub operations : view operations_turned ≢ seen
  pub blocks : view blocks_turned ≢ seen
  pub another_type : view other_type ≢ seen
  -- what is there and what is erased differ, for an operation and for a region
  pub erased : view not_erased ≢ seen
  pub erased_region : view region_not_erased ≢ seen
  -- what is erased is not left out
  pub not_left_out : view (under (record its_tables { ops = n2 ∷ n0 ∷ n1 ∷ [] })) ≢ seen
  -- a type that is listed twice is seen twice, and by its first place
  pub type_once : view (under (record its_tables { types = 1 ∷ 0 ∷ [] })) ≢ seen
  pub first_place : view (under (record its_tables { types = 0 ∷ 1 ∷ 1 ∷ [] })) ≢ seen
