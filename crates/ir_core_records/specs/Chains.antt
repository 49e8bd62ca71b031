-- The chains of all records: the second projection, beside the tree.
use Rattle.std.specs.Prelude.{ℕ, ◌+◌, List, [], ◌∷◌, map}
use Rattle.ir_model.specs.declared.ids.ArenaIndex.{ArenaIndex}
use Rattle.ir_core_records.specs.declared.record.ValueIndex.{ValueIndex}
use Rattle.ir_core_records.specs.declared.record.BlockIndex.{BlockIndex}
use Rattle.ir_core_records.specs.declared.record.UseIndex.{UseIndex}
use Rattle.ir_core_records.specs.declared.record.UsePlace.{UsePlace}
use Rattle.ir_core_records.specs.declared.records.Records.{Records}
use Rattle.ir_core_records.specs.Links.{LinkedBut, NoHole}
use Rattle.ir_core_records.specs.Table.{operands_at, successors_at, uses_at, block_uses_at}

-- the places of each operation, and the uses of each definition
pub record Chains : Type 0 where
  pub operands : ArenaIndex → List (UsePlace ValueIndex)
  pub successors : ArenaIndex → List (UsePlace BlockIndex)
  pub uses : ValueIndex → List UseIndex
  pub block_uses : BlockIndex → List UseIndex

-- uses and places name each other, of values and of blocks
pub record AreLinked (c : Chains) : Type 0 where
  pub values : LinkedBut NoHole c.operands c.uses
  pub blocks : LinkedBut NoHole c.successors c.block_uses

module _ {D A K B S X L : Type 0} where
  -- what all records say of uses
  abbrev pub chains_of : Records D A K B S X L → Chains
  chains_of t = record { operands = operands_at t; successors = successors_at t; uses = uses_at t; block_uses = block_uses_at t }

-- a place's number and what it names, without where its use stands
abbrev pub number_and_name : {N : Type 0} → UsePlace N → ℕ × N
number_and_name a = (a.number, a.names)

abbrev pub names_in : {N : Type 0} → List (UsePlace N) → List (ℕ × N)
names_in xs = map number_and_name xs

-- these are named, with the numbers from n on
abbrev pub names_from : {N : Type 0} → ℕ → List N → List (ℕ × N)
names_from n [] = []
names_from n (v ∷ vs) = (n, v) ∷ names_from (n + 1) vs
