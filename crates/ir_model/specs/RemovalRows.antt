-- What dropping uses and erasing lead to, each beside a neighbour to which it does not lead.
use Rattle.std.specs.Prelude.{[], ◌∷◌}
use Rattle.ir_model.specs.declared.answer.Answer.TheVariants.{Done}
use Rattle.ir_model.specs.Forest.{OpRecord}
use Rattle.ir_model.specs.Edits.{State, DropOpUses, DropBlockUses, DropRegionUses, EraseOp, EraseBlock, EraseRegion}
use Rattle.ir_model.specs.EditStart.{b0, b1, b2, b4, b5, r0, r1, r3, r4, v6, row_ids, row_dialect, named, operation, block, root, giver, taker, brancher, spare, holder, inner, entry, empty, blocks_then, regions_then, start, with_records, nothing, Leads}

-- ## Dropped uses

-- o2 without its operands
abbrev pub bare_taker : OpRecord row_ids row_dialect
bare_taker = operation 4 [] [] [] []

-- o3 without its operands and successors
abbrev pub bare_brancher : OpRecord row_ids row_dialect
bare_brancher = operation 3 [] [] [] []

-- o5 without its operands
abbrev pub bare_holder : OpRecord row_ids row_dialect
bare_holder = operation 6 [] [] [] (r4 ∷ [])

-- o6 without its operands and successors
abbrev pub bare_inner : OpRecord row_ids row_dialect
bare_inner = operation 3 (named v6 0 ∷ []) [] [] []

-- o2, o3, o5 and o6 have these records, and all else is as at the start
abbrev pub users_are : OpRecord row_ids row_dialect → OpRecord row_ids row_dialect → OpRecord row_ids row_dialect → OpRecord row_ids row_dialect → State row_ids row_dialect
users_are second third fifth sixth = with_records (root ∷ giver ∷ second ∷ third ∷ spare ∷ fifth ∷ sixth ∷ []) blocks_then regions_then

-- uses are dropped at every depth inside, and nowhere else
pub record DropRows : Type 0 where
  -- not its own alone
  pub op : Leads (DropOpUses 5) nothing Done (users_are taker brancher bare_holder bare_inner) (users_are taker brancher bare_holder inner)
  -- not only where there are none
  pub block : Leads (DropBlockUses 4) nothing Done (users_are taker brancher bare_holder bare_inner) start
  -- of two operations beside each other, and not of those outside
  pub region : Leads (DropRegionUses 0) nothing Done (users_are bare_taker bare_brancher holder inner) (users_are bare_taker bare_brancher bare_holder bare_inner)

-- ## What is erased

-- o5 is gone with all that is inside it, and b4 is empty
abbrev pub without_holder : State row_ids row_dialect
without_holder = with_records
    (root ∷ giver ∷ taker ∷ brancher ∷ spare ∷ [])
    (entry ∷ empty ∷ empty ∷ empty ∷ block [] [] ∷ [])
    ((b0 ∷ b1 ∷ b2 ∷ []) ∷ [] ∷ [] ∷ (b4 ∷ []) ∷ [])

-- o5 and o6 are gone, and their block b5 and its region r4 are left
abbrev pub shell_left : State row_ids row_dialect
shell_left = with_records
    (root ∷ giver ∷ taker ∷ brancher ∷ spare ∷ [])
    (entry ∷ empty ∷ empty ∷ empty ∷ block [] [] ∷ block [] [] ∷ [])
    ((b0 ∷ b1 ∷ b2 ∷ []) ∷ [] ∷ [] ∷ (b4 ∷ []) ∷ (b5 ∷ []) ∷ [])

-- b4 is gone with all that is inside it, and r3 is empty
abbrev pub without_block : State row_ids row_dialect
without_block = with_records
    (root ∷ giver ∷ taker ∷ brancher ∷ spare ∷ [])
    (entry ∷ empty ∷ empty ∷ empty ∷ [])
    ((b0 ∷ b1 ∷ b2 ∷ []) ∷ [] ∷ [] ∷ [] ∷ [])

-- b4 is gone with all that is inside it, and r3 still lists it
abbrev pub block_listed : State row_ids row_dialect
block_listed = with_records
    (root ∷ giver ∷ taker ∷ brancher ∷ spare ∷ [])
    (entry ∷ empty ∷ empty ∷ empty ∷ [])
    ((b0 ∷ b1 ∷ b2 ∷ []) ∷ [] ∷ [] ∷ (b4 ∷ []) ∷ [])

-- r3 is gone with all that is inside it, and o0 has the other two regions
abbrev pub without_region : State row_ids row_dialect
without_region = with_records
    (operation 5 [] [] [] (r0 ∷ r1 ∷ []) ∷ giver ∷ taker ∷ brancher ∷ spare ∷ [])
    (entry ∷ empty ∷ empty ∷ empty ∷ [])
    ((b0 ∷ b1 ∷ b2 ∷ []) ∷ [] ∷ [] ∷ [])

-- r3 is gone with all that is inside it, and o0 is without its first region
abbrev pub first_unlisted : State row_ids row_dialect
first_unlisted = with_records
    (operation 5 [] [] [] (r3 ∷ r1 ∷ []) ∷ giver ∷ taker ∷ brancher ∷ spare ∷ [])
    (entry ∷ empty ∷ empty ∷ empty ∷ [])
    ((b0 ∷ b1 ∷ b2 ∷ []) ∷ [] ∷ [] ∷ [])

-- what is erased goes with all that is inside it, and the tables still list it
pub record EraseRows : Type 0 where
  -- not its operations alone
  pub op : Leads (EraseOp 5) nothing Done without_holder shell_left
  -- it stands in no list any more
  pub block : Leads (EraseBlock 4) nothing Done without_block block_listed
  -- the second of three, not the first
  pub region : Leads (EraseRegion 0 1) nothing Done without_region first_unlisted
