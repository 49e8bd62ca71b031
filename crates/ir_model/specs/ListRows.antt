-- What edits of lists lead to, each beside a neighbour to which it does not lead.
use Rattle.std.specs.Prelude.{List, [], ◌∷◌}
use Rattle.ir_model.specs.declared.answer.Answer.TheVariants.{Done}
use Rattle.ir_model.specs.Edits.{State, OpFront, OpBack, OpBefore, OpAfter, UnlinkOp, UnlinkBlock, BlockFront, BlockBack, BlockBefore, BlockAfter, AppendOps, AppendBlocks, MoveRegion}
use Rattle.ir_model.specs.EditStart.{OpName, BlockName, RegionName, o1, o2, o3, o4, o5, o6, b0, b1, b2, b3, b4, b5, r0, r1, r2, r3, v3, v4, v5, u10, row_ids, row_dialect, successor, named, operation, block, giver, taker, brancher, holder, inner, empty, ops_then, blocks_then, regions_then, with_records, nothing, Leads}

-- ## Operations of a block

-- b0 and b4 hold these operations, and all else is as at the start
abbrev pub ops_are : List OpName → List OpName → State row_ids row_dialect
ops_are of_b0 of_b4 = with_records ops_then (block (named v3 1 ∷ named v4 0 ∷ named v5 1 ∷ []) of_b0 ∷ empty ∷ empty ∷ empty ∷ block [] of_b4 ∷ block [] (o6 ∷ []) ∷ []) regions_then

-- an operation goes where it is put, and the others keep their order
pub record OpRows : Type 0 where
  -- first, not last
  pub front : Leads (OpFront 4 0) nothing Done (ops_are (o4 ∷ o1 ∷ o2 ∷ o3 ∷ []) (o5 ∷ [])) (ops_are (o1 ∷ o2 ∷ o3 ∷ o4 ∷ []) (o5 ∷ []))
  -- last, not first
  pub back : Leads (OpBack 4 0) nothing Done (ops_are (o1 ∷ o2 ∷ o3 ∷ o4 ∷ []) (o5 ∷ [])) (ops_are (o4 ∷ o1 ∷ o2 ∷ o3 ∷ []) (o5 ∷ []))
  -- right before the mark, not right behind it
  pub before : Leads (OpBefore 4 2) nothing Done (ops_are (o1 ∷ o4 ∷ o2 ∷ o3 ∷ []) (o5 ∷ [])) (ops_are (o1 ∷ o2 ∷ o4 ∷ o3 ∷ []) (o5 ∷ []))
  -- right behind the mark, not right before it
  pub after : Leads (OpAfter 4 2) nothing Done (ops_are (o1 ∷ o2 ∷ o4 ∷ o3 ∷ []) (o5 ∷ [])) (ops_are (o1 ∷ o4 ∷ o2 ∷ o3 ∷ []) (o5 ∷ []))
  -- the second is taken out, not the last
  pub unlink : Leads (UnlinkOp 2) nothing Done (ops_are (o1 ∷ o3 ∷ []) (o5 ∷ [])) (ops_are (o1 ∷ o2 ∷ []) (o5 ∷ []))
  -- the donor's go behind the donee's, not in front of them
  pub append : Leads (AppendOps 4 0) nothing Done (ops_are [] (o5 ∷ o1 ∷ o2 ∷ o3 ∷ [])) (ops_are [] (o1 ∷ o2 ∷ o3 ∷ o5 ∷ []))

-- ## Blocks of a region

-- r0 and r3 hold these blocks, and all else is as at the start
abbrev pub blocks_are : List BlockName → List BlockName → State row_ids row_dialect
blocks_are of_r0 of_r3 = with_records ops_then blocks_then (of_r0 ∷ [] ∷ [] ∷ of_r3 ∷ (b5 ∷ []) ∷ [])

-- a block goes where it is put, and the others keep their order
pub record BlockRows : Type 0 where
  -- first, not last
  pub front : Leads (BlockFront 3 0) nothing Done (blocks_are (b3 ∷ b0 ∷ b1 ∷ b2 ∷ []) (b4 ∷ [])) (blocks_are (b0 ∷ b1 ∷ b2 ∷ b3 ∷ []) (b4 ∷ []))
  -- last, not first
  pub back : Leads (BlockBack 3 0) nothing Done (blocks_are (b0 ∷ b1 ∷ b2 ∷ b3 ∷ []) (b4 ∷ [])) (blocks_are (b3 ∷ b0 ∷ b1 ∷ b2 ∷ []) (b4 ∷ []))
  -- right before the mark, not right behind it
  pub before : Leads (BlockBefore 3 1) nothing Done (blocks_are (b0 ∷ b3 ∷ b1 ∷ b2 ∷ []) (b4 ∷ [])) (blocks_are (b0 ∷ b1 ∷ b3 ∷ b2 ∷ []) (b4 ∷ []))
  -- right behind the mark, not right before it
  pub after : Leads (BlockAfter 3 1) nothing Done (blocks_are (b0 ∷ b1 ∷ b3 ∷ b2 ∷ []) (b4 ∷ [])) (blocks_are (b0 ∷ b3 ∷ b1 ∷ b2 ∷ []) (b4 ∷ []))
  -- the second is taken out, not the last
  pub unlink : Leads (UnlinkBlock 1) nothing Done (blocks_are (b0 ∷ b2 ∷ []) (b4 ∷ [])) (blocks_are (b0 ∷ b1 ∷ []) (b4 ∷ []))
  -- the donor has none left
  pub append : Leads (AppendBlocks 3 0) nothing Done (blocks_are [] (b4 ∷ b0 ∷ b1 ∷ b2 ∷ [])) (blocks_are (b0 ∷ b1 ∷ b2 ∷ []) (b4 ∷ b0 ∷ b1 ∷ b2 ∷ []))

-- ## Regions of an operation

-- o0 and o4 hold these regions, and all else is as at the start
abbrev pub regions_are : List RegionName → List RegionName → State row_ids row_dialect
regions_are of_o0 of_o4 = with_records (operation 5 [] [] [] of_o0 ∷ giver ∷ taker ∷ brancher ∷ operation 7 [] [] (successor u10 b2 ∷ []) of_o4 ∷ holder ∷ inner ∷ []) blocks_then regions_then

-- a region goes last, and those that it leaves keep their order
pub record RegionRows : Type 0 where
  -- the middle one of three goes last, not first
  pub middle : Leads (MoveRegion 3 4) nothing Done (regions_are (r0 ∷ r1 ∷ []) (r2 ∷ r3 ∷ [])) (regions_are (r0 ∷ r1 ∷ []) (r3 ∷ r2 ∷ []))
  -- the last one does not fill the place of the first
  pub first : Leads (MoveRegion 0 4) nothing Done (regions_are (r3 ∷ r1 ∷ []) (r2 ∷ r0 ∷ [])) (regions_are (r1 ∷ r3 ∷ []) (r2 ∷ r0 ∷ []))
  -- in its own operation it stays where it is
  pub home : Leads (MoveRegion 3 0) nothing Done (regions_are (r0 ∷ r3 ∷ r1 ∷ []) (r2 ∷ [])) (regions_are (r0 ∷ r1 ∷ r3 ∷ []) (r2 ∷ []))
