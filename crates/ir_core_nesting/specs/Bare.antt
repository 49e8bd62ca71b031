-- Operations and blocks as they are made.
use Rattle.std.specs.Prelude.{ℕ, List, [], Option, None}
use Rattle.ir_model.specs.declared.ids.ArenaIndex.{ArenaIndex}
use Rattle.ir_model.specs.Forest.{Text}
use Rattle.ir_core_records.specs.declared.record.Definition.{Definition}
use Rattle.ir_core_records.specs.declared.record.Operation.{Operation}
use Rattle.ir_core_records.specs.declared.record.BasicBlock.{BasicBlock}

module _ {D A K B S X L : Type 0} where
  -- an operation of this kind with these results, in no block, and with nothing else
  abbrev pub bare_op : L → ArenaIndex → ℕ → List Definition → Operation D A K B S X L
  bare_op loc index kind results = record {
    index = index;
    kind = kind;
    results = results;
    operands = [];
    successors = [];
    regions = [];
    next = None;
    prev = None;
    parent = None;
    rest = record { attributes = []; loc = loc };
  }

  -- a block with this label and these arguments, in no region, and with nothing else
  abbrev pub bare_block : L → ArenaIndex → Option Text → List Definition → BasicBlock D A K B S X L
  bare_block loc index label arguments = record {
    index = index;
    arguments = arguments;
    uses = [];
    next = None;
    prev = None;
    parent = None;
    ops_list = record { first = None; last = None };
    rest = record { attributes = []; label = label; loc = loc };
  }
