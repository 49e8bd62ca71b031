-- The view of a session: its tables, with every id and number replaced by its place in them.
use Rattle.std.specs.Prelude.{ℕ, List, map, Option, slice_get, nat_eq}
use Rattle.std.specs.List.{position_or_len, filter}
use Rattle.std.specs.Option.{option_map}
use Rattle.ir_model.specs.Ids.{Ids}
use Rattle.ir_model.specs.Forest.{Text, Dialect, Definer, of_op, of_block, Value, Definition, OpRecord, BlockRecord, Operand, Successor, same_value}
use Rattle.ir_model.specs.Nesting.{definitions_of}
use Rattle.ir_model.specs.Edits.{State, StoredType}

module _ (W : Dialect) where
  -- what is seen of a result or argument: the places of its value and of its type, and its name
  pub record SeenDefinition : Type 0 where
    pub value : ℕ
    pub ty : ℕ
    pub name : Option Text

  -- what is seen of an operation; operands, successors and regions are places in the tables
  pub record SeenOp : Type 0 where
    pub kind : ℕ
    pub results : List SeenDefinition
    pub operands : List ℕ
    pub successors : List ℕ
    pub regions : List ℕ
    pub attributes : List (Text × W.Attr)
    pub loc : W.Loc

  -- what is seen of a block; operations are places in the tables
  pub record SeenBlock : Type 0 where
    pub label : Option Text
    pub arguments : List SeenDefinition
    pub ops : List ℕ
    pub attributes : List (Text × W.Attr)
    pub loc : W.Loc

  -- an entry is nothing where it is erased
  pub record View : Type 0 where
    pub types : List (Option W.Key)
    pub ops : List (Option SeenOp)
    pub blocks : List (Option SeenBlock)
    pub regions : List (Option (List ℕ))
    pub values : List (Option SeenDefinition)

module _ {N : Ids} {W : Dialect} where
  module _ (s : State N W) where
    -- the place of the operation in its table: that of its first entry
    abbrev pub op_place : N.Op → ℕ
    op_place o = position_or_len (λ p. N.same_op p o) s.tables.ops

    -- the place of the block in its table: that of its first entry
    abbrev pub block_place : N.Block → ℕ
    block_place b = position_or_len (λ c. N.same_block c b) s.tables.blocks

    -- the place of the region in its table: that of its first entry
    abbrev pub region_place : N.Region → ℕ
    region_place r = position_or_len (λ q. N.same_region q r) s.tables.regions

    -- the place of the value in its table: that of its first entry
    abbrev pub value_place : Value N → ℕ
    value_place v = position_or_len (λ w. same_value N w v) s.tables.values

    -- the place of the type in its table: that of its first entry
    abbrev pub type_number : ℕ → ℕ
    type_number t = position_or_len (λ u. nat_eq u t) s.tables.types

    -- the result or argument of d, as it is seen
    abbrev pub seen_definition : Definer N → Definition N W → SeenDefinition W
    seen_definition d x = record { value = value_place (record { definer = d; number = x.number }); ty = type_number x.ty; name = x.name }

    -- the record of the operation, as it is seen; use numbers are left out
    abbrev pub seen_op : N.Op → OpRecord N W → SeenOp W
    seen_op o r = record {
      kind = r.kind;
      results = map (seen_definition (of_op o)) r.results;
      operands = map (λ (p : Operand N). value_place p.value) r.operands;
      successors = map (λ (p : Successor N). block_place p.block) r.successors;
      regions = map region_place r.regions;
      attributes = r.attributes;
      loc = r.loc;
    }

    -- the record of the block, as it is seen
    abbrev pub seen_block : N.Block → BlockRecord N W → SeenBlock W
    seen_block b r = record {
      label = r.label;
      arguments = map (seen_definition (of_block b)) r.arguments;
      ops = map op_place r.ops;
      attributes = r.attributes;
      loc = r.loc;
    }

    -- what is seen of the value at its definer; nothing where it stands there no more
    abbrev pub seen_value : Value N → Option (SeenDefinition W)
    seen_value v = option_map (seen_definition v.definer) (slice_get (filter (λ (x : Definition N W). N.same_number x.number v.number) (definitions_of s.forest v.definer)) 0)

    -- the view: each table with its entries as they are seen, and nothing where one is erased
    abbrev pub view : View W
    view = record {
      types = map (λ t. option_map (λ (x : StoredType W). x.key) (slice_get s.store t)) s.tables.types;
      ops = map (λ o. option_map (seen_op o) (s.forest.ops o)) s.tables.ops;
      blocks = map (λ b. option_map (seen_block b) (s.forest.blocks b)) s.tables.blocks;
      regions = map (λ r. option_map (map block_place) (s.forest.regions r)) s.tables.regions;
      values = map seen_value s.tables.values;
    }
