-- A context in which attributes and a location were written of an operation.
use Rattle.std.proofs.Common.{◌≡◌, ℕ, List, [], length, Option, Some, None, is_some, false, true, refl, sym, ap, subst, ◌∙◌, inl, inr}
use Rattle.std.specs.Option.{option_map}
use Rattle.ir_model.specs.declared.ids.ArenaIndex.{ArenaIndex}
use Rattle.ir_model.specs.ContextIds.{context_ids}
use Rattle.ir_model.specs.Calls.{SameStructure, attributes_of, loc_of, set_loc}
use Rattle.ir_model.specs.Forest.{Forest, OpRecord, an_op, of_op}
use Rattle.ir_model.specs.Nesting.{IsLive, WellFormed}
use Rattle.ir_model.proofs.Calls.{alone_attributes, alone_loc}
use Rattle.ir_model.proofs.IdCases.{id_cases}
use Rattle.ir_model.proofs.SomeUses.{calls_keep_well_formed}
use Rattle.ir_base_arenas.specs.Arena.{fill, get}
use Rattle.ir_base_arenas.specs.Lists.{seen}
use Rattle.ir_core_records.specs.declared.record.Definer.{Definer as DefinedBy}
use Rattle.ir_core_records.specs.declared.record.Definer.TheVariants.{Op, Block}
use Rattle.ir_core_records.specs.declared.record.Operation.{Operation}
use Rattle.ir_core_records.specs.declared.record.OperationMut.{OperationMut}
use Rattle.ir_core_records.specs.declared.records.Records.{Records}
use Rattle.ir_core_records.specs.Chains.{chains_of}
use Rattle.ir_core_chains.specs.Edits.{edited-kept, edited-lent, get-edited, get-edited_other, slots-edited}
use Rattle.ir_core_records.specs.Lists.{edited, in_record, uses_with}
use Rattle.ir_core_records.specs.Meaning.{block_record, closed, forest_in, op_record}
use Rattle.ir_core_records.specs.Table.{KnowOwn, block_uses_at, definitions_at}
use Rattle.ir_core_records.specs.Tree.{blocks_in, block_ends, block_links, op_links, op_regions, ops_in, region_ends, region_parent, tree_of}
use Rattle.ir_core_context.specs.Lending.{WritesOp, with_op_rest, written_op}
use Rattle.ir_core_context.specs.Calls.{SameButForest}
use Rattle.ir_core_context.specs.Sound.{IsSound}
use Rattle.ir_core_context.specs.State.{ContextState, bare, forest_of}
use Rattle.ir_core_context.proofs.Rewritten.{edited-ids, not_there, own-edited, rewritten-sound, same-ids, structure-entities-stay, structure-stays, structure-then, twice}

module _ {D A K B S X L : Type 0} where
  module _ (s : ContextState D A K B S X L) (o : ArenaIndex) (rest : OperationMut D A K B S X L) where
    abbrev f : Forest context_ids (closed A K B S X L)
    f = forest_of s

    abbrev change : Operation D A K B S X L → Operation D A K B S X L
    change op = record op { rest = rest }

    abbrev t : Records D A K B S X L
    t = (with_op_rest s o rest).records

    op_tree : tree_of t ≡ tree_of s.records
    op_tree i = record {
      ops = λ p. edited-kept (option_map op_links) change (λ x. refl) s.records.ops o p i;
      blocks = seen block_links s.records.blocks;
      block_ends = seen block_ends s.records.blocks;
      region_ends = seen region_ends s.records.regions;
      regions_of = λ p. edited-kept (option_map op_regions) change (λ x. refl) s.records.ops o p i;
      parent_ops = seen region_parent s.records.regions;
      op_slots = slots-edited change s.records.ops o i;
      block_slots = length s.records.blocks.slots;
    }

    op_definitions : (d : DefinedBy) → definitions_at t d ≡ definitions_at s.records d
    op_definitions (Op p) = edited-kept (in_record (λ (op : Operation D A K B S X L). op.results) []) change (λ x. refl) s.records.ops o p
    op_definitions (Block b) = refl

    op_chains : chains_of t ≡ chains_of s.records
    op_chains i = record {
      operands = λ p. edited-kept (in_record (λ (op : Operation D A K B S X L). op.operands) []) change (λ x. refl) s.records.ops o p i;
      successors = λ p. edited-kept (in_record (λ (op : Operation D A K B S X L). op.successors) []) change (λ x. refl) s.records.ops o p i;
      uses = λ v. uses_with (op_definitions v.definer i) v.number;
      block_uses = λ b. block_uses_at s.records b;
    }

    op_own : KnowOwn s.records → KnowOwn t
    op_own own = record { ops = own-edited (λ (op : Operation D A K B S X L). op.index) change (λ x. refl) s.records.ops o own.ops; blocks = own.blocks; regions = own.regions }

    op_found : (p : ArenaIndex) → option_map op_record (get t.ops p) ≡ (written_op f o rest).ops p
    op_found p = elim (id_cases p o) [
      | inl e ↦
          ap (option_map op_record) (ap (get t.ops) e ∙ get-edited change s.records.ops o ∙ ap (λ q. option_map change (get s.records.ops q)) (sym e)) ∙ by (get s.records.ops p)
          ∙ sym (twice (λ (r : OpRecord context_ids (closed A K B S X L)). record r { loc = rest.loc }) (λ r. record r { attributes = rest.attributes }) f.ops o p e)
      | inr ne ↦
          ap (option_map op_record) (get-edited_other change s.records.ops o p ne)
          ∙ sym (not_there (λ (r : OpRecord context_ids (closed A K B S X L)). record r { attributes = rest.attributes }) (set_loc f (of_op o) rest.loc).ops o p ne ∙ not_there (λ (r : OpRecord context_ids (closed A K B S X L)). record r { loc = rest.loc }) f.ops o p ne)
    ]
      where
        by : (x : Option (Operation D A K B S X L)) → option_map op_record (option_map change x) ≡ option_map (λ (r : OpRecord context_ids (closed A K B S X L)). record r { loc = rest.loc; attributes = rest.attributes }) (option_map op_record x)
        by None = refl
        by (Some x) = refl

    pub op-forest : forest_in t ≡ written_op f o rest
    op-forest i = record {
      ops = λ p. op_found p i;
      blocks = λ b. option_map (block_record (ops_in (op_tree i) b)) (get s.records.blocks b);
      regions = λ g. option_map (λ _. blocks_in (op_tree i) g) (get s.records.regions g);
    }

    op_structure : SameStructure f (written_op f o rest)
    op_structure = structure-then f (set_loc f (of_op o) rest.loc) (written_op f o rest) (alone_loc f (of_op o) rest.loc).structure (alone_attributes (set_loc f (of_op o) rest.loc) (of_op o) rest.attributes).structure

    op-structure : SameStructure f (forest_in t)
    op-structure = subst (SameStructure f) (sym op-forest) op_structure

    op_formed : (keys : ℕ) → WellFormed f keys → WellFormed (written_op f o rest) keys
    op_formed keys formed =
        let W = closed A K B S X L in
        (calls_keep_well_formed W (set_loc f (of_op o) rest.loc) keys ((calls_keep_well_formed W f keys formed).locations (of_op o) rest.loc)).attributes (of_op o) rest.attributes

    -- whatever is written, the context is sound
    pub op-sound : IsSound s → IsSound (with_op_rest s o rest)
    op-sound sound =
        rewritten-sound s sound t op_chains op_tree (op_own sound.own) (edited-ids change s.records.ops o) (same-ids s.records.blocks) (same-ids s.records.regions)
        op-structure (subst (λ g. WellFormed g (length s.types)) (sym op-forest) (op_formed (length s.types) sound.formed))

    pub op-same : SameButForest (bare s) (bare (with_op_rest s o rest))
    op-same = record {
      store = refl;
      beside = refl;
      passed = λ i. record (bare s).passed { ops = λ j. (edited-ids change s.records.ops o).passed j i };
      limits = refl;
    }

  pub writes-op : (s : ContextState D A K B S X L) (o : ArenaIndex) → WritesOp s o
  writes-op s o = record {
    forest = λ rest. op-forest s o rest;
    same = λ rest. op-same s o rest;
    ids = λ rest. edited-ids (λ op. record op { rest = rest }) s.records.ops o;
    stay_live = λ rest. structure-stays (forest_of s) (forest_of (with_op_rest s o rest)) (op-structure s o rest);
    entities_stay_live = λ rest. structure-entities-stay (forest_of s) (forest_of (with_op_rest s o rest)) (op-structure s o rest);
  }

  -- what was lent of a live operation: what stood there, and whatever is written of it
  module _ (s : ContextState D A K B S X L) (o : ArenaIndex) (x : Operation D A K B S X L) (at : get s.records.ops o ≡ Some x) where
    pub op-lent : (rest : OperationMut D A K B S X L) → record s { records = record s.records { ops = fill s.records.ops o (record x { rest = rest }) } } ≡ with_op_rest s o rest
    op-lent rest i = record s { records = record s.records { ops = edited-lent (λ (op : Operation D A K B S X L). record op { rest = rest }) s.records.ops o o x refl at i } }

    pub op-lent-now : (now : ContextState D A K B S X L) → s ≡ now → (rest : OperationMut D A K B S X L) → record s { records = record s.records { ops = fill s.records.ops o (record x { rest = rest }) } } ≡ with_op_rest now o rest
    op-lent-now now is rest = op-lent rest ∙ ap (λ z. with_op_rest z o rest) is

    pub op-lent-sound : IsSound s → (rest : OperationMut D A K B S X L) → IsSound (record s { records = record s.records { ops = fill s.records.ops o (record x { rest = rest }) } })
    op-lent-sound sound rest = subst IsSound (sym (op-lent rest)) (op-sound s o rest sound)

    pub op-lent-attributes : attributes_of (forest_of s) (of_op o) ≡ Some x.rest.attributes
    op-lent-attributes = ap (λ (m : Option (Operation D A K B S X L)). option_map (λ (r : OpRecord context_ids (closed A K B S X L)). r.attributes) (option_map op_record m)) at

    pub op-lent-loc : loc_of (forest_of s) (of_op o) ≡ Some x.rest.loc
    op-lent-loc = ap (λ (m : Option (Operation D A K B S X L)). option_map (λ (r : OpRecord context_ids (closed A K B S X L)). r.loc) (option_map op_record m)) at

    pub op-lent-live : IsLive (forest_of s) (an_op o)
    op-lent-live = ap (λ (m : Option (Operation D A K B S X L)). is_some (option_map op_record m)) at

  -- and where none is live
  pub op-missing : (s : ContextState D A K B S X L) (o : ArenaIndex) → get s.records.ops o ≡ None → IsLive (forest_of s) (an_op o) → ⊥
  op-missing s o at live = absurd (let none : false ≡ true = sym (ap (λ (m : Option (Operation D A K B S X L)). is_some (option_map op_record m)) at) ∙ live in cc)
