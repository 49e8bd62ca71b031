-- A context in which attributes, a label and a location were written of a block.
use Rattle.std.proofs.Common.{◌≡◌, ℕ, List, [], length, Option, Some, None, is_some, false, true, refl, sym, ap, subst, ◌∙◌, inl, inr}
use Rattle.std.specs.Option.{option_map}
use Rattle.ir_model.specs.declared.ids.ArenaIndex.{ArenaIndex}
use Rattle.ir_model.specs.ContextIds.{context_ids}
use Rattle.ir_model.specs.Calls.{SameStructure, attributes_of, label_of, loc_of, set_label, set_loc}
use Rattle.ir_model.specs.Forest.{BlockRecord, Forest, a_block, of_block}
use Rattle.ir_model.specs.Nesting.{IsLive, WellFormed}
use Rattle.ir_model.proofs.Calls.{alone_attributes, alone_label, alone_loc}
use Rattle.ir_model.proofs.IdCases.{id_cases}
use Rattle.ir_model.proofs.SomeUses.{calls_keep_well_formed}
use Rattle.ir_base_arenas.specs.Arena.{fill, get}
use Rattle.ir_base_arenas.specs.Lists.{seen}
use Rattle.ir_core_records.specs.declared.record.BasicBlock.{BasicBlock}
use Rattle.ir_core_records.specs.declared.record.BasicBlockMut.{BasicBlockMut}
use Rattle.ir_core_records.specs.declared.record.Definer.{Definer as DefinedBy}
use Rattle.ir_core_records.specs.declared.record.Definer.TheVariants.{Op, Block}
use Rattle.ir_core_records.specs.declared.records.Records.{Records}
use Rattle.ir_core_records.specs.Chains.{chains_of}
use Rattle.ir_core_chains.specs.Edits.{edited-kept, edited-lent, get-edited, get-edited_other, slots-edited}
use Rattle.ir_core_records.specs.Lists.{edited, in_record, uses_with}
use Rattle.ir_core_records.specs.Meaning.{block_record, closed, forest_in, op_records}
use Rattle.ir_core_records.specs.Table.{KnowOwn, definitions_at, operands_at, successors_at}
use Rattle.ir_core_records.specs.Tree.{blocks_in, block_ends, block_links, op_links, op_regions, ops_in, region_ends, region_parent, tree_of}
use Rattle.ir_core_context.specs.Lending.{WritesBlock, with_block_rest, written_block}
use Rattle.ir_core_context.specs.Calls.{SameButForest}
use Rattle.ir_core_context.specs.Sound.{IsSound}
use Rattle.ir_core_context.specs.State.{ContextState, bare, forest_of}
use Rattle.ir_core_context.proofs.Rewritten.{edited-ids, not_there, once, own-edited, rewritten-sound, same-ids, structure-entities-stay, structure-stays, structure-then, twice}

module _ {D A K B S X L : Type 0} where
  module _ (s : ContextState D A K B S X L) (b : ArenaIndex) (rest : BasicBlockMut D A K B S X L) where
    abbrev f : Forest context_ids (closed A K B S X L)
    f = forest_of s

    abbrev change : BasicBlock D A K B S X L → BasicBlock D A K B S X L
    change x = record x { rest = rest }

    abbrev t : Records D A K B S X L
    t = (with_block_rest s b rest).records

    block_tree : tree_of t ≡ tree_of s.records
    block_tree i = record {
      ops = seen op_links s.records.ops;
      blocks = λ p. edited-kept (option_map block_links) change (λ x. refl) s.records.blocks b p i;
      block_ends = λ p. edited-kept (option_map block_ends) change (λ x. refl) s.records.blocks b p i;
      region_ends = seen region_ends s.records.regions;
      regions_of = seen op_regions s.records.ops;
      parent_ops = seen region_parent s.records.regions;
      op_slots = length s.records.ops.slots;
      block_slots = slots-edited change s.records.blocks b i;
    }

    block_definitions : (d : DefinedBy) → definitions_at t d ≡ definitions_at s.records d
    block_definitions (Op p) = refl
    block_definitions (Block c) = edited-kept (in_record (λ (x : BasicBlock D A K B S X L). x.arguments) []) change (λ x. refl) s.records.blocks b c

    block_chains : chains_of t ≡ chains_of s.records
    block_chains i = record {
      operands = operands_at s.records;
      successors = successors_at s.records;
      uses = λ v. uses_with (block_definitions v.definer i) v.number;
      block_uses = λ c. edited-kept (in_record (λ (x : BasicBlock D A K B S X L). x.uses) []) change (λ x. refl) s.records.blocks b c.index i;
    }

    block_own : KnowOwn s.records → KnowOwn t
    block_own own = record { ops = own.ops; blocks = own-edited (λ (x : BasicBlock D A K B S X L). x.index) change (λ x. refl) s.records.blocks b own.blocks; regions = own.regions }

    abbrev labelled : Forest context_ids (closed A K B S X L)
    labelled = set_label f b rest.label

    abbrev located : Forest context_ids (closed A K B S X L)
    located = set_loc labelled (of_block b) rest.loc

    abbrev R : Type 0
    R = BlockRecord context_ids (closed A K B S X L)

    -- the block's record, with the operations that it has
    block_found : (p : ArenaIndex) → option_map (block_record (ops_in (tree_of s.records) p)) (get t.blocks p) ≡ (written_block f b rest).blocks p
    block_found p = elim (id_cases p b) [
      | inl e ↦
          ap (option_map (block_record ops)) (ap (get t.blocks) e ∙ get-edited change s.records.blocks b ∙ ap (λ q. option_map change (get s.records.blocks q)) (sym e)) ∙ by (get s.records.blocks p)
          ∙ sym (ap (option_map (λ (r : R). record r { loc = rest.loc; attributes = rest.attributes })) (once (λ (r : R). record r { label = rest.label }) f.blocks b p e))
          ∙ sym (twice (λ (r : R). record r { loc = rest.loc }) (λ r. record r { attributes = rest.attributes }) labelled.blocks b p e)
      | inr ne ↦
          ap (option_map (block_record ops)) (get-edited_other change s.records.blocks b p ne)
          ∙ sym (not_there (λ (r : R). record r { attributes = rest.attributes }) located.blocks b p ne ∙ not_there (λ (r : R). record r { loc = rest.loc }) labelled.blocks b p ne ∙ not_there (λ (r : R). record r { label = rest.label }) f.blocks b p ne)
    ]
      where
        ops : List ArenaIndex
        ops = ops_in (tree_of s.records) p

        by : (x : Option (BasicBlock D A K B S X L)) → option_map (block_record ops) (option_map change x) ≡ option_map (λ (r : R). record r { loc = rest.loc; attributes = rest.attributes }) (option_map (λ (r : R). record r { label = rest.label }) (option_map (block_record ops) x))
        by None = refl
        by (Some x) = refl

    pub block-forest : forest_in t ≡ written_block f b rest
    block-forest =
        (λ i. record {
          ops = op_records s.records;
          blocks = λ p. option_map (block_record (ops_in (block_tree i) p)) (get t.blocks p);
          regions = λ g. option_map (λ _. blocks_in (block_tree i) g) (get s.records.regions g);
        })
        ∙ (λ i. record f { blocks = λ p. block_found p i })

    block_structure : SameStructure f (written_block f b rest)
    block_structure =
        structure-then f labelled (written_block f b rest) (alone_label f b rest.label).structure
        (structure-then labelled located (written_block f b rest) (alone_loc labelled (of_block b) rest.loc).structure (alone_attributes located (of_block b) rest.attributes).structure)

    block-structure : SameStructure f (forest_in t)
    block-structure = subst (SameStructure f) (sym block-forest) block_structure

    block_formed : (keys : ℕ) → WellFormed f keys → WellFormed (written_block f b rest) keys
    block_formed keys formed =
        let W = closed A K B S X L in
        let one : WellFormed labelled keys = (calls_keep_well_formed W f keys formed).labels b rest.label in
        let two : WellFormed located keys = (calls_keep_well_formed W labelled keys one).locations (of_block b) rest.loc in
        (calls_keep_well_formed W located keys two).attributes (of_block b) rest.attributes

    -- whatever is written, the context is sound
    pub block-sound : IsSound s → IsSound (with_block_rest s b rest)
    block-sound sound =
        rewritten-sound s sound t block_chains block_tree (block_own sound.own) (same-ids s.records.ops) (edited-ids change s.records.blocks b) (same-ids s.records.regions)
        block-structure (subst (λ g. WellFormed g (length s.types)) (sym block-forest) (block_formed (length s.types) sound.formed))

    pub block-same : SameButForest (bare s) (bare (with_block_rest s b rest))
    block-same = record {
      store = refl;
      beside = refl;
      passed = λ i. record (bare s).passed { blocks = λ j. (edited-ids change s.records.blocks b).passed j i };
      limits = refl;
    }

  pub writes-block : (s : ContextState D A K B S X L) (b : ArenaIndex) → WritesBlock s b
  writes-block s b = record {
    forest = λ rest. block-forest s b rest;
    same = λ rest. block-same s b rest;
    ids = λ rest. edited-ids (λ x. record x { rest = rest }) s.records.blocks b;
    stay_live = λ rest. structure-stays (forest_of s) (forest_of (with_block_rest s b rest)) (block-structure s b rest);
    entities_stay_live = λ rest. structure-entities-stay (forest_of s) (forest_of (with_block_rest s b rest)) (block-structure s b rest);
  }

  -- what was lent of a live block: what stood there, and whatever is written of it
  module _ (s : ContextState D A K B S X L) (b : ArenaIndex) (x : BasicBlock D A K B S X L) (at : get s.records.blocks b ≡ Some x) where
    pub block-lent : (rest : BasicBlockMut D A K B S X L) → record s { records = record s.records { blocks = fill s.records.blocks b (record x { rest = rest }) } } ≡ with_block_rest s b rest
    block-lent rest i = record s { records = record s.records { blocks = edited-lent (λ (y : BasicBlock D A K B S X L). record y { rest = rest }) s.records.blocks b b x refl at i } }

    pub block-lent-now : (now : ContextState D A K B S X L) → s ≡ now → (rest : BasicBlockMut D A K B S X L) → record s { records = record s.records { blocks = fill s.records.blocks b (record x { rest = rest }) } } ≡ with_block_rest now b rest
    block-lent-now now is rest = block-lent rest ∙ ap (λ z. with_block_rest z b rest) is

    pub block-lent-sound : IsSound s → (rest : BasicBlockMut D A K B S X L) → IsSound (record s { records = record s.records { blocks = fill s.records.blocks b (record x { rest = rest }) } })
    block-lent-sound sound rest = subst IsSound (sym (block-lent rest)) (block-sound s b rest sound)

    -- the record that the block has
    is_there : (forest_of s).blocks b ≡ Some (block_record (ops_in (tree_of s.records) b) x)
    is_there = ap (option_map (block_record (ops_in (tree_of s.records) b))) at

    pub block-lent-attributes : attributes_of (forest_of s) (of_block b) ≡ Some x.rest.attributes
    block-lent-attributes = ap (option_map (λ (r : BlockRecord context_ids (closed A K B S X L)). r.attributes)) is_there

    pub block-lent-label : label_of (forest_of s) b ≡ Some x.rest.label
    block-lent-label = ap (option_map (λ (r : BlockRecord context_ids (closed A K B S X L)). r.label)) is_there

    pub block-lent-loc : loc_of (forest_of s) (of_block b) ≡ Some x.rest.loc
    block-lent-loc = ap (option_map (λ (r : BlockRecord context_ids (closed A K B S X L)). r.loc)) is_there

    pub block-lent-live : IsLive (forest_of s) (a_block b)
    block-lent-live = ap is_some is_there

  -- and where none is live
  pub block-missing : (s : ContextState D A K B S X L) (b : ArenaIndex) → get s.records.blocks b ≡ None → IsLive (forest_of s) (a_block b) → ⊥
  block-missing s b at live = absurd (let none : false ≡ true = sym (ap (λ (m : Option (BasicBlock D A K B S X L)). is_some (option_map (block_record (ops_in (tree_of s.records) b)) m)) at) ∙ live in cc)
