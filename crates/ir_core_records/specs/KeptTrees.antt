-- An edit of one record that leaves its links leaves who stands in whom, and all ids.
use Rattle.std.proofs.Common.{◌≡◌, length, Option, Some, None, is_some, refl, sym, ap, ◌∙◌}
use Rattle.std.specs.Option.{option_map}
use Rattle.std.proofs.lemmas.Option.{same_Some}
use Rattle.ir_model.specs.declared.ids.ArenaIndex.{ArenaIndex}
use Rattle.ir_model.proofs.Arenas.{passed-fill_live}
use Rattle.ir_model.proofs.ArenaRoom.{len-fill_live, room-fill_live}
use Rattle.ir_base_arenas.specs.Arena.{Arena, get, IsLiveIn}
use Rattle.ir_base_arenas.specs.Lists.{seen, SameIds}
use Rattle.ir_core_records.specs.declared.record.Operation.{Operation}
use Rattle.ir_core_records.specs.declared.record.BasicBlock.{BasicBlock}
use Rattle.ir_core_records.specs.declared.records.Records.{Records}
use Rattle.ir_core_records.specs.Lists.{edited}
use Rattle.ir_core_records.specs.Tree.{op_links, block_links, block_ends, region_ends, region_parent, op_regions}
use Rattle.ir_core_records.specs.Frames.{KeepsTree}
use Rattle.ir_core_records.specs.Edited.{edited-by, edited-kept, slots-edited}

module _ {T : Type 0} where
  pub same_ids-refl : (a : Arena T) → SameIds a a
  same_ids-refl a = record { live = λ i. (λ h. h, λ h. h); passed = λ i. refl; room = refl; len = refl; limit = refl; last_version = refl; removals = refl }

  pub same_ids-trans : (a b c : Arena T) → SameIds a b → SameIds b c → SameIds a c
  same_ids-trans a b c f g = record {
    live = λ i. (λ h. (f.live i).0 ((g.live i).0 h), λ h. (g.live i).1 ((f.live i).1 h));
    passed = λ i. g.passed i ∙ f.passed i;
    room = g.room ∙ f.room;
    len = g.len ∙ f.len;
    limit = g.limit ∙ f.limit;
    last_version = g.last_version ∙ f.last_version;
    removals = g.removals ∙ f.removals;
  }

  -- an edit of a record hands out no id
  pub same_ids-edited : (change : T → T) (t : Arena T) (o : ArenaIndex) → SameIds t (edited change t o)
  same_ids-edited change t o =
      edited-by (λ s. ((i : ArenaIndex) → is_some (get s i) ≡ is_some (get t i)) → SameIds t s) change t o
      (λ none stays. same_ids-refl t)
      (λ x at stays. let live : IsLiveIn t o = ap is_some at in record {
        live = λ i. (λ h. sym (stays i) ∙ h, λ h. stays i ∙ h);
        passed = λ i. passed-fill_live t o i (change x) live;
        room = room-fill_live t o (change x) live;
        len = len-fill_live t o (change x) live;
        limit = refl;
        last_version = refl;
        removals = refl;
      })
      (λ i. edited-kept is_some change (λ x. refl) t o i)

  -- what a record knows of itself, after an edit that leaves that
  own_kept : (read : T → ArenaIndex) (i : ArenaIndex) (op : T) (old new : Option T) → option_map read new ≡ option_map read old → new ≡ Some op → ((x : T) → old ≡ Some x → read x ≡ i) → read op ≡ i
  own_kept read i op None new same at own = let none : Some (read op) ≡ None = ap (option_map read) (sym at) ∙ same in absurd (cc)
  own_kept read i op (Some x) new same at own = same_Some (read op) (read x) (ap (option_map read) (sym at) ∙ same) ∙ own x refl

module _ {D A K B S X L : Type 0} where
  pub keeps-refl : (t : Records D A K B S X L) → KeepsTree t t
  keeps-refl t = record { tree = refl; op_ids = same_ids-refl t.ops; block_ids = same_ids-refl t.blocks; regions = refl; own = λ own. own }

  pub keeps-trans : (r s t : Records D A K B S X L) → KeepsTree r s → KeepsTree s t → KeepsTree r t
  keeps-trans r s t f g = record {
    tree = g.tree ∙ f.tree;
    op_ids = same_ids-trans r.ops s.ops t.ops f.op_ids g.op_ids;
    block_ids = same_ids-trans r.blocks s.blocks t.blocks f.block_ids g.block_ids;
    regions = g.regions ∙ f.regions;
    own = λ own. g.own (f.own own);
  }

  -- an edit of an operation that leaves its links, its regions and its own place
  pub keeps-by_ops : (change : Operation D A K B S X L → Operation D A K B S X L) → ((x : Operation D A K B S X L) → op_links (change x) ≡ op_links x) → ((x : Operation D A K B S X L) → (change x).regions ≡ x.regions) → ((x : Operation D A K B S X L) → (change x).index ≡ x.index)
      → (t : Records D A K B S X L) (o : ArenaIndex) → KeepsTree t (record t { ops = edited change t.ops o })
  keeps-by_ops change links regions index t o = record {
    tree = λ i. record {
      ops = λ p. edited-kept (option_map op_links) change (λ x. ap Some (links x)) t.ops o p i;
      blocks = seen block_links t.blocks;
      block_ends = seen block_ends t.blocks;
      region_ends = seen region_ends t.regions;
      regions_of = λ p. edited-kept (option_map op_regions) change (λ x. ap Some (regions x)) t.ops o p i;
      parent_ops = seen region_parent t.regions;
      op_slots = slots-edited change t.ops o i;
      block_slots = length t.blocks.slots;
    };
    op_ids = same_ids-edited change t.ops o;
    block_ids = same_ids-refl t.blocks;
    regions = refl;
    own = λ own. record {
      ops = λ i op at. own_kept (λ (x : Operation D A K B S X L). x.index) i op (get t.ops i) (get (edited change t.ops o) i) (edited-kept (option_map (λ (x : Operation D A K B S X L). x.index)) change (λ x. ap Some (index x)) t.ops o i) at (own.ops i);
      blocks = own.blocks;
      regions = own.regions;
    };
  }

  -- an edit of a block that leaves its links, its ends and its own place
  pub keeps-by_blocks : (change : BasicBlock D A K B S X L → BasicBlock D A K B S X L) → ((x : BasicBlock D A K B S X L) → block_links (change x) ≡ block_links x) → ((x : BasicBlock D A K B S X L) → block_ends (change x) ≡ block_ends x) → ((x : BasicBlock D A K B S X L) → (change x).index ≡ x.index)
      → (t : Records D A K B S X L) (b : ArenaIndex) → KeepsTree t (record t { blocks = edited change t.blocks b })
  keeps-by_blocks change links ends index t b = record {
    tree = λ i. record {
      ops = seen op_links t.ops;
      blocks = λ p. edited-kept (option_map block_links) change (λ x. ap Some (links x)) t.blocks b p i;
      block_ends = λ p. edited-kept (option_map block_ends) change (λ x. ap Some (ends x)) t.blocks b p i;
      region_ends = seen region_ends t.regions;
      regions_of = seen op_regions t.ops;
      parent_ops = seen region_parent t.regions;
      op_slots = length t.ops.slots;
      block_slots = slots-edited change t.blocks b i;
    };
    op_ids = same_ids-refl t.ops;
    block_ids = same_ids-edited change t.blocks b;
    regions = refl;
    own = λ own. record {
      ops = own.ops;
      blocks = λ i x at. own_kept (λ (y : BasicBlock D A K B S X L). y.index) i x (get t.blocks i) (get (edited change t.blocks b) i) (edited-kept (option_map (λ (y : BasicBlock D A K B S X L). y.index)) change (λ y. ap Some (index y)) t.blocks b i) at (own.blocks i);
      regions = own.regions;
    };
  }
