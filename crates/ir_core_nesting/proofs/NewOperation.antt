-- A new bare operation.
use mathlib.Core.Path.{fun_ext}
use Rattle.std.proofs.Common.{◌≡◌, List, [], All, Some, refl, sym, ap, ◌∙◌, subst, inl, inr}
use Rattle.std.specs.Option.{option_map}
use Rattle.std.proofs.lemmas.Option.{same_Some}
use Rattle.ir_model.specs.declared.ids.ArenaIndex.{ArenaIndex}
use Rattle.ir_model.specs.ContextIds.{same_id}
use Rattle.ir_model.specs.Changes.{put}
use Rattle.ir_model.specs.Nesting.{In, list_of}
use Rattle.ir_model.proofs.IdCases.{id_cases}
use Rattle.ir_model.proofs.Arenas.{get-fill_new, get-fill_new_other}
use Rattle.ir_base_arenas.specs.Arena.{Arena, get, IsNew, fill}
use Rattle.ir_base_arenas.specs.Lists.{AreLists, seen}
use Rattle.ir_core_records.specs.declared.record.Definition.{Definition}
use Rattle.ir_core_records.specs.declared.record.Operation.{Operation}
use Rattle.ir_core_records.specs.declared.records.Records.{Records}
use Rattle.ir_core_records.specs.Lists.{in_record, uses_with}
use Rattle.ir_core_records.specs.Chains.{chains_of}
use Rattle.ir_core_records.specs.Table.{KnowOwn}
use Rattle.ir_core_records.specs.Tree.{tree_of, ops_in, op_links, block_ends, op_regions}
use Rattle.ir_core_records.specs.Nested.{AreNested}
use Rattle.ir_core_records.specs.Meaning.{forest_in, op_record, block_record}
use Rattle.ir_core_nesting.proofs.Readings.{read-new, seen-new}
use Rattle.ir_core_nesting.proofs.Kept.{OpsFound, Becomes, ops-are, nested-still}
use Rattle.ir_core_nesting.proofs.Chained.{uses-none, chains-same}

module _ {D A K B S X L : Type 0} (old : Records D A K B S X L) (id : ArenaIndex) (op : Operation D A K B S X L) (is_new : IsNew old.ops id) where
  abbrev new : Records D A K B S X L
  new = record old { ops = fill old.ops id op }

  new-chains : op.operands ≡ [] → op.successors ≡ [] → All (λ (r : Definition). r.uses ≡ []) op.results → chains_of new ≡ chains_of old
  new-chains operands successors unused = chains-same old new
      (read-new old.ops id (in_record (λ x. x.operands) []) op is_new operands)
      (read-new old.ops id (in_record (λ x. x.successors) []) op is_new successors)
      (λ o n. read-new old.ops id (λ m. uses_with (in_record (λ x. x.results) [] m) n) op is_new (uses-none op.results n unused) o)
      (λ b n. refl)
      (λ b. refl)

  new-own : op.index ≡ id → KnowOwn old → KnowOwn new
  new-own own know = record {
    ops = λ i p found. elim (id_cases i id) [
      | inl e ↦ ap (λ (o : Operation D A K B S X L). o.index) (sym (same_Some _ _ (sym (ap (get (fill old.ops id op)) e ∙ get-fill_new old.ops id op is_new) ∙ found))) ∙ own ∙ sym e
      | inr ne ↦ know.ops i p (sym (get-fill_new_other old.ops id i op is_new ne) ∙ found)
    ];
    blocks = know.blocks;
    regions = know.regions;
  }

  module _ (found : OpsFound D A K B S X L) (lists : AreLists (tree_of new).ops (tree_of new).block_ends (ops_in (tree_of old))) where
    new-nested : AreNested (tree_of old) → op.regions ≡ [] → AreNested (tree_of new)
    new-nested nested none = nested-still old new (ops-are old new found lists) refl lists nested.block_lists parents
      where
        parents : (o g : ArenaIndex) → In g (list_of (λ gs. gs) ((tree_of new).regions_of o)) → (tree_of new).parent_ops g ≡ Some o
        parents o g h = nested.parents o g (subst (λ (xs : List ArenaIndex). In g xs) (read-new old.ops id (λ m. list_of (λ gs. gs) (option_map op_regions m)) op is_new none o) h)

    new-forest : forest_in new ≡ record (forest_in old) { ops = put same_id id (op_record op) (forest_in old).ops }
    new-forest = λ i. record {
      ops = fun_ext (seen-new old.ops op_record id op is_new) i;
      blocks = λ b. option_map (block_record (ops-are old new found lists i b)) (get old.blocks b);
      regions = (forest_in old).regions;
    }

-- the records with one bare operation more
pub new-operation : {D A K B S X L : Type 0} (old : Records D A K B S X L) (ops : Arena (Operation D A K B S X L)) (id : ArenaIndex) (op : Operation D A K B S X L)
    → IsNew old.ops id → ops ≡ fill old.ops id op → OpsFound D A K B S X L → AreNested (tree_of old)
    → AreLists (seen op_links (fill old.ops id op)) (seen block_ends old.blocks) (ops_in (tree_of old))
    → op.index ≡ id → op.operands ≡ [] → op.successors ≡ [] → op.regions ≡ [] → All (λ (r : Definition). r.uses ≡ []) op.results
    → Becomes old (record old { ops = ops }) (record (forest_in old) { ops = put same_id id (op_record op) (forest_in old).ops })
new-operation {D} {A} {K} {B} {S} {X} {L} old ops id op is_new filled found nested lists own operands successors regions unused =
    subst (λ (a : Arena (Operation D A K B S X L)). Becomes old (record old { ops = a }) (record (forest_in old) { ops = put same_id id (op_record op) (forest_in old).ops })) (sym filled) (record {
      forest = new-forest old id op is_new found lists;
      nested = new-nested old id op is_new found lists nested regions;
      chains = new-chains old id op is_new operands successors unused;
      own = new-own old id op is_new own;
    })
