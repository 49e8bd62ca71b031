-- A bare operation that is taken back.
use mathlib.Core.Path.{fun_ext}
use Rattle.std.proofs.Common.{◌≡◌, ℕ, List, [], ◌∷◌, map, Option, Some, None, refl, sym, ap, ◌∙◌, subst, inl, inr}
use Rattle.std.specs.Option.{option_map}
use Rattle.ir_model.specs.declared.ids.ArenaIndex.{ArenaIndex}
use Rattle.ir_model.specs.ContextIds.{context_ids}
use Rattle.ir_model.specs.Forest.{OpRecord}
use Rattle.ir_model.specs.Nesting.{In, list_of}
use Rattle.ir_model.proofs.IdCases.{id_cases}
use Rattle.ir_model.proofs.Arenas.{get-cut, get-cut_other}
use Rattle.ir_base_arenas.specs.Arena.{Arena, get, IsLiveIn, cut}
use Rattle.ir_base_arenas.specs.Lists.{AreLists, seen}
use Rattle.ir_core_records.specs.declared.record.Operation.{Operation}
use Rattle.ir_core_records.specs.declared.records.Records.{Records}
use Rattle.ir_core_records.specs.Lists.{in_record, uses_with}
use Rattle.ir_core_records.specs.Chains.{chains_of}
use Rattle.ir_core_records.specs.Table.{KnowOwn}
use Rattle.ir_core_records.specs.Tree.{tree_of, ops_in, op_links, block_ends, op_regions}
use Rattle.ir_core_records.specs.Nested.{AreNested}
use Rattle.ir_core_records.specs.Meaning.{closed, forest_in, op_record, block_record}
use Rattle.ir_core_nesting.specs.Leaves.{without_op}
use Rattle.ir_core_nesting.proofs.Readings.{live-of, read-cut, seen-cut}
use Rattle.ir_core_nesting.proofs.Kept.{OpsFound, Becomes, ops-are, nested-still}
use Rattle.ir_core_nesting.proofs.Chained.{chains-same}

pub map-nil : {U V : Type 0} (f : U → V) (xs : List U) → map f xs ≡ [] → xs ≡ []
map-nil f [] e = refl
map-nil f (x ∷ xs) e = absurd cc

module _ {D A K B S X L : Type 0} (old : Records D A K B S X L) (op : ArenaIndex) (x : Operation D A K B S X L) (found : get old.ops op ≡ Some x) where
  abbrev pub left : Records D A K B S X L
  left = record old { ops = cut old.ops op }

  live : IsLiveIn old.ops op
  live = live-of old.ops op x found

  pub left-chains : x.operands ≡ [] → x.successors ≡ [] → ((n : ℕ) → uses_with x.results n ≡ []) → chains_of left ≡ chains_of old
  left-chains operands successors unused = chains-same old left
      (read-cut old.ops op (in_record (λ y. y.operands) []) x found operands)
      (read-cut old.ops op (in_record (λ y. y.successors) []) x found successors)
      (λ o n. read-cut old.ops op (λ m. uses_with (in_record (λ y. y.results) [] m) n) x found (unused n) o)
      (λ b n. refl)
      (λ b. refl)

  pub left-own : KnowOwn old → KnowOwn left
  left-own know = record {
    ops = λ i p is. elim (id_cases i op) [
      | inl e ↦ absurd (let none : get left.ops i ≡ None = ap (get left.ops) e ∙ get-cut old.ops op live in cc)
      | inr ne ↦ know.ops i p (sym (get-cut_other old.ops op i live ne) ∙ is)
    ];
    blocks = know.blocks;
    regions = know.regions;
  }

  module _ (found_ops : OpsFound D A K B S X L) (nested : AreNested (tree_of old)) (lists : AreLists (tree_of left).ops (tree_of left).block_ends (ops_in (tree_of old))) where
    pub left-nested : AreNested (tree_of left)
    left-nested = nested-still old left (ops-are old left found_ops lists) refl lists nested.block_lists parents
      where
        parents : (o g : ArenaIndex) → In g (list_of (λ gs. gs) ((tree_of left).regions_of o)) → (tree_of left).parent_ops g ≡ Some o
        parents o g h = elim (id_cases o op) [
          | inl e ↦ absurd (let k : In {A = ArenaIndex} g [] = subst (λ (m : Option (Operation D A K B S X L)). In g (list_of (λ gs. gs) (option_map op_regions m))) (ap (get left.ops) e ∙ get-cut old.ops op live) h in k)
          | inr ne ↦ nested.parents o g (subst (λ (m : Option (Operation D A K B S X L)). In g (list_of (λ gs. gs) (option_map op_regions m))) (get-cut_other old.ops op o live ne) h)
        ]

    pub left-forest : forest_in left ≡ without_op (forest_in old) op
    left-forest = λ i. record {
      ops = fun_ext (seen-cut old.ops op_record op live) i;
      blocks = λ b. option_map (block_record (ops-are old left found_ops lists i b)) (get old.blocks b);
      regions = (forest_in old).regions;
    }

-- an operation that has no operands in the forest has none
pub bare-of : {D A K B S X L : Type 0} {Y : Type 0} (x : Operation D A K B S X L) (read : OpRecord context_ids (closed A K B S X L) → List Y) (m : Option (Operation D A K B S X L)) → m ≡ Some x → list_of read (option_map op_record m) ≡ [] → read (op_record x) ≡ []
bare-of x read m is e = sym (ap (λ m. list_of read (option_map op_record m)) is) ∙ e

-- the records without a bare operation
pub operation-left : {D A K B S X L : Type 0} (old : Records D A K B S X L) (ops : Arena (Operation D A K B S X L)) (op : ArenaIndex) (x : Operation D A K B S X L)
    → get old.ops op ≡ Some x → ops ≡ cut old.ops op → OpsFound D A K B S X L → AreNested (tree_of old)
    → AreLists (seen op_links (cut old.ops op)) (seen block_ends old.blocks) (ops_in (tree_of old))
    → x.operands ≡ [] → x.successors ≡ [] → ((n : ℕ) → uses_with x.results n ≡ [])
    → Becomes old (record old { ops = ops }) (without_op (forest_in old) op)
operation-left {D} {A} {K} {B} {S} {X} {L} old ops op x found is found_ops nested lists operands successors unused =
    subst (λ (a : Arena (Operation D A K B S X L)). Becomes old (record old { ops = a }) (without_op (forest_in old) op)) (sym is) (record {
      forest = left-forest old op x found found_ops nested lists;
      nested = left-nested old op x found found_ops nested lists;
      chains = left-chains old op x found operands successors unused;
      own = left-own old op x found;
    })
