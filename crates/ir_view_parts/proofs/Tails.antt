-- The last operation of a block is the one that the block's record names, and is live.
use Rattle.std.proofs.Common.{◌≡◌, ◌∙◌, ℕ, suc, ◌-◌, List, [], ◌∷◌, length, Option, Some, None, refl, sym, ap, subst, arith, slice_get}
use Rattle.std.specs.Option.{option_map}
use Rattle.ir_model.specs.declared.ids.ArenaIndex.{ArenaIndex}
use Rattle.ir_model.specs.BlockGraph.{last_op}
use Rattle.ir_model.specs.ContextIds.{context_ids}
use Rattle.ir_model.specs.Forest.{Dialect, Forest, BlockRecord, a_block, an_op}
use Rattle.ir_model.specs.Nesting.{IsLive, WellFormed, list_of, ops_of}
use Rattle.ir_model.specs.Parent.{last_of}
use Rattle.ir_model.proofs.Edges.{got_in}
use Rattle.ir_model.proofs.Nests.{In-map}
use Rattle.ir_base_arenas.specs.Arena.{get}
use Rattle.ir_base_arenas.specs.Lists.{Ends, ends_of, last_or, last_from}
use Rattle.ir_core_records.specs.declared.record.BasicBlock.{BasicBlock}
use Rattle.ir_core_records.specs.declared.records.Records.{Records}
use Rattle.ir_core_records.specs.Meaning.{closed, block_record, forest_in}
use Rattle.ir_core_records.specs.Nested.{AreNested}
use Rattle.ir_core_records.specs.Tree.{block_ends, ops_in, tree_of}

-- the last of a list that starts with x stands at the length of what is behind x
last-at : (x : ArenaIndex) (xs : List ArenaIndex) → slice_get (x ∷ xs) (length xs) ≡ Some (last_from x xs)
last-at x [] = refl
last-at x (y ∷ ys) = last-at y ys

-- the last of a list, as links and as places have it
last-is : (xs : List ArenaIndex) → last_or None xs ≡ last_of xs
last-is [] = refl
last-is (x ∷ xs) =
    let behind : length xs ≡ suc (length xs) - 1 = omega arith in
    sym (last-at x xs) ∙ ap (slice_get (x ∷ xs)) behind

module _ {D A K B S X L : Type 0} (s t : Records D A K B S X L) (same : s ≡ t) (nested : AreNested (tree_of t)) where
  pub tail-is : (b : ArenaIndex) (x : BasicBlock D A K B S X L) → get s.blocks b ≡ Some x → x.ops_list.last ≡ last_op (forest_in t) b
  tail-is b x e =
      let at : get t.blocks b ≡ Some x = subst (λ (z : Records D A K B S X L). get z.blocks b ≡ Some x) same e in
      let ends : block_ends x ≡ ends_of (ops_in (tree_of t) b) = nested.op_lists.ends b (block_ends x) (ap (option_map block_ends) at) in
      let listed : ops_of (forest_in t) b ≡ ops_in (tree_of t) b = ap (λ (m : Option (BasicBlock D A K B S X L)). list_of (λ (r : BlockRecord context_ids (closed A K B S X L)). r.ops) (option_map (block_record (ops_in (tree_of t) b)) m)) at in
      ap (λ (y : Ends). y.tail) ends ∙ last-is (ops_in (tree_of t) b) ∙ ap last_of (sym listed)

pub tail-live : {W : Dialect} (f : Forest context_ids W) (keys : ℕ) → WellFormed f keys → (b o : ArenaIndex) → last_op f b ≡ Some o → IsLive f (an_op o)
tail-live f keys formed b o e = formed.nested.live (an_op o) (a_block b) (In-map an_op o (ops_of f b) (got_in (ops_of f b) (length (ops_of f b) - 1) o e))
