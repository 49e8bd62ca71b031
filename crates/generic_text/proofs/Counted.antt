-- Where all that was live has its record still, and no more is live than before, all is as it was.
use Rattle.std.proofs.Common.{◌≡◌, ◌∙◌, ◌≤◌, inl, inr, Option, Some, None, IsSome, List, ◌∷◌, refl, sym, ap, subst, arith}
use Rattle.std.proofs.Math.Path.{fun_ext}
use Rattle.std.specs.Option.{option_map}
use Rattle.ir_model.specs.declared.ids.ArenaIndex.{ArenaIndex}
use Rattle.ir_model.specs.Arenas.{Arena, IsLiveIn, arena_len, get}
use Rattle.ir_model.specs.ContextIds.{context_ids}
use Rattle.ir_model.specs.Forest.{BlockRecord, Dialect, Forest, OpRecord, an_op, a_block, a_region}
use Rattle.ir_model.specs.Nesting.{In}
use Rattle.ir_model.proofs.LiveIds.{ids_count, ids_once, listed_live, live_ids, live_listed}
use Rattle.ir_model.proofs.Nests.{Absent-not_in}
use Rattle.ir_model.proofs.Removal.{length-within}
use Rattle.ir_core_context.specs.Calls.{NoEntity}
use Rattle.ir_core_records.specs.declared.records.Records.{Records}
use Rattle.ir_core_records.specs.Meaning.{block_record, forest_in, op_record}
use Rattle.ir_core_records.specs.Tree.{blocks_in, ops_in, tree_of}
use Rattle.generic_text.specs.Left.{LeavesAll}
use Rattle.generic_text.proofs.Left.{still_live}

-- where each record has a record still, and there are no more of them, none is new
none_more : {T : Type 0} (a b : Arena T) → ((x : ArenaIndex) → IsLiveIn a x → IsLiveIn b x) → arena_len b ≤ arena_len a → (x : ArenaIndex) → IsLiveIn b x → (IsLiveIn a x → ⊥) → ⊥
none_more a b stay few x there out =
    let more = length-within (x ∷ live_ids a) (live_ids b) (Absent-not_in x (live_ids a) (λ h. out (listed_live a x h)), ids_once a) (λ y h. elim h [ inl same ↦ subst (λ z. In z (live_ids b)) (sym same) (live_listed b x there) | inr k ↦ live_listed b y (stay y (listed_live a y k)) ]) in
    let before = ids_count a in
    let after = ids_count b in
    omega (arith, more, few, before, after)

-- what is made of a record is there where the record is
unmap : {R S : Type 0} (f : R → S) (m : Option R) → IsSome (option_map f m) → IsSome m
unmap f None h = h
unmap f (Some r) h = refl

remap : {R S : Type 0} (f : R → S) (m : Option R) → IsSome m → IsSome (option_map f m)
remap f None h = h
remap f (Some r) h = refl

-- what stays where it is, and is nowhere else, is the same
one_same : {R : Type 0} (m n : Option R) → (IsSome m → n ≡ m) → (IsSome n → (IsSome m → ⊥) → ⊥) → n ≡ m
one_same None None stays none = refl
one_same None (Some r) stays none = absurd (none refl (λ h. absurd cc))
one_same (Some r) n stays none = stays refl

-- where the records are the same, the forest is
same_parts : {W : Dialect} (f g : Forest context_ids W) → ((o : ArenaIndex) → g.ops o ≡ f.ops o) → ((b : ArenaIndex) → g.blocks b ≡ f.blocks b) → ((r : ArenaIndex) → g.regions r ≡ f.regions r) → g ≡ f
same_parts {W} f g ops blocks regions =
    let one : g.ops ≡ f.ops = fun_ext ops in
    let two : g.blocks ≡ f.blocks = fun_ext blocks in
    let three : g.regions ≡ f.regions = fun_ext regions in
    ap (λ (m : ArenaIndex → Option (OpRecord context_ids W)). record g { ops = m }) one
    ∙ ap (λ (m : ArenaIndex → Option (BlockRecord context_ids W)). record { ops = f.ops; blocks = m; regions = g.regions }) two
    ∙ ap (λ (m : ArenaIndex → Option (List ArenaIndex)). record { ops = f.ops; blocks = f.blocks; regions = m }) three

-- forests without anything are the same
pub same_empty : {W : Dialect} (f g : Forest context_ids W) → NoEntity f → NoEntity g → g ≡ f
same_empty f g was is = same_parts f g (λ o. is.ops o ∙ sym (was.ops o)) (λ b. is.blocks b ∙ sym (was.blocks b)) (λ r. is.regions r ∙ sym (was.regions r))

module _ {D A K B S X L : Type 0} (s t : Records D A K B S X L) (left : LeavesAll (forest_in s) (forest_in t)) where
  pub same_count : arena_len t.ops ≤ arena_len s.ops → arena_len t.blocks ≤ arena_len s.blocks → arena_len t.regions ≤ arena_len s.regions → forest_in t ≡ forest_in s
  same_count ops blocks regions = same_parts (forest_in s) (forest_in t) by_op by_block by_region
    where
      by_op : (o : ArenaIndex) → (forest_in t).ops o ≡ (forest_in s).ops o
      by_op o = one_same _ _ (left.ops o) (λ there out. none_more s.ops t.ops (λ x h. unmap op_record (get t.ops x) (still_live (forest_in s) (forest_in t) left (an_op x) (remap op_record (get s.ops x) h))) ops o (unmap op_record (get t.ops o) there) (λ h. out (remap op_record (get s.ops o) h)))

      by_block : (b : ArenaIndex) → (forest_in t).blocks b ≡ (forest_in s).blocks b
      by_block b = one_same _ _ (left.blocks b) (λ there out. none_more s.blocks t.blocks (λ x h. unmap (block_record (ops_in (tree_of t) x)) (get t.blocks x) (still_live (forest_in s) (forest_in t) left (a_block x) (remap (block_record (ops_in (tree_of s) x)) (get s.blocks x) h))) blocks b (unmap (block_record (ops_in (tree_of t) b)) (get t.blocks b) there) (λ h. out (remap (block_record (ops_in (tree_of s) b)) (get s.blocks b) h)))

      by_region : (r : ArenaIndex) → (forest_in t).regions r ≡ (forest_in s).regions r
      by_region r = one_same _ _ (left.regions r) (λ there out. none_more s.regions t.regions (λ x h. unmap (λ _. blocks_in (tree_of t) x) (get t.regions x) (still_live (forest_in s) (forest_in t) left (a_region x) (remap (λ _. blocks_in (tree_of s) x) (get s.regions x) h))) regions r (unmap (λ _. blocks_in (tree_of t) r) (get t.regions r) there) (λ h. out (remap (λ _. blocks_in (tree_of s) r) (get s.regions r) h)))
