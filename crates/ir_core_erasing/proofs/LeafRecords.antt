-- What the removal of a leaf makes of the arenas.
use Rattle.std.proofs.Common.{◌≡◌, ◌+◌, List, [], ◌∷◌, map, Option, Some, None, IsSome, refl, sym, ap, ◌∙◌, subst, arith}
use Rattle.std.specs.Option.{option_map}
use Rattle.ir_model.specs.declared.ids.ArenaIndex.{ArenaIndex}
use Rattle.ir_model.specs.ContextIds.{context_ids}
use Rattle.ir_model.specs.Forest.{Entity, Forest}
use Rattle.ir_model.specs.Changes.{Removes}
use Rattle.ir_model.proofs.Arenas.{passed-cut}
use Rattle.ir_model.proofs.ArenaRoom.{len-cut}
use Rattle.ir_base_arenas.specs.Arena.{Arena, arena_len, cut, IsLiveIn}
use Rattle.ir_base_arenas.specs.Lists.{SameIds}
use Rattle.ir_core_records.specs.declared.records.Records.{Records}
use Rattle.ir_core_records.specs.Chains.{chains_of}
use Rattle.ir_core_records.specs.Meaning.{closed, forest_in}
use Rattle.ir_core_records.specs.Nested.{AreNested}
use Rattle.ir_core_records.specs.Table.{KnowOwn}
use Rattle.ir_core_records.specs.Tree.{tree_of}
use Rattle.ir_core_erasing.specs.Erasing.{HandsOutNone, RemovesLeaf, SamePassed}

pub map-nil : {A B : Type 0} (f : A → B) (xs : List A) → map f xs ≡ [] → xs ≡ []
map-nil f [] e = refl
map-nil f (x ∷ xs) e = absurd cc

-- the record behind one that is read is there
pub unmap : {A B : Type 0} (f : A → B) (o : Option A) → IsSome (option_map f o) → IsSome o
unmap f None h = h
unmap f (Some x) h = refl

module _ {T : Type 0} where
  -- one record was removed
  pub record Loses (old new : Arena T) : Type 0 where
    pub ids : SamePassed old new
    pub counted : new.removals ≡ old.removals + 1
    pub fewer : arena_len new + 1 ≡ arena_len old

  -- none was
  pub record Stays (old new : Arena T) : Type 0 where
    pub ids : SamePassed old new
    pub counted : new.removals ≡ old.removals
    pub same : arena_len new ≡ arena_len old

  pub stays : (old new : Arena T) → SameIds old new → Stays old new
  stays old new s = record {
    ids = record { passed = s.passed; limit = s.limit; last_version = s.last_version };
    counted = s.removals;
    same = s.len;
  }

  pub loses : (old new : Arena T) (id : ArenaIndex) → IsLiveIn old id → new ≡ cut old id → Loses old new
  loses old new id live is = subst (Loses old) (sym is) (record {
    ids = record { passed = λ i. passed-cut old id i live; limit = refl; last_version = refl };
    counted = refl;
    fewer = len-cut old id live;
  })

  passed-trans : (a b c : Arena T) → SamePassed a b → SamePassed b c → SamePassed a c
  passed-trans a b c f g = record { passed = λ i. g.passed i ∙ f.passed i; limit = g.limit ∙ f.limit; last_version = g.last_version ∙ f.last_version }

  pub stays-loses : (a b c : Arena T) → Stays a b → Loses b c → Loses a c
  stays-loses a b c f g = record {
    ids = passed-trans a b c f.ids g.ids;
    counted = g.counted ∙ ap (λ n. n + 1) f.counted;
    fewer = g.fewer ∙ f.same;
  }

  pub stays-same : (a b c : Arena T) → Stays a b → c ≡ b → Stays a c
  stays-same a b c f e = subst (Stays a) (sym e) f

  pub passed-refl : (a : Arena T) → SamePassed a a
  passed-refl a = record { passed = λ i. refl; limit = refl; last_version = refl }

module _ {D A K B S X L : Type 0} where
  pub none-refl : (t : Records D A K B S X L) → HandsOutNone t t
  none-refl t = record { ops = passed-refl t.ops; blocks = passed-refl t.blocks; regions = passed-refl t.regions }

  pub none-trans : (a b c : Records D A K B S X L) → HandsOutNone a b → HandsOutNone b c → HandsOutNone a c
  none-trans a b c f g = record {
    ops = passed-trans a.ops b.ops c.ops f.ops g.ops;
    blocks = passed-trans a.blocks b.blocks c.blocks f.blocks g.blocks;
    regions = passed-trans a.regions b.regions c.regions f.regions g.regions;
  }

  module _ (old new : Records D A K B S X L) (e : Entity context_ids) (after : Forest context_ids (closed A K B S X L)) (removed : Removes (forest_in old) e after) (is : forest_in new ≡ after)
      (nested : AreNested (tree_of new)) (chains : chains_of new ≡ chains_of old) (own : KnowOwn old → KnowOwn new) where
    gone : Removes (forest_in old) e (forest_in new)
    gone = subst (Removes (forest_in old) e) (sym is) removed

    pub op-leaf : Loses old.ops new.ops → Stays old.blocks new.blocks → Stays old.regions new.regions → RemovesLeaf old e new
    op-leaf ops blocks regions = record {
      removed = gone;
      nested = nested;
      chains = chains;
      own = own;
      ids = record { ops = ops.ids; blocks = blocks.ids; regions = regions.ids };
      counted = omega (arith, ops.counted, blocks.counted, regions.counted);
      fewer = omega (arith, ops.fewer, blocks.same, regions.same);
    }

    pub block-leaf : Stays old.ops new.ops → Loses old.blocks new.blocks → Stays old.regions new.regions → RemovesLeaf old e new
    block-leaf ops blocks regions = record {
      removed = gone;
      nested = nested;
      chains = chains;
      own = own;
      ids = record { ops = ops.ids; blocks = blocks.ids; regions = regions.ids };
      counted = omega (arith, ops.counted, blocks.counted, regions.counted);
      fewer = omega (arith, ops.same, blocks.fewer, regions.same);
    }

    pub region-leaf : Stays old.ops new.ops → Stays old.blocks new.blocks → Loses old.regions new.regions → RemovesLeaf old e new
    region-leaf ops blocks regions = record {
      removed = gone;
      nested = nested;
      chains = chains;
      own = own;
      ids = record { ops = ops.ids; blocks = blocks.ids; regions = regions.ids };
      counted = omega (arith, ops.counted, blocks.counted, regions.counted);
      fewer = omega (arith, ops.same, blocks.same, regions.fewer);
    }
