-- What handing out ids and numbers, or skipping them, leaves of a context.
use Rattle.std.proofs.Common.{◌≡◌, ◌⊎◌, ◌↔◌, ℕ, ◌+◌, ◌≤◌, ◌<◌, Bool, List, [], length, Option, Some, None, IsSome, IsTrue, nat_lt, refl, sym, subst, ◌∙◌, inl, inr, arith}
use Rattle.std.specs.List.{range_with_len}
use Rattle.std.specs.Option.{option_map}
use Rattle.std.proofs.lemmas.List.FromFn.{length-range_with_len}
use Rattle.ir_model.specs.declared.ids.ArenaIndex.{ArenaIndex}
use Rattle.ir_model.specs.declared.ids.Limits.{Limits}
use Rattle.ir_model.specs.ContextIds.{context_ids}
use Rattle.ir_model.specs.Ids.{Fresh, Counts}
use Rattle.ir_model.specs.Forest.{Definer, Dialect}
use Rattle.ir_model.specs.Nesting.{In, WellFormed, numbers_of, use_numbers_of}
use Rattle.ir_model.specs.Sessions.{IsNewId, Session, live_op, live_block, live_region}
use Rattle.ir_base_arenas.specs.Arena.{Arena, get, IsLiveIn, is_passed}
use Rattle.ir_core_records.specs.declared.records.Records.{Records}
use Rattle.ir_core_records.specs.Growth.{Grows, SkipsIds}
use Rattle.ir_core_records.specs.Meaning.{op_record, block_record, forest_in}
use Rattle.ir_core_records.specs.Tree.{tree_of, ops_in, blocks_in}
use Rattle.ir_core_context.specs.Calls.{HandsOut, SkipsAtMost}
use Rattle.ir_core_context.specs.Creation.{Extends, HoldTogether, SkipsUpTo}
use Rattle.ir_core_context.specs.Sound.{IsSound, Keeps}
use Rattle.ir_core_context.specs.State.{ContextState, bare, forest_of}
use Rattle.ir_core_context.proofs.Numbers.{In-range, range-distinct, passed-range, new-range}

-- an id stays new under fewer live ids
IsNewId-fewer : (limits : Limits) (passed : ArenaIndex → Bool) (live live' : ArenaIndex → Type 0) (i : ArenaIndex) → ((j : ArenaIndex) → live' j → live j) → IsNewId limits passed live i → IsNewId limits passed live' i
IsNewId-fewer limits passed live live' i fewer (numbered, within, fits, inl first) = (numbered, within, fits, inl first)
IsNewId-fewer limits passed live live' i fewer (numbered, within, fits, inr (l, slot, version, was, dead, greatest)) =
    (numbered, within, fits, inr (l, slot, version, was, λ h. dead (fewer l h), greatest))

pub some-map : {U V : Type 0} (f : U → V) (x : Option U) → IsSome (option_map f x) → IsSome x
some-map f None h = h
some-map f (Some y) h = refl

-- an arena that grew keeps to the limits
keeps-grown : {T : Type 0} (limits : Limits) (a b : Arena T) (made : List ArenaIndex) → Keeps limits a → Grows a b made → Keeps limits b
keeps-grown limits a b made keeps grows = record { limit = grows.limit ∙ keeps.limit; last_version = grows.last_version ∙ keeps.last_version }

-- what an arena handed out was new, by what its records mean
new-meant : {T R : Type 0} (f : ArenaIndex → T → R) (limits : Limits) (a b : Arena T) (made : List ArenaIndex) → Keeps limits a → Grows a b made
    → (i : ArenaIndex) → In i made → IsNewId limits (is_passed a) (λ j. IsSome (option_map (f j) (get a j))) i
new-meant f limits a b made keeps grows i h =
    IsNewId-fewer limits (is_passed a) (IsLiveIn a) (λ j. IsSome (option_map (f j) (get a j))) i (λ j. some-map (f j) (get a j)) (grows.are_new limits (sym keeps.limit) (sym keeps.last_version) i h)

none-more : {U : Type 0} (passed : U → Bool) (i : U) → IsTrue (passed i) ↔ (IsTrue (passed i) ⊎ In i [])
none-more passed i = (λ h. inl h, λ h. elim h [ inl p ↦ p | inr k ↦ absurd k ])

module _ {D A K B S X L : Type 0} (s : ContextState D A K B S X L) (sound : IsSound s) (t : Records D A K B S X L) (together : HoldTogether t) where
  -- nothing was made, and so many ids were skipped
  module _ (same : forest_in t ≡ forest_of s) (ops blocks regions : ℕ) (skips : SkipsUpTo s.records t ops blocks regions) where
    abbrev pub skipped : ContextState D A K B S X L
    skipped = record s { records = t }

    pub skipped-sound : IsSound skipped
    skipped-sound = record {
      linked = together.linked;
      nested = together.nested;
      own = together.own;
      formed = subst (λ f. WellFormed f (length s.types)) (sym same) sound.formed;
      counted = record {
        values = λ d m h. sound.counted.values d m (subst (λ f. In m (numbers_of f d)) same h);
        uses = λ o m h. sound.counted.uses o m (subst (λ f. In m (use_numbers_of f o)) same h);
        value_limit = sound.counted.value_limit;
        use_limit = sound.counted.use_limit;
        limits = sound.counted.limits;
        op_slots = keeps-grown s.limits s.records.ops t.ops skips.ops.skipped sound.counted.op_slots skips.ops.grows;
        block_slots = keeps-grown s.limits s.records.blocks t.blocks skips.blocks.skipped sound.counted.block_slots skips.blocks.grows;
        region_slots = keeps-grown s.limits s.records.regions t.regions skips.regions.skipped sound.counted.region_slots skips.regions.grows;
        aux_slots = sound.counted.aux_slots;
      };
    }

    pub skipped-skips : (numbers uses : ℕ) → SkipsAtMost (bare s) (bare skipped) (record { ops = ops; blocks = blocks; regions = regions; numbers = numbers; uses = uses })
    skipped-skips numbers uses = record {
      forest = same;
      store = refl;
      beside = refl;
      limits = refl;
      skipped = record { ops = skips.ops.skipped; blocks = skips.blocks.skipped; regions = skips.regions.skipped; numbers = []; uses = [] };
      within = record { ops = skips.ops.few; blocks = skips.blocks.few; regions = skips.regions.few; numbers = omega arith; uses = omega arith };
      were_new = record {
        ops = new-meant (λ _. op_record) s.limits s.records.ops t.ops skips.ops.skipped sound.counted.op_slots skips.ops.grows;
        blocks = new-meant (λ b. block_record (ops_in (tree_of s.records) b)) s.limits s.records.blocks t.blocks skips.blocks.skipped sound.counted.block_slots skips.blocks.grows;
        regions = new-meant (λ g _. blocks_in (tree_of s.records) g) s.limits s.records.regions t.regions skips.regions.skipped sound.counted.region_slots skips.regions.grows;
        numbers = λ m h. absurd h;
        uses = λ m h. absurd h;
      };
      passed = record {
        ops = skips.ops.grows.passed;
        blocks = skips.blocks.grows.passed;
        regions = skips.regions.grows.passed;
        numbers = λ i. none-more (λ n. nat_lt n s.next_value) i;
        uses = λ i. none-more (λ n. nat_lt n s.next_use) i;
      };
    }

  -- these ids and the next numbers were handed out
  module _ (ops blocks regions : List ArenaIndex) (extends : Extends s.records t ops blocks regions) (values uses : ℕ)
      (values_fit : s.next_value + values ≤ s.limits.values) (uses_fit : s.next_use + uses ≤ s.limits.uses) where
    abbrev pub made : ContextState D A K B S X L
    made = record { records = t; types = s.types; next_value = s.next_value + values; next_use = s.next_use + uses; side = s.side; limits = s.limits }

    abbrev pub made_ids : Fresh context_ids
    made_ids = record { ops = ops; blocks = blocks; regions = regions; numbers = range_with_len s.next_value values; uses = range_with_len s.next_use uses }

    pub made-sound : WellFormed (forest_in t) (length s.types)
        → ((d : Definer context_ids) (m : ℕ) → In m (numbers_of (forest_in t) d) → In m (range_with_len s.next_value values) ⊎ In m (numbers_of (forest_of s) d))
        → ((o : ArenaIndex) (m : ℕ) → In m (use_numbers_of (forest_in t) o) → In m (range_with_len s.next_use uses) ⊎ In m (use_numbers_of (forest_of s) o))
        → IsSound made
    made-sound formed numbers_case uses_case = record {
      linked = together.linked;
      nested = together.nested;
      own = together.own;
      formed = formed;
      counted = record {
        values = λ d m h. elim (numbers_case d m h) [ inl k ↦ (In-range s.next_value values m k).1 | inr k ↦ (let old = sound.counted.values d m k in omega (arith, old)) ];
        uses = λ o m h. elim (uses_case o m h) [ inl k ↦ (In-range s.next_use uses m k).1 | inr k ↦ (let old = sound.counted.uses o m k in omega (arith, old)) ];
        value_limit = values_fit;
        use_limit = uses_fit;
        limits = sound.counted.limits;
        op_slots = keeps-grown s.limits s.records.ops t.ops ops sound.counted.op_slots extends.ops;
        block_slots = keeps-grown s.limits s.records.blocks t.blocks blocks sound.counted.block_slots extends.blocks;
        region_slots = keeps-grown s.limits s.records.regions t.regions regions sound.counted.region_slots extends.regions;
        aux_slots = sound.counted.aux_slots;
      };
    }

    pub made-hands-out : HandsOut (bare s) (bare made) (record { ops = length ops; blocks = length blocks; regions = length regions; numbers = values; uses = uses }) made_ids
    made-hands-out = record {
      enough = λ i. record { ops = length ops; blocks = length blocks; regions = length regions; numbers = length-range_with_len s.next_value values i; uses = length-range_with_len s.next_use uses i };
      distinct = record { ops = extends.ops.distinct; blocks = extends.blocks.distinct; regions = extends.regions.distinct; numbers = range-distinct s.next_value values; uses = range-distinct s.next_use uses };
      are_new = record {
        ops = new-meant (λ _. op_record) s.limits s.records.ops t.ops ops sound.counted.op_slots extends.ops;
        blocks = new-meant (λ b. block_record (ops_in (tree_of s.records) b)) s.limits s.records.blocks t.blocks blocks sound.counted.block_slots extends.blocks;
        regions = new-meant (λ g _. blocks_in (tree_of s.records) g) s.limits s.records.regions t.regions regions sound.counted.region_slots extends.regions;
        numbers = λ m h. new-range s.limits.values s.next_value values m values_fit h;
        uses = λ m h. new-range s.limits.uses s.next_use uses m uses_fit h;
      };
      store = refl;
      beside = refl;
      passed = record {
        ops = extends.ops.passed;
        blocks = extends.blocks.passed;
        regions = extends.regions.passed;
        numbers = λ i. passed-range s.next_value values i;
        uses = λ i. passed-range s.next_use uses i;
      };
      limits = refl;
    }

-- nothing was skipped
pub skips-nothing : {W : Dialect} (s : Session W) (n : Counts) → SkipsAtMost s s n
skips-nothing s n = record {
  forest = refl;
  store = refl;
  beside = refl;
  limits = refl;
  skipped = record { ops = []; blocks = []; regions = []; numbers = []; uses = [] };
  within = record { ops = omega arith; blocks = omega arith; regions = omega arith; numbers = omega arith; uses = omega arith };
  were_new = record { ops = λ i h. absurd h; blocks = λ i h. absurd h; regions = λ i h. absurd h; numbers = λ i h. absurd h; uses = λ i h. absurd h };
  passed = record {
    ops = λ i. none-more s.passed.ops i;
    blocks = λ i. none-more s.passed.blocks i;
    regions = λ i. none-more s.passed.regions i;
    numbers = λ i. none-more s.passed.numbers i;
    uses = λ i. none-more s.passed.uses i;
  };
}
