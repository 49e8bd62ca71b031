-- What calls that make and place operations and blocks leave, one after the other.
use Rattle.std.proofs.Common.{◌≡◌, ◌<◌, ℕ, inl, refl, sym, ap, subst, ◌∙◌, arith, None, Some, Option, List, [], ◌∷◌, ◌++◌, length, map, take, drop}
use Rattle.std.specs.Prelude.{All, Err, IfOk, Ok, OnOk, Result, slice_get}
use Rattle.std.specs.List.{zip}
use Rattle.std.specs.Option.{option_map}
use Rattle.std.proofs.lemmas.List.Elements.{All-cons, All-nil}
use Rattle.ir_model.specs.declared.ids.ArenaIndex.{ArenaIndex}
use Rattle.ir_model.specs.ContextIds.{context_ids}
use Rattle.ir_model.specs.Forest.{BlockRecord, Definition, Dialect, Entity, Forest, OpRecord, Operand, Successor, Text, Value, a_block, a_region, an_op, of_block}
use Rattle.ir_model.specs.Nesting.{In, Inside, IsLive, Nested, below, definitions_of, list_of, regions_of}
use Rattle.ir_model.specs.Changes.{definition, on_block, on_ops, on_region, operand, successor}
use Rattle.ir_model.specs.Edits.{MayGoInto, StoredType}
use Rattle.ir_core.specs.Records.Meaning.{closed}
use Rattle.ir_model.specs.Sessions.{Session, live_block, live_op, live_region}
use Rattle.ir_core.specs.Context.Calls.{HasArguments, HasCounts, KeepsAll, LiveWasMade, MakesBlock, MakesOperation, NoEntity}
use Rattle.ir_core.specs.Context.State.{ContextState, types_of}
use Rattle.ir_model.proofs.Back.{slice_get-in}
use Rattle.ir_model.proofs.Nests.{In-map}
use Rattle.bench.specs.Settled.{AllInside, GrowsIn}
use Rattle.bench.proofs.Made.{block_goes, not_passed, op_goes}
use Rattle.bench.proofs.Counted.{same_arguments}
use Rattle.bench.proofs.Grown.{block_grows, first_op, op_grows}

module _ {W : Dialect} (unknown : W.Loc) (old new : Session W) (live : LiveWasMade old) where
  module _ (o : ArenaIndex) (kind : ℕ) (types : List ℕ) (operands : List (Value context_ids)) (successors : List ArenaIndex) (regions : ℕ) (made : MakesOperation unknown old new o kind types operands successors regions) where
    abbrev results_made : List (Definition context_ids W)
    results_made = map definition (zip made.fresh.numbers types)

    abbrev operands_made : List (Operand context_ids)
    operands_made = map operand (zip (take (length operands) made.fresh.uses) operands)

    abbrev successors_made : List (Successor context_ids)
    successors_made = map successor (zip (drop (length operands) made.fresh.uses) successors)

    -- the record that it is given
    abbrev pub new_op_record : OpRecord context_ids W
    new_op_record = record { kind = kind; results = results_made; operands = operands_made; successors = successors_made; regions = made.fresh.regions; attributes = []; loc = unknown }

    pub new_op_dead : IsLive old.state.forest (an_op o) → ⊥
    new_op_dead h = not_passed old.limits old.passed.ops (live_op old.state) o (made.handed.are_new.ops o (subst (In o) (sym made.named) (inl refl))) (live.ops o h)

    regions_dead : (r : ArenaIndex) → In r made.fresh.regions → IsLive old.state.forest (a_region r) → ⊥
    regions_dead r at h = not_passed old.limits old.passed.regions (live_region old.state) r (made.handed.are_new.regions r at) (live.regions r h)

    -- a new operation may go into any block
    pub new_op_goes : Nested old.state.forest → (b : ArenaIndex) → MayGoInto new.state.forest (an_op o) (a_block b)
    new_op_goes nested b = op_goes old.state.forest nested o unknown kind results_made operands_made successors_made made.fresh.regions new_op_dead new.state.forest b made.forest

    -- and is inside it then
    pub new_op_grows : (g : Forest context_ids W) (b : ArenaIndex) → IsLive old.state.forest (a_block b) → g ≡ on_block new.state.forest b (on_ops (λ os. os ++ o ∷ [])) → GrowsIn old.state.forest g (a_block b) × Inside g (a_block b) (an_op o)
    new_op_grows g b there placed =
        op_grows old.state.forest o unknown kind results_made operands_made successors_made made.fresh.regions new_op_dead regions_dead b there g
        (placed ∙ ap (λ (f : Forest context_ids W). on_block f b (on_ops (λ os. os ++ o ∷ []))) made.forest)

    -- the arguments of blocks stay
    pub new_op_arguments : (g : Forest context_ids W) (b : ArenaIndex) → g ≡ on_block new.state.forest b (on_ops (λ os. os ++ o ∷ [])) → (c : ArenaIndex) → definitions_of g (of_block c) ≡ definitions_of old.state.forest (of_block c)
    new_op_arguments g b placed c = same_arguments new.state.forest g b (λ os. os ++ o ∷ []) placed c ∙ ap (λ (f : Forest context_ids W). definitions_of f (of_block c)) made.forest

    -- where there was none, it is the only one
    pub new_op_alone : NoEntity old.state.forest → AllInside new.state.forest o
    new_op_alone none = first_op old.state.forest o unknown kind results_made operands_made successors_made made.fresh.regions new.state.forest made.forest none.ops

  module _ (b : ArenaIndex) (label : Option Text) (types : List ℕ) (made : MakesBlock unknown old new b label types) where
    new_block_dead : IsLive old.state.forest (a_block b) → ⊥
    new_block_dead h = not_passed old.limits old.passed.blocks (live_block old.state) b (made.handed.are_new.blocks b (subst (In b) (sym made.named) (inl refl))) (live.blocks b h)

    -- a new block may go into any region
    pub new_block_goes : Nested old.state.forest → (r : ArenaIndex) → MayGoInto new.state.forest (a_block b) (a_region r)
    new_block_goes nested r = block_goes old.state.forest nested b unknown label (map definition (zip made.fresh.numbers types)) new_block_dead new.state.forest r made.forest

    -- and is inside it then
    pub new_block_grows : (g : Forest context_ids W) (r : ArenaIndex) → IsLive old.state.forest (a_region r) → g ≡ on_region new.state.forest r (λ bs. bs ++ b ∷ []) → GrowsIn old.state.forest g (a_region r) × Inside g (a_region r) (a_block b)
    new_block_grows g r there placed =
        block_grows old.state.forest b unknown label (map definition (zip made.fresh.numbers types)) new_block_dead r there g
        (placed ∙ ap (λ (f : Forest context_ids W). on_region f r (λ bs. bs ++ b ∷ [])) made.forest)

-- what an operation has is told by its record
pub same_counts : {W : Dialect} (f g : Forest context_ids W) (o : ArenaIndex) (results operands successors regions : ℕ) → g.ops ≡ f.ops → HasCounts f o results operands successors regions → HasCounts g o results operands successors regions
same_counts {W} f g o results operands successors regions same counts = record {
  result_count = ap (λ (m : ArenaIndex → Option (OpRecord context_ids W)). option_map (λ (r : OpRecord context_ids W). length r.results) (m o)) same ∙ counts.result_count;
  operand_count = ap (λ (m : ArenaIndex → Option (OpRecord context_ids W)). option_map (λ (r : OpRecord context_ids W). length r.operands) (m o)) same ∙ counts.operand_count;
  successor_count = ap (λ (m : ArenaIndex → Option (OpRecord context_ids W)). option_map (λ (r : OpRecord context_ids W). length r.successors) (m o)) same ∙ counts.successor_count;
  region_count = ap (λ (m : ArenaIndex → Option (OpRecord context_ids W)). option_map (λ (r : OpRecord context_ids W). length r.regions) (m o)) same ∙ counts.region_count;
}

-- lists of blocks and of regions are no part of it
pub placed_counts : {W : Dialect} (f g : Forest context_ids W) (o b : ArenaIndex) (change : BlockRecord context_ids W → BlockRecord context_ids W) (results operands successors regions : ℕ)
    → g ≡ on_block f b change → HasCounts f o results operands successors regions → HasCounts g o results operands successors regions
placed_counts {W} f g o b change results operands successors regions placed counts = same_counts f g o results operands successors regions (ap (λ (h : Forest context_ids W). h.ops) placed) counts

pub placed_arguments : {W : Dialect} (f g : Forest context_ids W) (b r : ArenaIndex) (change : List ArenaIndex → List ArenaIndex) (arguments : ℕ) → g ≡ on_region f r change → HasArguments f b arguments → HasArguments g b arguments
placed_arguments {W} f g b r change arguments placed counts = ap (λ (h : Forest context_ids W). option_map (λ (r : BlockRecord context_ids W). length r.arguments) (h.blocks b)) placed ∙ counts

-- what holds of two things holds of the list of both
pub both_hold : {T : Type 0} (x y : T) (P : T → Type 0) → P x → P y → All P (x ∷ y ∷ [])
both_hold x y P p q = All-cons P x (y ∷ []) p (All-cons P y [] q (All-nil P))

-- two facts of a last call whose answer is returned
pub if_ok_both : {T E : Type 0} (r : Result T E) (A : Type 0) (P Q : T → Type 0) → ((x : T) → A → P x → Q x) → OnOk r A → IfOk r P → IfOk r Q
if_ok_both (Ok x) A P Q h a p = h x a p
if_ok_both (Err e) A P Q h a p = p

-- what an operation's record tells of its regions
counted : {W : Dialect} (m : Option (OpRecord context_ids W)) (n : ℕ) → option_map (λ (r : OpRecord context_ids W). length r.regions) m ≡ Some n → length (list_of (λ (r : OpRecord context_ids W). r.regions) m) ≡ n
counted None n e = absurd cc
counted (Some r) n e = let k : length r.regions ≡ n = cc in k

pub has_region : {W : Dialect} (f : Forest context_ids W) (o : ArenaIndex) (results operands successors : ℕ) → HasCounts f o results operands successors 1 → 0 < length (regions_of f o)
has_region f o results operands successors counts = let k = counted (f.ops o) 1 counts.region_count in omega arith

-- a region of an operation that is inside something is inside it too
pub region_inside : {W : Dialect} (f : Forest context_ids W) (e : Entity context_ids) (o r : ArenaIndex) (k : ℕ) (q : OpRecord context_ids W) → f.ops o ≡ Some q → slice_get q.regions k ≡ Some r → Inside f e (an_op o) → Inside f e (a_region r)
region_inside {W} f e o r k q found at inside = below (In-map a_region r (regions_of f o) (subst (λ (m : Option (OpRecord context_ids W)). In r (list_of (λ (r : OpRecord context_ids W). r.regions) m)) (sym found) (slice_get-in q.regions k r at))) inside

module _ {D A K B S X L : Type 0} where
  pub keeps_itself : (s : ContextState D A K B S X L) → KeepsAll s s
  keeps_itself s = record { stay_live = λ d h. h; entities_stay_live = λ e h. h; types_stay = refl }

  pub keeps_on : (s t u : ContextState D A K B S X L) → KeepsAll s t → KeepsAll t u → KeepsAll s u
  keeps_on s t u a b = record {
    stay_live = λ d h. b.stay_live d (a.stay_live d h);
    entities_stay_live = λ e h. b.entities_stay_live e (a.entities_stay_live e h);
    types_stay = b.types_stay ∙ a.types_stay;
  }

  -- a known type stays known
  pub known_on : (s t : ContextState D A K B S X L) (place : ℕ) → KeepsAll s t → place < length (types_of s) → place < length (types_of t)
  known_on s t place a h = subst (λ (ts : List (StoredType (closed A K B S X L))). place < length ts) (sym a.types_stay) h
