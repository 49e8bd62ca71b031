-- An operation that a context made of handles: what it has handed out, and what stays live.
use Rattle.std.proofs.Common.{◌≡◌, ℕ, ◌+◌, ◌<◌, ◌≤◌, List, [], ◌∷◌, length, map, take, drop, All, None, Some, is_some, inl, refl, sym, ap, subst, ◌∙◌, arith}
use Rattle.std.specs.List.{zip}
use Rattle.std.specs.Option.{option_map}
use Rattle.std.proofs.lemmas.List.{length-drop, length-map, length-take-le}
use Rattle.std.proofs.lemmas.List.Elements.{All-map}
use Rattle.std.proofs.lemmas.Simd.{map-map}
use Rattle.std.proofs.lemmas.Slice.Zip.{length-zip}
use Rattle.ir_model.specs.declared.ids.ArenaIndex.{ArenaIndex}
use Rattle.ir_model.specs.ContextIds.{context_ids}
use Rattle.ir_model.specs.Ids.{Counts}
use Rattle.ir_model.specs.Forest.{Definition as PlainDefinition, Dialect, OpRecord, Operand, Successor, Value, a_value, an_op, the_block}
use Rattle.ir_model.specs.Nesting.{In, IsLive, IsLiveNamed}
use Rattle.ir_model.specs.Changes.{definition, new_op, operand, successor}
use Rattle.ir_model.specs.Sessions.{Session}
use Rattle.ir_base_dialects.specs.declared.type_handle.TypeHandle.{TypeHandle}
use Rattle.ir_core_records.specs.declared.record.BlockIndex.{BlockIndex}
use Rattle.ir_core_records.specs.declared.record.Definition.{Definition}
use Rattle.ir_core_records.specs.declared.record.ValueIndex.{ValueIndex}
use Rattle.ir_core_records.specs.declared.records.Records.{Records}
use Rattle.ir_core_records.specs.Lists.{definitions_from}
use Rattle.ir_core_records.specs.Meaning.{closed, definition_of, forest_in, operands_from, successors_from, value_of}
use Rattle.ir_core_context.specs.Calls.{HasAll, HasCounts, KeepsAll, MakesOperation, op_needs}
use Rattle.ir_core_context.specs.Creation.{Extends, HoldTogether}
use Rattle.ir_core_context.specs.Sound.{IsSound}
use Rattle.ir_core_context.specs.State.{ContextState, bare, forest_of, types_of}
use Rattle.ir_core_context.proofs.GivenRecords.{dead-op, dead-region}
use Rattle.ir_core_context.proofs.Made.{op-made, op-sound}
use Rattle.ir_core_context.proofs.NewOperations.{new-entities-live, new-found, new-names-live}

-- what was live before is so after it
module _ {D A K B S X L : Type 0} (old new : ContextState D A K B S X L) (types : types_of new ≡ types_of old) (loc : L) (u : ArenaIndex) (kind : ℕ) (results : List (PlainDefinition context_ids (closed A K B S X L)))
    (operands : List (Operand context_ids)) (successors : List (Successor context_ids)) (n : ℕ)
    (made : (rs : List ArenaIndex) × (length rs ≡ n) × (forest_of new ≡ new_op (forest_of old) u loc kind results operands successors rs) × Extends old.records new.records (u ∷ []) [] rs) where
  dead_op : (forest_of old).ops u ≡ None
  dead_op = dead-op old.records u (made.3.ops.dead u (inl refl))

  pub created-keeps : KeepsAll old new
  created-keeps = record {
    stay_live = new-names-live (forest_of old) (forest_of new) u loc kind results operands successors made.0 made.2 dead_op;
    entities_stay_live = new-entities-live (forest_of old) (forest_of new) u loc kind results operands successors made.0 made.2 dead_op;
    types_stay = types;
  }

module _ {D A K B S X L V P : Type 0} (s : ContextState D A K B S X L) (sound : IsSound s) (t : Records D A K B S X L) (together : HoldTogether t)
    (unknown : L) (u : ArenaIndex) (kind : ℕ) (ts : List TypeHandle) (results : List Definition) (numbered : results ≡ definitions_from s.next_value ts)
    (index : V → ValueIndex) (target : P → ArenaIndex) (vs : List V) (bs : List P) (n : ℕ)
    (known : All (λ (y : TypeHandle). y.place < length (types_of s)) ts)
    (values : All (λ (v : V). IsLiveNamed (forest_of s) (a_value (value_of (index v)))) vs)
    (blocks : All (λ (b : P). IsLiveNamed (forest_of s) (the_block (target b))) bs)
    (room : HasAll s (op_needs (length ts) (length vs + length bs) n))
    (made : (rs : List ArenaIndex) × (length rs ≡ n)
    × (forest_in t ≡ new_op (forest_of s) u unknown kind (map definition_of results) (operands_from s.next_use (map index vs)) (successors_from (s.next_use + length vs) (map (λ (b : P). record { index = target b }) bs)) rs)
    × Extends s.records t (u ∷ []) [] rs) where
  abbrev rs : List ArenaIndex
  rs = made.0

  abbrev named : List ValueIndex
  named = map index vs

  abbrev targets : List BlockIndex
  targets = map (λ (b : P). record { index = target b }) bs

  many : length named ≡ length vs
  many = length-map vs index

  all : length named + length targets ≡ length vs + length bs
  all = let blocks_many : length targets ≡ length bs = length-map bs (λ (b : P). record { index = target b }) in omega (arith, many, blocks_many)

  dead : (forest_of s).ops u ≡ None
  dead = dead_op s (record s { records = t }) refl unknown u kind (map definition_of results) (operands_from s.next_use named) (successors_from (s.next_use + length vs) targets) n made

  dead_regions : (r : ArenaIndex) → In r rs → (forest_of s).regions r ≡ None
  dead_regions r h = dead-region s.records r (made.3.regions.dead r h)

  forest : forest_in t ≡ new_op (forest_of s) u unknown kind (map definition_of (definitions_from s.next_value ts)) (operands_from s.next_use named) (successors_from (s.next_use + length named) targets) rs
  forest =
      made.2
      ∙ (λ i. new_op (forest_of s) u unknown kind (map definition_of (numbered i)) (operands_from s.next_use named) (successors_from (s.next_use + sym many i) targets) rs)

  known_types : All (λ (y : TypeHandle). y.place < length s.types) ts
  known_types = λ k d within. (let below = known k d within in let same : length (types_of s) ≡ length s.types = length-map s.types _ in omega (arith, below, same))

  live_values : All (λ (v : ValueIndex). IsLiveNamed (forest_of s) (a_value (value_of v))) named
  live_values = All-map (λ (v : ValueIndex). IsLiveNamed (forest_of s) (a_value (value_of v))) index vs values

  live_blocks : All (λ (b : BlockIndex). IsLiveNamed (forest_of s) (the_block b.index)) targets
  live_blocks = All-map (λ (b : BlockIndex). IsLiveNamed (forest_of s) (the_block b.index)) (λ (b : P). record { index = target b }) bs blocks

  uses_fit : s.next_use + (length named + length targets) ≤ s.limits.uses
  uses_fit = omega (arith, all, room.uses)

  -- the context after it
  abbrev after : ℕ → ContextState D A K B S X L
  after uses = record { records = t; types = s.types; next_value = s.next_value + length ts; next_use = s.next_use + uses; side = s.side; limits = s.limits }

  pub created-sound : IsSound (after (length vs + length bs))
  created-sound = subst (λ k. IsSound (after k)) all (op-sound s sound t together unknown u kind ts named targets rs made.3 forest dead dead_regions known_types live_values live_blocks room.values uses_fit)

  pub created-made : MakesOperation unknown (bare s) (bare (after (length vs + length bs))) u kind (map (λ (y : TypeHandle). y.place) ts) (map (λ (v : V). value_of (index v)) vs) (map target bs) n
  created-made =
      let first = op-made s sound t together unknown u kind ts named targets rs made.3 forest dead dead_regions known_types live_values live_blocks room.values uses_fit in
      let operands : map value_of named ≡ map (λ (v : V). value_of (index v)) vs = map-map value_of index vs in
      let successors : map (λ (b : BlockIndex). b.index) targets ≡ map target bs = map-map (λ (b : BlockIndex). b.index) (λ (b : P). record { index = target b }) bs in
      subst (λ (xs : List (Value context_ids)). MakesOperation unknown (bare s) (bare (after (length vs + length bs))) u kind (map (λ (y : TypeHandle). y.place) ts) xs (map target bs) n) operands
      (subst (λ (ys : List ArenaIndex). MakesOperation unknown (bare s) (bare (after (length vs + length bs))) u kind (map (λ (y : TypeHandle). y.place) ts) (map value_of named) ys n) successors
      (subst (λ k. MakesOperation unknown (bare s) (bare (after (length vs + length bs))) u kind (map (λ (y : TypeHandle). y.place) ts) (map value_of named) (map (λ (b : BlockIndex). b.index) targets) k) made.1
      (subst (λ k. MakesOperation unknown (bare s) (bare (after k)) u kind (map (λ (y : TypeHandle). y.place) ts) (map value_of named) (map (λ (b : BlockIndex). b.index) targets) (length rs)) all first)))

-- what was made is live, and has as much as was asked for
module _ {W : Dialect} {unknown : W.Loc} {old new : Session W} {id : ArenaIndex} {kind : ℕ} {types : List ℕ} {operands : List (Value context_ids)} {successors : List ArenaIndex} {regions : ℕ}
    (m : MakesOperation unknown old new id kind types operands successors regions) where
  abbrev operand_uses : List ℕ
  operand_uses = take (length operands) m.fresh.uses

  abbrev successor_uses : List ℕ
  successor_uses = drop (length operands) m.fresh.uses

  abbrev the_record : OpRecord context_ids W
  the_record = record {
    kind = kind;
    results = map definition (zip m.fresh.numbers types);
    operands = map operand (zip operand_uses operands);
    successors = map successor (zip successor_uses successors);
    regions = m.fresh.regions;
    attributes = [];
    loc = unknown;
  }

  found : new.state.forest.ops id ≡ Some the_record
  found = new-found old.state.forest new.state.forest id unknown kind the_record.results the_record.operands the_record.successors m.fresh.regions m.forest

  pub created-live : IsLive new.state.forest (an_op id)
  created-live = ap is_some found

  uses : length m.fresh.uses ≡ length operands + length successors
  uses = ap (λ (c : Counts). c.uses) m.handed.enough

  paired : {U V C : Type 0} (g : U × V → C) (xs : List U) (ys : List V) → length xs ≡ length ys → length (map g (zip xs ys)) ≡ length ys
  paired g xs ys e = length-map (zip xs ys) g ∙ omega (arith, length-zip xs ys, e)

  pub created-counts : HasCounts new.state.forest id (length types) (length operands) (length successors) regions
  created-counts = record {
    result_count = ap (option_map (λ (r : OpRecord context_ids W). length r.results)) found ∙ ap Some (paired definition m.fresh.numbers types (ap (λ (c : Counts). c.numbers) m.handed.enough));
    operand_count = ap (option_map (λ (r : OpRecord context_ids W). length r.operands)) found ∙ ap Some (paired operand operand_uses operands (length-take-le (length operands) m.fresh.uses (omega (arith, uses))));
    successor_count = ap (option_map (λ (r : OpRecord context_ids W). length r.successors)) found ∙ ap Some (paired successor successor_uses successors (omega (arith, length-drop (length operands) m.fresh.uses, uses)));
    region_count = ap (option_map (λ (r : OpRecord context_ids W). length r.regions)) found ∙ ap Some (ap (λ (c : Counts). c.regions) m.handed.enough);
  }
