-- What the calls leave by which an operation of a chain is replaced.
use Rattle.std.proofs.Common.{◌≡◌, ◌≢◌, ◌<◌, ℕ, inl, inr, refl, sym, ap, subst, ◌∙◌, arith, None, Some, Option, List, [], ◌∷◌, length}
use Rattle.std.specs.Option.{option_map}
use Rattle.ir_model.specs.declared.ids.ArenaIndex.{ArenaIndex}
use Rattle.ir_model.specs.ContextIds.{context_ids, same_id}
use Rattle.ir_model.specs.Forest.{BlockRecord, Definer, Dialect, Forest, OpRecord, Value, a_block, a_value, an_op, of_op}
use Rattle.ir_model.specs.Nesting.{In, IsClosed, IsLive, IsLiveNamed, Nested, WellFormed, list_of, ops_of}
use Rattle.ir_model.specs.Changes.{Removes, in_blocks, put_after, redirect}
use Rattle.ir_model.specs.DefinitionLaws.{TakesUses}
use Rattle.ir_model.specs.Edits.{MayGoBeside}
use Rattle.ir_model.specs.Sessions.{Session}
use Rattle.ir_model.proofs.KeepsNew.{put_at}
use Rattle.ir_model.proofs.Nests.{In-map}
use Rattle.ir_model.proofs.TwoRuns.{id_tells}
use Rattle.ir_core.specs.Records.declared.record.Definer.TheVariants.{Op}
use Rattle.ir_core.specs.Records.declared.record.ValueIndex.{ValueIndex}
use Rattle.ir_core.specs.Records.Meaning.{definer_of, value_of}
use Rattle.ir_core.specs.Context.Calls.{HasCounts, LiveWasMade, MakesOperation}
use Rattle.bench.specs.Settled.{AreLinks, IsLink}
use Rattle.bench.proofs.Replaced.{HasShape, alone_now, closed, one_now, still_links, still_stands}
use Rattle.bench.proofs.Placing.{new_op_dead, new_op_goes, new_op_record}

-- what a record tells by counts
lengths : {W : Dialect} {X : Type 0} (of : OpRecord context_ids W → List X) (m : Option (OpRecord context_ids W)) (n : ℕ) → option_map (λ (r : OpRecord context_ids W). length (of r)) m ≡ Some n → length (list_of of m) ≡ n
lengths of None n e = absurd cc
lengths of (Some r) n e = let k : length (of r) ≡ n = cc in k

empty : {X : Type 0} (xs : List X) → length xs ≡ 0 → xs ≡ []
empty [] e = refl
empty (x ∷ xs) e = absurd (omega arith)

shape_told : {W : Dialect} (f : Forest context_ids W) (o : ArenaIndex) (successors : ℕ) → HasCounts f o 1 2 successors 0 → HasShape (f.ops o)
shape_told {W} f o successors counts = record {
  operands = lengths (λ (r : OpRecord context_ids W). r.operands) (f.ops o) 2 counts.operand_count;
  results = lengths (λ (r : OpRecord context_ids W). r.results) (f.ops o) 1 counts.result_count;
  regions = empty (list_of (λ (r : OpRecord context_ids W). r.regions) (f.ops o)) (lengths (λ (r : OpRecord context_ids W). r.regions) (f.ops o) 0 counts.region_count);
}

module _ {W : Dialect} (f : Forest context_ids W) (o : ArenaIndex) (q : OpRecord context_ids W) (found : f.ops o ≡ Some q) (link : IsLink f o) where
  pub link_operands : length q.operands ≡ 2
  link_operands = ap (λ (m : Option (OpRecord context_ids W)). length (list_of (λ (r : OpRecord context_ids W). r.operands) m)) (sym found) ∙ link.operands

  pub link_results : length q.results ≡ 1
  link_results = ap (λ (m : Option (OpRecord context_ids W)). length (list_of (λ (r : OpRecord context_ids W). r.results) m)) (sym found) ∙ link.results

-- an operation with one result, by its record
pub one_result : {W : Dialect} (f : Forest context_ids W) (o : ArenaIndex) (q : OpRecord context_ids W) (operands successors regions : ℕ) → f.ops o ≡ Some q → HasCounts f o 1 operands successors regions → 0 < length q.results
one_result {W} f o q operands successors regions found counts =
    let k = ap (λ (m : Option (OpRecord context_ids W)). length (list_of (λ (r : OpRecord context_ids W). r.results) m)) (sym found) ∙ lengths (λ (r : OpRecord context_ids W). r.results) (f.ops o) 1 counts.result_count in
    let one : length q.results ≡ 1 = k in
    omega arith

-- what a result says of its operation
pub defined_by : (v : ValueIndex) (o i : ArenaIndex) → v.definer ≡ Op o → o ≡ i → (value_of v).definer ≡ of_op i
defined_by v o i own same = ap definer_of own ∙ ap (λ (x : ArenaIndex). of_op x) same

-- what stands in a block is live
pub standing_live : {W : Dialect} (f : Forest context_ids W) → Nested f → (o b : ArenaIndex) → In o (ops_of f b) → IsLive f (an_op o)
standing_live f nested o b at = nested.live (an_op o) (a_block b) (In-map an_op o (ops_of f b) at)

module _ {W : Dialect} (unknown : W.Loc) (s t : Session W) (live : LiveWasMade s) (new : ArenaIndex) (kind : ℕ) (types : List ℕ) (operands : List (Value context_ids)) (successors : List ArenaIndex) (made : MakesOperation unknown s t new kind types operands successors 0) where
  list_same : (b : ArenaIndex) → ops_of t.state.forest b ≡ ops_of s.state.forest b
  list_same b = ap (λ (x : Forest context_ids W). ops_of x b) made.forest

  -- a new operation may go beside one that stands in a block
  pub new_op_beside : Nested s.state.forest → (old b : ArenaIndex) → In old (ops_of s.state.forest b) → MayGoBeside t.state.forest (an_op new) (an_op old)
  new_op_beside nested old b at =
      let goes = new_op_goes unknown s t live new kind types operands successors 0 made nested b in
      (goes.0, (a_block b, In-map an_op old (ops_of t.state.forest b) (subst (In old) (sym (list_same b)) at), goes.1))

  module _ (count : ℕ) (counts : HasCounts t.state.forest new 1 2 count 0) (h k : Forest context_ids W) (old : ArenaIndex) (ov nv : Value context_ids)
      (placed : h ≡ in_blocks t.state.forest (put_after same_id new old)) (named : k ≡ redirect h ov nv) (link : IsLink s.state.forest old) where
    others : (p : ArenaIndex) → p ≢ new → t.state.forest.ops p ≡ s.state.forest.ops p
    others p differ = elim (put_at same_id id_tells new (new_op_record unknown s t live new kind types operands successors 0 made) s.state.forest.ops p) [
      | inl e ↦ absurd (differ e.0)
      | inr e ↦ ap (λ (x : Forest context_ids W). x.ops p) made.forest ∙ e.1
    ]

    same_blocks : t.state.forest.blocks ≡ s.state.forest.blocks
    same_blocks = ap (λ (x : Forest context_ids W). x.blocks) made.forest

    -- nothing names what the old one defines
    pub old_closed : IsLive s.state.forest (an_op old) → ov.definer ≡ of_op old → nv.definer ≡ of_op new → (keys : ℕ) → WellFormed k keys → IsLiveNamed k (a_value ov) → (ov ≢ nv → TakesUses h k (a_value ov) (a_value nv)) → IsClosed k (an_op old)
    old_closed old_live own new_own keys formed still takes =
        closed k old (alone_now s.state.forest t.state.forest h k old new ov nv others same_blocks (shape_told t.state.forest new count counts) placed named link)
        keys formed ov own still (one_now s.state.forest t.state.forest h k old new ov nv others same_blocks (shape_told t.state.forest new count counts) placed named link)
        (takes differ).none
      where
        differ : ov ≢ nv
        differ e =
            let same : ◌≡◌ {A = Definer context_ids} (of_op old) (of_op new) = sym own ∙ ap (λ (v : Value context_ids). v.definer) e ∙ new_own in
            let one : old ≡ new = cc in
            new_op_dead unknown s t live new kind types operands successors 0 made (subst (λ z. IsLive s.state.forest (an_op z)) one old_live)

    module _ (m : Forest context_ids W) (gone : Removes k (an_op old) m) where
      pub others_stand : (b p : ArenaIndex) → p ≢ old → In p (ops_of s.state.forest b) → In p (ops_of m b)
      others_stand = still_stands s.state.forest t.state.forest h k old new ov nv others same_blocks (shape_told t.state.forest new count counts) placed named m link gone

      pub links_left : (b : ArenaIndex) → AreLinks s.state.forest b → AreLinks m b
      links_left = still_links s.state.forest t.state.forest h k old new ov nv others same_blocks (shape_told t.state.forest new count counts) placed named m link gone
