-- What is made wasn't there before, and leaves what was.
use Rattle.std.proofs.Common.{◌≡◌, ◌≤◌, ◌+◌, ℕ, Bool, Err, inl, inr, refl, sym, subst, arith, IsTrue, Option, List, map, take, drop, length}
use Rattle.std.specs.List.{zip}
use Rattle.ir_model.specs.declared.ids.ArenaIndex.{ArenaIndex}
use Rattle.ir_model.specs.declared.ids.Limits.{Limits}
use Rattle.ir_model.specs.ContextIds.{context_ids}
use Rattle.ir_model.specs.Forest.{Dialect, Forest, Text, Value, a_block, a_region, an_op}
use Rattle.ir_model.specs.Nesting.{In, IsLive}
use Rattle.ir_model.specs.Changes.{definition, operand, successor}
use Rattle.ir_model.specs.Ids.{Counts}
use Rattle.ir_model.specs.Sessions.{IsNewId, Session, live_block, live_op, live_region}
use Rattle.ir_core_context.specs.Calls.{LiveWasMade, MakesBlock, MakesOperation, SkipsAtMost}
use Rattle.ir_checked_core.specs.Answers.{OnRefused, OnUnmet}
use Rattle.ir_checked_core.specs.declared.error.CheckedErr.{CheckedErr}
use Rattle.ir_checked_core.specs.declared.error.CheckedErr.TheVariants.{Core, Unmet}
use Rattle.generic_text.specs.Left.{IsNew, LeavesAll, StandsApart}
use Rattle.generic_text.proofs.Apart.{apart-new-block, apart-new-op}
use Rattle.generic_text.proofs.Left.{leaves-new-block, leaves-new-op, was_not}

-- what may be handed out wasn't handed out yet
not_passed : (limits : Limits) (passed : ArenaIndex → Bool) (live : ArenaIndex → Type 0) (i : ArenaIndex) → IsNewId limits passed live i → IsTrue (passed i) → ⊥
not_passed limits passed live i new gone = elim new.3 [
  | inl first ↦ first.1 i gone refl
  | inr later ↦ (let most : i.version ≤ later.0.version = later.5 i gone refl in let least : i.version ≡ later.0.version + 2 = later.2 in omega arith)
]

module _ {W : Dialect} (unknown : W.Loc) (old new : Session W) (live : LiveWasMade old) where
  module _ (b : ArenaIndex) (label : Option Text) (types : List ℕ) (made : MakesBlock unknown old new b label types) where
    -- the block wasn't live
    pub dead_block : IsNew old.state.forest (a_block b)
    dead_block h = not_passed old.limits old.passed.blocks (live_block old.state) b (made.handed.are_new.blocks b (subst (In b) (sym made.named) (inl refl))) (live.blocks b h)

    pub made_block : (first : Forest context_ids W) → LeavesAll first old.state.forest → LeavesAll first new.state.forest × IsNew first (a_block b)
    made_block first left = (
      leaves-new-block first old.state.forest left new.state.forest b unknown label (map definition (zip made.fresh.numbers types)) dead_block made.forest,
      was_not first old.state.forest left (a_block b) dead_block,
    )

    pub block_apart : (first : Forest context_ids W) → StandsApart first old.state.forest → StandsApart first new.state.forest
    block_apart first apart = apart-new-block first old.state.forest apart new.state.forest b unknown label (map definition (zip made.fresh.numbers types)) dead_block made.forest

  module _ (o : ArenaIndex) (kind : ℕ) (types : List ℕ) (operands : List (Value context_ids)) (successors : List ArenaIndex) (regions : ℕ) (made : MakesOperation unknown old new o kind types operands successors regions) where
    -- the operation wasn't live
    pub dead_op : IsNew old.state.forest (an_op o)
    dead_op h = not_passed old.limits old.passed.ops (live_op old.state) o (made.handed.are_new.ops o (subst (In o) (sym made.named) (inl refl))) (live.ops o h)

    -- nor were its regions
    dead_regions : (r : ArenaIndex) → In r made.fresh.regions → IsLive old.state.forest (a_region r) → ⊥
    dead_regions r at h = not_passed old.limits old.passed.regions (live_region old.state) r (made.handed.are_new.regions r at) (live.regions r h)

    pub made_op : (first : Forest context_ids W) → LeavesAll first old.state.forest → LeavesAll first new.state.forest
    made_op first left =
        leaves-new-op first old.state.forest left new.state.forest o unknown kind (map definition (zip made.fresh.numbers types))
        (map operand (zip (take (length operands) made.fresh.uses) operands)) (map successor (zip (drop (length operands) made.fresh.uses) successors)) made.fresh.regions dead_op dead_regions made.forest

    pub op_apart : (first : Forest context_ids W) → StandsApart first old.state.forest → StandsApart first new.state.forest
    op_apart first apart =
        apart-new-op first old.state.forest apart new.state.forest o unknown kind (map definition (zip made.fresh.numbers types))
        (map operand (zip (take (length operands) made.fresh.uses) operands)) (map successor (zip (drop (length operands) made.fresh.uses) successors)) made.fresh.regions dead_op dead_regions made.forest

-- where an operation wasn't made, the forest is the same, whether the call was refused or a condition doesn't hold
pub unmade : {W : Dialect} (old new : Session W) (most : Counts) (Same : Type 0) (e : CheckedErr) → OnRefused {T = Unit {0}} (Err e) (SkipsAtMost old new most) → OnUnmet {T = Unit {0}} (Err e) Same → (Same → new.state.forest ≡ old.state.forest) → new.state.forest ≡ old.state.forest
unmade old new most Same (Core e) refused unmet so = refused.forest
unmade old new most Same (Unmet u) refused unmet so = so unmet
