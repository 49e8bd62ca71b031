-- A context whose saved or auxiliary data has changed.
use borrow.Follows.Closed.{read_of}
use Rattle.std.proofs.Common.{◌≡◌, Result, Ok, Err, refl}
use Rattle.std.specs.Prelude.{IfOk}
use Rattle.ir_model.specs.declared.ids.Limits.{Limits}
use Rattle.ir_core_data.specs.declared.side_data.SideData.{SideData}
use Rattle.ir_core_context.specs.Calls.{SameButSide}
use Rattle.ir_core_context.specs.Sound.{IsSound, Keeps}
use Rattle.ir_core_context.specs.State.{ContextState, bare}

module _ {D A K B S X L : Type 0} (s : ContextState D A K B S X L) (side : SideData D A K B S X L) where
  -- it is sound
  pub aside-sound : IsSound s → Keeps s.limits side.aux → IsSound (record s { side = side })
  aside-sound sound keeps = record {
    linked = sound.linked;
    nested = sound.nested;
    own = sound.own;
    formed = sound.formed;
    counted = record {
      values = sound.counted.values;
      uses = sound.counted.uses;
      value_limit = sound.counted.value_limit;
      use_limit = sound.counted.use_limit;
      limits = sound.counted.limits;
      op_slots = sound.counted.op_slots;
      block_slots = sound.counted.block_slots;
      region_slots = sound.counted.region_slots;
      aux_slots = keeps;
    };
  }

  -- all else is as before
  pub aside-rest : SameButSide (bare s) (bare (record s { side = side }))
  aside-rest = record { forest = refl; store = refl; passed = refl; limits = refl }

-- what holds under all limits that are kept to holds under these
pub under : {A E : Type 0} (r : Result A E) (P : Limits → A → Type 0) (Q : Limits → Type 0) (limits : Limits) → Q limits → IfOk r (λ a. (l : Limits) → Q l → P l a) → IfOk r (P limits)
under (Ok a) P Q limits q h = h limits q
under (Err e) P Q limits q h = tt

-- two readings that agree at each write and without one
pub lent-both : {D E : Type 0} (n : _) (F G : E → D) (v w : D) → ((x : E) → F x ≡ G x) → v ≡ w → read_of n F v ≡ read_of n G w
lent-both n F G v w each none = λ t. read_of n (λ x. each x t) (none t)
