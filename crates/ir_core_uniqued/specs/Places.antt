-- Where saved values lie.
use Rattle.std.specs.Prelude.{◌≡◌}
use Rattle.ir_model.specs.Forest.{Dialect}
use Rattle.ir_model.specs.Kinds.{Kinds}
use Rattle.ir_model.specs.Saved.{saved_place, with_saved}
use Rattle.ir_model.specs.Sessions.{Beside}

-- the second value lies where the first does, once the first is saved
abbrev pub ShareAPlace : {W : Dialect} → Kinds W → Beside W → W.Saved → W.Saved → Type 0
ShareAPlace K b v w = saved_place K b v ≡ saved_place K (with_saved K b v) w
