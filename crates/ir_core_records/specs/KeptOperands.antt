-- How an operand and a use are kept in few bytes.
use Rattle.std.specs.Prelude.{ℕ, ◌+◌, ◌*◌, ◌/◌, ◌%◌, ◌^◌, ◌==◌, if◌then◌else◌}
use Rattle.ir_model.specs.declared.ids.ArenaIndex.{ArenaIndex}
use Rattle.ir_core_records.specs.declared.record.Definer.{Definer}
use Rattle.ir_core_records.specs.declared.record.Definer.TheVariants as definers
use Rattle.ir_core_records.specs.declared.record.UseIndex.{UseIndex}
use Rattle.ir_core_records.specs.declared.record.UsePlace.{UsePlace}
use Rattle.ir_core_records.specs.declared.record.ValueIndex.{ValueIndex}

-- an operation where the number is even, and a block where it is odd
abbrev pub kept_definer : ℕ → ArenaIndex → Definer
kept_definer rank index = if rank % 2 == 0 then definers.Op index else definers.Block index

-- the operand that is kept by these four numbers
abbrev pub unpacked : ℕ → ℕ → ArenaIndex → ℕ → UsePlace ValueIndex
unpacked number value index rank = record { number = number; names = record { definer = kept_definer rank index; number = value }; place = rank / 2 }

-- the use whose number is kept by its lower and its upper half
abbrev pub joined : ArenaIndex → ℕ → ℕ → UseIndex
joined user low high = record { user = user; number = low + high * 2 ^ 32 }
