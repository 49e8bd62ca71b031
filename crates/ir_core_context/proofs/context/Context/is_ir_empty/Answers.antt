use Rattle.std.proofs.Common.{◌≡◌, ◌⊎◌, ◌<◌, true, false, sym, inl, inr, arith}
use Rattle.ir_base_arenas.specs.Arena.{arena_len}
use Rattle.ir_core_context.proofs.Emptiness.{some-entity, all-none}
use Rattle.ir_core_context.proofs.context.Context.is_ir_empty.Goals as goal
use Rattle.ir_core_context.proofs.context.Context.is_ir_empty.Goals.{then-len-gt0-via-then-len-gt0, then-len-gt0-via-else-len-gt0+then-len-gt0-2}

pub returns-then-len-gt0 : goal.returns-then-len-gt0
returns-then-len-gt0 g c =
    let i = c.self.inside in
    let some : (0 < arena_len i.records.ops) ⊎ (0 < arena_len i.records.blocks) =
    elim c.then-len-gt0.branch [ then-len-gt0-via-then-len-gt0 w ↦ inl (omega (arith, w.if-len-gt0.true, c.len.ensures)) | then-len-gt0-via-else-len-gt0+then-len-gt0-2 w ↦ inr (omega (arith, w.if-len-gt0-2.true, w.len-else-len-gt0.ensures)) ] in
    rw (sym c.self.view_is) (
      λ h. absurd (let e : true ≡ false = sym h in cc),
      λ n. absurd (some-entity (record { records = i.records; types = i.types; next_value = i.next_value; next_use = i.next_use; side = i.side; limits = i.limits }) some n),
    )

pub returns : goal.returns
returns g c =
    let i = c.self.inside in
    rw (sym c.self.view_is) (all-none (record { records = i.records; types = i.types; next_value = i.next_value; next_use = i.next_use; side = i.side; limits = i.limits }) (omega (arith, c.len.ensures, c.if-len-gt0.false)) (omega (arith, c.len-else-len-gt0.ensures, c.if-len-gt0-2.false)) c.is_empty.result c.is_empty.ensures)
