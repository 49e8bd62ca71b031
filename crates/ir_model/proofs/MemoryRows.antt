-- Which edits may run out of memory at the start.
use mathlib.Core.Path.{refl}
use Rattle.std.proofs.Common.{inl, inr}
use Rattle.ir_model.specs.MemoryRows.{MemoryRows}
use Rattle.ir_model.proofs.EditStart.{here, out}

pub memory_rows : MemoryRows
memory_rows = record {
  grow = (tt, (tt, (tt, (tt, (tt, (tt, (tt, (tt, (tt, (tt, (tt, (tt, (tt, (tt, (λ e. cc, (λ e. cc, (here _ (here _ (here _ (λ h. elim h [ inl e ↦ absurd cc | inr k ↦ elim k [ ] ]))), tt)))))))))))))))));
  do_not_grow = (λ h. h, (λ h. h, (λ h. h, (λ h. h, (λ h. h, (λ h. h, (λ h. h, (λ h. h, (λ h. h, (λ h. h, (λ h. h, (λ h. h, (λ h. h, (λ h. h, (λ h. h, (λ h. h, (λ h. h, (λ h. h, (λ h. h, (λ h. h, (λ h. h, (λ h. h, tt))))))))))))))))))))));
  nothing_to_do = (λ differ. differ refl, (λ differ. differ refl, (λ moves. out _ (out _ (out _ moves)) (inr (inl refl)), tt)));
}
