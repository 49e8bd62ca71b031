-- Whether an operation can go, as the code tests it.
use mathlib.Core.Path.{◌≡◌, sym, ap, ◌∙◌}
use Rattle.std.proofs.Common.{ℕ, Bool, true, false, Some}
use Rattle.std.specs.Prelude.{◌↔◌, IsTrue}
use Rattle.std.specs.Option.{option_map_or}
use Rattle.ir_model.specs.declared.ids.ArenaIndex.{ArenaIndex}
use Rattle.ir_model.specs.ContextIds.{context_ids}
use Rattle.ir_model.specs.Forest.{Dialect, Behaviour, Forest, OpRecord, an_op}
use Rattle.ir_model.specs.Nesting.{IsClosed}
use Rattle.ir_model.specs.BlockGraph.{pure_interface}
use Rattle.ir_run_passes.specs.Going.{CanGo}

module _ {W : Dialect} (B : Behaviour W) (f : Forest context_ids W) (o : ArenaIndex) (r : OpRecord context_ids W) (found : f.ops o ≡ Some r) (kind : ℕ) (is : kind ≡ r.kind) (answer : Bool) (asked : answer ≡ B.op_impls kind pure_interface) where
  implements_is : option_map_or (λ (q : OpRecord context_ids W). B.op_impls q.kind pure_interface) (f.ops o) false ≡ answer
  implements_is = ap (λ m. option_map_or (λ (q : OpRecord context_ids W). B.op_impls q.kind pure_interface) m false) found ∙ ap (λ k. B.op_impls k pure_interface) (sym is) ∙ sym asked

  pub goes_where : answer ≡ true → (closed : Bool) → IsTrue closed ↔ IsClosed f (an_op o) → IsTrue closed ↔ CanGo B f o
  goes_where so closed told = (λ t. record { is_pure = implements_is ∙ so; closed = told.0 t }, λ can. told.1 can.closed)

  pub stays_where : answer ≡ false → CanGo B f o → false ≡ true
  stays_where not_so can = sym (implements_is ∙ not_so) ∙ can.is_pure
