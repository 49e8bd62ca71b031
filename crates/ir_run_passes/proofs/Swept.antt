-- What a sweep of one block inside a root leaves of the root.
use mathlib.Core.Path.{◌≡◌, sym, ap, ◌∙◌}
use Rattle.std.proofs.Common.{ℕ, false, true, inl, inr, is_some}
use Rattle.std.specs.Prelude.{IsTrue}
use Rattle.ir_model.specs.Ids.{Ids}
use Rattle.ir_model.specs.Forest.{Dialect, Behaviour, Entity, an_op, a_block, Forest}
use Rattle.ir_model.specs.Nesting.{In, itself, Inside, IsLive, IsClosed, Nested, ops_of, children}
use Rattle.ir_model.specs.BlockGraph.{implements, pure_interface}
use Rattle.ir_model.specs.Dead.{Dead, dead, inside_it, Sweeps}
use Rattle.ir_model.proofs.Nests.{In-map, Within-trans}
use Rattle.ir_model_passes.proofs.Going.{Out, op_case, inside_still, live_out}
use Rattle.ir_model_passes.proofs.SweptInside.{block_takes}

module _ {N : Ids} {W : Dialect} (B : Behaviour W) (f g : Forest N W) (b : N.Block) (count : ℕ) (nested : Nested f) (s : Sweeps B f b g count) where
  dead_here : (o : N.Op) → Dead B f b o → In o (ops_of f b)
  dead_here o (dead here is_pure goes) = here

  -- the block, and what it stands in, are not swept
  around_out : (x : Entity N) → Inside f x (a_block b) → Out f (Dead B f b) g (block_takes B f b g count s) x
  around_out x i t = nested.no_cycle (an_op t.0) (a_block b) (In-map an_op t.0 (ops_of f b) (dead_here t.0 t.1)) (Within-trans (children f) (children f) (an_op t.0) x (a_block b) t.2 i)

  -- what the block stands in is live still
  pub around_live : (x : Entity N) → Inside f x (a_block b) → IsLive f x → IsLive g x
  around_live x i live = live_out f (Dead B f b) g (block_takes B f b g count s) x (around_out x i) live

  -- and it stands in that still
  pub block_still : (x : Entity N) → Inside f x (a_block b) → Inside g x (a_block b)
  block_still x i = inside_still f (Dead B f b) g (block_takes B f b g count s) x (a_block b) i (around_out (a_block b) itself)

  -- each operation that is there was there
  pub op_was : (o : N.Op) → IsLive g (an_op o) → IsLive f (an_op o)
  op_was o live = elim (op_case f (Dead B f b) g (block_takes B f b g count s) o) [
    | inl gone ↦ absurd (let k : false ≡ true = sym (ap is_some gone) ∙ live in cc)
    | inr kept ↦ sym (ap is_some kept.1) ∙ live
  ]

  -- a closed pure operation of the block is gone
  pub closed_gone : (o : N.Op) → In o (ops_of f b) → IsTrue (implements B f pure_interface o) → IsClosed f (an_op o) → IsLive g (an_op o) → ⊥
  closed_gone o here is_pure closed live =
      let gone = s.ops_gone o (o, dead here is_pure (λ user d h i. inside_it (closed user d h i)), itself) in
      let k : false ≡ true = sym (ap is_some gone) ∙ live in
      cc
