-- How many operations went: as many as were live, less those that are.
use mathlib.Core.Path.{◌≡◌, subst}
use Rattle.std.proofs.Common.{ℕ, ◌+◌, arith}
use Rattle.ir_model.specs.ContextIds.{context_ids}
use Rattle.ir_model.specs.Forest.{Dialect, Behaviour, Forest, Entity}
use Rattle.ir_model.specs.Nesting.{WellFormed}
use Rattle.ir_model.specs.Arenas.{Arena, arena_len}
use Rattle.ir_model_passes.specs.SweepInside.{SweepsInside, SweepsBlocks, NoneIsClosedInside}
use Rattle.ir_model_passes.specs.PassLaws.{BlocksSweepInside, SweepInsideIsOne}
use Rattle.ir_model.proofs.LiveIds.{live_ids, ids_count}
use Rattle.ir_run_passes.proofs.LiveForests.{IsKeptIn, live_entities, lists_ops, lists_live}

module _ {W : Dialect} (steps : BlocksSweepInside W) (one : SweepInsideIsOne W) (B : Behaviour W) (f g : Forest context_ids W) (keys : ℕ) (root : Entity context_ids) (formed : WellFormed f keys)
    {O P R : Type 0} (a : Arena O) (b : Arena P) (c : Arena R) (ops : IsKeptIn f.ops a) (blocks : IsKeptIn f.blocks b) (regions : IsKeptIn f.regions c)
    (z : Arena O) (left : IsKeptIn g.ops z) (swept : SweepsBlocks B root f g) (none : NoneIsClosedInside B root g) where
  all_swept : (count : ℕ) × SweepsInside B f root g count
  all_swept = steps B f g keys root (live_entities a b c) formed (lists_live f a b c ops blocks regions) swept none

  pub so_many : (count : ℕ) × SweepsInside B f root g count × (arena_len a ≡ arena_len z + count)
  so_many =
      let s = all_swept in
      let more = (one B f g keys s.0 root formed s.1).so_many (live_ids a) (live_ids z) (lists_ops f a ops) (lists_ops g z left) in
      let before = ids_count a in
      let after = ids_count z in
      (s.0, s.1, omega (arith, more, before, after))

  pub is_counted : (n : ℕ) → arena_len a ≡ arena_len z + n → SweepsInside B f root g n
  is_counted n e =
      let s = so_many in
      let more = s.2 in
      let same : s.0 ≡ n = omega (arith, more, e) in
      subst (λ k. SweepsInside B f root g k) same s.1
