use Rattle.std.proofs.Common.{refl, sym, ap, ◌∙◌, subst, ◌+◌, ◌<◌, ◌^◌, length, not, IfSome, is_some, arith}
use Rattle.ir_model.specs.Nesting.{In, ops_of}
use Rattle.ir_core_queries.specs.State.{bare, forest_of}
use Rattle.ir_run_passes.specs.Going.{CanGo, none_goes}
use Rattle.ir_run_passes.proofs.Ranks.{not_both}
use Rattle.ir_run_passes.proofs.Sequences.{goes-one, goes-formed, goes-live, goes-sweeps, goes-fewer, list_fewer, stay_listed, same_joined}
use Rattle.ir_run_passes.proofs.dead.sweep.Goals as goal
use Rattle.ir_core_records.specs.DialectAnswers.{behaviour_of}

pub loop-next-init : goal.loop-next-init
loop-next-init g c =
    let e = c.to_go_from-place.ensures in
    record {
      goes = none_goes;
      rest = record { store = refl; beside = refl; passed = refl; limits = refl };
      placed = e.listed;
      listed = e.listed;
      can_go = e.can_go;
      none = e.none;
    }

pub overflow_add-swept : goal.overflow_add-swept
overflow_add-swept g c =
    let B = behaviour_of g.D.Dialects g.D.TypeKey.PartialEq.eq in
    let b = c.args.block.index in
    let f = forest_of c.args.ctx.now in
    let now = forest_of c.loop-next.ctx in
    let next = forest_of c.erase.new.ctx in
    let o = c.in-Some.op.index in
    let h : In o (ops_of now b) = subst (λ m. IfSome m (λ p. In p.index (ops_of now b))) c.in-Some.is c.loop-next.invariant.listed in
    let w = goes-formed B b f _ c.recall_well_formed.ensures now c.loop-next.swept c.loop-next.invariant.goes in
    let less = list_fewer b now next _ w o h c.erase.ensures.forest in
    let most = goes-fewer B b f _ c.recall_well_formed.ensures now c.loop-next.swept c.loop-next.invariant.goes in
    let fits : length (ops_of f b) < 2 ^ 64 = c.recall_lists_short.ensures in
    omega (arith, less, most, fits)

pub freed-next-requires : goal.freed-next-requires
freed-next-requires g c =
    let B = behaviour_of g.D.Dialects g.D.TypeKey.PartialEq.eq in
    let b = c.args.block.index in
    let f = forest_of c.args.ctx.now in
    let now = forest_of c.loop-next.ctx in
    let next = forest_of c.erase.new.ctx in
    let o = c.in-Some.op.index in
    let h : In o (ops_of now b) = subst (λ m. IfSome m (λ p. In p.index (ops_of now b))) c.in-Some.is c.loop-next.invariant.listed in
    let w = goes-formed B b f _ c.recall_well_formed.ensures now c.loop-next.swept c.loop-next.invariant.goes in
    let d = c.last_definer-definer in
    stay_listed b now next _ w o h c.erase.ensures.forest (λ p. p.index) d.result d.ensures.listed d.ensures.other

pub to_go_from-place-requires-then-is_none-clause-live : goal.to_go_from-place-requires-then-is_none-clause-live
to_go_from-place-requires-then-is_none-clause-live g c =
    let B = behaviour_of g.D.Dialects g.D.TypeKey.PartialEq.eq in
    let b = c.args.block.index in
    let f = forest_of c.args.ctx.now in
    let now = forest_of c.loop-next.ctx in
    let next = forest_of c.erase.new.ctx in
    let o = c.in-Some.op.index in
    let h : In o (ops_of now b) = subst (λ m. IfSome m (λ p. In p.index (ops_of now b))) c.in-Some.is c.loop-next.invariant.listed in
    let can : CanGo B now o = subst (λ m. IfSome m (λ p. CanGo B now p.index)) c.in-Some.is c.loop-next.invariant.can_go in
    let once = c.erase.ensures.once in
    let goes = goes-one B b f now next c.loop-next.swept (c.loop-next.swept + 1) once.0 o refl c.loop-next.invariant.goes h can once.1 c.erase.ensures.forest in
    goes-live B b f _ c.recall_well_formed.ensures next (c.loop-next.swept + 1) goes c.requires

pub to_go_from-place-requires-then-is_none-clause-listed : goal.to_go_from-place-requires-then-is_none-clause-listed
to_go_from-place-requires-then-is_none-clause-listed g c =
    let B = behaviour_of g.D.Dialects g.D.TypeKey.PartialEq.eq in
    let b = c.args.block.index in
    let f = forest_of c.args.ctx.now in
    let now = forest_of c.loop-next.ctx in
    let next = forest_of c.erase.new.ctx in
    let o = c.in-Some.op.index in
    let h : In o (ops_of now b) = subst (λ m. IfSome m (λ p. In p.index (ops_of now b))) c.in-Some.is c.loop-next.invariant.listed in
    let w = goes-formed B b f _ c.recall_well_formed.ensures now c.loop-next.swept c.loop-next.invariant.goes in
    let d = c.place_beside-place in
    stay_listed b now next _ w o h c.erase.ensures.forest (λ p. p.index) d.result d.ensures.listed d.ensures.other

pub loop-next-smaller-then-is_none : goal.loop-next-smaller-then-is_none
loop-next-smaller-then-is_none g c =
    let B = behaviour_of g.D.Dialects g.D.TypeKey.PartialEq.eq in
    let b = c.args.block.index in
    let f = forest_of c.args.ctx.now in
    let now = forest_of c.loop-next.ctx in
    let next = forest_of c.erase.new.ctx in
    let o = c.in-Some.op.index in
    let h : In o (ops_of now b) = subst (λ m. IfSome m (λ p. In p.index (ops_of now b))) c.in-Some.is c.loop-next.invariant.listed in
    let w = goes-formed B b f _ c.recall_well_formed.ensures now c.loop-next.swept c.loop-next.invariant.goes in
    let less = list_fewer b now next _ w o h c.erase.ensures.forest in
    let smaller : length (ops_of next b) < length (ops_of now b) = omega (arith, less) in
    smaller

pub loop-next-smaller : goal.loop-next-smaller
loop-next-smaller g c =
    let B = behaviour_of g.D.Dialects g.D.TypeKey.PartialEq.eq in
    let b = c.args.block.index in
    let f = forest_of c.args.ctx.now in
    let now = forest_of c.loop-next.ctx in
    let next = forest_of c.erase.new.ctx in
    let o = c.in-Some.op.index in
    let h : In o (ops_of now b) = subst (λ m. IfSome m (λ p. In p.index (ops_of now b))) c.in-Some.is c.loop-next.invariant.listed in
    let w = goes-formed B b f _ c.recall_well_formed.ensures now c.loop-next.swept c.loop-next.invariant.goes in
    let less = list_fewer b now next _ w o h c.erase.ensures.forest in
    let smaller : length (ops_of next b) < length (ops_of now b) = omega (arith, less) in
    smaller

pub loop-next-preserved-then-is_none : goal.loop-next-preserved-then-is_none
loop-next-preserved-then-is_none g c =
    let B = behaviour_of g.D.Dialects g.D.TypeKey.PartialEq.eq in
    let b = c.args.block.index in
    let f = forest_of c.args.ctx.now in
    let now = forest_of c.loop-next.ctx in
    let next = forest_of c.erase.new.ctx in
    let o = c.in-Some.op.index in
    let h : In o (ops_of now b) = subst (λ m. IfSome m (λ p. In p.index (ops_of now b))) c.in-Some.is c.loop-next.invariant.listed in
    let can : CanGo B now o = subst (λ m. IfSome m (λ p. CanGo B now p.index)) c.in-Some.is c.loop-next.invariant.can_go in
    let once = c.erase.ensures.once in
    let goes = goes-one B b f now next c.loop-next.swept (c.loop-next.swept + 1) once.0 o refl c.loop-next.invariant.goes h can once.1 c.erase.ensures.forest in
    let e = c.to_go_from-place-then-is_none.ensures in
    record {
      goes = goes;
      rest = same_joined (bare c.args.ctx.now) (bare c.loop-next.ctx) (bare c.erase.new.ctx) c.loop-next.invariant.rest c.erase.ensures.rest;
      placed = e.listed;
      listed = e.listed;
      can_go = e.can_go;
      none = e.none;
    }

pub loop-next-preserved : goal.loop-next-preserved
loop-next-preserved g c =
    let B = behaviour_of g.D.Dialects g.D.TypeKey.PartialEq.eq in
    let b = c.args.block.index in
    let f = forest_of c.args.ctx.now in
    let now = forest_of c.loop-next.ctx in
    let next = forest_of c.erase.new.ctx in
    let o = c.in-Some.op.index in
    let h : In o (ops_of now b) = subst (λ m. IfSome m (λ p. In p.index (ops_of now b))) c.in-Some.is c.loop-next.invariant.listed in
    let w = goes-formed B b f _ c.recall_well_formed.ensures now c.loop-next.swept c.loop-next.invariant.goes in
    let can : CanGo B now o = subst (λ m. IfSome m (λ p. CanGo B now p.index)) c.in-Some.is c.loop-next.invariant.can_go in
    let once = c.erase.ensures.once in
    let goes = goes-one B b f now next c.loop-next.swept (c.loop-next.swept + 1) once.0 o refl c.loop-next.invariant.goes h can once.1 c.erase.ensures.forest in
    let d = c.place_beside-place in
    record {
      goes = goes;
      rest = same_joined (bare c.args.ctx.now) (bare c.loop-next.ctx) (bare c.erase.new.ctx) c.loop-next.invariant.rest c.erase.ensures.rest;
      placed = stay_listed b now next _ w o h c.erase.ensures.forest (λ p. p.index) d.result d.ensures.listed d.ensures.other;
      listed = c.freed-next.ensures.listed;
      can_go = c.freed-next.ensures.can_go;
      none = λ e. absurd (not_both (sym e ∙ c.is_none.ensures ∙ ap not c.if-is_none.false));
    }

pub returns-clause-dead_are_gone : goal.returns-clause-dead_are_gone
returns-clause-dead_are_gone g c =
    let B = behaviour_of g.D.Dialects g.D.TypeKey.PartialEq.eq in
    goes-sweeps B c.args.block.index (forest_of c.args.ctx.now) _ c.recall_well_formed.ensures (forest_of c.loop-next.ctx) c.loop-next.swept c.loop-next.invariant.goes (c.loop-next.invariant.none (ap is_some c.in_default.is))

pub returns-clause-live : goal.returns-clause-live
returns-clause-live g c =
    let B = behaviour_of g.D.Dialects g.D.TypeKey.PartialEq.eq in
    goes-live B c.args.block.index (forest_of c.args.ctx.now) _ c.recall_well_formed.ensures (forest_of c.loop-next.ctx) c.loop-next.swept c.loop-next.invariant.goes c.requires
