use Rattle.std.proofs.Common.{◌≡◌, ◌+◌, ◌<◌, ◌≤◌, List, [], ◌∷◌, ◌++◌, length, true, false, not, is_ok, IfOk, refl, sym, ap, subst, ◌∙◌, inl, arith}
use Rattle.ir_model.specs.declared.ids.ArenaIndex.{ArenaIndex}
use Rattle.ir_model.specs.Changes.{add_region}
use Rattle.ir_base_arenas.specs.Arena.{Arena}
use Rattle.ir_core_records.specs.Growth.{Grows, SkipsIds}
use Rattle.ir_core_records.specs.Meaning.{forest_in}
use Rattle.ir_core_context.specs.Creation.{IsGiven}
use Rattle.ir_core_context.proofs.Answers.{at_err, at_ok, ok_value}
use Rattle.ir_core_context.proofs.GivenRecords.{dead-region, live-op, made-live, still-live}
use Rattle.ir_core_context.proofs.Giving.{given-next, given-nothing}
use Rattle.ir_core_context.proofs.Growths.{Grows-ids, Grows-join, Grows-nil, Grows-none, Skips-join, Skips-nil, Skips-of}
use Rattle.ir_core_context.proofs.creation.add_regions.Goals as goal

pub loop-made-init : goal.loop-made-init
loop-made-init g c = record {
  together = c.requires.together;
  live = c.requires.live;
  given = ([], given-nothing (forest_in c.args.records.now) c.args.op (live-op c.args.records.now c.args.op c.requires.live) c.requires.bare, record { ops = Grows-none c.args.records.now.ops; blocks = Grows-none c.args.records.now.blocks; regions = Grows-none c.args.records.now.regions });
  left = omega arith;
}

pub add_region-requires-clause-nested : goal.add_region-requires-clause-nested
add_region-requires-clause-nested g c = c.loop-made.invariant.together.nested

pub add_region-requires-clause-live : goal.add_region-requires-clause-live
add_region-requires-clause-live g c = c.loop-made.invariant.live

pub add_region-requires-clause-room : goal.add_region-requires-clause-room
add_region-requires-clause-room g c = let left = c.loop-made.invariant.left in let more = c.loop-made-test.true in let enough = c.requires.room in omega arith

pub remove_regions-requires-clause-together : goal.remove_regions-requires-clause-together
remove_regions-requires-clause-together g c =
    let e = c.add_region.ensures in
    let i = c.loop-made.invariant in
    record { linked = e.linked i.together.linked; nested = e.nested; own = e.own i.together.own }

pub remove_regions-requires-clause-live : goal.remove_regions-requires-clause-live
remove_regions-requires-clause-live g c = (c.add_region.ensures.op_ids.live c.args.op).1 c.loop-made.invariant.live

pub remove_regions-requires-clause-given : goal.remove_regions-requires-clause-given
remove_regions-requires-clause-given g c =
    let denied : is_ok c.add_region.result ≡ false = c.is_err.ensures.negation ∙ ap not c.if-is_err.true in
    let same : forest_in c.add_region.new.records ≡ forest_in c.loop-made.records = at_err c.add_region.result _ denied c.add_region.ensures.same in
    let w = c.loop-made.invariant.given in
    (forest_in c.args.records.now, w.0, subst (IsGiven (forest_in c.args.records.now) c.args.op w.0 c.loop-made.made) (sym same) w.1)

pub returns-then-is_err-clause-same : goal.returns-then-is_err-clause-same
returns-then-is_err-clause-same g c =
    let denied : is_ok c.add_region.result ≡ false = c.is_err.ensures.negation ∙ ap not c.if-is_err.true in
    let same : forest_in c.add_region.new.records ≡ forest_in c.loop-made.records = at_err c.add_region.result _ denied c.add_region.ensures.same in
    let w = c.loop-made.invariant.given in
    c.remove_regions.ensures.forest (forest_in c.args.records.now) w.0 (subst (IsGiven (forest_in c.args.records.now) c.args.op w.0 c.loop-made.made) (sym same) w.1)

pub returns-then-is_err-clause-skipped : goal.returns-then-is_err-clause-skipped
returns-then-is_err-clause-skipped g c =
    let denied : is_ok c.add_region.result ≡ false = c.is_err.ensures.negation ∙ ap not c.if-is_err.true in
    let first = c.args.records.now in
    let now = c.loop-made.records in
    let more = c.add_region.new.records in
    let last = c.remove_regions.new.records in
    let e = c.add_region.ensures in
    let w = c.loop-made.invariant.given in
    let after = c.remove_regions.ensures.passed in
    let skipped : SkipsIds now.regions more.regions 1 = at_err c.add_region.result _ denied e.skipped in
    let test = c.loop-made-test.true in
    record {
      ops = Skips-of first.ops last.ops [] 0 (Grows-nil first.ops more.ops last.ops [] (Grows-ids first.ops now.ops more.ops [] w.2.ops e.op_ids) after.ops) (omega arith);
      blocks = Skips-of first.blocks last.blocks [] 0 (Grows-nil first.blocks more.blocks last.blocks [] (subst (λ (a : Arena _). Grows first.blocks a []) (sym e.blocks) w.2.blocks) after.blocks) (omega arith);
      regions = Skips-nil first.regions more.regions last.regions c.args.count
          (Skips-join first.regions now.regions more.regions w.0 1 c.args.count w.2.regions (still-live first now c.args.op w.0 c.loop-made.made w.1) (made-live first now c.args.op w.0 c.loop-made.made w.1) skipped (omega (arith, w.1.number, test)))
          after.regions;
    }

pub loop-made-preserved : goal.loop-made-preserved
loop-made-preserved g c =
    let done : is_ok c.add_region.result ≡ true = c.is_err.ensures.negation ∙ ap not c.if-is_err.false in
    let first = c.args.records.now in
    let now = c.loop-made.records in
    let more = c.add_region.new.records in
    let e = c.add_region.ensures in
    let i = c.loop-made.invariant in
    let w = i.given in
    let r = ok_value c.add_region.result done in
    let grows : Grows now.regions more.regions (r.0 ∷ []) = subst (λ q. IfOk q (λ (x : ArenaIndex). Grows now.regions more.regions (x ∷ []))) r.1 e.grows in
    let forest : forest_in more ≡ add_region (forest_in now) c.args.op r.0 = subst (λ q. IfOk q (λ (x : ArenaIndex). forest_in more ≡ add_region (forest_in now) c.args.op x)) r.1 e.forest in
    let room = at_ok c.add_region.result _ done e.room in
    record {
      together = record { linked = e.linked i.together.linked; nested = e.nested; own = e.own i.together.own };
      live = (e.op_ids.live c.args.op).1 i.live;
      given = (
        w.0 ++ r.0 ∷ [],
        given-next (forest_in first) c.args.op w.0 c.loop-made.made (forest_in now) (forest_in more) r.0 w.1 (dead-region now r.0 (grows.dead r.0 (inl refl))) forest,
        record {
          ops = Grows-ids first.ops now.ops more.ops [] w.2.ops e.op_ids;
          blocks = subst (λ (a : Arena _). Grows first.blocks a []) (sym e.blocks) w.2.blocks;
          regions = Grows-join first.regions now.regions more.regions w.0 (r.0 ∷ []) w.2.regions (still-live first now c.args.op w.0 c.loop-made.made w.1) (made-live first now c.args.op w.0 c.loop-made.made w.1) grows;
        },
      );
      left = omega (arith, room, i.left);
    }

pub returns-clause-together : goal.returns-clause-together
returns-clause-together g c = c.loop-made.invariant.together

pub returns-clause-live : goal.returns-clause-live
returns-clause-live g c = c.loop-made.invariant.live

pub returns-clause-given : goal.returns-clause-given
returns-clause-given g c =
    let w = c.loop-made.invariant.given in
    let end : c.loop-made.made ≡ c.args.count = let over = c.loop-made-test.false in let within = c.loop-made.auto.made-end in omega arith in
    (w.0, subst (λ n. IsGiven (forest_in c.args.records.now) c.args.op w.0 n (forest_in c.loop-made.records)) end w.1, w.2)
