use Rattle.std.proofs.Common.{◌≡◌, [], suc, ◌-◌, sym, ap, subst, arith}
use Rattle.ir_base_arenas.specs.Arena.{Arena}
use Rattle.ir_core_records.specs.Growth.{Grows}
use Rattle.ir_core_records.specs.Meaning.{forest_in}
use Rattle.ir_core_context.specs.Creation.{IsGiven}
use Rattle.ir_core_context.proofs.Giving.{given-back, given-done, given-empty, given-last, given-once, given-some}
use Rattle.ir_core_context.proofs.Growths.{Grows-ids, Grows-none, Grows-then}
use Rattle.ir_core_context.proofs.creation.remove_regions.Goals as goal

pub loop-left-init : goal.loop-left-init
loop-left-init g c = record {
  together = c.requires.together;
  live = c.requires.live;
  given = λ f rs is. (rs, is);
  passed = record { ops = Grows-none c.args.records.now.ops; blocks = Grows-none c.args.records.now.blocks; regions = Grows-none c.args.records.now.regions };
}

pub remove_last_region-requires-clause-some : goal.remove_last_region-requires-clause-some
remove_last_region-requires-clause-some g c =
    let w = c.requires.given in
    let at = c.loop-left.invariant.given w.0 w.1 w.2 in
    let k : c.loop-left.left ≡ suc (c.loop-left.left - 1) = let some = c.loop-left-test.true in omega arith in
    given-some w.0 c.args.op at.0 (c.loop-left.left - 1) (forest_in c.loop-left.records) (subst (λ n. IsGiven w.0 c.args.op at.0 n (forest_in c.loop-left.records)) k at.1)

pub remove_last_region-requires-clause-once : goal.remove_last_region-requires-clause-once
remove_last_region-requires-clause-once g c =
    let w = c.requires.given in
    let at = c.loop-left.invariant.given w.0 w.1 w.2 in
    given-once w.0 c.args.op at.0 c.loop-left.left (forest_in c.loop-left.records) at.1

pub remove_last_region-requires-clause-empty : goal.remove_last_region-requires-clause-empty
remove_last_region-requires-clause-empty g c =
    let w = c.requires.given in
    let at = c.loop-left.invariant.given w.0 w.1 w.2 in
    given-empty w.0 c.args.op at.0 c.loop-left.left (forest_in c.loop-left.records) at.1

pub loop-left-preserved : goal.loop-left-preserved
loop-left-preserved g c =
    let e = c.remove_last_region.ensures in
    let i = c.loop-left.invariant in
    let w = c.requires.given in
    let k : c.loop-left.left ≡ suc (c.loop-left.left - 1) = let some = c.loop-left-test.true in omega arith in
    let at = i.given w.0 w.1 w.2 in
    let last = given-last w.0 c.args.op at.0 (c.loop-left.left - 1) (forest_in c.loop-left.records) (subst (λ n. IsGiven w.0 c.args.op at.0 n (forest_in c.loop-left.records)) k at.1) in
    let cleared = e.cleared last.0 last.1 last.2 in
    record {
      together = record { linked = e.linked i.together.linked; nested = e.nested; own = e.own i.together.own };
      live = (e.op_ids.live c.args.op).1 i.live;
      given = λ f rs is. (let here = i.given f rs is in given-back f c.args.op here.0 (c.loop-left.left - 1) (forest_in c.loop-left.records) (forest_in c.remove_last_region.new.records) (subst (λ n. IsGiven f c.args.op here.0 n (forest_in c.loop-left.records)) k here.1) e.forest);
      passed = record {
        ops = Grows-ids c.args.records.now.ops c.loop-left.records.ops c.remove_last_region.new.records.ops [] i.passed.ops e.op_ids;
        blocks = subst (λ (a : Arena _). Grows c.args.records.now.blocks a []) (sym e.blocks) i.passed.blocks;
        regions = Grows-then c.args.records.now.regions c.loop-left.records.regions c.remove_last_region.new.records.regions [] i.passed.regions cleared.passed cleared.limit cleared.last_version;
      };
    }

pub returns-clause-forest : goal.returns-clause-forest
returns-clause-forest g c = λ f rs is.
    let at = c.loop-left.invariant.given f rs is in
    let none : c.loop-left.left ≡ 0 = let over = c.loop-left-test.false in omega arith in
    given-done f c.args.op at.0 (forest_in c.loop-left.records) (subst (λ n. IsGiven f c.args.op at.0 n (forest_in c.loop-left.records)) none at.1)
