use Rattle.std.proofs.Common.{rules, ◌≡◌, ◌++◌, ◌∷◌, [], reverse, sym, ap}
use Rattle.ir_text_names.specs.Rows.{top, row_regions, regions_behind}
use Rattle.ir_text_names.proofs.Scopes.{scopes_more, scopes_done}
use Rattle.ir_text_names.proofs.rows.regions.Goals as goal

pub loop-at-init : goal.loop-at-init
loop-at-init c =
    let empty : reverse c.new-around.result.items ≡ [] = search rules in
    record {
      told = search rules;
      innermost = sym (ap top empty);
    }

pub loop-at-preserved : goal.loop-at-preserved
loop-at-preserved c =
    let l = c.loop-at in
    let pushed : c.push.new.self.items ≡ l.regions.items ++ l.innermost ∷ [] = search rules in
    record {
      told = scopes_more regions_behind c.args.rows.now l.regions.items c.push.new.self.items (reverse l.around.items) (reverse c.nest.new.around.items) l.at l.innermost (row_regions c.args.rows.now) c.loop-at-test.true pushed l.invariant.innermost c.in_ok-innermost.ensures.around l.invariant.told;
      innermost = c.in_ok-innermost.ensures.innermost;
    }

pub returns : goal.returns
returns c =
    let l = c.loop-at in
    scopes_done regions_behind c.args.rows.now l.regions.items (reverse l.around.items) l.at (row_regions c.args.rows.now) c.loop-at-test.false l.invariant.told
