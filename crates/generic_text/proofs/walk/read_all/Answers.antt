use Rattle.std.proofs.Common.{ap, reverse, subst, sym}
use Rattle.ir_text_described.specs.Written.{AreWritten, nothing}
use Rattle.generic_text.specs.Checks.{setting_of}
use Rattle.generic_text.proofs.Lists.{none_left, on_ok}
use Rattle.generic_text.proofs.walk.read_all.Goals as goal

pub returns-in_default : goal.returns-in_default
returns-in_default c =
    let s = setting_of c.args.check.now in
    let none = none_left c.loop.items.items c.pop.new.self.items _ c.in_default.ensures.items c.in_default.ensures.rest c.in_default.ensures.cases.0 in
    on_ok c.expect_end.result (λ end. c.loop.invariant (subst (λ xs. AreWritten s xs c.loop.at) (sym (ap reverse none)) (nothing end))) c.expect_end.ensures
