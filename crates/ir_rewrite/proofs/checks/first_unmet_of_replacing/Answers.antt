use Rattle.std.proofs.Common.{inr}
use Rattle.ir_rewrite.proofs.checks.first_unmet_of_replacing.Goals as goal

pub returns : goal.returns
returns g c =
    inr (
      c.is_live.ensures.0 c.if-not-is_live.false,
      inr (
        c.has_results.ensures.0 c.if-not-has_results.false,
        inr (
          c.are_live.ensures.0 c.if-not-are_live.false,
          inr (
            c.are_defined_outside.ensures.0 c.if-not-are_defined_outside.false,
            inr (c.are_regions_closed.ensures.0 c.if-not-are_regions_closed.false, tt),
          ),
        ),
      ),
    )
