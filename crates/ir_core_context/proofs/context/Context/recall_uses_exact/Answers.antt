use Rattle.std.proofs.Common.{sym}
use Rattle.ir_core_context.proofs.ExactUses.{uses-exact, block-uses-exact}
use Rattle.ir_core_context.proofs.context.Context.recall_uses_exact.Goals as goal

pub returns : goal.returns
returns g c =
    rw (sym c.self.view_is) (record {
      values = λ v live. uses-exact (record { records = c.self.inside.records; types = c.self.inside.types; next_value = c.self.inside.next_value; next_use = c.self.inside.next_use; side = c.self.inside.side; limits = c.self.inside.limits }) c.self.invariant.linked v;
      blocks = λ b live. block-uses-exact (record { records = c.self.inside.records; types = c.self.inside.types; next_value = c.self.inside.next_value; next_use = c.self.inside.next_use; side = c.self.inside.side; limits = c.self.inside.limits }) c.self.invariant.linked b;
    })
