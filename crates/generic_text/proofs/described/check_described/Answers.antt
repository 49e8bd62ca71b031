use Rattle.generic_text.specs.Tables.{meanings_of}
use Rattle.generic_text.proofs.Lists.{on_ok}
use Rattle.generic_text.proofs.Steps.{described_by}
use Rattle.generic_text.proofs.described.check_described.Goals as goal

pub returns : goal.returns
returns c = record {
  described = on_ok c.compare.result (λ written. record { meanings = meanings_of c.in_ok-table.table; written = described_by _ c.args.operations.now (λ p. p.index) written }) c.compare.ensures;
}
