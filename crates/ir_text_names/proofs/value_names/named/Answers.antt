use Rattle.std.proofs.Common.{length, subst}
use Rattle.ir_text_names.specs.Firsts.{IsFirst}
use Rattle.ir_text_names.specs.Values.{IsMissing}
use Rattle.ir_text_names.proofs.ValueFaults.{none_missing}
use Rattle.ir_text_names.proofs.value_names.named.Goals as goal

pub returns-in-None-clause-table : goal.returns-in-None-clause-table
returns-in-None-clause-table c =
    let rows = c.args.rows.now in
    let table = c.args.before.table in
    (c.requires.before.0, none_missing c.args.text.now rows table (subst (λ (o : _). IsFirst (IsMissing rows table) (length rows) o) c.in-None.is c.requires.missing) c.requires.before.1)

pub returns-in-None-clause-missing : goal.returns-in-None-clause-missing
returns-in-None-clause-missing c = let rows = c.args.rows.now in subst (λ (o : _). IsFirst (IsMissing rows c.args.before.table) (length rows) o) c.in-None.is c.requires.missing
