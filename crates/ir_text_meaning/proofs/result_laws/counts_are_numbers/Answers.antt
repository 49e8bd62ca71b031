use Rattle.ir_text_meaning.proofs.Results.{no_counts_meet}
use Rattle.ir_text_meaning.proofs.result_laws.counts_are_numbers.Goals as goal

pub returns : goal.returns
returns c = no_counts_meet
