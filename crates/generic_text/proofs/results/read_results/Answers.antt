use Rattle.ir_text_described.specs.Written.{no_results}
use Rattle.generic_text.proofs.results.read_results.Goals as goal

pub loop-init : goal.loop-init
loop-init c = no_results
