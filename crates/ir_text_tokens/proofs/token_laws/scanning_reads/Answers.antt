use Rattle.ir_text_tokens.proofs.NextTokens.{scan_reads}
use Rattle.ir_text_tokens.proofs.token_laws.scanning_reads.Goals as goal

pub returns : goal.returns
returns c = scan_reads
