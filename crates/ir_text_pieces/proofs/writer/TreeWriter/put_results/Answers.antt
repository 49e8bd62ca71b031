use Rattle.ir_text_pieces.proofs.Growing.{two_pieces}
use Rattle.ir_text_pieces.proofs.writer.TreeWriter.put_results.Goals as goal

pub returns-in_ok-put_count-clause-name_and_count : goal.returns-in_ok-put_count-clause-name_and_count
returns-in_ok-put_count-clause-name_and_count c = λ h several. two_pieces _ _ _ _ c.args.self.now.description c.put_value.new.self.description c.put_count.new.self.description c.put_count.ensures.front (c.in_ok-put_value.ensures.piece h) (c.in_ok-put_count.ensures.piece (c.put_value.ensures.stand h))
