use Rattle.std.proofs.Common.{◌≡◌, ℕ, Option, Some, ap, sym, subst, ◌∙◌}
use Rattle.ir_text_pieces.specs.declared.names.Name.{Name}
use Rattle.ir_text_pieces.specs.Names.{name_for_value}
use Rattle.ir_text_pieces.specs.Pieces.{PutsOperand}
use Rattle.ir_text_pieces.proofs.Growing.{two_pieces}
use Rattle.ir_text_pieces.proofs.writer.TreeWriter.put_operand.Goals as goal

pub returns-in_ok-put_index-clause-piece : goal.returns-in_ok-put_index-clause-piece
returns-in_ok-put_index-clause-piece c = λ h.
    let x = name_for_value c.args.self.now.names c.args.value in
    let e : x.index ≡ Some c.in-Some.index = ap (λ (n : Name). n.index) (sym c.in_ok-name.ensures.name) ∙ c.in-Some.is in
    subst (λ (o : Option ℕ). PutsOperand x o c.args.self.now.description c.put_index.new.self.description) (sym e) (two_pieces _ _ _ _ c.args.self.now.description c.put_value.new.self.description c.put_index.new.self.description c.put_index.ensures.front (c.in_ok-name.ensures.piece h) (c.in_ok-put_index.ensures.piece (c.put_value.ensures.stand h)))
