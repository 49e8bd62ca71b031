use Rattle.ir_text_described.proofs.Correspondents.{one_correspondent, other_correspondent}
use Rattle.ir_text_described.proofs.alike_laws.correspondents_are_one.Goals as goal

pub returns : goal.returns
returns g c = record {
  one = λ f h operations operations' nested apart x y z at at'. one_correspondent f h operations operations' nested apart at at';
  other = λ f h operations operations' nested apart x y z at at'. other_correspondent f h operations operations' nested apart at at';
}
