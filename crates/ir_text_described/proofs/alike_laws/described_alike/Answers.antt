use Rattle.ir_text_described.proofs.Alikes.{described_alike, meant_alike}
use Rattle.ir_text_described.proofs.alike_laws.described_alike.Goals as goal

pub returns-clause-one_tree : goal.returns-clause-one_tree
returns-clause-one_tree g c = λ f h words words' located tree operations operations' names d d'. described_alike f h words words' located tree operations operations' names d d'

pub returns-clause-one_text : goal.returns-clause-one_text
returns-clause-one_text g c = λ f h words words' located text rows blocks values blocks' values' operations operations' once meant meant' d d'. meant_alike f h words words' located text rows blocks values blocks' values' operations operations' c.names_one_value.ensures c.names_one_block.ensures once meant meant' d d'
