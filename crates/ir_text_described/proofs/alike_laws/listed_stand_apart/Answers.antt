use Rattle.ir_text_described.proofs.Correspondents.{alone_apart, block_apart}
use Rattle.ir_text_described.proofs.alike_laws.listed_stand_apart.Goals as goal

pub returns : goal.returns
returns g c = record { alone = λ f o. alone_apart f o; of_a_block = λ f b nested. block_apart f b nested }
