use Rattle.ir_model.proofs.Dictionaries.{dictionaries_keep_order}
use Rattle.ir_model.proofs.store_laws.dictionaries_keep_order.Goals as goal

pub returns : goal.returns
returns g c = dictionaries_keep_order _
