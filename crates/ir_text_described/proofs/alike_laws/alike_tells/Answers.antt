use Rattle.ir_text_described.proofs.Correspondents.{all_correspond, have_one_type, alike_turned}
use Rattle.ir_text_described.proofs.alike_laws.alike_tells.Goals as goal

pub returns-clause-all : goal.returns-clause-all
returns-clause-all g c = λ f h words words' located operations operations' alike o x listed within. all_correspond f h words words' located operations operations' alike o x listed within

pub returns-clause-types : goal.returns-clause-types
returns-clause-types g c = λ f h words words' located operations operations' alike v w corresponds. have_one_type f h words words' located operations operations' alike v w corresponds

pub returns-clause-turned : goal.returns-clause-turned
returns-clause-turned g c = λ f h words words' located operations operations' alike. alike_turned f h words words' located operations operations' alike
