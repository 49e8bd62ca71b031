use Rattle.std.proofs.Common.{Some, sym, ap, ◌∙◌, eqb-true}
use Rattle.std.proofs.lemmas.Bool.{eq-eqb}
use Rattle.std.proofs.lemmas.Option.{slice_get-get_or, same_Some}
use Rattle.ir_core_records.specs.Distinct.{first_with}
use Rattle.ir_core_records.specs.Found.{number-found}
use Rattle.ir_core_records.proofs.numbered.is_at.Goals as goal

pub returns-in-Some : goal.returns-in-Some
returns-in-Some g c =
    let f = g.T.Numbered.number_of in
    let xs = c.args.items.now in
    let x = c.in-Some.item.now in
    let n = c.args.number in
    let at = slice_get-get_or xs c.args.place x c.in-Some.ensures.lookup.3.0 ∙ ap Some (sym c.in-Some.ensures.lookup.1) in (
      λ t. first_with f xs n c.args.place x c.requires at (sym c.number.ensures ∙ eqb-true c.number.result n t),
      λ e. (let here = number-found f xs n c.args.place e in
          eq-eqb c.number.result n (c.number.ensures ∙ ap f (same_Some _ _ (sym at ∙ here.1)) ∙ here.2)),
    )
