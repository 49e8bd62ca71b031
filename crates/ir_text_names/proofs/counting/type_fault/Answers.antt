use Rattle.std.proofs.Common.{ℕ, List, length, get_or, sym, ap, subst, ◌∙◌}
use Rattle.ir_text_names.specs.Firsts.{IsFirst, IsFirstWrong}
use Rattle.ir_text_names.specs.Counts.{HasOtherTypes, IsCountWrong}
use Rattle.ir_text_names.specs.Operations.{number_of}
use Rattle.ir_text_names.proofs.Tallies.{other_types, count_wrong}
use Rattle.ir_text_names.proofs.counting.type_fault.Goals as goal

pub first_different-first-requires-clause-few : goal.first_different-first-requires-clause-few
first_different-first-requires-clause-few c = c.requires.few

pub first_different-first-requires-clause-some : goal.first_different-first-requires-clause-some
first_different-first-requires-clause-some c = ap length c.deref.ensures.value ∙ c.requires.operands.room

pub first_different-first-requires-clause-others : goal.first_different-first-requires-clause-others
first_different-first-requires-clause-others c = ap length c.deref-2.ensures.value ∙ c.requires.operand_types.room

pub returns : goal.returns
returns c =
    let rows = c.args.rows.now in
    let first = c.first_different-first.result in
    let is : IsFirst (HasOtherTypes rows) (length rows) first =
    other_types rows c.deref.result.now c.deref-2.result.now first (λ k known le. ap (λ (xs : List ℕ). get_or xs (number_of rows k) 0) c.deref.ensures.value ∙ c.requires.operands.counted k known le)
    (λ k known le. ap (λ (xs : List ℕ). get_or xs (number_of rows k) 0) c.deref-2.ensures.value ∙ c.requires.operand_types.counted k known le) c.first_different-first.ensures in
    subst (IsFirstWrong (IsCountWrong rows) (length rows)) (sym c.told.ensures) (count_wrong rows first is)
