use Rattle.std.proofs.Common.{rules, ◌≡◌, ◌++◌, ◌∙◌, ℕ, List, Some, None, codes, ap, sym, subst}
use Rattle.std.proofs.lemmas.Bool.{false≢true}
use Rattle.ir_text_run.specs.Parts.{IsOnePart, IsDivided}
use Rattle.ir_opt_run.specs.Runs.{OptimisesParts}
use Rattle.ir_opt_run.specs.GenericBehaviour.{AreGenericWords, generic_behaviour, generic_same}
use Rattle.ir_opt_run.proofs.PartsMade.{MadeSoFar, made_one_more, made_to_the_end, if_made, none_is, of_its_value}
use Rattle.ir_opt_run.proofs.running.parts_made.Goals.{then-is_well, else-is_well}
use Rattle.ir_opt_run.proofs.running.parts_made.Goals as goal

pub returns-in_default : goal.returns-in_default
returns-in_default g c = record {
  made = if_made (λ out. out.items) c.if_well.result c.if-is_well.is_well c.add_part.new.printed.items (OptimisesParts generic_behaviour generic_same AreGenericWords c.args.options.now.passes.items c.args.options.now.prints_locations c.args.text.now) c.if_well.ensures (λ e.
      elim c.if-is_well.branch [
        | then-is_well w ↦
            let there = c.in_ok-is_part_well.ensures.made (sym w.is_well-is ∙ e) in
            let none : c.first_part-front.result.rest ≡ None = search rules in
            let whole = none_is c.first_part-front.result.rest ((c.first_part-front.result.part.now ≡ c.loop-printed.rest.now) × IsOnePart c.loop-printed.rest.now) _ none c.first_part-front.ensures.divided in
            subst (λ (o : List ℕ). OptimisesParts generic_behaviour generic_same AreGenericWords c.args.options.now.passes.items c.args.options.now.prints_locations c.args.text.now o) (sym there.2)
            (made_to_the_end generic_behaviour generic_same AreGenericWords c.args.options.now.passes.items c.args.options.now.prints_locations c.args.text.now c.loop-printed.rest.now c.first_part-front.result.part.now c.loop-printed.printed.items there.0 whole (c.loop-printed.invariant w.if-is_well.true) there.1)
        | else-is_well w ↦ absurd (false≢true (sym w.if-is_well.false ∙ (sym w.is_well-is ∙ e)))
      ]);
}

pub loop-printed-preserved : goal.loop-printed-preserved
loop-printed-preserved g c = λ e.
    elim c.if-is_well.branch [
      | then-is_well w ↦
          let there = c.in_ok-is_part_well.ensures.made (sym w.is_well-is ∙ e) in
          let behind = c.in-Some.behind in
          let some : c.first_part-front.result.rest ≡ Some behind = search rules in
          let divided = of_its_value c.first_part-front.result.rest behind _ (λ r. IsDivided c.loop-printed.rest.now c.first_part-front.result.part.now r.now) some c.first_part-front.ensures.divided in
          let put : c.extend_from_slice.new.self.items ≡ c.add_part.new.printed.items ++ codes "// -----\n" = search rules in
          let all : c.extend_from_slice.new.self.items ≡ (c.loop-printed.printed.items ++ there.0) ++ codes "// -----\n" = put ∙ ap (λ (o : List ℕ). o ++ codes "// -----\n") there.2 in
          subst (λ (o : List ℕ). MadeSoFar generic_behaviour generic_same AreGenericWords c.args.options.now.passes.items c.args.options.now.prints_locations c.args.text.now behind.now o) (sym all)
          (made_one_more generic_behaviour generic_same AreGenericWords c.args.options.now.passes.items c.args.options.now.prints_locations c.args.text.now c.loop-printed.rest.now c.first_part-front.result.part.now behind.now c.loop-printed.printed.items there.0 (c.loop-printed.invariant w.if-is_well.true) divided there.1)
      | else-is_well w ↦ absurd (false≢true (sym w.if-is_well.false ∙ (sym w.is_well-is ∙ e)))
    ]
