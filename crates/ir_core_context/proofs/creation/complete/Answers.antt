use Rattle.std.proofs.Common.{◌≡◌, ◌≤◌, ◌+◌, List, [], length, map, slice_index_or, true, false, not, is_ok, sym, ap, subst, ◌∙◌, arith}
use Rattle.ir_model.specs.Changes.{on_op, on_operands, on_successors}
use Rattle.ir_model.specs.Forest.{Forest, a_value, the_block}
use Rattle.ir_model.specs.Nesting.{IsLiveNamed, operands_of, successors_of}
use Rattle.ir_base_arenas.specs.Arena.{Arena}
use Rattle.ir_core_records.specs.Growth.{Grows}
use Rattle.ir_core_records.specs.Meaning.{forest_in, operands_from, successors_from, value_of}
use Rattle.ir_core_context.specs.Creation.{AreFresh, IsGiven}
use Rattle.ir_core_context.proofs.Answers.{at_err, at_ok}
use Rattle.ir_core_context.proofs.GivenForests.{given-fresh, given-live, given-operands, given-successors}
use Rattle.ir_core_context.proofs.Growths.{Grows-ids, Grows-nil, Skips-of}
use Rattle.ir_core_context.proofs.creation.complete.Goals as goal

pub link_places-requires-clause-no_operands : goal.link_places-requires-clause-no_operands
link_places-requires-clause-no_operands g c =
    let w = c.in_ok-add_regions.ensures.given in
    ap (λ (f : Forest _ _). operands_of f c.args.op) w.1.is ∙ given-operands (forest_in c.args.records.now) c.args.op w.0 c.args.op ∙ c.requires.no_operands

pub link_places-requires-clause-no_successors : goal.link_places-requires-clause-no_successors
link_places-requires-clause-no_successors g c =
    let w = c.in_ok-add_regions.ensures.given in
    ap (λ (f : Forest _ _). successors_of f c.args.op) w.1.is ∙ given-successors (forest_in c.args.records.now) c.args.op w.0 c.args.op ∙ c.requires.no_successors

pub link_places-requires-clause-operands : goal.link_places-requires-clause-operands
link_places-requires-clause-operands g c = λ k d within.
    let w = c.in_ok-add_regions.ensures.given in
    let v = value_of (slice_index_or c.args.parts.now.operands.now k d).index in
    subst (λ (f : Forest _ _). IsLiveNamed f (a_value v)) (sym w.1.is) (given-live (forest_in c.args.records.now) c.args.op w.0 (a_value v) (c.requires.operands k d within))

pub link_places-requires-clause-successors : goal.link_places-requires-clause-successors
link_places-requires-clause-successors g c = λ k d within.
    let w = c.in_ok-add_regions.ensures.given in
    let b = (slice_index_or c.args.parts.now.successors.now k d).index in
    subst (λ (f : Forest _ _). IsLiveNamed f (the_block b)) (sym w.1.is) (given-live (forest_in c.args.records.now) c.args.op w.0 (the_block b) (c.requires.successors k d within))

pub link_places-requires-clause-fresh : goal.link_places-requires-clause-fresh
link_places-requires-clause-fresh g c =
    let w = c.in_ok-add_regions.ensures.given in
    subst (λ (f : Forest _ _). AreFresh f c.args.first_use) (sym w.1.is) (given-fresh (forest_in c.args.records.now) c.args.op w.0 c.args.first_use c.requires.fresh)

pub returns-then-is_err-clause-same : goal.returns-then-is_err-clause-same
returns-then-is_err-clause-same g c =
    let w = c.in_ok-add_regions.ensures.given in
    let denied : is_ok c.link_places.result ≡ false = c.is_err.ensures.negation ∙ ap not c.if-is_err.true in
    let same : forest_in c.link_places.new.records ≡ forest_in c.add_regions.new.records = at_err c.link_places.result _ denied c.link_places.ensures.same in
    c.remove_regions.ensures.forest (forest_in c.args.records.now) w.0 (subst (IsGiven (forest_in c.args.records.now) c.args.op w.0 c.args.parts.now.num_regions) (sym same) w.1)

pub returns-then-is_err-clause-skipped : goal.returns-then-is_err-clause-skipped
returns-then-is_err-clause-skipped g c =
    let w = c.in_ok-add_regions.ensures.given in
    let first = c.args.records.now in
    let given = c.add_regions.new.records in
    let linked = c.link_places.new.records in
    let last = c.remove_regions.new.records in
    let keeps = c.link_places.ensures.keeps in
    let after = c.remove_regions.ensures.passed in
    record {
      ops = Skips-of first.ops last.ops [] 0 (Grows-nil first.ops linked.ops last.ops [] (Grows-ids first.ops given.ops linked.ops [] w.2.ops keeps.op_ids) after.ops) (omega arith);
      blocks = Skips-of first.blocks last.blocks [] 0 (Grows-nil first.blocks linked.blocks last.blocks [] (Grows-ids first.blocks given.blocks linked.blocks [] w.2.blocks keeps.block_ids) after.blocks) (omega arith);
      regions = Skips-of first.regions last.regions w.0 c.args.parts.now.num_regions (Grows-nil first.regions linked.regions last.regions w.0 (subst (λ (a : Arena _). Grows first.regions a w.0) (sym keeps.regions) w.2.regions) after.regions) (omega (arith, w.1.number));
    }

pub returns-clause-made : goal.returns-clause-made
returns-clause-made g c =
    let w = c.in_ok-add_regions.ensures.given in
    let done : is_ok c.link_places.result ≡ true = c.is_err.ensures.negation ∙ ap not c.if-is_err.false in
    let linked = at_ok c.link_places.result _ done c.link_places.ensures.linked in
    let first = c.args.records.now in
    let given = c.add_regions.new.records in
    let last = c.link_places.new.records in
    let keeps = c.link_places.ensures.keeps in (
      w.0,
      w.1.number,
      linked ∙ ap (λ f. on_op (on_op f c.args.op (on_operands (λ _. operands_from c.args.first_use (map (λ v. v.index) c.args.parts.now.operands.now)))) c.args.op (on_successors (λ _. successors_from (c.args.first_use + length c.args.parts.now.operands.now) (map (λ b. record { index = b.index }) c.args.parts.now.successors.now)))) w.1.is,
      record {
        ops = Grows-ids first.ops given.ops last.ops [] w.2.ops keeps.op_ids;
        blocks = Grows-ids first.blocks given.blocks last.blocks [] w.2.blocks keeps.block_ids;
        regions = subst (λ (a : Arena _). Grows first.regions a w.0) (sym keeps.regions) w.2.regions;
      },
    )
