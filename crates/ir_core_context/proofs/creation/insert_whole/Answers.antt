use Rattle.std.proofs.Common.{◌≡◌, ◌+◌, ◌∷◌, [], length, map, slice_index_or, true, false, not, is_ok, inl, refl, sym, ap, subst, ◌∙◌, arith}
use Rattle.ir_model.specs.Changes.{on_op, on_operands, on_successors}
use Rattle.ir_model.specs.Forest.{a_value}
use Rattle.ir_base_arenas.specs.Arena.{Arena}
use Rattle.ir_core_records.specs.Growth.{Grows, SkipsIds}
use Rattle.ir_core_records.specs.Meaning.{definition_of, forest_in, operands_from, successors_from, value_of}
use Rattle.ir_core_nesting.specs.Leaves.{without_op}
use Rattle.ir_core_context.specs.Creation.{SkipsUpTo, with_regions}
use Rattle.ir_core_context.proofs.Answers.{at_err, at_ok, err_holds}
use Rattle.ir_core_context.proofs.GivenRecords.{dead-op, live-there}
use Rattle.ir_core_context.proofs.Growths.{Grows-nil, Grows-none, Grows-then, Skips-none, Skips-of}
use Rattle.ir_core_context.proofs.Making.{taken_back, whole}
use Rattle.ir_core_context.proofs.NewOperations.{bare-fresh, bare-operands, bare-regions, bare-successors, bare-unused, new-live, new-names-live, new-unlinked}
use Rattle.ir_core_context.proofs.creation.insert_whole.Goals as goal

pub returns-in_err-op-clause-skipped : goal.returns-in_err-op-clause-skipped
returns-in_err-op-clause-skipped g c =
    let s = c.args.records.now in
    err_holds c.from_residual.result
    (subst (λ t. SkipsUpTo s t 1 0 c.args.parts.now.num_regions) (sym c.in_err-op.ensures.err) (record {
      ops = Skips-of s.ops s.ops [] 1 (Grows-none s.ops) (omega arith);
      blocks = Skips-of s.blocks s.blocks [] 0 (Grows-none s.blocks) (omega arith);
      regions = Skips-of s.regions s.regions [] c.args.parts.now.num_regions (Grows-none s.regions) (omega arith);
    }))

pub complete-requires-clause-live : goal.complete-requires-clause-live
complete-requires-clause-live g c =
    let t = c.insert_operation.new.records in
    live-there t c.in_ok-op.op (new-live (forest_in c.args.records.now) (forest_in t) c.in_ok-op.op g.D.Dialects.unknown c.args.parts.now.kind (map definition_of c.args.results) [] [] [] c.in_ok-op.ensures.forest)

pub complete-requires-clause-no_regions : goal.complete-requires-clause-no_regions
complete-requires-clause-no_regions g c = bare-regions (forest_in c.args.records.now) (forest_in c.insert_operation.new.records) c.in_ok-op.op g.D.Dialects.unknown c.args.parts.now.kind (map definition_of c.args.results) c.in_ok-op.ensures.forest

pub complete-requires-clause-no_operands : goal.complete-requires-clause-no_operands
complete-requires-clause-no_operands g c = bare-operands (forest_in c.args.records.now) (forest_in c.insert_operation.new.records) c.in_ok-op.op g.D.Dialects.unknown c.args.parts.now.kind (map definition_of c.args.results) c.in_ok-op.ensures.forest

pub complete-requires-clause-no_successors : goal.complete-requires-clause-no_successors
complete-requires-clause-no_successors g c = bare-successors (forest_in c.args.records.now) (forest_in c.insert_operation.new.records) c.in_ok-op.op g.D.Dialects.unknown c.args.parts.now.kind (map definition_of c.args.results) c.in_ok-op.ensures.forest

pub complete-requires-clause-operands : goal.complete-requires-clause-operands
complete-requires-clause-operands g c = λ k d within.
    let dead = dead-op c.args.records.now c.in_ok-op.op (c.in_ok-op.ensures.grows.dead c.in_ok-op.op (inl refl)) in
    new-names-live (forest_in c.args.records.now) (forest_in c.insert_operation.new.records) c.in_ok-op.op g.D.Dialects.unknown c.args.parts.now.kind (map definition_of c.args.results) [] [] [] c.in_ok-op.ensures.forest dead
    (a_value (value_of (slice_index_or c.args.parts.now.operands.now k d).index)) (c.requires.operands k d within)

pub complete-requires-clause-fresh : goal.complete-requires-clause-fresh
complete-requires-clause-fresh g c = bare-fresh (forest_in c.args.records.now) (forest_in c.insert_operation.new.records) c.in_ok-op.op g.D.Dialects.unknown c.args.parts.now.kind (map definition_of c.args.results) c.in_ok-op.ensures.forest c.args.first_use c.requires.fresh

pub remove_bare_operation-requires-clause-unlinked : goal.remove_bare_operation-requires-clause-unlinked
remove_bare_operation-requires-clause-unlinked g c =
    let denied : is_ok c.complete.result ≡ false = c.is_err.ensures.negation ∙ ap not c.if-is_err.true in
    let same : forest_in c.complete.new.records ≡ forest_in c.insert_operation.new.records = at_err c.complete.result _ denied c.complete.ensures.same in
    let dead = dead-op c.args.records.now c.in_ok-op.op (c.in_ok-op.ensures.grows.dead c.in_ok-op.op (inl refl)) in
    new-unlinked (forest_in c.args.records.now) (forest_in c.complete.new.records) c.in_ok-op.op g.D.Dialects.unknown c.args.parts.now.kind (map definition_of c.args.results) [] [] [] (same ∙ c.in_ok-op.ensures.forest) dead c.requires.formed.0 c.requires.formed.1

pub remove_bare_operation-requires-clause-regions : goal.remove_bare_operation-requires-clause-regions
remove_bare_operation-requires-clause-regions g c =
    let denied : is_ok c.complete.result ≡ false = c.is_err.ensures.negation ∙ ap not c.if-is_err.true in
    let same : forest_in c.complete.new.records ≡ forest_in c.insert_operation.new.records = at_err c.complete.result _ denied c.complete.ensures.same in
    bare-regions (forest_in c.args.records.now) (forest_in c.complete.new.records) c.in_ok-op.op g.D.Dialects.unknown c.args.parts.now.kind (map definition_of c.args.results) (same ∙ c.in_ok-op.ensures.forest)

pub remove_bare_operation-requires-clause-operands : goal.remove_bare_operation-requires-clause-operands
remove_bare_operation-requires-clause-operands g c =
    let denied : is_ok c.complete.result ≡ false = c.is_err.ensures.negation ∙ ap not c.if-is_err.true in
    let same : forest_in c.complete.new.records ≡ forest_in c.insert_operation.new.records = at_err c.complete.result _ denied c.complete.ensures.same in
    bare-operands (forest_in c.args.records.now) (forest_in c.complete.new.records) c.in_ok-op.op g.D.Dialects.unknown c.args.parts.now.kind (map definition_of c.args.results) (same ∙ c.in_ok-op.ensures.forest)

pub remove_bare_operation-requires-clause-successors : goal.remove_bare_operation-requires-clause-successors
remove_bare_operation-requires-clause-successors g c =
    let denied : is_ok c.complete.result ≡ false = c.is_err.ensures.negation ∙ ap not c.if-is_err.true in
    let same : forest_in c.complete.new.records ≡ forest_in c.insert_operation.new.records = at_err c.complete.result _ denied c.complete.ensures.same in
    bare-successors (forest_in c.args.records.now) (forest_in c.complete.new.records) c.in_ok-op.op g.D.Dialects.unknown c.args.parts.now.kind (map definition_of c.args.results) (same ∙ c.in_ok-op.ensures.forest)

pub remove_bare_operation-requires-clause-unused : goal.remove_bare_operation-requires-clause-unused
remove_bare_operation-requires-clause-unused g c =
    let denied : is_ok c.complete.result ≡ false = c.is_err.ensures.negation ∙ ap not c.if-is_err.true in
    let same : forest_in c.complete.new.records ≡ forest_in c.insert_operation.new.records = at_err c.complete.result _ denied c.complete.ensures.same in
    let dead = dead-op c.args.records.now c.in_ok-op.op (c.in_ok-op.ensures.grows.dead c.in_ok-op.op (inl refl)) in
    bare-unused (forest_in c.args.records.now) c.complete.new.records c.in_ok-op.op g.D.Dialects.unknown c.args.parts.now.kind (map definition_of c.args.results) (same ∙ c.in_ok-op.ensures.forest) dead c.requires.formed.0 c.requires.formed.1 c.complete.ensures.together.linked

pub returns-then-is_err-clause-same : goal.returns-then-is_err-clause-same
returns-then-is_err-clause-same g c =
    let op = c.in_ok-op.op in
    let denied : is_ok c.complete.result ≡ false = c.is_err.ensures.negation ∙ ap not c.if-is_err.true in
    let same : forest_in c.complete.new.records ≡ forest_in c.insert_operation.new.records = at_err c.complete.result _ denied c.complete.ensures.same in
    let dead = dead-op c.args.records.now op (c.in_ok-op.ensures.grows.dead op (inl refl)) in
    c.remove_bare_operation.ensures.forest ∙ ap (λ f. without_op f op) (same ∙ c.in_ok-op.ensures.forest) ∙ taken_back (forest_in c.args.records.now) op g.D.Dialects.unknown c.args.parts.now.kind (map definition_of c.args.results) dead

pub returns-then-is_err-clause-skipped : goal.returns-then-is_err-clause-skipped
returns-then-is_err-clause-skipped g c =
    let op = c.in_ok-op.op in
    let denied : is_ok c.complete.result ≡ false = c.is_err.ensures.negation ∙ ap not c.if-is_err.true in
    let first = c.args.records.now in
    let bare = c.insert_operation.new.records in
    let refused = c.complete.new.records in
    let last = c.remove_bare_operation.new.records in
    let e = c.remove_bare_operation.ensures in
    let skips : SkipsUpTo bare refused 0 0 c.args.parts.now.num_regions = at_err c.complete.result _ denied c.complete.ensures.skipped in
    record {
      ops = Skips-of first.ops last.ops (op ∷ []) 1 (Grows-then first.ops refused.ops last.ops (op ∷ []) (Grows-nil first.ops bare.ops refused.ops (op ∷ []) c.in_ok-op.ensures.grows (Skips-none bare.ops refused.ops skips.ops)) e.cleared.passed e.cleared.limit e.cleared.last_version) (omega arith);
      blocks = subst (λ (a : Arena _). SkipsIds a last.blocks 0) c.in_ok-op.ensures.blocks (subst (λ (a : Arena _). SkipsIds bare.blocks a 0) (sym e.blocks) skips.blocks);
      regions = subst (λ (a : Arena _). SkipsIds a last.regions c.args.parts.now.num_regions) c.in_ok-op.ensures.regions (subst (λ (a : Arena _). SkipsIds bare.regions a c.args.parts.now.num_regions) (sym e.regions) skips.regions);
    }

pub returns-clause-made : goal.returns-clause-made
returns-clause-made g c =
    let op = c.in_ok-op.op in
    let done : is_ok c.complete.result ≡ true = c.is_err.ensures.negation ∙ ap not c.if-is_err.false in
    let first = c.args.records.now in
    let bare = c.insert_operation.new.records in
    let last = c.complete.new.records in
    let w = at_ok c.complete.result _ done c.complete.ensures.made in
    let operands = operands_from c.args.first_use (map (λ v. v.index) c.args.parts.now.operands.now) in
    let successors = successors_from (c.args.first_use + length c.args.parts.now.operands.now) (map (λ b. record { index = b.index }) c.args.parts.now.successors.now) in (
      w.0,
      w.1,
      w.2
          ∙ ap (λ f. on_op (on_op (with_regions f op w.0) op (on_operands (λ _. operands))) op (on_successors (λ _. successors))) c.in_ok-op.ensures.forest
          ∙ whole (forest_in first) op g.D.Dialects.unknown c.args.parts.now.kind (map definition_of c.args.results) operands successors w.0,
      record {
        ops = Grows-nil first.ops bare.ops last.ops (op ∷ []) c.in_ok-op.ensures.grows w.3.ops;
        blocks = subst (λ (a : Arena _). Grows a last.blocks []) c.in_ok-op.ensures.blocks w.3.blocks;
        regions = subst (λ (a : Arena _). Grows a last.regions w.0) c.in_ok-op.ensures.regions w.3.regions;
      },
    )
