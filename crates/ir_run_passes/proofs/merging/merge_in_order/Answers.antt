use Rattle.std.proofs.Common.{◌≡◌, ◌<◌, ◌+◌, suc, Bool, true, false, None, Some, Option, sym, ap, ◌∙◌, subst, refl, length, arith}
use Rattle.std.specs.Option.{option_map}
use Rattle.ir_model.specs.Nesting.{ops_of}
use Rattle.ir_base_dialects.specs.Attributes.{dict_input, same_pairs}
use Rattle.ir_core_queries.specs.State.{bare, forest_of}
use Rattle.ir_core_records.specs.DialectAnswers.{behaviour_of}
use Rattle.ir_run_passes.specs.AlikeHash.{hash_in}
use Rattle.ir_run_passes.specs.MergeSteps.{Steps}
use Rattle.ir_run_passes.proofs.KeptWalk.{KeptWalk, walk_begins, walk_ends, walk_live, walk_apart, walk_finds, walk_passes, walk_merges, walk_counts, walk_breaks, left_from, left_less}
use Rattle.ir_run_passes.proofs.AlikeHashes.{hash_stays}
use Rattle.ir_run_passes.proofs.EachBlock.{on_err}
use Rattle.ir_run_passes.proofs.Rest.{same_joined}
use Rattle.ir_run_passes.proofs.merging.merge_in_order.Goals as goal

pub loop-place-init : goal.loop-place-init
loop-place-init g c =
    let f = forest_of c.args.ctx.now in
    let B = behaviour_of g.D.Dialects g.D.TypeKey.PartialEq.eq in
    record {
      walk = walk_begins B (same_pairs g.D.Attr.PartialEq.eq) (hash_in (dict_input g.D.Attr.Hash.hash_input)) c.args.block.index f c.walk_merges.ensures.steps c.merges_are_counted.ensures.some
          c.new-kept.result (option_map (λ p. p.index) c.get_head-place.result) c.requires.order c.new-kept.ensures.none c.new-kept.ensures.indexed c.get_head-place.ensures.first;
      rest = record { store = refl; beside = refl; passed = refl; limits = refl };
    }

pub get_next-place-requires : goal.get_next-place-requires
get_next-place-requires g c =
    let F = forest_of c.args.ctx.now in
    let B = behaviour_of g.D.Dialects g.D.TypeKey.PartialEq.eq in
    let same = same_pairs g.D.Attr.PartialEq.eq in
    let input = dict_input g.D.Attr.Hash.hash_input in
    let hash = hash_in input in
    let b = c.args.block.index in
    let G = forest_of c.loop-place.ctx in
    let K = c.loop-place.kept in
    let n = c.loop-place.merged in
    let o = c.in-Some.op.index in
    let w : KeptWalk B same hash b F G K (Some o) n = subst (λ m. KeptWalk B same hash b F G K (option_map (λ p. p.index) m) n) c.in-Some.is c.loop-place.invariant.walk in
    walk_live B same hash b F c.walk_merges.ensures.steps c.merges_are_counted.ensures.some _ c.recall_well_formed.ensures G K n o w

pub merge_or_keep-requires-clause-live : goal.merge_or_keep-requires-clause-live
merge_or_keep-requires-clause-live g c =
    let F = forest_of c.args.ctx.now in
    let B = behaviour_of g.D.Dialects g.D.TypeKey.PartialEq.eq in
    let same = same_pairs g.D.Attr.PartialEq.eq in
    let input = dict_input g.D.Attr.Hash.hash_input in
    let hash = hash_in input in
    let b = c.args.block.index in
    let G = forest_of c.loop-place.ctx in
    let K = c.loop-place.kept in
    let n = c.loop-place.merged in
    let o = c.in-Some.op.index in
    let w : KeptWalk B same hash b F G K (Some o) n = subst (λ m. KeptWalk B same hash b F G K (option_map (λ p. p.index) m) n) c.in-Some.is c.loop-place.invariant.walk in
    walk_live B same hash b F c.walk_merges.ensures.steps c.merges_are_counted.ensures.some _ c.recall_well_formed.ensures G K n o w

pub merge_or_keep-requires-clause-apart : goal.merge_or_keep-requires-clause-apart
merge_or_keep-requires-clause-apart g c =
    let F = forest_of c.args.ctx.now in
    let B = behaviour_of g.D.Dialects g.D.TypeKey.PartialEq.eq in
    let same = same_pairs g.D.Attr.PartialEq.eq in
    let input = dict_input g.D.Attr.Hash.hash_input in
    let hash = hash_in input in
    let b = c.args.block.index in
    let G = forest_of c.loop-place.ctx in
    let K = c.loop-place.kept in
    let n = c.loop-place.merged in
    let o = c.in-Some.op.index in
    let w : KeptWalk B same hash b F G K (Some o) n = subst (λ m. KeptWalk B same hash b F G K (option_map (λ p. p.index) m) n) c.in-Some.is c.loop-place.invariant.walk in
    walk_apart B same hash b F c.walk_merges.ensures.steps c.merges_are_counted.ensures.some _ c.recall_well_formed.ensures G K n o w

pub merge_or_keep-requires-clause-finds : goal.merge_or_keep-requires-clause-finds
merge_or_keep-requires-clause-finds g c =
    let F = forest_of c.args.ctx.now in
    let B = behaviour_of g.D.Dialects g.D.TypeKey.PartialEq.eq in
    let same = same_pairs g.D.Attr.PartialEq.eq in
    let input = dict_input g.D.Attr.Hash.hash_input in
    let hash = hash_in input in
    let b = c.args.block.index in
    let G = forest_of c.loop-place.ctx in
    let K = c.loop-place.kept in
    let n = c.loop-place.merged in
    let o = c.in-Some.op.index in
    let w : KeptWalk B same hash b F G K (Some o) n = subst (λ m. KeptWalk B same hash b F G K (option_map (λ p. p.index) m) n) c.in-Some.is c.loop-place.invariant.walk in
    walk_finds B same hash b F c.walk_merges.ensures.steps c.merges_are_counted.ensures.some _ c.recall_well_formed.ensures G K n o w

pub returns-in_err-merge_or_keep-clause-broken_off : goal.returns-in_err-merge_or_keep-clause-broken_off
returns-in_err-merge_or_keep-clause-broken_off g c =
    let F = forest_of c.args.ctx.now in
    let B = behaviour_of g.D.Dialects g.D.TypeKey.PartialEq.eq in
    let same = same_pairs g.D.Attr.PartialEq.eq in
    let input = dict_input g.D.Attr.Hash.hash_input in
    let hash = hash_in input in
    let b = c.args.block.index in
    let G = forest_of c.loop-place.ctx in
    let K = c.loop-place.kept in
    let n = c.loop-place.merged in
    let o = c.in-Some.op.index in
    let w : KeptWalk B same hash b F G K (Some o) n = subst (λ m. KeptWalk B same hash b F G K (option_map (λ p. p.index) m) n) c.in-Some.is c.loop-place.invariant.walk in
    on_err c.from_residual.result _ (walk_breaks B same hash b F c.walk_merges.ensures.steps c.merges_are_counted.ensures.some _ c.recall_well_formed.ensures G K n o w (forest_of c.merge_or_keep.new.ctx) c.in_err-merge_or_keep.ensures.breaks_off)

pub returns-in_err-merge_or_keep-clause-rest : goal.returns-in_err-merge_or_keep-clause-rest
returns-in_err-merge_or_keep-clause-rest g c = same_joined (bare c.args.ctx.now) (bare c.loop-place.ctx) (bare c.merge_or_keep.new.ctx) c.loop-place.invariant.rest c.merge_or_keep.ensures.rest

pub overflow_add-merged : goal.overflow_add-merged
overflow_add-merged g c =
    let F = forest_of c.args.ctx.now in
    let B = behaviour_of g.D.Dialects g.D.TypeKey.PartialEq.eq in
    let same = same_pairs g.D.Attr.PartialEq.eq in
    let input = dict_input g.D.Attr.Hash.hash_input in
    let hash = hash_in input in
    let b = c.args.block.index in
    let G = forest_of c.loop-place.ctx in
    let K = c.loop-place.kept in
    let n = c.loop-place.merged in
    let o = c.in-Some.op.index in
    let w : KeptWalk B same hash b F G K (Some o) n = subst (λ m. KeptWalk B same hash b F G K (option_map (λ p. p.index) m) n) c.in-Some.is c.loop-place.invariant.walk in
    let H = forest_of c.merge_or_keep.new.ctx in
    let next = c.get_next-place.result in
    let told = c.get_next-place.ensures.next in
    let steps = subst (Steps B same G K o (hash G) H c.merge_or_keep.new.kept) c.if-branch.true c.in_ok-merge_or_keep.ensures.steps in
    let counts = walk_counts B same hash b F c.walk_merges.ensures.steps c.merges_are_counted.ensures.some _ c.recall_well_formed.ensures G K n o w (λ p. p.index) next told H steps.0 (λ k e. hash_stays input G H k e) in
    let short = c.recall_lists_short.ensures in
    omega (arith, counts, short)

pub loop-place-smaller-then-branch : goal.loop-place-smaller-then-branch
loop-place-smaller-then-branch g c =
    let F = forest_of c.args.ctx.now in
    let B = behaviour_of g.D.Dialects g.D.TypeKey.PartialEq.eq in
    let same = same_pairs g.D.Attr.PartialEq.eq in
    let input = dict_input g.D.Attr.Hash.hash_input in
    let hash = hash_in input in
    let b = c.args.block.index in
    let G = forest_of c.loop-place.ctx in
    let K = c.loop-place.kept in
    let n = c.loop-place.merged in
    let o = c.in-Some.op.index in
    let w : KeptWalk B same hash b F G K (Some o) n = subst (λ m. KeptWalk B same hash b F G K (option_map (λ p. p.index) m) n) c.in-Some.is c.loop-place.invariant.walk in
    let H = forest_of c.merge_or_keep.new.ctx in
    let next = c.get_next-place.result in
    let told = c.get_next-place.ensures.next in
    let steps = subst (Steps B same G K o (hash G) H c.merge_or_keep.new.kept) c.if-branch.true c.in_ok-merge_or_keep.ensures.steps in
    let v = walk_merges B same hash b F c.walk_merges.ensures.steps c.merges_are_counted.ensures.some _ c.recall_well_formed.ensures G K n o w (λ p. p.index) next told H steps.0 (λ k e. hash_stays input G H k e) in
    let after = option_map (λ p. p.index) next in
    subst (λ m. left_from after (ops_of H b) < left_from (option_map (λ p. p.index) m) (ops_of G b)) (sym c.in-Some.is)
    (left_less B same hash b F c.walk_merges.ensures.steps c.merges_are_counted.ensures.some _ c.recall_well_formed.ensures G H K K n (suc n) (Some o) after w v.0 v.1)

pub loop-place-preserved-then-branch : goal.loop-place-preserved-then-branch
loop-place-preserved-then-branch g c =
    let F = forest_of c.args.ctx.now in
    let B = behaviour_of g.D.Dialects g.D.TypeKey.PartialEq.eq in
    let same = same_pairs g.D.Attr.PartialEq.eq in
    let input = dict_input g.D.Attr.Hash.hash_input in
    let hash = hash_in input in
    let b = c.args.block.index in
    let G = forest_of c.loop-place.ctx in
    let K = c.loop-place.kept in
    let n = c.loop-place.merged in
    let o = c.in-Some.op.index in
    let w : KeptWalk B same hash b F G K (Some o) n = subst (λ m. KeptWalk B same hash b F G K (option_map (λ p. p.index) m) n) c.in-Some.is c.loop-place.invariant.walk in
    let H = forest_of c.merge_or_keep.new.ctx in
    let next = c.get_next-place.result in
    let told = c.get_next-place.ensures.next in
    let steps = subst (Steps B same G K o (hash G) H c.merge_or_keep.new.kept) c.if-branch.true c.in_ok-merge_or_keep.ensures.steps in
    let v = walk_merges B same hash b F c.walk_merges.ensures.steps c.merges_are_counted.ensures.some _ c.recall_well_formed.ensures G K n o w (λ p. p.index) next told H steps.0 (λ k e. hash_stays input G H k e) in
    let after = option_map (λ p. p.index) next in
    let one : suc n ≡ n + 1 = omega arith in
    record {
      walk = subst (λ t. KeptWalk B same hash b F H t after (n + 1)) (sym steps.1) (subst (KeptWalk B same hash b F H K after) one v.0);
      rest = same_joined (bare c.args.ctx.now) (bare c.loop-place.ctx) (bare c.merge_or_keep.new.ctx) c.loop-place.invariant.rest c.merge_or_keep.ensures.rest;
    }

pub loop-place-smaller : goal.loop-place-smaller
loop-place-smaller g c =
    let F = forest_of c.args.ctx.now in
    let B = behaviour_of g.D.Dialects g.D.TypeKey.PartialEq.eq in
    let same = same_pairs g.D.Attr.PartialEq.eq in
    let input = dict_input g.D.Attr.Hash.hash_input in
    let hash = hash_in input in
    let b = c.args.block.index in
    let G = forest_of c.loop-place.ctx in
    let K = c.loop-place.kept in
    let n = c.loop-place.merged in
    let o = c.in-Some.op.index in
    let w : KeptWalk B same hash b F G K (Some o) n = subst (λ m. KeptWalk B same hash b F G K (option_map (λ p. p.index) m) n) c.in-Some.is c.loop-place.invariant.walk in
    let H = forest_of c.merge_or_keep.new.ctx in
    let next = c.get_next-place.result in
    let told = c.get_next-place.ensures.next in
    let steps = subst (Steps B same G K o (hash G) H c.merge_or_keep.new.kept) c.if-branch.false c.in_ok-merge_or_keep.ensures.steps in
    let v = walk_passes B same hash b F c.walk_merges.ensures.steps c.merges_are_counted.ensures.some _ c.recall_well_formed.ensures G K n o w (λ p. p.index) next told c.merge_or_keep.new.kept steps.1 steps.2 in
    let after = option_map (λ p. p.index) next in
    subst (λ m. left_from after (ops_of H b) < left_from (option_map (λ p. p.index) m) (ops_of G b)) (sym c.in-Some.is)
    (subst (λ z. left_from after (ops_of z b) < left_from (Some o) (ops_of G b)) (sym steps.0) (left_less B same hash b F c.walk_merges.ensures.steps c.merges_are_counted.ensures.some _ c.recall_well_formed.ensures G G K c.merge_or_keep.new.kept n n (Some o) after w v.0 v.1))

pub loop-place-preserved : goal.loop-place-preserved
loop-place-preserved g c =
    let F = forest_of c.args.ctx.now in
    let B = behaviour_of g.D.Dialects g.D.TypeKey.PartialEq.eq in
    let same = same_pairs g.D.Attr.PartialEq.eq in
    let input = dict_input g.D.Attr.Hash.hash_input in
    let hash = hash_in input in
    let b = c.args.block.index in
    let G = forest_of c.loop-place.ctx in
    let K = c.loop-place.kept in
    let n = c.loop-place.merged in
    let o = c.in-Some.op.index in
    let w : KeptWalk B same hash b F G K (Some o) n = subst (λ m. KeptWalk B same hash b F G K (option_map (λ p. p.index) m) n) c.in-Some.is c.loop-place.invariant.walk in
    let H = forest_of c.merge_or_keep.new.ctx in
    let next = c.get_next-place.result in
    let told = c.get_next-place.ensures.next in
    let steps = subst (Steps B same G K o (hash G) H c.merge_or_keep.new.kept) c.if-branch.false c.in_ok-merge_or_keep.ensures.steps in
    let v = walk_passes B same hash b F c.walk_merges.ensures.steps c.merges_are_counted.ensures.some _ c.recall_well_formed.ensures G K n o w (λ p. p.index) next told c.merge_or_keep.new.kept steps.1 steps.2 in
    let after = option_map (λ p. p.index) next in
    record {
      walk = subst (λ z. KeptWalk B same hash b F z c.merge_or_keep.new.kept after n) (sym steps.0) v.0;
      rest = same_joined (bare c.args.ctx.now) (bare c.loop-place.ctx) (bare c.merge_or_keep.new.ctx) c.loop-place.invariant.rest c.merge_or_keep.ensures.rest;
    }

pub returns-clause-merged : goal.returns-clause-merged
returns-clause-merged g c =
    let F = forest_of c.args.ctx.now in
    let B = behaviour_of g.D.Dialects g.D.TypeKey.PartialEq.eq in
    let same = same_pairs g.D.Attr.PartialEq.eq in
    let input = dict_input g.D.Attr.Hash.hash_input in
    let hash = hash_in input in
    let b = c.args.block.index in
    let G = forest_of c.loop-place.ctx in
    let K = c.loop-place.kept in
    let n = c.loop-place.merged in
    walk_ends B same hash b F c.walk_merges.ensures.steps c.merges_are_counted.ensures.some _ c.recall_well_formed.ensures G K n (subst (λ m. KeptWalk B same hash b F G K (option_map (λ p. p.index) m) n) c.in_default.is c.loop-place.invariant.walk)

pub returns-clause-rest : goal.returns-clause-rest
returns-clause-rest g c = c.loop-place.invariant.rest
