use Rattle.std.proofs.Common.{◌≡◌, ◌<◌, ℕ, Bool, true, false, Some, Option, length, sym, ap, ◌∙◌, subst, rules, arith}
use Rattle.std.proofs.lemmas.Bool.{false≢true}
use Rattle.std.proofs.lemmas.Option.{slice_get-get_or}
use Rattle.std.specs.Prelude.{slice_get, vec_len}
use Rattle.ir_model.specs.declared.ids.ArenaIndex.{ArenaIndex}
use Rattle.ir_model.specs.Nesting.{In}
use Rattle.ir_base_dialects.specs.Attributes.{dict_input, same_pairs}
use Rattle.ir_base_dialects.specs.AttributeLaws.{by_key-equal}
use Rattle.ir_model_passes.specs.Merging.{Alike}
use Rattle.ir_core_queries.specs.State.{forest_of}
use Rattle.ir_core_records.specs.DialectAnswers.{behaviour_of}
use Rattle.ir_run_passes.specs.AlikeHash.{hash_in}
use Rattle.ir_run_passes.specs.KeptOps.{IsPlainOp, kept_in}
use Rattle.ir_run_passes.proofs.AlikeHashes.{one_hash}
use Rattle.ir_run_passes.proofs.Chains.{Looking, chain_left, looking_starts, looking_within, looking_goes_on, looking_smaller, looking_ends, kept_at}
use Rattle.ir_run_passes.proofs.kept_ops.KeptOps.find.Goals as goal

not_so : (b : Bool) → b ≡ false → b ≡ true → ⊥
not_so b off on = false≢true (sym off ∙ on)

pub loop-place-init : goal.loop-place-init
loop-place-init g c =
    let f = forest_of c.args.ctx.now in
    let B = behaviour_of g.D.Dialects g.D.TypeKey.PartialEq.eq in
    let same = same_pairs g.D.Attr.PartialEq.eq in
    let hash = hash_in (dict_input g.D.Attr.Hash.hash_input) f in
    let t = c.args.self.now in
    let P : ArenaIndex → Type 0 = λ k. Alike B same f k c.args.op.index in
    looking_starts hash t c.args.hash P c.requires.indexed c.copied-place.result (c.copied-place.ensures ∙ c.get.ensures.value)

pub index-kept-requires : goal.index-kept-requires
index-kept-requires g c =
    let f = forest_of c.args.ctx.now in
    let B = behaviour_of g.D.Dialects g.D.TypeKey.PartialEq.eq in
    let same = same_pairs g.D.Attr.PartialEq.eq in
    let hash = hash_in (dict_input g.D.Attr.Hash.hash_input) f in
    let t = c.args.self.now in
    let P : ArenaIndex → Type 0 = λ k. Alike B same f k c.args.op.index in
    let l : Looking hash t c.args.hash P (Some c.in-Some.here) = subst (Looking hash t c.args.hash P) c.in-Some.is c.loop-place.invariant in
    let lt : c.in-Some.here < length t.ops.items = looking_within hash t c.args.hash P c.in-Some.here l in
    let e : vec_len t.ops ≡ length t.ops.items = search rules in
    omega (arith, lt, e)

pub are_alike-requires-clause-one : goal.are_alike-requires-clause-one
are_alike-requires-clause-one g c =
    let f = forest_of c.args.ctx.now in
    let B = behaviour_of g.D.Dialects g.D.TypeKey.PartialEq.eq in
    let same = same_pairs g.D.Attr.PartialEq.eq in
    let hash = hash_in (dict_input g.D.Attr.Hash.hash_input) f in
    let t = c.args.self.now in
    let P : ArenaIndex → Type 0 = λ k. Alike B same f k c.args.op.index in
    let l : Looking hash t c.args.hash P (Some c.in-Some.here) = subst (Looking hash t c.args.hash P) c.in-Some.is c.loop-place.invariant in
    let lt : c.in-Some.here < length t.ops.items = looking_within hash t c.args.hash P c.in-Some.here l in
    let k = c.index-kept.result.now in
    let at : slice_get t.ops.items c.in-Some.here ≡ Some k = slice_get-get_or t.ops.items c.in-Some.here k lt ∙ ap Some (sym c.index-kept.ensures) in
    subst (IsPlainOp B f) (sym c.from_index-found.ensures) (c.requires.plain k.op (kept_at t c.in-Some.here k at))

pub returns-then-are_alike-clause-kept : goal.returns-then-are_alike-clause-kept
returns-then-are_alike-clause-kept g c =
    let f = forest_of c.args.ctx.now in
    let B = behaviour_of g.D.Dialects g.D.TypeKey.PartialEq.eq in
    let same = same_pairs g.D.Attr.PartialEq.eq in
    let hash = hash_in (dict_input g.D.Attr.Hash.hash_input) f in
    let t = c.args.self.now in
    let P : ArenaIndex → Type 0 = λ k. Alike B same f k c.args.op.index in
    let l : Looking hash t c.args.hash P (Some c.in-Some.here) = subst (Looking hash t c.args.hash P) c.in-Some.is c.loop-place.invariant in
    let lt : c.in-Some.here < length t.ops.items = looking_within hash t c.args.hash P c.in-Some.here l in
    let k = c.index-kept.result.now in
    let at : slice_get t.ops.items c.in-Some.here ≡ Some k = slice_get-get_or t.ops.items c.in-Some.here k lt ∙ ap Some (sym c.index-kept.ensures) in
    subst (λ o. In o (kept_in t)) (sym c.from_index-found.ensures) (kept_at t c.in-Some.here k at)

pub returns-then-are_alike-clause-alike : goal.returns-then-are_alike-clause-alike
returns-then-are_alike-clause-alike g c = c.are_alike.ensures.0 c.if-are_alike.true

pub loop-place-smaller : goal.loop-place-smaller
loop-place-smaller g c =
    let f = forest_of c.args.ctx.now in
    let B = behaviour_of g.D.Dialects g.D.TypeKey.PartialEq.eq in
    let same = same_pairs g.D.Attr.PartialEq.eq in
    let hash = hash_in (dict_input g.D.Attr.Hash.hash_input) f in
    let t = c.args.self.now in
    let P : ArenaIndex → Type 0 = λ k. Alike B same f k c.args.op.index in
    let l : Looking hash t c.args.hash P (Some c.in-Some.here) = subst (Looking hash t c.args.hash P) c.in-Some.is c.loop-place.invariant in
    let lt : c.in-Some.here < length t.ops.items = looking_within hash t c.args.hash P c.in-Some.here l in
    let k = c.index-kept.result.now in
    let at : slice_get t.ops.items c.in-Some.here ≡ Some k = slice_get-get_or t.ops.items c.in-Some.here k lt ∙ ap Some (sym c.index-kept.ensures) in
    subst (λ m. chain_left k.earlier < chain_left m) (sym c.in-Some.is) (looking_smaller hash t c.args.hash P c.requires.indexed c.in-Some.here k at l)

pub loop-place-preserved : goal.loop-place-preserved
loop-place-preserved g c =
    let f = forest_of c.args.ctx.now in
    let B = behaviour_of g.D.Dialects g.D.TypeKey.PartialEq.eq in
    let same = same_pairs g.D.Attr.PartialEq.eq in
    let hash = hash_in (dict_input g.D.Attr.Hash.hash_input) f in
    let t = c.args.self.now in
    let P : ArenaIndex → Type 0 = λ k. Alike B same f k c.args.op.index in
    let l : Looking hash t c.args.hash P (Some c.in-Some.here) = subst (Looking hash t c.args.hash P) c.in-Some.is c.loop-place.invariant in
    let lt : c.in-Some.here < length t.ops.items = looking_within hash t c.args.hash P c.in-Some.here l in
    let k = c.index-kept.result.now in
    let at : slice_get t.ops.items c.in-Some.here ≡ Some k = slice_get-get_or t.ops.items c.in-Some.here k lt ∙ ap Some (sym c.index-kept.ensures) in
    looking_goes_on hash t c.args.hash P c.requires.indexed c.in-Some.here k at l (λ alike. not_so c.are_alike.result c.if-are_alike.false (c.are_alike.ensures.1 (subst P (sym c.from_index-found.ensures) alike)))

pub returns-clause-none : goal.returns-clause-none
returns-clause-none g c =
    let f = forest_of c.args.ctx.now in
    let B = behaviour_of g.D.Dialects g.D.TypeKey.PartialEq.eq in
    let same = same_pairs g.D.Attr.PartialEq.eq in
    let hash = hash_in (dict_input g.D.Attr.Hash.hash_input) f in
    let t = c.args.self.now in
    let P : ArenaIndex → Type 0 = λ k. Alike B same f k c.args.op.index in
    let ended = subst (Looking hash t c.args.hash P) c.in_default.is c.loop-place.invariant in
    let respects = by_key-equal g.D.Attr.Hash.hash_input g.D.Attr.PartialEq.eq g.met.D.Attr.Hash.respects_eq in
    λ none k h alike. looking_ends hash t c.args.hash P ended k h (one_hash (dict_input g.D.Attr.Hash.hash_input) B same respects f k c.args.op.index alike ∙ sym c.requires.hashed) alike
