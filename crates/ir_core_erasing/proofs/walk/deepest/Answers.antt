use Rattle.std.proofs.Common.{◌≡◌, ◌∷◌, [], ◌-◌, ◌<◌, ◌≤◌, suc, Some, inl, refl, sym, ap, ◌∙◌, subst, arith}
use Rattle.std.specs.Option.{option_map}
use Rattle.ir_model.specs.Nesting.{In, itself, below, children}
use Rattle.ir_model.specs.Parent.{first_of}
use Rattle.ir_model.proofs.Nests.{In-right}
use Rattle.ir_core_records.specs.Meaning.{entity_of, forest_in}
use Rattle.ir_core_nesting.specs.Climbs.{depth, size}
use Rattle.ir_core_erasing.specs.Walks.{subtree, EndsWith}
use Rattle.ir_core_erasing.proofs.Posts.{starts-down, starts-leaf}
use Rattle.ir_core_erasing.proofs.Siblings.{last-is, last-ends, last-none}
use Rattle.ir_core_erasing.proofs.Subtrees.{subtree-is}
use Rattle.ir_core_erasing.proofs.walk.deepest.Goals as goal

pub loop-child-init : goal.loop-child-init
loop-child-init g c = record { inside = itself; starts = λ y h. h }

pub loop-child-preserved : goal.loop-child-preserved
loop-child-preserved g c =
    let t = c.args.records.now in
    let here = entity_of c.loop-child.current in
    let child = entity_of c.in-Some.child in
    let last : EndsWith (children (forest_in t) here) child = last-ends (children (forest_in t) here) child (sym (last-is t c.requires.nested here) ∙ sym c.in-Some.ensures) in
    let inner : In child (children (forest_in t) here) = subst (In child) (sym last.1) (In-right child last.0 (child ∷ []) (inl refl)) in
    record {
      inside = below inner c.loop-child.invariant.inside;
      starts = λ y h. c.loop-child.invariant.starts y (starts-down (children (forest_in t)) (subtree t) (subtree-is c.recall_depths_follow.ensures.below c.recall_depths_follow.ensures.fits t c.requires.nested c.requires.formed) here child y last h);
    }

pub loop-child-smaller : goal.loop-child-smaller
loop-child-smaller g c =
    let t = c.args.records.now in
    let here = entity_of c.loop-child.current in
    let child = entity_of c.in-Some.child in
    let last : EndsWith (children (forest_in t) here) child = last-ends (children (forest_in t) here) child (sym (last-is t c.requires.nested here) ∙ sym c.in-Some.ensures) in
    let inner : In child (children (forest_in t) here) = subst (In child) (sym last.1) (In-right child last.0 (child ∷ []) (inl refl)) in
    let more : depth t (Some child) ≡ suc (depth t (Some here)) = c.recall_depths_follow.ensures.below t child here c.requires.nested c.requires.formed inner in
    let fits : depth t (Some child) ≤ suc (size t) = c.recall_depths_follow.ensures.fits t (Some child) in
    let smaller : suc (size t) - depth t (Some child) < suc (size t) - depth t (Some here) = omega (arith, more, fits) in
    smaller

pub returns-clause-leaf : goal.returns-clause-leaf
returns-clause-leaf g c =
    let t = c.args.records.now in
    let here = entity_of c.loop-child.current in
    last-none (children (forest_in t) here) (sym (last-is t c.requires.nested here) ∙ sym c.last_in_record.ensures ∙ ap (option_map entity_of) c.in_default.is)

pub returns-clause-first : goal.returns-clause-first
returns-clause-first g c =
    let t = c.args.records.now in
    let here = entity_of c.loop-child.current in
    let none = last-none (children (forest_in t) here) (sym (last-is t c.requires.nested here) ∙ sym c.last_in_record.ensures ∙ ap (option_map entity_of) c.in_default.is) in
    let first = c.loop-child.invariant.starts here (starts-leaf (children (forest_in t)) (subtree t) (subtree-is c.recall_depths_follow.ensures.below c.recall_depths_follow.ensures.fits t c.requires.nested c.requires.formed) here none) in
    ap first_of first.1
