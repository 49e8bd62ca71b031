use Rattle.std.proofs.Common.{◌≡◌, ◌∙◌, true, false, Option, Some, inl, inr, refl, sym, ap, subst}
use Rattle.std.specs.Option.{option_map}
use Rattle.ir_model.specs.ContextIds.{context_ids}
use Rattle.ir_model.specs.Forest.{Entity, same_entity}
use Rattle.ir_model.specs.Nesting.{In, children}
use Rattle.ir_model.specs.Parent.{IsParent}
use Rattle.ir_model.proofs.KeepsErase.{same_self, same_tells}
use Rattle.ir_model.proofs.TwoRuns.{lawful}
use Rattle.ir_core_records.specs.Meaning.{entity_of, forest_in}
use Rattle.ir_core_queries.proofs.entity.is_at.Goals as goal

differ : (x y : Entity context_ids) → x ≡ y → same_entity context_ids x y ≡ false → ⊥
differ x y e f =
    let h : same_entity context_ids x y ≡ true = ap (λ z. same_entity context_ids x z) (sym e) ∙ same_self context_ids lawful x in
    cc

pub returns-in-Some : goal.returns-in-Some
returns-in-Some g c =
    let f = forest_in c.args.records.now in
    let inner = entity_of c.args.inner in
    let outer = entity_of c.args.outer in
    let parent = entity_of c.in-Some.parent in
    let up : In inner (children f parent) = subst (λ (o : Option _). IsParent f inner (option_map entity_of o)) c.in-Some.is c.parent_of.ensures in (
      λ yes. inr (subst (λ p. In inner (children f p)) (same_tells context_ids lawful parent outer (sym c.are_one-in-Some.ensures ∙ yes)) up),
      λ at. elim at [
        | inl e ↦ absurd (differ inner outer e (sym c.are_one.ensures ∙ c.if-are_one.false))
        | inr h ↦ c.are_one-in-Some.ensures ∙ ap (λ p. same_entity context_ids p outer) (c.requires.formed.one_list inner parent outer up h) ∙ same_self context_ids lawful outer
      ],
    )
