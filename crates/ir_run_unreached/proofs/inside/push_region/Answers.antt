use Rattle.std.proofs.Common.{◌≡◌, ◌∷◌, ◌++◌, [], map, sym, ap, subst, ◌∙◌}
use Rattle.ir_model.specs.ContextIds.{context_ids}
use Rattle.ir_model.specs.declared.ids.ArenaIndex.{ArenaIndex}
use Rattle.ir_model.specs.Forest.{Entity, a_region}
use Rattle.ir_core_queries.specs.Entities.{meant}
use Rattle.ir_run_unreached.specs.Marks.{Adds}
use Rattle.ir_run_unreached.proofs.Marking.{adds_as, adds_last}
use Rattle.ir_run_unreached.proofs.Slices.{seen_push}
use Rattle.ir_run_unreached.proofs.inside.push_region.Goals as goal

region_one : (e : Entity context_ids) (b x : ArenaIndex) → a_region b ≡ e → e ≡ a_region x → b ≡ x
region_one e b x k is = let z : a_region b ≡ a_region x = k ∙ is in cc

pub returns-in_ok-push-in-Region-clause-pushed : goal.returns-in_ok-push-in-Region-clause-pushed
returns-in_ok-push-in-Region-clause-pushed g c =
    let x = c.in-Region.region.index in
    let old = c.args.regions.now.items in
    let is : meant c.args.entity ≡ a_region x = ap meant c.in-Region.is in
    subst (λ xs. Adds (λ (b : ArenaIndex). a_region b ≡ meant c.args.entity) (map (λ p. p.index) old) xs) (sym (ap (λ xs. map (λ p. p.index) xs) c.in_ok-push-in-Region.ensures.items ∙ seen_push old (λ p. p.index) c.in-Region.region))
    (adds_as (λ (b : ArenaIndex). b ≡ x) (λ (b : ArenaIndex). a_region b ≡ meant c.args.entity) (map (λ p. p.index) old) _ (λ b. (λ e. ap a_region e ∙ sym is, λ k. region_one (meant c.args.entity) b x k is)) (adds_last (map (λ p. p.index) old) x))
