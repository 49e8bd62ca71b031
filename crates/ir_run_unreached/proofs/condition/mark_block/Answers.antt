use Rattle.std.proofs.Common.{◌≡◌, sym, ap, subst, ◌∙◌}
use Rattle.ir_model.specs.ContextIds.{context_ids, same_id}
use Rattle.ir_model.specs.declared.ids.ArenaIndex.{ArenaIndex}
use Rattle.ir_model.specs.Edits.{with_key}
use Rattle.ir_model.specs.Forest.{Entity, a_block}
use Rattle.ir_model.proofs.TwoRuns.{id_tells}
use Rattle.ir_core_queries.specs.Entities.{meant}
use Rattle.ir_run_unreached.specs.Marks.{Adds}
use Rattle.ir_run_unreached.proofs.Marking.{adds_as, adds_key}
use Rattle.ir_run_unreached.proofs.condition.mark_block.Goals as goal

block_one : (e : Entity context_ids) (b x : ArenaIndex) → a_block b ≡ e → e ≡ a_block x → b ≡ x
block_one e b x k is = let z : a_block b ≡ a_block x = k ∙ is in cc

pub returns-in_ok-get_or_create_unique-in-Block-clause-marks : goal.returns-in_ok-get_or_create_unique-in-Block-clause-marks
returns-in_ok-get_or_create_unique-in-Block-clause-marks g c =
    let x = c.in-Block.block.index in
    let old = c.args.marked.now in
    let is : meant c.args.entity ≡ a_block x = ap meant c.in-Block.is in
    subst (λ xs. Adds (λ (b : ArenaIndex). a_block b ≡ meant c.args.entity) old xs) (sym c.in_ok-get_or_create_unique-in-Block.ensures.stored)
    (adds_as (λ (b : ArenaIndex). b ≡ x) (λ (b : ArenaIndex). a_block b ≡ meant c.args.entity) old (with_key same_id old x) (λ b. (λ e. ap a_block e ∙ sym is, λ k. block_one (meant c.args.entity) b x k is)) (adds_key same_id id_tells old x))
