use Rattle.std.proofs.Common.{◌≡◌, ap, subst, sym}
use Rattle.ir_core_queries.specs.State.{forest_of}
use Rattle.ir_model.specs.ContextIds.{same_id}
use Rattle.ir_model.specs.Changes.{in_blocks, without}
use Rattle.ir_model.specs.Nesting.{In, ops_of}
use Rattle.ir_model.proofs.Back.{slice_get-in}
use Rattle.generic_text.specs.Left.{GenericForest, StandsApartBut}
use Rattle.generic_text.proofs.BuiltOn.{either_way}
use Rattle.generic_text.proofs.Emptied.{but-unlinked}
use Rattle.generic_text.proofs.enclosing.take_first_out.Goals as goal

pub returns-in-Some : goal.returns-in-Some
returns-in-Some c = λ first apart new.
    let f = forest_of c.args.ctx.now in
    let g = forest_of c.unlink.new.ctx in
    let block = c.args.block.index in
    let o = c.in-Some.op.index in
    let there : In o (ops_of f block) = slice_get-in (ops_of f block) 0 o (sym c.in-Some.ensures.first) in
    either_way c.unlink.result c.unlink.ensures.forest c.unlink.ensures.err (λ (done : g ≡ in_blocks f (without same_id o)). but-unlinked block first f apart new g o c.recall_well_formed.ensures.nested there done)
    (λ (same : c.unlink.new.ctx ≡ c.args.ctx.now). subst (λ (k : GenericForest). StandsApartBut block first k) (sym (ap (λ s. forest_of s) same)) apart)
