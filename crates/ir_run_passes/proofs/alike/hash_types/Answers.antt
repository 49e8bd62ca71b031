use Rattle.ir_model_passes.specs.Meaning.{result_types}
use Rattle.ir_core_records.specs.Meaning.{op_record}
use Rattle.ir_run_passes.specs.AlikeHash.{fed_number}
use Rattle.ir_run_passes.proofs.Places.{seen_at, fed_more}
use Rattle.ir_run_passes.proofs.alike.hash_types.Goals as goal

pub loop-index-preserved : goal.loop-index-preserved
loop-index-preserved g c =
    let r = op_record c.args.operation.now in
    let place = c.get_type.result.place in
    fed_more fed_number c.args.state.now (result_types r) c.loop-index.index place (seen_at (λ d. d.ty) r.results c.loop-index.index place c.get_type.ensures) c.loop-index.state c.write_usize.new.self c.loop-index.invariant c.write_usize.ensures
