use Rattle.std.proofs.Common.{map, ap, Some}
use Rattle.std.specs.Option.{option_map}
use Rattle.ir_model_passes.specs.Meaning.{named_values}
use Rattle.ir_core_records.specs.Meaning.{op_record, value_of}
use Rattle.ir_run_passes.specs.AlikeHash.{fed_number}
use Rattle.ir_run_passes.proofs.Places.{seen_at, fed_more}
use Rattle.ir_run_passes.proofs.alike.hash_operands.Goals as goal

pub loop-index-preserved : goal.loop-index-preserved
loop-index-preserved g c =
    let r = op_record c.args.operation.now in
    let value = value_of c.get_operand.result.index in
    let named = seen_at (λ p. p.value) r.operands c.loop-index.index value c.get_operand.ensures in
    let numbered = seen_at (λ v. v.number) (named_values r) c.loop-index.index value.number (ap (option_map (λ v. v.number)) named) in
    fed_more fed_number c.args.state.now (map (λ v. v.number) (named_values r)) c.loop-index.index value.number numbered c.loop-index.state c.write_u64.new.self c.loop-index.invariant c.write_u64.ensures
