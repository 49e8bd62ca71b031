use Rattle.std.proofs.Common.{sym, refl}
use Rattle.std.proofs.lemmas.Option.{slice_get_read}
use Rattle.ir_base_dialects.proofs.VerifierLemmas.{DifferBelow-more, repeats}
use Rattle.ir_base_dialects.proofs.verifier_lists.verify_dict_keys.Goals as goal

pub returns-in-Some : goal.returns-in-Some
returns-in-Some c =
    repeats (λ k. k.id) c.args.keys.now c.loop-second.second c.index-keys-second.result
    (slice_get_read _ _ _ _ refl c.loop-second-test.true c.index-keys-second.is)
    c.loop-second.invariant c.in-Some.first (sym c.in-Some.ensures)

pub loop-second-preserved : goal.loop-second-preserved
loop-second-preserved c =
    DifferBelow-more (λ k. k.id) c.args.keys.now c.loop-second.second c.index-keys-second.result
    (slice_get_read _ _ _ _ refl c.loop-second-test.true c.index-keys-second.is)
    c.loop-second.invariant (sym c.in_default.ensures)
