use Rattle.ir_core_data.proofs.SavedLemmas.{nowhere, on_refusal}
use Rattle.ir_core_data.proofs.side_data.SideData.save.Goals as goal

pub returns-clause-only_new : goal.returns-clause-only_new
returns-clause-only_new g c =
    on_refusal c.get_or_create_unique.result (nowhere (λ kept. g.D.Saved.PartialEq.eq kept c.args.value) c.args.self.now.saved) c.get_or_create_unique.ensures.only_new
