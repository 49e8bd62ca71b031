use Rattle.ir_core_queries.proofs.block.PtrBasicBlockBlockPlace.preds_are_linked.Goals as goal

pub returns : goal.returns
returns g c = (λ t. c.kept_uses.ensures.linked.0 (c.all_linked.ensures.0 t), λ linked. c.all_linked.ensures.1 (c.kept_uses.ensures.linked.1 linked))
