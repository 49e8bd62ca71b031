use Rattle.ir_model.specs.Nesting.{numbers_of}
use Rattle.ir_core_records.specs.Meaning.{definer_of}
use Rattle.ir_core_context.specs.State.{forest_of}
use Rattle.ir_core_queries.proofs.FindIndex.{live-iff}
use Rattle.ir_core_queries.proofs.value.ValueValueQueries.is_live.Goals as goal

pub returns : goal.returns
returns g c = live-iff c.try_find_index.result (numbers_of (forest_of c.args.ctx.now) (definer_of c.args.self.index.definer)) c.args.self.index.number c.is_ok.result c.is_ok.ensures.value c.try_find_index.ensures.found c.try_find_index.ensures.missing
