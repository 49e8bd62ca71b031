use Rattle.std.proofs.Common.{◌≡◌, None, sym, ap, ◌∙◌, rules}
use Rattle.std.specs.Prelude.{bytes_eq}
use Rattle.std.specs.Option.{option_map}
use Rattle.ir_model.specs.Changes.{put}
use Rattle.ir_core_data.specs.Names.{index_at}
use Rattle.ir_core_data.proofs.NameLemmas.{names-put}
use Rattle.ir_core_data.proofs.aux_names.AuxNames.set.Goals as goal

pub returns-in_err-insert-clause-only_new : goal.returns-in_err-insert-clause-only_new
returns-in_err-insert-clause-only_new c =
    let none : index_at c.args.self.now c.args.name ≡ None =
    ap (λ names. index_at names c.args.name) (sym c.self.view_is) ∙ ap (option_map (λ found. found.index)) c.in_err-insert.ensures.absent in
    search rules

pub returns-clause-set : goal.returns-clause-set
returns-clause-set c =
    names-put c.self.inside.indices.entries c.insert.new.self.entries c.args.name c.args.index c.in_ok-insert.ensures.updates.0 ∙ ap (λ names. put bytes_eq c.args.name c.args.index.index (index_at names)) c.self.view_is
