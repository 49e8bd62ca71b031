use Rattle.std.proofs.Common.{◌≡◌, ap, ◌∙◌, rules}
use Rattle.std.specs.Prelude.{bytes_eq}
use Rattle.std.specs.Map.{lookup}
use Rattle.std.specs.Option.{option_map}
use Rattle.ir_core_data.specs.Names.{index_at}
use Rattle.ir_core_data.proofs.aux_names.AuxNames.get.Goals as goal

pub returns : goal.returns
returns c =
    let found : c.copied.result ≡ lookup (bytes_eq c.args.name.now) c.self.inside.indices.entries = search rules in
    ap (option_map (λ found. found.index)) found ∙ ap (λ names. index_at names c.args.name.now) c.self.view_is
