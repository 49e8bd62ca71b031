-- What names lead to after one was set.
use mathlib.Core.Path.{fun_ext}
use Rattle.std.proofs.Common.{◌≡◌, ℕ, List, Bool, true, false, cond, Option, Some, refl, ap, ◌∙◌}
use Rattle.std.specs.Prelude.{bytes_eq}
use Rattle.std.specs.Option.{option_map}
use Rattle.std.specs.Cmp.Lexicographic.{nat_list_eq_equiv}
use Rattle.std.specs.Map.{lookup}
use Rattle.ir_model.specs.Changes.{put}
use Rattle.ir_core_data.specs.declared.aux_index.AuxDataIndex.{AuxDataIndex}
use Rattle.ir_core_data.specs.Names.{NameTable, index_at}

put_in : (i : AuxDataIndex) (b : Bool) (m : Option AuxDataIndex) → option_map (λ found. found.index) (cond b (Some i) m) ≡ cond b (Some i.index) (option_map (λ found. found.index) m)
put_in i true m = refl
put_in i false m = refl

-- where one name was given an index, it leads there, and the others lead where they led
pub names-put : (old new : NameTable) (name : List ℕ) (i : AuxDataIndex)
    → ((q : List ℕ) → lookup (bytes_eq q) new ≡ cond (bytes_eq name q) (Some i) (lookup (bytes_eq q) old)) → index_at new ≡ put bytes_eq name i.index (index_at old)
names-put old new name i puts =
    fun_ext (λ q.
    ap (option_map (λ found. found.index)) (puts q ∙ ap (λ b. cond b (Some i) (lookup (bytes_eq q) old)) (nat_list_eq_equiv.symm name q))
    ∙ put_in i (bytes_eq q name) (lookup (bytes_eq q) old))
