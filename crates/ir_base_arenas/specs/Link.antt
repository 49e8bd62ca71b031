-- How a link that may be absent lies in its two fields. No public clause cites this module.
use Rattle.std.specs.Prelude.{◌≡◌, ℕ, zero, suc, Option, Some, None, refl}
use Rattle.std.proofs.Common.{sym}
use Rattle.ir_model.specs.declared.ids.ArenaIndex.{ArenaIndex}
use Rattle.ir_base_arenas.specs.declared.link.Link.TheInside.{Inside}

-- the index with these fields; slot 0 stands for none
abbrev pub link_index : ℕ → ℕ → Option ArenaIndex
link_index zero version = None
link_index (suc k) version = Some (record { slot = suc k; version = version })

-- the fields of an index, or zeros
abbrev pub link_fields : Option ArenaIndex → Inside
link_fields None = record { slot = 0; version = 0 }
link_fields (Some i) = record { slot = i.slot; version = i.version }

-- an absent link has version 0
abbrev pub IsLink : Inside → Type 0
IsLink l = l.slot ≡ 0 → l.version ≡ 0

-- the fields are those of the index that they show
pub fields_again : (slot version : ℕ) → (slot ≡ 0 → version ≡ 0) → link_fields (link_index slot version) ≡ record { slot = slot; version = version }
fields_again zero version is = λ i. record { slot = 0; version = sym (is refl) i }
fields_again (suc k) version is = refl
