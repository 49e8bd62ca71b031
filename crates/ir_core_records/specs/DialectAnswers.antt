-- What the code of a dialect answers, as the definitions ask it.
use Rattle.std.specs.Prelude.{ℕ, Bool}
use Rattle.ir_model.specs.Forest.{Behaviour}
use Rattle.ir_model.specs.Kinds.{Kinds}
use Rattle.ir_base_dialects.specs.declared.dialects.Dialects as dialects
use Rattle.ir_core_records.specs.Meaning.{closed}

-- which type keys are equal, the first body of a type, the unknown location, and which kinds of operations implement which interfaces
abbrev pub behaviour : {A K B S X L : Type 0} → (K → K → Bool) → B → L → (ℕ → ℕ → Bool) → Behaviour (closed A K B S X L)
behaviour same_key first_body unknown op_impls = record { same_key = same_key; first_body = first_body; unknown = unknown; op_impls = op_impls }

-- the behaviour that the tables of a dialect give, with the equality of its type keys
abbrev pub behaviour_of : {D A K B S X L : Type 0} → dialects.Ghosts D A K B S X L → (K → K → Bool) → Behaviour (closed A K B S X L)
behaviour_of tables same_key = behaviour same_key tables.first_body tables.unknown tables.op_impls_of

-- the kinds of attributes, types and saved data, what kinds of types implement, which saved data are equal, and which regions have SSA dominance
abbrev pub kinds : {A K B S X L : Type 0} → (A → ℕ) → (K → ℕ) → (ℕ → ℕ → Bool) → (S → ℕ) → (S → S → Bool) → (ℕ → ℕ → Bool) → Kinds (closed A K B S X L)
kinds attr_kind type_kind type_impls saved_kind same_saved dominates = record {
  attr_kind = attr_kind;
  type_kind = type_kind;
  type_impls = type_impls;
  saved_kind = saved_kind;
  same_saved = same_saved;
  dominates = dominates;
}

-- the kinds that the tables of a dialect give, with the equality of its saved data
abbrev pub kinds_of : {D A K B S X L : Type 0} → dialects.Ghosts D A K B S X L → (S → S → Bool) → Kinds (closed A K B S X L)
kinds_of tables same_saved = kinds tables.attr_kind_of tables.type_kind_of tables.type_impls_of tables.saved_kind_of same_saved tables.region_ssa_dominance_of
