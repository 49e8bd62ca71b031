-- Worked examples of names: unique names, and identifiers that clash.
use Rattle.std.specs.Prelude.{◌≡◌, ◌↔◌, List, [], ◌∷◌, map, Some, None, codes}
use Rattle.ir_model.specs.ContextIds.{context_ids}
use Rattle.ir_model.specs.Forest.{Text, Forest, Value, of_op}
use Rattle.ir_model.specs.Nesting.{In}
use Rattle.ir_model.specs.Names.{value_id, block_id, unique_name, IsValueName, IsBlockName}
use Rattle.ir_model.specs.Legaliser.{Given, nothing_given, name_of, NamesInTurn}
use Rattle.ir_model.specs.SmallForests.{bare}
use Rattle.ir_model.specs.IdForests.{first, second, first_again, three, op_of_kind, block_with}

-- ## Unique names

-- a block without a label, one with the label `entry`, and a constant whose result has the given name `c0`
abbrev pub named : Forest context_ids bare
named = record {
  ops = three (Some (record (op_of_kind 0 [] []) { results = record { number = 0; ty = 0; name = Some (codes "c0") } ∷ [] })) None None;
  blocks = three (Some (block_with [])) (Some (record (block_with []) { label = Some (codes "entry") })) None;
  regions = λ _. None;
}

-- the result of the constant
abbrev pub constant : Value context_ids
constant = record { definer = of_op first; number = 0 }

-- a unique name is the text of the id, behind the given name and `_` where one is given
pub record UniqueNames : Type 0 where
  pub unlabelled : IsBlockName named first (codes "block1v1")
  pub labelled : IsBlockName named second (codes "entry_block2v1")
  pub value : IsValueName named constant (codes "c0_v0")
  -- the name is not that of another version of the slot
  pub later_version : block_id first_again ≡ codes "block1v3"
  pub no_other_version : IsBlockName named first (codes "block1v3") → ⊥
  -- the given name is not left out, and stands neither alone nor behind
  pub not_without : IsBlockName named second (codes "block2v1") → ⊥
  pub not_alone : IsBlockName named second (codes "entry") → ⊥
  pub not_behind : IsValueName named constant (codes "v0_c0") → ⊥
  -- a value that is given the name of a block is still told apart
  pub like_a_block : unique_name (Some (codes "block1")) (value_id 0) ≡ codes "block1_v0"

-- ## Identifiers that clash

-- sources, and the identifiers that they are given in this order
abbrev pub clashing_calls : List (Text × Text)
clashing_calls =
    (codes "hello_", codes "hello_") ∷ (codes "hello.", codes "hello__0") ∷ (codes "hello__0", codes "hello__0_1") ∷ (codes "", codes "_") ∷ (codes "_", codes "__2") ∷ []

-- sources whose identifiers clash are given different ones
pub record LegaliseClashes : Type 0 where
  pub given : (s : Given) × NamesInTurn (nothing_given 0) clashing_calls s
  -- in this order they are given nothing else
  pub alone : (calls : List (Text × Text)) (s : Given) → map (λ call. call.0) calls ≡ map (λ call. call.0) clashing_calls → NamesInTurn (nothing_given 0) calls s → calls ≡ clashing_calls
  -- each identifier leads back to its source, and to no other
  pub back : (s : Given) (call : Text × Text) (source : Text) → NamesInTurn (nothing_given 0) clashing_calls s → In call clashing_calls → (name_of s source ≡ Some call.1) ↔ (source ≡ call.0)
  -- an identifier that nothing has is given no number
  pub not_numbered : (s : Given) → NamesInTurn (nothing_given 0) ((codes "hello_", codes "hello__0") ∷ []) s → ⊥
  -- the second source is not given the first one's name
  pub not_twice : (s : Given) → NamesInTurn (nothing_given 0) ((codes "hello_", codes "hello_") ∷ (codes "hello.", codes "hello_") ∷ []) s → ⊥
