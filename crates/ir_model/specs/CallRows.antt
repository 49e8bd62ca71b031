-- Worked examples of the calls beside the edits, each beside a neighbour that is refused.
use Rattle.std.specs.Prelude.{◌≡◌, ◌≢◌, ◌↔◌, ℕ, Bool, true, false, not, if◌then◌else◌, List, [], ◌∷◌, Option, Some, None, codes, bytes_eq, nat_eq, ◌==◌}
use Rattle.ir_model.specs.declared.ids.Limits.{Limits}
use Rattle.ir_model.specs.Forest.{Text, Dialect, Behaviour, Value, of_block, Forest}
use Rattle.ir_model.specs.Nesting.{operands_of}
use Rattle.ir_model.specs.Edits.{StoredType, type_place}
use Rattle.ir_model.specs.Sessions.{Beside}
use Rattle.ir_model.specs.Stores.{with_aux, without_aux, with_aux_name}
use Rattle.ir_model.specs.Redirect.{redirect_uses}
use Rattle.ir_model.specs.BlockGraph.{IsPredecessor}
use Rattle.ir_model.specs.Calls.{set_type, set_name}
use Rattle.ir_model.specs.Predecessors.{ArePredecessorsBy, IsPredecessorAt}
use Rattle.ir_model.specs.ValueParents.{IsParentBlock, IsParentRegion}
use Rattle.ir_model.specs.Kinds.{Kinds, region_kind_interface, IsDominance, IsOtherKind, Implements, LacksInterface, HasKind}
use Rattle.ir_model.specs.Saved.{saved_place, with_saved, set_body}
use Rattle.ir_model.specs.AuxData.{IsNewAux, InsertsAux, HasAuxSlot, LacksAuxSlot, aux_by_name}
use Rattle.ir_model.specs.VerifierLists.{deduplicated, DifferBelow, IsFirstRepeat}
use Rattle.ir_model.specs.SmallForests.{Small, n0, n1, n2, same_small, small_ids, bare, behaviour, result, operand, successor, definition, operation, block, forest}
use Rattle.ir_model.specs.IdForests.{first, second, first_again}
use Rattle.ir_model.specs.WorkedRows.{use_, twice_named}

-- what is saved in these examples: a text, or a number of two kinds
pub data Said : Type 0 where
  said : Text → Said
  unsigned : ℕ → Said
  signed : ℕ → Said

-- whether both are one, of one kind
abbrev pub same_said : Said → Said → Bool
same_said (said a) (said b) = bytes_eq a b
same_said (unsigned m) (unsigned n) = nat_eq m n
same_said (signed m) (signed n) = nat_eq m n
same_said _ _ = false

-- 0 for a text, 1 and 2 for the two kinds of numbers
abbrev pub said_kind : Said → ℕ
said_kind (said a) = 0
said_kind (unsigned n) = 1
said_kind (signed n) = 2

-- a dialect whose type keys are their kinds, and whose bodies may name a type
abbrev pub spoken : Dialect
spoken = record { Key = ℕ; Body = Option ℕ; Attr = Unit {0}; Saved = Said; Aux = Text; Loc = Unit {0} }

-- keys are told apart by their kinds; operations of kind 7 say which regions have dominance
abbrev pub speaks : Behaviour spoken
speaks = record { same_key = nat_eq; first_body = None; unknown = tt; op_impls = λ kind interface. kind == 7 }

-- types of kind 0 implement the interface 16; of each operation the region 0 has no dominance, and every other region has it
abbrev pub kinds : Kinds spoken
kinds = record { attr_kind = λ _. 0; type_kind = λ key. key; type_impls = λ kind interface. kind == 0; saved_kind = said_kind; same_saved = same_said; dominates = λ kind index. not (index == 0) }

-- nothing is saved, and there is no auxiliary data
abbrev pub nothing_beside : Beside spoken
nothing_beside = record { saved = []; aux = λ _. None; aux_names = λ _. None; aux_passed = λ _. false }

-- ## Saved values

-- the values are saved one after the other
abbrev pub saved_all : List Said → Beside spoken → Beside spoken
saved_all [] b = b
saved_all (value ∷ values) b = saved_all values (with_saved kinds b value)

-- an equal text, a text twice, another one, and a number
abbrev pub some_saved : Beside spoken
some_saved = saved_all (said (codes "Hello") ∷ said (codes "Hello") ∷ said (codes "World") ∷ signed 71 ∷ []) nothing_beside

-- an equal value is found, and another one goes last
pub record SavedRows : Type 0 where
  pub kept : some_saved.saved ≡ said (codes "Hello") ∷ said (codes "World") ∷ signed 71 ∷ []
  pub hello : saved_place kinds some_saved (said (codes "Hello")) ≡ 0
  -- a text is not found by its kind alone
  pub world : saved_place kinds some_saved (said (codes "World")) ≡ 1
  pub number : saved_place kinds some_saved (signed 71) ≡ 2
  -- the same number of another kind is another value
  pub other_kind : (saved_all (unsigned 0 ∷ signed 0 ∷ []) nothing_beside).saved ≡ unsigned 0 ∷ signed 0 ∷ []

-- ## Bodies of types

-- two types without bodies
abbrev pub two_types : List (StoredType spoken)
two_types = record { key = 0; body = None } ∷ record { key = 1; body = None } ∷ []

-- a type whose body is set to its own handle keeps its handle and its key
pub record BodyRows : Type 0 where
  pub set : set_body two_types 1 (Some 1) ≡ record { key = 0; body = None } ∷ record { key = 1; body = Some 1 } ∷ []
  pub handle : type_place speaks (set_body two_types 1 (Some 1)) 1 ≡ 1
  -- the other type's body stays
  pub not_both : set_body two_types 1 (Some 1) ≢ record { key = 0; body = Some 1 } ∷ record { key = 1; body = Some 1 } ∷ []

-- ## Handles for kinds and interfaces

-- a handle is refused for another kind, and for an interface that the type's kind lacks
pub record HandleRows : Type 0 where
  pub other_kind : IsOtherKind kinds two_types 0 1 0
  pub its_kind : HasKind kinds two_types 0 0
  pub not_refused : (provided : ℕ) → IsOtherKind kinds two_types 0 0 provided → ⊥
  pub lacks : LacksInterface kinds two_types 1 16 1
  pub implements : Implements kinds two_types 0 16
  pub not_lacking : (provided : ℕ) → LacksInterface kinds two_types 0 16 provided → ⊥

-- ## Dominance

-- operations of kind 7 say which of their regions have dominance
abbrev pub asks : Behaviour bare
asks = record behaviour { op_impls = λ kind interface. if interface == region_kind_interface then kind == 7 else false }

-- the dialect would say no of each region 0, and yes of every other
abbrev pub no_first : Kinds bare
no_first = record { attr_kind = λ _. 0; type_kind = λ _. 0; type_impls = λ _ _. false; saved_kind = λ _. 0; same_saved = λ _ _. true; dominates = λ kind index. not (index == 0) }

-- an operation of kind 7 with two regions, and one of kind 5 with one
abbrev pub two_owners : Forest small_ids bare
two_owners = forest (operation 7 [] [] [] (n0 ∷ n1 ∷ []) ∷ operation 5 [] [] [] (n2 ∷ []) ∷ []) [] ([] ∷ [] ∷ [] ∷ [])

-- the region has this answer, and no other
pub record IsTold (g : Small) (answer : Bool) : Type 0 where
  pub told : IsDominance asks no_first two_owners g answer
  pub only : (other : Bool) → IsDominance asks no_first two_owners g other → other ≡ answer

-- the dialect is asked for the regions of kind 7, and for no others
pub record DominanceRows : Type 0 where
  pub asked : IsTold n0 false
  pub asked_again : IsTold n1 true
  pub not_asked : IsTold n2 true

-- ## Where a value stands

-- the operation n0, with a result, stands in the block n0 and holds the block n1, which has an argument; the operation n1 is unlinked
abbrev pub nested_block : Forest small_ids bare
nested_block = forest (operation 6 (n1 ∷ []) [] [] (n0 ∷ []) ∷ operation 0 (n2 ∷ []) [] [] [] ∷ []) (block (n0 ∷ []) ∷ record (block []) { arguments = definition n0 ∷ [] } ∷ []) ((n1 ∷ []) ∷ [])

-- the argument of the block n1
abbrev pub argument : Value small_ids
argument = record { definer = of_block n1; number = n0 }

-- an argument stands in its block, and a result where its operation does
pub record ParentRows : Type 0 where
  pub of_argument : IsParentBlock nested_block argument (Some n1)
  pub region : IsParentRegion nested_block argument (Some n0)
  -- not where the operation around its block does
  pub not_around : IsParentBlock nested_block argument (Some n0) → ⊥
  pub of_result : IsParentBlock nested_block (result n0 n1) (Some n0)
  pub unlinked : IsParentBlock nested_block (result n1 n2) None
  pub not_linked : IsParentBlock nested_block (result n1 n2) (Some n0) → ⊥

-- ## Predecessors

-- the operation n0 of the block n0 and the first operation of the block n1 name the block n2
abbrev pub two_ways : Forest small_ids bare
two_ways = forest (operation 3 [] [] (successor n0 n2 ∷ []) [] ∷ operation 4 [] [] (successor n1 n2 ∷ []) [] ∷ operation 2 [] [] [] [] ∷ []) (block (n0 ∷ []) ∷ block (n1 ∷ n2 ∷ []) ∷ block [] ∷ []) []

-- predecessors stand in the order of the uses, one for each
pub record PredecessorRows : Type 0 where
  pub in_order : ArePredecessorsBy two_ways n2 (use_ n0 n0 ∷ use_ n1 n1 ∷ []) (n0 ∷ n1 ∷ [])
  pub in_other_order : ArePredecessorsBy two_ways n2 (use_ n1 n1 ∷ use_ n0 n0 ∷ []) (n1 ∷ n0 ∷ [])
  pub not_out_of_order : ArePredecessorsBy two_ways n2 (use_ n1 n1 ∷ use_ n0 n0 ∷ []) (n0 ∷ n1 ∷ []) → ⊥
  pub first_by_that : IsPredecessorAt two_ways (use_ n1 n1 ∷ use_ n0 n0 ∷ []) 0 n1
  pub twice : ArePredecessorsBy (twice_named 4) n1 (use_ n1 n0 ∷ use_ n1 n1 ∷ []) (n0 ∷ n0 ∷ [])
  pub not_once : ArePredecessorsBy (twice_named 4) n1 (use_ n1 n0 ∷ use_ n1 n1 ∷ []) (n0 ∷ []) → ⊥
  -- any operation of a block counts, not its last alone
  pub by_its_first : IsPredecessor two_ways n2 n1
  pub not_itself : IsPredecessor two_ways n2 n2 → ⊥

-- ## Some uses, and types of named values

-- an operation that names the result of another one twice, and then that of a third
abbrev pub three_operands : Forest small_ids bare
three_operands = forest (operation 4 [] (operand n0 (result n1 n1) ∷ operand n1 (result n1 n1) ∷ operand n2 (result n2 n2) ∷ []) [] []
    ∷ operation 0 (n1 ∷ []) [] [] [] ∷ operation 0 (n2 ∷ []) [] [] [] ∷ []) [] []

-- a value with a name
abbrev pub named_value : Option Text → ℕ → Forest small_ids bare
named_value name ty = forest (record (operation 0 [] [] [] []) { results = record { number = n0; ty = ty; name = name } ∷ [] } ∷ []) [] []

-- the chosen use moves alone, and a type is set alone
pub record PartRows : Type 0 where
  pub one_moves : operands_of (redirect_uses three_operands (λ u. same_small u.number n0) (result n2 n2)) n0 ≡ operand n0 (result n2 n2) ∷ operand n1 (result n1 n1) ∷ operand n2 (result n2 n2) ∷ []
  pub none_move : operands_of (redirect_uses three_operands (λ u. false) (result n2 n2)) n0 ≡ operands_of three_operands n0
  pub typed : set_type (named_value (Some (codes "c0")) 0) (result n0 n0) 1 ≡ named_value (Some (codes "c0")) 1
  pub renamed : set_name (named_value (Some (codes "c0")) 0) (result n0 n0) None ≡ named_value None 0
  pub not_unnamed : set_type (named_value (Some (codes "c0")) 0) (result n0 n0) 1 ≢ named_value None 1

-- ## Auxiliary data

-- one slot, whose versions end at this one
abbrev pub one_slot : ℕ → Limits
one_slot last = record { values = 0; uses = 0; slots = 1; last_version = last }

-- data under the first index
abbrev pub with_data : Beside spoken
with_data = with_aux nothing_beside first (codes "data")

-- it was given a name, and then it was taken out
abbrev pub taken_out : Beside spoken
taken_out = without_aux (with_aux_name with_data (codes "name") first) first

-- a name still leads to its index when the data is gone, and the index does not come again
pub record AuxRows : Type 0 where
  pub inserted : InsertsAux (one_slot 3) nothing_beside (codes "data") first with_data
  pub no_second_slot : IsNewAux (one_slot 3) nothing_beside second → ⊥
  pub still_named : aux_by_name taken_out (codes "name") ≡ Some first
  pub not_forgotten : aux_by_name taken_out (codes "name") ≢ None
  pub gone : taken_out.aux first ≡ None
  pub other_index : aux_by_name (with_aux_name taken_out (codes "name") second) (codes "name") ≡ Some second
  pub next : IsNewAux (one_slot 3) taken_out first_again
  pub not_again : IsNewAux (one_slot 3) taken_out first → ⊥
  pub spent : LacksAuxSlot (one_slot 1) taken_out
  pub not_spent : LacksAuxSlot (one_slot 3) taken_out → ⊥
  pub a_slot_left : HasAuxSlot (one_slot 3) taken_out
  pub no_slot_left : HasAuxSlot (one_slot 3) with_data → ⊥

-- ## Verifiers

-- the lists of an owner are joined, and those of another one stay its own
pub record VerifierRows : Type 0 where
  pub one_owner : deduplicated ((7, 1 ∷ 2 ∷ []) ∷ (7, 1 ∷ 3 ∷ []) ∷ (7, 2 ∷ 4 ∷ []) ∷ []) ≡ (7, 1 ∷ 2 ∷ 3 ∷ 4 ∷ []) ∷ []
  pub two_owners : deduplicated ((7, 1 ∷ 2 ∷ []) ∷ (8, 1 ∷ []) ∷ (7, 1 ∷ 3 ∷ []) ∷ []) ≡ (7, 1 ∷ 2 ∷ 3 ∷ []) ∷ (8, 1 ∷ []) ∷ []

-- ## Keys of dictionaries

-- two keys
abbrev pub different_keys : List Text
different_keys = codes "a" ∷ codes "b" ∷ []

-- the first key stands at three places, and the second at two
abbrev pub repeated_keys : List Text
repeated_keys = codes "a" ∷ codes "b" ∷ codes "a" ∷ codes "b" ∷ codes "a" ∷ []

-- the first place whose key stood earlier is told, with the place where it stood, and no other two places are
pub record KeyRows : Type 0 where
  pub told : (earlier later : ℕ) → IsFirstRepeat repeated_keys earlier later ↔ ((earlier ≡ 0) × (later ≡ 2))
  pub differ : DifferBelow repeated_keys 2
  pub not_below_three : DifferBelow repeated_keys 3 → ⊥
  -- of different keys none are told
  pub none_told : (earlier later : ℕ) → IsFirstRepeat different_keys earlier later → ⊥
  pub all_differ : DifferBelow different_keys 2
