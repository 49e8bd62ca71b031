-- What verification may answer in the worked examples.
use mathlib.Core.Path.{◌≡◌, refl, sym, ap, ◌∙◌, subst}
use Rattle.std.proofs.Common.{ℕ, ◌⊎◌, inl, inr, Bool, true, false, Option, Some, None, List, [], ◌∷◌, ◌++◌, map, cond, length, length-append, ◌+◌, arith}
use Rattle.std.specs.Prelude.{codes}
use Rattle.std.specs.Option.{option_map_or}
use Rattle.ir_model.specs.declared.ids.ArenaIndex.{ArenaIndex}
use Rattle.ir_model.specs.ContextIds.{context_ids, same_id}
use Rattle.ir_model.specs.Forest.{BlockRecord, Text, Forest, Named, Entity, an_op, a_block, a_region, OpRecord, a_value, the_block}
use Rattle.ir_model.specs.Nesting.{In, Inside, itself, below, IsLinked, list_of, names_of, children, ops_of, blocks_of, regions_of}
use Rattle.ir_model.specs.BlockGraph.{implements, terminator, is_terminator_interface, no_terminator_interface}
use Rattle.ir_model.specs.Parent.{Adjacent}
use Rattle.ir_model.specs.Names.{IsBlockName}
use Rattle.ir_model.specs.Faults.{Fault, NamesBlock, the_entity, NoParent, MissingTerminator, TerminatorNotLast, EntryHasPred, OperandNotUseOfDef, Verifier}
use Rattle.ir_model.specs.VerifyAnswers.{VerifyErr, block_fault, BlockFault, missing_terminator, terminator_not_last, no_parent, entry_has_pred, operand_not_use_of_def, verifier_fault, out_of_memory, MayAnswer}
use Rattle.ir_model.specs.SmallForests.{bare, behaviour}
use Rattle.ir_model.specs.IdForests.{first, second, third, three, op_of_kind, block_with}
use Rattle.ir_model.specs.FaultRows.{Stands, no_checks, loop, naming_twice, lone_block, with_empty_block, return_first, unlinked_user}
use Rattle.ir_model.specs.AnswerRows.{returning, beside_a_block, AnswersAre, AnswerRows}
use Rattle.ir_model.proofs.NamedRows.{block_one, block_two, one_block_name}
use Rattle.ir_model.proofs.VerifierLaws.{told}
use Rattle.ir_model.proofs.Insides.{inside_list}
use Rattle.ir_model.proofs.Nests.{In-map_back}
use Rattle.ir_model.proofs.FaultRows.{adjacent_in, inside_linked, at_three, no_ops, unlinked, only_it, loop_alone, twice_alone, by_terminator, faults_stand, entry_block}

-- it holds of each of a list
abbrev Each : (VerifyErr → Type 0) → List VerifyErr → Type 0
Each P [] = Unit {0}
Each P (e ∷ es) = P e × Each P es

each : (P : VerifyErr → Type 0) (es : List VerifyErr) → Each P es → (e : VerifyErr) → In e es → P e
each P [] h e i = elim i [ ]
each P (x ∷ es) h e (inl q) = subst P (sym q) h.0
each P (x ∷ es) h e (inr i) = each P es h.1 e i

module _ (f : Forest context_ids bare) (root : Entity context_ids) (errs : List VerifyErr) where
  -- the answers are those that tell the faults, and want of memory where one of them names a block
  answers : ((fault : Fault) → Stands f root fault → In (told fault) errs) → ((fault : Fault) → NamesBlock fault → Stands f root fault → In out_of_memory errs)
      → Each (MayAnswer behaviour f [] no_checks (the_entity root)) errs → AnswersAre f root errs
  answers there memory may err = (by err, each (MayAnswer behaviour f [] no_checks (the_entity root)) errs may err)
    where
      by : (err : VerifyErr) → MayAnswer behaviour f [] no_checks (the_entity root) err → In err errs
      by (block_fault no_parent name) h = there (NoParent name) h
      by (block_fault missing_terminator name) h = there (MissingTerminator name) h
      by (block_fault terminator_not_last name) h = there (TerminatorNotLast name) h
      by (block_fault entry_has_pred name) h = there (EntryHasPred name) h
      by operand_not_use_of_def h = there OperandNotUseOfDef h
      by (verifier_fault code) h = there (Verifier code) h
      by out_of_memory (inl h) = memory h.0 h.1 h.2
      by out_of_memory (inr h) = absurd h.2

-- what holds of three records and of none holds of all of a table
pub any_three : {R : Type 0} (P : Option R → Type 0) (a b c : Option R) → P a → P b → P c → P None → (i : ArenaIndex) → P (three a b c i)
any_three P a b c ha hb hc none i = by (same_id i first) (same_id i second) (same_id i third)
  where
    by : (t u v : Bool) → P (cond t a (cond u b (cond v c None)))
    by true u v = ha
    by false true v = hb
    by false false true = hc
    by false false false = none

-- what the record of an operation names, and whether its kind implements an interface
abbrev names_by : Option (OpRecord context_ids bare) → List (Named context_ids)
names_by m = map (λ p. a_value p.value) (list_of (λ (r : OpRecord context_ids bare). r.operands) m) ++ map (λ p. the_block p.block) (list_of (λ (r : OpRecord context_ids bare). r.successors) m)

abbrev implements_by : ℕ → Option (OpRecord context_ids bare) → Bool
implements_by interface m = option_map_or (λ (r : OpRecord context_ids bare). behaviour.op_impls r.kind interface) m false

-- whether a record with regions is that of a kind whose blocks need no terminator
abbrev NeedsNone : ArenaIndex → Option (OpRecord context_ids bare) → Type 0
NeedsNone g m = In g (list_of (λ (r : OpRecord context_ids bare). r.regions) m) → implements_by no_terminator_interface m ≡ false → ⊥

-- ## Forests of one block that nothing names

module _ (ops : ArenaIndex → Option (OpRecord context_ids bare)) (os : List ArenaIndex) (regions : ArenaIndex → Option (List ArenaIndex)) where
  abbrev F : Forest context_ids bare
  F = record { ops = ops; blocks = three (Some (block_with os)) None None; regions = regions }

  its_name : IsBlockName F first (codes "block1v1")
  its_name = record { value = _; found = refl; holds = sym block_one }

  only_block : (b : ArenaIndex) (name : Text) → IsBlockName F b name → b ≡ first
  only_block b name h = by (at_three (Some (block_with os)) None None b)
    where
      by : ((b ≡ first) × (F.blocks b ≡ Some (block_with os))) ⊎ ((b ≡ second) × (F.blocks b ≡ None)) ⊎ ((b ≡ third) × (F.blocks b ≡ None)) ⊎ (F.blocks b ≡ None) → b ≡ first
      by (inl p) = p.0
      by (inr (inl p)) = absurd (let e : Some h.value ≡ None = sym h.found ∙ p.1 in cc)
      by (inr (inr (inl p))) = absurd (let e : Some h.value ≡ None = sym h.found ∙ p.1 in cc)
      by (inr (inr (inr p))) = absurd (let e : Some h.value ≡ None = sym h.found ∙ p in cc)

  only_name : (b : ArenaIndex) (name : Text) → IsBlockName F b name → name ≡ codes "block1v1"
  only_name b name h = one_block_name F first name (codes "block1v1") (subst (λ c. IsBlockName F c name) (only_block b name h) h) its_name

  module _ (none : (o : ArenaIndex) → names_of F o ≡ []) where
    unnamed : (b o : ArenaIndex) → In (the_block b) (names_of F o) → ⊥
    unnamed b o h = let k : In {A = Named context_ids} (the_block b) [] = subst (In (the_block b)) (none o) h in k

    -- at the operation that holds the block, one of two faults stands
    held : (fault : Fault) → Stands F (an_op first) fault → (fault ≡ TerminatorNotLast (codes "block1v1")) ⊎ (fault ≡ MissingTerminator (codes "block1v1"))
    held (NoParent name) h = absurd (h.3 (inside_linked F (an_op first) (a_block h.0) h.1 (λ e. cc)))
    held (MissingTerminator name) h = inr (ap MissingTerminator (only_name h.0 name h.2))
    held (TerminatorNotLast name) h = inl (ap TerminatorNotLast (only_name h.1 name h.5))
    held (EntryHasPred name) h = absurd (unnamed h.0 h.4.0 h.4.1)
    held OperandNotUseOfDef h = absurd (unnamed h.0 h.2.0 h.2.1)
    held (Verifier code) h = absurd h.2

-- the way down to the block
to_block : (kind : ℕ) → Inside (return_first kind) (an_op first) (a_block first)
to_block kind = below {c = a_region first} (inl refl) (below {c = an_op first} (inl refl) itself)

-- ## The rows

-- the block by its name, and want of memory
abbrev one_of : BlockFault → List VerifyErr
one_of fault = block_fault fault (codes "block1v1") ∷ out_of_memory ∷ []

lone_answers : AnswersAre lone_block (a_block first) (one_of no_parent)
lone_answers = answers lone_block (a_block first) (one_of no_parent) there (λ fault n h. inr (inl refl)) (faults_stand.no_parent, (inl (NoParent (codes "block1v1"), tt, faults_stand.no_parent), tt))
  where
    there : (fault : Fault) → Stands lone_block (a_block first) fault → In (told fault) (one_of no_parent)
    there (NoParent name) h = inl (ap (block_fault no_parent) (only_name (λ _. None) [] (λ _. None) h.0 name h.2))
    there (MissingTerminator name) h = elim h.3.1.2 [ ]
    there (TerminatorNotLast name) h = let e : false ≡ true = h.3.0 in cc
    there (EntryHasPred name) h = elim h.4.1 [ ]
    there OperandNotUseOfDef h = elim h.2.1 [ ]
    there (Verifier code) h = absurd h.2

module _ (kind : ℕ) where
  empty_names : (o : ArenaIndex) → names_of (with_empty_block kind) o ≡ []
  empty_names = any_three (λ m. names_by m ≡ []) (Some (op_of_kind kind [] (first ∷ []))) None None refl refl refl refl

  return_names : (o : ArenaIndex) → names_of (return_first kind) o ≡ []
  return_names = any_three (λ m. names_by m ≡ []) (Some (op_of_kind kind [] (first ∷ []))) (Some (op_of_kind 2 [] [])) (Some (op_of_kind 0 [] [])) refl refl refl refl

  empty_held : (fault : Fault) → Stands (with_empty_block kind) (an_op first) fault → (fault ≡ TerminatorNotLast (codes "block1v1")) ⊎ (fault ≡ MissingTerminator (codes "block1v1"))
  empty_held = held (with_empty_block kind).ops [] (with_empty_block kind).regions empty_names

  return_held : (fault : Fault) → Stands (return_first kind) (an_op first) fault → (fault ≡ TerminatorNotLast (codes "block1v1")) ⊎ (fault ≡ MissingTerminator (codes "block1v1"))
  return_held = held (return_first kind).ops (second ∷ third ∷ []) (return_first kind).regions return_names

-- no operation of these kinds ends blocks
empty_early : (kind : ℕ) → behaviour.op_impls kind is_terminator_interface ≡ false → (name : Text) → Stands (with_empty_block kind) (an_op first) (TerminatorNotLast name) → ⊥
empty_early kind e name h = any_three (λ m. implements_by is_terminator_interface m ≡ true → ⊥) (Some (op_of_kind kind [] (first ∷ []))) None None (λ k. cc) (λ k. cc) (λ k. cc) (λ k. cc) h.0 h.3.0

empty_needs : (name : Text) → Stands (with_empty_block 5) (an_op first) (MissingTerminator name) → ⊥
empty_needs name h = any_three (NeedsNone h.3.1.0) (Some (op_of_kind 5 [] (first ∷ []))) None None (λ i e. cc) (λ i e. elim i [ ]) (λ i e. elim i [ ]) (λ i e. elim i [ ]) h.3.0 h.3.1.2 h.3.2

return_needs : (name : Text) → Stands (return_first 5) (an_op first) (MissingTerminator name) → ⊥
return_needs name h = any_three (NeedsNone h.3.1.0) (Some (op_of_kind 5 [] (first ∷ []))) (Some (op_of_kind 2 [] [])) (Some (op_of_kind 0 [] [])) (λ i e. cc) (λ i e. elim i [ ]) (λ i e. elim i [ ]) (λ i e. elim i [ ]) h.3.0 h.3.1.2 h.3.2

missing_answers : AnswersAre (with_empty_block 6) (an_op first) (one_of missing_terminator)
missing_answers = answers (with_empty_block 6) (an_op first) (one_of missing_terminator) there (λ fault n h. inr (inl refl)) (faults_stand.missing, (inl (MissingTerminator (codes "block1v1"), tt, faults_stand.missing), tt))
  where
    there : (fault : Fault) → Stands (with_empty_block 6) (an_op first) fault → In (told fault) (one_of missing_terminator)
    there fault h = elim (empty_held 6 fault h) [
      | inl e ↦ absurd (empty_early 6 refl (codes "block1v1") (subst (Stands (with_empty_block 6) (an_op first)) e h))
      | inr e ↦ inl (ap told e)
    ]

none_missing : (fault : Fault) → Stands (with_empty_block 5) (an_op first) fault → ⊥
none_missing fault h = elim (empty_held 5 fault h) [
  | inl e ↦ empty_early 5 refl (codes "block1v1") (subst (Stands (with_empty_block 5) (an_op first)) e h)
  | inr e ↦ empty_needs (codes "block1v1") (subst (Stands (with_empty_block 5) (an_op first)) e h)
]

-- where no fault stands nothing may be answered
no_answers : (f : Forest context_ids bare) (root : Entity context_ids) → ((fault : Fault) → Stands f root fault → ⊥) → AnswersAre f root []
no_answers f root none = answers f root [] (λ fault h. absurd (none fault h)) (λ fault n h. absurd (none fault h)) tt

too_early : (kind : ℕ) → Stands (return_first kind) (an_op first) (TerminatorNotLast (codes "block1v1"))
too_early kind = (second, first, below {c = a_block first} (inl refl) (to_block kind), (refl, (an_op third, (a_block first, ([], [], refl)))), inl refl, record { value = _; found = refl; holds = sym block_one })

early_answers : AnswersAre (return_first 5) (an_op first) (one_of terminator_not_last)
early_answers = answers (return_first 5) (an_op first) (one_of terminator_not_last) there (λ fault n h. inr (inl refl)) (too_early 5, (inl (TerminatorNotLast (codes "block1v1"), tt, too_early 5), tt))
  where
    there : (fault : Fault) → Stands (return_first 5) (an_op first) fault → In (told fault) (one_of terminator_not_last)
    there fault h = elim (return_held 5 fault h) [
      | inl e ↦ inl (ap told e)
      | inr e ↦ absurd (return_needs (codes "block1v1") (subst (Stands (return_first 5) (an_op first)) e h))
    ]

abbrev both_terminators : List VerifyErr
both_terminators = block_fault terminator_not_last (codes "block1v1") ∷ one_of missing_terminator

no_return_last : Stands (return_first 6) (an_op first) (MissingTerminator (codes "block1v1"))
no_return_last = (first, to_block 6, record { value = _; found = refl; holds = sym block_one }, (first, (first, inl refl, inl refl), refl, refl))

early_and_missing : AnswersAre (return_first 6) (an_op first) both_terminators
early_and_missing = answers (return_first 6) (an_op first) both_terminators there (λ fault n h. inr (inr (inl refl))) (too_early 6, (no_return_last, (inl (MissingTerminator (codes "block1v1"), tt, no_return_last), tt)))
  where
    there : (fault : Fault) → Stands (return_first 6) (an_op first) fault → In (told fault) both_terminators
    there fault h = elim (return_held 6 fault h) [ inl e ↦ inl (ap told e) | inr e ↦ inr (inl (ap told e)) ]

entry_answers : AnswersAre loop (an_op first) (one_of entry_has_pred)
entry_answers = answers loop (an_op first) (one_of entry_has_pred) (λ fault h. inl (ap told (loop_alone fault h))) (λ fault n h. inr (inl refl)) (entry_block.stands, (inl (EntryHasPred (codes "block1v1"), tt, entry_block.stands), tt))

twice_answers : AnswersAre (naming_twice 4) (an_op first) (operand_not_use_of_def ∷ [])
twice_answers = answers (naming_twice 4) (an_op first) (operand_not_use_of_def ∷ []) (λ fault h. inl (ap told (twice_alone 4 fault h))) (λ fault n h. absurd (subst NamesBlock (twice_alone 4 fault h) n)) (faults_stand.named_twice, tt)

-- ## An unlinked user

module _ (named b : ArenaIndex) where
  -- at a linked block without operations of a module the fault is one of two
  apart : IsLinked (unlinked_user named) (a_block b) → (fault : Fault) → Stands (unlinked_user named) (a_block b) fault → (fault ≡ OperandNotUseOfDef) ⊎ ((name : Text) × (fault ≡ EntryHasPred name))
  apart linked (NoParent name) h = absurd (h.3 (subst (IsLinked (unlinked_user named)) (sym (only_it named b (a_block h.0) h.1)) linked))
  apart linked (MissingTerminator name) h = absurd (any_three (NeedsNone h.3.1.0) (Some (op_of_kind 5 [] (first ∷ []))) (Some (op_of_kind 4 (record { use_number = 0; block = named } ∷ []) [])) None (λ i e. cc) (λ i e. elim i [ ]) (λ i e. elim i [ ]) (λ i e. elim i [ ]) h.3.0 h.3.1.2 h.3.2)
  apart linked (TerminatorNotLast name) h = let e : an_op h.0 ≡ a_block b = only_it named b (an_op h.0) h.2 in cc
  apart linked (EntryHasPred name) h = inr (name, refl)
  apart linked OperandNotUseOfDef h = inl refl
  apart linked (Verifier code) h = absurd h.2

unlinked_answers : AnswersAre (unlinked_user second) (a_block second) (operand_not_use_of_def ∷ [])
unlinked_answers = answers (unlinked_user second) (a_block second) (operand_not_use_of_def ∷ []) (λ fault h. inl (ap told (alone fault h))) (λ fault n h. absurd (subst NamesBlock (alone fault h) n)) (faults_stand.named_aside, tt)
  where
    alone : (fault : Fault) → Stands (unlinked_user second) (a_block second) fault → fault ≡ OperandNotUseOfDef
    alone fault h = elim (apart second second (a_region first, inr (inl refl)) fault h) [
      | inl e ↦ e
      | inr e ↦ absurd (faults_stand.no_entry e.0 (subst (Stands (unlinked_user second) (a_block second)) e.1 h))
    ]

abbrev either_told : List VerifyErr
either_told = operand_not_use_of_def ∷ one_of entry_has_pred

entry_stands : Stands (unlinked_user first) (a_block first) (EntryHasPred (codes "block1v1"))
entry_stands = (first, itself, record { value = _; found = refl; holds = sym block_one }, (first, refl), (second, inl refl))

entry_name : (name : Text) → Stands (unlinked_user first) (a_block first) (EntryHasPred name) → name ≡ codes "block1v1"
entry_name name h =
    let e = only_it first first (a_block h.0) h.1 in
    let b : h.0 ≡ first = cc in
    one_block_name (unlinked_user first) first name (codes "block1v1") (subst (λ c. IsBlockName (unlinked_user first) c name) b h.2) (record { value = _; found = refl; holds = sym block_one })

unlinked_entry : AnswersAre (unlinked_user first) (a_block first) either_told
unlinked_entry = answers (unlinked_user first) (a_block first) either_told there (λ fault n h. inr (inr (inl refl))) ((first, itself, (second, inl refl, inl (unlinked first))), (entry_stands, (inl (EntryHasPred (codes "block1v1"), tt, entry_stands), tt)))
  where
    there : (fault : Fault) → Stands (unlinked_user first) (a_block first) fault → In (told fault) either_told
    there fault h = elim (apart first first (a_region first, inl refl) fault h) [
      | inl e ↦ inl (ap told e)
      | inr e ↦ inr (inl (ap told (e.1 ∙ ap EntryHasPred (entry_name e.0 (subst (Stands (unlinked_user first) (a_block first)) e.1 h)))))
    ]

-- the first block alone is named
named_first : (b o : ArenaIndex) → In (the_block b) (names_of (unlinked_user first) o) → b ≡ first
named_first b = any_three (λ m. In (the_block b) (names_by m) → b ≡ first) (Some (op_of_kind 5 [] (first ∷ []))) (Some (op_of_kind 4 (record { use_number = 0; block = first } ∷ []) [])) None (λ h. elim h [ ]) (λ h. elim h [ inl e ↦ cc | inr k ↦ absurd k ]) (λ h. elim h [ ]) (λ h. elim h [ ])

second_differs : second ≡ first → ⊥
second_differs e = let n : 2 ≡ 1 = ap (λ (i : ArenaIndex). i.slot) e in omega (arith, n)

none_beside : (fault : Fault) → Stands (unlinked_user first) (a_block second) fault → ⊥
none_beside fault h = elim (apart first second (a_region first, inr (inl refl)) fault h) [
  | inl e ↦ (let k = subst (Stands (unlinked_user first) (a_block second)) e h in stray k.0 k.1 (named_first k.0 k.2.0 k.2.1))
  | inr e ↦ (let k = subst (Stands (unlinked_user first) (a_block second)) e.1 h in stray k.0 k.1 (named_first k.0 k.4.0 k.4.1))
]
  where
    stray : (b : ArenaIndex) → Inside (unlinked_user first) (a_block second) (a_block b) → b ≡ first → ⊥
    stray b i e = let q = only_it first second (a_block b) i in let s : b ≡ second = cc in second_differs (sym s ∙ e)

-- ## A block that ends in a return

-- nothing comes after the last of two
no_third : (p : Entity context_ids) → Adjacent {A = Entity context_ids} (an_op third) p (an_op second ∷ an_op third ∷ []) → ⊥
no_third p a = by a.0 a.1 a.2
  where
    by : (before after : List (Entity context_ids)) → ◌≡◌ {A = List (Entity context_ids)} (an_op second ∷ an_op third ∷ []) (before ++ an_op third ∷ p ∷ after) → ⊥
    by [] after e = let h : ◌≡◌ {A = Entity context_ids} (an_op second) (an_op third) = cc in let s : second ≡ third = cc in let n : 2 ≡ 3 = ap (λ (i : ArenaIndex). i.slot) s in omega (arith, n)
    by (x ∷ before) after e =
        let l : 2 ≡ length (x ∷ before ++ an_op third ∷ p ∷ after) = ap length e in
        let m : length (before ++ an_op third ∷ p ∷ after) ≡ length before + length (an_op third ∷ p ∷ after) = length-append before (an_op third ∷ p ∷ after) in
        omega (arith, l, m)

none_returning : (fault : Fault) → Stands returning (an_op first) fault → ⊥
none_returning fault h = elim (held returning.ops (second ∷ third ∷ []) returning.regions names fault h) [
  | inl e ↦ early (subst (Stands returning (an_op first)) e h)
  | inr e ↦ missing (subst (Stands returning (an_op first)) e h)
]
  where
    names : (o : ArenaIndex) → names_of returning o ≡ []
    names = any_three (λ m. names_by m ≡ []) (Some (op_of_kind 6 [] (first ∷ []))) (Some (op_of_kind 0 [] [])) (Some (op_of_kind 2 [] [])) refl refl refl refl

    missing : Stands returning (an_op first) (MissingTerminator (codes "block1v1")) → ⊥
    missing k = let e : terminator behaviour returning first ≡ None = subst (λ b. terminator behaviour returning b ≡ None) (only_block returning.ops (second ∷ third ∷ []) returning.regions k.0 (codes "block1v1") k.2) k.3.3 in cc

    -- what ends blocks is the return
    the_return : (o : ArenaIndex) → implements behaviour returning is_terminator_interface o ≡ true → o ≡ third
    the_return o e = elim (at_three (Some (op_of_kind 6 [] (first ∷ []))) (Some (op_of_kind 0 [] [])) (Some (op_of_kind 2 [] [])) o) [
      | inl p ↦ absurd (let k : implements_by is_terminator_interface (Some (op_of_kind 6 [] (first ∷ []))) ≡ true = subst (λ m. implements_by is_terminator_interface m ≡ true) p.1 e in cc)
      | inr (inl p) ↦ absurd (let k : implements_by is_terminator_interface (Some (op_of_kind 0 [] [])) ≡ true = subst (λ m. implements_by is_terminator_interface m ≡ true) p.1 e in cc)
      | inr (inr (inl p)) ↦ p.0
      | inr (inr (inr p)) ↦ absurd (let k : implements_by is_terminator_interface None ≡ true = subst (λ m. implements_by is_terminator_interface m ≡ true) p e in cc)
    ]

    early : Stands returning (an_op first) (TerminatorNotLast (codes "block1v1")) → ⊥
    early k = after k.3.1.0 k.3.1.1.0 (subst (λ o. Adjacent (an_op o) k.3.1.0 (children returning k.3.1.1.0)) (the_return k.0 k.3.0) k.3.1.1.1)
      where
        after : (p y : Entity context_ids) → Adjacent (an_op third) p (children returning y) → ⊥
        after p (an_op q) a = let at = In-map_back a_region (an_op third) (regions_of returning q) (adjacent_in (an_op third) p (children returning (an_op q)) a) in let e : ◌≡◌ {A = Entity context_ids} (an_op third) (a_region at.0) = at.2 in cc
        after p (a_region g) a = let at = In-map_back a_block (an_op third) (blocks_of returning g) (adjacent_in (an_op third) p (children returning (a_region g)) a) in let e : ◌≡◌ {A = Entity context_ids} (an_op third) (a_block at.0) = at.2 in cc
        after p (a_block b) a = any_three (λ m. Adjacent (an_op third) p (map an_op (list_of (λ (r : BlockRecord context_ids bare). r.ops) m)) → ⊥) (Some (block_with (second ∷ third ∷ []))) None None
            (no_third p) (λ k. elim (adjacent_in (an_op third) p [] k) [ ]) (λ k. elim (adjacent_in (an_op third) p [] k) [ ]) (λ k. elim (adjacent_in (an_op third) p [] k) [ ]) b a

-- ## What is beside the root

beside_names : (b o : ArenaIndex) → In (the_block b) (names_of beside_a_block o) → ⊥
beside_names b = any_three (λ m. In (the_block b) (names_by m) → ⊥) (Some (op_of_kind 6 [] (first ∷ []))) (Some (op_of_kind 2 [] [])) (Some (op_of_kind 0 [] [])) (λ h. elim h [ ]) (λ h. elim h [ ]) (λ h. elim h [ ]) (λ h. elim h [ ])

-- an operation of a block stands in the first
its_block : (o b : ArenaIndex) → In o (ops_of beside_a_block b) → b ≡ first
its_block o b h = by (at_three (Some (block_with (second ∷ third ∷ []))) (Some (block_with [])) None b)
  where
    none : beside_a_block.blocks b ≡ None → ⊥
    none e = let k : In o (list_of (λ (r : BlockRecord context_ids bare). r.ops) None) = subst (λ m. In o (list_of (λ (r : BlockRecord context_ids bare). r.ops) m)) e h in k

    by : ((b ≡ first) × (beside_a_block.blocks b ≡ Some (block_with (second ∷ third ∷ [])))) ⊎ ((b ≡ second) × (beside_a_block.blocks b ≡ Some (block_with []))) ⊎ ((b ≡ third) × (beside_a_block.blocks b ≡ None)) ⊎ (beside_a_block.blocks b ≡ None) → b ≡ first
    by (inl p) = p.0
    by (inr (inl p)) = absurd (let k : In o (list_of (λ (r : BlockRecord context_ids bare). r.ops) (Some (block_with []))) = subst (λ m. In o (list_of (λ (r : BlockRecord context_ids bare). r.ops) m)) p.1 h in k)
    by (inr (inr (inl p))) = absurd (none p.1)
    by (inr (inr (inr p))) = absurd (none p)

-- a block that is linked is the first
linked_first : (b g : ArenaIndex) → In b (blocks_of beside_a_block g) → b ≡ first
linked_first b = any_three (λ m. In b (list_of (λ (bs : List ArenaIndex). bs) m) → b ≡ first) (Some (first ∷ [])) None None (λ h. elim h [ inl e ↦ e | inr k ↦ absurd k ]) (λ h. elim h [ ]) (λ h. elim h [ ]) (λ h. elim h [ ])

lone_second : IsLinked beside_a_block (a_block second) → ⊥
lone_second h = by h.0 h.1
  where
    by : (y : Entity context_ids) → In (a_block second) (children beside_a_block y) → ⊥
    by (an_op o) k = let at = In-map_back a_region (a_block second) (regions_of beside_a_block o) k in let e : ◌≡◌ {A = Entity context_ids} (a_block second) (a_region at.0) = at.2 in cc
    by (a_block b) k = let at = In-map_back an_op (a_block second) (ops_of beside_a_block b) k in let e : ◌≡◌ {A = Entity context_ids} (a_block second) (an_op at.0) = at.2 in cc
    by (a_region g) k = let at = In-map_back a_block (a_block second) (blocks_of beside_a_block g) k in let e : ◌≡◌ {A = Entity context_ids} (a_block second) (a_block at.0) = at.2 in let s : second ≡ at.0 = cc in second_differs (s ∙ linked_first at.0 g at.1)

-- the only name of the first block
first_name : (b : ArenaIndex) (name : Text) → b ≡ first → IsBlockName beside_a_block b name → name ≡ codes "block1v1"
first_name b name e h = one_block_name beside_a_block first name (codes "block1v1") (subst (λ c. IsBlockName beside_a_block c name) e h) (record { value = _; found = refl; holds = sym block_one })

beside_answers : AnswersAre beside_a_block (an_op first) both_terminators
beside_answers = answers beside_a_block (an_op first) both_terminators there (λ fault n h. inr (inr (inl refl))) (early, (missing, (inl (MissingTerminator (codes "block1v1"), tt, missing), tt)))
  where
    down_block : Inside beside_a_block (an_op first) (a_block first)
    down_block = below {c = a_region first} (inl refl) (below {c = an_op first} (inl refl) itself)

    early : Stands beside_a_block (an_op first) (TerminatorNotLast (codes "block1v1"))
    early = (second, first, below {c = a_block first} (inl refl) down_block, (refl, (an_op third, (a_block first, ([], [], refl)))), inl refl, record { value = _; found = refl; holds = sym block_one })

    missing : Stands beside_a_block (an_op first) (MissingTerminator (codes "block1v1"))
    missing = (first, down_block, record { value = _; found = refl; holds = sym block_one }, (first, (first, inl refl, inl refl), refl, refl))

    there : (fault : Fault) → Stands beside_a_block (an_op first) fault → In (told fault) both_terminators
    there (NoParent name) h = absurd (h.3 (inside_linked beside_a_block (an_op first) (a_block h.0) h.1 (λ e. cc)))
    there (MissingTerminator name) h = inr (inl (ap (block_fault missing_terminator) (first_name h.0 name (linked_first h.0 h.3.1.0 h.3.1.1) h.2)))
    there (TerminatorNotLast name) h = inl (ap (block_fault terminator_not_last) (first_name h.1 name (its_block h.0 h.1 h.4) h.5))
    there (EntryHasPred name) h = absurd (beside_names h.0 h.4.0 h.4.1)
    there OperandNotUseOfDef h = absurd (beside_names h.0 h.2.0 h.2.1)
    there (Verifier code) h = absurd h.2

-- the second block and want of memory
abbrev second_told : List VerifyErr
second_told = block_fault no_parent (codes "block2v1") ∷ out_of_memory ∷ []

second_answers : AnswersAre beside_a_block (a_block second) second_told
second_answers = answers beside_a_block (a_block second) second_told there (λ fault n h. inr (inl refl)) (alone, (inl (NoParent (codes "block2v1"), tt, alone), tt))
  where
    its_name_is : IsBlockName beside_a_block second (codes "block2v1")
    its_name_is = record { value = _; found = refl; holds = sym block_two }

    alone : Stands beside_a_block (a_block second) (NoParent (codes "block2v1"))
    alone = (second, itself, its_name_is, lone_second)

    only_this : (x : Entity context_ids) → Inside beside_a_block (a_block second) x → In x (a_block second ∷ [])
    only_this = inside_list beside_a_block (a_block second) (a_block second ∷ []) (inl refl) (λ c x i h. elim i [ inl e ↦ absurd (let k : In {A = Entity context_ids} x [] = subst (λ y. In x (children beside_a_block y)) e h in k) | inr k ↦ absurd k ])

    is_second : (b : ArenaIndex) → In {A = Entity context_ids} (a_block b) (a_block second ∷ []) → b ≡ second
    is_second b (inl e) = cc
    is_second b (inr k) = elim k [ ]

    no_op : (o : ArenaIndex) → In {A = Entity context_ids} (an_op o) (a_block second ∷ []) → ⊥
    no_op o (inl e) = cc
    no_op o (inr k) = k

    there : (fault : Fault) → Stands beside_a_block (a_block second) fault → In (told fault) second_told
    there (NoParent name) h = inl (ap (block_fault no_parent) (one_block_name beside_a_block second name (codes "block2v1") (subst (λ c. IsBlockName beside_a_block c name) (is_second h.0 (only_this (a_block h.0) h.1)) h.2) its_name_is))
    there (MissingTerminator name) h = absurd (second_differs (sym (is_second h.0 (only_this (a_block h.0) h.1)) ∙ linked_first h.0 h.3.1.0 h.3.1.1))
    there (TerminatorNotLast name) h = absurd (no_op h.0 (only_this (an_op h.0) h.2))
    there (EntryHasPred name) h = absurd (beside_names h.0 h.4.0 h.4.1)
    there OperandNotUseOfDef h = absurd (beside_names h.0 h.2.0 h.2.1)
    there (Verifier code) h = absurd h.2

pub answer_rows : AnswerRows
answer_rows = record {
  lone = lone_answers;
  missing = missing_answers;
  nothing_missing = no_answers (with_empty_block 5) (an_op first) none_missing;
  with_a_terminator = no_answers returning (an_op first) none_returning;
  all_is_well = none_missing;
  not_all_is_well = λ well. well (MissingTerminator (codes "block1v1")) faults_stand.missing;
  not_last = early_answers;
  not_last_and_missing = early_and_missing;
  beside = beside_answers;
  beside_the_function = second_answers;
  entry = entry_answers;
  named_twice = twice_answers;
  by_a_terminator = no_answers (naming_twice 3) (an_op first) by_terminator;
  unlinked = unlinked_answers;
  unlinked_and_entry = unlinked_entry;
  beside_the_entry = no_answers (unlinked_user first) (a_block second) none_beside;
  no_predecessor = λ a b h. no_ops second a h.0 h.1;
  users_unlinked = λ h. unlinked second (h second (inl refl));
}
