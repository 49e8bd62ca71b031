-- An edit of each kind is made.
use mathlib.Core.Path.{◌≡◌, refl, sym, ap, ◌∙◌, subst}
use Rattle.std.proofs.Common.{ℕ, ◌<◌, inl, inr, Bool, true, false, Option, Some, None, List, [], ◌∷◌, ◌++◌, cond, arith}
use Rattle.std.specs.Option.{option_map}
use Rattle.ir_model.specs.Ids.{Fresh}
use Rattle.ir_model.specs.ContextIds.{context_ids, same_id}
use Rattle.ir_model.specs.Forest.{Dialect, Behaviour, of_op, of_block, an_op, a_block, a_region, BlockRecord}
use Rattle.ir_model.specs.Nesting.{In, list_of, children, IsLinked}
use Rattle.ir_model.specs.Changes.{on_op, on_block, on_region, on_ops, on_operands, on_successors, operand, successor}
use Rattle.ir_model.specs.Edits.{State, over, no_needs, one_number, one_use, NewType, NewOp, NewBlock, AddRegion, PushResult, PushArgument, InsertResult, InsertArgument, RemoveResult, RemoveArgument, PushOperand, PushSuccessor, InsertOperand, InsertSuccessor, RemoveOperand, RemoveSuccessor, ReplaceOperand, ReplaceSuccessor, ReplaceAllUses, RetargetAll, OpFront, OpBack, OpBefore, OpAfter, UnlinkOp, UnlinkBlock, BlockFront, BlockBack, BlockBefore, BlockAfter, AppendOps, AppendBlocks, MoveRegion, DropOpUses, DropBlockUses, DropRegionUses, EraseOp, EraseBlock, EraseRegion}
use Rattle.ir_model.specs.declared.ids.ArenaIndex.{ArenaIndex}
use Rattle.ir_model.specs.OneOfEach.{CanBeMade, one_of_each, EachCanBeMade}
use Rattle.ir_model.proofs.Nests.{In-append, In-map_back}
use Rattle.ir_model.proofs.TwoRuns.{lawful}
use Rattle.ir_model.proofs.Roomy.{Fits}
use Rattle.ir_model.proofs.BaseRun.{Reached, then_edit, can, id, base, base_passed, reached_base, base_bare, alone, bare_unused, bare_closed, bare_drops, bare_op, bare_block, taken, taken_removes}

abbrev Every : {A : Type 0} → (A → Type 0) → List A → Type 0
Every P [] = Unit {0}
Every P (x ∷ xs) = P x × Every P xs

every-in : {A : Type 0} (P : A → Type 0) (xs : List A) → Every P xs → (x : A) → In x xs → P x
every-in P [] all x h = elim h [ ]
every-in P (y ∷ xs) all x (inl e) = subst P (sym e) all.0
every-in P (y ∷ xs) all x (inr h) = every-in P xs all.1 x h

id_apart : (m n : ℕ) → m < n → id m ≡ id n → ⊥
id_apart m n h e = (let s : m ≡ n = ap (λ (i : ArenaIndex). i.slot) e in absurd (omega arith))

abbrev used_passed : Fresh context_ids
used_passed = record base_passed { uses = 0 ∷ [] }

fits_none : Fits base_passed no_needs
fits_none = record { ops = omega arith; blocks = omega arith; regions = omega arith; numbers = omega arith; uses = omega arith }

fits_number : Fits base_passed one_number
fits_number = record { ops = omega arith; blocks = omega arith; regions = omega arith; numbers = omega arith; uses = omega arith }

fits_use : Fits base_passed one_use
fits_use = record { ops = omega arith; blocks = omega arith; regions = omega arith; numbers = omega arith; uses = omega arith }

fits_op : Fits base_passed (record { ops = 1; blocks = 0; regions = 2; numbers = 1; uses = 2 })
fits_op = record { ops = omega arith; blocks = omega arith; regions = omega arith; numbers = omega arith; uses = omega arith }

fits_block : Fits base_passed (record no_needs { blocks = 1; numbers = 1 })
fits_block = record { ops = omega arith; blocks = omega arith; regions = omega arith; numbers = omega arith; uses = omega arith }

fits_region : Fits base_passed (record no_needs { regions = 1 })
fits_region = record { ops = omega arith; blocks = omega arith; regions = omega arith; numbers = omega arith; uses = omega arith }

fits_none_used : Fits used_passed no_needs
fits_none_used = record { ops = omega arith; blocks = omega arith; regions = omega arith; numbers = omega arith; uses = omega arith }

fits_use_used : Fits used_passed one_use
fits_use_used = record { ops = omega arith; blocks = omega arith; regions = omega arith; numbers = omega arith; uses = omega arith }

module _ {W : Dialect} (B : Behaviour W) (key : W.Key) where
  abbrev with_operand : State context_ids W
  with_operand = over (base B key) (on_op ((base B key).forest) (id 2) (on_operands (λ ps. ps ++ operand (0, record { definer = of_op (id 1); number = 0 }) ∷ [])))

  reached_operand : Reached B with_operand used_passed
  reached_operand = then_edit B (base B key) with_operand base_passed (PushOperand 1 0) (reached_base B key) fits_use (record { value = id 2; found = refl; holds = record { value = _; found = refl; holds = record { value = record { definer = of_op (id 1); number = 0 }; found = refl; holds = (inl refl, tt) } } }) (record { value = id 2; found = refl; holds = record { value = record { definer = of_op (id 1); number = 0 }; found = refl; holds = record { value = 0; found = refl; holds = refl } } })

  abbrev with_successor : State context_ids W
  with_successor = over (base B key) (on_op ((base B key).forest) (id 2) (on_successors (λ ps. ps ++ successor (0, id 1) ∷ [])))

  reached_successor : Reached B with_successor used_passed
  reached_successor = then_edit B (base B key) with_successor base_passed (PushSuccessor 1 0) (reached_base B key) fits_use (record { value = id 2; found = refl; holds = record { value = _; found = refl; holds = record { value = id 1; found = refl; holds = record { value = _; found = refl; holds = tt } } } }) (record { value = id 2; found = refl; holds = record { value = id 1; found = refl; holds = record { value = 0; found = refl; holds = refl } } })

  abbrev with_op : State context_ids W
  with_op = over (base B key) (on_block ((base B key).forest) (id 1) (on_ops (λ os. os ++ id 2 ∷ [])))

  reached_op : Reached B with_op base_passed
  reached_op = then_edit B (base B key) with_op base_passed (OpBack 1 0) (reached_base B key) fits_none (record { value = id 2; found = refl; holds = record { value = _; found = refl; holds = record { value = id 1; found = refl; holds = record { value = _; found = refl; holds = (bare_op ((base B key).forest) (base_bare B key) (id 2), λ v. (let e : a_block (id 1) ≡ an_op (id 2) = alone (children ((base B key).forest)) (an_op (id 2)) refl _ v in cc)) } } } }) (record { value = id 2; found = refl; holds = record { value = id 1; found = refl; holds = refl } })

  abbrev with_block : State context_ids W
  with_block = over (base B key) (on_region ((base B key).forest) (id 1) (λ bs. bs ++ id 1 ∷ []))

  reached_with_block : Reached B with_block base_passed
  reached_with_block = then_edit B (base B key) with_block base_passed (BlockBack 0 0) (reached_base B key) fits_none (record { value = id 1; found = refl; holds = record { value = _; found = refl; holds = record { value = id 1; found = refl; holds = (refl, (bare_block ((base B key).forest) (base_bare B key) (id 1), λ v. (let e : a_region (id 1) ≡ a_block (id 1) = alone (children ((base B key).forest)) (a_block (id 1)) refl _ v in cc))) } } }) (record { value = id 1; found = refl; holds = record { value = id 1; found = refl; holds = refl } })

  third_unlinked : IsLinked (with_op.forest) (an_op (id 3)) → ⊥
  third_unlinked ((an_op p), h) = (let at = In-map_back a_region (an_op (id 3)) _ h in let e : an_op (id 3) ≡ a_region at.0 = at.2 in cc)
  third_unlinked ((a_region r), h) = (let at = In-map_back a_block (an_op (id 3)) _ h in let e : an_op (id 3) ≡ a_block at.0 = at.2 in cc)
  third_unlinked ((a_block b), h) =
      let at = In-map_back an_op (an_op (id 3)) _ h in
      only_second at.0 (let e : an_op (id 3) ≡ an_op at.0 = at.2 in cc) (same_id b (id 1)) (((base B key).forest).blocks b) ((base_bare B key).ops b) at.1
    where
      only_second : (o : ArenaIndex) → id 3 ≡ o → (t : Bool) (m : Option (BlockRecord context_ids W)) → list_of (λ r. r.ops) m ≡ [] → In o (list_of (λ r. r.ops) (cond t (option_map (on_ops (λ os. os ++ id 2 ∷ [])) m) m)) → ⊥
      only_second o e true None none k = k
      only_second o e true (Some r) none k = elim (In-append o r.ops (id 2 ∷ []) k) [
        | inl i ↦ (let j : In o [] = rw none at i in j)
        | inr (inl s) ↦ id_apart 2 3 (omega arith) (sym s ∙ sym e)
        | inr (inr i) ↦ i
      ]
      only_second o e false m none k = (let j : In o [] = rw none at k in j)

  second_unlinked : IsLinked (with_block.forest) (a_block (id 2)) → ⊥
  second_unlinked ((an_op p), h) = (let at = In-map_back a_region (a_block (id 2)) _ h in let e : a_block (id 2) ≡ a_region at.0 = at.2 in cc)
  second_unlinked ((a_block r), h) = (let at = In-map_back an_op (a_block (id 2)) _ h in let e : a_block (id 2) ≡ an_op at.0 = at.2 in cc)
  second_unlinked ((a_region r), h) =
      let at = In-map_back a_block (a_block (id 2)) _ h in
      only_first at.0 (let e : a_block (id 2) ≡ a_block at.0 = at.2 in cc) (same_id r (id 1)) (((base B key).forest).regions r) ((base_bare B key).blocks r) at.1
    where
      only_first : (b : ArenaIndex) → id 2 ≡ b → (t : Bool) (m : Option (List ArenaIndex)) → list_of (λ bs. bs) m ≡ [] → In b (list_of (λ bs. bs) (cond t (option_map (λ bs. bs ++ id 1 ∷ []) m) m)) → ⊥
      only_first b e true None none k = k
      only_first b e true (Some bs) none k = elim (In-append b bs (id 1 ∷ []) k) [
        | inl i ↦ (let j : In b [] = rw none at i in j)
        | inr (inl s) ↦ id_apart 1 2 (omega arith) (sym s ∙ sym e)
        | inr (inr i) ↦ i
      ]
      only_first b e false m none k = (let j : In b [] = rw none at k in j)

  made_NewType : CanBeMade B (NewType key)
  made_NewType = can B (base B key) _ base_passed (NewType key) (reached_base B key) fits_none (tt) (refl)

  made_NewOp : CanBeMade B (NewOp 0 (0 ∷ []) (0 ∷ []) (0 ∷ []) 2)
  made_NewOp = can B (base B key) _ base_passed (NewOp 0 (0 ∷ []) (0 ∷ []) (0 ∷ []) 2) (reached_base B key) fits_op (((omega arith, tt), (record { value = record { definer = of_op (id 1); number = 0 }; found = refl; holds = (inl refl, tt) }, tt), (record { value = id 1; found = refl; holds = record { value = _; found = refl; holds = tt } }, tt))) (record { value = id 4; found = refl; holds = refl })

  made_NewBlock : CanBeMade B (NewBlock None (0 ∷ []))
  made_NewBlock = can B (base B key) _ base_passed (NewBlock None (0 ∷ [])) (reached_base B key) fits_block ((omega arith, tt)) (record { value = id 3; found = refl; holds = refl })

  made_AddRegion : CanBeMade B (AddRegion 0)
  made_AddRegion = can B (base B key) _ base_passed (AddRegion 0) (reached_base B key) fits_region (record { value = id 1; found = refl; holds = record { value = _; found = refl; holds = tt } }) (record { value = id 1; found = refl; holds = record { value = id 3; found = refl; holds = refl } })

  made_PushResult : CanBeMade B (PushResult 0 0)
  made_PushResult = can B (base B key) _ base_passed (PushResult 0 0) (reached_base B key) fits_number ((record { value = id 1; found = refl; holds = record { value = _; found = refl; holds = tt } }, record { value = 0; found = refl; holds = tt })) (record { value = id 1; found = refl; holds = record { value = 0; found = refl; holds = record { value = 2; found = refl; holds = refl } } })

  made_PushArgument : CanBeMade B (PushArgument 0 0)
  made_PushArgument = can B (base B key) _ base_passed (PushArgument 0 0) (reached_base B key) fits_number ((record { value = id 1; found = refl; holds = record { value = _; found = refl; holds = tt } }, record { value = 0; found = refl; holds = tt })) (record { value = id 1; found = refl; holds = record { value = 0; found = refl; holds = record { value = 2; found = refl; holds = refl } } })

  made_InsertResult : CanBeMade B (InsertResult 0 0 0)
  made_InsertResult = can B (base B key) _ base_passed (InsertResult 0 0 0) (reached_base B key) fits_number ((record { value = id 1; found = refl; holds = record { value = _; found = refl; holds = omega arith } }, record { value = 0; found = refl; holds = tt })) (record { value = id 1; found = refl; holds = record { value = 0; found = refl; holds = record { value = 2; found = refl; holds = refl } } })

  made_InsertArgument : CanBeMade B (InsertArgument 0 0 0)
  made_InsertArgument = can B (base B key) _ base_passed (InsertArgument 0 0 0) (reached_base B key) fits_number ((record { value = id 1; found = refl; holds = record { value = _; found = refl; holds = omega arith } }, record { value = 0; found = refl; holds = tt })) (record { value = id 1; found = refl; holds = record { value = 0; found = refl; holds = record { value = 2; found = refl; holds = refl } } })

  made_RemoveResult : CanBeMade B (RemoveResult 0 0)
  made_RemoveResult = can B (base B key) _ base_passed (RemoveResult 0 0) (reached_base B key) fits_none (record { value = id 1; found = refl; holds = record { value = _; found = refl; holds = record { value = _; found = refl; holds = bare_unused ((base B key).forest) (base_bare B key) _ } } }) (record { value = id 1; found = refl; holds = refl })

  made_RemoveArgument : CanBeMade B (RemoveArgument 0 0)
  made_RemoveArgument = can B (base B key) _ base_passed (RemoveArgument 0 0) (reached_base B key) fits_none (record { value = id 1; found = refl; holds = record { value = _; found = refl; holds = record { value = _; found = refl; holds = bare_unused ((base B key).forest) (base_bare B key) _ } } }) (record { value = id 1; found = refl; holds = refl })

  made_PushOperand : CanBeMade B (PushOperand 1 0)
  made_PushOperand = can B (base B key) _ base_passed (PushOperand 1 0) (reached_base B key) fits_use (record { value = id 2; found = refl; holds = record { value = _; found = refl; holds = record { value = record { definer = of_op (id 1); number = 0 }; found = refl; holds = (inl refl, tt) } } }) (record { value = id 2; found = refl; holds = record { value = record { definer = of_op (id 1); number = 0 }; found = refl; holds = record { value = 0; found = refl; holds = refl } } })

  made_PushSuccessor : CanBeMade B (PushSuccessor 1 0)
  made_PushSuccessor = can B (base B key) _ base_passed (PushSuccessor 1 0) (reached_base B key) fits_use (record { value = id 2; found = refl; holds = record { value = _; found = refl; holds = record { value = id 1; found = refl; holds = record { value = _; found = refl; holds = tt } } } }) (record { value = id 2; found = refl; holds = record { value = id 1; found = refl; holds = record { value = 0; found = refl; holds = refl } } })

  made_InsertOperand : CanBeMade B (InsertOperand 1 0 0)
  made_InsertOperand = can B (base B key) _ base_passed (InsertOperand 1 0 0) (reached_base B key) fits_use (record { value = id 2; found = refl; holds = record { value = _; found = refl; holds = record { value = record { definer = of_op (id 1); number = 0 }; found = refl; holds = (inl refl, omega arith) } } }) (record { value = id 2; found = refl; holds = record { value = record { definer = of_op (id 1); number = 0 }; found = refl; holds = record { value = 0; found = refl; holds = refl } } })

  made_InsertSuccessor : CanBeMade B (InsertSuccessor 1 0 0)
  made_InsertSuccessor = can B (base B key) _ base_passed (InsertSuccessor 1 0 0) (reached_base B key) fits_use (record { value = id 2; found = refl; holds = record { value = _; found = refl; holds = record { value = id 1; found = refl; holds = record { value = _; found = refl; holds = omega arith } } } }) (record { value = id 2; found = refl; holds = record { value = id 1; found = refl; holds = record { value = 0; found = refl; holds = refl } } })

  made_RemoveOperand : CanBeMade B (RemoveOperand 1 0)
  made_RemoveOperand = can B with_operand _ used_passed (RemoveOperand 1 0) reached_operand fits_none_used (record { value = id 2; found = refl; holds = record { value = _; found = refl; holds = omega arith } }) (record { value = id 2; found = refl; holds = refl })

  made_RemoveSuccessor : CanBeMade B (RemoveSuccessor 1 0)
  made_RemoveSuccessor = can B with_successor _ used_passed (RemoveSuccessor 1 0) reached_successor fits_none_used (record { value = id 2; found = refl; holds = record { value = _; found = refl; holds = omega arith } }) (record { value = id 2; found = refl; holds = refl })

  made_ReplaceOperand : CanBeMade B (ReplaceOperand 1 0 1)
  made_ReplaceOperand = can B with_operand _ used_passed (ReplaceOperand 1 0 1) reached_operand fits_use_used (record { value = id 2; found = refl; holds = record { value = _; found = refl; holds = record { value = record { definer = of_block (id 1); number = 1 }; found = refl; holds = (inl refl, omega arith) } } }) (record { value = id 2; found = refl; holds = record { value = record { definer = of_block (id 1); number = 1 }; found = refl; holds = record { value = 1; found = refl; holds = refl } } })

  made_ReplaceSuccessor : CanBeMade B (ReplaceSuccessor 1 0 1)
  made_ReplaceSuccessor = can B with_successor _ used_passed (ReplaceSuccessor 1 0 1) reached_successor fits_use_used (record { value = id 2; found = refl; holds = record { value = _; found = refl; holds = record { value = id 2; found = refl; holds = record { value = _; found = refl; holds = omega arith } } } }) (record { value = id 2; found = refl; holds = record { value = id 2; found = refl; holds = record { value = 1; found = refl; holds = refl } } })

  made_ReplaceAllUses : CanBeMade B (ReplaceAllUses 0 1)
  made_ReplaceAllUses = can B (base B key) _ base_passed (ReplaceAllUses 0 1) (reached_base B key) fits_none (record { value = record { definer = of_op (id 1); number = 0 }; found = refl; holds = (inl refl, record { value = record { definer = of_block (id 1); number = 1 }; found = refl; holds = (inl refl, tt) }) }) (record { value = record { definer = of_op (id 1); number = 0 }; found = refl; holds = record { value = record { definer = of_block (id 1); number = 1 }; found = refl; holds = refl } })

  made_RetargetAll : CanBeMade B (RetargetAll 0 1)
  made_RetargetAll = can B (base B key) _ base_passed (RetargetAll 0 1) (reached_base B key) fits_none (record { value = id 1; found = refl; holds = record { value = _; found = refl; holds = record { value = id 2; found = refl; holds = record { value = _; found = refl; holds = λ o h. absurd (bare_unused ((base B key).forest) (base_bare B key) _ o h) } } } }) (record { value = id 1; found = refl; holds = record { value = id 2; found = refl; holds = refl } })

  made_OpFront : CanBeMade B (OpFront 1 0)
  made_OpFront = can B (base B key) _ base_passed (OpFront 1 0) (reached_base B key) fits_none (record { value = id 2; found = refl; holds = record { value = _; found = refl; holds = record { value = id 1; found = refl; holds = record { value = _; found = refl; holds = (bare_op ((base B key).forest) (base_bare B key) (id 2), λ v. (let e : a_block (id 1) ≡ an_op (id 2) = alone (children ((base B key).forest)) (an_op (id 2)) refl _ v in cc)) } } } }) (record { value = id 2; found = refl; holds = record { value = id 1; found = refl; holds = refl } })

  made_OpBack : CanBeMade B (OpBack 1 0)
  made_OpBack = can B (base B key) _ base_passed (OpBack 1 0) (reached_base B key) fits_none (record { value = id 2; found = refl; holds = record { value = _; found = refl; holds = record { value = id 1; found = refl; holds = record { value = _; found = refl; holds = (bare_op ((base B key).forest) (base_bare B key) (id 2), λ v. (let e : a_block (id 1) ≡ an_op (id 2) = alone (children ((base B key).forest)) (an_op (id 2)) refl _ v in cc)) } } } }) (record { value = id 2; found = refl; holds = record { value = id 1; found = refl; holds = refl } })

  made_OpBefore : CanBeMade B (OpBefore 2 1)
  made_OpBefore = can B with_op _ base_passed (OpBefore 2 1) reached_op fits_none (record { value = id 3; found = refl; holds = record { value = _; found = refl; holds = record { value = id 2; found = refl; holds = record { value = _; found = refl; holds = (third_unlinked, (a_block (id 1), inl refl, λ v. (let e : a_block (id 1) ≡ an_op (id 3) = alone (children (with_op.forest)) (an_op (id 3)) refl _ v in cc))) } } } }) (record { value = id 3; found = refl; holds = record { value = id 2; found = refl; holds = refl } })

  made_OpAfter : CanBeMade B (OpAfter 2 1)
  made_OpAfter = can B with_op _ base_passed (OpAfter 2 1) reached_op fits_none (record { value = id 3; found = refl; holds = record { value = _; found = refl; holds = record { value = id 2; found = refl; holds = record { value = _; found = refl; holds = (third_unlinked, (a_block (id 1), inl refl, λ v. (let e : a_block (id 1) ≡ an_op (id 3) = alone (children (with_op.forest)) (an_op (id 3)) refl _ v in cc))) } } } }) (record { value = id 3; found = refl; holds = record { value = id 2; found = refl; holds = refl } })

  made_UnlinkOp : CanBeMade B (UnlinkOp 1)
  made_UnlinkOp = can B with_op _ base_passed (UnlinkOp 1) reached_op fits_none (record { value = id 2; found = refl; holds = record { value = _; found = refl; holds = (a_block (id 1), inl refl) } }) (record { value = id 2; found = refl; holds = refl })

  made_UnlinkBlock : CanBeMade B (UnlinkBlock 0)
  made_UnlinkBlock = can B with_block _ base_passed (UnlinkBlock 0) reached_with_block fits_none (record { value = id 1; found = refl; holds = record { value = _; found = refl; holds = (a_region (id 1), inl refl) } }) (record { value = id 1; found = refl; holds = refl })

  made_BlockFront : CanBeMade B (BlockFront 0 0)
  made_BlockFront = can B (base B key) _ base_passed (BlockFront 0 0) (reached_base B key) fits_none (record { value = id 1; found = refl; holds = record { value = _; found = refl; holds = record { value = id 1; found = refl; holds = (refl, (bare_block ((base B key).forest) (base_bare B key) (id 1), λ v. (let e : a_region (id 1) ≡ a_block (id 1) = alone (children ((base B key).forest)) (a_block (id 1)) refl _ v in cc))) } } }) (record { value = id 1; found = refl; holds = record { value = id 1; found = refl; holds = refl } })

  made_BlockBack : CanBeMade B (BlockBack 0 0)
  made_BlockBack = can B (base B key) _ base_passed (BlockBack 0 0) (reached_base B key) fits_none (record { value = id 1; found = refl; holds = record { value = _; found = refl; holds = record { value = id 1; found = refl; holds = (refl, (bare_block ((base B key).forest) (base_bare B key) (id 1), λ v. (let e : a_region (id 1) ≡ a_block (id 1) = alone (children ((base B key).forest)) (a_block (id 1)) refl _ v in cc))) } } }) (record { value = id 1; found = refl; holds = record { value = id 1; found = refl; holds = refl } })

  made_BlockBefore : CanBeMade B (BlockBefore 1 0)
  made_BlockBefore = can B with_block _ base_passed (BlockBefore 1 0) reached_with_block fits_none (record { value = id 2; found = refl; holds = record { value = _; found = refl; holds = record { value = id 1; found = refl; holds = record { value = _; found = refl; holds = (second_unlinked, (a_region (id 1), inl refl, λ v. (let e : a_region (id 1) ≡ a_block (id 2) = alone (children (with_block.forest)) (a_block (id 2)) refl _ v in cc))) } } } }) (record { value = id 2; found = refl; holds = record { value = id 1; found = refl; holds = refl } })

  made_BlockAfter : CanBeMade B (BlockAfter 1 0)
  made_BlockAfter = can B with_block _ base_passed (BlockAfter 1 0) reached_with_block fits_none (record { value = id 2; found = refl; holds = record { value = _; found = refl; holds = record { value = id 1; found = refl; holds = record { value = _; found = refl; holds = (second_unlinked, (a_region (id 1), inl refl, λ v. (let e : a_region (id 1) ≡ a_block (id 2) = alone (children (with_block.forest)) (a_block (id 2)) refl _ v in cc))) } } } }) (record { value = id 2; found = refl; holds = record { value = id 1; found = refl; holds = refl } })

  made_AppendOps : CanBeMade B (AppendOps 0 1)
  made_AppendOps = can B (base B key) _ base_passed (AppendOps 0 1) (reached_base B key) fits_none (record { value = id 1; found = refl; holds = record { value = _; found = refl; holds = record { value = id 2; found = refl; holds = record { value = _; found = refl; holds = (λ e. id_apart 1 2 (omega arith) (let s : id 1 ≡ id 2 = cc in s), λ x h. elim h [ ]) } } } }) (record { value = id 1; found = refl; holds = record { value = id 2; found = refl; holds = record { value = _; found = refl; holds = refl } } })

  made_AppendBlocks : CanBeMade B (AppendBlocks 0 1)
  made_AppendBlocks = can B (base B key) _ base_passed (AppendBlocks 0 1) (reached_base B key) fits_none (record { value = id 1; found = refl; holds = (refl, record { value = id 2; found = refl; holds = (refl, (λ e. id_apart 1 2 (omega arith) (let s : id 1 ≡ id 2 = cc in s), λ x h. elim h [ ])) }) }) (record { value = id 1; found = refl; holds = record { value = id 2; found = refl; holds = record { value = _; found = refl; holds = refl } } })

  made_MoveRegion : CanBeMade B (MoveRegion 0 1)
  made_MoveRegion = can B (base B key) _ base_passed (MoveRegion 0 1) (reached_base B key) fits_none (record { value = id 1; found = refl; holds = (refl, record { value = id 2; found = refl; holds = record { value = _; found = refl; holds = λ v. (let e : an_op (id 2) ≡ a_region (id 1) = alone (children ((base B key).forest)) (a_region (id 1)) refl _ v in cc) } }) }) (record { value = id 1; found = refl; holds = record { value = id 2; found = refl; holds = record { value = _; found = refl; holds = refl } } })

  made_DropOpUses : CanBeMade B (DropOpUses 1)
  made_DropOpUses = can B (base B key) (base B key) base_passed (DropOpUses 1) (reached_base B key) fits_none (record { value = id 2; found = refl; holds = record { value = _; found = refl; holds = tt } }) (record { value = id 2; found = refl; holds = (bare_drops ((base B key).forest) (base_bare B key) _, refl) })

  made_DropBlockUses : CanBeMade B (DropBlockUses 0)
  made_DropBlockUses = can B (base B key) (base B key) base_passed (DropBlockUses 0) (reached_base B key) fits_none (record { value = id 1; found = refl; holds = record { value = _; found = refl; holds = tt } }) (record { value = id 1; found = refl; holds = (bare_drops ((base B key).forest) (base_bare B key) _, refl) })

  made_DropRegionUses : CanBeMade B (DropRegionUses 0)
  made_DropRegionUses = can B (base B key) (base B key) base_passed (DropRegionUses 0) (reached_base B key) fits_none (record { value = id 1; found = refl; holds = (refl, tt) }) (record { value = id 1; found = refl; holds = (bare_drops ((base B key).forest) (base_bare B key) _, refl) })

  made_EraseOp : CanBeMade B (EraseOp 1)
  made_EraseOp = can B (base B key) (over (base B key) (taken lawful ((base B key).forest) (an_op (id 2)))) base_passed (EraseOp 1) (reached_base B key) fits_none (record { value = id 2; found = refl; holds = record { value = _; found = refl; holds = bare_closed ((base B key).forest) (base_bare B key) _ } }) (record { value = id 2; found = refl; holds = (taken_removes lawful ((base B key).forest) (an_op (id 2)) refl, refl) })

  made_EraseBlock : CanBeMade B (EraseBlock 0)
  made_EraseBlock = can B (base B key) (over (base B key) (taken lawful ((base B key).forest) (a_block (id 1)))) base_passed (EraseBlock 0) (reached_base B key) fits_none (record { value = id 1; found = refl; holds = record { value = _; found = refl; holds = bare_closed ((base B key).forest) (base_bare B key) _ } }) (record { value = id 1; found = refl; holds = (taken_removes lawful ((base B key).forest) (a_block (id 1)) refl, refl) })

  made_EraseRegion : CanBeMade B (EraseRegion 0 0)
  made_EraseRegion = can B (base B key) (over (base B key) (taken lawful ((base B key).forest) (a_region (id 1)))) base_passed (EraseRegion 0 0) (reached_base B key) fits_none (record { value = id 1; found = refl; holds = record { value = _; found = refl; holds = record { value = id 1; found = refl; holds = bare_closed ((base B key).forest) (base_bare B key) _ } } }) (record { value = id 1; found = refl; holds = record { value = _; found = refl; holds = record { value = id 1; found = refl; holds = (taken_removes lawful ((base B key).forest) (a_region (id 1)) refl, refl) } } })

  all_made : Every (CanBeMade B) (one_of_each key)
  all_made = (made_NewType, (made_NewOp, (made_NewBlock, (made_AddRegion, (made_PushResult, (made_PushArgument, (made_InsertResult, (made_InsertArgument, (made_RemoveResult, (made_RemoveArgument, (made_PushOperand, (made_PushSuccessor, (made_InsertOperand, (made_InsertSuccessor, (made_RemoveOperand, (made_RemoveSuccessor, (made_ReplaceOperand, (made_ReplaceSuccessor, (made_ReplaceAllUses, (made_RetargetAll, (made_OpFront, (made_OpBack, (made_OpBefore, (made_OpAfter, (made_UnlinkOp, (made_UnlinkBlock, (made_BlockFront, (made_BlockBack, (made_BlockBefore, (made_BlockAfter, (made_AppendOps, (made_AppendBlocks, (made_MoveRegion, (made_DropOpUses, (made_DropBlockUses, (made_DropRegionUses, (made_EraseOp, (made_EraseBlock, (made_EraseRegion, tt)))))))))))))))))))))))))))))))))))))))

pub each_can_be_made : (W : Dialect) (B : Behaviour W) → EachCanBeMade W B
each_can_be_made W B key edit h = every-in (CanBeMade B) (one_of_each key) (all_made B key) edit h
