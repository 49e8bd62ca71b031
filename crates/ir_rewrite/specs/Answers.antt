-- What a call answers: the first condition that doesn't hold, with the call of the core that has it, or its own answer.
use Rattle.std.specs.Prelude.{◌≡◌, List, Result, length, All}
use Rattle.ir_model.specs.declared.ids.ArenaIndex.{ArenaIndex}
use Rattle.ir_model.specs.ContextIds.{context_ids}
use Rattle.ir_model.specs.Forest.{Dialect, Forest, a_block, a_region, a_value, an_op, definer_entity, of_op}
use Rattle.ir_model.specs.Nesting.{Inside, IsClosed, IsLinked, IsLive, IsLiveNamed, definitions_of, regions_of}
use Rattle.ir_checked_core.specs.declared.error.Call.{Call}
use Rattle.ir_checked_core.specs.declared.error.Call.TheVariants.{OperationErase, OperationGetResult, OperationInsertAfter, OperationInsertAtBack, OperationInsertAtFront, OperationInsertBefore, OperationUnlink, ValueReplaceAllUsesWith}
use Rattle.ir_checked_core.specs.declared.error.Condition.TheVariants.{DeadBlock, DeadOperation, DeadValue, InsideItself, Linked, NotClosed, OutOfRange, Unlinked}
use Rattle.ir_checked_core.specs.declared.error.CheckedErr.{CheckedErr}
use Rattle.ir_checked_core.specs.Answers.{unless}
use Rattle.ir_core_records.specs.declared.handles.Value.{Value}
use Rattle.ir_core_records.specs.Meaning.{value_of}
use Rattle.ir_rewrite.specs.declared.point.InsertionPoint.{InsertionPoint}
use Rattle.ir_rewrite.specs.declared.point.InsertionPoint.TheVariants.{AfterOperation, AtBlockEnd, AtBlockStart, BeforeOperation}
use Rattle.ir_rewrite.specs.Points.{MayMoveBeside, StandsOutside}
use Rattle.ir_rewrite.specs.Replacing.{IsOutside}

module _ {T : Type 0} where
  -- the rest is said of this call
  abbrev pub of_call : Call → (Call → Result T CheckedErr → Type 0) → Call → Result T CheckedErr → Type 0
  of_call call said other result = said call result

  module _ {W : Dialect} (call : Call) (f : Forest context_ids W) (o : ArenaIndex) where
    -- the call puts the operation into the list of the block: it and the block are live, it stands in no list, and the block isn't inside it
    abbrev pub InsertIntoAnswers : ArenaIndex → (Call → Result T CheckedErr → Type 0) → Result T CheckedErr → Type 0
    InsertIntoAnswers b own result =
        unless (IsLive f (an_op o)) DeadOperation
        (unless (IsLive f (a_block b)) DeadBlock
        (unless (IsLinked f (an_op o) → ⊥) Linked
        (unless (Inside f (an_op o) (a_block b) → ⊥) InsideItself own))) call result

    -- the call puts the operation beside the mark: both are live, the mark stands in a block, the operation in none, and the block isn't inside it
    abbrev pub InsertBesideAnswers : ArenaIndex → (Call → Result T CheckedErr → Type 0) → Result T CheckedErr → Type 0
    InsertBesideAnswers mark own result =
        unless (IsLive f (an_op o)) DeadOperation
        (unless (IsLive f (an_op mark)) DeadOperation
        (unless (IsLinked f (an_op mark)) Unlinked
        (unless (IsLinked f (an_op o) → ⊥) Linked
        (unless (StandsOutside f mark o) InsideItself own)))) call result

    -- the operation is live and stands in a block, and the call then puts it beside the mark, which is live and another one, and stands in a block that isn't inside it
    abbrev pub MoveAnswers : ArenaIndex → (Call → Result T CheckedErr → Type 0) → Result T CheckedErr → Type 0
    MoveAnswers mark own result =
        unless (IsLive f (an_op o)) DeadOperation
        (unless (IsLinked f (an_op o)) Unlinked
        (of_call call
        (unless (IsLive f (an_op mark)) DeadOperation
        (unless (IsLinked f (an_op mark)) Unlinked
        (unless (MayMoveBeside f o mark) InsideItself own))))) OperationUnlink result

  module _ {W : Dialect} (f : Forest context_ids W) where
    -- an operation is erased: it is live, and nothing outside names what is defined inside
    abbrev pub EraseAnswers : ArenaIndex → (Call → Result T CheckedErr → Type 0) → Result T CheckedErr → Type 0
    EraseAnswers o own result = unless (IsLive f (an_op o)) DeadOperation (unless (IsClosed f (an_op o)) NotClosed own) OperationErase result

    module _ {D A K B S X L : Type 0} where
      -- an operation is put in at the point
      abbrev pub InsertAnswers : InsertionPoint D A K B S X L → ArenaIndex → (Call → Result T CheckedErr → Type 0) → Result T CheckedErr → Type 0
      InsertAnswers (AtBlockStart b) o own result = InsertIntoAnswers OperationInsertAtFront f o b.index own result
      InsertAnswers (AtBlockEnd b) o own result = InsertIntoAnswers OperationInsertAtBack f o b.index own result
      InsertAnswers (BeforeOperation m) o own result = InsertBesideAnswers OperationInsertBefore f o m.index own result
      InsertAnswers (AfterOperation m) o own result = InsertBesideAnswers OperationInsertAfter f o m.index own result

      -- an operation is replaced by values: it is live, there is a result for each value and a value for each result, the values are live and defined outside of it, and nothing outside one of its regions names what is defined inside that
      abbrev pub ReplaceAnswers : ArenaIndex → List (Value D A K B S X L) → (Call → Result T CheckedErr → Type 0) → Result T CheckedErr → Type 0
      ReplaceAnswers o values own result =
          unless (IsLive f (an_op o)) DeadOperation
          (of_call OperationGetResult
          (unless (length values ≡ length (definitions_of f (of_op o))) OutOfRange
          (of_call ValueReplaceAllUsesWith
          (unless (All (λ v. IsLiveNamed f (a_value (value_of v.index))) values) DeadValue
          (unless (All (λ v. IsOutside f o (value_of v.index)) values) InsideItself
          (of_call OperationErase
          (unless (All (λ g. IsClosed f (a_region g)) (regions_of f o)) NotClosed own))))))) OperationErase result
