-- The edits of lists and nesting as steps, from what the calls of the context promise.
use Rattle.std.proofs.Common.{◌≡◌, refl, ap, subst, ◌∙◌, true, false, Bool, cond, ℕ, List, [], ◌∷◌, ◌++◌, arith}
use Rattle.std.specs.List.{list_any}
use Rattle.ir_model.specs.declared.answer.Answer.TheVariants.{Done, Refused}
use Rattle.ir_model.specs.declared.error.CoreError.TheVariants.{OutOfMemory}
use Rattle.ir_model.specs.declared.answer.Refused.TheVariants.{Memory}
use Rattle.ir_model.specs.declared.ids.ArenaIndex.{ArenaIndex}
use Rattle.ir_model.specs.ContextIds.{context_ids, same_id}
use Rattle.ir_model.specs.Forest.{Behaviour, BlockRecord, Forest, OpRecord, a_block, a_region, an_op}
use Rattle.ir_model.specs.Nesting.{In, Inside, IsLinked, blocks_of, list_of, ops_of, regions_of}
use Rattle.ir_model.specs.Changes.{append_blocks, append_ops, in_blocks, in_regions, move_region, on_block, on_ops, on_region, put_after, put_before, without}
use Rattle.ir_model.specs.Edits.{AppendBlocks, AppendOps, BlockAfter, BlockBack, BlockBefore, BlockFront, Condition, MayGoBeside, MayGoInto, MayJoin, MoveRegion, OpAfter, OpBack, OpBefore, OpFront, Tables, UnlinkBlock, UnlinkOp, no_needs, over}
use Rattle.ir_model.specs.Sessions.{Session, Step}
use Rattle.ir_core_records.specs.Meaning.{closed}
use Rattle.ir_core_queries.specs.Calls.{SameButForest}
use Rattle.ir_core_queries.specs.State.{ContextState, bare, forest_of, session_of}
use Rattle.ir_run_sessions.specs.Named.{NamesLive}
use Rattle.ir_run_sessions.proofs.SessionSteps.{HasRoom, no_fresh, refused, tells_memory}
use Rattle.ir_run_sessions.proofs.EntryKinds.{blocks, not_one, not_two, one, ops, regions, the_value, two}
use Rattle.ir_run_sessions.proofs.DoneSteps.{done, handed, left}

module _ {D A K B S X L : Type 0} (c : ContextState D A K B S X L) (tb : Tables context_ids) where
  abbrev s : Session (closed A K B S X L)
  s = session_of c tb

  abbrev f : Forest context_ids (closed A K B S X L)
  f = forest_of c

  module _ (n m : ℕ) where
    -- what is tested of two numbers is the condition
    pub not_op_front : ((i j : ArenaIndex) → NamesLive f an_op tb.ops n i → NamesLive f a_block tb.blocks m j → MayGoInto f (an_op i) (a_block j) → ⊥) → Condition s.state (OpFront n m) → ⊥
    not_op_front = not_two (ops f tb) (blocks f tb) n m (λ i j. MayGoInto f (an_op i) (a_block j))

    pub not_op_before : ((i j : ArenaIndex) → NamesLive f an_op tb.ops n i → NamesLive f an_op tb.ops m j → MayGoBeside f (an_op i) (an_op j) → ⊥) → Condition s.state (OpBefore n m) → ⊥
    not_op_before = not_two (ops f tb) (ops f tb) n m (λ i j. MayGoBeside f (an_op i) (an_op j))

    pub not_block_front : ((i j : ArenaIndex) → NamesLive f a_block tb.blocks n i → NamesLive f a_region tb.regions m j → MayGoInto f (a_block i) (a_region j) → ⊥) → Condition s.state (BlockFront n m) → ⊥
    not_block_front = not_two (blocks f tb) (regions f tb) n m (λ i j. MayGoInto f (a_block i) (a_region j))

    pub not_block_before : ((i j : ArenaIndex) → NamesLive f a_block tb.blocks n i → NamesLive f a_block tb.blocks m j → MayGoBeside f (a_block i) (a_block j) → ⊥) → Condition s.state (BlockBefore n m) → ⊥
    not_block_before = not_two (blocks f tb) (blocks f tb) n m (λ i j. MayGoBeside f (a_block i) (a_block j))

    pub not_append_ops : ((i j : ArenaIndex) → NamesLive f a_block tb.blocks n i → NamesLive f a_block tb.blocks m j → MayJoin f (a_block i) (a_block j) → ⊥) → Condition s.state (AppendOps n m) → ⊥
    not_append_ops = not_two (blocks f tb) (blocks f tb) n m (λ i j. MayJoin f (a_block i) (a_block j))

    pub not_append_blocks : ((i j : ArenaIndex) → NamesLive f a_region tb.regions n i → NamesLive f a_region tb.regions m j → MayJoin f (a_region i) (a_region j) → ⊥) → Condition s.state (AppendBlocks n m) → ⊥
    not_append_blocks = not_two (regions f tb) (regions f tb) n m (λ i j. MayJoin f (a_region i) (a_region j))

    pub not_move_region : ((i j : ArenaIndex) → NamesLive f a_region tb.regions n i → NamesLive f an_op tb.ops m j → (Inside f (a_region i) (an_op j) → ⊥) → ⊥) → Condition s.state (MoveRegion n m) → ⊥
    not_move_region = not_two (regions f tb) (ops f tb) n m (λ i j. Inside f (a_region i) (an_op j) → ⊥)

  module _ (n : ℕ) where
    -- and so for one number
    pub not_unlink_op : ((i : ArenaIndex) → NamesLive f an_op tb.ops n i → IsLinked f (an_op i) → ⊥) → Condition s.state (UnlinkOp n) → ⊥
    not_unlink_op = not_one (ops f tb) n (λ i. IsLinked f (an_op i))

    pub not_unlink_block : ((i : ArenaIndex) → NamesLive f a_block tb.blocks n i → IsLinked f (a_block i) → ⊥) → Condition s.state (UnlinkBlock n) → ⊥
    not_unlink_block = not_one (blocks f tb) n (λ i. IsLinked f (a_block i))

  module _ (behave : Behaviour (closed A K B S X L)) (room : HasRoom (bare c) no_needs) (d : ContextState D A K B S X L) (same : SameButForest (bare c) (bare d)) where
    module _ (n : ℕ) (i : ArenaIndex) where
      pub unlink_op_done : NamesLive f an_op tb.ops n i → IsLinked f (an_op i) → forest_of d ≡ in_blocks f (without same_id i) → Step behave s (UnlinkOp n) Done (session_of d tb)
      unlink_op_done x linked e = done c tb behave room d same (UnlinkOp n) (one (ops f tb) n (λ i. IsLinked f (an_op i)) i x linked) refl refl (record { value = i; found = x.found; holds = left c tb d same _ e })

      pub unlink_block_done : NamesLive f a_block tb.blocks n i → IsLinked f (a_block i) → forest_of d ≡ in_regions f (without same_id i) → Step behave s (UnlinkBlock n) Done (session_of d tb)
      unlink_block_done x linked e = done c tb behave room d same (UnlinkBlock n) (one (blocks f tb) n (λ i. IsLinked f (a_block i)) i x linked) refl refl (record { value = i; found = x.found; holds = left c tb d same _ e })

    module _ (n m : ℕ) (i j : ArenaIndex) where
      module _ (x : NamesLive f an_op tb.ops n i) (y : NamesLive f a_block tb.blocks m j) (may : MayGoInto f (an_op i) (a_block j)) where
        pub op_front_done : forest_of d ≡ on_block f j (on_ops (λ os. i ∷ os)) → Step behave s (OpFront n m) Done (session_of d tb)
        op_front_done e =
            done c tb behave room d same (OpFront n m) (two (ops f tb) (blocks f tb) n m (λ i j. MayGoInto f (an_op i) (a_block j)) i j x y may) refl refl (record { value = i; found = x.found; holds = record { value = j; found = y.found; holds = left c tb d same _ e } })

        pub op_back_done : forest_of d ≡ on_block f j (on_ops (λ os. os ++ i ∷ [])) → Step behave s (OpBack n m) Done (session_of d tb)
        op_back_done e =
            done c tb behave room d same (OpBack n m) (two (ops f tb) (blocks f tb) n m (λ i j. MayGoInto f (an_op i) (a_block j)) i j x y may) refl refl (record { value = i; found = x.found; holds = record { value = j; found = y.found; holds = left c tb d same _ e } })

      module _ (x : NamesLive f an_op tb.ops n i) (y : NamesLive f an_op tb.ops m j) (may : MayGoBeside f (an_op i) (an_op j)) where
        pub op_before_done : forest_of d ≡ in_blocks f (put_before same_id i j) → Step behave s (OpBefore n m) Done (session_of d tb)
        op_before_done e =
            done c tb behave room d same (OpBefore n m) (two (ops f tb) (ops f tb) n m (λ i j. MayGoBeside f (an_op i) (an_op j)) i j x y may) refl refl (record { value = i; found = x.found; holds = record { value = j; found = y.found; holds = left c tb d same _ e } })

        pub op_after_done : forest_of d ≡ in_blocks f (put_after same_id i j) → Step behave s (OpAfter n m) Done (session_of d tb)
        op_after_done e =
            done c tb behave room d same (OpAfter n m) (two (ops f tb) (ops f tb) n m (λ i j. MayGoBeside f (an_op i) (an_op j)) i j x y may) refl refl (record { value = i; found = x.found; holds = record { value = j; found = y.found; holds = left c tb d same _ e } })

      module _ (x : NamesLive f a_block tb.blocks n i) (y : NamesLive f a_region tb.regions m j) (may : MayGoInto f (a_block i) (a_region j)) where
        pub block_front_done : forest_of d ≡ on_region f j (λ bs. i ∷ bs) → Step behave s (BlockFront n m) Done (session_of d tb)
        block_front_done e =
            done c tb behave room d same (BlockFront n m) (two (blocks f tb) (regions f tb) n m (λ i j. MayGoInto f (a_block i) (a_region j)) i j x y may) refl refl (record { value = i; found = x.found; holds = record { value = j; found = y.found; holds = left c tb d same _ e } })

        pub block_back_done : forest_of d ≡ on_region f j (λ bs. bs ++ i ∷ []) → Step behave s (BlockBack n m) Done (session_of d tb)
        block_back_done e =
            done c tb behave room d same (BlockBack n m) (two (blocks f tb) (regions f tb) n m (λ i j. MayGoInto f (a_block i) (a_region j)) i j x y may) refl refl (record { value = i; found = x.found; holds = record { value = j; found = y.found; holds = left c tb d same _ e } })

      module _ (x : NamesLive f a_block tb.blocks n i) (y : NamesLive f a_block tb.blocks m j) where
        module _ (may : MayGoBeside f (a_block i) (a_block j)) where
          pub block_before_done : forest_of d ≡ in_regions f (put_before same_id i j) → Step behave s (BlockBefore n m) Done (session_of d tb)
          block_before_done e =
              done c tb behave room d same (BlockBefore n m) (two (blocks f tb) (blocks f tb) n m (λ i j. MayGoBeside f (a_block i) (a_block j)) i j x y may) refl refl (record { value = i; found = x.found; holds = record { value = j; found = y.found; holds = left c tb d same _ e } })

          pub block_after_done : forest_of d ≡ in_regions f (put_after same_id i j) → Step behave s (BlockAfter n m) Done (session_of d tb)
          block_after_done e =
              done c tb behave room d same (BlockAfter n m) (two (blocks f tb) (blocks f tb) n m (λ i j. MayGoBeside f (a_block i) (a_block j)) i j x y may) refl refl (record { value = i; found = x.found; holds = record { value = j; found = y.found; holds = left c tb d same _ e } })

        pub append_ops_done : MayJoin f (a_block i) (a_block j) → forest_of d ≡ append_ops f i j (ops_of f j) → Step behave s (AppendOps n m) Done (session_of d tb)
        append_ops_done may e =
            let r = the_value (f.blocks j) y.live in
            let listed : ops_of f j ≡ (r.0).ops = ap (λ q. list_of (λ (b : BlockRecord context_ids (closed A K B S X L)). b.ops) q) r.1 in
            done c tb behave room d same (AppendOps n m) (two (blocks f tb) (blocks f tb) n m (λ i j. MayJoin f (a_block i) (a_block j)) i j x y may) refl refl (record { value = i; found = x.found; holds = record { value = j; found = y.found; holds = record { value = r.0; found = r.1; holds = left c tb d same _ (e ∙ ap (append_ops f i j) listed) } } })

      pub append_blocks_done : NamesLive f a_region tb.regions n i → NamesLive f a_region tb.regions m j → MayJoin f (a_region i) (a_region j) → forest_of d ≡ append_blocks f i j (blocks_of f j) → Step behave s (AppendBlocks n m) Done (session_of d tb)
      append_blocks_done x y may e =
          let r = the_value (f.regions j) y.live in
          let listed : blocks_of f j ≡ r.0 = ap (λ q. list_of (λ (bs : List ArenaIndex). bs) q) r.1 in
          done c tb behave room d same (AppendBlocks n m) (two (regions f tb) (regions f tb) n m (λ i j. MayJoin f (a_region i) (a_region j)) i j x y may) refl refl (record { value = i; found = x.found; holds = record { value = j; found = y.found; holds = record { value = r.0; found = r.1; holds = left c tb d same _ (e ∙ ap (append_blocks f i j) listed) } } })

      module _ (x : NamesLive f a_region tb.regions n i) (y : NamesLive f an_op tb.ops m j) (outside : Inside f (a_region i) (an_op j) → ⊥) where
        abbrev may_move : Condition s.state (MoveRegion n m)
        may_move = two (regions f tb) (ops f tb) n m (λ i j. Inside f (a_region i) (an_op j) → ⊥) i j x y outside

        abbrev is_home : List ArenaIndex → Bool
        is_home rs = list_any (λ h. same_id h i) rs

        pub move_region_done : forest_of d ≡ cond (is_home (regions_of f j)) f (move_region f i j) → Step behave s (MoveRegion n m) Done (session_of d tb)
        move_region_done e =
            let r = the_value (f.ops j) y.live in
            let listed : regions_of f j ≡ (r.0).regions = ap (λ q. list_of (λ (o : OpRecord context_ids (closed A K B S X L)). o.regions) q) r.1 in
            let moved = e ∙ ap (λ rs. cond (is_home rs) f (move_region f i j)) listed in
            done c tb behave room d same (MoveRegion n m) may_move refl refl (record { value = i; found = x.found; holds = record { value = j; found = y.found; holds = record { value = r.0; found = r.1; holds = by (is_home (r.0).regions) moved } } })
          where
            by : (b : Bool) → forest_of d ≡ cond b f (move_region f i j) → (session_of d tb).state ≡ cond b s.state (over s.state (move_region f i j))
            by true h = left c tb d same f h
            by false h = left c tb d same (move_region f i j) h

        -- where memory is refused nothing is moved
        pub move_region_refused : (In i (regions_of f j) → ⊥) → forest_of d ≡ f → Step behave s (MoveRegion n m) (Refused Memory) (session_of d tb)
        move_region_refused elsewhere e =
            let r = the_value (f.ops j) y.live in
            let listed : regions_of f j ≡ (r.0).regions = ap (λ q. list_of (λ (o : OpRecord context_ids (closed A K B S X L)). o.regions) q) r.1 in
            let P : List ArenaIndex → Type 0 = λ rs. In i rs → ⊥ in
            refused behave c tb (MoveRegion n m) may_move no_needs refl OutOfMemory
            (record { value = i; found = x.found; holds = record { value = j; found = y.found; holds = record { value = r.0; found = r.1; holds = subst P listed elsewhere } } })
            (tells_memory (bare c) no_needs room) d tb refl (record {
              forest = e;
              store = same.store;
              beside = same.beside;
              limits = same.limits;
              skipped = no_fresh;
              within = record { ops = omega arith; blocks = omega arith; regions = omega arith; numbers = omega arith; uses = omega arith };
              were_new = record { ops = λ i h. absurd h; blocks = λ i h. absurd h; regions = λ i h. absurd h; numbers = λ i h. absurd h; uses = λ i h. absurd h };
              passed = (handed c d same).passed;
            })
