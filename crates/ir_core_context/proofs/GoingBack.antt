-- What was unlinked in a context goes back.
use Rattle.std.proofs.Common.{◌≡◌, List, [], ◌∷◌, length, Some, is_some, sym, ap, refl, subst}
use Rattle.ir_model.specs.declared.ids.ArenaIndex.{ArenaIndex}
use Rattle.ir_model.specs.ContextIds.{context_ids, same_id}
use Rattle.ir_model.specs.Forest.{Behaviour, Dialect, Forest, a_block, a_region, an_op}
use Rattle.ir_model.specs.Ids.{Fresh}
use Rattle.ir_model.specs.Nesting.{IsLinked, WellFormed, blocks_of, ops_of}
use Rattle.ir_model.specs.Parent.{ComesAfter, first_of}
use Rattle.ir_model.specs.Changes.{in_blocks, in_regions, without}
use Rattle.ir_model.specs.Edits.{BlockAfter, BlockFront, Condition, OpAfter, OpFront, State as Tabled, StoredType, over}
use Rattle.ir_model.proofs.Found.{held}
use Rattle.ir_model.proofs.MayGoBack.{may_go_back}
use Rattle.ir_model.proofs.Relinks.{block_after, block_front, op_after, op_front}
use Rattle.ir_model.proofs.TwoRuns.{lawful}
use Rattle.ir_core_records.specs.declared.records.Records.{Records}
use Rattle.ir_core_records.specs.Meaning.{closed, forest_in}
use Rattle.ir_core_context.specs.GoingBack.{BlockGoesBack, BlockMayGoBack, OpGoesBack, OpMayGoBack}
use Rattle.ir_core_context.specs.Sound.{IsSound}
use Rattle.ir_core_context.specs.State.{ContextState, forest_of, types_of}
use Rattle.ir_core_context.proofs.StoredTypes.{length-stored}

abbrev no_fresh : Fresh context_ids
no_fresh = record { ops = []; blocks = []; regions = []; numbers = []; uses = [] }

module _ {W : Dialect} (B : Behaviour W) (f : Forest context_ids W) (store : List (StoredType W)) (formed : WellFormed f (length store)) where
  -- the forest with a table of these operations, blocks and regions
  abbrev listed : List ArenaIndex → List ArenaIndex → List ArenaIndex → Tabled context_ids W
  listed os bs gs = record { forest = f; store = store; tables = record { types = []; ops = os; blocks = bs; regions = gs; values = [] } }

  module _ (o : ArenaIndex) where
    abbrev op_gone : Forest context_ids W
    op_gone = in_blocks f (without same_id o)

    op_after_holds : (mark : ArenaIndex) → ComesAfter f (an_op mark) (an_op o) → Condition (over (listed (o ∷ mark ∷ []) [] []) op_gone) (OpAfter 0 1)
    op_after_holds mark at =
        (may_go_back B (listed (o ∷ mark ∷ []) [] []) formed).op_after 0 1 no_fresh _
        (record { value = o; found = refl; holds = record { value = mark; found = refl; holds = at } }) (record { value = o; found = refl; holds = refl })

    op_front_holds : (b : ArenaIndex) → first_of (ops_of f b) ≡ Some o → Condition (over (listed (o ∷ []) (b ∷ []) []) op_gone) (OpFront 0 0)
    op_front_holds b at =
        (may_go_back B (listed (o ∷ []) (b ∷ []) []) formed).op_front 0 0 no_fresh _
        (record { value = o; found = refl; holds = record { value = b; found = refl; holds = at } }) (record { value = o; found = refl; holds = refl })

    op-may-go-back : IsLinked f (an_op o) → OpMayGoBack f op_gone o
    op-may-go-back linked = record {
      live = formed.nested.live (an_op o) linked.0 linked.1;
      after = λ mark at. (held mark (held o (op_after_holds mark at)).holds).holds;
      front = λ b at. (held b (held o (op_front_holds b at)).holds).holds;
      block_live = λ b at. ap is_some (held b (held o (op_front_holds b at)).holds).found;
    }

    op-goes-back : OpGoesBack f op_gone o
    op-goes-back = record { after = op_after lawful f (length store) formed o; front = op_front lawful f (length store) formed o }

  module _ (b : ArenaIndex) where
    abbrev block_gone : Forest context_ids W
    block_gone = in_regions f (without same_id b)

    block_after_holds : (mark : ArenaIndex) → ComesAfter f (a_block mark) (a_block b) → Condition (over (listed [] (b ∷ mark ∷ []) []) block_gone) (BlockAfter 0 1)
    block_after_holds mark at =
        (may_go_back B (listed [] (b ∷ mark ∷ []) []) formed).block_after 0 1 no_fresh _
        (record { value = b; found = refl; holds = record { value = mark; found = refl; holds = at } }) (record { value = b; found = refl; holds = refl })

    block_front_holds : (g : ArenaIndex) → first_of (blocks_of f g) ≡ Some b → Condition (over (listed [] (b ∷ []) (g ∷ [])) block_gone) (BlockFront 0 0)
    block_front_holds g at =
        (may_go_back B (listed [] (b ∷ []) (g ∷ [])) formed).block_front 0 0 no_fresh _
        (record { value = b; found = refl; holds = record { value = g; found = refl; holds = at } }) (record { value = b; found = refl; holds = refl })

    block-may-go-back : IsLinked f (a_block b) → BlockMayGoBack f block_gone b
    block-may-go-back linked = record {
      live = formed.nested.live (a_block b) linked.0 linked.1;
      after = λ mark at. (held mark (held b (block_after_holds mark at)).holds).holds;
      front = λ g at. (held g (held b (block_front_holds g at)).holds).1;
      region_live = λ g at. (held g (held b (block_front_holds g at)).holds).0;
    }

    block-goes-back : BlockGoesBack f block_gone b
    block-goes-back = record { after = block_after lawful f (length store) formed b; front = block_front lawful f (length store) formed b }

-- the same of a context, whose records mean the forest without it in the lists
module _ {D A K B S X L : Type 0} {s : ContextState D A K B S X L} (answers : Behaviour (closed A K B S X L)) (sound : IsSound s) where
  formed : WellFormed (forest_of s) (length (types_of s))
  formed = subst (WellFormed (forest_of s)) (sym (length-stored A K B S X L s.types)) sound.formed

  module _ (t : Records D A K B S X L) (x : ArenaIndex) where
    pub op-unlinked-may-go-back : IsLinked (forest_of s) (an_op x) → forest_in t ≡ in_blocks (forest_of s) (without same_id x) → OpMayGoBack (forest_of s) (forest_in t) x
    op-unlinked-may-go-back linked is = subst (λ g. OpMayGoBack (forest_of s) g x) (sym is) (op-may-go-back answers (forest_of s) (types_of s) formed x linked)

    pub op-unlinked-goes-back : forest_in t ≡ in_blocks (forest_of s) (without same_id x) → OpGoesBack (forest_of s) (forest_in t) x
    op-unlinked-goes-back is = subst (λ g. OpGoesBack (forest_of s) g x) (sym is) (op-goes-back answers (forest_of s) (types_of s) formed x)

    pub block-unlinked-may-go-back : IsLinked (forest_of s) (a_block x) → forest_in t ≡ in_regions (forest_of s) (without same_id x) → BlockMayGoBack (forest_of s) (forest_in t) x
    block-unlinked-may-go-back linked is = subst (λ g. BlockMayGoBack (forest_of s) g x) (sym is) (block-may-go-back answers (forest_of s) (types_of s) formed x linked)

    pub block-unlinked-goes-back : forest_in t ≡ in_regions (forest_of s) (without same_id x) → BlockGoesBack (forest_of s) (forest_in t) x
    block-unlinked-goes-back is = subst (λ g. BlockGoesBack (forest_of s) g x) (sym is) (block-goes-back answers (forest_of s) (types_of s) formed x)
