-- The users of a block, by the kept list of its uses.
use Rattle.std.proofs.Common.{◌≡◌, ◌∙◌, ◌<◌, arith, ℕ, List, map, length, Some, Result, Ok, Err, sym, ap, subst, slice_get}
use Rattle.std.specs.Prelude.{◌↔◌, Any, IfOk}
use Rattle.std.specs.List.{AllZip}
use Rattle.std.specs.Option.{option_map}
use Rattle.std.proofs.lemmas.List.{length-map}
use Rattle.std.proofs.lemmas.Option.{slice_get-map}
use Rattle.ir_model.specs.declared.ids.ArenaIndex.{ArenaIndex}
use Rattle.ir_model.specs.BlockGraph.{IsPredecessor, IsSuccessor}
use Rattle.ir_model.specs.ContextIds.{context_ids}
use Rattle.ir_model.specs.DefinitionLaws.{OnlyTerminatorsBranch}
use Rattle.ir_model.specs.Edits.{UsersLinked}
use Rattle.ir_model.specs.Forest.{Behaviour, Dialect, Forest, an_op, the_block}
use Rattle.ir_model.specs.Nesting.{In, IsLinked, WellFormed, names_of, ops_of}
use Rattle.ir_model.specs.Predecessors.{ArePredecessorsBy, IsPredecessorAt}
use Rattle.ir_model.specs.QueryLaws.{PredecessorsInOrder}
use Rattle.ir_model.specs.Uses.{AreUses, Use}
use Rattle.ir_model.proofs.Edges.{edges_meet, got_in}
use Rattle.ir_model.proofs.Nests.{In-map, In-map_back}
use Rattle.ir_model.proofs.Queries.{predecessors_follow_uses}
use Rattle.ir_core_records.specs.declared.record.UseIndex.{UseIndex}
use Rattle.ir_core_records.specs.Meaning.{use_of}
use Rattle.ir_view_parts.proofs.Items.{any-in, zip-map}

module _ {W : Dialect} (f : Forest context_ids W) where
  -- the predecessors in an answer agree with the successors of all blocks, where terminators alone name successors
  pub edges-ok : (B : Behaviour W) (keys : ℕ) → WellFormed f keys → (b : ArenaIndex) {V E P : Type 0} (index : P → ArenaIndex) (items : V → List P) (r : Result V E) (uses : List (Use context_ids))
      → IfOk r (λ v. ArePredecessorsBy f b uses (map index (items v))) → IfOk r (λ v. OnlyTerminatorsBranch f B → (a : ArenaIndex) → IsSuccessor B f a b ↔ In a (map index (items v)))
  edges-ok B keys formed b index items (Ok v) uses are = λ only a. edges_meet W B f keys formed only a b (map index (items v)) (record { uses = uses; are_uses = are.are_uses; in_order = are.in_order })
  edges-ok B keys formed b index items (Err e) uses are = tt

  module _ (b : ArenaIndex) (kept : List UseIndex) (named : (o : ArenaIndex) → In (the_block b) (names_of f o) ↔ In o (map (λ (u : UseIndex). u.user) kept)) where
    -- a block is a predecessor where it has the user of a kept use
    pub users-in : (a : ArenaIndex) → Any (λ (u : UseIndex). In u.user (ops_of f a)) kept ↔ IsPredecessor f b a
    users-in a = (
      λ h. (let u = (any-in (λ (x : UseIndex). In x.user (ops_of f a)) kept).0 h in (u.0.user, u.2, (named u.0.user).1 (In-map (λ (x : UseIndex). x.user) u.0 kept u.1))),
      λ h. (let u = In-map_back (λ (x : UseIndex). x.user) h.0 kept ((named h.0).0 h.2) in (any-in (λ (x : UseIndex). In x.user (ops_of f a)) kept).1 (u.0, u.1, subst (λ p. In p (ops_of f a)) u.2 h.1)),
    )

    -- the user of a kept use is linked where all users are
    pub user-linked : UsersLinked f b → (k : ℕ) (u : UseIndex) → slice_get kept k ≡ Some u → IsLinked f (an_op u.user)
    user-linked linked k u at = linked u.user ((named u.user).1 (In-map (λ (x : UseIndex). x.user) u kept (got_in kept k u at)))

  module _ (b : ArenaIndex) (kept : List UseIndex) (are : AreUses f (the_block b) (map use_of kept)) where
    -- the blocks of the users, one for each kept use, are the predecessors in the order of the uses
    pub predecessors : {P : Type 0} (index : P → ArenaIndex) (blocks : List P) → AllZip (λ (u : UseIndex) (p : P). In u.user (ops_of f (index p))) kept blocks → ArePredecessorsBy f b (map use_of kept) (map index blocks)
    predecessors index blocks zip = record {
      are_uses = are;
      in_order = zip-map (λ (u : Use context_ids) (a : ArenaIndex). In u.user (ops_of f a)) use_of index kept blocks zip;
    }

    -- so they are in an answer that has them
    pub predecessors-ok : {V E P : Type 0} (index : P → ArenaIndex) (items : V → List P) (r : Result V E) (uses : List (Use context_ids)) → map use_of kept ≡ uses
        → IfOk r (λ v. AllZip (λ (u : UseIndex) (p : P). In u.user (ops_of f (index p))) kept (items v)) → IfOk r (λ v. ArePredecessorsBy f b uses (map index (items v)))
    predecessors-ok index items (Ok v) uses is zip = subst (λ us. ArePredecessorsBy f b us (map index (items v))) is (predecessors index (items v) zip)
    predecessors-ok index items (Err e) uses is zip = tt

    -- a place in the list of uses is one in the kept list
    pub kept-within : (uses : List (Use context_ids)) → map use_of kept ≡ uses → (k : ℕ) → k < length uses → k < length kept
    kept-within uses is k below = omega (arith, ap length is, length-map kept use_of)

    module _ (k : ℕ) (u : UseIndex) (at : slice_get kept k ≡ Some u) (uses : List (Use context_ids)) (is : map use_of kept ≡ uses) where
      -- the block of a kept use is the predecessor at its place
      pub predecessor-at : (a : ArenaIndex) → In u.user (ops_of f a) → IsPredecessorAt f uses k a
      predecessor-at a h = record { value = use_of u; found = ap (λ us. slice_get us k) (sym is) ∙ slice_get-map use_of kept k ∙ ap (option_map use_of) at; holds = h }

      -- that is the one that stands there in the list of predecessors
      pub predecessor-listed : (keys : ℕ) → WellFormed f keys → (a : ArenaIndex) → In u.user (ops_of f a) → (blocks : List ArenaIndex) → ArePredecessorsBy f b uses blocks → slice_get blocks k ≡ Some a
      predecessor-listed keys formed a h blocks by =
          let order : PredecessorsInOrder f b uses = (predecessors_follow_uses W).in_order f keys b uses formed in
          (order.at blocks k a by).1 (predecessor-at a h)
