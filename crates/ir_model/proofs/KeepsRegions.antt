-- A region that is made or moved keeps a forest well formed.
use mathlib.Core.Path.{◌≡◌, refl, sym, ap, ◌∙◌, subst}
use Rattle.std.proofs.Common.{ℕ, ◌≢◌, ◌⊎◌, inl, inr, Bool, true, false, not, Option, Some, None, List, [], ◌∷◌, ◌++◌, map, cond, is_some, IsSome}
use Rattle.std.specs.Option.{option_map}
use Rattle.ir_model.specs.Ids.{Ids}
use Rattle.ir_model.specs.Forest.{Dialect, Definer, of_op, of_block, Entity, an_op, a_block, a_region, OpRecord, Forest}
use Rattle.ir_model.specs.Nesting.{In, Within, itself, below, list_of, children, Inside, WellFormed, regions_of, definitions_of}
use Rattle.ir_model.specs.Changes.{put, on_op, on_regions, without, move_region, add_region}
use Rattle.ir_model.proofs.Loops.{Lawful}
use Rattle.ir_model.proofs.Nests.{In-left, In-right, In-map_back, Within-fewer}
use Rattle.ir_model.proofs.Keeps.{rewrite_at}
use Rattle.ir_model.proofs.Filters.{In-filter, In-kept}
use Rattle.ir_model.proofs.KeepsNew.{put_at}
use Rattle.ir_model.proofs.Entries.{AddsOne-push}
use Rattle.ir_model.proofs.Trees.{Sub-all, Sub-filter, Sub-in, Tree, tree_of, Tree-added, Tree-fewer}
use Rattle.ir_model.proofs.Parts.{Kept, regions_part, rewrite_shape, SameButLists, still_live, then_same, same_but_regions, rewrites_regions}
use Rattle.ir_model.proofs.KeepsLists.{Linked, kept_lists, at_key, added_at, fewer_at}

module _ {N : Ids} {W : Dialect} (L : Lawful N) where
  -- an unlinked region goes last in an operation
  module _ (h : Forest N W) (o : N.Op) (q : OpRecord N W) (is : h.ops o ≡ Some q) (r : N.Region) where
    abbrev push : List N.Region → List N.Region
    push rs = rs ++ r ∷ []

    abbrev after : Forest N W
    after = on_op h o (on_regions push)

    abbrev pushed : N.Op → List N.Region → List N.Region
    pushed p rs = cond (N.same_op p o) (push rs) rs

    into_same : SameButLists h after
    into_same = same_but_regions h after.ops pushed (rewrite_shape regions_part N.same_op o push h.ops)

    into_tree : Tree h → IsSome (h.regions r) → ((y : Entity N) → In (a_region r) (children h y) → ⊥) → (Inside h (a_region r) (an_op o) → ⊥) → Tree after
    into_tree t live unlinked apart =
        Tree-added h after (still_live h after into_same) t (a_region r) (an_op o)
        (added_at a_region an_op pushed h after (rewrites_regions h after.ops pushed (rewrite_shape regions_part N.same_op o push h.ops)) r (an_op o) (λ p xs e. at_key N.same_op L.ops an_op o r push (AddsOne-push r) p xs))
        live unlinked apart

    -- what an operation had, it has
    still_region : (p : N.Op) (x : N.Region) → In x (regions_of h p) → In x (regions_of after p)
    still_region p x k = by (N.same_op p o) (h.ops p) k
      where
        by : (t : Bool) (m : Option (OpRecord N W)) → In x (list_of (λ z. z.regions) m) → In x (list_of (λ z. z.regions) (cond t (option_map (on_regions push) m) m))
        by true None i = i
        by true (Some z) i = In-left x z.regions (r ∷ []) i
        by false m i = i

    has_region : In r (regions_of after o)
    has_region = elim (rewrite_at N.same_op L.ops o (on_regions push) h.ops o) [
      | inl e ↦ subst (λ m. In r (list_of (λ (z : OpRecord N W). z.regions) m)) (sym (e.1 ∙ ap (option_map (on_regions push)) is)) (In-right r q.regions (r ∷ []) (inl refl))
      | inr e ↦ absurd (e.0 refl)
    ]

    into_linked : ((x : N.Region) → IsSome (h.regions x) → (x ≡ r) ⊎ ((p : N.Op) × In x (regions_of h p))) → Linked after
    into_linked was x k = elim (was x k) [ inl e ↦ (o, rw e has_region) | inr at ↦ (at.0, still_region at.0 x at.1) ]

  module _ (f : Forest N W) (keys : ℕ) (new : List N.UseNumber) (w : WellFormed f keys) (r : N.Region) (o : N.Op) (q : OpRecord N W) (is : f.ops o ≡ Some q) where
    -- the forest where no list has the region
    abbrev lifted : Forest N W
    lifted = record f { ops = λ p. option_map (on_regions (without N.same_region r)) (f.ops p) }

    lifted_fewer : (y x : Entity N) → In x (children lifted y) → In x (children f y)
    lifted_fewer y x = Sub-in x (fewer_at a_region an_op (λ _. without N.same_region r) f lifted (rewrites_regions f lifted.ops (λ _. without N.same_region r) (λ _. refl)) (λ _. Sub-filter _) y)

    lifted_same : SameButLists f lifted
    lifted_same = same_but_regions f lifted.ops (λ _. without N.same_region r) (λ _. refl)

    lifted_tree : Tree lifted
    lifted_tree = Tree-fewer f lifted (still_live f lifted lifted_same) (tree_of f w.nested) (fewer_at a_region an_op (λ _. without N.same_region r) f lifted (rewrites_regions f lifted.ops (λ _. without N.same_region r) (λ _. refl)) (λ _. Sub-filter _))

    not_both : (b : Bool) → b ≡ true → not b ≡ true → ⊥
    not_both true e h = cc
    not_both false e h = cc

    lifted_unlinked : (y : Entity N) → In (a_region r) (children lifted y) → ⊥
    lifted_unlinked (a_block b) h = (let at = In-map_back an_op (a_region r) _ h in let e : a_region r ≡ an_op at.0 = at.2 in cc)
    lifted_unlinked (a_region g) h = (let at = In-map_back a_block (a_region r) _ h in let e : a_region r ≡ a_block at.0 = at.2 in cc)
    lifted_unlinked (an_op p) h = by (f.ops p) h
      where
        by : (m : Option (OpRecord N W)) → In {A = Entity N} (a_region r) (map a_region (list_of (λ z. z.regions) (option_map (on_regions (without N.same_region r)) m))) → ⊥
        by None k = k
        by (Some z) k =
            let at = In-map_back a_region (a_region r) (without N.same_region r z.regions) k in
            let e : r ≡ at.0 = (let e' : a_region r ≡ a_region at.0 = at.2 in cc) in
            not_both (N.same_region at.0 r) ((L.regions at.0 r).1 (sym e)) (In-filter (λ x. not (N.same_region x r)) at.0 z.regions at.1).1

    pub MoveRegion-kept : IsSome (f.regions r) → (Inside f (a_region r) (an_op o) → ⊥) → Kept f (move_region f r o) keys new
    MoveRegion-kept live apart =
        kept_lists f (move_region f r o) keys new (then_same f lifted (move_region f r o) lifted_same (into_same lifted o record_there there r)) w
        (into_tree lifted o record_there there r lifted_tree live lifted_unlinked (λ v. apart (Within-fewer (children f) (children lifted) (λ x y. lifted_fewer y x) (a_region r) (an_op o) v)))
        (into_linked lifted o record_there there r was)
      where
        record_there : OpRecord N W
        record_there = on_regions (without N.same_region r) q

        there : lifted.ops o ≡ Some record_there
        there = ap (option_map (on_regions (without N.same_region r))) is

        was : (x : N.Region) → IsSome (f.regions x) → (x ≡ r) ⊎ ((p : N.Op) × In x (regions_of lifted p))
        was x h = by (N.same_region x r) refl
          where
            by : (b : Bool) → N.same_region x r ≡ b → (x ≡ r) ⊎ ((p : N.Op) × In x (regions_of lifted p))
            by true e = inl ((L.regions x r).0 e)
            by false e = let at = w.nested.regions_linked x h in inr (at.0, kept (f.ops at.0) at.1)
              where
                kept : (m : Option (OpRecord N W)) → In x (list_of (λ z. z.regions) m) → In x (list_of (λ z. z.regions) (option_map (on_regions (without N.same_region r)) m))
                kept None k = k
                kept (Some z) k = In-kept (λ y. not (N.same_region y r)) x z.regions k (rw e refl)

    -- the forest with the new region, which is empty
    module _ (dead : f.regions r ≡ None) where
      abbrev more : Forest N W
      more = record f { regions = put N.same_region r [] f.regions }

      more_case : (x : N.Region) → ((x ≡ r) × (more.regions x ≡ Some [])) ⊎ ((x ≢ r) × (more.regions x ≡ f.regions x))
      more_case x = put_at N.same_region L.regions r [] f.regions x

      more_same : SameButLists f more
      more_same = record { definitions = definitions; uses = λ p. refl; names = λ p. refl; ops = λ p. refl; blocks = λ b. refl; regions = still }
        where
          definitions : (d : Definer N) → definitions_of more d ≡ definitions_of f d
          definitions (of_op p) = refl
          definitions (of_block b) = refl

          still : (x : N.Region) → IsSome (f.regions x) → IsSome (more.regions x)
          still x h = elim (more_case x) [ inl e ↦ rw e.1 refl | inr e ↦ rw e.1 h ]

      more_children : (y : Entity N) → children more y ≡ children f y
      more_children (an_op p) = refl
      more_children (a_block b) = refl
      more_children (a_region x) = elim (more_case x) [
        | inl e ↦ (let was : f.regions x ≡ None = ap f.regions e.0 ∙ dead in ap (λ m. map a_block (list_of (λ (bs : List N.Block). bs) m)) e.1 ∙ sym (ap (λ m. map a_block (list_of (λ (bs : List N.Block). bs) m)) was))
        | inr e ↦ ap (λ m. map a_block (list_of (λ (bs : List N.Block). bs) m)) e.1
      ]

      more_tree : Tree more
      more_tree = Tree-fewer f more (still_live f more more_same) (tree_of f w.nested) (λ y. rw (more_children y) (Sub-all (children f y)))

      dead_unlinked : (y : Entity N) → In (a_region r) (children more y) → ⊥
      dead_unlinked y h = (let live : IsSome (f.regions r) = w.nested.live (a_region r) y (rw (more_children y) at h) in let e : is_some {T = List N.Block} None ≡ true = rw dead at live in cc)

      -- nothing stands inside the new region but itself
      alone : (a : Entity N) → Within (children more) (a_region r) a → a ≡ a_region r
      alone a itself = refl
      alone a (below {c = c} k v) = absurd (let e : c ≡ a_region r = alone c v in
          let i : In a (children more (a_region r)) = subst (λ z. In a (children more z)) e k in
          let none : children more (a_region r) ≡ [] = more_children (a_region r) ∙ ap (λ m. map a_block (list_of (λ (bs : List N.Block). bs) m)) dead in
          let j : In {A = Entity N} a [] = rw none at i in j)

      pub AddRegion-kept : Kept f (add_region f o r) keys new
      AddRegion-kept =
          kept_lists f (add_region f o r) keys new (then_same f more (add_region f o r) more_same (into_same more o q is r)) w
          (into_tree more o q is r more_tree live dead_unlinked (λ v. (let e : an_op o ≡ a_region r = alone (an_op o) v in cc)))
          (into_linked more o q is r was)
        where
          live : IsSome (more.regions r)
          live = elim (more_case r) [ inl e ↦ rw e.1 refl | inr e ↦ absurd (e.0 refl) ]

          was : (x : N.Region) → IsSome (more.regions x) → (x ≡ r) ⊎ ((p : N.Op) × In x (regions_of more p))
          was x h = elim (more_case x) [ inl e ↦ inl e.0 | inr e ↦ inr (w.nested.regions_linked x (rw e.1 at h)) ]
