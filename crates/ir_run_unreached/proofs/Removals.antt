-- What unreached blocks that lose their uses and are erased, one after the other, leave of a forest.
use mathlib.Core.Path.{◌≡◌, refl, sym, ap, ◌∙◌, subst}
use Rattle.std.proofs.Common.{ℕ, ◌⊎◌, inl, inr, Bool, true, false, Option, Some, None, List, [], ◌∷◌, ◌++◌, map, is_some, length}
use Rattle.std.specs.Prelude.{IsTrue}
use Rattle.std.specs.List.{filter, count_by}
use Rattle.std.specs.Option.{option_map}
use Rattle.std.proofs.lemmas.List.Sums.{length-filter}
use Rattle.ir_model.specs.Ids.{Ids, Distinct}
use Rattle.ir_model.specs.Forest.{Dialect, Entity, an_op, a_block, a_region, OpRecord, BlockRecord, Forest, Named, owner}
use Rattle.ir_model.specs.Nesting.{In, Within, itself, below, list_of, children, Inside, IsLive, IsClosed, Nested, WellFormed, names_of, blocks_of}
use Rattle.ir_model.specs.Changes.{DropsUses, Removes, but, on_ops, no_uses}
use Rattle.ir_model.proofs.Nests.{In-left, In-right, In-map, not_in-Absent}
use Rattle.ir_model.proofs.Keeps.{is_some-map, Distinct-unmap}
use Rattle.ir_model.proofs.KeepsUses.{named_by, names_are}
use Rattle.ir_model.proofs.KeepsErase.{gone_or_out}
use Rattle.ir_model.proofs.Filters.{In-filter, In-kept, Distinct-filter}
use Rattle.ir_model.proofs.Removal.{length-same}
use Rattle.ir_model_passes.specs.SweepInside.{ListsLive}
use Rattle.ir_model_passes.specs.Unreached.{IsUnreached, GoesUnreached, NamesStayInside, RemovesUnreached, RemovesSome, none_removed, uses_dropped, block_erased}
use Rattle.ir_core_erasing.proofs.Drops.{drop-children, drop-inside}
use Rattle.ir_core_erasing.proofs.Unnamed.{removed-inside, removed-names}
use Rattle.ir_run_unreached.specs.Marks.{ListsUnreached}
use Rattle.ir_run_unreached.specs.Removals.{DropsEach, none_dropped, one_dropped, ErasesEach, none_erased, one_erased, CanEraseEach}

module _ {N : Ids} {W : Dialect} where
  -- all that is live, listed kind by kind
  pub all_listed : (f : Forest N W) (ops : List N.Op) (blocks : List N.Block) (regions : List N.Region)
      → ((o : N.Op) → IsLive f (an_op o) → In o ops) → ((b : N.Block) → IsLive f (a_block b) → In b blocks) → ((r : N.Region) → IsLive f (a_region r) → In r regions)
      → ListsLive f (map an_op ops ++ (map a_block blocks ++ map a_region regions))
  all_listed f ops blocks regions of_op of_block of_region (an_op o) live = In-left (an_op o) (map an_op ops) _ (In-map an_op o ops (of_op o live))
  all_listed f ops blocks regions of_op of_block of_region (a_block b) live = In-right (a_block b) (map an_op ops) _ (In-left (a_block b) (map a_block blocks) _ (In-map a_block b blocks (of_block b live)))
  all_listed f ops blocks regions of_op of_block of_region (a_region r) live = In-right (a_region r) (map an_op ops) _ (In-right (a_region r) (map a_block blocks) _ (In-map a_region r regions (of_region r live)))

  -- ## Dropping

  -- one drop after the other: the lists stay, no operation names more, and those inside the blocks name nothing
  pub record Dropped (f : Forest N W) (blocks : List N.Block) (g : Forest N W) : Type 0 where
    pub lists : (y : Entity N) → children g y ≡ children f y
    pub records : g.blocks ≡ f.blocks
    pub names : (o : N.Op) (d : Named N) → In d (names_of g o) → In d (names_of f o)
    pub nothing : (b : N.Block) (o : N.Op) (d : Named N) → In b blocks → Inside f (a_block b) (an_op o) → In d (names_of g o) → ⊥

  no_names : (m : Option (OpRecord N W)) → list_of named_by (option_map no_uses m) ≡ []
  no_names None = refl
  no_names (Some r) = refl

  module _ (f g : Forest N W) (e : Entity N) (d : DropsUses f e g) where
    names_then : (o : N.Op) (n : Named N) → In n (names_of g o) → In n (names_of f o)
    names_then o n h = elim (d.either o) [
      | inl k ↦ subst (In n) (names_are g o ∙ ap (list_of named_by) k ∙ sym (names_are f o)) h
      | inr k ↦ absurd (let z : In {A = Named N} n [] = subst (In n) (names_are g o ∙ ap (list_of named_by) k ∙ no_names (f.ops o)) h in z)
    ]

    nothing_inside : (o : N.Op) (n : Named N) → Inside f e (an_op o) → In n (names_of g o) → ⊥
    nothing_inside o n i h = let z : In {A = Named N} n [] = subst (In n) (names_are g o ∙ ap (list_of named_by) (d.inside o i) ∙ no_names (f.ops o)) h in z

  pub drops_tell : (f : Forest N W) (blocks : List N.Block) (g : Forest N W) → DropsEach f blocks g → Dropped f blocks g
  drops_tell f _ _ none_dropped = record { lists = λ y. refl; records = refl; names = λ o d h. h; nothing = λ b o d h i k. absurd h }
  drops_tell f _ h (one_dropped {g = g} {b = c} {bs = bs} d more) =
      let rest = drops_tell g bs h more in
      record {
        lists = λ y. rest.lists y ∙ drop-children f g (a_block c) d y;
        records = rest.records ∙ d.blocks;
        names = λ o n k. names_then f g (a_block c) d o n (rest.names o n k);
        nothing = λ b o n here i k. elim here [
          | inl e ↦ nothing_inside f g (a_block c) d o n (subst (λ z. Inside f (a_block z) (an_op o)) e i) (rest.names o n k)
          | inr l ↦ rest.nothing b o n l (drop-inside f g (a_block c) d (a_block b) (an_op o) i) k
        ];
      }

  pub still_inside : (f g : Forest N W) → ((y : Entity N) → children g y ≡ children f y) → (e x : Entity N) → Inside g e x → Inside f e x
  still_inside f g lists e x itself = itself
  still_inside f g lists e x (below {c = c} h v) = below (subst (In x) (lists c) h) (still_inside f g lists e c v)

  -- ## Erasing

  module _ (f g : Forest N W) (c : N.Block) (blocks : List N.Block) (can : CanEraseEach f (c ∷ blocks)) where
    pub first_live : IsLive f (a_block c)
    first_live = can.live c (inl refl)

    pub first_closed : IsClosed f (a_block c)
    first_closed o d h i = absurd (can.unnamed c o d (inl refl) h i)

    module _ (r : Removes f (a_block c) g) where
      not_inside : (b : N.Block) → In b blocks → Inside f (a_block c) (a_block b) → ⊥
      not_inside b h i = not_in-Absent c blocks can.once.0 (subst (λ z. In z blocks) (can.apart c b (inl refl) (inr h) i) h)

      -- when the first is gone, the others can be erased
      pub others_can : CanEraseEach g blocks
      others_can = record {
        live = λ b h. ap is_some (r.blocks_outside b (not_inside b h)) ∙ is_some-map (on_ops (but {N = N} (a_block c) an_op)) (f.blocks b) ∙ can.live b (inr h);
        once = can.once.1;
        apart = λ b d h k i. can.apart b d (inr h) (inr k) (removed-inside f g (a_block c) r (a_block b) (a_block d) i);
        unnamed = λ b o d h k i. can.unnamed b o d (inr h) (removed-names f g (a_block c) r o d k) (removed-inside f g (a_block c) r (a_block b) (owner N d) i);
      }

  -- what is gone stays so
  stays_gone : (f : Forest N W) (blocks : List N.Block) (g : Forest N W) → ErasesEach f blocks g → (b : N.Block) → f.blocks b ≡ None → g.blocks b ≡ None
  stays_gone f _ _ none_erased b e = e
  stays_gone f _ h (one_erased {g = g} {b = c} {bs = bs} r more) b e = stays_gone g bs h more b (elim (gone_or_out _ (g.blocks b) _ (r.blocks_inside b) (r.blocks_outside b)) [
    | inl k ↦ k
    | inr k ↦ k.1 ∙ ap (option_map (on_ops (but {N = N} (a_block c) an_op))) e
  ])

  pub all_gone : (f : Forest N W) (blocks : List N.Block) (g : Forest N W) → ErasesEach f blocks g → (b : N.Block) → In b blocks → g.blocks b ≡ None
  all_gone f _ _ none_erased b h = absurd h
  all_gone f _ h (one_erased {g = g} {b = c} {bs = bs} r more) b (inl e) = stays_gone g bs h more b (subst (λ z. g.blocks z ≡ None) (sym e) (r.blocks_inside c itself))
  all_gone f _ h (one_erased {g = g} {b = c} {bs = bs} r more) b (inr k) = all_gone g bs h more b k

  -- ## Unreached blocks

  module _ (f : Forest N W) (region : N.Region) where
    drops_some : (g : Forest N W) (blocks : List N.Block) (h : Forest N W) → ((b : N.Block) → In b blocks → IsUnreached f region b) → RemovesSome f region g → DropsEach g blocks h → RemovesSome f region h
    drops_some g _ _ un some none_dropped = some
    drops_some g _ h un some (one_dropped {g = e} {b = c} {bs = bs} d more) = drops_some e bs h (λ b k. un b (inr k)) (uses_dropped c some (un c (inl refl)) d) more

    erases_some : (g : Forest N W) (blocks : List N.Block) (h : Forest N W) → ((b : N.Block) → In b blocks → IsUnreached f region b) → RemovesSome f region g → ErasesEach g blocks h → RemovesSome f region h
    erases_some g _ _ un some none_erased = some
    erases_some g _ h un some (one_erased {g = e} {b = c} {bs = bs} r more) = erases_some e bs h (λ b k. un b (inr k)) (block_erased c some (un c (inl refl)) r) more

    module _ (nested : Nested f) where
      -- no block of a region is inside another one
      beside : (b c : N.Block) → In b (blocks_of f region) → In c (blocks_of f region) → Inside f (a_block b) (a_block c) → c ≡ b
      beside b c h k i = by (a_block c) refl i
        where
          by : (x : Entity N) → x ≡ a_block c → Inside f (a_block b) x → c ≡ b
          by _ e itself = cc
          by x e (below {c = d} l v) =
              let around : d ≡ a_region region = nested.one_list (a_block c) d (a_region region) (subst (λ z. In z (children f d)) e l) (In-map a_block c (blocks_of f region) k) in
              absurd (nested.no_cycle (a_block b) (a_region region) (In-map a_block b (blocks_of f region) h) (subst (Within (children f) (a_block b)) around v))

      module _ (blocks : List N.Block) (listed : ListsUnreached f region blocks) where
        un : (b : N.Block) → In b blocks → IsUnreached f region b
        un b h = (listed.exact b).0 h

        pub each_live : (b : N.Block) → In b blocks → IsLive f (a_block b)
        each_live b h = nested.live (a_block b) (a_region region) (In-map a_block b (blocks_of f region) (un b h).0)

        -- once all uses inside are dropped, all can be erased
        pub can_erase : NamesStayInside f region → (g : Forest N W) → DropsEach f blocks g → CanEraseEach g blocks
        can_erase stay g drops =
            let d = drops_tell f blocks g drops in
            record {
              live = λ b h. ap (λ (bs : N.Block → Option (BlockRecord N W)). is_some (bs b)) d.records ∙ each_live b h;
              once = listed.once;
              apart = λ b c h k i. beside b c (un b h).0 (un c k).0 (still_inside f g d.lists (a_block b) (a_block c) i);
              unnamed = λ b o n h k i. (
                  let goes = stay o n (d.names o n k) (b, un b h, still_inside f g d.lists (a_block b) (owner N n) i) in
                  d.nothing goes.0 o n ((listed.exact goes.0).1 goes.1) goes.2 k);
            }

        -- dropped and erased, they were removed
        pub some_removed : (g h : Forest N W) → DropsEach f blocks g → ErasesEach g blocks h → RemovesSome f region h
        some_removed g h drops erases = erases_some g blocks h un (drops_some f blocks g un none_removed drops) erases

        pub none_left : (g h : Forest N W) → Nested h → ErasesEach g blocks h → (b : N.Block) → In b (blocks_of h region) → IsUnreached f region b → ⊥
        none_left g h then erases b here is =
            let live : is_some (h.blocks b) ≡ true = then.live (a_block b) (a_region region) (In-map a_block b (blocks_of h region) here) in
            let gone = all_gone g blocks h erases b ((listed.exact b).1 is) in
            let z : false ≡ true = sym (ap is_some gone) ∙ live in
            absurd cc

        -- so many went
        module _ (h : Forest N W) (count : ℕ) (removed : RemovesUnreached f region h count) where
          abbrev is_gone : N.Block → Bool
          is_gone b = removed.is_gone (a_block b)

          gone_listed : (b : N.Block) → In b (filter is_gone (blocks_of f region)) → In b blocks
          gone_listed b i =
              let k = In-filter is_gone b (blocks_of f region) i in
              let goes = (removed.decides (a_block b)).0 k.1 in
              (listed.exact b).1 (subst (IsUnreached f region) (sym (beside goes.0 b goes.1.0 k.0 goes.2)) goes.1)

          listed_gone : (b : N.Block) → In b blocks → In b (filter is_gone (blocks_of f region))
          listed_gone b i = In-kept is_gone b (blocks_of f region) (un b i).0 ((removed.decides (a_block b)).1 (b, un b i, itself))

          pub so_many : count ≡ length blocks
          so_many = removed.counted ∙ sym (length-filter is_gone (blocks_of f region)) ∙ length-same (filter is_gone (blocks_of f region)) blocks
              (Distinct-filter is_gone (blocks_of f region) (Distinct-unmap a_block (blocks_of f region) (nested.once (a_region region)))) listed.once gone_listed listed_gone
