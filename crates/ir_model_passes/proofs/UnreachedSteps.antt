-- Unreached blocks that lose their uses and are erased, one after the other, until none is left, are removed.
use mathlib.Core.Path.{◌≡◌, refl, sym, ap, ◌∙◌, subst}
use Rattle.std.proofs.Common.{ℕ, ◌⊎◌, inl, inr, Bool, true, false, not, cond, ◌||◌, Option, Some, None, List, [], map}
use Rattle.std.specs.Prelude.{IsTrue}
use Rattle.std.specs.List.{filter, count_by}
use Rattle.std.specs.Option.{option_map}
use Rattle.ir_model.specs.Ids.{Ids}
use Rattle.ir_model.specs.Forest.{Dialect, Entity, an_op, a_block, a_region, OpRecord, BlockRecord, Forest, same_entity}
use Rattle.ir_model.specs.Nesting.{In, Within, itself, below, list_of, children, Inside, WellFormed, regions_of, blocks_of}
use Rattle.ir_model.specs.Changes.{on_ops, on_regions, but, no_uses, DropsUses, Removes}
use Rattle.ir_model.proofs.Loops.{Lawful}
use Rattle.ir_model.proofs.Nests.{In-map, In-map_back, Within-fewer}
use Rattle.ir_model.proofs.Keeps.{list_of-map}
use Rattle.ir_model.proofs.Filters.{In-filter, In-kept}
use Rattle.ir_model.proofs.KeepsErase.{gone_or_out}
use Rattle.ir_model.proofs.Decided.{Decided, says, holds, says_true, instead, both, bit_so, some}
use Rattle.ir_model_passes.specs.SweepInside.{ListsLive}
use Rattle.ir_model_passes.specs.Unreached.{IsUnreached, GoesUnreached, RemovesUnreached, RemovesSome, none_removed, uses_dropped, block_erased}
use Rattle.ir_model_passes.proofs.Going.{filter_same, same_test}
use Rattle.ir_model_passes.proofs.Preorder.{all_pass}
use Rattle.ir_model_passes.proofs.BlockSweeps.{both_kept, or_left, or_right, one_or_other}
use Rattle.ir_model_passes.proofs.Climb.{inside_so}

module _ {N : Ids} {W : Dialect} (L : Lawful N) (f : Forest N W) (region : N.Region) (keys : ℕ) (w : WellFormed f keys) (live : List (Entity N)) (lists : ListsLive f live) where
  -- it is one of these blocks, or inside one
  abbrev TakenBy : (N.Block → Bool) → Entity N → Type 0
  TakenBy gone x = (b : N.Block) × IsTrue (gone b) × Inside f (a_block b) x

  -- some unreached blocks are gone; what is inside unreached ones may have lost its uses; all else is as it was
  pub record Removed (g : Forest N W) : Type 0 where
    pub gone : N.Block → Bool
    pub unreached : (b : N.Block) → IsTrue (gone b) → IsUnreached f region b
    pub ops_gone : (o : N.Op) → TakenBy gone (an_op o) → g.ops o ≡ None
    pub ops_left : (o : N.Op) → (GoesUnreached f region (an_op o) → ⊥) → g.ops o ≡ f.ops o
    pub regions_same : (o : N.Op) → (TakenBy gone (an_op o) → ⊥) → regions_of g o ≡ regions_of f o
    pub blocks_gone : (c : N.Block) → TakenBy gone (a_block c) → g.blocks c ≡ None
    pub blocks_left : (c : N.Block) → (TakenBy gone (a_block c) → ⊥) → g.blocks c ≡ f.blocks c
    pub regions_gone : (r : N.Region) → TakenBy gone (a_region r) → g.regions r ≡ None
    pub regions_left : (r : N.Region) → (TakenBy gone (a_region r) → ⊥) → g.regions r ≡ option_map (filter (λ b. not (gone b))) (f.regions r)

  nothing_yet : Removed f
  nothing_yet = record {
    gone = λ b. false;
    unreached = λ b e. absurd cc;
    ops_gone = λ o t. (let k : false ≡ true = t.1 in absurd cc);
    ops_left = λ o out. refl;
    regions_same = λ o out. refl;
    blocks_gone = λ c t. (let k : false ≡ true = t.1 in absurd cc);
    blocks_left = λ c out. refl;
    regions_gone = λ r t. (let k : false ≡ true = t.1 in absurd cc);
    regions_left = λ r out. whole (f.regions r);
  }
    where
      whole : (m : Option (List N.Block)) → m ≡ option_map (filter (λ b. true)) m
      whole None = refl
      whole (Some bs) = ap (λ cs. Some cs) (sym (all_pass (λ b. true) bs (λ b h. refl)))

  listed_live : (b : N.Block) → In b (blocks_of f region) → In {A = Entity N} (a_block b) live
  listed_live b h = lists (a_block b) (w.nested.live (a_block b) (a_region region) (In-map a_block b (blocks_of f region) h))

  module _ (g : Forest N W) (s : Removed g) where
    abbrev T : Entity N → Type 0
    T x = TakenBy s.gone x

    taken_so : (x : Entity N) → Decided (T x)
    taken_so x = instead
        (λ p. (p.0, p.2.0, p.2.1))
        (λ t. (t.0, (s.unreached t.0 t.1).0, (t.1, t.2)))
        (some (λ b. IsTrue (s.gone b) × Inside f (a_block b) x) (λ b. both (bit_so (s.gone b)) (inside_so L f w.nested live lists (a_block b) x)) (blocks_of f region))

    goes : (x : Entity N) → T x → GoesUnreached f region x
    goes x t = (t.0, s.unreached t.0 t.1, t.2)

    -- a child now was a child
    fewer : (x y : Entity N) → In x (children g y) → In x (children f y)
    fewer x (an_op o) h = elim (taken_so (an_op o)) [
      | inl t ↦ absurd (let k : In {A = Entity N} x [] = subst (λ m. In x (map a_region (list_of (λ (q : OpRecord N W). q.regions) m))) (s.ops_gone o t) h in k)
      | inr out ↦ subst (λ rs. In x (map a_region rs)) (s.regions_same o out) h
    ]
    fewer x (a_block c) h = elim (taken_so (a_block c)) [
      | inl t ↦ absurd (let k : In {A = Entity N} x [] = subst (λ m. In x (map an_op (list_of (λ (q : BlockRecord N W). q.ops) m))) (s.blocks_gone c t) h in k)
      | inr out ↦ subst (λ m. In x (map an_op (list_of (λ (q : BlockRecord N W). q.ops) m))) (s.blocks_left c out) h
    ]
    fewer x (a_region r) h = elim (taken_so (a_region r)) [
      | inl t ↦ absurd (let k : In {A = Entity N} x [] = subst (λ m. In x (map a_block (list_of (λ (q : List N.Block). q) m))) (s.regions_gone r t) h in k)
      | inr out ↦ (
          let at = In-map_back a_block x (blocks_of g r) h in
          let was = In-filter (λ b. not (s.gone b)) at.0 (blocks_of f r) (subst (In at.0) (list_left r out) at.1) in
          subst (λ z. In z (map a_block (blocks_of f r))) (sym at.2) (In-map a_block at.0 (blocks_of f r) was.0))
    ]
      where
        filtered : (m : Option (List N.Block)) → list_of (λ (bs : List N.Block). bs) (option_map (filter (λ b. not (s.gone b))) m) ≡ filter (λ b. not (s.gone b)) (list_of (λ (bs : List N.Block). bs) m)
        filtered None = refl
        filtered (Some q) = refl

        list_left : (r : N.Region) → (T (a_region r) → ⊥) → blocks_of g r ≡ filter (λ b. not (s.gone b)) (blocks_of f r)
        list_left r out = ap (list_of (λ (bs : List N.Block). bs)) (s.regions_left r out) ∙ filtered (f.regions r)

    kept_list : (m : Option (List N.Block)) → list_of (λ (bs : List N.Block). bs) (option_map (filter (λ b. not (s.gone b))) m) ≡ filter (λ b. not (s.gone b)) (list_of (λ (bs : List N.Block). bs) m)
    kept_list None = refl
    kept_list (Some q) = refl

    not_gone : (b : N.Block) → (T (a_block b) → ⊥) → not (s.gone b) ≡ true
    not_gone b out = by (s.gone b) refl
      where
        by : (t : Bool) → s.gone b ≡ t → not t ≡ true
        by true e = absurd (out (b, e, itself))
        by false e = refl

    -- a child that is not taken, of what is not taken, is one still
    child_still : (x y : Entity N) → (T y → ⊥) → (T x → ⊥) → In x (children f y) → In x (children g y)
    child_still x (an_op o) out here h = subst (λ rs. In x (map a_region rs)) (sym (s.regions_same o out)) h
    child_still x (a_block c) out here h = subst (λ m. In x (map an_op (list_of (λ (q : BlockRecord N W). q.ops) m))) (sym (s.blocks_left c out)) h
    child_still x (a_region r) out here h =
        let at = In-map_back a_block x (blocks_of f r) h in
        let list : blocks_of g r ≡ filter (λ b. not (s.gone b)) (blocks_of f r) = ap (list_of (λ (bs : List N.Block). bs)) (s.regions_left r out) ∙ kept_list (f.regions r) in
        let k = In-kept (λ b. not (s.gone b)) at.0 (blocks_of f r) at.1 (not_gone at.0 (subst (λ z. T z → ⊥) at.2 here)) in
        subst (λ z. In z (map a_block (blocks_of g r))) (sym at.2) (In-map a_block at.0 (blocks_of g r) (subst (In at.0) (sym list) k))

    inside_still : (e x : Entity N) → Inside f e x → (T x → ⊥) → Inside g e x
    inside_still e x itself out = itself
    inside_still e x (below {c = c} h v) out =
        let around : T c → ⊥ = λ t. out (t.0, t.1, below h t.2) in
        below (child_still x c around out h) (inside_still e c v around)

    back : (e x : Entity N) → Inside g e x → Inside f e x
    back = Within-fewer (children f) (children g) fewer

    -- ## Uses go

    pub uses_go : (h : Forest N W) (b : N.Block) → IsUnreached f region b → DropsUses g (a_block b) h → Removed h
    uses_go h b un drops = record {
      gone = s.gone;
      unreached = s.unreached;
      ops_gone = λ o t. elim (drops.either o) [ inl e ↦ e ∙ s.ops_gone o t | inr e ↦ e ∙ ap (option_map no_uses) (s.ops_gone o t) ];
      ops_left = λ o out. drops.outside o (λ i. out (b, un, back (a_block b) (an_op o) i)) ∙ s.ops_left o out;
      regions_same = λ o out. elim (drops.either o) [
        | inl e ↦ ap (list_of (λ (q : OpRecord N W). q.regions)) e ∙ s.regions_same o out
        | inr e ↦ ap (list_of (λ (q : OpRecord N W). q.regions)) e ∙ list_of-map (λ (q : OpRecord N W). q.regions) no_uses (λ r. refl) (g.ops o) ∙ s.regions_same o out
      ];
      blocks_gone = λ c t. ap (λ (k : N.Block → Option (BlockRecord N W)). k c) drops.blocks ∙ s.blocks_gone c t;
      blocks_left = λ c out. ap (λ (k : N.Block → Option (BlockRecord N W)). k c) drops.blocks ∙ s.blocks_left c out;
      regions_gone = λ r t. ap (λ (k : N.Region → Option (List N.Block)). k r) drops.regions ∙ s.regions_gone r t;
      regions_left = λ r out. ap (λ (k : N.Region → Option (List N.Block)). k r) drops.regions ∙ s.regions_left r out;
    }

    -- ## A block goes

    module _ (h : Forest N W) (b : N.Block) (un : IsUnreached f region b) (removes : Removes g (a_block b) h) where
      abbrev now : N.Block → Bool
      now c = s.gone c || N.same_block c b

      regions_whole : (m : Option (OpRecord N W)) → option_map (on_regions (but {N = N} (a_block b) a_region)) m ≡ m
      regions_whole None = refl
      regions_whole (Some r) = ap (λ rs. Some (record r { regions = rs })) (all_pass (λ x. not (same_entity N (a_region x) (a_block b))) r.regions (λ x k. refl))

      ops_whole : (m : Option (BlockRecord N W)) → option_map (on_ops (but {N = N} (a_block b) an_op)) m ≡ m
      ops_whole None = refl
      ops_whole (Some r) = ap (λ os. Some (record r { ops = os })) (all_pass (λ x. not (same_entity N (an_op x) (a_block b))) r.ops (λ x k. refl))

      lists_both : (m : Option (List N.Block)) → option_map (but {N = N} (a_block b) a_block) (option_map (filter (λ c. not (s.gone c))) m) ≡ option_map (filter (λ c. not (now c))) m
      lists_both None = refl
      lists_both (Some bs) = ap (λ cs. Some cs) (both_kept s.gone (λ c. N.same_block c b) bs)

      -- what is taken now was taken before, or is inside the block that goes
      taken_now : (x : Entity N) → TakenBy now x → T x ⊎ Inside g (a_block b) x
      taken_now x t = elim (taken_so x) [
        | inl k ↦ inl k
        | inr out ↦ elim (one_or_other (s.gone t.0) (N.same_block t.0 b) t.1) [
          | inl e ↦ inl (t.0, e, t.2)
          | inr e ↦ inr (inside_still (a_block b) x (subst (λ z. Inside f (a_block z) x) ((L.blocks t.0 b).0 e) t.2) out)
        ]
      ]

      before : (x : Entity N) → T x → TakenBy now x
      before x t = (t.0, or_left (s.gone t.0) (N.same_block t.0 b) t.1, t.2)

      inside_now : (x : Entity N) → Inside g (a_block b) x → TakenBy now x
      inside_now x i = (b, or_right (s.gone b) (N.same_block b b) ((L.blocks b b).1 refl), back (a_block b) x i)

      stays_none : {A : Type 0} {P : Type 0} (then was : Option A) (drops : Option A → Option A) → drops None ≡ None → (then ≡ None) ⊎ (P × (then ≡ drops was)) → was ≡ None → then ≡ None
      stays_none then was drops none (inl e) k = e
      stays_none then was drops none (inr e) k = e.1 ∙ ap drops k ∙ none

      pub block_goes : Removed h
      block_goes = record {
        gone = now;
        unreached = λ c e. elim (one_or_other (s.gone c) (N.same_block c b) e) [ inl k ↦ s.unreached c k | inr k ↦ subst (IsUnreached f region) (sym ((L.blocks c b).0 k)) un ];
        ops_gone = λ o t. elim (taken_now (an_op o) t) [
          | inl k ↦ stays_none (h.ops o) (g.ops o) (option_map (on_regions (but {N = N} (a_block b) a_region))) refl (gone_or_out _ (h.ops o) _ (removes.ops_inside o) (removes.ops_outside o)) (s.ops_gone o k)
          | inr i ↦ removes.ops_inside o i
        ];
        ops_left = λ o out. removes.ops_outside o (λ i. out (b, un, back (a_block b) (an_op o) i)) ∙ regions_whole (g.ops o) ∙ s.ops_left o out;
        regions_same = λ o out. ap (list_of (λ (q : OpRecord N W). q.regions)) (removes.ops_outside o (λ i. out (inside_now (an_op o) i)) ∙ regions_whole (g.ops o)) ∙ s.regions_same o (λ t. out (before (an_op o) t));
        blocks_gone = λ c t. elim (taken_now (a_block c) t) [
          | inl k ↦ stays_none (h.blocks c) (g.blocks c) (option_map (on_ops (but {N = N} (a_block b) an_op))) refl (gone_or_out _ (h.blocks c) _ (removes.blocks_inside c) (removes.blocks_outside c)) (s.blocks_gone c k)
          | inr i ↦ removes.blocks_inside c i
        ];
        blocks_left = λ c out. removes.blocks_outside c (λ i. out (inside_now (a_block c) i)) ∙ ops_whole (g.blocks c) ∙ s.blocks_left c (λ t. out (before (a_block c) t));
        regions_gone = λ r t. elim (taken_now (a_region r) t) [
          | inl k ↦ stays_none (h.regions r) (g.regions r) (option_map (but {N = N} (a_block b) a_block)) refl (gone_or_out _ (h.regions r) _ (removes.regions_inside r) (removes.regions_outside r)) (s.regions_gone r k)
          | inr i ↦ removes.regions_inside r i
        ];
        regions_left = λ r out. removes.regions_outside r (λ i. out (inside_now (a_region r) i)) ∙ ap (option_map (but {N = N} (a_block b) a_block)) (s.regions_left r (λ t. out (before (a_region r) t))) ∙ lists_both (f.regions r);
      }

    -- ## None is left

    module _ (none : (b : N.Block) → In b (blocks_of g region) → IsUnreached f region b → ⊥) where
      all_gone : (b : N.Block) → IsUnreached f region b → IsTrue (s.gone b)
      all_gone b un = by (s.gone b) refl
        where
          region_out : T (a_region region) → ⊥
          region_out t = w.nested.no_cycle (a_block t.0) (a_region region) (In-map a_block t.0 (blocks_of f region) (s.unreached t.0 t.1).0) t.2

          by : (t : Bool) → s.gone b ≡ t → s.gone b ≡ true
          by true e = e
          by false e = absurd (none b (subst (In b) (sym (ap (list_of (λ (bs : List N.Block). bs)) (s.regions_left region region_out) ∙ kept_list (f.regions region))) (In-kept (λ c. not (s.gone c)) b (blocks_of f region) un.0 (ap not e))) un)

      abbrev gone_so : (x : Entity N) → Decided (GoesUnreached f region x)
      gone_so x = instead (goes x) (λ k. (k.0, all_gone k.0 k.1, k.2)) (taken_so x)

      by_test : {A : Type 0} (x : Entity N) (then left : Option A) → (T x → then ≡ None) → ((GoesUnreached f region x → ⊥) → then ≡ left) → then ≡ cond (says (gone_so x)) None left
      by_test x then left gone out = by (gone_so x)
        where
          by : (d : Decided (GoesUnreached f region x)) → then ≡ cond (says d) None left
          by (inl k) = gone (k.0, all_gone k.0 k.1, k.2)
          by (inr n) = out n

      same_lists : (r : N.Region) → (T (a_region r) → ⊥) → option_map (filter (λ b. not (s.gone b))) (f.regions r) ≡ option_map (filter (λ b. not (says (gone_so (a_block b))))) (f.regions r)
      same_lists r out = by (f.regions r) refl
        where
          owner : (b c : N.Block) → In b (blocks_of f r) → Inside f (a_block c) (a_block b) → (b ≡ c) ⊎ Inside f (a_block c) (a_region r)
          owner b c here itself = inl refl
          owner b c here (below {c = d} h v) = inr (subst (Within (children f) (a_block c)) (w.nested.one_list (a_block b) d (a_region r) h (In-map a_block b (blocks_of f r) here)) v)

          one_test : (b : N.Block) → In b (blocks_of f r) → s.gone b ≡ says (gone_so (a_block b))
          one_test b here = same_test (s.gone b) (says (gone_so (a_block b)))
              (λ e. says_true (gone_so (a_block b)) (b, s.unreached b e, itself))
              (λ e. (let k = holds (gone_so (a_block b)) e in elim (owner b k.0 here k.2) [
                | inl same ↦ subst (λ z. IsTrue (s.gone z)) (sym same) (all_gone k.0 k.1)
                | inr v ↦ absurd (out (k.0, all_gone k.0 k.1, v))
              ]))

          by : (m : Option (List N.Block)) → f.regions r ≡ m → option_map (filter (λ b. not (s.gone b))) m ≡ option_map (filter (λ b. not (says (gone_so (a_block b))))) m
          by None e = refl
          by (Some bs) e = ap (λ cs. Some cs) (filter_same _ _ bs (λ b k. ap not (one_test b (subst (λ m. In b (list_of (λ (q : List N.Block). q) m)) (sym e) k))))

      pub removes_all : (count : ℕ) × RemovesUnreached f region g count
      removes_all = (
        count_by (λ b. says (gone_so (a_block b))) (blocks_of f region),
        record {
          is_gone = λ x. says (gone_so x);
          decides = λ x. (holds (gone_so x), says_true (gone_so x));
          ops = λ o. by_test (an_op o) (g.ops o) (f.ops o) (s.ops_gone o) (s.ops_left o);
          blocks = λ c. by_test (a_block c) (g.blocks c) (f.blocks c) (s.blocks_gone c) (λ n. s.blocks_left c (λ t. n (goes (a_block c) t)));
          regions = λ r. by_test (a_region r) (g.regions r) _ (s.regions_gone r) (λ n. s.regions_left r (λ t. n (goes (a_region r) t)) ∙ same_lists r (λ t. n (goes (a_region r) t)));
          counted = refl;
        },
      )

  removed_so : (g : Forest N W) → RemovesSome f region g → Removed g
  removed_so g none_removed = nothing_yet
  removed_so g (uses_dropped {g = e} b more un drops) = uses_go e (removed_so e more) g b un drops
  removed_so g (block_erased {g = e} b more un removes) = block_goes e (removed_so e more) g b un removes

  pub steps_remove_unreached : (g : Forest N W) → RemovesSome f region g → ((b : N.Block) → In b (blocks_of g region) → IsUnreached f region b → ⊥) → (count : ℕ) × RemovesUnreached f region g count
  steps_remove_unreached g some none = removes_all g (removed_so g some) none
