-- Blocks inside a root that are swept one after the other, until nothing more can go, are a sweep of the root.
use mathlib.Core.Path.{◌≡◌, refl, sym, ap, ◌∙◌, subst}
use Rattle.std.proofs.Common.{ℕ, ◌⊎◌, inl, inr, Bool, true, false, not, cond, ◌||◌, Option, Some, None, List, [], ◌∷◌, map, is_some, IsSome, length}
use Rattle.std.specs.Prelude.{IsTrue, ◌↔◌}
use Rattle.std.specs.List.{filter}
use Rattle.std.specs.Option.{option_map, option_map_or}
use Rattle.ir_model.specs.Ids.{Ids, Distinct}
use Rattle.ir_model.specs.Forest.{Dialect, Behaviour, Definer, of_op, of_block, Entity, an_op, a_block, a_region, Definition, OpRecord, BlockRecord, Forest, Named, a_value, the_block, definer_entity, owner}
use Rattle.ir_model.specs.Nesting.{In, itself, below, list_of, children, Inside, IsLive, IsLiveNamed, IsClosed, WellFormed, names_of, ops_of}
use Rattle.ir_model.specs.Changes.{on_ops, on_regions, but, Removes}
use Rattle.ir_model.specs.BlockGraph.{implements, pure_interface}
use Rattle.ir_model.specs.Dead.{Dead, dead, GoesWith, inside_it, inside_dead, Sweeps}
use Rattle.ir_model.proofs.Loops.{Lawful}
use Rattle.ir_model.proofs.Nests.{In-map, In-map_back, Absent-not_in, Within-fewer, Within-trans}
use Rattle.ir_model.proofs.Decided.{Decided, says, holds, says_true, instead, both, bit_so, some, in_list}
use Rattle.ir_model_passes.specs.SweepInside as all
use Rattle.ir_model_passes.specs.SweepInside.{DeadInside, GoesAlong, IsSweptInside, SweepsInside, SweptCount, ListedInside, ListsLive, NoneIsClosedInside, SweepsBlocks, none_swept, one_swept, ErasesSome, none_erased, one_erased}
use Rattle.ir_model_passes.proofs.Going.{filter_same, same_test, owner_inside, Taken, TakesOut, Out, op_case, block_case, region_case, child_left, child_still, fewer, inside_still, names_still, names_were, formed}
use Rattle.ir_model_passes.proofs.SweptInside.{block_takes}
use Rattle.ir_model_passes.proofs.Climb.{inside_so}

-- ## Tests

pub both_kept : {A : Type 0} (p q : A → Bool) (xs : List A) → filter (λ x. not (q x)) (filter (λ x. not (p x)) xs) ≡ filter (λ x. not (p x || q x)) xs
both_kept p q [] = refl
both_kept {A = A} p q (x ∷ xs) = by (p x) (both_kept p q xs)
  where
    two : (b : Bool) (ys zs : List A) → ys ≡ zs → cond (not b) (x ∷ ys) ys ≡ cond (not b) (x ∷ zs) zs
    two b ys zs e = ap (λ (ws : List A). cond (not b) (x ∷ ws) ws) e

    by : (a : Bool) → filter (λ y. not (q y)) (filter (λ y. not (p y)) xs) ≡ filter (λ y. not (p y || q y)) xs
        → filter (λ y. not (q y)) (cond (not a) (x ∷ filter (λ y. not (p y)) xs) (filter (λ y. not (p y)) xs)) ≡ cond (not (a || q x)) (x ∷ filter (λ y. not (p y || q y)) xs) (filter (λ y. not (p y || q y)) xs)
    by true more = more
    by false more = two (q x) _ _ more

all_kept : {A : Type 0} (xs : List A) → filter (λ x. true) xs ≡ xs
all_kept [] = refl
all_kept (x ∷ xs) = ap (λ ys. x ∷ ys) (all_kept xs)

pub or_left : (s t : Bool) → s ≡ true → (s || t) ≡ true
or_left s t e = ap (λ v. v || t) e

pub or_right : (s t : Bool) → t ≡ true → (s || t) ≡ true
or_right true t e = refl
or_right false t e = e

pub one_or_other : (s t : Bool) → (s || t) ≡ true → (s ≡ true) ⊎ (t ≡ true)
one_or_other true t e = inl refl
one_or_other false t e = inr e

-- ## Some dead operations are gone

module _ {N : Ids} {W : Dialect} (L : Lawful N) (B : Behaviour W) (root : Entity N) (f : Forest N W) (keys : ℕ) (w : WellFormed f keys) (live : List (Entity N)) (lists : ListsLive f live) where
  abbrev Gone : (N.Op → Bool) → N.Op → Type 0
  Gone gone o = IsTrue (gone o)

  pub record Partly (g : Forest N W) : Type 0 where
    pub gone : N.Op → Bool
    pub are_dead : (o : N.Op) → IsTrue (gone o) → DeadInside B f root o
    pub takes : TakesOut f (Gone gone) g
    pub left_formed : WellFormed g keys

  untouched : Partly f
  untouched = record {
    gone = λ o. false;
    are_dead = λ o e. absurd cc;
    takes = record {
      is_gone = λ o. false;
      dead_gone = λ o e. e;
      gone_taken = λ o e. absurd cc;
      ops_gone = λ o t. (let k : false ≡ true = t.1 in absurd cc);
      ops_left = λ o out. refl;
      blocks_gone = λ c t. (let k : false ≡ true = t.1 in absurd cc);
      blocks_left = λ c out. whole (f.blocks c);
      regions_gone = λ r t. (let k : false ≡ true = t.1 in absurd cc);
      regions_left = λ r out. refl;
    };
    left_formed = w;
  }
    where
      whole : (m : Option (BlockRecord N W)) → m ≡ option_map (on_ops (filter (λ o. true))) m
      whole None = refl
      whole (Some r) = ap (λ os. Some (record r { ops = os })) (sym (all_kept r.ops))

  dead_live : (o : N.Op) → DeadInside B f root o → IsLive f (an_op o)
  dead_live o (all.dead here is_pure goes) = by (f.ops o) is_pure
    where
      by : (m : Option (OpRecord N W)) → option_map_or (λ (q : OpRecord N W). B.op_impls q.kind pure_interface) m false ≡ true → IsSome m
      by None e = absurd (let k : false ≡ true = e in cc)
      by (Some r) e = refl

  module _ (gone : N.Op → Bool) (are_dead : (o : N.Op) → IsTrue (gone o) → DeadInside B f root o) where
    -- whether it is one of those that are gone, or inside one
    pub taken_so : (x : Entity N) → Decided (Taken f (Gone gone) x)
    taken_so x = instead
        (λ p. from p.0 p.2)
        (λ t. (an_op t.0, lists (an_op t.0) (dead_live t.0 (are_dead t.0 t.1)), (t.0, refl, t.1, t.2)))
        (some (λ e. (o : N.Op) × (e ≡ an_op o) × IsTrue (gone o) × Inside f e x) one_so live)
      where
        from : (e : Entity N) → ((o : N.Op) × (e ≡ an_op o) × IsTrue (gone o) × Inside f e x) → Taken f (Gone gone) x
        from e t = (t.0, t.2, subst (λ z. Inside f z x) t.1 t.3)

        one_so : (e : Entity N) → Decided ((o : N.Op) × (e ≡ an_op o) × IsTrue (gone o) × Inside f e x)
        one_so (an_op o) = instead
            (λ h. (o, refl, h.0, h.1))
            (λ t. (let same : o ≡ t.0 = (let k = t.1 in cc) in (subst (λ z. IsTrue (gone z)) (sym same) t.2, t.3)))
            (both (bit_so (gone o)) (inside_so L f w.nested live lists (an_op o) x))
        one_so (a_block c) = inr (λ t. (let k = t.1 in absurd cc))
        one_so (a_region r) = inr (λ t. (let k = t.1 in absurd cc))

  module _ (g : Forest N W) (s : Partly g) where
    abbrev G : N.Op → Type 0
    G = Gone s.gone

    so : (x : Entity N) → Decided (Taken f G x)
    so = taken_so s.gone s.are_dead

    taken_gone : (x : Entity N) → Taken f G x → IsLive g x → ⊥
    taken_gone (an_op o) t h = let k : false ≡ true = sym (ap is_some (s.takes.ops_gone o t)) ∙ h in absurd cc
    taken_gone (a_block c) t h = let k : false ≡ true = sym (ap is_some (s.takes.blocks_gone c t)) ∙ h in absurd cc
    taken_gone (a_region r) t h = let k : false ≡ true = sym (ap is_some (s.takes.regions_gone r t)) ∙ h in absurd cc

    owner_live : (d : Named N) → IsLiveNamed g d → IsLive g (owner N d)
    owner_live (the_block c) h = h
    owner_live (a_value v) h = by v.definer h
      where
        numbers_in : {R : Type 0} (of : R → List (Definition N W)) (m : Option R) → In v.number (map (λ (x : Definition N W). x.number) (list_of of m)) → IsSome m
        numbers_in of None k = elim k [ ]
        numbers_in of (Some r) k = refl

        by : (d : Definer N) → IsLiveNamed g (a_value (record { definer = d; number = v.number })) → IsLive g (definer_entity N d)
        by (of_op o) k = numbers_in (λ (r : OpRecord N W). r.results) (g.ops o) k
        by (of_block c) k = numbers_in (λ (r : BlockRecord N W). r.arguments) (g.blocks c) k

    -- what is named by what is left is left
    owner_out : (user : N.Op) (d : Named N) → In d (names_of g user) → Out f G g s.takes (owner N d)
    owner_out user d h t = taken_gone (owner N d) t (owner_live d (s.left_formed.named user d h))

    back : (e x : Entity N) → Inside g e x → Inside f e x
    back = Within-fewer (children f) (children g) (fewer f G g s.takes)

    listed_back : (o : N.Op) → ListedInside g root o → ListedInside f root o
    listed_back o (c, inside, here) =
        let left = child_left f G g s.takes (an_op o) (a_block c) (In-map an_op o (ops_of g c) here) in
        let at = In-map_back an_op (an_op o) (ops_of f c) left.1 in
        let one : o ≡ at.0 = cc in
        (c, back root (a_block c) inside, subst (λ p. In p (ops_of f c)) (sym one) at.1)

    pure_back : (o : N.Op) → IsTrue (implements B g pure_interface o) → IsTrue (implements B f pure_interface o)
    pure_back o is_pure = elim (op_case f G g s.takes o) [
      | inl none ↦ absurd (let k : false ≡ true = sym (ap (λ m. option_map_or (λ (q : OpRecord N W). B.op_impls q.kind pure_interface) m false) none) ∙ is_pure in cc)
      | inr kept ↦ subst (λ m. option_map_or (λ (q : OpRecord N W). B.op_impls q.kind pure_interface) m false ≡ true) kept.1 is_pure
    ]

    -- a user that is gone was inside a dead operation, and one that is left names what is left
    user_back : (o user : N.Op) (d : Named N) → In d (names_of f user) → Inside f (an_op o) (owner N d) → Decided (Taken f G (an_op user))
        → (In d (names_of g user) → Inside g (an_op o) (owner N d) → GoesAlong B f root o user) → GoesAlong B f root o user
    user_back o user d h i (inl t) more = all.inside_dead {p = t.0} (s.are_dead t.0 t.1) t.2
    user_back o user d h i (inr out) more =
        let named = names_still f G g s.takes user d out h in
        more named (inside_still f G g s.takes (an_op o) (owner N d) i (owner_out user d named))

    -- what is dead now was dead at first
    mutual
      dead_back : (o : N.Op) → DeadInside B g root o → DeadInside B f root o
      dead_back o (all.dead here is_pure goes) = all.dead (listed_back o here) (pure_back o is_pure) (λ user d h i. user_back o user d h i (so (an_op user)) (λ named inside. along_back o user (goes user d named inside)))

      along_back : (o user : N.Op) → GoesAlong B g root o user → GoesAlong B f root o user
      along_back o user (all.inside_it v) = all.inside_it (back (an_op o) (an_op user) v)
      along_back o user (all.inside_dead {p = p} e v) = all.inside_dead {p = p} (dead_back p e) (back (an_op p) (an_op user) v)

    -- ## More go

    module _ (E : N.Op → Type 0) (h : Forest N W) (t : TakesOut g E h) (are : (o : N.Op) → E o → DeadInside B g root o)
        (tests : (o : N.Op) → IsTrue (t.is_gone o) → E o)
        (users : (p user : N.Op) (d : Named N) → E p → In d (names_of g user) → Inside g (an_op p) (owner N d) → Taken g E (an_op user)) where
      abbrev now : N.Op → Bool
      now o = s.gone o || t.is_gone o

      now_dead : (o : N.Op) → IsTrue (now o) → DeadInside B f root o
      now_dead o e = elim (one_or_other (s.gone o) (t.is_gone o) e) [
        | inl k ↦ s.are_dead o k
        | inr k ↦ dead_back o (are o (tests o k))
      ]

      earlier : (x : Entity N) → Taken f G x → Taken f (Gone now) x
      earlier x k = (k.0, or_left (s.gone k.0) (t.is_gone k.0) k.1, k.2)

      later : (x : Entity N) → Taken g E x → Taken f (Gone now) x
      later x k = (k.0, or_right (s.gone k.0) (t.is_gone k.0) (t.dead_gone k.0 k.1), back (an_op k.0) x k.2)

      -- what is taken now was taken earlier, or is taken by what went later
      either_way : (x : Entity N) → Taken f (Gone now) x → Taken f G x ⊎ Taken g E x
      either_way x k = elim (so x) [
        | inl here ↦ inl here
        | inr out ↦ elim (one_or_other (s.gone k.0) (t.is_gone k.0) k.1) [
          | inl e ↦ inl (k.0, e, k.2)
          | inr e ↦ inr (k.0, tests k.0 e, inside_still f G g s.takes (an_op k.0) x k.2 out)
        ]
      ]

      stays_gone : {A : Type 0} {P : Type 0} (now_there was : Option A) (drops : Option A → Option A) → drops None ≡ None → (now_there ≡ None) ⊎ (P × (now_there ≡ drops was)) → was ≡ None → now_there ≡ None
      stays_gone now_there was drops none (inl e) k = e
      stays_gone now_there was drops none (inr e) k = e.1 ∙ ap drops k ∙ none

      lists_both : (m : Option (BlockRecord N W)) → option_map (on_ops (filter (λ o. not (t.is_gone o)))) (option_map (on_ops (filter (λ o. not (s.takes.is_gone o)))) m) ≡ option_map (on_ops (filter (λ o. not (s.takes.is_gone o || t.is_gone o)))) m
      lists_both None = refl
      lists_both (Some r) = ap (λ os. Some (record r { ops = os })) (both_kept s.takes.is_gone t.is_gone r.ops)

      both_take : TakesOut f (Gone now) h
      both_take = record {
        is_gone = λ o. s.takes.is_gone o || t.is_gone o;
        dead_gone = λ o e. elim (one_or_other (s.gone o) (t.is_gone o) e) [
          | inl k ↦ or_left (s.takes.is_gone o) (t.is_gone o) (s.takes.dead_gone o k)
          | inr k ↦ or_right (s.takes.is_gone o) (t.is_gone o) k
        ];
        gone_taken = λ o e. elim (one_or_other (s.takes.is_gone o) (t.is_gone o) e) [
          | inl k ↦ earlier (an_op o) (s.takes.gone_taken o k)
          | inr k ↦ later (an_op o) (t.gone_taken o k)
        ];
        ops_gone = λ o k. elim (either_way (an_op o) k) [
          | inl e ↦ stays_gone (h.ops o) (g.ops o) (λ m. m) refl (op_case g E h t o) (s.takes.ops_gone o e)
          | inr e ↦ t.ops_gone o e
        ];
        ops_left = λ o out. t.ops_left o (λ k. out (later (an_op o) k)) ∙ s.takes.ops_left o (λ k. out (earlier (an_op o) k));
        blocks_gone = λ c k. elim (either_way (a_block c) k) [
          | inl e ↦ stays_gone (h.blocks c) (g.blocks c) (option_map (on_ops (filter (λ o. not (t.is_gone o))))) refl (block_case g E h t c) (s.takes.blocks_gone c e)
          | inr e ↦ t.blocks_gone c e
        ];
        blocks_left = λ c out. t.blocks_left c (λ k. out (later (a_block c) k)) ∙ ap (option_map (on_ops (filter (λ o. not (t.is_gone o))))) (s.takes.blocks_left c (λ k. out (earlier (a_block c) k))) ∙ lists_both (f.blocks c);
        regions_gone = λ r k. elim (either_way (a_region r) k) [
          | inl e ↦ stays_gone (h.regions r) (g.regions r) (λ m. m) refl (region_case g E h t r) (s.takes.regions_gone r e)
          | inr e ↦ t.regions_gone r e
        ];
        regions_left = λ r out. t.regions_left r (λ k. out (later (a_region r) k)) ∙ s.takes.regions_left r (λ k. out (earlier (a_region r) k));
      }

      pub more_gone : Partly h
      more_gone = record {
        gone = now;
        are_dead = now_dead;
        takes = both_take;
        left_formed = formed g E h t keys s.left_formed users;
      }

    -- ## None is left

    module _ (none : NoneIsClosedInside B root g) where
      -- what is listed inside the root and is not taken is still listed there
      listed_still : (o : N.Op) → ListedInside f root o → Out f G g s.takes (an_op o) → ListedInside g root o
      listed_still o (c, inside, here) out =
          let child : In {A = Entity N} (an_op o) (map an_op (ops_of f c)) = In-map {B = Entity N} an_op o (ops_of f c) here in
          let around : Out f G g s.takes (a_block c) = λ k. out (k.0, k.1, below child k.2) in
          let still = child_still f G g s.takes (an_op o) (a_block c) around out child in
          let at = In-map_back an_op (an_op o) (ops_of g c) still in
          let one : o ≡ at.0 = cc in
          (c, inside_still f G g s.takes root (a_block c) inside around, subst (λ p. In p (ops_of g c)) (sym one) at.1)

      pure_still : (o : N.Op) → IsTrue (implements B f pure_interface o) → Out f G g s.takes (an_op o) → IsTrue (implements B g pure_interface o)
      pure_still o is_pure out = subst (λ m. option_map_or (λ (q : OpRecord N W). B.op_impls q.kind pure_interface) m false ≡ true) (sym (s.takes.ops_left o out)) is_pure

      -- an operation whose users are inside it or taken is taken
      one_gone : (o : N.Op) → ListedInside f root o → IsTrue (implements B f pure_interface o)
          → ((user : N.Op) (d : Named N) → In d (names_of f user) → Inside f (an_op o) (owner N d) → Inside f (an_op o) (an_op user) ⊎ Taken f G (an_op user)) → Taken f G (an_op o)
      one_gone o here is_pure goes = by (so (an_op o))
        where
          closed : Out f G g s.takes (an_op o) → IsClosed g (an_op o)
          closed out user d named i =
              let was = names_were f G g s.takes user d named in
              elim (goes user d was.1 (back (an_op o) (owner N d) i)) [
                | inl v ↦ inside_still f G g s.takes (an_op o) (an_op user) v was.0
                | inr t ↦ absurd (was.0 t)
              ]

          by : Decided (Taken f G (an_op o)) → Taken f G (an_op o)
          by (inl t) = t
          by (inr out) = absurd (none o (listed_still o here out) (pure_still o is_pure out) (closed out))

      -- what is inside what is taken is taken
      deeper : (p : N.Op) (x : Entity N) → Inside f (an_op p) x → Taken f G (an_op p) → Taken f G x
      deeper p x v t = (t.0, t.1, Within-trans (children f) (children f) (an_op t.0) (an_op p) x t.2 v)

      mutual
        all_gone : (o : N.Op) → DeadInside B f root o → Taken f G (an_op o)
        all_gone o (all.dead here is_pure goes) = one_gone o here is_pure (λ user d h i. in_or_gone o user (goes user d h i))

        in_or_gone : (o user : N.Op) → GoesAlong B f root o user → Inside f (an_op o) (an_op user) ⊎ Taken f G (an_op user)
        in_or_gone o user (all.inside_it v) = inl v
        in_or_gone o user (all.inside_dead {p = p} d v) = inr (deeper p (an_op user) v (all_gone p d))

      -- what is swept is taken, and what is taken is swept
      swept_taken : (x : Entity N) → IsSweptInside B f root x → Taken f G x
      swept_taken x k = deeper k.0 x k.2 (all_gone k.0 k.1)

      taken_swept : (x : Entity N) → Taken f G x → IsSweptInside B f root x
      taken_swept x t = (t.0, s.are_dead t.0 t.1, t.2)

      abbrev swept_so : (x : Entity N) → Decided (IsSweptInside B f root x)
      swept_so x = instead (taken_swept x) (swept_taken x) (so x)

      by_test : {A : Type 0} (x : Entity N) (now left : Option A) → (Taken f G x → now ≡ None) → (Out f G g s.takes x → now ≡ left) → now ≡ cond (says (swept_so x)) None left
      by_test x now left gone out = by (swept_so x)
        where
          by : (d : Decided (IsSweptInside B f root x)) → now ≡ cond (says d) None left
          by (inl k) = gone (swept_taken x k)
          by (inr n) = out (λ t. n (taken_swept x t))

      -- a list that stays is without what is swept
      same_lists : (c : N.Block) → Out f G g s.takes (a_block c) → option_map (on_ops (filter (λ o. not (s.takes.is_gone o)))) (f.blocks c) ≡ option_map (on_ops (filter (λ o. not (says (swept_so (an_op o)))))) (f.blocks c)
      same_lists c out = by (f.blocks c) refl
        where
          gone_told : (o : N.Op) → In o (ops_of f c) → Taken f G (an_op o) → s.takes.is_gone o ≡ true
          gone_told o here t =
              elim (owner_inside f G g s.takes w.nested (an_op o) (a_block c) (an_op t.0) (In-map {B = Entity N} an_op o (ops_of f c) here) t.2) [
                | inl e ↦ (let one : o ≡ t.0 = cc in s.takes.dead_gone o (subst (λ z. IsTrue (s.gone z)) (sym one) t.1))
                | inr v ↦ absurd (out (t.0, t.1, v))
              ]

          one_test : (o : N.Op) → In o (ops_of f c) → s.takes.is_gone o ≡ says (swept_so (an_op o))
          one_test o here = same_test (s.takes.is_gone o) (says (swept_so (an_op o)))
              (λ e. says_true (swept_so (an_op o)) (taken_swept (an_op o) (s.takes.gone_taken o e)))
              (λ e. gone_told o here (swept_taken (an_op o) (holds (swept_so (an_op o)) e)))

          by : (m : Option (BlockRecord N W)) → f.blocks c ≡ m → option_map (on_ops (filter (λ o. not (s.takes.is_gone o)))) m ≡ option_map (on_ops (filter (λ o. not (says (swept_so (an_op o)))))) m
          by None e = refl
          by (Some r) e = ap (λ os. Some (record r { ops = os })) (filter_same _ _ r.ops (λ o h. ap not (one_test o (subst (λ m. In o (list_of (λ (q : BlockRecord N W). q.ops) m)) (sym e) h))))

      -- the operations of the list that are swept, each once
      abbrev Listing : List (Entity N) → Type 0
      Listing xs = (gone : List N.Op) × Distinct gone × ((o : N.Op) → In o gone ↔ (In {A = Entity N} (an_op o) xs × IsSweptInside B f root (an_op o)))

      counts : (xs : List (Entity N)) → Listing xs
      counts [] = ([], tt, λ o. (λ k. elim k [ ], λ k. k.0))
      counts (a_block c ∷ xs) = (let more = counts xs in (
        more.0,
        more.1,
        λ o. (
          λ k. (let m = (more.2 o).0 k in (inr m.0, m.1)),
          λ k. (more.2 o).1 (elim k.0 [ inl e ↦ (let z : an_op o ≡ a_block c = e in absurd cc) | inr m ↦ m ], k.1),
        ),
      ))
      counts (a_region r ∷ xs) = (let more = counts xs in (
        more.0,
        more.1,
        λ o. (
          λ k. (let m = (more.2 o).0 k in (inr m.0, m.1)),
          λ k. (more.2 o).1 (elim k.0 [ inl e ↦ (let z : an_op o ≡ a_region r = e in absurd cc) | inr m ↦ m ], k.1),
        ),
      ))
      counts (an_op p ∷ xs) = by (counts xs) (swept_so (an_op p)) (in_list N.same_op L.ops p (counts xs).0)
        where
          op_is : (o : N.Op) → ◌≡◌ {A = Entity N} (an_op o) (an_op p) → o ≡ p
          op_is o e = cc

          by : (more : Listing xs) → Decided (IsSweptInside B f root (an_op p)) → Decided (In p more.0) → Listing (an_op p ∷ xs)
          by more (inr stays) d = (
            more.0,
            more.1,
            λ o. (
              λ k. (let m = (more.2 o).0 k in (inr m.0, m.1)),
              λ k. (more.2 o).1 (elim k.0 [ inl e ↦ absurd (stays (subst (λ z. IsSweptInside B f root z) e k.1)) | inr m ↦ m ], k.1),
            ),
          )
          by more (inl goes) (inl here) = (
            more.0,
            more.1,
            λ o. (
              λ k. (let m = (more.2 o).0 k in (inr m.0, m.1)),
              λ k. elim k.0 [ inl e ↦ subst (λ z. In z more.0) (sym (op_is o e)) here | inr m ↦ (more.2 o).1 (m, k.1) ],
            ),
          )
          by more (inl goes) (inr new) = (
            p ∷ more.0,
            (Absent-not_in p more.0 new, more.1),
            λ o. (
              λ k. elim k [ inl e ↦ (inl (ap an_op e), subst (λ z. IsSweptInside B f root (an_op z)) (sym e) goes) | inr m ↦ (let q = (more.2 o).0 m in (inr q.0, q.1)) ],
              λ k. elim k.0 [ inl e ↦ inl (op_is o e) | inr m ↦ inr ((more.2 o).1 (m, k.1)) ],
            ),
          )

      swept_live : (o : N.Op) → IsSweptInside B f root (an_op o) → IsLive f (an_op o)
      swept_live o (p, d, itself) = dead_live o d
      swept_live o (p, d, below {c = c} h v) = w.nested.live (an_op o) c h

      counted : (n : ℕ) × SweptCount B f root n
      counted = let c = counts live in (length c.0, (c.0, c.1, λ o. (λ k. ((c.2 o).0 k).1, λ k. (c.2 o).1 (lists (an_op o) (swept_live o k), k)), refl))

      pub sweeps_all : (n : ℕ) × SweepsInside B f root g n
      sweeps_all = (
        counted.0,
        record {
          is_swept = λ x. says (swept_so x);
          decides = λ x. (holds (swept_so x), says_true (swept_so x));
          ops = λ o. by_test (an_op o) (g.ops o) (f.ops o) (s.takes.ops_gone o) (s.takes.ops_left o);
          blocks = λ c. by_test (a_block c) (g.blocks c) _ (s.takes.blocks_gone c) (λ out. s.takes.blocks_left c out ∙ same_lists c out);
          regions = λ r. by_test (a_region r) (g.regions r) (f.regions r) (s.takes.regions_gone r) (s.takes.regions_left r);
          counted = counted.1;
        },
      )

-- ## Sweeps of blocks, one after the other

pub block_formed : {N : Ids} {W : Dialect} (B : Behaviour W) (f : Forest N W) (keys : ℕ) → WellFormed f keys → (b : N.Block) (g : Forest N W) (count : ℕ) → Sweeps B f b g count → WellFormed g keys
block_formed B f keys w b g count s = formed f (Dead B f b) g (block_takes B f b g count s) keys w users
  where
    users : (p user : _) (d : Named _) → Dead B f b p → In d (names_of f user) → Inside f (an_op p) (owner _ d) → Taken f (Dead B f b) (an_op user)
    users p user d (dead here is_pure goes) h i = elim (goes user d h i) [
      | inside_it v ↦ (p, dead here is_pure goes, v)
      | inside_dead {p = q} e v ↦ (q, e, v)
    ]

module _ {N : Ids} {W : Dialect} (L : Lawful N) (B : Behaviour W) (root : Entity N) (f : Forest N W) (keys : ℕ) (w : WellFormed f keys) (live : List (Entity N)) (lists : ListsLive f live) where
  module _ (g : Forest N W) (c : N.Block) (inside : Inside g root (a_block c)) where
    mutual
      block_dead : (o : N.Op) → Dead B g c o → DeadInside B g root o
      block_dead o (dead here is_pure goes) = all.dead (c, inside, here) is_pure (λ user d h i. block_along o user (goes user d h i))

      block_along : (o user : N.Op) → GoesWith B g c o user → GoesAlong B g root o user
      block_along o user (inside_it v) = all.inside_it v
      block_along o user (inside_dead {p = p} d v) = all.inside_dead {p = p} (block_dead p d) v

    block_users : (p user : N.Op) (d : Named N) → Dead B g c p → In d (names_of g user) → Inside g (an_op p) (owner N d) → Taken g (Dead B g c) (an_op user)
    block_users p user d (dead here is_pure goes) h i = elim (goes user d h i) [
      | inside_it v ↦ (p, dead here is_pure goes, v)
      | inside_dead {p = q} e v ↦ (q, e, v)
    ]

  partly : (g : Forest N W) → SweepsBlocks B root f g → Partly L B root f keys w live lists g
  partly g none_swept = untouched L B root f keys w live lists
  partly g (one_swept {g = e} {count = count} c more inside s) =
      more_gone L B root f keys w live lists e (partly e more) (Dead B e c) g (block_takes B e c g count s) (block_dead e c inside) (λ o k. (s.decides o).0 k) (block_users e c inside)

  pub blocks_swept : (g : Forest N W) → SweepsBlocks B root f g → NoneIsClosedInside B root g → (n : ℕ) × SweepsInside B f root g n
  blocks_swept g s none = sweeps_all L B root f keys w live lists g (partly g s) none

  -- ## Operations that go one after the other

  module _ (g h : Forest N W) (o : N.Op) (removes : Removes g (an_op o) h) where
    regions_whole : (m : Option (OpRecord N W)) → option_map (on_regions (but {N = N} (an_op o) a_region)) m ≡ m
    regions_whole None = refl
    regions_whole (Some r) = ap (λ rs. Some (record r { regions = rs })) (all_kept r.regions)

    blocks_whole : (m : Option (List N.Block)) → option_map (but {N = N} (an_op o) a_block) m ≡ m
    blocks_whole None = refl
    blocks_whole (Some r) = ap (λ bs. Some bs) (all_kept r)

    in_it : (x : Entity N) → Taken g (λ p. p ≡ o) x → Inside g (an_op o) x
    in_it x t = subst (λ p. Inside g (an_op p) x) t.1 t.2

    abbrev one_takes : TakesOut g (λ p. p ≡ o) h
    one_takes = record {
      is_gone = λ p. N.same_op p o;
      dead_gone = λ p e. (L.ops p o).1 e;
      gone_taken = λ p e. (p, (L.ops p o).0 e, itself);
      ops_gone = λ p t. removes.ops_inside p (in_it (an_op p) t);
      ops_left = λ p out. removes.ops_outside p (λ i. out (o, refl, i)) ∙ regions_whole (g.ops p);
      blocks_gone = λ c t. removes.blocks_inside c (in_it (a_block c) t);
      blocks_left = λ c out. removes.blocks_outside c (λ i. out (o, refl, i));
      regions_gone = λ r t. removes.regions_inside r (in_it (a_region r) t);
      regions_left = λ r out. removes.regions_outside r (λ i. out (o, refl, i)) ∙ blocks_whole (g.regions r);
    }

  partly_erased : (g : Forest N W) → ErasesSome B root f g → Partly L B root f keys w live lists g
  partly_erased g none_erased = untouched L B root f keys w live lists
  partly_erased g (one_erased {g = e} o more here is_pure closed removes) =
      more_gone L B root f keys w live lists e (partly_erased e more) (λ p. p ≡ o) g (one_takes e g o removes)
      (λ p same. subst (DeadInside B e root) (sym same) (all.dead here is_pure (λ user d h i. all.inside_it (closed user d h i))))
      (λ p same. (L.ops p o).0 same)
      (λ p user d same h i. (o, refl, closed user d h (subst (λ z. Inside e (an_op z) (owner N d)) same i)))

  pub erased_all : (g : Forest N W) → ErasesSome B root f g → NoneIsClosedInside B root g → (n : ℕ) × SweepsInside B f root g n
  erased_all g s none = sweeps_all L B root f keys w live lists g (partly_erased g s) none

  pub erased_formed : (g : Forest N W) → ErasesSome B root f g → WellFormed g keys
  erased_formed g s = (partly_erased g s).left_formed
