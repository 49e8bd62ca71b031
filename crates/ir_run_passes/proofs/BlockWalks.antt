-- The walk from a place of a block to its end or to its front.
use mathlib.Core.Path.{◌≡◌, refl, sym, ap, ◌∙◌, subst}
use Rattle.std.proofs.Common.{suc, ◌≤◌, ◌<◌, ◌⊎◌, inl, inr, Bool, true, false, Option, Some, None, IsSome, arith}
use Rattle.std.specs.Option.{option_map}
use Rattle.std.specs.Prelude.{IfSome}
use Rattle.ir_model.specs.declared.ids.ArenaIndex.{ArenaIndex}
use Rattle.ir_model.specs.ContextIds.{context_ids}
use Rattle.ir_model.specs.Forest.{Dialect, Behaviour, Forest}
use Rattle.ir_model.specs.Nesting.{In, Nested, ops_of}
use Rattle.ir_model.specs.Parent.{first_of, last_of}
use Rattle.ir_model.specs.SweepLaws.{NoneIsClosed}
use Rattle.ir_run_passes.specs.Going.{CanGo, NoneGoesUpTo, rank, way_of}
use Rattle.ir_run_passes.proofs.Ranks.{first_listed, last_listed, rank_first, rank_last, tell, way_first, way_one}

module _ {W : Dialect} (B : Behaviour W) (f : Forest context_ids W) (b : ArenaIndex) where
  -- the walk is as far as the start or farther, and none that it passed can go
  pub record Walking (to_end : Bool) (start now : Option ArenaIndex) : Type 0 where
    pub within : rank to_end now (ops_of f b) ≤ rank to_end start (ops_of f b)
    pub none : (o : ArenaIndex) → In o (ops_of f b) → way_of to_end o (ops_of f b) ≤ rank to_end start (ops_of f b) → rank to_end now (ops_of f b) < way_of to_end o (ops_of f b) → CanGo B f o → ⊥

  module _ (to_end : Bool) (start : Option ArenaIndex) where
    pub walk_starts : Walking to_end start start
    walk_starts = record { within = omega arith; none = λ o h most more can. absurd (omega (arith, most, more)) }

    -- where the way ends all were passed
    pub walk_ends : Walking to_end start None → NoneGoesUpTo B f to_end b (rank to_end start (ops_of f b))
    walk_ends w o h most can = w.none o h most (let p = way_first to_end o (ops_of f b) h in omega (arith, p)) can

    pub walk_goes_on : (p : ArenaIndex) (now : Option ArenaIndex) → In p (ops_of f b) → (CanGo B f p → ⊥) → suc (rank to_end now (ops_of f b)) ≡ way_of to_end p (ops_of f b) → Walking to_end start (Some p) → Walking to_end start now
    walk_goes_on p now h not e w = record {
      within = let le = w.within in omega (arith, e, le);
      none = λ o k most more can. by o k most more can (tell (way_of to_end o (ops_of f b)) (way_of to_end p (ops_of f b)));
    }
      where
        by : (o : ArenaIndex) → In o (ops_of f b) → way_of to_end o (ops_of f b) ≤ rank to_end start (ops_of f b) → rank to_end now (ops_of f b) < way_of to_end o (ops_of f b) → CanGo B f o
            → (way_of to_end o (ops_of f b) ≡ way_of to_end p (ops_of f b)) ⊎ ((way_of to_end o (ops_of f b) < way_of to_end p (ops_of f b)) ⊎ (way_of to_end p (ops_of f b) < way_of to_end o (ops_of f b))) → ⊥
        by o k most more can (inl same) = not (subst (CanGo B f) (way_one to_end o p (ops_of f b) k h same) can)
        by o k most more can (inr (inl lt)) = absurd (omega (arith, e, lt, more))
        by o k most more can (inr (inr gt)) = w.none o k most gt can

  -- the answer of a call for the first or the last of the block: it stands in the list, and none from it on is none of the block
  module _ (n : Nested f) {P : Type 0} (index : P → ArenaIndex) (m : Option P) where
    listed : (t : Option ArenaIndex) → option_map index m ≡ t → ((o : ArenaIndex) → t ≡ Some o → In o (ops_of f b)) → IfSome m (λ x. In (index x) (ops_of f b))
    listed t e all = by m refl
      where
        by : (k : Option P) → m ≡ k → IfSome k (λ x. In (index x) (ops_of f b))
        by None s = tt
        by (Some x) s = all (index x) (sym e ∙ ap (option_map index) s)

    pub head_listed : option_map index m ≡ first_of (ops_of f b) → IfSome m (λ x. In (index x) (ops_of f b))
    head_listed e = listed (first_of (ops_of f b)) e (first_listed f b n)

    pub tail_listed : option_map index m ≡ last_of (ops_of f b) → IfSome m (λ x. In (index x) (ops_of f b))
    tail_listed e = listed (last_of (ops_of f b)) e (last_listed f b n)

    closed_from : (to_end : Bool) (t : Option ArenaIndex) → option_map index m ≡ t → ((o : ArenaIndex) → In o (ops_of f b) → way_of to_end o (ops_of f b) ≤ rank to_end t (ops_of f b))
        → NoneGoesUpTo B f to_end b (rank to_end (option_map index m) (ops_of f b)) → NoneIsClosed B f b
    closed_from to_end t e all none o h is_pure closed =
        none o h (subst (λ k. way_of to_end o (ops_of f b) ≤ rank to_end k (ops_of f b)) (sym e) (all o h)) (record { is_pure = is_pure; closed = closed })

    pub none_from_head : option_map index m ≡ first_of (ops_of f b) → NoneGoesUpTo B f true b (rank true (option_map index m) (ops_of f b)) → NoneIsClosed B f b
    none_from_head e = closed_from true (first_of (ops_of f b)) e (rank_first f b n)

    pub none_from_tail : option_map index m ≡ last_of (ops_of f b) → NoneGoesUpTo B f false b (rank false (option_map index m) (ops_of f b)) → NoneIsClosed B f b
    none_from_tail e = closed_from false (last_of (ops_of f b)) e (rank_last f b n)

-- what is made of a record is there where the record is
pub live_under : {R S : Type 0} (f : R → S) (m : Option R) → IsSome (option_map f m) → IsSome m
live_under f None h = h
live_under f (Some r) h = refl
