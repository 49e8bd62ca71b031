-- Sweeps and mergings are right, and so are right passes that follow each other.
use mathlib.Core.Path.{◌≡◌, refl, sym, ap, ◌∙◌, subst}
use Rattle.std.proofs.Common.{ℕ, inl, inr, true, false, Option, Some, None, is_some, IsSome}
use Rattle.std.specs.List.{filter, AllZip}
use Rattle.ir_model.specs.Ids.{Ids}
use Rattle.ir_model.specs.Forest.{Dialect, Behaviour, Entity, an_op, a_block, of_op, OpRecord, BlockRecord, Forest, Value, Operand}
use Rattle.ir_model.specs.Nesting.{In, list_of, children, WellFormed, ops_of, operands_of}
use Rattle.ir_model.specs.Dead.{Dead, Sweeps}
use Rattle.ir_model.proofs.Loops.{Lawful}
use Rattle.ir_model_passes.specs.Meaning.{SameAttributes, Interpretation, Respects, OnlyPureGo, KeepsMeaning}
use Rattle.ir_model_passes.specs.SweepInside.{DeadInside, SweepsInside}
use Rattle.ir_model_passes.specs.Merging.{StandsBefore, MergesSome, IsGivenBefore, MovesBack, OperandsMoveBack}
use Rattle.ir_model_passes.specs.RightPasses.{IsRight}
use Rattle.ir_model_passes.proofs.Preorder.{meaning_then, meaning_stays, only_pure_then, came_from, is_there}
use Rattle.ir_model.proofs.Nests.{In-map}
use Rattle.ir_model.proofs.Keeps.{Distinct-unmap}
use Rattle.ir_model_passes.specs.InOrder.{InOrder}
use Rattle.ir_model_passes.proofs.Merged.{before_in, of_op_one}
use Rattle.ir_model_passes.proofs.InOrder.{zip_back}
use Rattle.ir_model_passes.proofs.Going.{TakesOut, op_case}
use Rattle.ir_model_passes.proofs.SweptInside.{block_takes, all_takes, block_keeps_meaning, all_keeps_meaning, all_formed}
use Rattle.ir_model_passes.proofs.BlockSweeps.{block_formed}
use Rattle.ir_model_passes.proofs.Merges.{before_kept, before_then, given_then, all_zip_then, all_zip_same, some_formed, some_keep_meaning, some_move_back}

module _ {N : Ids} {W : Dialect} (B : Behaviour W) (f g : Forest N W) (s : OnlyPureGo B f g) where
  -- what stands before something in a list stood before it
  stood_before : (c : N.Block) (o p : N.Op) → StandsBefore o p (ops_of g c) → StandsBefore o p (ops_of f c)
  stood_before c o p h = by (g.blocks c) refl h
    where
      by : (m : Option (BlockRecord N W)) → g.blocks c ≡ m → StandsBefore o p (list_of (λ (r : BlockRecord N W). r.ops) m) → StandsBefore o p (ops_of f c)
      by None e k = absurd k
      by (Some r) e k =
          let was = s.blocks c r e in
          let kept : StandsBefore o p (filter (λ o. is_some (g.ops o)) was.0.ops) = subst (λ (q : BlockRecord N W). StandsBefore o p q.ops) was.2 k in
          subst (λ m. StandsBefore o p (list_of (λ (r : BlockRecord N W). r.ops) m)) (sym was.1) (before_kept (λ o. is_some (g.ops o)) o p was.0.ops kept)

  given_was : (v u : Value N) → IsGivenBefore g v u → IsGivenBefore f v u
  given_was v u (c, o, p, vo, up, h) = (c, o, p, vo, up, stood_before c o p h)

  module _ (keys : ℕ) (w : WellFormed f keys) (h : Forest N W) (t : OnlyPureGo B g h) where
    step : (x y z : Operand N) → MovesBack f g x y → MovesBack g h y z → MovesBack f h x z
    step x y z (inl e) (inl k) = inl (k ∙ e)
    step x y z (inl e) (inr k) = inr (
      (k.0.0, sym (ap (λ (p : Operand N). p.value.definer) e) ∙ k.0.1, k.0.2),
      subst (λ v. IsGivenBefore f z.value v) (ap (λ (p : Operand N). p.value) e) (given_was z.value y.value k.1),
      k.2 ∙ ap (λ (p : Operand N). p.use_number) e,
    )
    step x y z (inr k) (inl e) = inr (
      (k.0.0, k.0.1, came_from B g h t k.0.0 k.0.2),
      subst (λ v. IsGivenBefore f v x.value) (sym (ap (λ (p : Operand N). p.value) e)) k.1,
      ap (λ (p : Operand N). p.use_number) e ∙ k.2,
    )
    step x y z (inr k) (inr l) = inr (
      (k.0.0, k.0.1, came_from B g h t k.0.0 k.0.2),
      given_then f keys w z.value y.value x.value (given_was z.value y.value l.1) k.1,
      l.2 ∙ k.2,
    )

    pub back_then : OperandsMoveBack f g → OperandsMoveBack g h → OperandsMoveBack f h
    back_then a b o live =
        let at = is_there (h.ops o) live in
        all_zip_then (MovesBack f g) (MovesBack g h) (MovesBack f h) step (operands_of f o) (operands_of g o) (operands_of h o) (a o (ap is_some (t.ops o at.0 at.1).1)) (b o live)

module _ {N : Ids} {W : Dialect} (B : Behaviour W) {V : Type 0} (gives : Interpretation W V) (keys : ℕ) where
  meaning_of : (f g : Forest N W) → IsRight B gives keys f g → KeepsMeaning B gives f g
  meaning_of f g a = record { only_pure = a.only_pure; values = a.values }

  pub right_by : (f g : Forest N W) → WellFormed g keys → KeepsMeaning B gives f g → OperandsMoveBack f g → IsRight B gives keys f g
  right_by f g formed meaning back = record { formed = formed; only_pure = meaning.only_pure; values = meaning.values; moves_back = back }

  -- what changes nothing is right
  pub stays_right : (f : Forest N W) → WellFormed f keys → IsRight B gives keys f f
  stays_right f w = right_by f f w (meaning_stays B gives f w.nested) (λ o live. all_zip_same (MovesBack f f) (λ p. inl refl) (operands_of f o))

  pub right_then : (f g h : Forest N W) → WellFormed f keys → IsRight B gives keys f g → IsRight B gives keys g h → IsRight B gives keys f h
  right_then f g h w a b = record {
    formed = b.formed;
    only_pure = only_pure_then B f g a.only_pure h b.only_pure;
    values = (meaning_then B gives f g h (meaning_of f g a) (meaning_of g h b)).values;
    moves_back = back_then B f g a.only_pure keys w h b.only_pure a.moves_back b.moves_back;
  }

  module _ (f g : Forest N W) (w : WellFormed f keys) where
    -- where what stays is as it was, no operand moved
    pub none_moved : (D : N.Op → Type 0) → TakesOut f D g → OperandsMoveBack f g
    none_moved D s o live = elim (op_case f D g s o) [
      | inl gone ↦ absurd (let k : false ≡ true = sym (ap is_some gone) ∙ live in cc)
      | inr kept ↦ subst (λ m. AllZip (MovesBack f g) (operands_of f o) (list_of (λ (r : OpRecord N W). r.operands) m)) (sym kept.1) (all_zip_same (MovesBack f g) (λ p. inl refl) (operands_of f o))
    ]

    pub sweep_right : (b : N.Block) (count : ℕ) → Sweeps B f b g count → IsRight B gives keys f g
    sweep_right b count s = right_by f g (block_formed B f keys w b g count s) (block_keeps_meaning B f gives b g count w.nested s) (none_moved (Dead B f b) (block_takes B f b g count s))

    pub sweep_inside_right : (root : Entity N) (count : ℕ) → SweepsInside B f root g count → IsRight B gives keys f g
    sweep_inside_right root count s = right_by f g (all_formed B f root g count s keys w) (all_keeps_meaning B f root g count s gives w.nested) (none_moved (DeadInside B f root) (all_takes B f root g count s))

    pub merges_right : Lawful N → (same : SameAttributes W) → Respects W V same gives → (b : N.Block) (count : ℕ) → MergesSome B same b f g count → IsRight B gives keys f g
    merges_right L same respects b count s = right_by f g (some_formed L B same b keys f g count w s) (some_keep_meaning L B same b keys gives respects f g count w s) (some_move_back L B same b keys f g count w s)

-- ## Blocks in order

module _ {N : Ids} {W : Dialect} (B : Behaviour W) (f g : Forest N W) (keys : ℕ) (w : WellFormed f keys) (s : OnlyPureGo B f g) (back : OperandsMoveBack f g) (b : N.Block) where
  there_is : (k : Option (OpRecord N W)) (p : Operand N) → In p (list_of (λ (x : OpRecord N W). x.operands) k) → IsSome k
  there_is None p h = elim h [ ]
  there_is (Some r) p h = refl

  pub still_in_order : InOrder f b → InOrder g b
  still_in_order order user o p named given before = by_move at.2
    where
      stood : StandsBefore user o (ops_of f b)
      stood = stood_before B f g s b user o before

      at : (q : Operand N) × In q (operands_of f user) × MovesBack f g q p
      at = zip_back (MovesBack f g) (operands_of f user) (operands_of g user) (back user (there_is (g.ops user) p named)) p named

      by_move : MovesBack f g at.0 p → ⊥
      by_move (inl e) = order user o at.0 at.1 (ap (λ (z : Operand N). z.value.definer) (sym e) ∙ given) stood
      by_move (inr k) = by k.1.0 k.1.1 k.1.2 k.1.3 k.1.4 k.1.5
        where
          by : (c : N.Block) (x q : N.Op) → p.value.definer ≡ of_op x → at.0.value.definer ≡ of_op q → StandsBefore x q (ops_of f c) → ⊥
          by c x q px atq earlier =
              let one : x ≡ o = of_op_one (sym px ∙ given) in
              let o_there : In {A = Entity N} (an_op o) (children f (a_block b)) = In-map {B = Entity N} an_op o (ops_of f b) (before_in user o (ops_of f b) stood).1 in
              let o_here : In {A = Entity N} (an_op o) (children f (a_block c)) = In-map {B = Entity N} an_op o (ops_of f c) (subst (λ z. In z (ops_of f c)) one (before_in x q (ops_of f c) earlier).0) in
              let blocks : a_block c ≡ a_block b = w.nested.one_list (an_op o) (a_block c) (a_block b) o_here o_there in
              let same : c ≡ b = cc in
              let earlier_here : StandsBefore o q (ops_of f b) = subst (λ z. StandsBefore o q (ops_of f z)) same (subst (λ z. StandsBefore z q (ops_of f c)) one earlier) in
              order user q at.0 at.1 atq (before_then user o q (ops_of f b) (Distinct-unmap an_op (ops_of f b) (w.nested.once (a_block b))) stood earlier_here)
