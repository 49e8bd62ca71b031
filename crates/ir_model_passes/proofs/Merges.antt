-- What a merging of the alike operations of a block leaves.
use mathlib.Core.Path.{◌≡◌, refl, sym, ap, ◌∙◌, subst}
use Rattle.std.proofs.Common.{ℕ, ◌+◌, inl, inr, Bool, true, false, not, cond, Option, Some, None, List, [], ◌∷◌, is_some, length, arith}
use Rattle.std.specs.List.{filter, AllZip}
use Rattle.ir_model.specs.Ids.{Ids, Distinct}
use Rattle.ir_model.specs.Forest.{Dialect, Behaviour, Entity, an_op, a_block, of_op, OpRecord, Forest, Value, Operand}
use Rattle.ir_model.specs.Nesting.{In, WellFormed, children, ops_of, operands_of}
use Rattle.ir_model.proofs.Renaming.{Tells}
use Rattle.ir_model.proofs.Loops.{Lawful}
use Rattle.ir_model.proofs.Nests.{In-map, not_in-Absent}
use Rattle.ir_model.proofs.Keeps.{Distinct-unmap}
use Rattle.ir_model.proofs.Filters.{In-filter}
use Rattle.ir_model_passes.specs.Meaning.{SameAttributes, Interpretation, Respects, KeepsMeaning}
use Rattle.ir_model_passes.specs.Merging.{StandsBefore, MergesOne, MergesSome, none_merges, one_merges, IsGivenBefore, MovesBack, OperandsMoveBack}
use Rattle.ir_model_passes.proofs.Preorder.{meaning_then, meaning_stays, is_there}
use Rattle.ir_model_passes.proofs.Going.{none_is_not_some}
use Rattle.ir_model_passes.proofs.Merged.{before_in, one_keeps_meaning, one_formed, one_moves_back, list_left, op_was}

-- ## Places in lists

pub before_kept : {A : Type 0} (t : A → Bool) (x y : A) (xs : List A) → StandsBefore x y (filter t xs) → StandsBefore x y xs
before_kept t x y [] h = h
before_kept {A = A} t x y (z ∷ zs) h = by (t z) (before_kept t x y zs) h
  where
    by : (s : Bool) → (StandsBefore x y (filter t zs) → StandsBefore x y zs) → StandsBefore x y (cond s (z ∷ filter t zs) (filter t zs)) → StandsBefore x y (z ∷ zs)
    by true more (inl k) = inl (k.0, (In-filter t y zs k.1).0)
    by true more (inr k) = inr (more k)
    by false more k = inr (more k)

pub before_then : {A : Type 0} (x y z : A) (xs : List A) → Distinct xs → StandsBefore x y xs → StandsBefore y z xs → StandsBefore x z xs
before_then x y z [] d h k = h
before_then x y z (w ∷ ws) d (inl h) (inl k) = absurd (not_in-Absent w ws d.0 (subst (λ v. In v ws) k.0 h.1))
before_then x y z (w ∷ ws) d (inl h) (inr k) = inl (h.0, (before_in y z ws k).1)
before_then x y z (w ∷ ws) d (inr h) (inl k) = absurd (not_in-Absent w ws d.0 (subst (λ v. In v ws) k.0 (before_in x y ws h).1))
before_then x y z (w ∷ ws) d (inr h) (inr k) = inr (before_then x y z ws d.1 h k)

pub all_zip_then : {A : Type 0} (P Q R : A → A → Type 0) → ((x y z : A) → P x y → Q y z → R x z) → (xs ys zs : List A) → AllZip P xs ys → AllZip Q ys zs → AllZip R xs zs
all_zip_then P Q R step [] [] [] h k = tt
all_zip_then P Q R step [] [] (z ∷ zs) h k = k
all_zip_then P Q R step [] (y ∷ ys) zs h k = absurd h
all_zip_then P Q R step (x ∷ xs) [] zs h k = absurd h
all_zip_then P Q R step (x ∷ xs) (y ∷ ys) [] h k = k
all_zip_then P Q R step (x ∷ xs) (y ∷ ys) (z ∷ zs) h k = (step x y z h.0 k.0, all_zip_then P Q R step xs ys zs h.1 k.1)

pub all_zip_same : {A : Type 0} (P : A → A → Type 0) → ((x : A) → P x x) → (xs : List A) → AllZip P xs xs
all_zip_same P each [] = tt
all_zip_same P each (x ∷ xs) = (each x, all_zip_same P each xs)

-- ## All mergings

module _ {N : Ids} {W : Dialect} where
  -- what is given before something, and that before a third, is given before the third
  pub given_then : (f : Forest N W) (keys : ℕ) → WellFormed f keys → (v u t : Value N) → IsGivenBefore f v u → IsGivenBefore f u t → IsGivenBefore f v t
  given_then f keys w v u t (c, o, p, vo, up, h) (d, q, r, uq, tr, k) =
      let one : p ≡ q = (let e : of_op p ≡ of_op q = sym up ∙ uq in cc) in
      let p_in : In {A = Entity N} (an_op p) (children f (a_block c)) = In-map {B = Entity N} an_op p (ops_of f c) (before_in o p (ops_of f c) h).1 in
      let q_in : In {A = Entity N} (an_op p) (children f (a_block d)) = In-map {B = Entity N} an_op p (ops_of f d) (subst (λ x. In x (ops_of f d)) (sym one) (before_in q r (ops_of f d) k).0) in
      let blocks : a_block c ≡ a_block d = w.nested.one_list (an_op p) (a_block c) (a_block d) p_in q_in in
      let same : c ≡ d = cc in
      let k_there : StandsBefore p r (ops_of f c) = subst (λ x. StandsBefore p r (ops_of f x)) (sym same) (subst (λ x. StandsBefore x r (ops_of f d)) (sym one) k) in
      (c, o, r, vo, tr, before_then o p r (ops_of f c) (Distinct-unmap an_op (ops_of f c) (w.nested.once (a_block c))) h k_there)

module _ {N : Ids} {W : Dialect} (L : Lawful N) (B : Behaviour W) (same : SameAttributes W) (b : N.Block) (keys : ℕ) where
  pub some_formed : (f g : Forest N W) (n : ℕ) → WellFormed f keys → MergesSome B same b f g n → WellFormed g keys
  some_formed f g n w none_merges = w
  some_formed f g n w (one_merges {g = h} s m) = one_formed L B same h keys b g (some_formed f h _ w s) m

  pub some_keep_meaning : {V : Type 0} (gives : Interpretation W V) → Respects W V same gives → (f g : Forest N W) (n : ℕ) → WellFormed f keys → MergesSome B same b f g n → KeepsMeaning B gives f g
  some_keep_meaning gives respects f g n w none_merges = meaning_stays B gives f w.nested
  some_keep_meaning gives respects f g n w (one_merges {g = h} s m) =
      meaning_then B gives f h g (some_keep_meaning gives respects f h _ w s) (one_keeps_meaning L B same h keys b g (some_formed f h _ w s) m gives respects)

  -- what is gone stays away
  gone_still : (h g : Forest N W) → WellFormed h keys → MergesOne B same h b g → (o : N.Op) → h.ops o ≡ None → g.ops o ≡ None
  gone_still h g w m o e = by (g.ops o) refl
    where
      by : (k : Option (OpRecord N W)) → g.ops o ≡ k → g.ops o ≡ None
      by None s = s
      by (Some r) s = let was = op_was L B same h keys b g w m o r s in absurd (none_is_not_some was.0 (sym e ∙ was.1))

  some_lists : (f g : Forest N W) (n : ℕ) → WellFormed f keys → MergesSome B same b f g n → (c : N.Block) (x y : N.Op) → StandsBefore x y (ops_of g c) → StandsBefore x y (ops_of f c)
  some_lists f g n w none_merges c x y k = k
  some_lists f g n w (one_merges {g = h} s m) c x y k =
      some_lists f h _ w s c x y (before_kept (λ o. not (N.same_op o m.later)) x y (ops_of h c) (subst (StandsBefore x y) (list_left L B same h keys b g (some_formed f h _ w s) m c) k))

  pub some_move_back : (f g : Forest N W) (n : ℕ) → WellFormed f keys → MergesSome B same b f g n → OperandsMoveBack f g
  some_move_back f g n w none_merges o live = all_zip_same (MovesBack f f) (λ p. inl refl) (operands_of f o)
  some_move_back f g n w (one_merges {g = h} s m) o live =
      let formed = some_formed f h _ w s in
      let at = is_there (g.ops o) live in
      let was = op_was L B same h keys b g formed m o at.0 at.1 in
      all_zip_then (MovesBack f h) (MovesBack h g) (MovesBack f g) (step formed) (operands_of f o) (operands_of h o) (operands_of g o)
      (some_move_back f h _ w s o (ap is_some was.1)) (one_moves_back L B same h keys b g formed m o live)
    where
      earlier : (v u : Value N) → IsGivenBefore h v u → IsGivenBefore f v u
      earlier v u (c, p, q, vp, uq, k) = (c, p, q, vp, uq, some_lists f h _ w s c p q k)

      step : WellFormed h keys → (x y z : Operand N) → MovesBack f h x y → MovesBack h g y z → MovesBack f g x z
      step formed x y z (inl e) (inl k) = inl (k ∙ e)
      step formed x y z (inl e) (inr k) = inr (
        (k.0.0, sym (ap (λ (p : Operand N). p.value.definer) e) ∙ k.0.1, k.0.2),
        subst (λ v. IsGivenBefore f z.value v) (ap (λ (p : Operand N). p.value) e) (earlier z.value y.value k.1),
        k.2 ∙ ap (λ (p : Operand N). p.use_number) e,
      )
      step formed x y z (inr k) (inl e) = inr (
        (k.0.0, k.0.1, gone_still h g formed m k.0.0 k.0.2),
        subst (λ v. IsGivenBefore f v x.value) (sym (ap (λ (p : Operand N). p.value) e)) k.1,
        ap (λ (p : Operand N). p.use_number) e ∙ k.2,
      )
      step formed x y z (inr k) (inr l) = inr (
        (k.0.0, k.0.1, gone_still h g formed m k.0.0 k.0.2),
        given_then f keys w z.value y.value x.value (earlier z.value y.value l.1) k.1,
        l.2 ∙ k.2,
      )

-- ## How many went

filter_all : {A : Type 0} (t : A → Bool) (xs : List A) → ((x : A) → In x xs → t x ≡ true) → filter t xs ≡ xs
filter_all t [] h = refl
filter_all {A = A} t (x ∷ xs) h = ap (λ s. cond s (x ∷ filter t xs) (filter t xs)) (h x (inl refl)) ∙ ap (λ (ys : List A). x ∷ ys) (filter_all t xs (λ y k. h y (inr k)))

-- without one that stands in it once, the list is one shorter
pub one_shorter : {A : Type 0} (same : A → A → Bool) → Tells same → (x : A) (xs : List A) → Distinct xs → In x xs → length xs ≡ length (filter (λ y. not (same y x)) xs) + 1
one_shorter same tells x [] d h = elim h [ ]
one_shorter {A = A} same tells x (y ∷ ys) d (inl e) =
    let at : same y x ≡ true = (tells y x).1 (sym e) in
    let others : filter (λ z. not (same z x)) ys ≡ ys = filter_all (λ z. not (same z x)) ys (λ z k. apart (same z x) (λ t. not_in-Absent y ys d.0 (subst (λ w. In w ys) ((tells z x).0 t ∙ e) k))) in
    let short : filter (λ z. not (same z x)) (y ∷ ys) ≡ ys = ap (λ s. cond (not s) (y ∷ filter (λ z. not (same z x)) ys) (filter (λ z. not (same z x)) ys)) at ∙ others in
    let same_length = ap length short in
    omega (arith, same_length)
  where
    apart : (b : Bool) → (b ≡ true → ⊥) → not b ≡ true
    apart true n = absurd (n refl)
    apart false n = refl
one_shorter {A = A} same tells x (y ∷ ys) d (inr k) =
    let off : same y x ≡ false = apart (same y x) (λ t. not_in-Absent y ys d.0 (subst (λ w. In w ys) (sym ((tells y x).0 t)) k)) in
    let kept : filter (λ z. not (same z x)) (y ∷ ys) ≡ y ∷ filter (λ z. not (same z x)) ys = ap (λ s. cond (not s) (y ∷ filter (λ z. not (same z x)) ys) (filter (λ z. not (same z x)) ys)) off in
    let same_length = ap length kept in
    let more = one_shorter same tells x ys d.1 k in
    omega (arith, same_length, more)
  where
    apart : (b : Bool) → (b ≡ true → ⊥) → b ≡ false
    apart true n = absurd (n refl)
    apart false n = refl

module _ {N : Ids} {W : Dialect} (L : Lawful N) (B : Behaviour W) (same : SameAttributes W) (b : N.Block) (keys : ℕ) where
  pub some_counted : (f g : Forest N W) (n : ℕ) → WellFormed f keys → MergesSome B same b f g n → length (ops_of f b) ≡ length (ops_of g b) + n
  some_counted f g n w none_merges = let e : length (ops_of f b) ≡ length (ops_of f b) + 0 = omega arith in e
  some_counted f g _ w (one_merges {g = h} {n = k} s m) =
      let formed = some_formed L B same b keys f h k w s in
      let before = some_counted f h k w s in
      let one = one_shorter N.same_op L.ops m.later (ops_of h b) (Distinct-unmap an_op (ops_of h b) (formed.nested.once (a_block b))) (before_in m.earlier m.later (ops_of h b) m.in_order).1 in
      let list = ap length (list_left L B same h keys b g formed m b) in
      omega (arith, before, one, list)
