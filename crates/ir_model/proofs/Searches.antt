-- In a well-formed forest what is found by searching all lists is found one way.
use mathlib.Core.Path.{◌≡◌, refl, sym, ap, ◌∙◌, subst}
use Rattle.std.proofs.Common.{ℕ, zero, suc, inl, Option, Some, None, List, [], ◌∷◌, ◌++◌}
use Rattle.std.specs.Prelude.{slice_get}
use Rattle.ir_model.specs.Ids.{Distinct}
use Rattle.ir_model.specs.ContextIds.{context_ids}
use Rattle.ir_model.specs.Forest.{Dialect, Entity, Forest}
use Rattle.ir_model.specs.Nesting.{In, children, WellFormed}
use Rattle.ir_model.specs.Parent.{Adjacent, FindsOne, ComesAfter}
use Rattle.ir_model.specs.DefinitionLaws.{AnswersAreOne}
use Rattle.ir_model.proofs.Nests.{not_in-Absent, In-right}
use Rattle.ir_model.proofs.Removal.{length-same}
use Rattle.ir_model.proofs.Relinks.{Adjacent-first, Adjacent-second}
use Rattle.ir_model.proofs.Edges.{got_in}

finds_one : {A : Type 0} (P : A → Type 0) → ((x y : A) → P x → P y → x ≡ y) → (a b : Option A) → FindsOne P a → FindsOne P b → a ≡ b
finds_one P one None None h k = refl
finds_one P one None (Some y) h k = absurd (h y k)
finds_one P one (Some x) None h k = absurd (k x h)
finds_one P one (Some x) (Some y) h k = ap Some (one x y h k)

-- the parts of a list round an element that it has once
split_once : {A : Type 0} (x : A) (xs bs cs ds : List A) → Distinct (xs ++ x ∷ bs) → xs ++ x ∷ bs ≡ cs ++ x ∷ ds → (xs ≡ cs) × (bs ≡ ds)
split_once x [] bs [] ds d e = (refl, cc)
split_once x [] bs (c ∷ cs) ds d e = absurd (let t : bs ≡ cs ++ x ∷ ds = cc in not_in-Absent x bs d.0 (subst (In x) (sym t) (In-right x cs (x ∷ ds) (inl refl))))
split_once x (a ∷ xs) bs [] ds d e = absurd (let s : a ≡ x = cc in not_in-Absent a (xs ++ x ∷ bs) d.0 (In-right a xs (x ∷ bs) (inl s)))
split_once x (a ∷ xs) bs (c ∷ cs) ds d e =
    let s : a ≡ c = cc in
    let t : xs ++ x ∷ bs ≡ cs ++ x ∷ ds = cc in
    let more = split_once x xs bs cs ds d.1 t in
    (let f = more.0 in cc, more.1)

after_one : {A : Type 0} (x y z : A) (xs : List A) → Distinct xs → Adjacent x y xs → Adjacent x z xs → y ≡ z
after_one x y z xs d h k =
    let parts = split_once x h.0 (y ∷ h.1) k.0 (z ∷ k.1) (subst Distinct h.2 d) (sym h.2 ∙ k.2) in
    let e = parts.1 in
    cc

-- the list before the second of two neighbours
before_second : {A : Type 0} (x y : A) (xs bs : List A) → xs ++ x ∷ y ∷ bs ≡ (xs ++ x ∷ []) ++ y ∷ bs
before_second x y [] bs = refl
before_second x y (a ∷ xs) bs = ap (λ l. a ∷ l) (before_second x y xs bs)

last_same : {A : Type 0} (x y : A) (xs bs : List A) → xs ++ x ∷ [] ≡ bs ++ y ∷ [] → x ≡ y
last_same x y [] [] e = cc
last_same x y [] (b ∷ []) e = absurd cc
last_same x y [] (b ∷ c ∷ bs) e = absurd cc
last_same x y (a ∷ []) [] e = absurd cc
last_same x y (a ∷ c ∷ xs) [] e = absurd cc
last_same x y (a ∷ xs) (b ∷ bs) e = last_same x y xs bs cc

before_one : {A : Type 0} (x y z : A) (xs : List A) → Distinct xs → Adjacent y x xs → Adjacent z x xs → y ≡ z
before_one x y z xs d h k =
    let p = h.2 ∙ before_second y x h.0 h.1 in
    let q = k.2 ∙ before_second z x k.0 k.1 in
    let parts = split_once x (h.0 ++ y ∷ []) h.1 (k.0 ++ z ∷ []) k.1 (subst Distinct p d) (sym p ∙ q) in
    last_same y z h.0 k.0 parts.0

pub place_one : {A : Type 0} (x : A) (xs : List A) (m n : ℕ) → Distinct xs → slice_get xs m ≡ Some x → slice_get xs n ≡ Some x → m ≡ n
place_one x [] m n d h k = absurd cc
place_one x (y ∷ ys) zero zero d h k = refl
place_one x (y ∷ ys) zero (suc n) d h k = absurd (let s : y ≡ x = cc in not_in-Absent y ys d.0 (subst (λ z. In z ys) (sym s) (got_in ys n x k)))
place_one x (y ∷ ys) (suc m) zero d h k = absurd (let s : y ≡ x = cc in not_in-Absent y ys d.0 (subst (λ z. In z ys) (sym s) (got_in ys m x h)))
place_one x (y ∷ ys) (suc m) (suc n) d h k = ap suc (place_one x ys m n d.1 h k)

module _ {W : Dialect} (f : Forest context_ids W) (keys : ℕ) (w : WellFormed f keys) where
  next_one : (x y z : Entity context_ids) → ComesAfter f x y → ComesAfter f x z → y ≡ z
  next_one x y z h k =
      let p = w.nested.one_list x k.0 h.0 (Adjacent-first x z _ k.1) (Adjacent-first x y _ h.1) in
      after_one x y z (children f h.0) (w.nested.once h.0) h.1 (subst (λ c. Adjacent x z (children f c)) p k.1)

  previous_one : (x y z : Entity context_ids) → ComesAfter f y x → ComesAfter f z x → y ≡ z
  previous_one x y z h k =
      let p = w.nested.one_list x k.0 h.0 (Adjacent-second z x _ k.1) (Adjacent-second y x _ h.1) in
      before_one x y z (children f h.0) (w.nested.once h.0) h.1 (subst (λ c. Adjacent z x (children f c)) p k.1)

  pub searches_agree : AnswersAreOne f
  searches_agree = record {
    parent = λ x a b. finds_one (λ y. In x (children f y)) (λ y z h k. w.nested.one_list x y z h k) a b;
    next = λ x a b. finds_one (λ y. ComesAfter f x y) (next_one x) a b;
    previous = λ x a b. finds_one (λ y. ComesAfter f y x) (previous_one x) a b;
    index = λ x m n h k.
        let p = w.nested.one_list x k.0 h.0 (got_in (children f k.0) n x k.1) (got_in (children f h.0) m x h.1) in
        place_one x (children f h.0) m n (w.nested.once h.0) h.1 (subst (λ c. slice_get (children f c) n ≡ Some x) p k.1);
    uses = λ d us vs p q. length-same us vs p.once q.once (λ u h. (q.exact u).1 ((p.exact u).0 h)) (λ u h. (p.exact u).1 ((q.exact u).0 h));
  }
