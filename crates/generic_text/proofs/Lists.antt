-- Lists that are gone through, and what is pushed on the way.
use Rattle.std.proofs.Common.{◌≡◌, ℕ, ◌+◌, ◌-◌, ◌<◌, List, [], ◌∷◌, ◌++◌, length, map, reverse, take, Some, Result, Ok, Err, IfOk, OnOk, refl, sym, ap, ◌∙◌, append_assoc, arith}
use Rattle.std.proofs.Math.Seq.{get_or-append_seam}
use Rattle.std.proofs.lemmas.List.{length-append, map-append, reverse-append, take_more}
use Rattle.std.proofs.lemmas.Option.{slice_get-get_or, get_or_from_slice_get, slice_get_within}
use Rattle.std.specs.List.{slice_get}

module _ {A : Type 0} where
  -- so many of a list are gone, and these are left
  pub record Gone (xs left : List A) (k : ℕ) : Type 0 where
    pub done : List A
    pub whole : xs ≡ done ++ left
    pub count : length done ≡ k

  -- at first none is gone
  pub gone-none : (xs : List A) → Gone xs xs 0
  gone-none xs = record { done = []; whole = refl; count = refl }

  seam : (done rest : List A) (x : A) → slice_get (done ++ x ∷ rest) (length done) ≡ Some x
  seam done rest x =
      let within : length done < length (done ++ x ∷ rest) = omega (arith, length-append done (x ∷ rest)) in
      slice_get-get_or (done ++ x ∷ rest) (length done) x within ∙ ap Some (get_or-append_seam done x rest x)

  -- the next is the one at that place
  pub gone-next : {xs left rest : List A} {x : A} {k : ℕ} → left ≡ x ∷ rest → Gone xs left k → slice_get xs k ≡ Some x
  gone-next {xs} {left} {rest} {x} {k} e g =
      ap (slice_get xs) (sym g.count) ∙ ap (λ ys. slice_get ys (length g.done)) (g.whole ∙ ap (λ ys. g.done ++ ys) e) ∙ seam g.done rest x

  -- then one more is gone
  pub gone-more : {xs left rest : List A} {x : A} {k : ℕ} → left ≡ x ∷ rest → Gone xs left k → Gone xs rest (k + 1)
  gone-more {xs} {left} {rest} {x} {k} e g = record {
    done = g.done ++ x ∷ [];
    whole = g.whole ∙ ap (λ ys. g.done ++ ys) e ∙ sym (append_assoc g.done (x ∷ []) rest);
    count = length-append g.done (x ∷ []) ∙ ap (λ n. n + 1) g.count;
  }

  -- at last all are gone
  pub gone-all : {xs left : List A} {k : ℕ} → left ≡ [] → Gone xs left k → k ≡ length xs
  gone-all {xs} {left} {k} e g =
      let all : length xs ≡ length g.done + length left = ap length g.whole ∙ length-append g.done left in
      omega (arith, all, ap length e, g.count)

  -- the first so many and the one behind them
  pub take-next : (xs : List A) (k : ℕ) (x : A) → slice_get xs k ≡ Some x → take (k + 1) xs ≡ take k xs ++ x ∷ []
  take-next xs k x e = take_more xs k x (slice_get_within xs k x e) ∙ ap (λ y. take k xs ++ y ∷ []) (get_or_from_slice_get xs k x x e)

module _ {A B : Type 0} (f : A → B) where
  -- what is left, and what was pushed of the list from its end on
  pub pushed : (left rest : List A) (x : A) (items more target : List B) → left ≡ rest ++ x ∷ [] → more ≡ items ++ f x ∷ [] → map f left ++ reverse items ≡ target → map f rest ++ reverse more ≡ target
  pushed left rest x items more target e pushes before =
      ap (λ ys. map f rest ++ ys) (ap reverse pushes ∙ reverse-append items (f x ∷ []))
      ∙ sym (append_assoc (map f rest) (f x ∷ []) (reverse items))
      ∙ ap (λ ys. ys ++ reverse items) (sym (map-append f rest (x ∷ [])))
      ∙ ap (λ ys. map f ys ++ reverse items) (sym e)
      ∙ before

-- what is pushed last stands first in reverse
pub pushed_first : {B : Type 0} (items more : List B) (x : B) → more ≡ items ++ x ∷ [] → reverse more ≡ x ∷ reverse items
pushed_first items more x e = ap reverse e ∙ reverse-append items (x ∷ [])

-- what is popped stood first in reverse
pub popped_first : {B : Type 0} (items rest : List B) (x : B) → items ≡ rest ++ x ∷ [] → reverse items ≡ x ∷ reverse rest
popped_first items rest x e = ap reverse e ∙ reverse-append rest (x ∷ [])

-- what holds where it is well, so does what follows from it
pub if_ok : {A E : Type 0} (r : Result A E) {P Q : A → Type 0} → ((x : A) → P x → Q x) → IfOk r P → IfOk r Q
if_ok (Ok x) f p = f x p
if_ok (Err e) f p = tt

-- what follows from what holds where it is well
pub on_ok : {A E : Type 0} (r : Result A E) {P Q : Type 0} → (P → Q) → OnOk r P → OnOk r Q
on_ok (Ok x) f p = f p
on_ok (Err e) f p = tt

-- a list mapped twice
pub mapped : {A B C : Type 0} (g : B → C) (f : A → B) (xs : List A) → map g (map f xs) ≡ map (λ x. g (f x)) xs
mapped g f [] = refl
mapped g f (x ∷ xs) = ap (λ ys. g (f x) ∷ ys) (mapped g f xs)

-- a list of which nothing can be popped is empty
pub none_left : {A : Type 0} (old new : List A) (n : ℕ) → old ≡ new ++ [] → new ≡ take (n - 1) old → n ≡ 0 → old ≡ []
none_left old new n e rest none = e ∙ ap (λ ys. ys ++ []) (rest ∙ ap (λ k. take (k - 1) old) none)
