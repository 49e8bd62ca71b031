-- Lists of records, read and written under an index.
use Rattle.std.proofs.Common.{◌≡◌, ℕ, List, [], Option, Some, None, IsSome, slice_get, refl, sym, ap, subst, ◌∙◌, inl, inr, true≢false}
use Rattle.std.specs.Option.{option_map}
use Rattle.std.proofs.lemmas.Bool.{cases_eq}
use Rattle.ir_model.specs.declared.ids.ArenaIndex.{ArenaIndex}
use Rattle.ir_base_arenas.specs.Arena.{Arena, get, IsLiveIn}
use Rattle.ir_model.proofs.IdCases.{id_cases}
use Rattle.ir_core_records.specs.declared.record.UseIndex.{UseIndex}
use Rattle.ir_core_records.specs.declared.record.Definition.{Definition}
use Rattle.ir_core_records.specs.Lists.{in_record, edited, uses_with, put_uses, HasNumber}
pub use Rattle.ir_core_records.specs.Edited.{edited-filled, edited-lent, in_record-lent, edited-by, slots-edited, get-edited, get-edited_other, edited-kept, edited-live, edited-self, edited-twice}
use Rattle.ir_core_chains.specs.Chain.{AreKept}
use Rattle.ir_core_records.specs.Numbered.{uses_with-put_same, uses_with-put_other, put_uses-self, put_uses-twice, put_uses-number, used_with}

-- one list of each record
module _ {T X : Type 0} (read : T → List X) (write : List X → T → T) (get_put : (l : List X) (x : T) → read (write l x) ≡ l) (put_get : (x : T) → write (read x) x ≡ x) (put_put : (l m : List X) (x : T) → write m (write l x) ≡ write m x) where
  field-has : (x : Option T) (i : ℕ) (y : X) → slice_get (in_record read [] x) i ≡ Some y → IsSome x
  field-has None i y h = absurd (cc)
  field-has (Some x) i y h = refl

  field-here : (x : Option T) (xs : List X) → IsSome x → in_record read [] (option_map (write xs) x) ≡ xs
  field-here None xs live = absurd (true≢false (sym live))
  field-here (Some x) xs live = get_put xs x

  pub field-kept : AreKept {S = Arena T} IsLiveIn (λ t o. in_record read [] (get t o)) (λ t o xs. edited (write xs) t o)
  field-kept = record {
    here = λ t o xs live. ap (in_record read []) (get-edited (write xs) t o) ∙ field-here (get t o) xs live;
    others = λ t o xs live p ne. ap (in_record read []) (get-edited_other (write xs) t o p ne);
    self = λ t o. edited-self (write (in_record read [] (get t o))) t o (λ x e. ap (λ (y : Option T). write (in_record read [] y) x) e ∙ put_get x);
    twice = λ t o xs ys live. edited-twice (write xs) (write ys) (write ys) (λ x. put_put xs ys x) t o;
    has = λ t o i y h. field-has (get t o) i y h;
    keeps = λ t o xs p live. edited-live (write xs) t o p live;
  }

-- the uses of the definitions of each record, by index and number
module _ {T : Type 0} (read : T → List Definition) (write : List Definition → T → T) (get_put : (l : List Definition) (x : T) → read (write l x) ≡ l) (put_get : (x : T) → write (read x) x ≡ x) (put_put : (l m : List Definition) (x : T) → write m (write l x) ≡ write m x) where
  abbrev rewritten : ℕ → List UseIndex → T → T
  rewritten n us x = write (put_uses (read x) n us) x

  numbered-here : (x : Option T) (n : ℕ) (us : List UseIndex) → HasNumber (in_record read [] x) n → uses_with (in_record read [] (option_map (rewritten n us) x)) n ≡ us
  numbered-here None n us h = absurd (cc (h.2))
  numbered-here (Some x) n us h = ap (λ (ds : List Definition). uses_with ds n) (get_put (put_uses (read x) n us) x) ∙ uses_with-put_same (read x) n h.0 h.1 us h.2 h.3

  numbered-keeps : (x : Option T) (n : ℕ) (us : List UseIndex) (m : ℕ) → HasNumber (in_record read [] x) m → HasNumber (in_record read [] (option_map (rewritten n us) x)) m
  numbered-keeps None n us m h = h
  numbered-keeps (Some x) n us m h = subst (λ (ds : List Definition). HasNumber ds m) (sym (get_put (put_uses (read x) n us) x)) (put_uses-number (read x) n us m h)

  pub numbered-kept : AreKept {S = Arena T} {K = ArenaIndex × ℕ} (λ t k. HasNumber (in_record read [] (get t k.0)) k.1) (λ t k. uses_with (in_record read [] (get t k.0)) k.1) (λ t k us. edited (λ x. write (put_uses (read x) k.1 us) x) t k.0)
  numbered-kept = record {
    here = λ t k us h. ap (λ (x : Option T). uses_with (in_record read [] x) k.1) (get-edited (rewritten k.1 us) t k.0) ∙ numbered-here (get t k.0) k.1 us h;
    others = λ t k us h j ne.
        elim (cases_eq j.1 k.1) [
          | inl q ↦ ap (λ (x : Option T). uses_with (in_record read [] x) j.1) (get-edited_other (rewritten k.1 us) t k.0 j.0 (λ r. ne (λ i. (r i, q i))))
          | inr q ↦ edited-kept (λ x. uses_with (in_record read [] x) j.1) (rewritten k.1 us) (λ x. ap (λ (ds : List Definition). uses_with ds j.1) (get_put (put_uses (read x) k.1 us) x) ∙ uses_with-put_other (read x) k.1 j.1 us q) t k.0 j.0
        ];
    self = λ t k. edited-self (rewritten k.1 (uses_with (in_record read [] (get t k.0)) k.1)) t k.0
        (λ x e. ap (λ (y : Option T). write (put_uses (read x) k.1 (uses_with (in_record read [] y) k.1)) x) e ∙ ap (λ (ds : List Definition). write ds x) (put_uses-self (read x) k.1) ∙ put_get x);
    twice = λ t k us vs h. edited-twice (rewritten k.1 us) (rewritten k.1 vs) (rewritten k.1 vs)
        (λ x. ap (λ (ds : List Definition). write (put_uses ds k.1 vs) (rewritten k.1 us x)) (get_put (put_uses (read x) k.1 us) x)
        ∙ put_put (put_uses (read x) k.1 us) (put_uses (put_uses (read x) k.1 us) k.1 vs) x
        ∙ ap (λ (ds : List Definition). write ds x) (put_uses-twice (read x) k.1 us vs)) t k.0;
    has = λ t k i u h. used_with (in_record read [] (get t k.0)) k.1 i u h;
    keeps = λ t k us j h.
        elim (id_cases j.0 k.0) [
          | inl q ↦
              let P : Option T → Type 0 = λ x. HasNumber (in_record read [] x) j.1 in
              subst (λ (p : ArenaIndex). P (get (edited (rewritten k.1 us) t k.0) p)) (sym q)
              (subst P (sym (get-edited (rewritten k.1 us) t k.0)) (numbered-keeps (get t k.0) k.1 us j.1 (subst (λ (p : ArenaIndex). P (get t p)) q h)))
          | inr ne ↦
              let P : Option T → Type 0 = λ x. HasNumber (in_record read [] x) j.1 in
              subst P (sym (get-edited_other (rewritten k.1 us) t k.0 j.0 ne)) h
        ];
  }

-- the lists of a part are lists of the whole
module _ {R S K X : Type 0} (part : R → S) (with_part : R → S → R) (get_put : (r : R) (s : S) → part (with_part r s) ≡ s) (put_get : (r : R) → with_part r (part r) ≡ r) (put_put : (r : R) (s q : S) → with_part (with_part r s) q ≡ with_part r q) where
  pub lifted : {Has : S → K → Type 0} {at : S → K → List X} {put : S → K → List X → S} → AreKept Has at put → AreKept (λ r k. Has (part r) k) (λ r k. at (part r) k) (λ r k xs. with_part r (put (part r) k xs))
  lifted {Has} {at} {put} A = record {
    here = λ r k xs h. ap (λ (s : S). at s k) (get_put r (put (part r) k xs)) ∙ A.here (part r) k xs h;
    others = λ r k xs h j ne. ap (λ (s : S). at s j) (get_put r (put (part r) k xs)) ∙ A.others (part r) k xs h j ne;
    self = λ r k. ap (with_part r) (A.self (part r) k) ∙ put_get r;
    twice = λ r k xs ys h. ap (λ (s : S). with_part (with_part r (put (part r) k xs)) (put s k ys)) (get_put r (put (part r) k xs)) ∙ put_put r (put (part r) k xs) (put (put (part r) k xs) k ys) ∙ ap (with_part r) (A.twice (part r) k xs ys h);
    has = λ r k i x h. A.has (part r) k i x h;
    keeps = λ r k xs j h. subst (λ (s : S). Has s j) (sym (get_put r (put (part r) k xs))) (A.keeps (part r) k xs j h);
  }

-- lists by keys that are told apart by other keys
module _ {S K J X : Type 0} (key : J → K) (one : (i j : J) → key i ≡ key j → i ≡ j) where
  pub rekeyed : {Has : S → K → Type 0} {at : S → K → List X} {put : S → K → List X → S} → AreKept Has at put → AreKept (λ s j. Has s (key j)) (λ s j. at s (key j)) (λ s j xs. put s (key j) xs)
  rekeyed {Has} {at} {put} A = record {
    here = λ s j xs h. A.here s (key j) xs h;
    others = λ s j xs h i ne. A.others s (key j) xs h (key i) (λ e. ne (one i j e));
    self = λ s j. A.self s (key j);
    twice = λ s j xs ys h. A.twice s (key j) xs ys h;
    has = λ s j i x h. A.has s (key j) i x h;
    keeps = λ s j xs i h. A.keeps s (key j) xs (key i) h;
  }
