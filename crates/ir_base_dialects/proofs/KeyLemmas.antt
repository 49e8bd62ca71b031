-- Keys of attribute dictionaries: distinct as texts where the test of dictionaries tells them apart, and dictionaries compared at each key.
use Rattle.std.proofs.Common.{◌≡◌, ◌↔◌, ℕ, Bool, true, false, List, [], ◌∷◌, Option, Some, None, refl, sym, ap, ◌∙◌, true≢false}
use Rattle.std.specs.Cmp.{Equal-is}
use Rattle.std.specs.Cmp.Lexicographic.{texts_ties, nat_list_eq_equiv}
use Rattle.std.specs.HashMap.Eq.{get_from_hash_map_eq, hash_map_eq_from_get}
use Rattle.std.specs.List.{IsDistinct, AllByRecursion}
use Rattle.std.specs.Map.{keys_of}
use Rattle.std.specs.Option.{option_eq}
use Rattle.indexmap.specs.Layout.{hash_map}
use Rattle.ir_model.specs.Ids.{Absent, Distinct}
use Rattle.ir_model.specs.Stores.{attribute_at, HasDistinctKeys, SameAttribute, SameAttributes}
use Rattle.ir_base_dialects.specs.Attributes.{same_key, key_order, same_pairs}
use Rattle.ir_base_dialects.specs.AttributeLaws.{same_text}

pub same_key-is : (q k : List ℕ) → same_key q k ≡ true → q ≡ k
same_key-is q k h = same_text q k ((Equal-is (key_order q k)).0 (sym (texts_ties q k) ∙ h))

same_key-of : (q k : List ℕ) → q ≡ k → same_key q k ≡ true
same_key-of q k e = ap (same_key q) (sym e) ∙ nat_list_eq_equiv.refl q

absent_text : (key : List ℕ) (keys : List (List ℕ)) → AllByRecursion (λ k. same_key key k ≡ false) keys → Absent key keys
absent_text key [] out = tt
absent_text key (k ∷ keys) out = (λ e. true≢false (sym (same_key-of key k e) ∙ out.0), absent_text key keys out.1)

untold_key : (key : List ℕ) (keys : List (List ℕ)) → Absent key keys → AllByRecursion (λ k. same_key key k ≡ false) keys
untold_key key [] out = tt
untold_key key (k ∷ keys) out = (by (same_key key k) refl, untold_key key keys out.1)
  where
    by : (b : Bool) → same_key key k ≡ b → b ≡ false
    by true e = absurd (out.0 (same_key-is key k e))
    by false e = refl

distinct_texts : (keys : List (List ℕ)) → IsDistinct same_key keys → Distinct keys
unfolding IsDistinct
distinct_texts [] d = tt
distinct_texts (k ∷ keys) d = (absent_text k keys d.0, distinct_texts keys d.1)

told_keys : (keys : List (List ℕ)) → Distinct keys → IsDistinct same_key keys
unfolding IsDistinct
told_keys [] d = tt
told_keys (k ∷ keys) d = (untold_key k keys d.0, told_keys keys d.1)

-- the keys of a dictionary are distinct exactly where the test of dictionaries tells each from the others
pub distinct_keys : {A : Type 0} (pairs : List (List ℕ × A)) → IsDistinct same_key (keys_of pairs) ↔ HasDistinctKeys pairs
distinct_keys pairs = (distinct_texts (keys_of pairs), told_keys (keys_of pairs))

module _ {A : Type 0} (same : A → A → Bool) where
  same_attribute : (a b : Option A) → (option_eq same a b ≡ true) ↔ SameAttribute same a b
  same_attribute None None = (λ e. tt, λ s. refl)
  same_attribute None (Some b) = (λ e. absurd (true≢false (sym e)), λ s. absurd s)
  same_attribute (Some a) None = (λ e. absurd (true≢false (sym e)), λ s. absurd s)
  same_attribute (Some a) (Some b) = (λ e. e, λ s. s)

  -- dictionaries are equal exactly where each key leads to the same attribute in both
  pub same_at_each_key : (d e : List (List ℕ × A)) → (same_pairs same d e ≡ true) ↔ SameAttributes same d e
  same_at_each_key d e = (
    λ equal key. (same_attribute (attribute_at d key) (attribute_at e key)).0 (get_from_hash_map_eq same_key same nat_list_eq_equiv (hash_map d (tt {0}) 0) (hash_map e (tt {0}) 0) equal key),
    λ alike. hash_map_eq_from_get same_key same (hash_map d (tt {0}) 0) (hash_map e (tt {0}) 0) (λ key. (same_attribute (attribute_at d key) (attribute_at e key)).1 (alike key)),
  )
