-- What an insertion, and a write through a loan of one attribute, leave of a dictionary.
use borrow.Follows.Closed.{read_of}
use Rattle.std.proofs.Common.{◌≡◌, ◌⊎◌, inl, ◌∙◌, sym, ap, refl, ℕ, Bool, true, false, cond, List, [], ◌∷◌, Option, Some, option_and_then}
use Rattle.std.specs.Option.{option_map_or}
use Rattle.std.specs.Map.{set_value}
use Rattle.std.proofs.lemmas.Map.Steps.{set_value_same}
use Rattle.indexmap.specs.IndexMap.{insert_entry}
use Rattle.ir_model.specs.Stores.{attribute_at, set_attribute}
use Rattle.ir_base_dialects.specs.Attributes.{same_key, with_changed}

module _ {A : Type 0} (key : List ℕ) where
  -- an insertion is `set_attribute`
  pub insert_entry-is : (pairs : List (List ℕ × A)) (attr : A) → insert_entry same_key pairs key attr ≡ set_attribute pairs key attr
  insert_entry-is [] attr = refl
  insert_entry-is (p ∷ ps) attr = ap (λ qs. cond (same_key key p.0) ((p.0, attr) ∷ ps) (p ∷ qs)) (insert_entry-is ps attr)

  -- a write at a key that is there is `set_attribute`
  set_value-there : (pairs : List (List ℕ × A)) (attr new : A) → attribute_at pairs key ≡ Some attr → set_value (same_key key) pairs new ≡ set_attribute pairs key new
  set_value-there [] attr new there = absurd (cc there)
  set_value-there (p ∷ ps) attr new there = by (same_key key p.0) there (λ rest. set_value-there ps attr new rest)
    where
      by : (b : Bool) → cond b (Some p.1) (attribute_at ps key) ≡ Some attr → (attribute_at ps key ≡ Some attr → set_value (same_key key) ps new ≡ set_attribute ps key new) → cond b ((p.0, new) ∷ ps) (p ∷ set_value (same_key key) ps new) ≡ cond b ((p.0, new) ∷ ps) (p ∷ set_attribute ps key new)
      by true _ _ = refl
      by false found rest = ap (λ qs. p ∷ qs) (rest found)

  -- what is put at its own key changes nothing
  put_again : (pairs : List (List ℕ × A)) (attr : A) → attribute_at pairs key ≡ Some attr → set_attribute pairs key attr ≡ pairs
  put_again pairs attr there = sym (set_value-there pairs attr attr there) ∙ set_value_same (same_key key) pairs attr there

  module _ (pairs new : List (List ℕ × A)) (attr : A) (seen : Some attr ≡ attribute_at pairs key) where
    -- a write of another attribute is `set_attribute`
    pub written-set : (other : A) → new ≡ set_value (same_key key) pairs other → new ≡ set_attribute pairs key other
    written-set other written = written ∙ set_value-there pairs attr other (sym seen)

    -- a write of the attribute that is there changes nothing
    pub written-again : new ≡ set_value (same_key key) pairs attr → new ≡ pairs
    written-again written = written ∙ set_value_same (same_key key) pairs attr (sym seen)

    -- what a change makes of the attribute that is there, put at its key, is `with_changed`
    pub put-changed : (change : A → A) → new ≡ set_attribute pairs key (change attr) → new ≡ with_changed pairs key change
    put-changed change put = put ∙ ap (λ found. option_map_or (λ a. set_attribute pairs key (change a)) found pairs) seen

    -- the attribute that is there, put again, changes nothing
    pub put-same : new ≡ set_attribute pairs key attr → new ≡ pairs
    put-same put = put ∙ put_again pairs attr (sym seen)

  -- what is asked of the attribute that is there
  pub asked-there : {B : Type 0} (pairs : List (List ℕ × A)) (attr : A) (ask : A → Option B) (answer : Option B) → Some attr ≡ attribute_at pairs key → answer ≡ ask attr → answer ≡ option_and_then ask (attribute_at pairs key)
  asked-there pairs attr ask answer seen asked = asked ∙ ap (option_and_then ask) seen

-- two readings of a borrow that agree at each write and without one
pub both : {D E : Type 0} (n : _) (F G : E → D) (v w : D) → ((x : E) → F x ≡ G x) → v ≡ w → read_of n F v ≡ read_of n G w
both n F G v w each none = λ t. read_of n (λ x. each x t) (none t)

-- two loans under one name that agree at each write
pub same_writes : {N D E : Type 0} (n : N) (F G : E → D) → ((x : E) → F x ≡ G x) → ◌≡◌ {A = (N × (E → D)) ⊎ D} (inl (n, F)) (inl (n, G))
same_writes n F G each = λ t. inl (n, λ x. each x t)
