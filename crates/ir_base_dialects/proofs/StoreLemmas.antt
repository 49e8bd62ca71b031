-- What a store's hash table says of its list of pairs.
use Rattle.std.proofs.Common.{◌≡◌, Bool, true, false, cond, ◌||◌, List, [], ◌∷◌, ◌++◌, Option, Some, None, is_some, refl, sym, ap, subst, ◌∙◌, true≢false, MatchBool}
use Rattle.std.specs.Cmp.{IsEquivalence}
use Rattle.std.specs.List.{IsDistinct, position_or_len}
use Rattle.std.specs.Map.{keys_of, lookup}
use Rattle.indexmap.specs.IndexMap.{IndexMap, get, keys, insert_entry, insert_index, with_value_at}
use Rattle.indexmap.proofs.CallerLemmas.{insert_entry-new, keys-with_value_at}
use Rattle.ir_base_dialects.specs.Stores.{has_key, Stores}
use Rattle.ir_model.specs.Edits.{place_of, with_key}

-- the keys of a longer list of pairs
pub keys_of-push : {K B : Type 0} (pairs : List (K × B)) (p : K × B) → keys_of (pairs ++ p ∷ []) ≡ keys_of pairs ++ p.0 ∷ []
keys_of-push [] p = refl
keys_of-push (q ∷ qs) p = ap (λ ks. q.0 ∷ ks) (keys_of-push qs p)

-- what isn't there is `None`
pub none_there : {A : Type 0} (o : Option A) → false ≡ is_some o → o ≡ None
none_there None e = refl
none_there (Some x) e = absurd (true≢false (sym e))

-- the keys where a key is stored
pub keys-Stores : {K B : Type 0} (eq : K → K → Bool) (IsFirst : B → Type 0) (pairs : List (K × B)) (key : K) (new : List (K × B)) → Stores eq IsFirst pairs key new → keys_of new ≡ with_key eq (keys_of pairs) key
keys-Stores {B} eq IsFirst pairs key new = by (has_key eq pairs key)
  where
    by : (b : Bool) → MatchBool b (new ≡ pairs) ((body : B) × (IsFirst body × (new ≡ pairs ++ (key, body) ∷ []))) → keys_of new ≡ cond b (keys_of pairs) (keys_of pairs ++ key ∷ [])
    by true stays = ap keys_of stays
    by false added = ap keys_of added.1.1 ∙ keys_of-push pairs (key, added.0)

module _ {K : Type 0} (eq : K → K → Bool) (laws : IsEquivalence eq) where
  -- a key stands among the pairs exactly where a look-up finds it
  pub has_key-lookup : {B : Type 0} (pairs : List (K × B)) (key : K) → has_key eq pairs key ≡ is_some (lookup (eq key) pairs)
  has_key-lookup [] key = refl
  has_key-lookup {B} (p ∷ ps) key = by (eq key p.0) refl (has_key-lookup ps key)
    where
      by : (b : Bool) → eq key p.0 ≡ b → has_key eq ps key ≡ is_some (lookup (eq key) ps) → has_key eq (p ∷ ps) key ≡ is_some (lookup (eq key) (p ∷ ps))
      by true e rest = ap (λ b. b || has_key eq ps key) (laws.symm p.0 key ∙ e) ∙ sym (ap (λ b. is_some (cond b (Some p.1) (lookup (eq key) ps))) e)
      by false e rest = ap (λ b. b || has_key eq ps key) (laws.symm p.0 key ∙ e) ∙ rest ∙ sym (ap (λ b. is_some (cond b (Some p.1) (lookup (eq key) ps))) e)

  module _ {B S : Type 0} (m : IndexMap K B S) (pairs : List (K × B)) (key : K) (at : m.entries ≡ pairs) where
    -- a store has a key exactly where its table finds it
    pub has_key-get : has_key eq pairs key ≡ is_some (get eq m key)
    has_key-get = ap (λ es. has_key eq es key) (sym at) ∙ has_key-lookup m.entries key

    -- the place of a key in its table is its place in the store
    pub index-place_of : insert_index eq m key ≡ place_of eq (keys_of pairs) key
    index-place_of = ap (λ es. position_or_len (eq key) (keys_of es)) at ∙ λ j. position_or_len (λ k. laws.symm key k j) (keys_of pairs)

    module _ (there : true ≡ is_some (get eq m key)) where
      -- a key that is there: nothing changes
      pub Stores-there : (IsFirst : B → Type 0) → Stores eq IsFirst pairs key pairs
      Stores-there IsFirst = subst (λ b. MatchBool b (pairs ≡ pairs) ((body : B) × (IsFirst body × (pairs ≡ pairs ++ (key, body) ∷ [])))) (sym (has_key-get ∙ sym there)) refl

    module _ (absent : false ≡ is_some (get eq m key)) (body : B) (new : List (K × B)) (inserted : new ≡ insert_entry eq m.entries key body) where
      -- a key that isn't there goes last
      pub goes_last : new ≡ pairs ++ (key, body) ∷ []
      goes_last = inserted ∙ insert_entry-new eq m key body (none_there (get eq m key) absent) ∙ ap (λ es. es ++ (key, body) ∷ []) at

      pub Stores-new : (IsFirst : B → Type 0) → IsFirst body → Stores eq IsFirst pairs key new
      Stores-new IsFirst first =
          subst (λ b. MatchBool b (new ≡ pairs) ((start : B) × (IsFirst start × (new ≡ pairs ++ (key, start) ∷ [])))) (sym (has_key-get ∙ sym absent))
          (body, (first, goes_last))

  -- a body that is set leaves the keys distinct
  pub IsDistinct-with_value_at : {B S : Type 0} (m : IndexMap K B S) (i : _) (w : B) → IsDistinct eq (keys m) → IsDistinct eq (keys (with_value_at m i w))
  IsDistinct-with_value_at m i w d = subst (IsDistinct eq) (sym (keys-with_value_at m i w)) d
