-- The kind of the type under a handle, told by its key.
use Rattle.std.proofs.Common.{◌≡◌, ◌∙◌, ℕ, ◌<◌, true, List, length, Some, sym, ap, subst, slice_get}
use Rattle.std.specs.Option.{option_map}
use Rattle.std.proofs.lemmas.Option.{same_Some, slice_get_within}
use Rattle.ir_model.specs.Edits.{StoredType, type_place, with_type}
use Rattle.ir_model.specs.Forest.{Dialect, Behaviour}
use Rattle.ir_model.specs.Kinds.{Kinds, HasKind, Implements}
use Rattle.ir_model.proofs.Queries.{keys_keep_their_kind}
use Rattle.ir_core_records.specs.Found.{some_behind}

module _ {W : Dialect} (K : Kinds W) (store : List (StoredType W)) (t : ℕ) (key : W.Key) (is : option_map (λ (s : StoredType W). s.key) (slice_get store t) ≡ Some key) where
  behind : (s : StoredType W) × (slice_get store t ≡ Some s) × (s.key ≡ key)
  behind = some_behind (λ (s : StoredType W). s.key) (slice_get store t) key is

  -- the type has the kind of its key
  pub has-kind : HasKind K store t (K.type_kind key)
  has-kind = record { value = behind.0; found = behind.1; holds = ap K.type_kind behind.2 }

  -- the type has the kind exactly where its key does
  pub of-kind : (kind : ℕ) → K.type_kind key ≡ kind → HasKind K store t kind
  of-kind kind e = record { value = behind.0; found = behind.1; holds = ap K.type_kind behind.2 ∙ e }

  pub one-kind : (kind : ℕ) → HasKind K store t kind → K.type_kind key ≡ kind
  one-kind kind h =
      let e : Some behind.0 ≡ Some h.value = sym behind.1 ∙ h.found in
      ap K.type_kind (sym behind.2) ∙ ap (λ (s : StoredType W). K.type_kind s.key) (same_Some _ _ e) ∙ h.holds

  -- the type's kind implements the interface exactly where its key's does
  pub implements : (interface : ℕ) → K.type_impls (K.type_kind key) interface ≡ true → Implements K store t interface
  implements interface e = (K.type_kind key, has-kind, e)

  pub implemented : (interface : ℕ) → Implements K store t interface → K.type_impls (K.type_kind key) interface ≡ true
  implemented interface h = ap (λ k. K.type_impls k interface) (one-kind h.0 h.1) ∙ h.2

-- a type that has a kind is known
pub kind-known : {W : Dialect} (K : Kinds W) (store : List (StoredType W)) (t kind : ℕ) → HasKind K store t kind → t < length store
kind-known K store t kind h = slice_get_within store t h.value h.found

-- a key that was given a handle has there the kind of the key
pub made-kind : {W : Dialect} (B : Behaviour W) (K : Kinds W) (old new : List (StoredType W)) (key : W.Key) (place kind : ℕ)
    → B.same_key key key ≡ true → ((a b : W.Key) → B.same_key a b ≡ true → K.type_kind a ≡ K.type_kind b)
    → place ≡ type_place B old key → new ≡ with_type B old key → K.type_kind key ≡ kind → HasKind K new place kind
made-kind B K old new key place kind itself same at is of =
    let made : HasKind K (with_type B old key) (type_place B old key) (K.type_kind key) = (keys_keep_their_kind _ B K old key itself same).made in
    let here : HasKind K (with_type B old key) place (K.type_kind key) = subst (λ n. HasKind K (with_type B old key) n (K.type_kind key)) (sym at) made in
    let now : HasKind K new place (K.type_kind key) = subst (λ ts. HasKind K ts place (K.type_kind key)) (sym is) here in
    record { value = now.value; found = now.found; holds = now.holds ∙ of }
