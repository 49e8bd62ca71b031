-- Attribute dictionaries: lists of pairs of a key's text and an attribute, with distinct keys.
use Rattle.std.specs.Prelude.{◌≡◌, ℕ, Bool, true, false, not, ◌&&◌, ◌||◌, ◌++◌, nat_eq, List, map, filter, Option, Some, None, is_some, if◌then◌else◌}
use Rattle.std.specs.List.{All, AllZip}
use Rattle.std.specs.Option.{option_map_or}
use Rattle.std.specs.HashMap.{entries_eq}
use Rattle.std.specs.Cmp.Lexicographic.{pointwise, slice_cmp}
use Rattle.std.specs.declared.cmp.Ordering.{Ordering}
use Rattle.std.specs.Ordering.{nat_cmp, is_lt}
use Rattle.std.specs.FinMap.{entries, from_entries}
use Rattle.std.specs.Hash as fed
use Rattle.std.specs.Hash.{HashWrites}
use Rattle.ir_model.specs.Stores.{attribute_at, set_attribute, SameAttribute}

-- the keys are equal where their texts are
abbrev pub same_key : List ℕ → List ℕ → Bool
same_key = pointwise nat_eq

-- the order of the keys is that of their texts
abbrev pub key_order : List ℕ → List ℕ → Ordering
key_order = slice_cmp nat_cmp

-- the key is above the bound, where there is one
abbrev pub is_above : Option (List ℕ) → List ℕ → Bool
is_above None key = true
is_above (Some bound) key = is_lt (key_order bound key)

module _ {A : Type 0} where
  -- the attribute, where there is one that passes the test
  abbrev pub passing : (A → Bool) → Option A → Option A
  passing test None = None
  passing test (Some attr) = if test attr then Some attr else None

  -- the pairs where the attribute at this key, if there is one, is what the change makes of it
  abbrev pub with_changed : List (List ℕ × A) → List ℕ → (A → A) → List (List ℕ × A)
  with_changed pairs key change = option_map_or (λ attr. set_attribute pairs key (change attr)) (attribute_at pairs key) pairs

  -- the new pairs have the keys of the old ones, and equal attributes
  abbrev pub AreCopies : (A → A → Bool) → List (List ℕ × A) → List (List ℕ × A) → Type 0
  AreCopies same old new = AllZip (λ p q. (q.0 ≡ p.0) × (same q.1 p.1 ≡ true)) old new

  -- the pairs whose attribute isn't to be outlined, or all of them
  abbrev pub kept_pairs : (A → Bool) → Bool → List (List ℕ × A) → List (List ℕ × A)
  kept_pairs outlined all pairs = filter (λ p. all || not (outlined p.1)) pairs

  -- the attribute's kind implements outlined attributes, and the dialect says that it is to be outlined
  abbrev pub is_outlined : (A → ℕ) → (ℕ → ℕ → Bool) → (A → Bool) → A → Bool
  is_outlined kind_of impls outline attr = impls (kind_of attr) 4 && outline attr

  -- at each key of either, both have an attribute and the two are equal
  abbrev pub same_pairs : (A → A → Bool) → List (List ℕ × A) → List (List ℕ × A) → Bool
  same_pairs same d e = entries_eq same_key (λ p q. same p.1 q.1) d e

  -- each pair's key leads to an equal attribute in the other list
  abbrev pub IsWithin : (A → A → Bool) → List (List ℕ × A) → List (List ℕ × A) → Type 0
  IsWithin same d e = All (λ p. SameAttribute same (Some p.1) (attribute_at e p.0)) d

  -- the pairs by rising key, each with what is fed of its attribute
  abbrev pub by_key : (A → HashWrites) → List (List ℕ × A) → List (List ℕ × HashWrites)
  by_key input pairs = entries (from_entries {R = key_order} (map (λ p. (p.0, input p.1)) pairs))

  -- what a hash is fed: the number of pairs, and then the pairs by rising key, each as its key's text and its attribute
  abbrev pub dict_input : (A → HashWrites) → List (List ℕ × A) → HashWrites
  dict_input input pairs = fed.slice (λ p. fed.str p.0 ++ p.1) (by_key input pairs)

  -- the pairs have a key above the bound
  abbrev pub IsKeyAbove : Option (List ℕ) → List (List ℕ × A) → List ℕ → Type 0
  IsKeyAbove after pairs key = (is_some (attribute_at pairs key) ≡ true) × (is_above after key ≡ true)

  -- no key is above the bound, or this pair has the least of those that are
  abbrev pub IsNextPair : Option (List ℕ) → List (List ℕ × A) → Option (List ℕ × A) → Type 0
  IsNextPair after pairs None = (key : List ℕ) → IsKeyAbove after pairs key → ⊥
  IsNextPair after pairs (Some p) = (attribute_at pairs p.0 ≡ Some p.1) × (is_above after p.0 ≡ true) × ((key : List ℕ) → IsKeyAbove after pairs key → is_lt (key_order key p.0) ≡ false)

  -- the key is below that of the pair, where there is one
  abbrev pub is_below : List ℕ → Option (List ℕ × A) → Bool
  is_below key None = true
  is_below key (Some p) = is_lt (key_order key p.0)
