-- What the answers of queries say of lists: what something stands in, and what a store has.
use mathlib.Core.Path.{◌≡◌, refl, sym, ap, ◌∙◌, subst}
use Rattle.std.proofs.Common.{ℕ, ◌+◌, ◌<◌, ◌↔◌, ◌⊎◌, inl, inr, Bool, true, false, not, cond, ◌||◌, nat_lt, Option, Some, None, List, [], ◌∷◌, map, length, is_some, position, arith}
use Rattle.std.proofs.lemmas.Bool.{false≢true, ltb_from_iff}
use Rattle.std.specs.Prelude.{IsTrue}
use Rattle.std.specs.List.{list_any, position_or_len}
use Rattle.std.specs.Option.{option_map}
use Rattle.ir_model.specs.Ids.{Ids}
use Rattle.ir_model.specs.Forest.{Dialect, Entity, an_op, a_block, a_region, Forest}
use Rattle.ir_model.specs.Nesting.{In, IsLive, Nested, children, blocks_of, ops_of}
use Rattle.ir_model.specs.Parent.{IsParent}
use Rattle.ir_model.proofs.Nests.{In-map, In-map_back}
use Rattle.ir_run_unreached.specs.Kept.{StandsInMarked}
use Rattle.ir_run_unreached.proofs.Marking.{any_in, in_any}

module _ {N : Ids} {W : Dialect} (f : Forest N W) where
  block_listed : (x : Entity N) (b : N.Block) (r : N.Region) → x ≡ a_block b → In x (children f (a_region r)) → In b (blocks_of f r)
  block_listed x b r e h = let at = In-map_back a_block x (blocks_of f r) h in subst (λ c. In c (blocks_of f r)) (one x at.0 b at.2 e) at.1
    where
      one : (y : Entity N) (c d : N.Block) → y ≡ a_block c → y ≡ a_block d → c ≡ d
      one y c d a k = let z : a_block c ≡ a_block d = sym a ∙ k in cc

  op_listed : (x : Entity N) (o : N.Op) (b : N.Block) → x ≡ an_op o → In x (children f (a_block b)) → In o (ops_of f b)
  op_listed x o b e h = let at = In-map_back an_op x (ops_of f b) h in subst (λ c. In c (ops_of f b)) (one x at.0 o at.2 e) at.1
    where
      one : (y : Entity N) (c d : N.Op) → y ≡ an_op c → y ≡ an_op d → c ≡ d
      one y c d a k = let z : an_op c ≡ an_op d = sym a ∙ k in cc

  -- a block whose parent is this region stands in no other
  pub parent_tells : Nested f → (b : N.Block) (p r : N.Region) → IsParent f (a_block b) (Some (a_region p)) → (p ≡ r) ↔ In b (blocks_of f r)
  parent_tells nested b p r is = (
    λ e. block_listed (a_block b) b r refl (subst (λ q. In (a_block b) (children f (a_region q))) e is),
    λ h. one (a_region r) r p refl (nested.one_list (a_block b) (a_region r) (a_region p) (In-map a_block b (blocks_of f r) h) is),
  )
    where
      one : (y : Entity N) (c d : N.Region) → y ≡ a_region c → y ≡ a_region d → d ≡ c
      one y c d a k = let z : a_region d ≡ a_region c = sym k ∙ a in cc

  pub no_parent_tells : (b : N.Block) (r : N.Region) → IsParent f (a_block b) None → In b (blocks_of f r) → ⊥
  no_parent_tells b r is h = is (a_region r) (In-map a_block b (blocks_of f r) h)

  -- an operation whose block is marked stands in a marked one
  pub block_tells : Nested f → (marked : List N.Block) (o : N.Op) (p : N.Block) → IsParent f (an_op o) (Some (a_block p)) → In p marked ↔ StandsInMarked f marked o
  block_tells nested marked o p is = (
    λ h. (p, h, op_listed (an_op o) o p refl is),
    λ s. subst (λ c. In c marked) (one (a_block s.0) s.0 p refl (nested.one_list (an_op o) (a_block s.0) (a_block p) (In-map an_op o (ops_of f s.0) s.2) is)) s.1,
  )
    where
      one : (y : Entity N) (c d : N.Block) → y ≡ a_block c → y ≡ a_block d → c ≡ d
      one y c d a k = let z : a_block c ≡ a_block d = sym a ∙ k in cc

  pub no_block_tells : (marked : List N.Block) (o : N.Op) → IsParent f (an_op o) None → StandsInMarked f marked o → ⊥
  no_block_tells marked o is s = is (a_block s.0) (In-map an_op o (ops_of f s.0) s.2)

module _ {A : Type 0} (eq : A → A → Bool) (same : (x y : A) → IsTrue (eq x y) ↔ (x ≡ y)) where
  found_within : (p : A → Bool) (xs : List A) → list_any p xs ≡ true → position_or_len p xs < length xs
  found_within p [] h = absurd (false≢true h)
  found_within p (x ∷ xs) h = by (p x) refl (found_within p xs)
    where
      by : (b : Bool) → p x ≡ b → (list_any p xs ≡ true → position_or_len p xs < length xs) → position_or_len p (x ∷ xs) < length (x ∷ xs)
      by true e rest = omega (arith, ap (λ b. cond (not b) (1 + position_or_len p xs) 0) e)
      by false e rest = omega (arith, ap (λ b. cond (not b) (1 + position_or_len p xs) 0) e, rest (sym (ap (λ b. b || list_any p xs) e) ∙ h))

  within_found : (p : A → Bool) (xs : List A) → position_or_len p xs < length xs → list_any p xs ≡ true
  within_found p [] h = absurd (omega (arith, h))
  within_found p (x ∷ xs) h = by (p x) refl (within_found p xs)
    where
      by : (b : Bool) → p x ≡ b → (position_or_len p xs < length xs → list_any p xs ≡ true) → list_any p (x ∷ xs) ≡ true
      by true e rest = ap (λ b. b || list_any p xs) e
      by false e rest = ap (λ b. b || list_any p xs) e ∙ rest (omega (arith, h, ap (λ b. cond (not b) (1 + position_or_len p xs) 0) e))

  -- a place is found of what is in the list
  found_any : (p : A → Bool) (xs : List A) → is_some (position p xs) ≡ list_any p xs
  found_any p xs = by (nat_lt (position_or_len p xs) (length xs)) ∙ sym (ltb_from_iff (found_within p xs, within_found p xs))
    where
      by : (b : Bool) → is_some (cond b (Some (position_or_len p xs)) None) ≡ b
      by true = refl
      by false = refl

  pub found_in : (x : A) (xs : List A) → IsTrue (is_some (position (λ k. eq k x) xs)) ↔ In x xs
  found_in x xs = (λ h. any_in eq same x xs (sym (found_any (λ k. eq k x) xs) ∙ h), λ h. found_any (λ k. eq k x) xs ∙ in_any eq same x xs h)
