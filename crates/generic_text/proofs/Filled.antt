-- Lists of a block and of a region, with one more behind.
use Rattle.std.proofs.Common.{◌≡◌, ◌||◌, ℕ, true, false, Option, Some, None, IsSome, List, [], ◌∷◌, ◌++◌, length, arith, refl, ap}
use Rattle.std.specs.Option.{option_map}
use Rattle.std.specs.List.{list_any}
use Rattle.ir_model.specs.declared.ids.ArenaIndex.{ArenaIndex}
use Rattle.ir_model.specs.ContextIds.{context_ids, same_id}
use Rattle.ir_model.specs.Forest.{BlockRecord, Definition, Dialect, Forest, Operand, Successor, a_block, a_region, of_block}
use Rattle.ir_model.specs.Nesting.{IsLive, blocks_of, definitions_of, list_of, ops_of}
use Rattle.ir_model.specs.Changes.{new_op, on_block, on_ops, on_region, put}
use Rattle.ir_model.proofs.IdCases.{id_same}

-- a list that counts none is empty
pub none_counted : {A : Type 0} (xs : List A) → length xs ≡ 0 → xs ≡ []
none_counted [] is = refl
none_counted (x ∷ xs) is = absurd (omega (arith, is))

-- a list that counts one has an element
pub one_counted : {A : Type 0} (xs : List A) → length xs ≡ 1 → (x : A) × (xs ≡ x ∷ [])
one_counted [] is = absurd (omega (arith, is))
one_counted (x ∷ []) is = (x, refl)
one_counted (x ∷ y ∷ xs) is = absurd (omega (arith, is))

-- what is put under a key is found there
pub put_there : {B : Type 0} (key : ArenaIndex) (v : B) (m : ArenaIndex → Option B) → put same_id key v m key ≡ Some v
put_there key v m = let e : same_id key key ≡ true = id_same key in rw e

module _ {W : Dialect} where
  -- a region that was made with an operation has no blocks
  pub new_region_is_empty : (f : Forest context_ids W) (o : ArenaIndex) (loc : W.Loc) (kind : ℕ) (results : List (Definition context_ids W)) (operands : List (Operand context_ids)) (successors : List (Successor context_ids)) (regions : List ArenaIndex) (r : ArenaIndex)
      → regions ≡ r ∷ [] → blocks_of (new_op f o loc kind results operands successors regions) r ≡ []
  new_region_is_empty f o loc kind results operands successors regions r is = let e : list_any (λ s. same_id s r) regions ≡ true = rw is (ap (λ b. b || false) (id_same r)) in rw e

  -- a block that goes into an empty region is all that stands there
  pub only_block : (f : Forest context_ids W) (r b : ArenaIndex) → IsLive f (a_region r) → blocks_of f r ≡ [] → blocks_of (on_region f r (λ bs. bs ++ b ∷ [])) r ≡ b ∷ []
  only_block f r b live empty = let e : same_id r r ≡ true = id_same r in rw e (by (f.regions r) live empty)
    where
      by : (m : Option (List ArenaIndex)) → IsSome m → list_of (λ (bs : List ArenaIndex). bs) m ≡ [] → list_of (λ (bs : List ArenaIndex). bs) (option_map (λ bs. bs ++ b ∷ []) m) ≡ b ∷ []
      by None live is = absurd cc
      by (Some bs) live is = ap (λ (xs : List ArenaIndex). xs ++ b ∷ []) is

  -- an operation that goes to the back of a block stands behind the others
  pub one_behind : (f : Forest context_ids W) (b o : ArenaIndex) (xs : List ArenaIndex) → IsLive f (a_block b) → ops_of f b ≡ xs → ops_of (on_block f b (on_ops (λ os. os ++ o ∷ []))) b ≡ xs ++ o ∷ []
  one_behind f b o xs live is = let e : same_id b b ≡ true = id_same b in rw e (by (f.blocks b) live is)
    where
      by : (m : Option (BlockRecord context_ids W)) → IsSome m → list_of (λ (r : BlockRecord context_ids W). r.ops) m ≡ xs → list_of (λ (r : BlockRecord context_ids W). r.ops) (option_map (on_ops (λ os. os ++ o ∷ [])) m) ≡ xs ++ o ∷ []
      by None live is = absurd cc
      by (Some r) live is = ap (λ (ys : List ArenaIndex). ys ++ o ∷ []) is

  -- the block's arguments stay
  pub arguments_stay : (f : Forest context_ids W) (b o : ArenaIndex) → definitions_of (on_block f b (on_ops (λ os. os ++ o ∷ []))) (of_block b) ≡ definitions_of f (of_block b)
  arguments_stay f b o = let e : same_id b b ≡ true = id_same b in rw e (by (f.blocks b))
    where
      by : (m : Option (BlockRecord context_ids W)) → list_of (λ (r : BlockRecord context_ids W). r.arguments) (option_map (on_ops (λ os. os ++ o ∷ [])) m) ≡ list_of (λ (r : BlockRecord context_ids W). r.arguments) m
      by None = refl
      by (Some r) = refl
