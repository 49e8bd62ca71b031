-- What is told of the operation that gives a value, and whether it stands in a block.
use mathlib.Core.Path.{◌≡◌, refl, sym, ap, ◌∙◌, subst}
use Rattle.std.proofs.Common.{◌⊎◌, inl, inr, Bool, true, false, ◌||◌, Some, None, List, [], ◌∷◌, map}
use Rattle.std.specs.Prelude.{◌↔◌, IsTrue}
use Rattle.std.specs.List.{list_any}
use Rattle.ir_model.specs.declared.ids.ArenaIndex.{ArenaIndex}
use Rattle.ir_model.specs.ContextIds.{context_ids, same_id}
use Rattle.ir_model.specs.Forest.{Dialect, Forest, Value, Definer, of_op, Entity, an_op, a_block}
use Rattle.ir_model.specs.Nesting.{In, Nested, children, ops_of}
use Rattle.ir_model.specs.Parent.{IsParent}
use Rattle.ir_model.proofs.Nests.{In-map, In-map_back}
use Rattle.ir_model.proofs.TwoRuns.{lawful}
use Rattle.ir_core_records.specs.declared.record.Definer.{Definer as DefinerIndex}
use Rattle.ir_core_records.specs.declared.record.Definer.TheVariants.{Op, Block}
use Rattle.ir_core_records.specs.Meaning.{definer_of}
use Rattle.ir_core_records.specs.Values.{op_of}

-- what a look-up among the keys says
pub any_in : (x : ArenaIndex) (xs : List ArenaIndex) → list_any (same_id x) xs ≡ true → In x xs
any_in x [] e = absurd (let z : false ≡ true = e in cc)
any_in x (y ∷ ys) e = by (any_in x ys) (same_id x y) refl e
  where
    by : (list_any (same_id x) ys ≡ true → In x ys) → (b : Bool) → same_id x y ≡ b → (b || list_any (same_id x) ys) ≡ true → In x (y ∷ ys)
    by more true s h = inl ((lawful.ops x y).0 s)
    by more false s h = inr (more h)

pub in_any : (x : ArenaIndex) (xs : List ArenaIndex) → In x xs → list_any (same_id x) xs ≡ true
in_any x [] h = absurd h
in_any x (y ∷ ys) (inl e) = ap (λ b. b || list_any (same_id x) ys) ((lawful.ops x y).1 e)
in_any x (y ∷ ys) (inr h) = by (same_id x y) (in_any x ys h)
  where
    by : (b : Bool) → list_any (same_id x) ys ≡ true → (b || list_any (same_id x) ys) ≡ true
    by true e = refl
    by false e = e

of_op_same : (o p : ArenaIndex) → ◌≡◌ {A = Definer context_ids} (of_op o) (of_op p) → o ≡ p
of_op_same o p e = cc

-- what is told of the definer of a value
pub gives_none : (d : DefinerIndex) → op_of d ≡ None → (o : ArenaIndex) → definer_of d ≡ of_op o → ⊥
gives_none (Op p) told o e = absurd cc
gives_none (Block p) told o e = absurd cc

pub gives_op : (d : DefinerIndex) (o : ArenaIndex) → op_of d ≡ Some o → definer_of d ≡ of_op o
gives_op (Op p) o told = (let e : p ≡ o = some_op p o told in ap of_op e)
  where
    some_op : (x y : ArenaIndex) → Some x ≡ Some y → x ≡ y
    some_op x y e = cc
gives_op (Block p) o told = absurd cc

module _ {W : Dialect} (f : Forest context_ids W) (b : ArenaIndex) where
  -- where an operation stands
  pub stands_where : Nested f → {P : Type 0} (index : P → ArenaIndex) (o : ArenaIndex) (parent : P) → IsParent f (an_op o) (Some (a_block (index parent))) → (answer : Bool) → IsTrue answer ↔ (index parent ≡ b) → IsTrue answer ↔ In o (ops_of f b)
  stands_where nested index o parent told answer same = (
    λ t. subst (λ c. In o (ops_of f c)) (same.0 t) listed,
    λ h. same.1 (one_block (nested.one_list (an_op o) (a_block (index parent)) (a_block b) told (In-map an_op o (ops_of f b) h))),
  )
    where
      op_back : (x y : ArenaIndex) → ◌≡◌ {A = Entity context_ids} (an_op x) (an_op y) → x ≡ y
      op_back x y e = cc

      one_block : {x y : ArenaIndex} → ◌≡◌ {A = Entity context_ids} (a_block x) (a_block y) → x ≡ y
      one_block e = cc

      listed : In o (ops_of f (index parent))
      listed = let k = In-map_back an_op (an_op o) (ops_of f (index parent)) told in subst (λ z. In z (ops_of f (index parent))) (sym (op_back o k.0 k.2)) k.1

  pub stands_nowhere : (o : ArenaIndex) → IsParent f (an_op o) None → IsTrue false ↔ In o (ops_of f b)
  stands_nowhere o told = (λ t. absurd (let z : false ≡ true = t in cc), λ h. absurd (told (a_block b) (In-map an_op o (ops_of f b) h)))

  -- values of an operation of the block of which Q holds
  module _ (Q : ArenaIndex → Type 0) where
    abbrev IsGiven : Value context_ids → Type 0
    IsGiven v = (o : ArenaIndex) × (v.definer ≡ of_op o) × In o (ops_of f b) × Q o

    -- a value that no operation gives
    pub given_by_none : (v : Value context_ids) → ((o : ArenaIndex) → v.definer ≡ of_op o → ⊥) → IsTrue false ↔ IsGiven v
    given_by_none v none = (λ t. absurd (let z : false ≡ true = t in cc), λ u. absurd (none u.0 u.1))

    -- one of an operation of which Q doesn't hold
    pub given_by_not : (v : Value context_ids) (o : ArenaIndex) → v.definer ≡ of_op o → (Q o → ⊥) → IsTrue false ↔ IsGiven v
    given_by_not v o given fails = (λ t. absurd (let z : false ≡ true = t in cc), λ u. absurd (fails (subst Q (of_op_same u.0 o (sym u.1 ∙ given)) u.3)))

    -- one of an operation of which Q holds
    pub given_by_one : (v : Value context_ids) (o : ArenaIndex) → v.definer ≡ of_op o → Q o → (answer : Bool) → IsTrue answer ↔ In o (ops_of f b) → IsTrue answer ↔ IsGiven v
    given_by_one v o given holds answer stands = (
      λ t. (o, given, stands.0 t, holds),
      λ u. stands.1 (subst (λ z. In z (ops_of f b)) (sym (of_op_same o u.0 (sym given ∙ u.1))) u.2),
    )
