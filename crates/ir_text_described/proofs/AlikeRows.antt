-- Which operations of small forests are alike, and which are not.
use Rattle.std.proofs.Common.{◌≡◌, ℕ, ◌<◌, true, List, [], ◌∷◌, map, length, Option, Some, refl, sym, ap, ◌∙◌, subst, subst₂, inl, inr, arith}
use Rattle.std.specs.List.{AllZip}
use Rattle.ir_model.specs.Forest.{of_block, Entity, an_op, a_block, a_region, Forest, Value}
use Rattle.ir_model.specs.Nesting.{In, children}
use Rattle.ir_model.specs.SmallForests.{Small, n0, n1, n2, n3, n5, small_ids, result, operand, successor}
use Rattle.ir_text_described.specs.Alike.{AtOnePlace, Correspond, outermost, inner, ValuesCorrespond, OperationsAlike, BlocksAlike, AreAlike, entries_of, type_texts}
use Rattle.ir_text_described.specs.AlikeRows.{spoken, spoken_words, Op, Block, given, giver, user, first, second, around, both, IsAlike, renamed, AlikeRows}

some_same : {A : Type 0} (x y : A) → Some x ≡ Some y → x ≡ y
some_same x y e = cc

-- ---- what is refused

module _ (giving using : Op) (block : Block) where
  abbrev Was : Forest small_ids spoken
  Was = around giver user first both

  abbrev Is : Forest small_ids spoken
  Is = around giving using block both

  abbrev Corresponds : Entity small_ids → Entity small_ids → Type 0
  Corresponds x y = Correspond Was Is (n0 ∷ []) (n0 ∷ []) x y

  roots : Corresponds (an_op n0) (an_op n0)
  roots = outermost (inl refl)

  regions : Corresponds (a_region n0) (a_region n0)
  regions = inner roots (inl refl)

  firsts : Corresponds (a_block n0) (a_block n0)
  firsts = inner regions (inl refl)

  abbrev Values : Value small_ids → Value small_ids → Type 0
  Values v w = ValuesCorrespond Was Is (n0 ∷ []) (n0 ∷ []) v w

  -- what is alike in two records
  record Fits (one other : Op) : Type 0 where
    names : spoken_words.operation_name one.kind ≡ spoken_words.operation_name other.kind
    result_types : type_texts spoken_words one.results ≡ type_texts spoken_words other.results
    operands : AllZip (λ a b. Values a.value b.value) one.operands other.operands
    successors : AllZip (λ a b. Corresponds (a_block a.block) (a_block b.block)) one.successors other.successors
    properties : spoken_words.properties one.attributes ≡ spoken_words.properties other.attributes
    entries : entries_of spoken_words one.attributes ≡ entries_of spoken_words other.attributes
    locations : spoken_words.location one.loc ≡ spoken_words.location other.loc

  fits : (o p : Small) (one other : Op) → Was.ops o ≡ Some one → Is.ops p ≡ Some other → OperationsAlike Was Is (n0 ∷ []) (n0 ∷ []) spoken_words spoken_words true o p → Fits one other
  fits o p one other is is' k =
      let e : k.one ≡ one = some_same k.one one (sym k.one_is ∙ is) in
      let e' : k.other ≡ other = some_same k.other other (sym k.other_is ∙ is') in
      subst₂ Fits e e' (record { names = k.names; result_types = k.result_types; operands = k.operands; successors = k.successors; properties = k.properties; entries = k.entries; locations = k.locations refl })

  -- where the first operation of the block is the giver, and the second the user
  module _ (ops : block.ops ≡ n1 ∷ n2 ∷ []) (alike : IsAlike Is) where
    inside_first : (a b : Small) → AtOnePlace {A = Entity small_ids} {B = Entity small_ids} (an_op a) (an_op b) (an_op n1 ∷ an_op n2 ∷ []) (an_op n1 ∷ an_op n2 ∷ []) → Corresponds (an_op a) (an_op b)
    inside_first a b at = inner firsts (subst (λ os. AtOnePlace {A = Entity small_ids} {B = Entity small_ids} (an_op a) (an_op b) (an_op n1 ∷ an_op n2 ∷ []) (map an_op os)) (sym ops) at)

    givers : Fits giver giving
    givers = fits n1 n1 giver giving refl refl (alike.each_operation n1 n1 (inside_first n1 n1 (inl refl)))

    users : Fits user using
    users = fits n2 n2 user using refl refl (alike.each_operation n2 n2 (inside_first n2 n2 (inr (inl refl))))

-- where both forests have the same things inside one another, what corresponds is one
diagonal : {A : Type 0} (xs : List A) (a b : A) → AtOnePlace a b xs xs → a ≡ b
diagonal [] a b at = absurd at
diagonal (x ∷ xs) a b (inl e) = ap (λ p. p.0) e ∙ sym (ap (λ p. p.1) e)
diagonal (x ∷ xs) a b (inr at) = diagonal xs a b at

same_shape : (f g : Forest small_ids spoken) → ((x : Entity small_ids) → children g x ≡ children f x) → {x y : Entity small_ids} → Correspond f g (n0 ∷ []) (n0 ∷ []) x y → x ≡ y
same_shape f g shape (outermost {o = o} {p = p} at) = ap an_op (diagonal (n0 ∷ []) o p at)
same_shape f g shape (inner {x = x} {a = a} {y = y} {b = b} c at) =
    let same : y ≡ x = sym (same_shape f g shape c) in
    diagonal (children f x) a b (subst (λ zs. AtOnePlace a b (children f x) zs) (ap (children g) same ∙ shape x) at)

other_name : IsAlike (around giver (record user { kind = 1 }) first both) → ⊥
other_name a = let e : ◌≡◌ {A = List ℕ} (0 ∷ []) (1 ∷ []) = (users giver (record user { kind = 1 }) first refl a).names in let none : ⊥ = cc in none

abbrev Texts : Type 0
Texts = List (List ℕ)

abbrev Entry : Type 0
Entry = List ℕ × Option (List ℕ)

abbrev Entries : Type 0
Entries = List Entry

-- the key and the value of the second entry, and the key of the first
second_same : (a b c d : Entry) → ◌≡◌ {A = Entries} (a ∷ b ∷ []) (c ∷ d ∷ []) → (a ≡ c) × (b ≡ d)
second_same a b c d e = let one : a ≡ c = cc in let other : b ≡ d = cc in (one, other)

other_result_type : IsAlike (around (record giver { results = given n0 0 ∷ given n1 0 ∷ [] }) user first both) → ⊥
other_result_type a = let e : ◌≡◌ {A = Texts} ((0 ∷ []) ∷ (1 ∷ []) ∷ []) ((0 ∷ []) ∷ (0 ∷ []) ∷ []) = (givers (record giver { results = given n0 0 ∷ given n1 0 ∷ [] }) user first refl a).result_types in let none : ⊥ = cc in none

results_turned : IsAlike (around (record giver { results = given n1 1 ∷ given n0 0 ∷ [] }) user first both) → ⊥
results_turned a = let e : ◌≡◌ {A = Texts} ((0 ∷ []) ∷ (1 ∷ []) ∷ []) ((1 ∷ []) ∷ (0 ∷ []) ∷ []) = (givers (record giver { results = given n1 1 ∷ given n0 0 ∷ [] }) user first refl a).result_types in let none : ⊥ = cc in none

more_results : IsAlike (around (record giver { results = given n0 0 ∷ given n1 1 ∷ given n3 0 ∷ [] }) user first both) → ⊥
more_results a = let e : ◌≡◌ {A = Texts} ((0 ∷ []) ∷ (1 ∷ []) ∷ []) ((0 ∷ []) ∷ (1 ∷ []) ∷ (0 ∷ []) ∷ []) = (givers (record giver { results = given n0 0 ∷ given n1 1 ∷ given n3 0 ∷ [] }) user first refl a).result_types in let none : ⊥ = cc in none

not_beside : AtOnePlace n0 n1 (n0 ∷ n1 ∷ []) (n0 ∷ n1 ∷ []) → ⊥
not_beside (inl e) = let differ : n1 ≡ n0 = ap (λ p. p.1) e in cc
not_beside (inr (inl e)) = let differ : n0 ≡ n1 = ap (λ p. p.0) e in cc
not_beside (inr (inr none)) = none

operands_turned : IsAlike (around giver (record user { operands = operand n0 (result n1 n1) ∷ operand n1 (result n1 n0) ∷ [] }) first both) → ⊥
operands_turned a = not_beside ((users giver (record user { operands = operand n0 (result n1 n1) ∷ operand n1 (result n1 n0) ∷ [] }) first refl a).operands.0.places)

abbrev argument_named : Op
argument_named = record user { operands = operand n0 (record { definer = of_block n0; number = n2 }) ∷ operand n1 (result n1 n1) ∷ [] }

argument_shape : (x : Entity small_ids) → children (around giver argument_named first both) x ≡ children (around giver user first both) x
argument_shape (an_op n0) = refl
argument_shape (a_block n0) = refl
argument_shape (a_region n0) = refl
argument_shape _ = refl

operand_of_another : IsAlike (around giver argument_named first both) → ⊥
operand_of_another a =
    let e : ◌≡◌ {A = Entity small_ids} (an_op n1) (a_block n0) = same_shape (around giver user first both) (around giver argument_named first both) argument_shape ((users giver argument_named first refl a).operands.0.definers) in
    let none : ⊥ = cc in none

fewer_operands : IsAlike (around giver (record user { operands = operand n0 (result n1 n0) ∷ [] }) first both) → ⊥
fewer_operands a = (users giver (record user { operands = operand n0 (result n1 n0) ∷ [] }) first refl a).operands.1

abbrev branches_back : Op
branches_back = record user { successors = successor n2 n0 ∷ [] }

back_shape : (x : Entity small_ids) → children (around giver branches_back first both) x ≡ children (around giver user first both) x
back_shape (an_op n0) = refl
back_shape (a_block n0) = refl
back_shape (a_region n0) = refl
back_shape _ = refl

other_successor : IsAlike (around giver branches_back first both) → ⊥
other_successor a =
    let e : ◌≡◌ {A = Entity small_ids} (a_block n1) (a_block n0) = same_shape (around giver user first both) (around giver branches_back first both) back_shape ((users giver branches_back first refl a).successors.0) in
    let none : ⊥ = cc in none

other_properties : IsAlike (around giver (record user { attributes = (1 ∷ [], 5) ∷ (2 ∷ [], 6) ∷ [] }) first both) → ⊥
other_properties a = let e : ◌≡◌ {A = Option (List ℕ)} (Some (3 ∷ [])) (Some (2 ∷ [])) = (users giver (record user { attributes = (1 ∷ [], 5) ∷ (2 ∷ [], 6) ∷ [] }) first refl a).properties in let none : ⊥ = cc in none

other_value : IsAlike (around giver (record user { attributes = (1 ∷ [], 5) ∷ (2 ∷ [], 7) ∷ (3 ∷ [], 0) ∷ [] }) first both) → ⊥
other_value a = let e : ◌≡◌ {A = Option (List ℕ)} (Some (6 ∷ [])) (Some (7 ∷ [])) = ap (λ z. z.1) (second_same (1 ∷ [], Some (5 ∷ [])) (2 ∷ [], Some (6 ∷ [])) (1 ∷ [], Some (5 ∷ [])) (2 ∷ [], Some (7 ∷ [])) (users giver (record user { attributes = (1 ∷ [], 5) ∷ (2 ∷ [], 7) ∷ (3 ∷ [], 0) ∷ [] }) first refl a).entries).1 in let none : ⊥ = cc in none

other_key : IsAlike (around giver (record user { attributes = (1 ∷ [], 5) ∷ (4 ∷ [], 6) ∷ (3 ∷ [], 0) ∷ [] }) first both) → ⊥
other_key a = let e : ◌≡◌ {A = List ℕ} (2 ∷ []) (4 ∷ []) = ap (λ z. z.0) (second_same (1 ∷ [], Some (5 ∷ [])) (2 ∷ [], Some (6 ∷ [])) (1 ∷ [], Some (5 ∷ [])) (4 ∷ [], Some (6 ∷ [])) (users giver (record user { attributes = (1 ∷ [], 5) ∷ (4 ∷ [], 6) ∷ (3 ∷ [], 0) ∷ [] }) first refl a).entries).1 in let none : ⊥ = cc in none

entries_turned : IsAlike (around giver (record user { attributes = (2 ∷ [], 6) ∷ (1 ∷ [], 5) ∷ (3 ∷ [], 0) ∷ [] }) first both) → ⊥
entries_turned a = let e : ◌≡◌ {A = List ℕ} (1 ∷ []) (2 ∷ []) = ap (λ z. z.0) (second_same (1 ∷ [], Some (5 ∷ [])) (2 ∷ [], Some (6 ∷ [])) (2 ∷ [], Some (6 ∷ [])) (1 ∷ [], Some (5 ∷ [])) (users giver (record user { attributes = (2 ∷ [], 6) ∷ (1 ∷ [], 5) ∷ (3 ∷ [], 0) ∷ [] }) first refl a).entries).0 in let none : ⊥ = cc in none

other_location : IsAlike (around giver (record user { loc = 9 }) first both) → ⊥
other_location a = let e : ◌≡◌ {A = Option (List ℕ)} (Some (3 ∷ [])) (Some (9 ∷ [])) = (users giver (record user { loc = 9 }) first refl a).locations in let none : ⊥ = cc in none

-- ---- blocks

other_argument_type : IsAlike (around giver user (record first { arguments = given n2 1 ∷ [] }) both) → ⊥
other_argument_type a = let e : ◌≡◌ {A = Texts} ((0 ∷ []) ∷ []) ((1 ∷ []) ∷ []) = (a.each_block n0 n0 (firsts giver user (record first { arguments = given n2 1 ∷ [] }))).argument_types in let none : ⊥ = cc in none

fewer_arguments : IsAlike (around giver user (record first { arguments = [] }) both) → ⊥
fewer_arguments a = let e : ◌≡◌ {A = Texts} ((0 ∷ []) ∷ []) [] = (a.each_block n0 n0 (firsts giver user (record first { arguments = [] }))).argument_types in let none : ⊥ = cc in none

other_argument_location : IsAlike (around giver user (record first { loc = 9 }) both) → ⊥
other_argument_location a = let e : ◌≡◌ {A = Option (List ℕ)} (Some (4 ∷ 0 ∷ [])) (Some (9 ∷ 0 ∷ [])) = (a.each_block n0 n0 (firsts giver user (record first { loc = 9 }))).argument_locations first (record first { loc = 9 }) refl refl refl 0 (omega arith) in let none : ⊥ = cc in none

operations_turned : IsAlike (around giver user (record first { ops = n2 ∷ n1 ∷ [] }) both) → ⊥
operations_turned a =
    let block = record first { ops = n2 ∷ n1 ∷ [] } in
    let k = fits giver user (record first { ops = n2 ∷ n1 ∷ [] }) n1 n2 giver user refl refl (a.each_operation n1 n2 (inner (firsts giver user (record first { ops = n2 ∷ n1 ∷ [] })) (inl refl))) in
    let e : ◌≡◌ {A = List ℕ} (1 ∷ []) (0 ∷ []) = k.names in
    let none : ⊥ = cc in none

fewer_operations : IsAlike (around giver user (record first { ops = n1 ∷ [] }) both) → ⊥
fewer_operations a = let e : ◌≡◌ {A = ℕ} 2 1 = a.as_many_inside (a_block n0) (a_block n0) (firsts giver user (record first { ops = n1 ∷ [] })) in absurd (omega arith)

fewer_blocks : IsAlike (around giver user first (n0 ∷ [])) → ⊥
fewer_blocks a = let e : ◌≡◌ {A = ℕ} 2 1 = a.as_many_inside (a_region n0) (a_region n0) (inner (outermost (inl refl)) (inl refl)) in absurd (omega arith)

another_beside : AreAlike (around giver user first both) (around giver user first both) (n0 ∷ []) (n0 ∷ n0 ∷ []) spoken_words spoken_words true → ⊥
another_beside a = let e : ◌≡◌ {A = ℕ} 1 2 = a.as_many in absurd (omega arith)

-- ---- what is alike

abbrev F : Forest small_ids spoken
F = around giver user first both

abbrev Corresponding : Entity small_ids → Entity small_ids → Type 0
Corresponding x y = Correspond F renamed (n0 ∷ []) (n1 ∷ []) x y

-- all that corresponds
abbrev pairs : List (Entity small_ids × Entity small_ids)
pairs = (an_op n0, an_op n1) ∷ (a_region n0, a_region n1) ∷ (a_block n0, a_block n1) ∷ (a_block n1, a_block n0) ∷ (an_op n1, an_op n2) ∷ (an_op n2, an_op n0) ∷ []

children_of : (x y x' y' a b : Entity small_ids) → ◌≡◌ {A = Entity small_ids × Entity small_ids} (x, y) (x', y') → AtOnePlace a b (children F x) (children renamed y) → AtOnePlace a b (children F x') (children renamed y')
children_of x y x' y' a b e at = subst (λ z. AtOnePlace a b (children F z.0) (children renamed z.1)) e at

child_pairs : (x y a b : Entity small_ids) → In (x, y) pairs → AtOnePlace a b (children F x) (children renamed y) → In (a, b) pairs
child_pairs x y a b (inl e) at = elim (children_of x y (an_op n0) (an_op n1) a b e at) [ inl h ↦ inr (inl h) | inr none ↦ absurd none ]
child_pairs x y a b (inr (inl e)) at = elim (children_of x y (a_region n0) (a_region n1) a b e at) [ inl h ↦ inr (inr (inl h)) | inr (inl h) ↦ inr (inr (inr (inl h))) | inr (inr none) ↦ absurd none ]
child_pairs x y a b (inr (inr (inl e))) at = elim (children_of x y (a_block n0) (a_block n1) a b e at) [ inl h ↦ inr (inr (inr (inr (inl h)))) | inr (inl h) ↦ inr (inr (inr (inr (inr (inl h))))) | inr (inr none) ↦ absurd none ]
child_pairs x y a b (inr (inr (inr (inl e)))) at = absurd (children_of x y (a_block n1) (a_block n0) a b e at)
child_pairs x y a b (inr (inr (inr (inr (inl e))))) at = absurd (children_of x y (an_op n1) (an_op n2) a b e at)
child_pairs x y a b (inr (inr (inr (inr (inr (inl e)))))) at = absurd (children_of x y (an_op n2) (an_op n0) a b e at)
child_pairs x y a b (inr (inr (inr (inr (inr (inr none)))))) at = absurd none

all_pairs : {x y : Entity small_ids} → Corresponding x y → In (x, y) pairs
all_pairs (outermost (inl e)) = inl (ap (λ z. (an_op z.0, an_op z.1)) e)
all_pairs (outermost (inr none)) = absurd none
all_pairs (inner {x = x} {a = a} {y = y} {b = b} c at) = child_pairs x y a b (all_pairs c) at

root_pair : Corresponding (an_op n0) (an_op n1)
root_pair = outermost (inl refl)

region_pair : Corresponding (a_region n0) (a_region n1)
region_pair = inner root_pair (inl refl)

first_pair : Corresponding (a_block n0) (a_block n1)
first_pair = inner region_pair (inl refl)

second_pair : Corresponding (a_block n1) (a_block n0)
second_pair = inner region_pair (inr (inl refl))

giver_pair : Corresponding (an_op n1) (an_op n2)
giver_pair = inner first_pair (inl refl)

abbrev OpsAlike : Small → Small → Type 0
OpsAlike o p = OperationsAlike F renamed (n0 ∷ []) (n1 ∷ []) spoken_words spoken_words true o p

abbrev BlocksAre : Small → Small → Type 0
BlocksAre b c = BlocksAlike F renamed (n0 ∷ []) (n1 ∷ []) spoken_words spoken_words true b c

roots_alike : OpsAlike n0 n1
roots_alike = record { one = _; other = _; one_is = refl; other_is = refl; names = refl; result_types = refl; operands = tt; successors = tt; properties = refl; entries = refl; locations = λ told. refl }

givers_alike : OpsAlike n1 n2
givers_alike = record { one = _; other = _; one_is = refl; other_is = refl; names = refl; result_types = refl; operands = tt; successors = tt; properties = refl; entries = refl; locations = λ told. refl }

users_alike : OpsAlike n2 n0
users_alike = record {
  one = _;
  other = _;
  one_is = refl;
  other_is = refl;
  names = refl;
  result_types = refl;
  operands = (record { definers = giver_pair; places = inl refl }, (record { definers = giver_pair; places = inr (inl refl) }, tt));
  successors = (second_pair, tt);
  properties = refl;
  entries = refl;
  locations = λ told. refl;
}

firsts_alike : BlocksAre n0 n1
firsts_alike = record { argument_types = refl; argument_locations = λ q r is is' told k lt. first_locations q r is is' k lt }
  where
    first_locations : (q r : Block) → F.blocks n0 ≡ Some q → renamed.blocks n1 ≡ Some r → (k : ℕ) → k < length q.arguments → spoken_words.argument_location q.loc k ≡ spoken_words.argument_location r.loc k
    first_locations q r is is' k lt =
        let one : first ≡ q = some_same first q is in
        let other : record first { arguments = given n0 0 ∷ []; ops = n2 ∷ n0 ∷ [] } ≡ r = some_same (record first { arguments = given n0 0 ∷ []; ops = n2 ∷ n0 ∷ [] }) r is' in
        subst₂ (λ x y. spoken_words.argument_location x.loc k ≡ spoken_words.argument_location y.loc k) one other refl

seconds_alike : BlocksAre n1 n0
seconds_alike = record { argument_types = refl; argument_locations = λ q r is is' told k lt. second_locations q r is is' k lt }
  where
    second_locations : (q r : Block) → F.blocks n1 ≡ Some q → renamed.blocks n0 ≡ Some r → (k : ℕ) → k < length q.arguments → spoken_words.argument_location q.loc k ≡ spoken_words.argument_location r.loc k
    second_locations q r is is' k lt =
        let one : second ≡ q = some_same second q is in
        let other : record second { label = Some (8 ∷ []) } ≡ r = some_same (record second { label = Some (8 ∷ []) }) r is' in
        subst₂ (λ x y. spoken_words.argument_location x.loc k ≡ spoken_words.argument_location y.loc k) one other refl

-- the names of operations and of blocks that are pairs of these
op_of : Entity small_ids → Small
op_of (an_op o) = o
op_of (a_block b) = n5
op_of (a_region g) = n5

block_of : Entity small_ids → Small
block_of (an_op o) = n5
block_of (a_block b) = b
block_of (a_region g) = n5

abbrev Pair : Type 0
Pair = Entity small_ids × Entity small_ids

ops_alike : (o p : Small) → In (an_op o, an_op p) pairs → OpsAlike o p
unfolding op_of
ops_alike o p (inl e) = subst₂ OpsAlike (sym (ap (λ (z : Pair). op_of z.0) e)) (sym (ap (λ (z : Pair). op_of z.1) e)) roots_alike
ops_alike o p (inr (inl e)) = let h : ◌≡◌ {A = Entity small_ids} (an_op o) (a_region n0) = ap (λ (z : Pair). z.0) e in let none : ⊥ = cc in absurd none
ops_alike o p (inr (inr (inl e))) = let h : ◌≡◌ {A = Entity small_ids} (an_op o) (a_block n0) = ap (λ (z : Pair). z.0) e in let none : ⊥ = cc in absurd none
ops_alike o p (inr (inr (inr (inl e)))) = let h : ◌≡◌ {A = Entity small_ids} (an_op o) (a_block n1) = ap (λ (z : Pair). z.0) e in let none : ⊥ = cc in absurd none
ops_alike o p (inr (inr (inr (inr (inl e))))) = subst₂ OpsAlike (sym (ap (λ (z : Pair). op_of z.0) e)) (sym (ap (λ (z : Pair). op_of z.1) e)) givers_alike
ops_alike o p (inr (inr (inr (inr (inr (inl e)))))) = subst₂ OpsAlike (sym (ap (λ (z : Pair). op_of z.0) e)) (sym (ap (λ (z : Pair). op_of z.1) e)) users_alike
ops_alike o p (inr (inr (inr (inr (inr (inr none)))))) = absurd none

blocks_alike : (b c : Small) → In (a_block b, a_block c) pairs → BlocksAre b c
unfolding block_of
blocks_alike b c (inl e) = let h : ◌≡◌ {A = Entity small_ids} (a_block b) (an_op n0) = ap (λ (z : Pair). z.0) e in let none : ⊥ = cc in absurd none
blocks_alike b c (inr (inl e)) = let h : ◌≡◌ {A = Entity small_ids} (a_block b) (a_region n0) = ap (λ (z : Pair). z.0) e in let none : ⊥ = cc in absurd none
blocks_alike b c (inr (inr (inl e))) = subst₂ BlocksAre (sym (ap (λ (z : Pair). block_of z.0) e)) (sym (ap (λ (z : Pair). block_of z.1) e)) firsts_alike
blocks_alike b c (inr (inr (inr (inl e)))) = subst₂ BlocksAre (sym (ap (λ (z : Pair). block_of z.0) e)) (sym (ap (λ (z : Pair). block_of z.1) e)) seconds_alike
blocks_alike b c (inr (inr (inr (inr (inl e))))) = let h : ◌≡◌ {A = Entity small_ids} (a_block b) (an_op n1) = ap (λ (z : Pair). z.0) e in let none : ⊥ = cc in absurd none
blocks_alike b c (inr (inr (inr (inr (inr (inl e)))))) = let h : ◌≡◌ {A = Entity small_ids} (a_block b) (an_op n2) = ap (λ (z : Pair). z.0) e in let none : ⊥ = cc in absurd none
blocks_alike b c (inr (inr (inr (inr (inr (inr none)))))) = absurd none

abbrev AsMany : Pair → Type 0
AsMany z = length (children F z.0) ≡ length (children renamed z.1)

as_many_inside : (z : Pair) → In z pairs → AsMany z
as_many_inside z (inl e) = subst AsMany (sym e) refl
as_many_inside z (inr (inl e)) = subst AsMany (sym e) refl
as_many_inside z (inr (inr (inl e))) = subst AsMany (sym e) refl
as_many_inside z (inr (inr (inr (inl e)))) = subst AsMany (sym e) refl
as_many_inside z (inr (inr (inr (inr (inl e))))) = subst AsMany (sym e) refl
as_many_inside z (inr (inr (inr (inr (inr (inl e)))))) = subst AsMany (sym e) refl
as_many_inside z (inr (inr (inr (inr (inr (inr none)))))) = absurd none

others : AreAlike F renamed (n0 ∷ []) (n1 ∷ []) spoken_words spoken_words true
others = record {
  as_many = refl;
  as_many_inside = λ x y c. as_many_inside (x, y) (all_pairs c);
  each_operation = λ o p c. ops_alike o p (all_pairs c);
  each_block = λ b c corresponds. blocks_alike b c (all_pairs corresponds);
}

pub alike_rows : AlikeRows
alike_rows = record {
  others = others;
  another_beside = another_beside;
  other_name = other_name;
  other_result_type = other_result_type;
  results_turned = results_turned;
  more_results = more_results;
  operands_turned = operands_turned;
  operand_of_another = operand_of_another;
  fewer_operands = fewer_operands;
  other_successor = other_successor;
  other_properties = other_properties;
  other_value = other_value;
  other_key = other_key;
  entries_turned = entries_turned;
  other_location = other_location;
  other_argument_type = other_argument_type;
  fewer_arguments = fewer_arguments;
  other_argument_location = other_argument_location;
  operations_turned = operations_turned;
  fewer_operations = fewer_operations;
  fewer_blocks = fewer_blocks;
}
