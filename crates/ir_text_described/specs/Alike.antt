-- When operations of two forests are alike in all but ids and numbers, as they are written.
use Rattle.std.specs.Prelude.{◌≡◌, ℕ, ◌<◌, Bool, true, List, map, length, Option, Some}
use Rattle.std.specs.List.{AllZip, filter_map, zip}
use Rattle.ir_model.specs.Ids.{Ids}
use Rattle.ir_model.specs.Forest.{Dialect, Text, of_block, Entity, an_op, a_block, definer_entity, Definition, OpRecord, BlockRecord, Value, Forest}
use Rattle.ir_model.specs.Nesting.{In, children, definitions_of, numbers_of}
use Rattle.ir_text_described.specs.Words.{Words}

-- x and y stand at one place of these lists
abbrev pub AtOnePlace : {A B : Type 0} → A → B → List A → List B → Type 0
AtOnePlace x y xs ys = In (x, y) (zip xs ys)

-- the attributes that are written, in order: for each its key, and its value if it has one
abbrev pub entries_of : {W : Dialect} → Words W → List (Text × W.Attr) → List (List ℕ × Option (List ℕ))
entries_of words attributes = filter_map (λ a. words.entry a.0 a.1) attributes

-- the texts of the types of these results or arguments, in order
abbrev pub type_texts : {N : Ids} {W : Dialect} → Words W → List (Definition N W) → List (List ℕ)
type_texts words definitions = map (λ d. words.type_text d.ty) definitions

module _ {N M : Ids} {W V : Dialect} (f : Forest N W) (g : Forest M V) (operations : List N.Op) (operations' : List M.Op) where
  -- The entities correspond: they are operations at one place of these two lists, or they stand at one place inside two that correspond. Regions stand inside operations, blocks inside regions, and operations inside blocks.
  pub data Correspond : Entity N → Entity M → Type 0 where
    outermost : {o : N.Op} {p : M.Op} → AtOnePlace o p operations operations' → Correspond (an_op o) (an_op p)
    inner : {x a : Entity N} {y b : Entity M} → Correspond x y → AtOnePlace a b (children f x) (children g y) → Correspond a b

  -- The values correspond: what defines them does, and they stand at one place among its results or arguments.
  pub record ValuesCorrespond (v : Value N) (w : Value M) : Type 0 where
    pub definers : Correspond (definer_entity N v.definer) (definer_entity M w.definer)
    pub places : AtOnePlace v.number w.number (numbers_of f v.definer) (numbers_of g w.definer)

  module _ (words : Words W) (words' : Words V) (located : Bool) where
    -- The operations have one name, as many results, and of the same types; they name corresponding values and blocks, in order; and they have the same properties, the same attributes in order as far as these are written, and the same location where locations are told.
    pub record OperationsAlike (o : N.Op) (p : M.Op) : Type 0 where
      pub one : OpRecord N W
      pub other : OpRecord M V
      pub one_is : f.ops o ≡ Some one
      pub other_is : g.ops p ≡ Some other
      pub names : words.operation_name one.kind ≡ words'.operation_name other.kind
      pub result_types : type_texts words one.results ≡ type_texts words' other.results
      pub operands : AllZip (λ a b. ValuesCorrespond a.value b.value) one.operands other.operands
      pub successors : AllZip (λ a b. Correspond (a_block a.block) (a_block b.block)) one.successors other.successors
      pub properties : words.properties one.attributes ≡ words'.properties other.attributes
      pub entries : entries_of words one.attributes ≡ entries_of words' other.attributes
      pub locations : located ≡ true → words.location one.loc ≡ words'.location other.loc

    -- The blocks have as many arguments, of the same types, and with the same locations where locations are told.
    pub record BlocksAlike (b : N.Block) (c : M.Block) : Type 0 where
      pub argument_types : type_texts words (definitions_of f (of_block b)) ≡ type_texts words' (definitions_of g (of_block c))
      pub argument_locations : (one : BlockRecord N W) (other : BlockRecord M V) → f.blocks b ≡ Some one → g.blocks c ≡ Some other → located ≡ true
          → (k : ℕ) → k < length one.arguments → words.argument_location one.loc k ≡ words'.argument_location other.loc k

    -- The operations of the one forest and those of the other are alike in all but ids and numbers: there are as many of them, what corresponds has as many regions, blocks or operations inside, and all that corresponds is alike.
    --
    -- It says nothing of what isn't written: debug names of values, labels and attributes of blocks, attributes without an entry. Nor does it tell kinds apart that have one name, or types that have one text.
    pub record AreAlike : Type 0 where
      pub as_many : length operations ≡ length operations'
      pub as_many_inside : (x : Entity N) (y : Entity M) → Correspond x y → length (children f x) ≡ length (children g y)
      pub each_operation : (o : N.Op) (p : M.Op) → Correspond (an_op o) (an_op p) → OperationsAlike o p
      pub each_block : (b : N.Block) (c : M.Block) → Correspond (a_block b) (a_block c) → BlocksAlike b c
