-- What is known of operations that are alike, and of what corresponds in them.
use Rattle.std.specs.Prelude.{◌≡◌, Bool, List, [], ◌∷◌}
use Rattle.ir_model.specs.declared.ids.ArenaIndex.{ArenaIndex}
use Rattle.ir_model.specs.ContextIds.{context_ids}
use Rattle.ir_model.specs.Ids.{Distinct}
use Rattle.ir_model.specs.Forest.{Dialect, Forest, Entity, an_op, Value, Definition}
use Rattle.ir_model.specs.Nesting.{In, Inside, Nested, definitions_of, ops_of}
use Rattle.ir_text_described.specs.Words.{Words}
use Rattle.ir_text_described.specs.Alike.{Correspond, ValuesCorrespond, AreAlike}

-- Each of the operations is listed once, and none stands inside another of them.
pub record StandApart {W : Dialect} (f : Forest context_ids W) (operations : List ArenaIndex) : Type 0 where
  pub once : Distinct operations
  pub apart : (o p : ArenaIndex) → In o operations → In p operations → Inside f (an_op o) (an_op p) → o ≡ p

-- one operation alone stands apart, and so do those of a block
pub record ApartLaws (W : Dialect) : Type 0 where
  pub alone : (f : Forest context_ids W) (o : ArenaIndex) → StandApart f (o ∷ [])
  pub of_a_block : (f : Forest context_ids W) (b : ArenaIndex) → Nested f → StandApart f (ops_of f b)

-- Something has a definition in this forest and something in that one, under these values' numbers, and the texts of their types are one.
pub record HaveOneType {W V : Dialect} (f : Forest context_ids W) (g : Forest context_ids V) (words : Words W) (words' : Words V) (v w : Value context_ids) : Type 0 where
  pub one : Definition context_ids W
  pub other : Definition context_ids V
  pub one_defined : In one (definitions_of f v.definer)
  pub other_defined : In other (definitions_of g w.definer)
  pub one_number : one.number ≡ v.number
  pub other_number : other.number ≡ w.number
  pub texts : words.type_text one.ty ≡ words'.type_text other.ty

module _ (W V : Dialect) where
  -- what corresponds to something corresponds to nothing else, on either side, where the forest of that side is nested and the operations stand apart
  pub record OneToOne : Type 0 where
    pub one : (f : Forest context_ids W) (g : Forest context_ids V) (operations operations' : List ArenaIndex) → Nested f → StandApart f operations
        → (x y z : Entity context_ids) → Correspond f g operations operations' x y → Correspond f g operations operations' x z → y ≡ z
    pub other : (f : Forest context_ids W) (g : Forest context_ids V) (operations operations' : List ArenaIndex) → Nested g → StandApart g operations'
        → (x y z : Entity context_ids) → Correspond f g operations operations' x z → Correspond f g operations operations' y z → x ≡ y

  -- what stands inside alike operations corresponds to something
  abbrev pub AllCorresponds : Type 0
  AllCorresponds = (f : Forest context_ids W) (g : Forest context_ids V) (words : Words W) (words' : Words V) (located : Bool) (operations operations' : List ArenaIndex) → AreAlike f g operations operations' words words' located
      → (o : ArenaIndex) (x : Entity context_ids) → In o operations → Inside f (an_op o) x → (y : Entity context_ids) × Correspond f g operations operations' x y

  -- what is alike is so the other way round
  abbrev pub AlikeTurned : Type 0
  AlikeTurned = (f : Forest context_ids W) (g : Forest context_ids V) (words : Words W) (words' : Words V) (located : Bool) (operations operations' : List ArenaIndex) → AreAlike f g operations operations' words words' located → AreAlike g f operations' operations words' words located

  -- corresponding values of alike operations have one type, by its text
  abbrev pub ValuesHaveOneType : Type 0
  ValuesHaveOneType = (f : Forest context_ids W) (g : Forest context_ids V) (words : Words W) (words' : Words V) (located : Bool) (operations operations' : List ArenaIndex) → AreAlike f g operations operations' words words' located
      → (v w : Value context_ids) → ValuesCorrespond f g operations operations' v w → HaveOneType f g words words' v w
