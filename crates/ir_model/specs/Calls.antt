-- Calls that change one part of a record: a value's type or name, a block's label, locations and attributes.
use Rattle.std.specs.Prelude.{◌≡◌, ◌≢◌, ◌↔◌, ℕ, if◌then◌else◌, List, map, Option}
use Rattle.std.specs.Option.{option_map}
use Rattle.ir_model.specs.Ids.{Ids}
use Rattle.ir_model.specs.Forest.{Text, Dialect, Definer, of_op, of_block, Value, Entity, Definition, Forest}
use Rattle.ir_model.specs.Nesting.{In, IsLive, regions_of, ops_of, blocks_of, definitions_of, numbers_of, definition_types_of, operands_of, successors_of}
use Rattle.ir_model.specs.Changes.{on_op, on_block, on_results, on_arguments}

module _ {N : Ids} {W : Dialect} where
  -- the results of the operation, or the arguments of the block, rewritten; all else is as it was
  abbrev pub on_definitions : Forest N W → Definer N → (List (Definition N W) → List (Definition N W)) → Forest N W
  on_definitions f (of_op o) g = on_op f o (on_results g)
  on_definitions f (of_block b) g = on_block f b (on_arguments g)

  -- the result or argument that the value is, rewritten; all else is as it was
  abbrev pub on_value : Forest N W → Value N → (Definition N W → Definition N W) → Forest N W
  on_value f v g = on_definitions f v.definer (map (λ x. if N.same_number x.number v.number then g x else x))

  -- the value has this type, and its number and its name are as they were
  abbrev pub set_type : Forest N W → Value N → ℕ → Forest N W
  set_type f v ty = on_value f v (λ x. record x { ty = ty })

  -- the value has this name, or none, and its number and its type are as they were
  abbrev pub set_name : Forest N W → Value N → Option Text → Forest N W
  set_name f v name = on_value f v (λ x. record x { name = name })

  -- the block has this label, or none
  abbrev pub set_label : Forest N W → N.Block → Option Text → Forest N W
  set_label f b label = on_block f b (λ r. record r { label = label })

  -- the operation or the block has this location
  abbrev pub set_loc : Forest N W → Definer N → W.Loc → Forest N W
  set_loc f (of_op o) loc = on_op f o (λ r. record r { loc = loc })
  set_loc f (of_block b) loc = on_block f b (λ r. record r { loc = loc })

  -- the operation or the block has these attributes
  abbrev pub set_attributes : Forest N W → Definer N → List (Text × W.Attr) → Forest N W
  set_attributes f (of_op o) pairs = on_op f o (λ r. record r { attributes = pairs })
  set_attributes f (of_block b) pairs = on_block f b (λ r. record r { attributes = pairs })

  -- the value has this type
  abbrev pub HasType : Forest N W → Value N → ℕ → Type 0
  HasType f v ty = (x : Definition N W) × In x (definitions_of f v.definer) × (x.number ≡ v.number) × (x.ty ≡ ty)

  -- the value was given this for a name: a text, or none
  abbrev pub HasName : Forest N W → Value N → Option Text → Type 0
  HasName f v name = (x : Definition N W) × In x (definitions_of f v.definer) × (x.number ≡ v.number) × (x.name ≡ name)

  -- the kind of the operation, where it is live
  abbrev pub kind_of : Forest N W → N.Op → Option ℕ
  kind_of f o = option_map (λ r. r.kind) (f.ops o)

  -- the names of the results or arguments, in order
  abbrev pub names_given : Forest N W → Definer N → List (Option Text)
  names_given f d = map (λ x. x.name) (definitions_of f d)

  -- what the block was given for a label, where it is live
  abbrev pub label_of : Forest N W → N.Block → Option (Option Text)
  label_of f b = option_map (λ r. r.label) (f.blocks b)

  -- the location of the operation or the block, where it is live
  abbrev pub loc_of : Forest N W → Definer N → Option W.Loc
  loc_of f (of_op o) = option_map (λ r. r.loc) (f.ops o)
  loc_of f (of_block b) = option_map (λ r. r.loc) (f.blocks b)

  -- the location of the value, which is that of what defines it
  abbrev pub value_loc : Forest N W → Value N → Option W.Loc
  value_loc f v = loc_of f v.definer

  -- the attributes of the operation or the block, in order, where it is live
  abbrev pub attributes_of : Forest N W → Definer N → Option (List (Text × W.Attr))
  attributes_of f (of_op o) = option_map (λ r. r.attributes) (f.ops o)
  attributes_of f (of_block b) = option_map (λ r. r.attributes) (f.blocks b)

-- what records have beside kinds, numbers and the lists that name others
pub data Part : Type 0 where
  the_types the_names the_labels the_locations the_attributes : Part

module _ {N : Ids} {W : Dialect} where
  -- both forests have this part alike
  abbrev pub SamePart : Part → Forest N W → Forest N W → Type 0
  SamePart the_types f g = (d : Definer N) → definition_types_of g d ≡ definition_types_of f d
  SamePart the_names f g = (d : Definer N) → names_given g d ≡ names_given f d
  SamePart the_labels f g = (b : N.Block) → label_of g b ≡ label_of f b
  SamePart the_locations f g = (d : Definer N) → loc_of g d ≡ loc_of f d
  SamePart the_attributes f g = (d : Definer N) → attributes_of g d ≡ attributes_of f d

  -- the same is live and stands in the same lists, has the same kinds and value numbers, and names the same under the same use numbers
  pub record SameStructure (f g : Forest N W) : Type 0 where
    pub live : (x : Entity N) → IsLive g x ↔ IsLive f x
    pub regions : (o : N.Op) → regions_of g o ≡ regions_of f o
    pub ops : (b : N.Block) → ops_of g b ≡ ops_of f b
    pub blocks : (r : N.Region) → blocks_of g r ≡ blocks_of f r
    pub kinds : (o : N.Op) → kind_of g o ≡ kind_of f o
    pub numbers : (d : Definer N) → numbers_of g d ≡ numbers_of f d
    pub operands : (o : N.Op) → operands_of g o ≡ operands_of f o
    pub successors : (o : N.Op) → successors_of g o ≡ successors_of f o

  -- nothing but this part changes
  pub record ChangesAlone (part : Part) (f g : Forest N W) : Type 0 where
    pub structure : SameStructure f g
    pub others : (other : Part) → other ≢ part → SamePart other f g
