-- What the names in a tree mean.
use Rattle.std.specs.Prelude.{◌≡◌, ◌⊎◌, ℕ, ◌+◌, ◌<◌, List}
use Rattle.ir_text_tree.specs.declared.row.Part.TheVariants as parts
use Rattle.ir_text_tree.specs.declared.row.Span.{Span}
use Rattle.ir_text_tree.specs.Rows.{row}
use Rattle.ir_text_tree.specs.Trees.{Label, Body}
use Rattle.ir_text_names.specs.Rows.{piece}
use Rattle.ir_text_names.specs.Given.{name_of}
use Rattle.ir_text_meaning.specs.Parts.{Operation, result_parts, operand_parts, tail_parts, label_parts, named_size, head_size, regions_size, HasOperation, HasLabel, IsAmong}
use Rattle.ir_text_meaning.specs.Regions.{IsWithin}

-- Part d is the name of a result of an operation in the body itself, which begins with part n, or of an argument of a block there.
abbrev pub HasDefinition : Body → ℕ → ℕ → Span → Type 0
HasDefinition c n d name =
    ((o : Operation) × (k : ℕ) × HasOperation c n o k × IsAmong (result_parts o.head) k d (row parts.Result name))
    ⊎ ((l : Label) × (k : ℕ) × HasLabel c n l k × IsAmong (label_parts l) k d (row parts.Argument name))

-- Part u is an operand of an operation in the body itself.
abbrev pub HasOperand : Body → ℕ → ℕ → Span → Type 0
HasOperand c n u name = (o : Operation) × (k : ℕ) × HasOperation c n o k × IsAmong (operand_parts o.head) (k + named_size o.head) u (row parts.Operand name)

-- Part s is a successor of an operation in the body itself.
abbrev pub HasSuccessor : Body → ℕ → ℕ → Span → Type 0
HasSuccessor c n s name = (o : Operation) × (k : ℕ) × HasOperation c n o k × IsAmong (operand_parts o.head) (k + named_size o.head) s (row parts.Successor name)

-- With part l a block begins in the body itself.
abbrev pub HasBlock : Body → ℕ → ℕ → Span → Type 0
HasBlock c n l name = (m : Label) × HasLabel c n m l × (m.name ≡ name)

-- Part u is an operand, and part d defines the value that it names: a value of its name, defined in a region, or outside all, in which the operand's operation stands, at whatever depth.
pub record MeansValue (text : List ℕ) (b : Body) (u d : ℕ) : Type 0 where
  pub scope : Body
  pub scope_at : ℕ
  pub body : Body
  pub body_at : ℕ
  pub defined : Span
  pub named : Span
  pub in_tree : IsWithin scope scope_at b 0
  pub in_scope : IsWithin body body_at scope scope_at
  pub definition : HasDefinition scope scope_at d defined
  pub operand : HasOperand body body_at u named
  pub same : piece text defined ≡ piece text named

-- Part s is a successor, and part l begins the block that it names: a block of its name in the region in which the successor's operation stands.
pub record MeansBlock (text : List ℕ) (b : Body) (s l : ℕ) : Type 0 where
  pub body : Body
  pub body_at : ℕ
  pub given : Span
  pub named : Span
  pub in_tree : IsWithin body body_at b 0
  pub block : HasBlock body body_at l given
  pub successor : HasSuccessor body body_at s named
  pub same : piece text given ≡ piece text named

-- Part i is a key, and part j is one before it of the same operation, with the same name.
pub record MeansKeyAgain (text : List ℕ) (b : Body) (i j : ℕ) : Type 0 where
  pub body : Body
  pub body_at : ℕ
  pub owner : Operation
  pub owner_at : ℕ
  pub later : Span
  pub earlier : Span
  pub in_tree : IsWithin body body_at b 0
  pub in_body : HasOperation body body_at owner owner_at
  pub is_later : IsAmong (tail_parts owner.tail) (owner_at + head_size owner.head + regions_size owner.regions) i (row parts.Key later)
  pub is_earlier : IsAmong (tail_parts owner.tail) (owner_at + head_size owner.head + regions_size owner.regions) j (row parts.Key earlier)
  pub before : j < i
  pub same : name_of parts.Key (piece text earlier) ≡ name_of parts.Key (piece text later)
