-- Laws that speak of the definitions alone.
use Rattle.std.specs.Prelude.{◌≡◌, ◌≢◌, ◌↔◌, ℕ, ◌+◌, ◌<◌, ◌^◌, Bool, IsTrue, List, ◌∷◌, map, length, Some, Option}
use Rattle.ir_model.specs.declared.ids.ArenaIndex.{ArenaIndex}
use Rattle.ir_model.specs.ContextIds.{context_ids, same_id}
use Rattle.ir_model.specs.Forest.{Text, Dialect, Behaviour, Forest, Value, Entity, an_op, a_block, Named, a_value, the_block, owner}
use Rattle.ir_model.specs.Nesting.{In, Inside, IsClosed, WellFormed, ops_of, blocks_of, names_of}
use Rattle.ir_model.specs.Redirect.{redirect_uses, retarget_uses}
use Rattle.ir_model.specs.Changes.{without, put_after, in_blocks, in_regions, on_block, on_region, on_ops, redirect, retarget, Removes}
use Rattle.ir_model.specs.Uses.{Use, IsUse, AreUses}
use Rattle.ir_model.specs.Parent.{ComesAfter, first_of, IsParent, IsNext, IsPrevious, IsIndex}
use Rattle.ir_model.specs.BlockGraph.{succs, targets_of, terminator, ArePredecessors}
use Rattle.ir_model.specs.Subtree.{DefinedInside, ListsSubtree}
use Rattle.ir_model.specs.Legaliser.{Given, nothing_given, name_of, NamesInTurn}
use Rattle.ir_model.specs.Names.{IsValueName, IsBlockName}

-- slot and version fit their types
abbrev pub FitsIndex : ArenaIndex → Type 0
FitsIndex i = (i.slot < 2 ^ 32) × (i.version < 2 ^ 32)

module _ {W : Dialect} (f : Forest context_ids W) where
  -- what is unlinked and put back behind what stood before it, or at the front where nothing did, leaves the forest as it was
  pub record GoesBack : Type 0 where
    pub op_after : (o mark : ArenaIndex) → ComesAfter f (an_op mark) (an_op o) → in_blocks (in_blocks f (without same_id o)) (put_after same_id o mark) ≡ f
    pub op_front : (o b : ArenaIndex) → first_of (ops_of f b) ≡ Some o → on_block (in_blocks f (without same_id o)) b (on_ops (λ os. o ∷ os)) ≡ f
    pub block_after : (b mark : ArenaIndex) → ComesAfter f (a_block mark) (a_block b) → in_regions (in_regions f (without same_id b)) (put_after same_id b mark) ≡ f
    pub block_front : (b g : ArenaIndex) → first_of (blocks_of f g) ≡ Some b → on_region (in_regions f (without same_id b)) g (λ bs. b ∷ bs) ≡ f

  -- in this forest the old definition has no use, and the other one as many as both had before
  pub record TakesUses (g : Forest context_ids W) (old new : Named context_ids) : Type 0 where
    pub none : (u : Use context_ids) → IsUse g old u → ⊥
    pub all : (us vs ws : List (Use context_ids)) → AreUses f old us → AreUses f new vs → AreUses g new ws → length ws ≡ length us + length vs

  -- to redirect the uses of a set that has exactly those of the old definition is to redirect all that names it
  pub record RedirectsAll : Type 0 where
    pub values : (old new : Value context_ids) (set : Use context_ids → Bool) → ((u : Use context_ids) → IsTrue (set u) ↔ IsUse f (a_value old) u) → redirect_uses f set new ≡ redirect f old new
    pub blocks : (old new : ArenaIndex) (set : Use context_ids → Bool) → ((u : Use context_ids) → IsTrue (set u) ↔ IsUse f (the_block old) u) → retarget_uses f set new ≡ retarget f old new

  -- e is closed exactly where each operation that names a definition inside e is inside e
  abbrev pub ClosedTells : Type 0
  ClosedTells = (e : Entity context_ids) → IsClosed f e ↔ ((o : ArenaIndex) (d : Named context_ids) → In d (names_of f o) → DefinedInside f e d → Inside f e (an_op o))

  -- equal unique names of values, or of blocks, are names of one, and no value and block share a name
  pub record NamesTell : Type 0 where
    pub values : (v w : Value context_ids) (text : Text) → v.number < 2 ^ 64 → w.number < 2 ^ 64 → IsValueName f v text → IsValueName f w text → v ≡ w
    pub blocks : (b c : ArenaIndex) (text : Text) → FitsIndex b → FitsIndex c → IsBlockName f b text → IsBlockName f c text → b ≡ c
    pub apart : (v : Value context_ids) (b : ArenaIndex) (text : Text) → v.number < 2 ^ 64 → FitsIndex b → IsValueName f v text → IsBlockName f b text → ⊥

  -- each operation that names a successor is the terminator of a block
  abbrev pub OnlyTerminatorsBranch : Behaviour W → Type 0
  OnlyTerminatorsBranch B = (o b : ArenaIndex) → In b (targets_of f o) → (a : ArenaIndex) × (terminator B f a ≡ Some o)

  -- b is among the successors of a exactly where a is among the predecessors of b
  abbrev pub EdgesMeet : Behaviour W → Type 0
  EdgesMeet B = (a b : ArenaIndex) (preds : List ArenaIndex) → ArePredecessors f b preds → In b (succs B f a) ↔ In a preds

  -- what a removal of e leaves
  pub record RemovalTells (e : Entity context_ids) (g : Forest context_ids W) : Type 0 where
    -- nothing else would be it
    pub only : (h : Forest context_ids W) → Removes f e h → g ≡ h
    -- a search over what is left finds the uses whose user was not inside e
    pub uses : (d : Named context_ids) (u : Use context_ids) → IsUse g d u ↔ (IsUse f d u × (Inside f e (an_op u.user) → ⊥))
    -- what was defined inside a closed e is named nowhere
    pub unused : IsClosed f e → (d : Named context_ids) (u : Use context_ids) → Inside f e (owner context_ids d) → IsUse g d u → ⊥

  -- all lists of what is inside e are equally long
  abbrev pub SizeIsOne : Entity context_ids → Type 0
  SizeIsOne e = (xs ys : List (Entity context_ids)) → ListsSubtree f e xs → ListsSubtree f e ys → length xs ≡ length ys

  -- what is found by searching all lists is found one way
  pub record AnswersAreOne : Type 0 where
    pub parent : (x : Entity context_ids) (a b : Option (Entity context_ids)) → IsParent f x a → IsParent f x b → a ≡ b
    pub next : (x : Entity context_ids) (a b : Option (Entity context_ids)) → IsNext f x a → IsNext f x b → a ≡ b
    pub previous : (x : Entity context_ids) (a b : Option (Entity context_ids)) → IsPrevious f x a → IsPrevious f x b → a ≡ b
    pub index : (x : Entity context_ids) (m n : ℕ) → IsIndex f x m → IsIndex f x n → m ≡ n
    -- the uses are as many in whatever order
    pub uses : (d : Named context_ids) (us vs : List (Use context_ids)) → AreUses f d us → AreUses f d vs → length us ≡ length vs

module _ (W : Dialect) where
  -- in every well-formed forest what is found by searching is found one way
  abbrev pub SearchesAgree : Type 0
  SearchesAgree = (f : Forest context_ids W) (keys : ℕ) → WellFormed f keys → AnswersAreOne f

  -- in every well-formed forest what is unlinked and put back leaves the forest as it was
  abbrev pub UnlinkedGoesBack : Type 0
  UnlinkedGoesBack = (f : Forest context_ids W) (keys : ℕ) → WellFormed f keys → GoesBack f

  -- in every well-formed forest a value that is replaced by another one leaves it all its uses
  abbrev pub ReplacedTakesUses : Type 0
  ReplacedTakesUses = (f : Forest context_ids W) (keys : ℕ) (old new : Value context_ids) → WellFormed f keys → old ≢ new → TakesUses f (redirect f old new) (a_value old) (a_value new)

  -- in every well-formed forest a block that is retargeted to another one leaves it all its uses
  abbrev pub RetargetedTakesUses : Type 0
  RetargetedTakesUses = (f : Forest context_ids W) (keys : ℕ) (old new : ArenaIndex) → WellFormed f keys → old ≢ new → TakesUses f (retarget f old new) (the_block old) (the_block new)

  -- in every well-formed forest redirecting by uses agrees with redirecting by names
  abbrev pub AllUsesAreRedirected : Type 0
  AllUsesAreRedirected = (f : Forest context_ids W) (keys : ℕ) → WellFormed f keys → RedirectsAll f

  -- in every well-formed forest an entity is closed where its definitions are named inside it alone
  abbrev pub ClosedByDefinitions : Type 0
  ClosedByDefinitions = (f : Forest context_ids W) (keys : ℕ) → WellFormed f keys → ClosedTells f

  -- in every well-formed forest unique names tell what they name
  abbrev pub UniqueNamesTell : Type 0
  UniqueNamesTell = (f : Forest context_ids W) (keys : ℕ) → WellFormed f keys → NamesTell f

  -- in every well-formed forest in which terminators alone name successors, successors and predecessors agree
  abbrev pub SuccessorsMeetPredecessors : Behaviour W → Type 0
  SuccessorsMeetPredecessors B = (f : Forest context_ids W) (keys : ℕ) → WellFormed f keys → OnlyTerminatorsBranch f B → EdgesMeet f B

  -- every removal tells what it leaves
  abbrev pub RemovalIsOne : Type 0
  RemovalIsOne = (f g : Forest context_ids W) (e : Entity context_ids) → Removes f e g → RemovalTells f e g

  -- in every forest the number of entities inside one is determined
  abbrev pub SubtreeSizeIsOne : Type 0
  SubtreeSizeIsOne = (f : Forest context_ids W) (e : Entity context_ids) → SizeIsOne f e

-- what one legaliser gave, from any counter on: no two sources have one identifier
abbrev pub SourcesApart : Type 0
SourcesApart = (counter : ℕ) (calls : List (Text × Text)) (s : Given) → NamesInTurn (nothing_given counter) calls s
    → (source other name : Text) → name_of s source ≡ Some name → name_of s other ≡ Some name → source ≡ other

-- what one legaliser gives is settled by the sources and their order, and so is what it is afterwards
abbrev pub CallsSettle : Type 0
CallsSettle = (counter : ℕ) (calls others : List (Text × Text)) (s t : Given) → map (λ call. call.0) calls ≡ map (λ call. call.0) others
    → NamesInTurn (nothing_given counter) calls s → NamesInTurn (nothing_given counter) others t → (calls ≡ others) × (s ≡ t)

-- each identifier that was given is that of its source, and of no other
abbrev pub NamesLeadBack : Type 0
NamesLeadBack = (counter : ℕ) (calls : List (Text × Text)) (s : Given) (call : Text × Text) (source : Text)
    → NamesInTurn (nothing_given counter) calls s → In call calls → (name_of s source ≡ Some call.1) ↔ (source ≡ call.0)
