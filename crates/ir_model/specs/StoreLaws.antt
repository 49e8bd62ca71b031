-- Laws of saved data, auxiliary data, bodies of types, attribute dictionaries and lists of verifiers.
use Rattle.std.specs.Prelude.{◌≡◌, ◌≢◌, ◌↔◌, ℕ, ◌<◌, true, false, not, List, [], ◌∷◌, ◌++◌, map, length, Some, None, IsTrue, slice_get, bytes_eq}
use Rattle.std.specs.List.{filter}
use Rattle.std.specs.Map.{keys_of}
use Rattle.ir_model.specs.declared.ids.ArenaIndex.{ArenaIndex}
use Rattle.ir_model.specs.declared.ids.Limits.{Limits}
use Rattle.ir_model.specs.Ids.{Distinct}
use Rattle.ir_model.specs.Forest.{Text, Dialect, Behaviour}
use Rattle.ir_model.specs.Nesting.{In}
use Rattle.ir_model.specs.Edits.{StoredType, type_place}
use Rattle.ir_model.specs.Sessions.{Beside}
use Rattle.ir_model.specs.Stores.{without_aux, with_aux_name, attribute_at, set_attribute, without_attribute, HasDistinctKeys}
use Rattle.ir_model.specs.Kinds.{Kinds}
use Rattle.ir_model.specs.Saved.{saved_place, with_saved, IsSavedAt, IsSavedKind, set_body}
use Rattle.ir_model.specs.AuxData.{live_aux, InsertsAux, SkipsAux, write_aux, aux_by_name, AuxIsSound}
use Rattle.ir_model.specs.VerifierLists.{deduplicated}

-- ## Saved data

module _ {W : Dialect} (K : Kinds W) where
  -- the test of saved data is an equality, and equal values have one kind
  pub record SavedAreLawful : Type 0 where
    pub itself : (x : W.Saved) → K.same_saved x x ≡ true
    pub turned : (x y : W.Saved) → K.same_saved x y ≡ true → K.same_saved y x ≡ true
    pub joined : (x y z : W.Saved) → K.same_saved x y ≡ true → K.same_saved y z ≡ true → K.same_saved x z ≡ true
    pub kinds : (x y : W.Saved) → K.same_saved x y ≡ true → K.saved_kind x ≡ K.saved_kind y

  -- no saved value is equal to an earlier one
  abbrev pub SavedApart : Beside W → Type 0
  SavedApart b = (i j : ℕ) (x y : W.Saved) → i < j → slice_get b.saved i ≡ Some x → slice_get b.saved j ≡ Some y → K.same_saved x y ≡ false

  -- a value that is saved is found at its place: an equal one is kept, and else it goes last; what was saved stays where it was
  pub record SavingIsExact (b : Beside W) (value : W.Saved) : Type 0 where
    pub saved : IsSavedAt K (with_saved K b value) (saved_place K b value) value
    pub its_kind : IsSavedKind K (with_saved K b value) (saved_place K b value) (K.saved_kind value)
    pub found : (place : ℕ) → IsSavedAt K b place value → with_saved K b value ≡ b
    pub last : ((place : ℕ) → IsSavedAt K b place value → ⊥) → ((with_saved K b value).saved ≡ b.saved ++ value ∷ []) × (saved_place K b value ≡ length b.saved)
    pub stay : (place : ℕ) (x : W.Saved) → slice_get b.saved place ≡ Some x → slice_get (with_saved K b value).saved place ≡ Some x
    pub apart : SavedApart b → SavedApart (with_saved K b value)
    -- two values have one place exactly where they are equal, so values of two kinds have two
    pub places : (other : W.Saved) → (saved_place K b value ≡ saved_place K (with_saved K b value) other) ↔ (K.same_saved value other ≡ true)
    pub kinds : (other : W.Saved) → K.saved_kind value ≢ K.saved_kind other → saved_place K b value ≢ saved_place K (with_saved K b value) other
    -- auxiliary data is as before
    pub aux : ((with_saved K b value).aux ≡ b.aux) × ((with_saved K b value).aux_names ≡ b.aux_names) × ((with_saved K b value).aux_passed ≡ b.aux_passed)

-- ## Auxiliary data

module _ {W : Dialect} where
  -- the index was handed out or skipped, and there is nothing under it
  abbrev pub IsGoneAux : Beside W → ArenaIndex → Type 0
  IsGoneAux b i = IsTrue (b.aux_passed i) × (live_aux b i → ⊥)

  -- what is live was passed, and what is gone stays gone
  pub record AuxStaysSound (b c : Beside W) : Type 0 where
    pub sound : AuxIsSound c
    pub gone : (i : ArenaIndex) → IsGoneAux b i → IsGoneAux c i

  -- the new index was not passed and is newer than those of its slot; the data is under it, and all else is as before
  pub record AuxIsInserted (b : Beside W) (data_ : W.Aux) (i : ArenaIndex) (c : Beside W) : Type 0 where
    pub was_free : (b.aux_passed i ≡ false) × (b.aux i ≡ None)
    pub newer : (old : ArenaIndex) → old.slot ≡ i.slot → IsTrue (b.aux_passed old) → old.version < i.version
    pub there : (c.aux i ≡ Some data_) × IsTrue (c.aux_passed i)
    pub others : (j : ArenaIndex) → j ≢ i → (c.aux j ≡ b.aux j) × (c.aux_passed j ≡ b.aux_passed j)
    pub names : c.aux_names ≡ b.aux_names
    pub saved : c.saved ≡ b.saved
    pub stays : AuxStaysSound b c

  -- at most one index is passed that was not, and all else is as before
  pub record AuxIsSkipped (b c : Beside W) : Type 0 where
    pub one : (i j : ArenaIndex) → b.aux_passed i ≡ false → b.aux_passed j ≡ false → IsTrue (c.aux_passed i) → IsTrue (c.aux_passed j) → i ≡ j
    pub aux : c.aux ≡ b.aux
    pub names : c.aux_names ≡ b.aux_names
    pub saved : c.saved ≡ b.saved
    pub stays : AuxStaysSound b c

  -- there is nothing under the index, each name leads where it led, and all else is as before
  pub record AuxIsRemoved (b : Beside W) (i : ArenaIndex) : Type 0 where
    pub empty : (without_aux b i).aux i ≡ None
    pub others : (j : ArenaIndex) → j ≢ i → (without_aux b i).aux j ≡ b.aux j
    pub names : (name : Text) → aux_by_name (without_aux b i) name ≡ aux_by_name b name
    pub nothing : b.aux i ≡ None → without_aux b i ≡ b
    pub passed : (without_aux b i).aux_passed ≡ b.aux_passed
    pub saved : (without_aux b i).saved ≡ b.saved
    pub stays : AuxStaysSound b (without_aux b i)

  -- the name leads to the index, wherever it led, and all else is as before
  pub record AuxIsNamed (b : Beside W) (name : Text) (i : ArenaIndex) : Type 0 where
    pub leads : aux_by_name (with_aux_name b name i) name ≡ Some i
    pub others : (other : Text) → other ≢ name → aux_by_name (with_aux_name b name i) other ≡ aux_by_name b other
    pub data_ : (with_aux_name b name i).aux ≡ b.aux
    pub passed : (with_aux_name b name i).aux_passed ≡ b.aux_passed
    pub saved : (with_aux_name b name i).saved ≡ b.saved
    pub stays : AuxStaysSound b (with_aux_name b name i)

  -- the data that was there is this, and all else is as before
  pub record AuxIsWritten (b : Beside W) (i : ArenaIndex) (data_ : W.Aux) : Type 0 where
    pub there : live_aux b i → (write_aux b i data_).aux i ≡ Some data_
    pub others : (j : ArenaIndex) → j ≢ i → (write_aux b i data_).aux j ≡ b.aux j
    pub live : (j : ArenaIndex) → live_aux (write_aux b i data_) j ↔ live_aux b j
    pub names : (write_aux b i data_).aux_names ≡ b.aux_names
    pub passed : (write_aux b i data_).aux_passed ≡ b.aux_passed
    pub saved : (write_aux b i data_).saved ≡ b.saved
    pub stays : AuxStaysSound b (write_aux b i data_)

-- ## Bodies of types

-- the type has the body, and every key, every other body and the place of each key are as before
pub record BodyIsSet {W : Dialect} (store : List (StoredType W)) (place : ℕ) (body : W.Body) : Type 0 where
  pub there : (t : StoredType W) → slice_get store place ≡ Some t → slice_get (set_body store place body) place ≡ Some (record t { body = body })
  pub others : (other : ℕ) → other ≢ place → slice_get (set_body store place body) other ≡ slice_get store other
  pub keys : map (λ t. t.key) (set_body store place body) ≡ map (λ t. t.key) store
  pub count : length (set_body store place body) ≡ length store
  pub places : (B : Behaviour W) (key : W.Key) → type_place B (set_body store place body) key ≡ type_place B store key

-- ## Attribute dictionaries

module _ {A : Type 0} where
  -- the key has the attribute and every other key what it had; a key that is there keeps its place, and a new one goes last
  pub record AttributeIsSet (pairs : List (Text × A)) (key : Text) (a : A) : Type 0 where
    pub set : attribute_at (set_attribute pairs key a) key ≡ Some a
    pub others : (other : Text) → other ≢ key → attribute_at (set_attribute pairs key a) other ≡ attribute_at pairs other
    pub keeps_place : In key (keys_of pairs) → keys_of (set_attribute pairs key a) ≡ keys_of pairs
    pub goes_last : (In key (keys_of pairs) → ⊥) → set_attribute pairs key a ≡ pairs ++ (key, a) ∷ []
    pub distinct : HasDistinctKeys pairs → HasDistinctKeys (set_attribute pairs key a)

  -- the key has none, every other key what it had, and the rest keep their order
  pub record AttributeIsRemoved (pairs : List (Text × A)) (key : Text) : Type 0 where
    pub none : attribute_at (without_attribute pairs key) key ≡ None
    pub others : (other : Text) → other ≢ key → attribute_at (without_attribute pairs key) other ≡ attribute_at pairs other
    pub order : without_attribute pairs key ≡ filter (λ p. not (bytes_eq key p.0)) pairs
    pub distinct : HasDistinctKeys (without_attribute pairs key)

-- ## Lists of verifiers

-- each owner that has an entry stands once, and has exactly the verifiers of its own entries, each once
pub record OwnersAreApart (entries : List (ℕ × List ℕ)) : Type 0 where
  pub once : Distinct (keys_of (deduplicated entries))
  pub owners : (owner : ℕ) → In owner (keys_of (deduplicated entries)) ↔ In owner (keys_of entries)
  pub verifiers : (owner : ℕ) (list : List ℕ) → In (owner, list) (deduplicated entries) → Distinct list × ((x : ℕ) → In x list ↔ ((e : ℕ × List ℕ) × In e entries × (e.0 ≡ owner) × In x e.1))

-- owners stay apart, whatever was handed in
abbrev pub OwnersStayApart : Type 0
OwnersStayApart = (entries : List (ℕ × List ℕ)) → OwnersAreApart entries

module _ (W : Dialect) where
  -- saving is exact, where the dialect's equality is one
  abbrev pub SavedAreExact : Type 0
  SavedAreExact = (K : Kinds W) (b : Beside W) (value : W.Saved) → SavedAreLawful K → SavingIsExact K b value

  -- every call on auxiliary data does what it says, and no more, where what is live was passed
  pub record AuxIsKept : Type 0 where
    pub inserted : (limits : Limits) (b c : Beside W) (data_ : W.Aux) (i : ArenaIndex) → AuxIsSound b → InsertsAux limits b data_ i c → AuxIsInserted b data_ i c
    pub skipped : (limits : Limits) (b c : Beside W) → AuxIsSound b → SkipsAux limits b c → AuxIsSkipped b c
    pub removed : (b : Beside W) (i : ArenaIndex) → AuxIsSound b → AuxIsRemoved b i
    pub named : (b : Beside W) (name : Text) (i : ArenaIndex) → AuxIsSound b → AuxIsNamed b name i
    pub written : (b : Beside W) (i : ArenaIndex) (data_ : W.Aux) → AuxIsSound b → AuxIsWritten b i data_

  -- a body that is set changes nothing else
  abbrev pub BodiesAreSet : Type 0
  BodiesAreSet = (store : List (StoredType W)) (place : ℕ) (body : W.Body) → BodyIsSet store place body

-- a dictionary keeps its order and its other attributes
pub record DictionariesKeepOrder (A : Type 0) : Type 0 where
  pub set : (pairs : List (Text × A)) (key : Text) (a : A) → AttributeIsSet pairs key a
  pub removed : (pairs : List (Text × A)) (key : Text) → HasDistinctKeys pairs → AttributeIsRemoved pairs key
