-- Which identifiers a legaliser gives. A text is the list of its bytes.
use Rattle.std.specs.Prelude.{◌≡◌, ◌≢◌, ℕ, ◌+◌, ◌-◌, ◌^◌, ◌<◌, ◌≤◌, List, [], ◌∷◌, ◌++◌, map, Bool, if◌then◌else◌, Option, None, Some, MatchOption, ◌⊎◌, refl}
use Rattle.std.specs.Char.{is_ascii_alphabetic, is_ascii_alphanumeric}
use Rattle.std.specs.Str.{chars}
use Rattle.std.specs.Fmt.{decimal}
use Rattle.std.specs.Ordering.{nat_cmp}
use Rattle.std.specs.Cmp.Lexicographic.{slice_cmp}
use Rattle.std.specs.FinMap as finite
use Rattle.std.specs.Coded.{Coded, code_by, coded×, coded_list, coded_ℕ}
use Rattle.ir_model.specs.Identifier.{is_identifier}

-- the identifier of each source that was given one, and the number at which the legaliser goes on
pub record Given : Type 0 where
  pub names : finite.FinMap (slice_cmp nat_cmp) (List ℕ)
  pub counter : ℕ

-- what was given is stored as the pair of its fields
abbrev pub given_code : Coded Given
given_code =
    code_by (finite.FinMap (slice_cmp nat_cmp) (List ℕ) × ℕ) (coded× (finite.code (coded_list coded_ℕ) (coded_list coded_ℕ)) coded_ℕ)
    (λ s. (s.names, s.counter)) (λ p. record { names = p.0; counter = p.1 }) (λ _. refl)

-- nothing given yet, with this counter
abbrev pub nothing_given : ℕ → Given
nothing_given counter = record { names = finite.empty; counter = counter }

-- the identifier that the source was given, if any
abbrev pub name_of : Given → List ℕ → Option (List ℕ)
name_of s source = finite.get s.names source

-- the source is given the name, and the counter is set
abbrev pub give : Given → List ℕ → List ℕ → ℕ → Given
give s source name counter = record { names = finite.insert s.names source name; counter = counter }

-- no source was given the name
abbrev pub IsFree : Given → List ℕ → Type 0
IsFree s name = (source : List ℕ) → name_of s source ≢ Some name

-- the character where it may stand, else `_`
abbrev pub kept : (ℕ → Bool) → ℕ → ℕ
kept may_stand c = if may_stand c then c else 95

-- the first character is kept where it is an ASCII letter, each further one where it is ASCII alphanumeric; without any it is `_`
abbrev pub replaced : List ℕ → List ℕ
replaced [] = 95 ∷ []
replaced (c ∷ cs) = kept is_ascii_alphabetic c ∷ map (kept is_ascii_alphanumeric) cs

-- the source where it is an identifier, else its characters with those replaced that may not stand in one
abbrev pub base : List ℕ → List ℕ
base source = if is_identifier source then source else replaced (chars source)

-- the base, `_` and a number in decimal
abbrev pub numbered_text : List ℕ → ℕ → List ℕ
numbered_text text c = text ++ 95 ∷ decimal c

-- c is the least number at or above the counter whose numbered text is free
pub record IsNextNumber (free : List ℕ → Type 0) (counter : ℕ) (text : List ℕ) (c : ℕ) : Type 0 where
  pub from : counter ≤ c
  pub is_free : free (numbered_text text c)
  pub least : (d : ℕ) → counter ≤ d → d < c → ¬ (free (numbered_text text d))

-- the base is chosen where it is free, and the counter stays
pub record ChoosesBase (free : List ℕ → Type 0) (counter : ℕ) (source name : List ℕ) (next : ℕ) : Type 0 where
  pub is_free : free (base source)
  pub name_is : name ≡ base source
  pub next_is : next ≡ counter

-- else the base with the next number, and the counter goes on after it
pub record ChoosesNumbered (free : List ℕ → Type 0) (counter : ℕ) (source name : List ℕ) (next : ℕ) : Type 0 where
  pub number : ℕ
  pub taken : ¬ (free (base source))
  pub is_next : IsNextNumber free counter (base source) number
  pub below : number < 2 ^ 64 - 1
  pub name_is : name ≡ numbered_text (base source) number
  pub next_is : next ≡ number + 1

-- the name for a new source, and the counter after it, by which names are free
abbrev pub Chooses : (List ℕ → Type 0) → ℕ → List ℕ → List ℕ → ℕ → Type 0
Chooses free counter source name next = ChoosesBase free counter source name next ⊎ ChoosesNumbered free counter source name next

-- a new source is given the chosen name
pub record GivesNew (old : Given) (source name : List ℕ) (new : Given) : Type 0 where
  pub chosen : Chooses (IsFree old) old.counter source name new.counter
  pub new_is : new ≡ give old source name new.counter

-- one call gives the source the name: a known source its own, and nothing changes
abbrev pub Gives : Given → List ℕ → List ℕ → Given → Type 0
Gives old source name new = MatchOption (name_of old source) (GivesNew old source name new) (λ known. (name ≡ known) × (new ≡ old))

-- the base is taken, and no number from the counter to below `usize::MAX` makes it free
pub record HasNoName (free : List ℕ → Type 0) (counter : ℕ) (source : List ℕ) : Type 0 where
  pub taken : ¬ (free (base source))
  pub none_free : (c : ℕ) → counter ≤ c → c < 2 ^ 64 - 1 → ¬ (free (numbered_text (base source) c))

-- a new source for which no name is left
pub record IsSpent (s : Given) (source : List ℕ) : Type 0 where
  pub unknown : name_of s source ≡ None
  pub no_name : HasNoName (IsFree s) s.counter source

-- a run of calls, each a source and the name that it was given, from one state to another
abbrev pub NamesInTurn : Given → List (List ℕ × List ℕ) → Given → Type 0
NamesInTurn old [] new = new ≡ old
NamesInTurn old (call ∷ calls) new = (next : Given) × Gives old call.0 call.1 next × NamesInTurn next calls new
