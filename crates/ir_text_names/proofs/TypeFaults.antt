-- Operands whose types differ from those of the values that they name.
use Rattle.std.proofs.Common.{◌≡◌, ℕ, ◌<◌, List, length, get_or, Option, None, refl, sym, ap, subst, ◌∙◌}
use Rattle.ir_text_tree.specs.declared.row.Part.{Part}
use Rattle.ir_text_tree.specs.declared.row.Part.TheVariants as parts
use Rattle.ir_text_tree.specs.declared.row.Row.{Row}
use Rattle.ir_text_names.specs.declared.counting.Counted.TheVariants as counted
use Rattle.ir_text_names.specs.declared.firsts.Found.{Found}
use Rattle.ir_text_names.specs.declared.fault.Wrong.{Wrong}
use Rattle.ir_text_names.specs.declared.fault.Wrong.TheVariants as wrongs
use Rattle.ir_text_names.specs.Firsts.{IsFirst, IsFirstWrong, told, sooner}
use Rattle.ir_text_names.specs.Types.{IsTypeOf, IsTypeOther, IsEntryOther, IsTypeWrong}
use Rattle.ir_text_names.specs.Uses.{IsNameWrong, IsUseWrong}
use Rattle.ir_text_names.specs.Values.{IsValueAgain, IsNamedUnlessAgain}
use Rattle.ir_text_names.proofs.FirstRows.{told_first, sooner_first, first_as, first_wrong_as}
use Rattle.ir_text_names.proofs.NamedBlocks.{part_within}
use Rattle.ir_text_names.proofs.PlacedRows.{counted_within}
use Rattle.ir_text_names.proofs.Indices.{entry_names, named_entry}

pub other_is : (text : List ℕ) (rows : List Row) (table : List (Option ℕ)) (o : Option ℕ) → IsFirst (IsValueAgain text rows) (length rows) None → ((u : ℕ) → u < length rows → IsNamedUnlessAgain text rows u (get_or table u None))
    → IsFirst (IsEntryOther text rows table) (length rows) o → IsFirst (IsTypeOther text rows) (length rows) o
other_is text rows table o clear named h =
    first_as (IsEntryOther text rows table) (IsTypeOther text rows) (length rows) o (λ u lt b. (clear, (b.0, entry_names text rows u b.0 (get_or table u None) (named u lt) b.1, b.3)))
    (λ u lt b. let d = b.1.0 in (d, named_entry text rows u d (get_or table u None) lt clear (named u lt) b.1.1, b.1.1.1.0, b.1.2)) h

type_to : (text : List ℕ) (rows : List Row) (v : Wrong) (i : ℕ) → (v ≡ wrongs.TypeOther) × IsTypeOther text rows i → IsTypeWrong text rows v i
type_to text rows v i a = subst (λ (w : Wrong). IsTypeWrong text rows w i) (sym a.0) a.1

type_from : (text : List ℕ) (rows : List Row) (v : Wrong) (i : ℕ) → IsTypeWrong text rows v i → (v ≡ wrongs.TypeOther) × IsTypeOther text rows i
type_from text rows wrongs.TypeOther i h = (refl, h)
type_from text rows _ i h = absurd h

pub type_wrong : (text : List ℕ) (rows : List Row) (o : Option ℕ) → IsFirst (IsTypeOther text rows) (length rows) o → IsFirstWrong (IsTypeWrong text rows) (length rows) (told o wrongs.TypeOther)
type_wrong text rows o h =
    first_wrong_as (λ v i. (v ≡ wrongs.TypeOther) × IsTypeOther text rows i) (IsTypeWrong text rows) (length rows) (told o wrongs.TypeOther) (type_to text rows) (type_from text rows) (told_first (IsTypeOther text rows) wrongs.TypeOther (length rows) o h)

pub all_uses : (text : List ℕ) (rows : List Row) (names typed found : Option Found) (odd : Option ℕ) → typed ≡ told odd wrongs.TypeOther → found ≡ sooner names typed → IsFirstWrong (IsNameWrong text rows) (length rows) names
    → IsFirst (IsTypeOther text rows) (length rows) odd → IsFirstWrong (IsUseWrong text rows) (length rows) found
all_uses text rows names typed found odd e f h j =
    let n = length rows in
    let is : found ≡ sooner names (told odd wrongs.TypeOther) = f ∙ ap (sooner names) e in
    subst (IsFirstWrong (IsUseWrong text rows) n) (sym is) (sooner_first (IsNameWrong text rows) (IsTypeWrong text rows) n names (told odd wrongs.TypeOther) h (type_wrong text rows odd j))

argument_type_is_no_result : parts.Result ≡ parts.ArgumentType → ⊥
argument_type_is_no_result e = cc

-- the type of a value is one of the rows
pub type_within : (p : Part) (text : List ℕ) (rows : List Row) (d k s : ℕ) → IsTypeOf p text rows d k s → s < length rows
type_within parts.Argument text rows d k s h = part_within rows s parts.ArgumentType h.1 argument_type_is_no_result
type_within parts.Result text rows d k s h = counted_within counted.ResultTypes rows s h.1.0
type_within _ text rows d k s h = absurd h
