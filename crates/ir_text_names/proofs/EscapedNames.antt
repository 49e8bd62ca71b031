-- Names with escapes, and those without.
use Rattle.std.proofs.Common.{◌≡◌, ℕ, ◌+◌, ◌<◌, ◌≤◌, ◌&&◌, Bool, true, false, cond, List, [], ◌∷◌, ◌++◌, length, take, drop, refl, sym, ap, subst, ◌∙◌, arith}
use Rattle.std.proofs.Math.Seq.{drop-append_seam}
use Rattle.std.proofs.lemmas.Bool.{and_parts, false≢true}
use Rattle.std.proofs.lemmas.List.{drop_more, take_at, length-append}
use Rattle.ir_text_strings.specs.Escapes.{has_escapes, unescaped}
use Rattle.ir_text_strings.proofs.FirstBytes.{unescaped_same}
use Rattle.ir_text_tree.specs.declared.row.Part.{Part}
use Rattle.ir_text_tree.specs.declared.row.Part.TheVariants as parts
use Rattle.ir_text_tree.specs.declared.row.Row.{Row}
use Rattle.ir_text_names.specs.declared.given.NameKind.{NameKind}
use Rattle.ir_text_names.specs.declared.given.NameKind.TheVariants as kinds
use Rattle.ir_text_names.specs.Rows.{no_row, row_of, piece}
use Rattle.ir_text_names.specs.Given.{giver, is_quoted, between_quotes, plain_name, is_escaped_key, is_escaped, escaped_name_of, escaped_names, name_of}

quoted_key : (part : Part) (t : List ℕ) → is_escaped_key part t ≡ true → is_quoted t ≡ true
quoted_key parts.Key t e = (and_parts (is_quoted t) (has_escapes (between_quotes t)) e).0
quoted_key _ t e = absurd (false≢true e)

-- a name with escapes stands in quotes
pub quoted_if_escaped : (kind : NameKind) (part : Part) (t : List ℕ) → is_escaped kind part t ≡ true → is_quoted t ≡ true
quoted_if_escaped kinds.Block part t e = absurd (false≢true e)
quoted_if_escaped kinds.Key part t e = quoted_key part t e

quoted_name : (kind : NameKind) (t : List ℕ) → is_quoted t ≡ true → is_escaped kind (giver kind) t ≡ true → unescaped (between_quotes t) ≡ name_of (giver kind) t
quoted_name kinds.Block t q e = absurd (false≢true e)
quoted_name kinds.Key t q e = sym (ap (λ (b : Bool). cond b (unescaped (between_quotes t)) t) q)

-- the name that a text with escapes is
pub name_escaped : (kind : NameKind) (part : Part) (t : List ℕ) → is_escaped kind part t ≡ true → part ≡ giver kind → unescaped (between_quotes t) ≡ name_of (giver kind) t
name_escaped kind part t e p = quoted_name kind t (quoted_if_escaped kind part t e) (subst (λ (q : Part). is_escaped kind q t ≡ true) p e)

key_plain : (b : Bool) (m t : List ℕ) → (b && has_escapes m) ≡ false → cond b m t ≡ cond b (unescaped m) t
key_plain true m t e = sym (unescaped_same m e)
key_plain false m t e = refl

plain_is : (kind : NameKind) (t : List ℕ) → is_escaped kind (giver kind) t ≡ false → plain_name kind t ≡ name_of (giver kind) t
plain_is kinds.Block t e = refl
plain_is kinds.Key t e = key_plain (is_quoted t) (between_quotes t) t e

-- the name that a text without escapes is
pub name_plain : (kind : NameKind) (part : Part) (t : List ℕ) → is_escaped kind part t ≡ false → part ≡ giver kind → plain_name kind t ≡ name_of (giver kind) t
name_plain kind part t e p = plain_is kind t (subst (λ (q : Part). is_escaped kind q t ≡ false) p e)

unescaped_key : (part : Part) (t : List ℕ) → (part ≡ parts.Key → ⊥) → is_escaped_key part t ≡ false
unescaped_key parts.Key t other = absurd (other refl)
unescaped_key _ t other = refl

unescaped_part : (kind : NameKind) (part : Part) (t : List ℕ) → (part ≡ giver kind → ⊥) → is_escaped kind part t ≡ false
unescaped_part kinds.Block part t other = refl
unescaped_part kinds.Key part t other = unescaped_key part t other

-- a row that gives no such name gives none with escapes
pub unescaped_other : (kind : NameKind) (text : List ℕ) (r : Row) → (r.part ≡ giver kind → ⊥) → escaped_name_of kind text r ≡ []
unescaped_other kind text r other = ap (λ (b : Bool). cond b (unescaped (between_quotes (piece text r.span))) []) (unescaped_part kind r.part (piece text r.span) other)

-- what stands in front of a list
pub front_fits : (front rest all : List ℕ) (n : ℕ) → all ≡ front ++ rest → n ≡ length front → n ≤ length all
front_fits front rest all n e is = let both : length all ≡ length front + length rest = ap length e ∙ length-append front rest in omega (arith, both, is)

pub front_taken : (front rest all : List ℕ) (n : ℕ) → all ≡ front ++ rest → n ≡ length front → take n all ≡ front
front_taken front rest all n e is = ap (λ (l : List ℕ). take n l) e ∙ take_at front rest n (sym is)

pub front_dropped : (front rest all : List ℕ) → all ≡ front ++ rest → drop (length front) all ≡ rest
front_dropped front rest all e = ap (drop (length front)) e ∙ drop-append_seam front rest

pub front_again : (front rest all : List ℕ) → all ≡ front ++ rest → all ≡ front ++ drop (length front) all
front_again front rest all e = e ∙ ap (λ (l : List ℕ). front ++ l) (sym (front_dropped front rest all e))

-- the names from row i on
pub names_from : (kind : NameKind) (text : List ℕ) (rows : List Row) (i : ℕ) (behind : List ℕ) → i < length rows → behind ≡ escaped_names kind text (drop i rows) → behind ≡ escaped_name_of kind text (row_of rows i) ++ escaped_names kind text (drop (i + 1) rows)
names_from kind text rows i behind lt e = e ∙ ap (escaped_names kind text) (drop_more rows i no_row lt)

-- no block's name has escapes
pub no_blocks_escaped : (text : List ℕ) (rows : List Row) → escaped_names kinds.Block text rows ≡ []
no_blocks_escaped text [] = refl
no_blocks_escaped text (r ∷ rows) = no_blocks_escaped text rows
