-- The facts of the examples of identifiers.
use mathlib.Core.Path.{◌≡◌, refl, sym, ap, subst}
use Rattle.std.proofs.Common.{ℕ, ◌^◌, ◌-◌, inl, inr, Some, List, [], ◌∷◌, ◌++◌, arith}
use Rattle.std.specs.Prelude.{codes, decimal, MatchOption}
use Rattle.std.specs.Str.{chars}
use Rattle.std.proofs.lemmas.Fmt.{decimal-digits_value}
use Rattle.std.proofs.lemmas.Str.Parse.{numerals_by_value, tells_all_ascii_digits}
use Rattle.ir_model.specs.Forest.{Text}
use Rattle.ir_model.specs.Legaliser.{Given, nothing_given, name_of, IsFree, base, numbered_text, GivesNew, Gives, NamesInTurn, IsSpent}
use Rattle.ir_model.specs.LetterRows.{GivesAlone, e_acute, LegaliseFirstLetters, last_calls, earlier_calls, LegaliseCounterSpent}
use Rattle.ir_model.proofs.Legalisers.{calls_settle, names_lead_back, gives_one}
use Rattle.ir_model.proofs.NamedRows.{zero_text, differ, given, found, taken_by, gives_base, gives_numbered, empty_base}

alone : (counter : ℕ) (calls : List (Text × Text)) → (s : Given) × NamesInTurn (nothing_given counter) calls s → GivesAlone counter calls
alone counter calls run = record { given = run; alone = λ others s e r. (calls_settle counter others calls s run.0 e r run.1).0 }

-- the number in decimal
last_text : decimal (2 ^ 64 - 2) ≡ codes "18446744073709551614"
last_text = decimal-digits_value (numerals_by_value _ tells_all_ascii_digits) (codes "18446744073709551614") refl (omega arith) (λ e. absurd (omega (arith, e))) (omega arith)

earlier_text : decimal (2 ^ 64 - 3) ≡ codes "18446744073709551613"
earlier_text = decimal-digits_value (numerals_by_value _ tells_all_ascii_digits) (codes "18446744073709551613") refl (omega arith) (λ e. absurd (omega (arith, e))) (omega arith)

acute_base : base e_acute ≡ codes "_"
unfolding chars
acute_base = refl

digit_base : base (codes "1x") ≡ codes "_x"
unfolding chars
digit_base = refl

point_base : base (codes "b.") ≡ codes "b_"
unfolding chars
point_base = refl

mark_base : base (codes "b!") ≡ codes "b_"
unfolding chars
mark_base = refl

-- a single source is given its base, and nothing else
single : (source name : Text) → base source ≡ name → Gives (nothing_given 0) source name (given ((source, name) ∷ []) 0)
single source name is = gives_base [] 0 source name refl is refl

not_given : (source name other : Text) → base source ≡ name → (name ≡ other → ⊥) → (s : Given) → NamesInTurn (nothing_given 0) ((source, other) ∷ []) s → ⊥
not_given source name other is apart s r = apart (gives_one (nothing_given 0) _ r.0 source name other (single source name is) r.1).0

pub first_letters : LegaliseFirstLetters
first_letters = record {
  underscore_then_empty = alone 0 _ (
    _,
    (
      _,
      gives_base [] 0 (codes "_") (codes "_") refl refl refl,
      (_, gives_numbered ((codes "_", codes "_") ∷ []) 0 (codes "") (codes "_") (codes "__0") (codes "_") refl empty_base refl (ap (λ t. codes "__" ++ t) zero_text) refl (omega arith), refl),
    ),
  );
  past_ascii = alone 0 _ (_, (_, single e_acute (codes "_") acute_base, refl));
  digit_first = alone 0 _ (_, (_, single (codes "1x") (codes "_x") digit_base, refl));
  not_two = not_given e_acute (codes "_") (codes "__") acute_base (differ (codes "_") (codes "__") refl);
  not_kept = not_given (codes "1x") (codes "_x") (codes "1x") digit_base (differ (codes "_x") (codes "1x") refl);
  not_put_before = not_given (codes "1x") (codes "_x") (codes "_1x") digit_base (differ (codes "_x") (codes "_1x") refl);
  lower = refl;
  upper = refl;
  no_point = λ e. cc;
  no_digit_first = λ e. cc;
  no_point_first = λ e. cc;
  not_empty = λ e. cc;
}

-- ## The last number

-- where no name is left none is given
spent_gives : (s t : Given) (source name : Text) → IsSpent s source → Gives s source name t → ⊥
spent_gives s t source name spent g = by (subst (λ m. MatchOption m (GivesNew s source name t) (λ known. (name ≡ known) × (t ≡ s))) spent.unknown g)
  where
    by : GivesNew s source name t → ⊥
    by n = elim n.chosen [ inl p ↦ spent.no_name.taken p.is_free | inr p ↦ spent.no_name.none_free p.number p.is_next.from (omega (arith, p.below)) p.is_next.is_free ]

-- what was given after the last calls, and after those one number earlier
abbrev last_pairs : List (Text × Text)
last_pairs = (codes "b_", codes "b__18446744073709551614") ∷ (codes "b.", codes "b_") ∷ []

abbrev earlier_pairs : List (Text × Text)
earlier_pairs = (codes "b_", codes "b__18446744073709551613") ∷ (codes "b.", codes "b_") ∷ []

first_call : (counter : ℕ) → Gives (nothing_given counter) (codes "b.") (codes "b_") (given ((codes "b.", codes "b_") ∷ []) counter)
first_call counter = gives_base [] counter (codes "b.") (codes "b_") refl point_base refl

last_number : numbered_text (codes "b_") (2 ^ 64 - 2) ≡ codes "b__18446744073709551614"
last_number = ap (λ t. codes "b__" ++ t) last_text

last_run : NamesInTurn (nothing_given (2 ^ 64 - 2)) last_calls (given last_pairs (2 ^ 64 - 1))
last_run = (
  _,
  first_call (2 ^ 64 - 2),
  (_, gives_numbered ((codes "b.", codes "b_") ∷ []) (2 ^ 64 - 2) (codes "b_") (codes "b_") (codes "b__18446744073709551614") (codes "b.") refl refl refl last_number refl (omega arith), refl),
)

earlier_number : Gives (given ((codes "b.", codes "b_") ∷ []) (2 ^ 64 - 3)) (codes "b_") (codes "b__18446744073709551613") (given earlier_pairs (2 ^ 64 - 2))
earlier_number = gives_numbered ((codes "b.", codes "b_") ∷ []) (2 ^ 64 - 3) (codes "b_") (codes "b_") (codes "b__18446744073709551613") (codes "b.") refl refl refl (ap (λ t. codes "b__" ++ t) earlier_text) refl (omega arith)

earlier_run : NamesInTurn (nothing_given (2 ^ 64 - 3)) earlier_calls (given earlier_pairs (2 ^ 64 - 2))
earlier_run = (_, first_call (2 ^ 64 - 3), (_, earlier_number, refl))

third_number : Gives (given earlier_pairs (2 ^ 64 - 2)) (codes "b!") (codes "b__18446744073709551614") (given ((codes "b!", codes "b__18446744073709551614") ∷ earlier_pairs) (2 ^ 64 - 1))
third_number = gives_numbered earlier_pairs (2 ^ 64 - 2) (codes "b!") (codes "b_") (codes "b__18446744073709551614") (codes "b.") refl mark_base refl last_number refl (omega arith)

third_run : NamesInTurn (nothing_given (2 ^ 64 - 3)) (earlier_calls ++ (codes "b!", codes "b__18446744073709551614") ∷ []) (given ((codes "b!", codes "b__18446744073709551614") ∷ earlier_pairs) (2 ^ 64 - 1))
third_run = (_, first_call (2 ^ 64 - 3), (_, earlier_number, (_, third_number, refl)))

-- after these calls the legaliser is in no other state
after_last : (s : Given) → NamesInTurn (nothing_given (2 ^ 64 - 2)) last_calls s → s ≡ given last_pairs (2 ^ 64 - 1)
after_last s r = (calls_settle (2 ^ 64 - 2) last_calls last_calls s (given last_pairs (2 ^ 64 - 1)) refl r last_run).1

last_spent : IsSpent (given last_pairs (2 ^ 64 - 1)) (codes "b!")
last_spent = record {
  unknown = found last_pairs (2 ^ 64 - 1) (codes "b!");
  no_name = record {
    taken = λ f. taken_by last_pairs (2 ^ 64 - 1) (codes "b_") (codes "b.") refl (subst (IsFree (given last_pairs (2 ^ 64 - 1))) mark_base f);
    none_free = λ c from below f. omega (arith, from, below);
  };
}

not_spent : (s : Given) → NamesInTurn (nothing_given (2 ^ 64 - 3)) earlier_calls s → IsSpent s (codes "b!") → ⊥
not_spent s r spent =
    let same = (calls_settle (2 ^ 64 - 3) earlier_calls earlier_calls s (given earlier_pairs (2 ^ 64 - 2)) refl r earlier_run).1 in
    spent_gives (given earlier_pairs (2 ^ 64 - 2)) _ (codes "b!") (codes "b__18446744073709551614") (subst (λ t. IsSpent t (codes "b!")) same spent) third_number

named_first : (s : Given) → NamesInTurn (nothing_given (2 ^ 64 - 2)) last_calls s → name_of s (codes "b.") ≡ Some (codes "b_")
named_first s r = (names_lead_back (2 ^ 64 - 2) last_calls s (codes "b.", codes "b_") (codes "b.") r (inl refl)).1 refl

pub counter_spent : LegaliseCounterSpent
counter_spent = record {
  last_is_given = alone (2 ^ 64 - 2) last_calls (_, last_run);
  spent = λ s r. subst (λ t. IsSpent t (codes "b!")) (sym (after_last s r)) last_spent;
  no_third = λ s name r. spent_gives r.2.0 r.2.2.0 (codes "b!") name (subst (λ t. IsSpent t (codes "b!")) (sym (after_last r.2.0 (r.0, r.1, (r.2.0, r.2.1, refl)))) last_spent) r.2.2.1;
  known_again = λ s r. subst (λ m. MatchOption m (GivesNew s (codes "b.") (codes "b_") s) (λ known. (codes "b_" ≡ known) × (s ≡ s))) (sym (named_first s r)) (refl, refl);
  leads_back = λ s source r. names_lead_back (2 ^ 64 - 2) last_calls s (codes "b.", codes "b_") source r (inl refl);
  not_spent_before = not_spent;
  third_before = alone (2 ^ 64 - 3) _ (_, third_run);
}
