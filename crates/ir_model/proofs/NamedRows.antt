-- The facts of the worked examples of names.
use mathlib.Core.Path.{◌≡◌, refl, sym, ap, ◌∙◌, subst}
use Rattle.std.proofs.Common.{ℕ, ◌+◌, ◌<◌, ◌^◌, ◌-◌, inl, inr, Bool, true, false, ◌||◌, cond, Option, Some, None, List, [], ◌∷◌, ◌++◌, arith}
use Rattle.std.specs.Prelude.{codes, decimal, MatchOption}
use Rattle.std.specs.List.{list_any}
use Rattle.std.specs.Str.{chars}
use Rattle.std.specs.Ordering.{nat_cmp, eq_by_cmp}
use Rattle.std.specs.Cmp.Lexicographic.{slice_cmp, nat_list_cmp_total}
use Rattle.std.specs.FinMap as finite
use Rattle.std.proofs.lemmas.Fmt.{decimal_digit}
use Rattle.ir_model.specs.declared.ids.ArenaIndex.{ArenaIndex}
use Rattle.ir_model.specs.ContextIds.{context_ids}
use Rattle.ir_model.specs.Forest.{Text, Dialect, Forest, Definition}
use Rattle.ir_model.specs.Nesting.{In}
use Rattle.ir_model.specs.Names.{value_id, block_id, unique_name, IsValueName, IsBlockName}
use Rattle.ir_model.specs.Legaliser.{Given, nothing_given, name_of, IsFree, base, numbered_text, Chooses, GivesNew, Gives, NamesInTurn}
use Rattle.ir_model.specs.SmallForests.{bare}
use Rattle.ir_model.proofs.Legalisers.{sources_apart, calls_settle, names_lead_back, text_itself, gives_named, gives_keeps, gives_one}
use Rattle.ir_model.specs.IdForests.{first, second, first_again}
use Rattle.ir_model.specs.NamedRows.{UniqueNames, named, constant, LegaliseClashes, clashing_calls}

pub zero_text : decimal 0 ≡ codes "0"
zero_text = decimal_digit 0 (omega arith)

one_text : decimal 1 ≡ codes "1"
one_text = decimal_digit 1 (omega arith)

two_text : decimal 2 ≡ codes "2"
two_text = decimal_digit 2 (omega arith)

pub block_one : block_id first ≡ codes "block1v1"
block_one = ap (λ t. codes "block" ++ (t ++ codes "v" ++ t)) one_text

pub block_two : block_id second ≡ codes "block2v1"
block_two = ap (λ t. codes "block" ++ (t ++ codes "v" ++ decimal 1)) two_text ∙ ap (λ t. codes "block2v" ++ t) one_text

value_zero : value_id 0 ≡ codes "v0"
value_zero = ap (λ t. codes "v" ++ t) zero_text

block_three : block_id first_again ≡ codes "block1v3"
block_three = ap (λ t. codes "block" ++ (t ++ codes "v" ++ decimal 3)) one_text ∙ ap (λ t. codes "block1v" ++ t) (decimal_digit 3 (omega arith))

-- texts that the test tells apart
pub differ : (t u : Text) → eq_by_cmp (slice_cmp nat_cmp) t u ≡ false → t ≡ u → ⊥
differ t u n e = let k : eq_by_cmp (slice_cmp nat_cmp) t u ≡ true = ap (eq_by_cmp (slice_cmp nat_cmp) t) (sym e) ∙ text_itself t in cc

-- a block has one unique name
pub one_block_name : {W : Dialect} (f : Forest context_ids W) (b : ArenaIndex) (t u : Text) → IsBlockName f b t → IsBlockName f b u → t ≡ u
one_block_name f b t u p q =
    let e : Some p.value ≡ Some q.value = sym p.found ∙ q.found in
    let s : p.value ≡ q.value = cc in
    p.holds ∙ ap (λ r. unique_name r.label (block_id b)) s ∙ sym q.holds

unlabelled : IsBlockName named first (codes "block1v1")
unlabelled = record { value = _; found = refl; holds = sym block_one }

labelled : IsBlockName named second (codes "entry_block2v1")
labelled = record { value = _; found = refl; holds = sym (ap (unique_name (Some (codes "entry"))) block_two) }

-- the constant has one result, which has one given name
value_text : (text : Text) → IsValueName named constant text → text ≡ codes "c0_v0"
value_text text h = by h.1.1
  where
    by : In h.1.0 (record { number = 0; ty = 0; name = Some (codes "c0") } ∷ []) → text ≡ codes "c0_v0"
    by (inl e) =
        let n : h.0 ≡ Some (codes "c0") = sym h.1.3 ∙ ap (λ (x : Definition context_ids bare). x.name) e in
        h.2 ∙ ap (λ m. unique_name m (value_id 0)) n ∙ ap (unique_name (Some (codes "c0"))) value_zero
    by (inr k) = elim k [ ]

pub unique_names : UniqueNames
unique_names = record {
  unlabelled = unlabelled;
  labelled = labelled;
  value = (Some (codes "c0"), (record { number = 0; ty = 0; name = Some (codes "c0") }, inl refl, refl, refl), sym (ap (unique_name (Some (codes "c0"))) value_zero));
  later_version = block_three;
  no_other_version = λ h. differ (codes "block1v1") (codes "block1v3") refl (one_block_name named first (codes "block1v1") (codes "block1v3") unlabelled h);
  not_without = λ h. differ (codes "entry_block2v1") (codes "block2v1") refl (one_block_name named second (codes "entry_block2v1") (codes "block2v1") labelled h);
  not_alone = λ h. differ (codes "entry_block2v1") (codes "entry") refl (one_block_name named second (codes "entry_block2v1") (codes "entry") labelled h);
  not_behind = λ h. differ (codes "v0_c0") (codes "c0_v0") refl (value_text (codes "v0_c0") h);
  like_a_block = ap (unique_name (Some (codes "block1"))) value_zero;
}

-- what is given, as a list of pairs
abbrev pub names_given : List (Text × Text) → finite.FinMap (slice_cmp nat_cmp) Text
names_given [] = finite.empty
names_given (p ∷ pairs) = finite.insert (names_given pairs) p.0 p.1

abbrev pub given : List (Text × Text) → ℕ → Given
given pairs counter = record { names = names_given pairs; counter = counter }

abbrev pub same_text : Text → Text → Bool
same_text = eq_by_cmp (slice_cmp nat_cmp)

abbrev pub look_up : List (Text × Text) → Text → Option Text
look_up [] q = None
look_up (p ∷ pairs) q = cond (same_text q p.0) (Some p.1) (look_up pairs q)

pub found : (pairs : List (Text × Text)) (counter : ℕ) (q : Text) → name_of (given pairs counter) q ≡ look_up pairs q
found [] counter q = finite.get-empty (slice_cmp nat_cmp) q
found (p ∷ pairs) counter q =
    finite.get-insert nat_list_cmp_total (names_given pairs) p.0 p.1 q ∙ ap (λ m. cond (same_text q p.0) (Some p.1) m) (found pairs counter q)

-- no pair has the name
not_found : (pairs : List (Text × Text)) (name q : Text) → list_any (λ p. same_text name p.1) pairs ≡ false → look_up pairs q ≡ Some name → ⊥
not_found [] name q n h = cc
not_found (p ∷ pairs) name q n h = at (not_found pairs name q) (same_text q p.0) (same_text name p.1) refl n h
  where
    at : (list_any (λ r. same_text name r.1) pairs ≡ false → look_up pairs q ≡ Some name → ⊥) → (t u : Bool) → same_text name p.1 ≡ u
        → (u || list_any (λ r. same_text name r.1) pairs) ≡ false → cond t (Some p.1) (look_up pairs q) ≡ Some name → ⊥
    at more true true e n h = cc
    at more true false e n h = (let s : p.1 ≡ name = cc in let k : same_text name p.1 ≡ true = ap (same_text name) s ∙ text_itself name in cc)
    at more false true e n h = cc
    at more false false e n h = more n h

pub free_by : (pairs : List (Text × Text)) (counter : ℕ) (name : Text) → list_any (λ p. same_text name p.1) pairs ≡ false → IsFree (given pairs counter) name
free_by pairs counter name none q e = not_found pairs name q none (sym (found pairs counter q) ∙ e)

pub taken_by : (pairs : List (Text × Text)) (counter : ℕ) (name q : Text) → look_up pairs q ≡ Some name → IsFree (given pairs counter) name → ⊥
taken_by pairs counter name q e free = free q (found pairs counter q ∙ e)

-- what a call gives a new source
new_given : (pairs : List (Text × Text)) (counter next : ℕ) (source name : Text) → look_up pairs source ≡ None → Chooses (IsFree (given pairs counter)) counter source name next
    → Gives (given pairs counter) source name (given ((source, name) ∷ pairs) next)
new_given pairs counter next source name unknown chosen =
    subst (λ m. MatchOption m (GivesNew (given pairs counter) source name (given ((source, name) ∷ pairs) next)) (λ known. (name ≡ known) × (given ((source, name) ∷ pairs) next ≡ given pairs counter)))
    (sym (found pairs counter source ∙ unknown)) (record { chosen = chosen; new_is = refl })

-- its base, where that is free
pub gives_base : (pairs : List (Text × Text)) (counter : ℕ) (source name : Text) → look_up pairs source ≡ None → base source ≡ name → list_any (λ p. same_text name p.1) pairs ≡ false
    → Gives (given pairs counter) source name (given ((source, name) ∷ pairs) counter)
gives_base pairs counter source name unknown is free = new_given pairs counter counter source name unknown
    (inl (record { is_free = subst (IsFree (given pairs counter)) (sym is) (free_by pairs counter name free); name_is = sym is; next_is = refl }))

-- its base with the counter, where the base is taken and that is free
pub gives_numbered : (pairs : List (Text × Text)) (counter : ℕ) (source text name holder : Text) → look_up pairs source ≡ None → base source ≡ text → look_up pairs holder ≡ Some text
    → numbered_text text counter ≡ name → list_any (λ p. same_text name p.1) pairs ≡ false → counter < 2 ^ 64 - 1
    → Gives (given pairs counter) source name (given ((source, name) ∷ pairs) (counter + 1))
gives_numbered pairs counter source text name holder unknown is held named free small = new_given pairs counter (counter + 1) source name unknown
    (inr (record {
      number = counter;
      taken = λ f. taken_by pairs counter text holder held (subst (IsFree (given pairs counter)) is f);
      is_next = record {
        from = omega arith;
        is_free = subst (λ t. IsFree (given pairs counter) (numbered_text t counter)) (sym is) (subst (IsFree (given pairs counter)) (sym named) (free_by pairs counter name free));
        least = λ d p q. absurd (omega (arith, p, q));
      };
      below = omega (arith, small);
      name_is = sym named ∙ ap (λ t. numbered_text t counter) (sym is);
      next_is = refl;
    }))

hello_dot : base (codes "hello.") ≡ codes "hello_"
unfolding chars
hello_dot = refl

pub empty_base : base (codes "") ≡ codes "_"
unfolding chars
empty_base = refl

clashing_run : (s : Given) × NamesInTurn (nothing_given 0) clashing_calls s
clashing_run = (
  _,
  (
    _,
    gives_base [] 0 (codes "hello_") (codes "hello_") refl refl refl,
    (
      _,
      gives_numbered ((codes "hello_", codes "hello_") ∷ []) 0 (codes "hello.") (codes "hello_") (codes "hello__0") (codes "hello_") refl hello_dot refl (ap (λ t. codes "hello__" ++ t) zero_text) refl (omega arith),
      (
        _,
        gives_numbered ((codes "hello.", codes "hello__0") ∷ (codes "hello_", codes "hello_") ∷ []) 1 (codes "hello__0") (codes "hello__0") (codes "hello__0_1") (codes "hello.") refl refl refl (ap (λ t. codes "hello__0_" ++ t) one_text) refl (omega arith),
        (
          _,
          gives_base ((codes "hello__0", codes "hello__0_1") ∷ (codes "hello.", codes "hello__0") ∷ (codes "hello_", codes "hello_") ∷ []) 2 (codes "") (codes "_") refl empty_base refl,
          (_, gives_numbered ((codes "", codes "_") ∷ (codes "hello__0", codes "hello__0_1") ∷ (codes "hello.", codes "hello__0") ∷ (codes "hello_", codes "hello_") ∷ []) 2 (codes "_") (codes "_") (codes "__2") (codes "") refl refl refl (ap (λ t. codes "__" ++ t) two_text) refl (omega arith), refl),
        ),
      ),
    ),
  ),
)

pub clashes : LegaliseClashes
clashes = record {
  given = clashing_run;
  alone = λ calls s e r. (calls_settle 0 calls clashing_calls s clashing_run.0 e r clashing_run.1).0;
  back = λ s call source r h. names_lead_back 0 clashing_calls s call source r h;
  not_numbered = λ s r. differ (codes "hello_") (codes "hello__0") refl (gives_one (nothing_given 0) _ r.0 (codes "hello_") (codes "hello_") (codes "hello__0") (gives_base [] 0 (codes "hello_") (codes "hello_") refl refl refl) r.1).0;
  not_twice = λ s r.
      let one = gives_named (nothing_given 0) r.0 (codes "hello_") (codes "hello_") r.1 in
      let kept = gives_keeps r.0 r.2.0 (codes "hello.") (codes "hello_") (codes "hello_") (codes "hello_") r.2.1 one in
      let two = gives_named r.0 r.2.0 (codes "hello.") (codes "hello_") r.2.1 in
      let same = sources_apart 0 ((codes "hello_", codes "hello_") ∷ (codes "hello.", codes "hello_") ∷ []) r.2.0 (r.0, r.1, (r.2.0, r.2.1, refl)) (codes "hello_") (codes "hello.") (codes "hello_") kept two in
      let wrong : true ≡ false = ap (same_text (codes "hello_")) same in
      cc;
}
