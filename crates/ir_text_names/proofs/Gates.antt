-- Names are looked for only at rows that give or use one.
use Rattle.std.proofs.Common.{◌≡◌, ◌↔◌, ◌||◌, ℕ, ◌<◌, Bool, true, false, cond, leb, List, length, get_or, set, Option, Some, None, IfSome, refl, sym, ap, subst, ◌∙◌, ⊎_elim}
use Rattle.std.proofs.lemmas.Bool.{or_cases, false≢true}
use Rattle.std.proofs.lemmas.List.{length-set, get_or-set_same, get_or-set_other}
use Rattle.ir_text_tree.specs.declared.row.Part.{Part}
use Rattle.ir_text_tree.specs.declared.row.Part.TheVariants as parts
use Rattle.ir_text_names.specs.Values.{defines, still_open, unless_ended, clashes, reached, begins_before}

-- what is found, where it is looked for at a row of either sort
pub asked_is : (holds uses any : Bool) (k o : Option ℕ) → any ≡ (holds || uses) → o ≡ cond any k None → o ≡ cond (holds || uses) k None
asked_is holds uses any k o e f = f ∙ ap (λ (b : Bool). cond b k None) e

close_is_no_operand : parts.Close ≡ parts.Operand → ⊥
close_is_no_operand e = cc

pub or_none : (a b : Bool) → (a || b) ≡ false → (a ≡ false) × (b ≡ false)
or_none false b e = (refl, e)
or_none true b e = absurd (false≢true (sym e))

-- a row that gives or uses a name ends no region
pub named_is_no_close : (p : Part) (holds uses : Bool) → holds ≡ defines p → ((uses ≡ true) ↔ (p ≡ parts.Operand)) → (holds || uses) ≡ true → p ≡ parts.Close → ⊥
named_is_no_close p holds uses e f any is =
    ⊎_elim (λ (h : holds ≡ true). false≢true (sym (e ∙ ap (λ (q : Part). defines q) is) ∙ h)) (λ (u : uses ≡ true). close_is_no_operand (sym is ∙ f.0 u)) (or_cases holds uses any)

no_begin : (regions : List ℕ) (n : ℕ) (o : Option ℕ) → begins_before false regions n o ≡ false
no_begin regions n None = refl
no_begin regions n (Some d) = refl

pub begin_gated : (holds lacks : Bool) (regions : List ℕ) (n : ℕ) (k : Option ℕ) → begins_before holds regions n (cond (holds || lacks) k None) ≡ begins_before holds regions n k
begin_gated true lacks regions n k = refl
begin_gated false lacks regions n k = no_begin regions n (cond (false || lacks) k None) ∙ sym (no_begin regions n k)

pub lack_gated : (holds lacks : Bool) (k : Option ℕ) → lacks ≡ true → cond (holds || lacks) k None ≡ k
lack_gated true lacks k e = refl
lack_gated false lacks k e = ap (λ (b : Bool). cond b k None) e

-- ---- what is found is one of so many rows

pub gated_within : (b : Bool) (k o : Option ℕ) (m : ℕ) → o ≡ cond b k None → IfSome k (λ d. d < m) → IfSome o (λ d. d < m)
gated_within true k o m e h = subst (λ (x : Option ℕ). IfSome x (λ d. d < m)) (sym e) h
gated_within false k o m e h = subst (λ (x : Option ℕ). IfSome x (λ d. d < m)) (sym e) tt

cond_within : (b : Bool) (d m : ℕ) → d < m → IfSome (cond b None (Some d)) (λ d. d < m)
cond_within true d m h = tt
cond_within false d m h = h

unless_within : (d : ℕ) (o : Option ℕ) (m : ℕ) → d < m → IfSome (unless_ended d o) (λ d. d < m)
unless_within d None m h = h
unless_within d (Some k) m h = cond_within (leb d k) d m h

pub open_within : (ends : ℕ → Option ℕ) (regions : List ℕ) (o : Option ℕ) (m : ℕ) → IfSome o (λ d. d < m) → IfSome (still_open ends regions o) (λ d. d < m)
open_within ends regions None m h = tt
open_within ends regions (Some d) m h = unless_within d (ends (get_or regions d 0)) m h

reach_by : (b : Bool) (d m : ℕ) → d < m → IfSome (cond b (Some d) None) (λ d. d < m)
reach_by true d m h = h
reach_by false d m h = tt

pub reach_within : (regions : List ℕ) (n : ℕ) (o : Option ℕ) (m : ℕ) → IfSome o (λ d. d < m) → IfSome (reached regions n o) (λ d. d < m)
reach_within regions n None m h = tt
reach_within regions n (Some d) m h = reach_by (leb (get_or regions d 0) n) d m h

-- ---- a table in which an entry was set, or not

pub set_if_same : (b : Bool) (table : List (Option ℕ)) (n : ℕ) (o : Option ℕ) → n < length table → get_or (cond b (set table n o) table) n None ≡ cond b o (get_or table n None)
set_if_same true table n o lt = get_or-set_same table n o None lt
set_if_same false table n o lt = refl

pub set_if_other : (b : Bool) (table : List (Option ℕ)) (n u : ℕ) (o : Option ℕ) → (u ≡ n → ⊥) → get_or (cond b (set table n o) table) u None ≡ get_or table u None
set_if_other true table n u o apart = get_or-set_other table n u o None apart
set_if_other false table n u o apart = refl

pub set_if_long : (b : Bool) (table : List (Option ℕ)) (n : ℕ) (o : Option ℕ) → length (cond b (set table n o) table) ≡ length table
set_if_long true table n o = length-set table n o
set_if_long false table n o = refl
