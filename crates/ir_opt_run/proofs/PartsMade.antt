-- What is made of the parts of a text, one behind the other.
use Rattle.std.proofs.Common.{◌≡◌, ℕ, ◌++◌, Bool, true, List, Option, Some, None, IfSome, MatchOption, append_assoc, codes, sym, subst, ◌∙◌}
use Rattle.ir_model.specs.Forest.{Dialect, Behaviour}
use Rattle.ir_text_run.specs.Parts.{IsOnePart, IsDivided}
use Rattle.ir_model_passes.specs.Meaning.{SameAttributes}
use Rattle.ir_text_described.specs.Words.{Words}
use Rattle.ir_opt_run.specs.declared.options.Pass.{Pass}
use Rattle.ir_opt_run.specs.Runs.{Optimises, OptimisesParts, last, divided}

module _ {W : Dialect} (B : Behaviour W) (same : SameAttributes W) (AreWords : Words W → Type 0) (passes : List Pass) (located : Bool) (text : List ℕ) where
  -- with whatever is made of the rest behind it, this is made of the text
  abbrev pub MadeSoFar : List ℕ → List ℕ → Type 0
  MadeSoFar rest made = (others : List ℕ) → OptimisesParts B same AreWords passes located rest others → OptimisesParts B same AreWords passes located text (made ++ others)

  pub made_one_more : (rest part behind made out : List ℕ) → MadeSoFar rest made → IsDivided rest part behind → Optimises B same AreWords passes located part out → MadeSoFar behind ((made ++ out) ++ codes "// -----\n")
  made_one_more rest part behind made out so_far cut one others more =
      let all : OptimisesParts B same AreWords passes located text (made ++ (out ++ (codes "// -----\n" ++ others))) = so_far (out ++ (codes "// -----\n" ++ others)) (divided cut one more) in
      subst (λ (o : List ℕ). OptimisesParts B same AreWords passes located text o) (sym (append_assoc (made ++ out) (codes "// -----\n") others ∙ append_assoc made out (codes "// -----\n" ++ others))) all

  pub made_to_the_end : (rest part made out : List ℕ) → (part ≡ rest) × IsOnePart rest → MadeSoFar rest made → Optimises B same AreWords passes located part out → OptimisesParts B same AreWords passes located text (made ++ out)
  made_to_the_end rest part made out whole so_far one = so_far out (last whole.1 (subst (λ (t : List ℕ). Optimises B same AreWords passes located t out) whole.0 one))

-- what is said of the value that an option has, and of one that has none
pub of_its_value : {X : Type 0} (o : Option X) (x : X) (A : Type 0) (P : X → Type 0) → o ≡ Some x → MatchOption o A P → P x
of_its_value {X = X} o x A P e h = subst (λ (p : Option X). MatchOption p A P) e h

pub none_is : {X : Type 0} (o : Option X) (A : Type 0) (P : X → Type 0) → o ≡ None → MatchOption o A P → A
none_is {X = X} o A P e h = subst (λ (p : Option X). MatchOption p A P) e h

-- what is printed, where nothing has a fault
pub if_made : {X : Type 0} (items : X → List ℕ) (r : Option X) (is_well : Bool) (printed : List ℕ) (P : List ℕ → Type 0) → IfSome r (λ out. (is_well ≡ true) × (items out ≡ printed)) → (is_well ≡ true → P printed) → IfSome r (λ out. P (items out))
if_made items None is_well printed P is so = tt
if_made items (Some x) is_well printed P is so = subst P (sym is.1) (so is.0)
