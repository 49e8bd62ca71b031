-- Entries that are put one by one behind those of a table.
use Rattle.std.proofs.Common.{◌≡◌, sym, ap, ◌∙◌, ℕ, zero, suc, ◌+◌, List, [], ◌∷◌, ◌++◌, ◌≤◌, length, map, take, take_all, Some, append_assoc, add-one, arith}
use Rattle.std.specs.Prelude.{slice_get}
use Rattle.std.specs.Option.{option_map}
use Rattle.std.proofs.lemmas.List.{length-map}
use Rattle.std.proofs.lemmas.Option.{slice_get-map}
use Rattle.ir_model.specs.ContextIds.{context_ids}
use Rattle.ir_model.specs.Forest.{Definer as DefinedBy, Value}
use Rattle.ir_model.specs.Edits.{numbered}
use Rattle.ir_run_sessions.specs.SessionLists.{map-push}

take-push : {A : Type 0} (xs : List A) (i : ℕ) (x : A) → slice_get xs i ≡ Some x → take (suc i) xs ≡ take i xs ++ x ∷ []
take-push [] i x e = absurd (cc)
take-push (y ∷ ys) zero x e = let same : y ≡ x = cc in ap (λ z. z ∷ []) same
take-push (y ∷ ys) (suc i) x e = ap (λ zs. y ∷ zs) (take-push ys i x e)

push-behind : {B : Type 0} (start xs ys : List B) (y : B) → ys ≡ start ++ xs → ys ++ y ∷ [] ≡ start ++ (xs ++ y ∷ [])
push-behind start xs ys y e = rw e (append_assoc start xs (y ∷ []))

-- the i-th of all is put behind the first i
pub entered : {A B : Type 0} (f : A → B) (old new : List A) (x : A) (start all : List B) (i : ℕ)
    → map f old ≡ start ++ take i all → new ≡ old ++ x ∷ [] → slice_get all i ≡ Some (f x) → map f new ≡ start ++ take (i + 1) all
entered f old new x start all i before pushed is =
    ap (map f) pushed ∙ map-push f old x ∙ push-behind start (take i all) (map f old) (f x) before
    ∙ ap (λ ys. start ++ ys) (sym (take-push all i (f x) is)) ∙ ap (λ k. start ++ take k all) (sym (add-one i))

abbrev value_from : DefinedBy context_ids → ℕ → Value context_ids
value_from d n = record { definer = d; number = n }

-- the i-th of the values that d defines
pub numbered_at : {R : Type 0} (d : DefinedBy context_ids) (number : R → ℕ) (all : List R) (i : ℕ) (v : Value context_ids)
    → v.definer ≡ d → option_map number (slice_get all i) ≡ Some v.number → slice_get (numbered d (map number all)) i ≡ Some v
numbered_at d number all i v definer is =
    slice_get-map (λ n. value_from d n) (map number all) i
    ∙ ap (option_map (λ n. value_from d n)) (slice_get-map number all i ∙ is)
    ∙ ap (λ e. Some (value_from e v.number)) (sym definer)

-- all values that d defines were put behind the others
pub all_numbered : {A R : Type 0} (f : A → Value context_ids) (new : List A) (start : List (Value context_ids)) (d : DefinedBy context_ids) (number : R → ℕ) (all : List R) (count : ℕ)
    → map f new ≡ start ++ take count (numbered d (map number all)) → length all ≤ count → map f new ≡ start ++ numbered d (map number all)
all_numbered f new start d number all count entered enough =
    entered ∙ ap (λ vs. start ++ vs) (take_all count (numbered d (map number all)) (omega (arith, enough, length-map (map number all) (λ n. value_from d n), length-map all number)))
