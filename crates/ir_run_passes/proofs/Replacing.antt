-- The results of an operation, replaced one after the other by those of another one.
use mathlib.Core.Path.{◌≡◌, refl, sym, ap, ap₂, ◌∙◌, subst}
use Rattle.std.proofs.Common.{ℕ, zero, suc, ◌+◌, ◌≤◌, ◌<◌, Option, Some, None, List, [], ◌∷◌, map, take, length, is_some, arith}
use Rattle.std.proofs.lemmas.List.{take_all, length-map}
use Rattle.std.specs.Prelude.{slice_get}
use Rattle.std.specs.List.{zip}
use Rattle.std.specs.Option.{option_map}
use Rattle.ir_model.specs.Ids.{Ids}
use Rattle.ir_model.specs.Forest.{Dialect, Behaviour, Forest, Value, of_op, an_op, OpRecord, Definition}
use Rattle.ir_model.specs.Nesting.{IsLive, list_of, definitions_of}
use Rattle.ir_model.specs.Changes.{redirect, redirected, on_operands}
use Rattle.ir_model_passes.specs.Meaning.{SameAttributes, given_by, result_types}
use Rattle.ir_model_passes.specs.Merging.{values_given, redirect_each, redirect_results, Alike}

-- ## Lists

pub zip_at : {X Y : Type 0} (xs : List X) (ys : List Y) (i : ℕ) (x : X) (y : Y) → slice_get xs i ≡ Some x → slice_get ys i ≡ Some y → slice_get (zip xs ys) i ≡ Some (x, y)
zip_at [] ys i x y e h = absurd cc
zip_at (z ∷ xs) [] i x y e h = absurd cc
zip_at (z ∷ xs) (w ∷ ys) zero x y e h = (let a : z ≡ x = cc in let b : w ≡ y = cc in ap₂ (λ m n. Some (m, n)) a b)
zip_at (z ∷ xs) (w ∷ ys) (suc i) x y e h = zip_at xs ys i x y e h

length_zip : {X Y : Type 0} (xs : List X) (ys : List Y) → length (zip xs ys) ≤ length xs
length_zip [] ys = omega arith
length_zip (x ∷ xs) [] = omega arith
length_zip (x ∷ xs) (y ∷ ys) = omega (arith, length_zip xs ys)

module _ {N : Ids} {W : Dialect} where
  each_suc : (f : Forest N W) (ps : List (Value N × Value N)) (i : ℕ) (p : Value N × Value N) → slice_get ps i ≡ Some p
      → redirect_each f (take (suc i) ps) ≡ redirect (redirect_each f (take i ps)) p.0 p.1
  each_suc f [] i p e = absurd cc
  each_suc f (q ∷ ps) zero p e = (let s : q ≡ p = cc in ap (λ (r : Value N × Value N). redirect f r.0 r.1) s)
  each_suc f (q ∷ ps) (suc i) p e = each_suc (redirect f q.0 q.1) ps i p e

  -- one pair more
  pub each_more : (f : Forest N W) (ps : List (Value N × Value N)) (i : ℕ) (p : Value N × Value N) → slice_get ps i ≡ Some p
      → redirect_each f (take (i + 1) ps) ≡ redirect (redirect_each f (take i ps)) p.0 p.1
  each_more f ps i p e = let one : i + 1 ≡ suc i = omega arith in ap (λ n. redirect_each f (take n ps)) one ∙ each_suc f ps i p e

  kept_results : (old new : Value N) (m : Option (OpRecord N W)) → list_of (λ (r : OpRecord N W). r.results) (option_map (on_operands (map (redirected old new))) m) ≡ list_of (λ (r : OpRecord N W). r.results) m
  kept_results old new None = refl
  kept_results old new (Some r) = refl

  -- the results stay
  pub each_results : (f : Forest N W) (ps : List (Value N × Value N)) (o : N.Op) → definitions_of (redirect_each f ps) (of_op o) ≡ definitions_of f (of_op o)
  each_results f [] o = refl
  each_results f (q ∷ ps) o = each_results (redirect f q.0 q.1) ps o ∙ kept_results q.0 q.1 (f.ops o)

  live_kept : (old new : Value N) (m : Option (OpRecord N W)) → is_some (option_map (on_operands (map (redirected old new))) m) ≡ is_some m
  live_kept old new None = refl
  live_kept old new (Some r) = refl

  pub each_live : (f : Forest N W) (ps : List (Value N × Value N)) (o : N.Op) → IsLive f (an_op o) → IsLive (redirect_each f ps) (an_op o)
  each_live f [] o live = live
  each_live f (q ∷ ps) o live = each_live (redirect f q.0 q.1) ps o (live_kept q.0 q.1 (f.ops o) ∙ live)

  -- the record that an operation has there has the results that it had
  pub results_there : (f : Forest N W) (ps : List (Value N × Value N)) (o : N.Op) (r : OpRecord N W) → (redirect_each f ps).ops o ≡ Some r → r.results ≡ definitions_of f (of_op o)
  results_there f ps o r e = sym (ap (list_of (λ (x : OpRecord N W). x.results)) e) ∙ each_results f ps o

  module _ (f : Forest N W) (earlier later : N.Op) where
    abbrev pub pairs : List (Value N × Value N)
    pairs = zip (values_given f later) (values_given f earlier)

    pub all_pairs : (n : ℕ) → length (definitions_of f (of_op later)) ≤ n → redirect_each f (take n pairs) ≡ redirect_results f later earlier
    all_pairs n e =
        let most = length_zip (values_given f later) (values_given f earlier) in
        let same = length-map (definitions_of f (of_op later)) (given_by later) in
        ap (redirect_each f) (take_all n pairs (omega (arith, most, same, e)))

    -- the next pair is redirected
    pub next_pair : (i : ℕ) (g : Forest N W) → g ≡ redirect_each f (take i pairs) → (v u : Value N) → slice_get (values_given f later) i ≡ Some v → slice_get (values_given f earlier) i ≡ Some u
        → (h : Forest N W) → h ≡ redirect g v u → h ≡ redirect_each f (take (i + 1) pairs)
    next_pair i g now v u old new h e =
        e ∙ ap (λ (z : Forest N W). redirect z v u) now ∙ sym (each_more f pairs i (v, u) (zip_at (values_given f later) (values_given f earlier) i v u old new))

    module _ (B : Behaviour W) (same : SameAttributes W) (alike : Alike B same f earlier later) where
      -- both have equally many results
      pub as_many : length (definitions_of f (of_op earlier)) ≡ length (definitions_of f (of_op later))
      as_many =
          let one : definitions_of f (of_op earlier) ≡ alike.one.results = ap (list_of (λ (r : OpRecord N W). r.results)) alike.one_is in
          let other : definitions_of f (of_op later) ≡ alike.other.results = ap (list_of (λ (r : OpRecord N W). r.results)) alike.other_is in
          ap length one ∙ sym (length-map alike.one.results (λ (d : Definition N W). d.ty)) ∙ ap length alike.types ∙ length-map alike.other.results (λ (d : Definition N W). d.ty) ∙ sym (ap length other)

  -- the value that stands at a place of what an operation gives
  pub value_at : (o : N.Op) (ds : List (Definition N W)) (i : ℕ) (v : Value N) → option_map (λ (d : Definition N W). d.number) (slice_get ds i) ≡ Some v.number → v.definer ≡ of_op o → slice_get (map (given_by o) ds) i ≡ Some v
  value_at o [] i v e given = absurd cc
  value_at o (d ∷ ds) zero v e given = (let n : d.number ≡ v.number = some_number d.number v.number e in ap₂ (λ x y. Some (record { definer = x; number = y })) (sym given) n)
    where
      some_number : (x y : N.ValueNumber) → Some x ≡ Some y → x ≡ y
      some_number x y e = cc
  value_at o (d ∷ ds) (suc i) v e given = value_at o ds i v e given

  module _ (f g : Forest N W) (ps : List (Value N × Value N)) (now : g ≡ redirect_each f ps) (o : N.Op) where
    pub live_now : IsLive f (an_op o) → IsLive g (an_op o)
    live_now live = subst (λ z. IsLive z (an_op o)) (sym now) (each_live f ps o live)

    pub results_now : (r : OpRecord N W) → g.ops o ≡ Some r → r.results ≡ definitions_of f (of_op o)
    results_now r e = results_there f ps o r (ap (λ (z : Forest N W). z.ops o) (sym now) ∙ e)

    pub value_now : (r : OpRecord N W) → g.ops o ≡ Some r → (i : ℕ) (v : Value N) → option_map (λ (d : Definition N W). d.number) (slice_get r.results i) ≡ Some v.number → v.definer ≡ of_op o → slice_get (values_given f o) i ≡ Some v
    value_now r e i v number given = subst (λ ds. slice_get (map (given_by o) ds) i ≡ Some v) (results_now r e) (value_at o r.results i v number given)

    pub within_now : (i n : ℕ) → i < n → n ≡ length (definitions_of f (of_op o)) → (r : OpRecord N W) → g.ops o ≡ Some r → i < length r.results
    within_now i n lt e r found = let same = ap length (results_now r found) in omega (arith, lt, e, same)

  -- how many results the record has that an operation has
  pub as_recorded : (f : Forest N W) (o : N.Op) (r : OpRecord N W) → f.ops o ≡ Some r → length r.results ≡ length (definitions_of f (of_op o))
  as_recorded f o r e = sym (ap (λ m. length (list_of (λ (x : OpRecord N W). x.results) m)) e)
