-- The uses of all results of an operation: the kept lists, joined.
use Rattle.std.proofs.Common.{cond, Bool, true, false, not, ◌||◌, ◌==◌, ◌≢◌, Option, IsTrue, ◌≡◌, refl, sym, ap, subst, ◌∙◌, ℕ, ◌↔◌, inl, inr, ◌≤◌, List, [], ◌∷◌, ◌++◌, map, length, Some, arith}
use Rattle.std.specs.List.{flat_map, list_any}
use Rattle.std.proofs.lemmas.Bool.{eq-eqb, ne_eqb}
use Rattle.std.proofs.lemmas.List.{length-map, map-append}
use Rattle.std.proofs.lemmas.List.Folds.{flat_map-map}
use Rattle.ir_model.specs.declared.ids.ArenaIndex.{ArenaIndex}
use Rattle.ir_model.specs.ContextIds.{context_ids}
use Rattle.ir_model.specs.Ids.{Distinct}
use Rattle.ir_model.specs.Forest.{a_value, of_op, Operand}
use Rattle.ir_model.specs.Nesting.{In, IsLiveNamed, WellFormed, numbers_of, operands_of, use_numbers_of}
use Rattle.ir_model.specs.Sessions.{Number}
use Rattle.ir_model.specs.Uses.{AreUses, Use}
use Rattle.ir_model.proofs.Nests.{In-append, In-left, In-right, In-map, In-map_back, not_in-Absent, Distinct-append, Distinct-map}
use Rattle.ir_model.proofs.Keeps.{Distinct-unmap}
use Rattle.ir_model.proofs.Removal.{length-within}
use Rattle.ir_base_arenas.specs.Arena.{get}
use Rattle.ir_core_records.specs.declared.record.Operation.{Operation}
use Rattle.ir_core_records.specs.declared.record.Definer.TheVariants.{Op}
use Rattle.ir_core_records.specs.declared.record.ValueIndex.{ValueIndex}
use Rattle.ir_core_records.specs.declared.record.UseIndex.{UseIndex}
use Rattle.ir_core_records.specs.declared.record.Definition.{Definition}
use Rattle.ir_core_records.specs.declared.records.Records.{Records}
use Rattle.ir_core_records.specs.Chains.{AreLinked, chains_of}
use Rattle.ir_core_records.specs.Lists.{in_record, uses_with}
use Rattle.ir_core_records.specs.Meaning.{use_of, value_of}
use Rattle.ir_core_context.specs.State.{ContextState, bare, forest_of, uses_of}
use Rattle.ir_core_context.specs.Calls.{LiveWasMade}
use Rattle.ir_core_records.specs.Table.{definitions_at, operands_at, uses_at}
use Rattle.ir_core_records.specs.Found.{place-In}
use Rattle.ir_core_records.specs.KeptUses.{numbers-differ, one_kept}
use Rattle.ir_core_records.specs.Meant.{map-map, numbers-meant}
use Rattle.ir_core_queries.specs.Values.{AreUsesOfResults, IsUseOfResult, uses_of_results}

-- the kept lists of live values have exactly their uses, each once
abbrev AreExact : {D A K B S X L : Type 0} → ContextState D A K B S X L → Type 0
AreExact s = (v : ValueIndex) → IsLiveNamed (forest_of s) (a_value (value_of v)) → AreUses (forest_of s) (a_value (value_of v)) (uses_of s v)

module _ {A B : Type 0} (f : A → List B) where
  In-flat_map : (x : A) (y : B) (xs : List A) → In x xs → In y (f x) → In y (flat_map f xs)
  In-flat_map x y [] h k = elim h [ ]
  In-flat_map x y (z ∷ xs) (inl e) k = In-left y (f z) (flat_map f xs) (subst (λ w. In y (f w)) e k)
  In-flat_map x y (z ∷ xs) (inr h) k = In-right y (f z) (flat_map f xs) (In-flat_map x y xs h k)

  In-flat_map_back : (y : B) (xs : List A) → In y (flat_map f xs) → (x : A) × In x xs × In y (f x)
  In-flat_map_back y [] h = elim h [ ]
  In-flat_map_back y (z ∷ xs) h = elim (In-append y (f z) (flat_map f xs) h) [
    | inl k ↦ (z, inl refl, k)
    | inr k ↦ let more = In-flat_map_back y xs k in (more.0, inr more.1, more.2)
  ]

  -- where what f gives is different, within one and between two, so is all of it
  Distinct-flat_map : {C : Type 0} (g : B → C) (xs : List A) → Distinct xs
      → ((x : A) → Distinct (map g (f x)))
      → ((x y : A) (a b : B) → In a (f x) → In b (f y) → g a ≡ g b → x ≡ y)
      → Distinct (map g (flat_map f xs))
  Distinct-flat_map g [] d once apart = tt
  Distinct-flat_map g (x ∷ xs) d once apart =
      subst Distinct (sym (map-append g (f x) (flat_map f xs)))
      (Distinct-append (map g (f x)) (map g (flat_map f xs)) (once x) (Distinct-flat_map g xs d.1 once apart) (λ c h k. (
      let a = In-map_back g c (f x) h in
      let b = In-map_back g c (flat_map f xs) k in
      let w = In-flat_map_back b.0 xs b.1 in
      let e = apart x w.0 a.0 b.0 a.1 w.2 (sym a.2 ∙ b.2) in
      not_in-Absent x xs d.0 (subst (λ z. In z xs) (sym e) w.1)
      )))

-- the index of a result of the operation with this number
abbrev result_index : ArenaIndex → ℕ → ValueIndex
result_index o n = record { definer = Op o; number = n }

module _ {D A K B S X L : Type 0} (t : Records D A K B S X L) (linked : AreLinked (chains_of t)) where
  -- the uses of different values have different numbers
  joined-differ : (vs : List ValueIndex) → Distinct vs → Distinct (map (λ (u : UseIndex). u.number) (flat_map (uses_at t) vs))
  joined-differ vs d = Distinct-flat_map (uses_at t) (λ (u : UseIndex). u.number) vs d (numbers-differ (operands_at t) (uses_at t) linked.values) (λ v w a b h k n. (
      let p = place-In (uses_at t v) a h in
      let q = place-In (uses_at t w) b k in
      (one_kept (operands_at t) (uses_at t) linked.values v w p.0 q.0 a b p.1 q.1 n).0
      ))

-- where the numbers differ, each result is the first with its number
uses_with-own : (rs : List Definition) → Distinct (map (λ (r : Definition). r.number) rs) → (r : Definition) → In r rs → uses_with rs r.number ≡ r.uses
uses_with-own [] d r h = elim h [ ]
uses_with-own (x ∷ rs) d r (inl e) = subst (λ (y : Definition). uses_with (x ∷ rs) y.number ≡ y.uses) (sym e) (subst (λ b. cond b x.uses (uses_with rs x.number) ≡ x.uses) (sym (eq-eqb x.number x.number refl)) refl)
uses_with-own (x ∷ rs) d r (inr h) =
    let ne : x.number ≡ r.number → ⊥ = λ e. not_in-Absent x.number (map (λ (y : Definition). y.number) rs) d.0 (subst (λ n. In n (map (λ (y : Definition). y.number) rs)) (sym e) (In-map (λ (y : Definition). y.number) r rs h)) in
    subst (λ b. cond b x.uses (uses_with rs r.number) ≡ r.uses) (sym (ne_eqb x.number r.number ne)) (uses_with-own rs d.1 r h)

module _ {D A K B S X L : Type 0} (s : ContextState D A K B S X L) (keys : ℕ) (formed : WellFormed (forest_of s) keys) (linked : AreLinked (chains_of s.records)) (are : AreExact s) (o : ArenaIndex) where
  -- the results of the operation, as indices
  abbrev results : List ValueIndex
  results = map (result_index o) (numbers_of (forest_of s) (of_op o))

  results-differ : Distinct results
  results-differ = Distinct-map (result_index o) (λ m n e. ap (λ (v : ValueIndex). v.number) e) (numbers_of (forest_of s) (of_op o)) (formed.numbers_once (of_op o))

  joined : uses_of_results s o ≡ map use_of (flat_map (uses_at s.records) results)
  joined = by (numbers_of (forest_of s) (of_op o))
    where
      by : (ns : List ℕ) → flat_map (λ n. uses_of s (result_index o n)) ns ≡ map use_of (flat_map (uses_at s.records) (map (result_index o) ns))
      by [] = refl
      by (n ∷ ns) = ap (λ us. uses_of s (result_index o n) ++ us) (by ns) ∙ sym (map-append use_of (uses_at s.records (result_index o n)) (flat_map (uses_at s.records) (map (result_index o) ns)))

  uses-differ : Distinct (map (λ (u : Use context_ids). u.number) (uses_of_results s o))
  uses-differ = subst (λ (us : List (Use context_ids)). Distinct (map (λ (u : Use context_ids). u.number) us)) (sym joined) (subst Distinct (sym (map-map use_of (λ (u : Use context_ids). u.number) (flat_map (uses_at s.records) results))) (joined-differ s.records linked results results-differ))

  -- the joined list has exactly the uses of the results, each once
  pub uses_of_results-exact : AreUsesOfResults (forest_of s) o (uses_of_results s o)
  uses_of_results-exact = record {
    once = Distinct-unmap (λ (u : Use context_ids). u.number) (uses_of_results s o) uses-differ;
    exact = λ u. (
      λ h. (
          let p = In-flat_map_back (λ n. uses_of s (result_index o n)) u (numbers_of (forest_of s) (of_op o)) h in
          record { number = p.0; result = p.1; has = ((are (result_index o p.0) p.1).exact u).0 p.2 }
          ),
      λ k. In-flat_map (λ n. uses_of s (result_index o n)) k.number u (numbers_of (forest_of s) (of_op o)) k.result (((are (result_index o k.number) k.result).exact u).1 k.has),
    );
  }

  -- the uses have different numbers, all of which were handed out
  pub few-uses : LiveWasMade (bare s) → (gone : ℕ) → Number (λ n. IsTrue ((bare s).passed.uses n)) gone → length (uses_of_results s o) ≤ gone
  few-uses made gone number =
      let numbers : List ℕ = map (λ (u : Use context_ids). u.number) (uses_of_results s o) in
      let within : length numbers ≤ length number.0 = length-within numbers number.0 uses-differ (λ n h. (
      let u = In-map_back (λ (u : Use context_ids). u.number) n (uses_of_results s o) h in
      let k = (uses_of_results-exact.exact u.0).0 u.1 in
      let there : In u.0.number (use_numbers_of (forest_of s) u.0.user) =
      In-left u.0.number (map (λ (p : Operand context_ids). p.use_number) (operands_of (forest_of s) u.0.user)) _ (In-map (λ (p : Operand context_ids). p.use_number) (record { use_number = u.0.number; value = record { definer = of_op o; number = k.number } }) (operands_of (forest_of s) u.0.user) k.has) in
      (number.2 n).1 (subst (λ m. IsTrue ((bare s).passed.uses m)) (sym u.2) (made.uses u.0.user u.0.number there))
      )) in
      omega (arith, within, number.3, length-map (uses_of_results s o) (λ (u : Use context_ids). u.number))

  -- the joined list, as the records of the results have it
  pub read-joined : map use_of (flat_map (λ (r : Definition). r.uses) (definitions_at s.records (Op o))) ≡ uses_of_results s o
  read-joined = ap (map use_of) (sym (ap (flat_map (uses_at s.records)) (ap (map (result_index o)) (numbers-meant s.records (Op o))) ∙ flat_map-map (uses_at s.records) (result_index o) (map (λ (r : Definition). r.number) (definitions_at s.records (Op o))) ∙ flat_map-map (λ n. uses_with (definitions_at s.records (Op o)) n) (λ (r : Definition). r.number) (definitions_at s.records (Op o)) ∙ own (definitions_at s.records (Op o)) (uses_with-own (definitions_at s.records (Op o)) (subst Distinct (numbers-meant s.records (Op o)) (formed.numbers_once (of_op o)))))) ∙ sym joined
    where
      -- each of these results is the first with its number
      own : (rs : List Definition) → ((r : Definition) → In r rs → uses_with (definitions_at s.records (Op o)) r.number ≡ r.uses) → flat_map (λ (r : Definition). uses_with (definitions_at s.records (Op o)) r.number) rs ≡ flat_map (λ (r : Definition). r.uses) rs
      own [] h = refl
      own (r ∷ rs) h = ap (λ us. us ++ flat_map (λ (x : Definition). uses_with (definitions_at s.records (Op o)) x.number) rs) (h r (inl refl)) ∙ ap (λ us. r.uses ++ us) (own rs (λ x k. h x (inr k)))

-- some result has a use exactly where the joined list has one
joined-any : (rs : List Definition) → list_any (λ (r : Definition). not (length r.uses == 0)) rs ≡ true → (u : UseIndex) × In u (flat_map (λ (r : Definition). r.uses) rs)
joined-any [] h = absurd (cc)
joined-any (r ∷ rs) h = by r.uses refl (joined-any rs)
  where
    by : (us : List UseIndex) → r.uses ≡ us → (list_any (λ (x : Definition). not (length x.uses == 0)) rs ≡ true → (u : UseIndex) × In u (flat_map (λ (x : Definition). x.uses) rs)) → (u : UseIndex) × In u (flat_map (λ (x : Definition). x.uses) (r ∷ rs))
    by [] e rest =
        let more = rest (subst (λ us. (not (length us == 0) || list_any (λ (x : Definition). not (length x.uses == 0)) rs) ≡ true) e h) in
        (more.0, In-right more.0 r.uses (flat_map (λ (x : Definition). x.uses) rs) more.1)
    by (u ∷ us) e rest = (u, In-left u r.uses (flat_map (λ (x : Definition). x.uses) rs) (subst (In u) (sym e) (inl refl)))

any-joined : (rs : List Definition) (u : UseIndex) → In u (flat_map (λ (r : Definition). r.uses) rs) → list_any (λ (r : Definition). not (length r.uses == 0)) rs ≡ true
any-joined [] u h = elim h [ ]
any-joined (r ∷ rs) u h = elim (In-append u r.uses (flat_map (λ (x : Definition). x.uses) rs) h) [
  | inl k ↦ by r.uses k
  | inr k ↦ rest (not (length r.uses == 0)) (any-joined rs u k)
]
  where
    rest : (b : Bool) {c : Bool} → c ≡ true → (b || c) ≡ true
    rest true e = refl
    rest false e = e

    by : (us : List UseIndex) → In u us → (not (length us == 0) || list_any (λ (x : Definition). not (length x.uses == 0)) rs) ≡ true
    by [] k = elim k [ ]
    by (x ∷ us) k =
        let n : length (x ∷ us) ≢ 0 = omega arith in
        subst (λ b. (not b || list_any (λ (y : Definition). not (length y.uses == 0)) rs) ≡ true) (sym (ne_eqb (length (x ∷ us)) 0 n)) refl

module _ {D A K B S X L : Type 0} (s : ContextState D A K B S X L) (keys : ℕ) (formed : WellFormed (forest_of s) keys) (linked : AreLinked (chains_of s.records)) (are : AreExact s) (o : ArenaIndex) (op : Operation D A K B S X L) (at : get s.records.ops o ≡ Some op) where
  -- what the results of a live operation keep
  pub uses-here : map use_of (flat_map (λ (r : Definition). r.uses) op.results) ≡ uses_of_results s o
  uses-here = subst (λ (m : Option (Operation D A K B S X L)). map use_of (flat_map (λ (r : Definition). r.uses) (in_record (λ (x : Operation D A K B S X L). x.results) [] m)) ≡ uses_of_results s o) at (read-joined s keys formed linked are o)

  pub count-here : length (flat_map (λ (r : Definition). r.uses) op.results) ≡ length (uses_of_results s o)
  count-here = sym (length-map (flat_map (λ (r : Definition). r.uses) op.results) use_of) ∙ ap length uses-here

  pub few-here : LiveWasMade (bare s) → (gone : ℕ) → Number (λ n. IsTrue ((bare s).passed.uses n)) gone → length (flat_map (λ (r : Definition). r.uses) op.results) ≤ gone
  few-here made gone number = let few = few-uses s keys formed linked are o made gone number in omega (arith, few, count-here)

  -- whether a result has a use
  pub has-here : (b : Bool) → b ≡ list_any (λ (r : Definition). not (length r.uses == 0)) op.results → IsTrue b ↔ ((u : Use context_ids) × IsUseOfResult (forest_of s) o u)
  has-here b e = (
    λ h. (
        let u = joined-any op.results (sym e ∙ h) in
        (use_of u.0, ((uses_of_results-exact s keys formed linked are o).exact (use_of u.0)).0 (subst (In (use_of u.0)) uses-here (In-map use_of u.0 (flat_map (λ (r : Definition). r.uses) op.results) u.1)))
        ),
    λ p. (
        let u = In-map_back use_of p.0 (flat_map (λ (r : Definition). r.uses) op.results) (subst (In p.0) (sym uses-here) (((uses_of_results-exact s keys formed linked are o).exact p.0).1 p.1)) in
        e ∙ any-joined op.results u.0 u.1
        ),
  )
