-- Each edit of the definitions of one operation or block: what it leaves, and what it makes of the forest.
use Rattle.std.proofs.Common.{◌≡◌, ℕ, ◌-◌, ◌≤◌, ◌==◌, Bool, true, false, cond, List, [], ◌∷◌, ◌++◌, length, map, Option, Some, None, IsSome, Result, Ok, Err, OnOk, OnErr, is_ok, slice_get, refl, sym, ap, subst, ◌∙◌}
use Rattle.std.specs.Global.{Box}
use Rattle.std.specs.List.{insert, remove}
use Rattle.std.specs.Option.{option_map}
use Rattle.std.proofs.lemmas.List.{length-map, map-append}
use Rattle.ir_model.specs.ContextIds.{context_ids}
use Rattle.ir_model.specs.Forest.{Definition as PlainDefinition}
use Rattle.ir_model.specs.Changes.{definition}
use Rattle.ir_model.specs.Calls.{on_definitions}
use Rattle.ir_core_records.specs.declared.record.Definer.{Definer}
use Rattle.ir_core_records.specs.declared.record.Definer.TheVariants.{Op, Block}
use Rattle.ir_core_records.specs.declared.record.Definition.{Definition}
use Rattle.ir_core_records.specs.declared.record.Operation.{Operation}
use Rattle.ir_core_records.specs.declared.record.BasicBlock.{BasicBlock}
use Rattle.ir_core_records.specs.declared.records.Records.{Records}
use Rattle.ir_core_records.specs.Chains.{chains_of}
use Rattle.ir_core_records.specs.DefinitionEdits.{rewritten, unused_definition, uses-insert, uses-remove, uses-rewritten, with_name, typed_as}
use Rattle.ir_core_records.specs.Lists.{in_record, uses_with, HasNumber, HaveDistinctNumbers}
use Rattle.ir_core_records.specs.Mapped.{map-insert, map-remove, slice_get-insert_at}
use Rattle.ir_core_records.specs.Meaning.{closed, definer_of, definition_of, forest_in}
use Rattle.ir_core_records.specs.Table.{definitions_at, IsValue}
use Rattle.ir_base_arenas.specs.Arena.{get}
use Rattle.ir_core_chains.specs.Definers.{IsDefiner, with_definitions}
use Rattle.ir_core_chains.proofs.Written.{definitions-here, chains-written, self-written, forest-written}

pub on_ok : {T E P : Type 0} (r : Result T E) → (is_ok r ≡ true → P) → OnOk r P
on_ok (Ok x) p = p refl
on_ok (Err e) p = tt

pub on_err : {T E P : Type 0} (r : Result T E) → (is_ok r ≡ false → P) → OnErr r P
on_err (Ok x) p = tt
on_err (Err e) p = p refl

insert-last : {X : Type 0} (xs : List X) (y : X) → insert xs (length xs) y ≡ xs ++ y ∷ []
insert-last [] y = refl
insert-last (x ∷ xs) y = ap (λ ys. x ∷ ys) (insert-last xs y)

numbered-live : {T : Type 0} (read : T → List Definition) (x : Option T) (n : ℕ) → HasNumber (in_record read [] x) n → IsSome x
numbered-live read None n h = absurd (cc (h.2))
numbered-live read (Some x) n h = refl

module _ {A K B S X L : Type 0} where
  -- what definitions mean, one of which is rewritten, where h is the rewriting of what it means
  rewritten-meaning : (n : ℕ) (g : Definition → Definition) (h : PlainDefinition context_ids (closed A K B S X L) → PlainDefinition context_ids (closed A K B S X L)) → ((r : Definition) → definition_of (g r) ≡ h (definition_of r))
      → (rs : List Definition) → map (definition_of {A = A} {K = K} {B = B} {S = S} {X = X} {L = L}) (map (rewritten n g) rs) ≡ map (λ (x : PlainDefinition context_ids (closed A K B S X L)). cond (x.number == n) (h x) x) (map definition_of rs)
  rewritten-meaning n g h means [] = refl
  rewritten-meaning n g h means (r ∷ rs) = λ i. by (r.number == n) i ∷ rewritten-meaning n g h means rs i
    where
      by : (b : Bool) → definition_of {A = A} {K = K} {B = B} {S = S} {X = X} {L = L} (cond b (g r) r) ≡ cond b (h (definition_of r)) (definition_of r)
      by true = means r
      by false = refl

module _ {D A K B S X L : Type 0} (t : Records D A K B S X L) where
  -- what defines a live value is live
  pub definer-live : (d : Definer) (n : ℕ) → HasNumber (definitions_at t d) n → IsDefiner t d
  definer-live (Op o) n h = numbered-live (λ (op : Operation D A K B S X L). op.results) (get t.ops o) n h
  definer-live (Block b) n h = numbered-live (λ (x : BasicBlock D A K B S X L). x.arguments) (get t.blocks b) n h

  module _ (d : Definer) (live : IsDefiner t d) where
    abbrev there : List Definition
    there = definitions_at t d

    -- one was put in, where there was memory
    module _ (b : Bool) (i n ty : ℕ) (none : ¬ (HasNumber there n)) (ys : List Definition) (is : ys ≡ cond b (insert there i (unused_definition n ty)) there) where
      pub inserted-chains : chains_of (with_definitions t d ys) ≡ chains_of t
      inserted-chains = chains-written t d ys live (λ m. ap (λ (rs : List Definition). uses_with rs m) is ∙ by b m)
        where
          by : (c : Bool) (m : ℕ) → uses_with (cond c (insert there i (unused_definition n ty)) there) m ≡ uses_with there m
          by true m = uses-insert there i n ty m none
          by false m = refl

      inserted : b ≡ true → ys ≡ insert there i (unused_definition n ty)
      inserted e = is ∙ ap (λ (c : Bool). cond c (insert there i (unused_definition n ty)) there) e

      pub inserted-forest : b ≡ true → forest_in (with_definitions t d ys) ≡ on_definitions (forest_in t) (definer_of d) (λ xs. insert xs i (definition (n, ty)))
      inserted-forest e = forest-written t d ys (λ xs. insert xs i (definition (n, ty))) (ap (map definition_of) (inserted e) ∙ map-insert definition_of there i (unused_definition n ty))

      pub pushed-forest : i ≡ length there → b ≡ true → forest_in (with_definitions t d ys) ≡ on_definitions (forest_in t) (definer_of d) (λ xs. xs ++ definition (n, ty) ∷ [])
      pushed-forest end e =
          forest-written t d ys (λ xs. xs ++ definition (n, ty) ∷ [])
          (ap (map definition_of) (inserted e ∙ ap (λ (k : ℕ). insert there k (unused_definition n ty)) end ∙ insert-last there (unused_definition n ty)) ∙ map-append definition_of there (unused_definition n ty ∷ []))

      pub inserted-value : i ≤ length there → b ≡ true → IsValue (with_definitions t d ys) (record { definer = d; number = n })
      inserted-value within e =
          subst (λ (rs : List Definition). HasNumber rs n) (sym (definitions-here t d ys live ∙ inserted e)) (i, unused_definition n ty, slice_get-insert_at there i (unused_definition n ty) within, refl)

      pub inserted-same : b ≡ false → with_definitions t d ys ≡ t
      inserted-same e = ap (with_definitions t d) (is ∙ ap (λ (c : Bool). cond c (insert there i (unused_definition n ty)) there) e) ∙ self-written t d

    -- one without uses was taken out
    module _ (i : ℕ) (r : Definition) (distinct : HaveDistinctNumbers there) (at : slice_get there i ≡ Some r) (none : uses_with there r.number ≡ []) (ys : List Definition) (is : ys ≡ remove there i) where
      pub removed-chains : chains_of (with_definitions t d ys) ≡ chains_of t
      removed-chains = chains-written t d ys live (λ m. ap (λ (rs : List Definition). uses_with rs m) is ∙ uses-remove there i r m distinct at none)

    pub removed-forest : (i : ℕ) (ys : List Definition) → ys ≡ remove there i → forest_in (with_definitions t d ys) ≡ on_definitions (forest_in t) (definer_of d) (λ xs. remove xs i)
    removed-forest i ys is = forest-written t d ys (λ xs. remove xs i) (ap (map definition_of) is ∙ map-remove definition_of there i)

    pub popped-forest : (i : ℕ) (ys : List Definition) → ys ≡ remove there i → i ≡ length there - 1 → forest_in (with_definitions t d ys) ≡ on_definitions (forest_in t) (definer_of d) (λ xs. remove xs (length xs - 1))
    popped-forest i ys is last =
        forest-written t d ys (λ xs. remove xs (length xs - 1))
        (ap (map definition_of) is ∙ map-remove definition_of there i ∙ ap (remove (map definition_of there)) (last ∙ ap (λ (k : ℕ). k - 1) (sym (length-map there definition_of))))

    -- one has another type
    module _ (n ty : ℕ) (ys : List Definition) (is : ys ≡ map (rewritten n (typed_as ty)) there) where
      pub retyped-chains : chains_of (with_definitions t d ys) ≡ chains_of t
      retyped-chains = chains-written t d ys live (λ m. ap (λ (rs : List Definition). uses_with rs m) is ∙ uses-rewritten n (typed_as ty) (λ r. refl) (λ r. refl) there m)

      pub retyped-forest : forest_in (with_definitions t d ys) ≡ on_definitions (forest_in t) (definer_of d) (map (λ x. cond (x.number == n) (record x { ty = ty }) x))
      retyped-forest = forest-written t d ys (map (λ x. cond (x.number == n) (record x { ty = ty }) x)) (ap (map definition_of) is ∙ rewritten-meaning n (typed_as ty) (λ x. record x { ty = ty }) (λ r. refl) there)

    -- one has another name
    module _ (n : ℕ) (name : Option (Box (List ℕ))) (ys : List Definition) (is : ys ≡ map (rewritten n (with_name name)) there) where
      pub renamed-chains : chains_of (with_definitions t d ys) ≡ chains_of t
      renamed-chains = chains-written t d ys live (λ m. ap (λ (rs : List Definition). uses_with rs m) is ∙ uses-rewritten n (with_name name) (λ r. refl) (λ r. refl) there m)

      pub renamed-forest : forest_in (with_definitions t d ys) ≡ on_definitions (forest_in t) (definer_of d) (map (λ x. cond (x.number == n) (record x { name = option_map (λ b. b.value) name }) x))
      renamed-forest =
          forest-written t d ys (map (λ x. cond (x.number == n) (record x { name = option_map (λ b. b.value) name }) x))
          (ap (map definition_of) is ∙ rewritten-meaning n (with_name name) (λ x. record x { name = option_map (λ b. b.value) name }) (λ r. refl) there)
