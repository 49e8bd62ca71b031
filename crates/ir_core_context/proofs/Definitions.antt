-- What an edit of the results of one operation, or of the arguments of one block, leaves of a forest.
use Rattle.std.proofs.Common.{◌≡◌, ◌⊎◌, ℕ, zero, suc, List, [], ◌∷◌, length, map, Option, Some, slice_get, refl, sym, ap, subst, ◌∙◌, inl, inr}
use Rattle.std.specs.List.{remove}
use Rattle.std.specs.Option.{option_map}
use Rattle.std.proofs.lemmas.List.{length-map}
use Rattle.ir_model.specs.ContextIds.{context_ids, same_id}
use Rattle.ir_model.specs.Calls.{on_definitions}
use Rattle.ir_model.specs.Changes.{on_arguments, on_results}
use Rattle.ir_model.specs.Edits.{Unused}
use Rattle.ir_model.specs.Forest.{Dialect, Definer, of_op, of_block, Definition, BlockRecord, Forest, Named, OpRecord, Value, a_block, a_value, definer_entity, the_block}
use Rattle.ir_model.specs.Ids.{Distinct}
use Rattle.ir_model.specs.Nesting.{In, IsLive, IsLiveNamed, WellFormed, definitions_of, list_of, names_of, numbers_of}
use Rattle.ir_model.proofs.Back.{slice_get-in}
use Rattle.ir_model.proofs.Found.{there}
use Rattle.ir_model.proofs.Keeps.{rewrite_at}
use Rattle.ir_model.proofs.KeepsDefinitions.{Defines, defines_arguments, defines_results, numbers_in, removed_kept}
use Rattle.ir_model.proofs.Nests.{not_in-Absent}
use Rattle.ir_model.proofs.Parts.{Kept}
use Rattle.ir_model.proofs.Trees.{Sub-in, Sub-remove}
use Rattle.ir_model.proofs.TwoRuns.{id_tells, lawful}
use Rattle.ir_core_records.specs.Mapped.{map-remove}
use Rattle.ir_core_context.specs.Calls.{StayLive}
use Rattle.ir_core_context.specs.Definitions.{StayLiveBut}

-- what was in the list is the item at the place, or is in the list without it
remove-in : {A : Type 0} (xs : List A) (at : ℕ) (x y : A) → slice_get xs at ≡ Some x → In y xs → (y ≡ x) ⊎ In y (remove xs at)
remove-in [] at x y e h = elim h [ ]
remove-in (z ∷ xs) zero x y e (inl s) = inl (let g : Some z ≡ Some x = e in let k : z ≡ x = cc in s ∙ k)
remove-in (z ∷ xs) zero x y e (inr h) = inr h
remove-in (z ∷ xs) (suc at) x y e (inl s) = inr (inl s)
remove-in (z ∷ xs) (suc at) x y e (inr h) = elim (remove-in xs at x y e h) [ inl k ↦ inl k | inr k ↦ inr (inr k) ]

-- where no two items are equal, the item at the place isn't in the list without it
remove-out : {A : Type 0} (xs : List A) (at : ℕ) (x : A) → slice_get xs at ≡ Some x → Distinct xs → In x (remove xs at) → ⊥
remove-out [] at x e d h = absurd cc
remove-out (z ∷ xs) zero x e d h = let g : Some z ≡ Some x = e in let k : z ≡ x = cc in not_in-Absent z xs d.0 (subst (λ w. In w xs) (sym k) h)
remove-out (z ∷ xs) (suc at) x e d (inl s) = not_in-Absent z xs d.0 (subst (λ w. In w xs) s (slice_get-in xs at x e))
remove-out (z ∷ xs) (suc at) x e d (inr h) = remove-out xs at x e d.1 h

module _ {W : Dialect} (f : Forest context_ids W) (G : List (Definition context_ids W) → List (Definition context_ids W)) where
  abbrev after : Definer context_ids → Forest context_ids W
  after d = on_definitions f d G

  -- all but what is defined is as before
  pub defines : (d : Definer context_ids) → IsLive f (definer_entity context_ids d) → Defines f (after d) d (definitions_of f d) (G (definitions_of f d))
  defines (of_op o) live =
      let q = there (f.ops o) live in
      subst (λ (xs : List (Definition context_ids W)). Defines f (after (of_op o)) (of_op o) xs (G xs)) (sym (ap (list_of (λ (r : OpRecord context_ids W). r.results)) q.1)) (defines_results lawful f G o q.0 q.1)
  defines (of_block b) live =
      let q = there (f.blocks b) live in
      subst (λ (xs : List (Definition context_ids W)). Defines f (after (of_block b)) (of_block b) xs (G xs)) (sym (ap (list_of (λ (r : BlockRecord context_ids W). r.arguments)) q.1)) (defines_arguments lawful f G b q.0 q.1)

  -- the list is the one that it was rewritten to
  rewritten : (d : Definer context_ids) → IsLive f (definer_entity context_ids d) → definitions_of (after d) d ≡ G (definitions_of f d)
  rewritten (of_op o) live = elim (rewrite_at same_id id_tells o (on_results G) f.ops o) [
    | inl e ↦
        let q = there (f.ops o) live in
        ap (list_of (λ (r : OpRecord context_ids W). r.results)) (e.1 ∙ ap (option_map (on_results G)) q.1)
        ∙ sym (ap (λ (m : Option (OpRecord context_ids W)). G (list_of (λ (r : OpRecord context_ids W). r.results) m)) q.1)
    | inr e ↦ absurd (e.0 refl)
  ]
  rewritten (of_block b) live = elim (rewrite_at same_id id_tells b (on_arguments G) f.blocks b) [
    | inl e ↦
        let q = there (f.blocks b) live in
        ap (list_of (λ (r : BlockRecord context_ids W). r.arguments)) (e.1 ∙ ap (option_map (on_arguments G)) q.1)
        ∙ sym (ap (λ (m : Option (BlockRecord context_ids W)). G (list_of (λ (r : BlockRecord context_ids W). r.arguments) m)) q.1)
    | inr e ↦ absurd (e.0 refl)
  ]

-- where the numbers stay, what was live is live
module _ {W : Dialect} (f g : Forest context_ids W) (d : Definer context_ids) (xs ys : List (Definition context_ids W)) (defined : Defines f g d xs ys) where
  pub names-live : ((n : ℕ) → In n (numbers_in xs) → In n (numbers_in ys)) → StayLive f g
  names-live still (the_block b) h = defined.live (a_block b) h
  names-live still (a_value v) h = elim (defined.at v.definer) [ inl c ↦ rw c.2 (still v.number (rw c.1 at h)) | inr c ↦ rw c h ]

module _ {W : Dialect} (f : Forest context_ids W) (keys : ℕ) (formed : WellFormed f keys) (place : List (Definition context_ids W) → ℕ) (d : Definer context_ids) (live : IsLive f (definer_entity context_ids d)) where
  abbrev xs : List (Definition context_ids W)
  xs = definitions_of f d

  abbrev without : Forest context_ids W
  without = on_definitions f d (λ ys. remove ys (place ys))

  defined : Defines f without d xs (remove xs (place xs))
  defined = defines f (λ ys. remove ys (place ys)) d live

  numbers-left : numbers_in (remove xs (place xs)) ≡ remove (numbers_of f d) (place xs)
  numbers-left = map-remove (λ (x : Definition context_ids W). x.number) xs (place xs)

  module _ (n : ℕ) (there : slice_get (numbers_of f d) (place xs) ≡ Some n) where
    abbrev gone : Value context_ids
    gone = record { definer = d; number = n }

    still : (m : ℕ) → In m (numbers_of f d) → (m ≡ n) ⊎ In m (numbers_in (remove xs (place xs)))
    still m h = elim (remove-in (numbers_of f d) (place xs) n m there h) [ inl e ↦ inl e | inr k ↦ inr (subst (In m) (sym numbers-left) k) ]

    -- one that nothing names was taken out
    pub removed-kept : Unused f (a_value gone) → Kept f without keys []
    removed-kept unused =
        removed_kept f without d xs (remove xs (place xs)) keys formed defined [] (Sub-remove xs (place xs))
        (λ o v named of h. elim (still v.number h) [
          | inl e ↦ absurd (unused o (subst (λ (w : Value context_ids). In (a_value w) (names_of f o)) (λ i. record { definer = of i; number = e i }) named))
          | inr k ↦ k
        ])

    -- it isn't live any more, and all else that was live is
    pub removed-live : StayLiveBut f without (a_value gone)
    removed-live = record {
      is_gone = λ h. remove-out (numbers_of f d) (place xs) n there (formed.numbers_once d)
          (subst (In n) (ap (λ (ys : List (Definition context_ids W)). numbers_in ys) (rewritten f (λ ys. remove ys (place ys)) d live) ∙ numbers-left) h);
      others = others;
    }
      where
        others : (c : Named context_ids) → (c ≡ a_value gone → ⊥) → IsLiveNamed f c → IsLiveNamed without c
        others (the_block b) differ h = defined.live (a_block b) h
        others (a_value v) differ h = elim (defined.at v.definer) [
          | inl c ↦ rw c.2 (elim (still v.number (subst (λ e. In v.number (numbers_of f e)) c.0 h)) [
            | inl e ↦ absurd (differ (λ i. a_value (record { definer = c.0 i; number = e i })))
            | inr k ↦ k
          ])
          | inr c ↦ rw c h
        ]

    pub removed-entities-live : (e : _) → IsLive f e → IsLive without e
    removed-entities-live = defined.live
