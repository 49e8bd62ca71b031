-- Notes that are put behind others.
use Rattle.std.proofs.Common.{◌≡◌, ℕ, ◌<◌, zero, refl, sym, ap, ◌∙◌, append_assoc, append-nil, Option, Some, None, true, false, List, [], ◌∷◌, ◌++◌, map}
use Rattle.std.specs.Prelude.{◌↔◌, IsSome}
use Rattle.std.specs.Option.{option_to_list}
use Rattle.std.proofs.lemmas.List.{map-append, same_from_push}
use Rattle.ir_base_arenas.specs.declared.ptr.Ptr.{Ptr}
use Rattle.ir_core_records.specs.declared.record.Operation.{Operation}
use Rattle.ir_rewrite.specs.declared.rewriter.Change.{Change}
use Rattle.ir_rewrite.specs.declared.rewriter.Change.TheVariants.{Touched}
use Rattle.ir_rewrite.specs.Notes.{AddsTouched}

module _ {D A K B S X L : Type 0} where
  pub adds_none : (xs : List (Change D A K B S X L)) → AddsTouched xs xs
  adds_none xs = ([], sym (append-nil xs))

  pub adds_same : (xs ys : List (Change D A K B S X L)) → ys ≡ xs → AddsTouched xs ys
  adds_same xs ys e = ([], e ∙ sym (append-nil xs))

  pub adds_still : (xs ys zs : List (Change D A K B S X L)) → AddsTouched xs ys → zs ≡ ys → AddsTouched xs zs
  adds_still xs ys zs h e = (h.0, e ∙ h.1)

  pub adds_one : (xs ys : List (Change D A K B S X L)) (p : Ptr (Operation D A K B S X L)) → ys ≡ xs ++ Touched p ∷ [] → AddsTouched xs ys
  adds_one xs ys p e = (p ∷ [], e)

  pub adds_joined : (xs ys zs : List (Change D A K B S X L)) → AddsTouched xs ys → AddsTouched ys zs → AddsTouched xs zs
  adds_joined xs ys zs h k =
      let one : Ptr (Operation D A K B S X L) → Change D A K B S X L = λ p. Touched p in (
        h.0 ++ k.0,
        k.1 ∙ ap (λ w. w ++ map one k.0) h.1 ∙ append_assoc xs (map one h.0) (map one k.0) ∙ ap (λ w. xs ++ w) (sym (map-append one h.0 k.0)),
      )

-- what is left where the last is taken back
pub taken_back : {A : Type 0} (xs ys : List A) (x : A) (r : Option A) (n : ℕ) → IsSome r ↔ (zero < n) → zero < n → xs ++ x ∷ [] ≡ ys ++ option_to_list r → ys ≡ xs
taken_back xs ys x None n tells some e = (let wrong : false ≡ true = tells.1 some in absurd cc)
taken_back xs ys x (Some y) n tells some e = sym (same_from_push xs ys x y e).0
