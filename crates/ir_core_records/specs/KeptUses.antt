-- Kept uses are those of the places, whatever is named.
use Rattle.std.proofs.Common.{◌≡◌, sym, ap, subst, ◌∙◌, ◌↔◌, ℕ, List, map, Some, slice_get}
use Rattle.std.proofs.lemmas.Option.{same_Some, slice_get-map}
use Rattle.ir_model.specs.declared.ids.ArenaIndex.{ArenaIndex}
use Rattle.ir_model.specs.ContextIds.{context_ids}
use Rattle.ir_model.specs.Ids.{Distinct}
use Rattle.ir_model.specs.Nesting.{In}
use Rattle.ir_model.specs.Uses.{Use}
use Rattle.ir_model.proofs.Back.{slice_get-in}
use Rattle.ir_model.proofs.Keeps.{Distinct-unmap}
use Rattle.ir_model.proofs.Nests.{In-map, In-map_back}
use Rattle.ir_core_records.specs.declared.record.UseIndex.{UseIndex}
use Rattle.ir_core_records.specs.declared.record.UsePlace.{UsePlace}
use Rattle.ir_core_records.specs.Links.{LinkedBut, NoHole}
use Rattle.ir_core_records.specs.Meaning.{use_of}
use Rattle.ir_core_records.specs.Found.{Distinct-places, place-In, some_behind}
use Rattle.ir_core_records.specs.Meant.{map-map}

module _ {N : Type 0} (places : ArenaIndex → List (UsePlace N)) (uses : N → List UseIndex) (linked : LinkedBut NoHole places uses) where
  -- two kept uses with one number are one
  pub one_kept : (v w : N) (i j : ℕ) (a b : UseIndex) → slice_get (uses v) i ≡ Some a → slice_get (uses w) j ≡ Some b → a.number ≡ b.number → (v ≡ w) × (i ≡ j)
  one_kept v w i j a b at bt n =
      let p = linked.backward v i a at in
      let q = linked.backward w j b bt in
      let x : UsePlace N = record { number = a.number; names = v; place = i } in
      let y : UsePlace N = record { number = b.number; names = w; place = j } in
      let same = linked.distinct a.user b.user p.0 q.0 x y p.1 q.1 n in
      let there : slice_get (places b.user) q.0 ≡ Some x = subst (λ o. slice_get (places o) q.0 ≡ Some x) same.0 (subst (λ k. slice_get (places a.user) k ≡ Some x) same.1 p.1) in
      let e : x ≡ y = same_Some x y (sym there ∙ q.1) in
      (ap (λ (z : UsePlace N). z.names) e, ap (λ (z : UsePlace N). z.place) e)

  -- the uses of one definition have different numbers
  pub numbers-differ : (v : N) → Distinct (map (λ (u : UseIndex). u.number) (uses v))
  numbers-differ v = Distinct-places (map (λ (u : UseIndex). u.number) (uses v)) (λ i j n e f. (
      let a = some_behind (λ (u : UseIndex). u.number) (slice_get (uses v) i) n (sym (slice_get-map (λ (u : UseIndex). u.number) (uses v) i) ∙ e) in
      let b = some_behind (λ (u : UseIndex). u.number) (slice_get (uses v) j) n (sym (slice_get-map (λ (u : UseIndex). u.number) (uses v) j) ∙ f) in
      (one_kept v v i j a.0 b.0 a.1 b.1 (a.2 ∙ sym b.2)).1
      ))

  -- each is kept once
  pub kept-once : (v : N) → Distinct (map use_of (uses v))
  kept-once v = Distinct-unmap (λ (u : Use context_ids). u.number) (map use_of (uses v)) (subst Distinct (sym (map-map use_of (λ (u : Use context_ids). u.number) (uses v))) (numbers-differ v))

  -- the places of an operation have different numbers
  pub places-differ : (o : ArenaIndex) → Distinct (map (λ (a : UsePlace N). a.number) (places o))
  places-differ o = Distinct-places (map (λ (a : UsePlace N). a.number) (places o)) (λ i j n e f. (
      let a = some_behind (λ (x : UsePlace N). x.number) (slice_get (places o) i) n (sym (slice_get-map (λ (x : UsePlace N). x.number) (places o) i) ∙ e) in
      let b = some_behind (λ (x : UsePlace N). x.number) (slice_get (places o) j) n (sym (slice_get-map (λ (x : UsePlace N). x.number) (places o) j) ∙ f) in
      (linked.distinct o o i j a.0 b.0 a.1 b.1 (a.2 ∙ sym b.2)).1
      ))

  module _ {P : Type 0} (meant : ℕ → N → P) (same : (m n : ℕ) (v w : N) → meant m v ≡ meant n w → (m ≡ n) × (v ≡ w)) (plain : ArenaIndex → List P) (is : (o : ArenaIndex) → plain o ≡ map (λ (a : UsePlace N). meant a.number a.names) (places o)) where
    kept-use : (v : N) (u : Use context_ids) → In u (map use_of (uses v)) → In (meant u.number v) (plain u.user)
    kept-use v u h =
        let at = In-map_back use_of u (uses v) h in
        let p = place-In (uses v) at.0 at.1 in
        let q = linked.backward v p.0 at.0 p.1 in
        let there : In (meant at.0.number v) (map (λ (a : UsePlace N). meant a.number a.names) (places at.0.user)) = In-map (λ (a : UsePlace N). meant a.number a.names) (record { number = at.0.number; names = v; place = p.0 }) (places at.0.user) (slice_get-in (places at.0.user) q.0 _ q.1) in
        subst (λ (w : Use context_ids). In (meant w.number v) (plain w.user)) (sym at.2) (subst (In (meant at.0.number v)) (sym (is at.0.user)) there)

    use-kept : (v : N) (u : Use context_ids) → In (meant u.number v) (plain u.user) → In u (map use_of (uses v))
    use-kept v u h =
        let at = In-map_back (λ (a : UsePlace N). meant a.number a.names) (meant u.number v) (places u.user) (subst (In (meant u.number v)) (is u.user) h) in
        let p = place-In (places u.user) at.0 at.1 in
        let e = same u.number at.0.number v at.0.names at.2 in
        let there : slice_get (uses at.0.names) at.0.place ≡ Some (record { user = u.user; number = at.0.number }) = linked.forward u.user p.0 at.0 p.1 (λ x. x) in
        let here : slice_get (uses v) at.0.place ≡ Some (record { user = u.user; number = u.number }) = subst (λ w. slice_get (uses w) at.0.place ≡ Some (record { user = u.user; number = u.number })) (sym e.1) (subst (λ n. slice_get (uses at.0.names) at.0.place ≡ Some (record { user = u.user; number = n })) (sym e.0) there) in
        In-map use_of (record { user = u.user; number = u.number }) (uses v) (slice_get-in (uses v) at.0.place _ here)

    -- the kept uses are those whose place names the definition
    pub kept-exact : (v : N) (u : Use context_ids) → In u (map use_of (uses v)) ↔ In (meant u.number v) (plain u.user)
    kept-exact v u = (kept-use v u, use-kept v u)
