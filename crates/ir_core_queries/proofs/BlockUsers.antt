-- The users of a block, by the kept list of its uses.
use Rattle.std.proofs.Common.{◌≡◌, ◌∙◌, ◌<◌, arith, ℕ, Bool, true, false, List, [], ◌∷◌, map, length, All, refl, sym, ap, subst, inl, inr}
use Rattle.std.specs.Bool.{MatchBool}
use Rattle.std.specs.Prelude.{◌↔◌, IsTrue}
use Rattle.std.specs.List.{AllWithin, HoldsAt}
use Rattle.std.proofs.lemmas.List.Elements.{All-nil, All-cons, All-head, All-tail}
use Rattle.std.proofs.lemmas.Option.{slice_get_cases}
use Rattle.ir_model.specs.declared.ids.ArenaIndex.{ArenaIndex}
use Rattle.ir_model.specs.ContextIds.{context_ids}
use Rattle.ir_model.specs.Edits.{UsersLinked}
use Rattle.ir_model.specs.Forest.{Dialect, Forest, Named, Operand, Successor, a_value, an_op, the_block}
use Rattle.ir_model.specs.Nesting.{In, IsLinked, names_of, operands_of, successors_of}
use Rattle.ir_model.specs.Uses.{AreUses, IsUse, Use}
use Rattle.ir_model.proofs.Nests.{In-append, In-map, In-map_back, In-right}
use Rattle.ir_core_records.specs.declared.record.UseIndex.{UseIndex}
use Rattle.ir_core_records.specs.declared.records.Records.{Records}
use Rattle.ir_core_records.specs.Meaning.{use_of}
use Rattle.ir_core_records.specs.Table.{block_uses_at}

module _ {A : Type 0} (P : A → Type 0) where
  -- of what stands in the list, to all
  all-in : (xs : List A) → ((x : A) → In x xs → P x) → All P xs
  all-in [] each = All-nil P
  all-in (x ∷ xs) each = All-cons P x xs (each x (inl refl)) (all-in xs (λ y h. each y (inr h)))

  -- and back
  in-all : (xs : List A) (x : A) → All P xs → In x xs → P x
  in-all [] x all h = absurd h
  in-all (y ∷ ys) x all (inl e) = subst P (sym e) (All-head P y ys all)
  in-all (y ∷ ys) x all (inr h) = in-all ys x (All-tail P y ys all) h

-- all have P where a test of each says so
pub all-told : {A : Type 0} (P : A → Type 0) (r : Bool) (xs : List A) → MatchBool r (AllWithin P xs 0 (length xs)) ((k : ℕ) × (k < length xs) × HoldsAt (λ x. P x → ⊥) xs k) → IsTrue r ↔ All P xs
all-told P true xs all = (λ t k d below. all k d (omega arith) below, λ h. refl)
all-told P false xs some = (
  λ t. absurd cc,
  λ all. elim (slice_get_cases xs some.0).1 [
    | inl at ↦ absurd (some.2 at.0 (all some.0 at.0 some.1))
    | inr past ↦ absurd (omega (arith, some.1, past.0))
  ],
)

module _ {W : Dialect} (f : Forest context_ids W) where
  -- a use's user names the block
  use-named : (b : ArenaIndex) (u : Use context_ids) → IsUse f (the_block b) u → In (the_block b) (names_of f u.user)
  use-named b u h = In-right (the_block b) (map (λ (p : Operand context_ids). a_value p.value) (operands_of f u.user)) _ (In-map (λ (p : Successor context_ids). the_block p.block) _ (successors_of f u.user) h)

  -- what names the block has a use of it
  named-use : (b o : ArenaIndex) → In (the_block b) (names_of f o) → (u : Use context_ids) × IsUse f (the_block b) u × (u.user ≡ o)
  named-use b o h = elim (In-append (the_block b) (map (λ (p : Operand context_ids). a_value p.value) (operands_of f o)) (map (λ (p : Successor context_ids). the_block p.block) (successors_of f o)) h) [
    | inl k ↦ absurd (let at = In-map_back (λ (p : Operand context_ids). a_value p.value) (the_block b) (operands_of f o) k in let e : ◌≡◌ {A = Named context_ids} (the_block b) (a_value at.0.value) = at.2 in cc)
    | inr k ↦
        let at = In-map_back (λ (p : Successor context_ids). the_block p.block) (the_block b) (successors_of f o) k in
        let e : ◌≡◌ {A = Named context_ids} (the_block b) (the_block at.0.block) = at.2 in
        let s : b ≡ at.0.block = cc in
        (record { user = o; number = at.0.use_number }, subst (λ z. In z (successors_of f o)) (λ i. record { use_number = at.0.use_number; block = sym s i }) at.1, refl)
  ]

  module _ (b : ArenaIndex) (kept : List UseIndex) (are : AreUses f (the_block b) (map use_of kept)) where
    -- the user of each kept use names the block
    kept-named : (u : UseIndex) → In u kept → In (the_block b) (names_of f u.user)
    kept-named u h = use-named b (use_of u) ((are.exact (use_of u)).0 (In-map use_of u kept h))

    -- and what names the block is the user of a kept use
    named-kept : (o : ArenaIndex) → In (the_block b) (names_of f o) → (u : UseIndex) × In u kept × (u.user ≡ o)
    named-kept o h =
        let u = named-use b o h in
        let at = In-map_back use_of u.0 kept ((are.exact u.0).1 u.1) in
        (at.0, at.1, ap (λ (x : Use context_ids). x.user) (sym at.2) ∙ u.2)

    -- what names the block are the users of the kept uses
    pub users-named : (o : ArenaIndex) → In (the_block b) (names_of f o) ↔ In o (map (λ (u : UseIndex). u.user) kept)
    users-named o = (
      λ h. (let u = named-kept o h in subst (λ p. In p (map (λ (x : UseIndex). x.user) kept)) u.2 (In-map (λ (x : UseIndex). x.user) u.0 kept u.1)),
      λ h. (let at = In-map_back (λ (x : UseIndex). x.user) o kept h in subst (λ p. In (the_block b) (names_of f p)) (sym at.2) (kept-named at.0 at.1)),
    )

    -- all users are linked where those of the kept uses are
    pub users-linked : All (λ (u : UseIndex). IsLinked f (an_op u.user)) kept ↔ UsersLinked f b
    users-linked = (
      λ all o h. (let u = named-kept o h in subst (λ p. IsLinked f (an_op p)) u.2 (in-all (λ (x : UseIndex). IsLinked f (an_op x.user)) kept u.0 all u.1)),
      λ linked. all-in (λ (u : UseIndex). IsLinked f (an_op u.user)) kept (λ u h. linked u.user (kept-named u h)),
    )

-- the kept uses, as the context has them
pub kept-meant : {D A K B S X L : Type 0} (s t : Records D A K B S X L) → s ≡ t → (b : ArenaIndex) (kept : List UseIndex) → kept ≡ block_uses_at s (record { index = b }) → map use_of kept ≡ map use_of (block_uses_at t (record { index = b }))
kept-meant {D} {A} {K} {B} {S} {X} {L} s t same b kept is = ap (map use_of) (is ∙ ap (λ (z : Records D A K B S X L). block_uses_at z (record { index = b })) same)
