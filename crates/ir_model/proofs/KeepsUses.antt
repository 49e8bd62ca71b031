-- Changes of operands and successors keep a forest well formed.
use mathlib.Core.Path.{◌≡◌, refl, sym, ap, ap₂, ◌∙◌, subst}
use Rattle.std.proofs.Common.{ℕ, ◌⊎◌, inl, inr, Bool, true, false, Option, Some, None, List, [], ◌∷◌, ◌++◌, map, cond, is_some}
use Rattle.std.specs.Option.{option_map}
use Rattle.ir_model.specs.Ids.{Ids, Distinct}
use Rattle.ir_model.specs.Forest.{Dialect, Definer, of_op, of_block, Value, Entity, an_op, a_block, a_region, OpRecord, Forest, Operand, Successor, Named, a_value, the_block, same_value}
use Rattle.ir_model.specs.Nesting.{In, list_of, children, IsLive, IsLiveNamed, WellFormed, use_numbers_of, names_of, regions_of, definitions_of}
use Rattle.ir_model.specs.Changes.{rewrite_all, redirect, redirected, retarget, retargeted, DropsUses, no_uses}
use Rattle.ir_model.proofs.Nests.{In-append, In-left, In-right}
use Rattle.ir_model.proofs.Keeps.{list_of-map, is_some-map, Nested-same}
use Rattle.ir_model.proofs.Parts.{Kept}

module _ {N : Ids} {W : Dialect} where
  abbrev pub use_numbers : OpRecord N W → List N.UseNumber
  use_numbers r = map (λ p. p.use_number) r.operands ++ map (λ p. p.use_number) r.successors

  abbrev pub named_by : OpRecord N W → List (Named N)
  named_by r = map (λ p. a_value p.value) r.operands ++ map (λ p. the_block p.block) r.successors

  pub uses_are : (f : Forest N W) (o : N.Op) → use_numbers_of f o ≡ list_of use_numbers (f.ops o)
  uses_are f o = by (f.ops o)
    where
      by : (m : Option (OpRecord N W)) → map (λ p. p.use_number) (list_of (λ r. r.operands) m) ++ map (λ p. p.use_number) (list_of (λ r. r.successors) m) ≡ list_of use_numbers m
      by None = refl
      by (Some r) = refl

  pub names_are : (f : Forest N W) (o : N.Op) → names_of f o ≡ list_of named_by (f.ops o)
  names_are f o = by (f.ops o)
    where
      by : (m : Option (OpRecord N W)) → map (λ p. a_value p.value) (list_of (λ r. r.operands) m) ++ map (λ p. the_block p.block) (list_of (λ r. r.successors) m) ≡ list_of named_by m
      by None = refl
      by (Some r) = refl

  abbrev pub on_uses : (List (Operand N) → List (Operand N)) → (List (Successor N) → List (Successor N)) → OpRecord N W → OpRecord N W
  on_uses G H r = record r { operands = G r.operands; successors = H r.successors }

  -- where only operands and successors change
  module _ (f : Forest N W) (ops : N.Op → Option (OpRecord N W)) (G : N.Op → List (Operand N) → List (Operand N)) (H : N.Op → List (Successor N) → List (Successor N))
      (shape : (o : N.Op) → ops o ≡ option_map (on_uses (G o) (H o)) (f.ops o)) where
    abbrev after : Forest N W
    after = record f { ops = ops }

    same_regions : (o : N.Op) → regions_of after o ≡ regions_of f o
    same_regions o = ap (list_of (λ r. r.regions)) (shape o) ∙ list_of-map (λ r. r.regions) (on_uses (G o) (H o)) (λ r. refl) (f.ops o)

    same_children : (y : Entity N) → children after y ≡ children f y
    same_children (an_op o) = ap (map a_region) (same_regions o)
    same_children (a_block b) = refl
    same_children (a_region r) = refl

    same_definitions : (d : Definer N) → definitions_of after d ≡ definitions_of f d
    same_definitions (of_block b) = refl
    same_definitions (of_op o) = ap (list_of (λ r. r.results)) (shape o) ∙ list_of-map (λ r. r.results) (on_uses (G o) (H o)) (λ r. refl) (f.ops o)

    live_still : (x : Entity N) → IsLive f x → IsLive after x
    live_still (an_op o) h = ap is_some (shape o) ∙ is_some-map (on_uses (G o) (H o)) (f.ops o) ∙ h
    live_still (a_block b) h = h
    live_still (a_region r) h = h

    named_still : (d : Named N) → IsLiveNamed f d → IsLiveNamed after d
    named_still (a_value v) h = rw (same_definitions v.definer) h
    named_still (the_block b) h = h

    pub kept_uses : (keys : ℕ) (new : List N.UseNumber) → WellFormed f keys
        → ((o p : N.Op) (u : N.UseNumber) → In u (use_numbers_of after o) → In u (use_numbers_of after p) → o ≡ p)
        → ((o : N.Op) → Distinct (use_numbers_of after o))
        → ((o : N.Op) (d : Named N) → In d (names_of after o) → IsLiveNamed f d)
        → ((o : N.Op) (u : N.UseNumber) → In u (use_numbers_of after o) → In u (use_numbers_of f o) ⊎ In u new) → Kept f after keys new
    kept_uses keys new w uses once named back = record {
      forest = record {
        nested = Nested-same f after same_children same_regions live_still (λ r h. h) w.nested;
        numbers = λ d e n. rw (same_definitions d, same_definitions e) (w.numbers d e n);
        numbers_once = λ d. rw (same_definitions d) (w.numbers_once d);
        uses = uses;
        uses_once = once;
        named = λ o d h. named_still d (named o d h);
        known = λ d t. rw (same_definitions d) (w.known d t);
      };
      values = λ v h. rw (same_definitions v.definer) at h;
      uses = back;
    }

  -- where each operation's uses are as before, and it names what it named, or d
  module _ (f : Forest N W) (keys : ℕ) (new : List N.UseNumber) (w : WellFormed f keys) (d : Named N) (live : IsLiveNamed f d) (G : List (Operand N) → List (Operand N)) (H : List (Successor N) → List (Successor N))
      (numbers : (r : OpRecord N W) → use_numbers (on_uses G H r) ≡ use_numbers r)
      (names : (r : OpRecord N W) (c : Named N) → In c (named_by (on_uses G H r)) → In c (named_by r) ⊎ (c ≡ d)) where
    abbrev renamed : Forest N W
    renamed = record f { ops = rewrite_all (on_uses G H) f.ops }

    same_uses : (o : N.Op) → use_numbers_of renamed o ≡ use_numbers_of f o
    same_uses o = uses_are renamed o ∙ by (f.ops o) ∙ sym (uses_are f o)
      where
        by : (m : Option (OpRecord N W)) → list_of use_numbers (option_map (on_uses G H) m) ≡ list_of use_numbers m
        by None = refl
        by (Some r) = numbers r

    live_names : (o : N.Op) (c : Named N) → In c (names_of renamed o) → IsLiveNamed f c
    live_names o c h = by (f.ops o) refl (rw (names_are renamed o) at h)
      where
        by : (m : Option (OpRecord N W)) → f.ops o ≡ m → In c (list_of named_by (option_map (on_uses G H) m)) → IsLiveNamed f c
        by None e k = elim k [ ]
        by (Some r) e k = elim (names r c k) [
          | inl i ↦ w.named o c (rw (names_are f o, e) i)
          | inr i ↦ rw i live
        ]

    renames_kept : Kept f renamed keys new
    renames_kept = kept_uses f renamed.ops (λ _. G) (λ _. H) (λ o. refl) keys new w
        (λ o p u. rw (same_uses o, same_uses p) (w.uses o p u)) (λ o. rw (same_uses o) (w.uses_once o)) live_names (λ o u h. inl (rw (same_uses o) at h))

-- all or none
abbrev kept_or_none : {P Q A : Type 0} → P ⊎ Q → List A → List A
kept_or_none (inl k) ps = ps
kept_or_none (inr k) ps = []

-- entries that are rewritten, each under its number
module _ {E U C : Type 0} (h : E → E) (number : E → U) (name : E → C) (d : C) (keeps : (p : E) → number (h p) ≡ number p) (names : (p : E) → (name (h p) ≡ name p) ⊎ (name (h p) ≡ d)) where
  same_numbers : (ps : List E) → map number (map h ps) ≡ map number ps
  same_numbers [] = refl
  same_numbers (p ∷ ps) = ap₂ (λ u us. u ∷ us) (keeps p) (same_numbers ps)

  names_or : (ps : List E) (c : C) → In c (map name (map h ps)) → In c (map name ps) ⊎ (c ≡ d)
  names_or [] c k = elim k [ ]
  names_or (p ∷ ps) c (inl e) = elim (names p) [ inl s ↦ inl (inl (e ∙ s)) | inr s ↦ inr (e ∙ s) ]
  names_or (p ∷ ps) c (inr k) = elim (names_or ps c k) [ inl i ↦ inl (inr i) | inr i ↦ inr i ]

module _ {N : Ids} where
  module _ (old new : Value N) where
    redirect_number : (p : Operand N) → (redirected old new p).use_number ≡ p.use_number
    redirect_number p = by (same_value N p.value old)
      where
        by : (b : Bool) → (cond b (record p { value = new }) p).use_number ≡ p.use_number
        by true = refl
        by false = refl

    redirect_name : (p : Operand N) → (◌≡◌ {A = Named N} (a_value (redirected old new p).value) (a_value p.value)) ⊎ (◌≡◌ {A = Named N} (a_value (redirected old new p).value) (a_value new))
    redirect_name p = by (same_value N p.value old)
      where
        by : (b : Bool) → (◌≡◌ {A = Named N} (a_value (cond b (record p { value = new }) p).value) (a_value p.value)) ⊎ (◌≡◌ {A = Named N} (a_value (cond b (record p { value = new }) p).value) (a_value new))
        by true = inr refl
        by false = inl refl

  module _ (old new : N.Block) where
    retarget_number : (p : Successor N) → (retargeted old new p).use_number ≡ p.use_number
    retarget_number p = by (N.same_block p.block old)
      where
        by : (b : Bool) → (cond b (record p { block = new }) p).use_number ≡ p.use_number
        by true = refl
        by false = refl

    retarget_name : (p : Successor N) → (◌≡◌ {A = Named N} (the_block (retargeted old new p).block) (the_block p.block)) ⊎ (◌≡◌ {A = Named N} (the_block (retargeted old new p).block) (the_block new))
    retarget_name p = by (N.same_block p.block old)
      where
        by : (b : Bool) → (◌≡◌ {A = Named N} (the_block (cond b (record p { block = new }) p).block) (the_block p.block)) ⊎ (◌≡◌ {A = Named N} (the_block (cond b (record p { block = new }) p).block) (the_block new))
        by true = inr refl
        by false = inl refl

module _ {N : Ids} {W : Dialect} (f : Forest N W) (keys : ℕ) (new : List N.UseNumber) (w : WellFormed f keys) where
  pub ReplaceAllUses-kept : (x y : Value N) → IsLiveNamed f (a_value y) → Kept f (redirect f x y) keys new
  ReplaceAllUses-kept x y live =
      renames_kept f keys new w (a_value y) live (map (redirected x y)) (λ ps. ps)
      (λ r. ap (λ us. us ++ map (λ (p : Successor N). p.use_number) r.successors) (same_numbers (redirected x y) (λ (p : Operand N). p.use_number) (λ (p : Operand N). a_value p.value) (a_value y) (redirect_number x y) (redirect_name x y) r.operands))
      (λ r c h. elim (In-append c _ (map (λ (p : Successor N). the_block p.block) r.successors) h) [
        | inl k ↦ elim (names_or (redirected x y) (λ (p : Operand N). p.use_number) (λ (p : Operand N). a_value p.value) (a_value y) (redirect_number x y) (redirect_name x y) r.operands c k) [
          | inl i ↦ inl (In-left c _ _ i)
          | inr i ↦ inr i
        ]
        | inr k ↦ inl (In-right c (map (λ (p : Operand N). a_value p.value) r.operands) _ k)
      ])

  pub RetargetAll-kept : (b c : N.Block) → IsLiveNamed f (the_block c) → Kept f (retarget f b c) keys new
  RetargetAll-kept b c live =
      renames_kept f keys new w (the_block c) live (λ ps. ps) (map (retargeted b c))
      (λ r. ap (λ us. map (λ (p : Operand N). p.use_number) r.operands ++ us) (same_numbers (retargeted b c) (λ (p : Successor N). p.use_number) (λ (p : Successor N). the_block p.block) (the_block c) (retarget_number b c) (retarget_name b c) r.successors))
      (λ r d h. elim (In-append d (map (λ (p : Operand N). a_value p.value) r.operands) _ h) [
        | inl k ↦ inl (In-left d _ _ k)
        | inr k ↦ elim (names_or (retargeted b c) (λ (p : Successor N). p.use_number) (λ (p : Successor N). the_block p.block) (the_block c) (retarget_number b c) (retarget_name b c) r.successors d k) [
          | inl i ↦ inl (In-right d (map (λ (p : Operand N). a_value p.value) r.operands) _ i)
          | inr i ↦ inr i
        ]
      ])

  module _ (g : Forest N W) (e : Entity N) (drops : DropsUses f e g) where
    drops_shape : (o : N.Op) → g.ops o ≡ option_map (on_uses (kept_or_none (drops.either o)) (kept_or_none (drops.either o))) (f.ops o)
    drops_shape o = by (f.ops o) (drops.either o)
      where
        by : (m : Option (OpRecord N W)) (c : (g.ops o ≡ m) ⊎ (g.ops o ≡ option_map no_uses m)) → g.ops o ≡ option_map (on_uses (kept_or_none c) (kept_or_none c)) m
        by None (inl k) = k
        by None (inr k) = k
        by (Some r) (inl k) = k
        by (Some r) (inr k) = k

    drops_case : (o : N.Op) → ((use_numbers_of g o ≡ use_numbers_of f o) × (names_of g o ≡ names_of f o)) ⊎ ((use_numbers_of g o ≡ []) × (names_of g o ≡ []))
    drops_case o = elim (drops.either o) [
      | inl k ↦ inl (uses_are g o ∙ ap (list_of use_numbers) k ∙ sym (uses_are f o), names_are g o ∙ ap (list_of named_by) k ∙ sym (names_are f o))
      | inr k ↦ inr (uses_are g o ∙ ap (list_of use_numbers) k ∙ no_numbers (f.ops o), names_are g o ∙ ap (list_of named_by) k ∙ no_names (f.ops o))
    ]
      where
        no_numbers : (m : Option (OpRecord N W)) → list_of use_numbers (option_map no_uses m) ≡ []
        no_numbers None = refl
        no_numbers (Some r) = refl

        no_names : (m : Option (OpRecord N W)) → list_of named_by (option_map no_uses m) ≡ []
        no_names None = refl
        no_names (Some r) = refl

    dropped_kept : Kept f (record f { ops = g.ops }) keys new
    dropped_kept = kept_uses f g.ops (λ o. kept_or_none (drops.either o)) (λ o. kept_or_none (drops.either o)) drops_shape keys new w
        (λ o p u h k. w.uses o p u (fewer_uses o u h) (fewer_uses p u k))
        (λ o. elim (drops_case o) [ inl c ↦ rw c.0 (w.uses_once o) | inr c ↦ rw c.0 tt ])
        (λ o d h. elim (drops_case o) [ inl c ↦ w.named o d (rw c.1 at h) | inr c ↦ absurd (let k : In {A = Named N} d [] = rw c.1 at h in k) ])
        (λ o u h. inl (fewer_uses o u h))
      where
        fewer_uses : (o : N.Op) (u : N.UseNumber) → In u (use_numbers_of g o) → In u (use_numbers_of f o)
        fewer_uses o u h = elim (drops_case o) [ inl c ↦ rw c.0 at h | inr c ↦ absurd (let k : In u [] = rw c.0 at h in k) ]

    pub DropsUses-kept : Kept f g keys new
    DropsUses-kept = subst (λ x. Kept f x keys new) (λ i. record { ops = g.ops; blocks = sym drops.blocks i; regions = sym drops.regions i }) dropped_kept
