-- Results and arguments put in and taken out, and a new block, keep a forest well formed.
use mathlib.Core.Path.{◌≡◌, refl, sym, ap, ap₂, ◌∙◌, subst}
use Rattle.std.proofs.Common.{ℕ, ◌<◌, ◌≢◌, ◌⊎◌, inl, inr, Bool, true, false, Option, Some, None, List, [], ◌∷◌, ◌++◌, map, cond, is_some}
use Rattle.std.specs.Option.{option_map}
use Rattle.ir_model.specs.Ids.{Ids, Distinct}
use Rattle.ir_model.specs.Forest.{Text, Dialect, Definer, of_op, of_block, Value, Entity, an_op, a_block, a_region, Definition, OpRecord, BlockRecord, Forest, Named, a_value, the_block}
use Rattle.ir_model.specs.Nesting.{In, list_of, children, IsLive, IsLiveNamed, WellFormed, numbers_of, use_numbers_of, names_of, regions_of, definitions_of}
use Rattle.ir_model.specs.Changes.{rewrite, on_op, on_block, on_results, on_arguments, new_block}
use Rattle.ir_model.proofs.Loops.{Lawful}
use Rattle.ir_model.proofs.Keeps.{rewrite_at, Nested-same}
use Rattle.ir_model.proofs.KeepsNew.{put_at}
use Rattle.ir_model.proofs.Parts.{Kept}
use Rattle.ir_model.proofs.Trees.{Sub, Sub-map, Sub-in, Sub-distinct}
use Rattle.ir_model.proofs.Entries.{AddsOne, AddsOne-map, AddsOne-in, AddsOne-still, AddsOne-distinct}

-- a part that a rewrite leaves alone
same_part : {A R X : Type 0} (of : R → List X) (h : R → R) → ((r : R) → of (h r) ≡ of r) → (same : A → A → Bool) (key : A) (m : A → Option R) (x : A) → list_of of (rewrite same key h m x) ≡ list_of of (m x)
same_part {R = R} of h keeps same key m x = by (same x key) (m x)
  where
    by : (t : Bool) (o : Option R) → list_of of (cond t (option_map h o) o) ≡ list_of of o
    by true None = refl
    by true (Some r) = keeps r
    by false o = refl

same_some : {A R : Type 0} (h : R → R) (same : A → A → Bool) (key : A) (m : A → Option R) (x : A) → is_some (rewrite same key h m x) ≡ is_some (m x)
same_some {R = R} h same key m x = by (same x key) (m x)
  where
    by : (t : Bool) (o : Option R) → is_some (cond t (option_map h o) o) ≡ is_some o
    by true None = refl
    by true (Some r) = refl
    by false o = refl

module _ {N : Ids} {W : Dialect} where
  -- the definitions of d are the second list in place of the first, and all else is as before
  pub record Defines (f g : Forest N W) (d : Definer N) (xs ys : List (Definition N W)) : Type 0 where
    pub children : (y : Entity N) → children g y ≡ children f y
    pub regions : (o : N.Op) → regions_of g o ≡ regions_of f o
    pub live : (x : Entity N) → IsLive f x → IsLive g x
    pub back : (r : N.Region) → IsLive g (a_region r) → IsLive f (a_region r)
    pub uses : (o : N.Op) → use_numbers_of g o ≡ use_numbers_of f o
    pub names : (o : N.Op) → names_of g o ≡ names_of f o
    pub at : (e : Definer N) → ((e ≡ d) × (definitions_of f e ≡ xs) × (definitions_of g e ≡ ys)) ⊎ (definitions_of g e ≡ definitions_of f e)

  abbrev pub numbers_in : List (Definition N W) → List N.ValueNumber
  numbers_in xs = map (λ (x : Definition N W). x.number) xs

  abbrev pub types_in : List (Definition N W) → List ℕ
  types_in xs = map (λ (x : Definition N W). x.ty) xs

  module _ (f g : Forest N W) (d : Definer N) (xs ys : List (Definition N W)) (keys : ℕ) (w : WellFormed f keys) (defines : Defines f g d xs ys) where
    -- the forest is well formed, and its values are those that it had and these of d
    pub record KeptOrMade (new : List N.ValueNumber) : Type 0 where
      pub forest : WellFormed g keys
      pub values : (v : Value N) → IsLiveNamed g (a_value v) → IsLiveNamed f (a_value v) ⊎ ((v.definer ≡ d) × In v.number new)
      pub uses : (o : N.Op) (u : N.UseNumber) → In u (use_numbers_of g o) → In u (use_numbers_of f o)

    pub made_kept : (new : List N.ValueNumber) → ((n : N.ValueNumber) → In n (numbers_in xs) → In n (numbers_in ys)) → ((n : N.ValueNumber) → In n (numbers_in ys) → In n (numbers_in xs) ⊎ In n new)
        → ((e : Definer N) (n : N.ValueNumber) → In n new → In n (numbers_of f e) → ⊥) → (Distinct (numbers_in xs) → Distinct (numbers_in ys))
        → ((t : ℕ) → In t (types_in ys) → In t (types_in xs) ⊎ (t < keys)) → KeptOrMade new
    made_kept new still back unused distinct types = record {
      forest = record {
        nested = Nested-same f g defines.children defines.regions defines.live defines.back w.nested;
        numbers = numbers;
        numbers_once = λ e. elim (defines.at e) [ inl c ↦ rw c.2 (distinct (rw c.1 at (w.numbers_once e))) | inr c ↦ rw c (w.numbers_once e) ];
        uses = λ o p u. rw (defines.uses o, defines.uses p) (w.uses o p u);
        uses_once = λ o. rw (defines.uses o) (w.uses_once o);
        named = λ o c h. still_named c (w.named o c (rw (defines.names o) at h));
        known = λ e t h. elim (defines.at e) [ inl c ↦ elim (types t (rw c.2 at h)) [ inl k ↦ w.known e t (rw c.1 k) | inr k ↦ k ] | inr c ↦ w.known e t (rw c at h) ];
      };
      values = λ v h. was_or_new v.definer v.number h;
      uses = λ o u h. rw (defines.uses o) at h;
    }
      where
        was_or_new : (e : Definer N) (n : N.ValueNumber) → In n (numbers_of g e) → In n (numbers_of f e) ⊎ ((e ≡ d) × In n new)
        was_or_new e n h = elim (defines.at e) [
          | inl c ↦ elim (back n (rw c.2 at h)) [ inl k ↦ inl (rw c.1 k) | inr k ↦ inr (c.0, k) ]
          | inr c ↦ inl (rw c at h)
        ]

        numbers : (e c : Definer N) (n : N.ValueNumber) → In n (numbers_of g e) → In n (numbers_of g c) → e ≡ c
        numbers e c n h k = elim (was_or_new e n h) [
          | inl a ↦ elim (was_or_new c n k) [ inl b ↦ w.numbers e c n a b | inr b ↦ absurd (unused e n b.1 a) ]
          | inr a ↦ elim (was_or_new c n k) [ inl b ↦ absurd (unused c n a.1 b) | inr b ↦ a.0 ∙ sym b.0 ]
        ]

        still_named : (c : Named N) → IsLiveNamed f c → IsLiveNamed g c
        still_named (the_block b) h = defines.live (a_block b) h
        still_named (a_value v) h = elim (defines.at v.definer) [ inl c ↦ rw c.2 (still v.number (rw c.1 at h)) | inr c ↦ rw c h ]

    -- one more
    pub added_kept : (x : Definition N W) → AddsOne x xs ys → ((e : Definer N) → In x.number (numbers_of f e) → ⊥) → x.ty < keys → (e : definitions_of f d ≡ xs) → KeptOrMade (x.number ∷ [])
    added_kept x adds unused known is =
        made_kept (x.number ∷ []) (λ n h. AddsOne-still n (AddsOne-map (λ (z : Definition N W). z.number) adds) h)
        (λ n h. elim (AddsOne-in n (AddsOne-map (λ (z : Definition N W). z.number) adds) h) [ inl e ↦ inr (inl e) | inr k ↦ inl k ])
        (λ e n h k. elim h [ inl s ↦ unused e (subst (λ z. In z (numbers_of f e)) s k) | inr i ↦ elim i [ ] ])
        (λ distinct. AddsOne-distinct (AddsOne-map (λ (z : Definition N W). z.number) adds) distinct (λ h. unused d (rw is h)))
        (λ t h. elim (AddsOne-in t (AddsOne-map (λ (z : Definition N W). z.ty) adds) h) [ inl e ↦ inr (rw e known) | inr k ↦ inl k ])

    -- some left out that nothing names
    pub removed_kept : (new : List N.UseNumber) → Sub ys xs → ((o : N.Op) (v : Value N) → In (a_value v) (names_of f o) → v.definer ≡ d → In v.number (numbers_in xs) → In v.number (numbers_in ys)) → Kept f g keys new
    removed_kept new fewer unnamed = record {
      forest = record {
        nested = Nested-same f g defines.children defines.regions defines.live defines.back w.nested;
        numbers = λ e c n h k. w.numbers e c n (was e n h) (was c n k);
        numbers_once = λ e. elim (defines.at e) [ inl c ↦ rw c.2 (Sub-distinct (Sub-map (λ (x : Definition N W). x.number) fewer) (rw c.1 at (w.numbers_once e))) | inr c ↦ rw c (w.numbers_once e) ];
        uses = λ o p u. rw (defines.uses o, defines.uses p) (w.uses o p u);
        uses_once = λ o. rw (defines.uses o) (w.uses_once o);
        named = λ o c h. still_named o c (rw (defines.names o) at h);
        known = λ e t h. elim (defines.at e) [ inl c ↦ w.known e t (rw c.1 (Sub-in t (Sub-map (λ (x : Definition N W). x.ty) fewer) (rw c.2 at h))) | inr c ↦ w.known e t (rw c at h) ];
      };
      values = λ v h. was v.definer v.number h;
      uses = λ o u h. inl (rw (defines.uses o) at h);
    }
      where
        was : (e : Definer N) (n : N.ValueNumber) → In n (numbers_of g e) → In n (numbers_of f e)
        was e n h = elim (defines.at e) [ inl c ↦ rw c.1 (Sub-in n (Sub-map (λ (x : Definition N W). x.number) fewer) (rw c.2 at h)) | inr c ↦ rw c at h ]

        still_named : (o : N.Op) (c : Named N) → In c (names_of f o) → IsLiveNamed g c
        still_named o (the_block b) h = defines.live (a_block b) (w.named o (the_block b) h)
        still_named o (a_value v) h = elim (defines.at v.definer) [
          | inl c ↦ rw c.2 (unnamed o v h c.0 (rw c.1 at (w.named o (a_value v) h)))
          | inr c ↦ rw c (w.named o (a_value v) h)
        ]

  module _ (L : Lawful N) (f : Forest N W) (G : List (Definition N W) → List (Definition N W)) where
    pub defines_results : (o : N.Op) (r : OpRecord N W) → f.ops o ≡ Some r → Defines f (on_op f o (on_results G)) (of_op o) r.results (G r.results)
    defines_results o r is = record {
      children = same_children;
      regions = same_part (λ x. x.regions) (on_results G) (λ x. refl) N.same_op o f.ops;
      live = live;
      back = λ x h. h;
      uses = λ p. ap₂ (λ ps qs. map (λ x. x.use_number) ps ++ map (λ x. x.use_number) qs) (operands p) (successors p);
      names = λ p. ap₂ (λ ps qs. map (λ x. a_value x.value) ps ++ map (λ x. the_block x.block) qs) (operands p) (successors p);
      at = at;
    }
      where
        operands : (p : N.Op) → list_of (λ (x : OpRecord N W). x.operands) ((on_op f o (on_results G)).ops p) ≡ list_of (λ (x : OpRecord N W). x.operands) (f.ops p)
        operands = same_part (λ x. x.operands) (on_results G) (λ x. refl) N.same_op o f.ops

        successors : (p : N.Op) → list_of (λ (x : OpRecord N W). x.successors) ((on_op f o (on_results G)).ops p) ≡ list_of (λ (x : OpRecord N W). x.successors) (f.ops p)
        successors = same_part (λ x. x.successors) (on_results G) (λ x. refl) N.same_op o f.ops

        same_children : (y : Entity N) → children (on_op f o (on_results G)) y ≡ children f y
        same_children (an_op p) = ap (map a_region) (same_part (λ x. x.regions) (on_results G) (λ x. refl) N.same_op o f.ops p)
        same_children (a_block b) = refl
        same_children (a_region q) = refl

        live : (x : Entity N) → IsLive f x → IsLive (on_op f o (on_results G)) x
        live (an_op p) h = same_some (on_results G) N.same_op o f.ops p ∙ h
        live (a_block b) h = h
        live (a_region q) h = h

        at : (e : Definer N) → ((e ≡ of_op o) × (definitions_of f e ≡ r.results) × (definitions_of (on_op f o (on_results G)) e ≡ G r.results)) ⊎ (definitions_of (on_op f o (on_results G)) e ≡ definitions_of f e)
        at (of_block b) = inr refl
        at (of_op p) = elim (rewrite_at N.same_op L.ops o (on_results G) f.ops p) [
          | inl e ↦ inl (
              let was : f.ops p ≡ Some r = ap f.ops e.0 ∙ is in
              (ap of_op e.0, ap (list_of (λ (x : OpRecord N W). x.results)) was, ap (list_of (λ (x : OpRecord N W). x.results)) (e.1 ∙ ap (option_map (on_results G)) was)))
          | inr e ↦ inr (ap (list_of (λ (x : OpRecord N W). x.results)) e.1)
        ]

    pub defines_arguments : (b : N.Block) (r : BlockRecord N W) → f.blocks b ≡ Some r → Defines f (on_block f b (on_arguments G)) (of_block b) r.arguments (G r.arguments)
    defines_arguments b r is = record {
      children = same_children;
      regions = λ o. refl;
      live = live;
      back = λ x h. h;
      uses = λ p. refl;
      names = λ p. refl;
      at = at;
    }
      where
        same_children : (y : Entity N) → children (on_block f b (on_arguments G)) y ≡ children f y
        same_children (an_op p) = refl
        same_children (a_block c) = ap (map an_op) (same_part (λ x. x.ops) (on_arguments G) (λ x. refl) N.same_block b f.blocks c)
        same_children (a_region q) = refl

        live : (x : Entity N) → IsLive f x → IsLive (on_block f b (on_arguments G)) x
        live (an_op p) h = h
        live (a_block c) h = same_some (on_arguments G) N.same_block b f.blocks c ∙ h
        live (a_region q) h = h

        at : (e : Definer N) → ((e ≡ of_block b) × (definitions_of f e ≡ r.arguments) × (definitions_of (on_block f b (on_arguments G)) e ≡ G r.arguments)) ⊎ (definitions_of (on_block f b (on_arguments G)) e ≡ definitions_of f e)
        at (of_op b) = inr refl
        at (of_block p) = elim (rewrite_at N.same_block L.blocks b (on_arguments G) f.blocks p) [
          | inl e ↦ inl (
              let was : f.blocks p ≡ Some r = ap f.blocks e.0 ∙ is in
              (ap of_block e.0, ap (list_of (λ (x : BlockRecord N W). x.arguments)) was, ap (list_of (λ (x : BlockRecord N W). x.arguments)) (e.1 ∙ ap (option_map (on_arguments G)) was)))
          | inr e ↦ inr (ap (list_of (λ (x : BlockRecord N W). x.arguments)) e.1)
        ]

  pub defines_block : (L : Lawful N) (f : Forest N W) (b : N.Block) (loc : W.Loc) (label : Option Text) (arguments : List (Definition N W)) → f.blocks b ≡ None → Defines f (new_block f b loc label arguments) (of_block b) [] arguments
  defines_block L f b loc label arguments dead = record {
    children = same_children;
    regions = λ o. refl;
    live = live;
    back = λ x h. h;
    uses = λ p. refl;
    names = λ p. refl;
    at = at;
  }
    where
      block_case : (c : N.Block) → ((c ≡ b) × ((new_block f b loc label arguments).blocks c ≡ Some (record { label = label; arguments = arguments; ops = []; attributes = []; loc = loc }))) ⊎ ((c ≢ b) × ((new_block f b loc label arguments).blocks c ≡ f.blocks c))
      block_case c = put_at N.same_block L.blocks b (record { label = label; arguments = arguments; ops = []; attributes = []; loc = loc }) f.blocks c

      same_children : (y : Entity N) → children (new_block f b loc label arguments) y ≡ children f y
      same_children (an_op p) = refl
      same_children (a_region q) = refl
      same_children (a_block c) = elim (block_case c) [
        | inl e ↦ (let was : f.blocks c ≡ None = ap f.blocks e.0 ∙ dead in ap (λ m. map an_op (list_of (λ (x : BlockRecord N W). x.ops) m)) e.1 ∙ sym (ap (λ m. map an_op (list_of (λ (x : BlockRecord N W). x.ops) m)) was))
        | inr e ↦ ap (λ m. map an_op (list_of (λ (x : BlockRecord N W). x.ops) m)) e.1
      ]

      live : (x : Entity N) → IsLive f x → IsLive (new_block f b loc label arguments) x
      live (an_op p) h = h
      live (a_region q) h = h
      live (a_block c) h = elim (block_case c) [ inl e ↦ rw e.1 refl | inr e ↦ rw e.1 h ]

      at : (e : Definer N) → ((e ≡ of_block b) × (definitions_of f e ≡ []) × (definitions_of (new_block f b loc label arguments) e ≡ arguments)) ⊎ (definitions_of (new_block f b loc label arguments) e ≡ definitions_of f e)
      at (of_op p) = inr refl
      at (of_block c) = elim (block_case c) [
        | inl e ↦ inl (ap of_block e.0, ap (list_of (λ (x : BlockRecord N W). x.arguments)) (ap f.blocks e.0 ∙ dead), ap (list_of (λ (x : BlockRecord N W). x.arguments)) e.1)
        | inr e ↦ inr (ap (list_of (λ (x : BlockRecord N W). x.arguments)) e.1)
      ]
