-- What a change of one list of a record leaves as it was.
use mathlib.Core.Path.{◌≡◌, refl, sym, ap, ap₂, ◌∙◌}
use Rattle.std.proofs.Common.{ℕ, ◌≢◌, ◌⊎◌, inl, inr, Bool, true, false, Option, Some, None, List, [], ◌++◌, map, cond, is_some, IsSome}
use Rattle.std.specs.Option.{option_map}
use Rattle.ir_model.specs.Ids.{Ids}
use Rattle.ir_model.specs.Forest.{Dialect, Definer, of_op, of_block, Value, Entity, an_op, a_block, a_region, OpRecord, BlockRecord, Forest, Named, a_value, the_block}
use Rattle.ir_model.specs.Nesting.{In, list_of, children, IsLive, IsLiveNamed, Nested, WellFormed, operands_of, successors_of, use_numbers_of, names_of, definitions_of}
use Rattle.ir_model.specs.Changes.{rewrite, on_ops, on_regions}
use Rattle.ir_model.proofs.Keeps.{list_of-map, is_some-map}

-- how a part of a record is rewritten
pub record Part (R X : Type 0) : Type 0 where
  pub on : (X → X) → R → R
  pub none : (r : R) → on (λ x. x) r ≡ r
  pub twice : (g h : X → X) (r : R) → on h (on g r) ≡ on (λ x. h (g x)) r

module _ {A R X : Type 0} (p : Part R X) (same : A → A → Bool) where
  -- a rewritten record under one key, as a change of all records
  pub rewrite_shape : (key : A) (g : X → X) (m : A → Option R) (c : A) → rewrite same key (p.on g) m c ≡ option_map (p.on (λ x. cond (same c key) (g x) x)) (m c)
  rewrite_shape key g m c = by (same c key) (m c)
    where
      by : (t : Bool) (o : Option R) → cond t (option_map (p.on g) o) o ≡ option_map (p.on (λ x. cond t (g x) x)) o
      by true None = refl
      by true (Some r) = refl
      by false None = refl
      by false (Some r) = ap Some (sym (p.none r))

  pub map_shape : (g h : X → X) (o : Option R) → option_map (p.on h) (option_map (p.on g) o) ≡ option_map (p.on (λ x. h (g x))) o
  map_shape g h None = refl
  map_shape g h (Some r) = ap Some (p.twice g h r)

-- the whole
abbrev pub whole : (X : Type 0) → Part X X
whole X = record { on = λ g. g; none = λ r. refl; twice = λ g h r. refl }

module _ {N : Ids} {W : Dialect} where
  abbrev pub ops_part : Part (BlockRecord N W) (List N.Op)
  ops_part = record { on = on_ops; none = λ r. refl; twice = λ g h r. refl }

  abbrev pub regions_part : Part (OpRecord N W) (List N.Region)
  regions_part = record { on = on_regions; none = λ r. refl; twice = λ g h r. refl }

  -- the forest is well formed, it has no values that it had not, and no uses but those and these
  pub record Kept (f g : Forest N W) (keys : ℕ) (new : List N.UseNumber) : Type 0 where
    pub forest : WellFormed g keys
    pub values : (v : Value N) → IsLiveNamed g (a_value v) → IsLiveNamed f (a_value v)
    pub uses : (o : N.Op) (u : N.UseNumber) → In u (use_numbers_of g o) → In u (use_numbers_of f o) ⊎ In u new

  -- definitions, uses and what is live are as before, but for more regions
  pub record SameButLists (f g : Forest N W) : Type 0 where
    pub definitions : (d : Definer N) → definitions_of g d ≡ definitions_of f d
    pub uses : (o : N.Op) → use_numbers_of g o ≡ use_numbers_of f o
    pub names : (o : N.Op) → names_of g o ≡ names_of f o
    pub ops : (o : N.Op) → is_some (g.ops o) ≡ is_some (f.ops o)
    pub blocks : (b : N.Block) → is_some (g.blocks b) ≡ is_some (f.blocks b)
    pub regions : (r : N.Region) → IsSome (f.regions r) → IsSome (g.regions r)

  pub still_live : (f g : Forest N W) → SameButLists f g → (x : Entity N) → IsLive f x → IsLive g x
  still_live f g s (an_op o) h = s.ops o ∙ h
  still_live f g s (a_block b) h = s.blocks b ∙ h
  still_live f g s (a_region r) h = s.regions r h

  pub then_same : (f g h : Forest N W) → SameButLists f g → SameButLists g h → SameButLists f h
  then_same f g h a b = record {
    definitions = λ d. b.definitions d ∙ a.definitions d;
    uses = λ o. b.uses o ∙ a.uses o;
    names = λ o. b.names o ∙ a.names o;
    ops = λ o. b.ops o ∙ a.ops o;
    blocks = λ o. b.blocks o ∙ a.blocks o;
    regions = λ r h. b.regions r (a.regions r h);
  }

  still_named : (f g : Forest N W) → SameButLists f g → (d : Named N) → IsLiveNamed f d → IsLiveNamed g d
  still_named f g s (a_value v) h = rw (s.definitions v.definer) h
  still_named f g s (the_block b) h = s.blocks b ∙ h

  pub WellFormed-lists : (f g : Forest N W) (keys : ℕ) → SameButLists f g → WellFormed f keys → Nested g → WellFormed g keys
  WellFormed-lists f g keys s w nested = record {
    nested = nested;
    numbers = λ d e n. rw (s.definitions d, s.definitions e) (w.numbers d e n);
    numbers_once = λ d. rw (s.definitions d) (w.numbers_once d);
    uses = λ o p u. rw (s.uses o, s.uses p) (w.uses o p u);
    uses_once = λ o. rw (s.uses o) (w.uses_once o);
    named = λ o d h. still_named f g s d (w.named o d (rw (s.names o) at h));
    known = λ d t. rw (s.definitions d) (w.known d t);
  }

  -- each list of an owner is rewritten, and the other lists are as before
  abbrev pub Rewrites : {A B : Type 0} → (A → Entity N) → (B → Entity N) → (B → List A → List A) → Forest N W → Forest N W → Type 0
  Rewrites {A} {B} member owner G f g =
      (y : Entity N) → (((b : B) → y ≢ owner b) × (children g y ≡ children f y))
      ⊎ ((children f y ≡ []) × (children g y ≡ []))
      ⊎ ((b : B) × (xs : List A) × (y ≡ owner b) × (children f y ≡ map member xs) × (children g y ≡ map member (G b xs)))

  module _ (f : Forest N W) where
    rewritten : {R A : Type 0} (p : Part R (List A)) (of : R → List A) (member : A → Entity N) → ((h : List A → List A) (r : R) → of (p.on h r) ≡ h (of r)) → (h : List A → List A) (m n : Option R)
        → n ≡ option_map (p.on h) m → ((map member (list_of of m) ≡ []) × (map member (list_of of n) ≡ [])) ⊎ ((xs : List A) × (map member (list_of of m) ≡ map member xs) × (map member (list_of of n) ≡ map member (h xs)))
    rewritten p of member law h None n e = inl (refl, ap (λ o. map member (list_of of o)) e)
    rewritten p of member law h (Some r) n e = inr (of r, refl, ap (λ o. map member (list_of of o)) e ∙ ap (map member) (law h r))

    module _ (m : N.Block → Option (BlockRecord N W)) (G : N.Block → List N.Op → List N.Op) (shape : (c : N.Block) → m c ≡ option_map (on_ops (G c)) (f.blocks c)) where
      pub same_but_ops : SameButLists f (record f { blocks = m })
      same_but_ops = record {
        definitions = definitions;
        uses = λ o. refl;
        names = λ o. refl;
        ops = λ o. refl;
        blocks = λ b. ap is_some (shape b) ∙ is_some-map (on_ops (G b)) (f.blocks b);
        regions = λ r h. h;
      }
        where
          definitions : (d : Definer N) → definitions_of (record f { blocks = m }) d ≡ definitions_of f d
          definitions (of_op o) = refl
          definitions (of_block b) = ap (list_of (λ r. r.arguments)) (shape b) ∙ list_of-map (λ r. r.arguments) (on_ops (G b)) (λ r. refl) (f.blocks b)

      pub rewrites_ops : Rewrites an_op a_block G f (record f { blocks = m })
      rewrites_ops (an_op o) = inl (λ b e. cc, refl)
      rewrites_ops (a_region r) = inl (λ b e. cc, refl)
      rewrites_ops (a_block c) = elim (rewritten ops_part (λ r. r.ops) an_op (λ h r. refl) (G c) (f.blocks c) (m c) (shape c)) [
        | inl e ↦ inr (inl e)
        | inr e ↦ inr (inr (c, e.0, refl, e.1, e.2))
      ]

    module _ (m : N.Region → Option (List N.Block)) (G : N.Region → List N.Block → List N.Block) (shape : (c : N.Region) → m c ≡ option_map (G c) (f.regions c)) where
      pub same_but_blocks : SameButLists f (record f { regions = m })
      same_but_blocks = record {
        definitions = definitions;
        uses = λ o. refl;
        names = λ o. refl;
        ops = λ o. refl;
        blocks = λ b. refl;
        regions = λ r h. ap is_some (shape r) ∙ is_some-map (G r) (f.regions r) ∙ h;
      }
        where
          definitions : (d : Definer N) → definitions_of (record f { regions = m }) d ≡ definitions_of f d
          definitions (of_op o) = refl
          definitions (of_block b) = refl

      pub rewrites_blocks : Rewrites a_block a_region G f (record f { regions = m })
      rewrites_blocks (an_op o) = inl (λ b e. cc, refl)
      rewrites_blocks (a_block r) = inl (λ b e. cc, refl)
      rewrites_blocks (a_region c) = elim (rewritten (whole (List N.Block)) (λ r. r) a_block (λ h r. refl) (G c) (f.regions c) (m c) (shape c)) [
        | inl e ↦ inr (inl e)
        | inr e ↦ inr (inr (c, e.0, refl, e.1, e.2))
      ]

    module _ (m : N.Op → Option (OpRecord N W)) (G : N.Op → List N.Region → List N.Region) (shape : (c : N.Op) → m c ≡ option_map (on_regions (G c)) (f.ops c)) where
      pub same_but_regions : SameButLists f (record f { ops = m })
      same_but_regions = record {
        definitions = definitions;
        uses = λ o. ap₂ (λ ps qs. map (λ p. p.use_number) ps ++ map (λ p. p.use_number) qs) (operands o) (successors o);
        names = λ o. ap₂ (λ ps qs. map (λ p. a_value p.value) ps ++ map (λ p. the_block p.block) qs) (operands o) (successors o);
        ops = λ o. ap is_some (shape o) ∙ is_some-map (on_regions (G o)) (f.ops o);
        blocks = λ b. refl;
        regions = λ r h. h;
      }
        where
          definitions : (d : Definer N) → definitions_of (record f { ops = m }) d ≡ definitions_of f d
          definitions (of_op o) = ap (list_of (λ r. r.results)) (shape o) ∙ list_of-map (λ r. r.results) (on_regions (G o)) (λ r. refl) (f.ops o)
          definitions (of_block b) = refl

          operands : (o : N.Op) → operands_of (record f { ops = m }) o ≡ operands_of f o
          operands o = ap (list_of (λ r. r.operands)) (shape o) ∙ list_of-map (λ r. r.operands) (on_regions (G o)) (λ r. refl) (f.ops o)

          successors : (o : N.Op) → successors_of (record f { ops = m }) o ≡ successors_of f o
          successors o = ap (list_of (λ r. r.successors)) (shape o) ∙ list_of-map (λ r. r.successors) (on_regions (G o)) (λ r. refl) (f.ops o)

      pub rewrites_regions : Rewrites a_region an_op G f (record f { ops = m })
      rewrites_regions (a_region o) = inl (λ b e. cc, refl)
      rewrites_regions (a_block r) = inl (λ b e. cc, refl)
      rewrites_regions (an_op c) = elim (rewritten regions_part (λ r. r.regions) a_region (λ h r. refl) (G c) (f.ops c) (m c) (shape c)) [
        | inl e ↦ inr (inl e)
        | inr e ↦ inr (inr (c, e.0, refl, e.1, e.2))
      ]
