-- A call that sets one part of a record leaves all else, and keeps a forest well formed.
use mathlib.Core.Path.{◌≡◌, refl, sym, ap, ◌∙◌, subst}
use Rattle.std.proofs.Common.{ℕ, ◌<◌, ◌≢◌, ◌⊎◌, inl, inr, Bool, true, false, Option, Some, None, List, [], ◌∷◌, map, cond, is_some}
use Rattle.std.specs.Prelude.{◌↔◌}
use Rattle.std.specs.Option.{option_map}
use Rattle.ir_model.specs.Ids.{Ids}
use Rattle.ir_model.specs.ContextIds.{context_ids}
use Rattle.ir_model.specs.Forest.{Text, Dialect, Definer, of_op, of_block, definer_entity, Value, Entity, an_op, a_block, a_region, Definition, OpRecord, BlockRecord, Forest, Named, a_value, the_block}
use Rattle.ir_model.specs.Nesting.{In, list_of, children, IsLive, IsLiveNamed, WellFormed, definitions_of, numbers_of, definition_types_of, use_numbers_of, names_of}
use Rattle.ir_model.specs.Changes.{rewrite, on_op, on_block}
use Rattle.ir_model.specs.Calls.{Part, the_types, the_names, the_labels, the_locations, the_attributes, SamePart, SameStructure, ChangesAlone, on_definitions, on_value, set_type, set_name, set_label, set_loc, set_attributes, HasType, HasName, loc_of, attributes_of, names_given}
use Rattle.ir_model.specs.CallLaws.{LocIsSet, AttributesAreSet, CallsChangeOnePart}
use Rattle.ir_model.proofs.Renaming.{Tells}
use Rattle.ir_model.proofs.Loops.{Lawful}
use Rattle.ir_model.proofs.TwoRuns.{lawful}
use Rattle.ir_model.proofs.Nests.{In-map, In-map_back}
use Rattle.ir_model.proofs.Keeps.{rewrite_at, Nested-same}

-- what is read of a map, where the rewritten records are read as before
reads : {A R X : Type 0} (read : Option R → X) (h : R → R) → ((r : R) → read (Some (h r)) ≡ read (Some r)) → (same : A → A → Bool) (key : A) (m : A → Option R) (x : A) → read (rewrite same key h m x) ≡ read (m x)
reads {R = R} read h keeps same key m x = by (same x key) (m x)
  where
    by : (t : Bool) (o : Option R) → read (cond t (option_map h o) o) ≡ read o
    by true None = refl
    by true (Some r) = keeps r
    by false o = refl

module _ {N : Ids} {W : Dialect} where
  -- well-formedness asks for no part but types
  pub formed_alike : (f g : Forest N W) (keys : ℕ) → SameStructure f g → ((d : Definer N) (t : ℕ) → In t (definition_types_of g d) → t < keys) → WellFormed f keys → WellFormed g keys
  formed_alike f g keys s known w = record {
    nested = Nested-same f g same_children s.regions (λ x. (s.live x).1) (λ r. (s.live (a_region r)).0) w.nested;
    numbers = λ d e n. rw (s.numbers d, s.numbers e) (w.numbers d e n);
    numbers_once = λ d. rw (s.numbers d) (w.numbers_once d);
    uses = λ o p u. rw (same_uses o, same_uses p) (w.uses o p u);
    uses_once = λ o. rw (same_uses o) (w.uses_once o);
    named = λ o d h. named d (w.named o d (rw (same_names o) at h));
    known = known;
  }
    where
      same_children : (y : Entity N) → children g y ≡ children f y
      same_children (an_op o) = ap (map a_region) (s.regions o)
      same_children (a_block b) = ap (map an_op) (s.ops b)
      same_children (a_region r) = ap (map a_block) (s.blocks r)

      same_uses : (o : N.Op) → use_numbers_of g o ≡ use_numbers_of f o
      same_uses o = rw (s.operands o, s.successors o)

      same_names : (o : N.Op) → names_of g o ≡ names_of f o
      same_names o = rw (s.operands o, s.successors o)

      named : (d : Named N) → IsLiveNamed f d → IsLiveNamed g d
      named (a_value v) h = rw (s.numbers v.definer) h
      named (the_block b) h = (s.live (a_block b)).1 h

  -- how a record of an operation is rewritten where nothing but this part changes
  record KeepsOp (part : Part) (h : OpRecord N W → OpRecord N W) : Type 0 where
    kind : (r : OpRecord N W) → (h r).kind ≡ r.kind
    numbers : (r : OpRecord N W) → map (λ (x : Definition N W). x.number) (h r).results ≡ map (λ (x : Definition N W). x.number) r.results
    operands : (r : OpRecord N W) → (h r).operands ≡ r.operands
    successors : (r : OpRecord N W) → (h r).successors ≡ r.successors
    regions : (r : OpRecord N W) → (h r).regions ≡ r.regions
    types : the_types ≢ part → (r : OpRecord N W) → map (λ (x : Definition N W). x.ty) (h r).results ≡ map (λ (x : Definition N W). x.ty) r.results
    names : the_names ≢ part → (r : OpRecord N W) → map (λ (x : Definition N W). x.name) (h r).results ≡ map (λ (x : Definition N W). x.name) r.results
    loc : the_locations ≢ part → (r : OpRecord N W) → (h r).loc ≡ r.loc
    attributes : the_attributes ≢ part → (r : OpRecord N W) → (h r).attributes ≡ r.attributes

  alone_op : (f : Forest N W) (o : N.Op) (part : Part) (h : OpRecord N W → OpRecord N W) → KeepsOp part h → ChangesAlone part f (on_op f o h)
  alone_op f o part h k = record {
    structure = record {
      live = live;
      regions = reads (list_of (λ (r : OpRecord N W). r.regions)) h k.regions N.same_op o f.ops;
      ops = λ b. refl;
      blocks = λ r. refl;
      kinds = reads (option_map (λ (r : OpRecord N W). r.kind)) h (λ r. ap Some (k.kind r)) N.same_op o f.ops;
      numbers = numbers;
      operands = reads (list_of (λ (r : OpRecord N W). r.operands)) h k.operands N.same_op o f.ops;
      successors = reads (list_of (λ (r : OpRecord N W). r.successors)) h k.successors N.same_op o f.ops;
    };
    others = others;
  }
    where
      live : (x : Entity N) → IsLive (on_op f o h) x ↔ IsLive f x
      live (an_op p) = let e = reads is_some h (λ r. refl) N.same_op o f.ops p in (λ i. sym e ∙ i, λ i. e ∙ i)
      live (a_block b) = (λ i. i, λ i. i)
      live (a_region r) = (λ i. i, λ i. i)

      numbers : (d : Definer N) → numbers_of (on_op f o h) d ≡ numbers_of f d
      numbers (of_op p) = reads (λ m. map (λ (x : Definition N W). x.number) (list_of (λ (r : OpRecord N W). r.results) m)) h k.numbers N.same_op o f.ops p
      numbers (of_block b) = refl

      types : the_types ≢ part → (d : Definer N) → definition_types_of (on_op f o h) d ≡ definition_types_of f d
      types n (of_op p) = reads (λ m. map (λ (x : Definition N W). x.ty) (list_of (λ (r : OpRecord N W). r.results) m)) h (k.types n) N.same_op o f.ops p
      types n (of_block b) = refl

      names : the_names ≢ part → (d : Definer N) → names_given (on_op f o h) d ≡ names_given f d
      names n (of_op p) = reads (λ m. map (λ (x : Definition N W). x.name) (list_of (λ (r : OpRecord N W). r.results) m)) h (k.names n) N.same_op o f.ops p
      names n (of_block b) = refl

      locs : the_locations ≢ part → (d : Definer N) → loc_of (on_op f o h) d ≡ loc_of f d
      locs n (of_op p) = reads (option_map (λ (r : OpRecord N W). r.loc)) h (λ r. ap Some (k.loc n r)) N.same_op o f.ops p
      locs n (of_block b) = refl

      attributes : the_attributes ≢ part → (d : Definer N) → attributes_of (on_op f o h) d ≡ attributes_of f d
      attributes n (of_op p) = reads (option_map (λ (r : OpRecord N W). r.attributes)) h (λ r. ap Some (k.attributes n r)) N.same_op o f.ops p
      attributes n (of_block b) = refl

      others : (other : Part) → other ≢ part → SamePart other f (on_op f o h)
      others the_types n = types n
      others the_names n = names n
      others the_labels n = λ b. refl
      others the_locations n = locs n
      others the_attributes n = attributes n

  -- how a record of a block is rewritten where nothing but this part changes
  record KeepsBlock (part : Part) (h : BlockRecord N W → BlockRecord N W) : Type 0 where
    numbers : (r : BlockRecord N W) → map (λ (x : Definition N W). x.number) (h r).arguments ≡ map (λ (x : Definition N W). x.number) r.arguments
    ops : (r : BlockRecord N W) → (h r).ops ≡ r.ops
    types : the_types ≢ part → (r : BlockRecord N W) → map (λ (x : Definition N W). x.ty) (h r).arguments ≡ map (λ (x : Definition N W). x.ty) r.arguments
    names : the_names ≢ part → (r : BlockRecord N W) → map (λ (x : Definition N W). x.name) (h r).arguments ≡ map (λ (x : Definition N W). x.name) r.arguments
    label : the_labels ≢ part → (r : BlockRecord N W) → (h r).label ≡ r.label
    loc : the_locations ≢ part → (r : BlockRecord N W) → (h r).loc ≡ r.loc
    attributes : the_attributes ≢ part → (r : BlockRecord N W) → (h r).attributes ≡ r.attributes

  alone_block : (f : Forest N W) (b : N.Block) (part : Part) (h : BlockRecord N W → BlockRecord N W) → KeepsBlock part h → ChangesAlone part f (on_block f b h)
  alone_block f b part h k = record {
    structure = record {
      live = live;
      regions = λ o. refl;
      ops = reads (list_of (λ (r : BlockRecord N W). r.ops)) h k.ops N.same_block b f.blocks;
      blocks = λ r. refl;
      kinds = λ o. refl;
      numbers = numbers;
      operands = λ o. refl;
      successors = λ o. refl;
    };
    others = others;
  }
    where
      live : (x : Entity N) → IsLive (on_block f b h) x ↔ IsLive f x
      live (an_op p) = (λ i. i, λ i. i)
      live (a_block c) = let e = reads is_some h (λ r. refl) N.same_block b f.blocks c in (λ i. sym e ∙ i, λ i. e ∙ i)
      live (a_region r) = (λ i. i, λ i. i)

      numbers : (d : Definer N) → numbers_of (on_block f b h) d ≡ numbers_of f d
      numbers (of_op p) = refl
      numbers (of_block c) = reads (λ m. map (λ (x : Definition N W). x.number) (list_of (λ (r : BlockRecord N W). r.arguments) m)) h k.numbers N.same_block b f.blocks c

      types : the_types ≢ part → (d : Definer N) → definition_types_of (on_block f b h) d ≡ definition_types_of f d
      types n (of_op p) = refl
      types n (of_block c) = reads (λ m. map (λ (x : Definition N W). x.ty) (list_of (λ (r : BlockRecord N W). r.arguments) m)) h (k.types n) N.same_block b f.blocks c

      names : the_names ≢ part → (d : Definer N) → names_given (on_block f b h) d ≡ names_given f d
      names n (of_op p) = refl
      names n (of_block c) = reads (λ m. map (λ (x : Definition N W). x.name) (list_of (λ (r : BlockRecord N W). r.arguments) m)) h (k.names n) N.same_block b f.blocks c

      locs : the_locations ≢ part → (d : Definer N) → loc_of (on_block f b h) d ≡ loc_of f d
      locs n (of_op p) = refl
      locs n (of_block c) = reads (option_map (λ (r : BlockRecord N W). r.loc)) h (λ r. ap Some (k.loc n r)) N.same_block b f.blocks c

      attributes : the_attributes ≢ part → (d : Definer N) → attributes_of (on_block f b h) d ≡ attributes_of f d
      attributes n (of_op p) = refl
      attributes n (of_block c) = reads (option_map (λ (r : BlockRecord N W). r.attributes)) h (λ r. ap Some (k.attributes n r)) N.same_block b f.blocks c

      others : (other : Part) → other ≢ part → SamePart other f (on_block f b h)
      others the_types n = types n
      others the_names n = names n
      others the_labels n = reads (option_map (λ (r : BlockRecord N W). r.label)) h (λ r. ap Some (k.label n r)) N.same_block b f.blocks
      others the_locations n = locs n
      others the_attributes n = attributes n

  -- the definitions with the one of this number rewritten
  abbrev at_number : N.ValueNumber → (Definition N W → Definition N W) → Definition N W → Definition N W
  at_number n g x = cond (N.same_number x.number n) (g x) x

  -- what is read of definitions, where the rewritten one is read as before
  same_read : {X : Type 0} (read : Definition N W → X) (n : N.ValueNumber) (g : Definition N W → Definition N W) → ((x : Definition N W) → read (g x) ≡ read x) → (xs : List (Definition N W)) → map read (map (at_number n g) xs) ≡ map read xs
  same_read read n g keeps [] = refl
  same_read read n g keeps (x ∷ xs) = let more = same_read read n g keeps xs in λ i. by (N.same_number x.number n) i ∷ more i
    where
      by : (t : Bool) → read (cond t (g x) x) ≡ read x
      by true = keeps x
      by false = refl

  -- a value's definition rewritten, where nothing but this part of it changes
  alone_value : (f : Forest N W) (v : Value N) (part : Part) (g : Definition N W → Definition N W) → ((x : Definition N W) → (g x).number ≡ x.number)
      → (the_types ≢ part → (x : Definition N W) → (g x).ty ≡ x.ty) → (the_names ≢ part → (x : Definition N W) → (g x).name ≡ x.name) → ChangesAlone part f (on_value f v g)
  alone_value f v part g number ty name = by v.definer
    where
      by : (d : Definer N) → ChangesAlone part f (on_definitions f d (map (at_number v.number g)))
      by (of_op o) = alone_op f o part (λ r. record r { results = map (at_number v.number g) r.results }) record {
        kind = λ r. refl;
        numbers = λ r. same_read (λ x. x.number) v.number g number r.results;
        operands = λ r. refl;
        successors = λ r. refl;
        regions = λ r. refl;
        types = λ n r. same_read (λ x. x.ty) v.number g (ty n) r.results;
        names = λ n r. same_read (λ x. x.name) v.number g (name n) r.results;
        loc = λ n r. refl;
        attributes = λ n r. refl;
      }
      by (of_block b) = alone_block f b part (λ r. record r { arguments = map (at_number v.number g) r.arguments }) record {
        numbers = λ r. same_read (λ x. x.number) v.number g number r.arguments;
        ops = λ r. refl;
        types = λ n r. same_read (λ x. x.ty) v.number g (ty n) r.arguments;
        names = λ n r. same_read (λ x. x.name) v.number g (name n) r.arguments;
        label = λ n r. refl;
        loc = λ n r. refl;
        attributes = λ n r. refl;
      }

  pub alone_type : (f : Forest N W) (v : Value N) (ty : ℕ) → ChangesAlone the_types f (set_type f v ty)
  alone_type f v ty = alone_value f v the_types (λ x. record x { ty = ty }) (λ x. refl) (λ n. absurd (n refl)) (λ n x. refl)

  pub alone_name : (f : Forest N W) (v : Value N) (name : Option Text) → ChangesAlone the_names f (set_name f v name)
  alone_name f v name = alone_value f v the_names (λ x. record x { name = name }) (λ x. refl) (λ n x. refl) (λ n. absurd (n refl))

  -- a record of an operation whose lists stay
  plain_op : (part : Part) (h : OpRecord N W → OpRecord N W) → ((r : OpRecord N W) → h r ≡ record r { loc = (h r).loc; attributes = (h r).attributes })
      → (the_locations ≢ part → (r : OpRecord N W) → (h r).loc ≡ r.loc) → (the_attributes ≢ part → (r : OpRecord N W) → (h r).attributes ≡ r.attributes) → KeepsOp part h
  plain_op part h is loc attributes = record {
    kind = λ r. ap (λ (q : OpRecord N W). q.kind) (is r);
    numbers = λ r. ap (λ (q : OpRecord N W). map (λ (x : Definition N W). x.number) q.results) (is r);
    operands = λ r. ap (λ (q : OpRecord N W). q.operands) (is r);
    successors = λ r. ap (λ (q : OpRecord N W). q.successors) (is r);
    regions = λ r. ap (λ (q : OpRecord N W). q.regions) (is r);
    types = λ n r. ap (λ (q : OpRecord N W). map (λ (x : Definition N W). x.ty) q.results) (is r);
    names = λ n r. ap (λ (q : OpRecord N W). map (λ (x : Definition N W). x.name) q.results) (is r);
    loc = loc;
    attributes = attributes;
  }

  -- a record of a block whose lists stay
  plain_block : (part : Part) (h : BlockRecord N W → BlockRecord N W) → ((r : BlockRecord N W) → h r ≡ record r { label = (h r).label; loc = (h r).loc; attributes = (h r).attributes })
      → (the_labels ≢ part → (r : BlockRecord N W) → (h r).label ≡ r.label) → (the_locations ≢ part → (r : BlockRecord N W) → (h r).loc ≡ r.loc) → (the_attributes ≢ part → (r : BlockRecord N W) → (h r).attributes ≡ r.attributes) → KeepsBlock part h
  plain_block part h is label loc attributes = record {
    numbers = λ r. ap (λ (q : BlockRecord N W). map (λ (x : Definition N W). x.number) q.arguments) (is r);
    ops = λ r. ap (λ (q : BlockRecord N W). q.ops) (is r);
    types = λ n r. ap (λ (q : BlockRecord N W). map (λ (x : Definition N W). x.ty) q.arguments) (is r);
    names = λ n r. ap (λ (q : BlockRecord N W). map (λ (x : Definition N W). x.name) q.arguments) (is r);
    label = label;
    loc = loc;
    attributes = attributes;
  }

  pub alone_label : (f : Forest N W) (b : N.Block) (label : Option Text) → ChangesAlone the_labels f (set_label f b label)
  alone_label f b label = alone_block f b the_labels (λ r. record r { label = label }) (plain_block the_labels (λ r. record r { label = label }) (λ r. refl) (λ n. absurd (n refl)) (λ n r. refl) (λ n r. refl))

  pub alone_loc : (f : Forest N W) (d : Definer N) (loc : W.Loc) → ChangesAlone the_locations f (set_loc f d loc)
  alone_loc f (of_op o) loc = alone_op f o the_locations (λ r. record r { loc = loc }) (plain_op the_locations (λ r. record r { loc = loc }) (λ r. refl) (λ n. absurd (n refl)) (λ n r. refl))
  alone_loc f (of_block b) loc = alone_block f b the_locations (λ r. record r { loc = loc }) (plain_block the_locations (λ r. record r { loc = loc }) (λ r. refl) (λ n r. refl) (λ n. absurd (n refl)) (λ n r. refl))

  pub alone_attributes : (f : Forest N W) (d : Definer N) (pairs : List (Text × W.Attr)) → ChangesAlone the_attributes f (set_attributes f d pairs)
  alone_attributes f (of_op o) pairs = alone_op f o the_attributes (λ r. record r { attributes = pairs }) (plain_op the_attributes (λ r. record r { attributes = pairs }) (λ r. refl) (λ n r. refl) (λ n. absurd (n refl)))
  alone_attributes f (of_block b) pairs = alone_block f b the_attributes (λ r. record r { attributes = pairs }) (plain_block the_attributes (λ r. record r { attributes = pairs }) (λ r. refl) (λ n r. refl) (λ n r. refl) (λ n. absurd (n refl)))

module _ {N : Ids} {W : Dialect} (L : Lawful N) (f : Forest N W) where
  -- the definitions of what is named and of all else, after those of d were rewritten
  definitions_on : (d e : Definer N) (h : Definition N W → Definition N W)
      → ((e ≡ d) × (definitions_of (on_definitions f d (map h)) e ≡ map h (definitions_of f e))) ⊎ ((e ≢ d) × (definitions_of (on_definitions f d (map h)) e ≡ definitions_of f e))
  definitions_on (of_op o) (of_block b) h = inr (λ e. cc, refl)
  definitions_on (of_block b) (of_op o) h = inr (λ e. cc, refl)
  definitions_on (of_op o) (of_op p) h = elim (rewrite_at N.same_op L.ops o (λ (r : OpRecord N W). record r { results = map h r.results }) f.ops p) [
    | inl c ↦ inl (ap of_op c.0, ap (list_of (λ (r : OpRecord N W). r.results)) c.1 ∙ in_record (f.ops p))
    | inr c ↦ inr (λ e. c.0 (let s : ◌≡◌ {A = Definer N} (of_op p) (of_op o) = e in cc), ap (list_of (λ (r : OpRecord N W). r.results)) c.1)
  ]
    where
      in_record : (m : Option (OpRecord N W)) → list_of (λ (r : OpRecord N W). r.results) (option_map (λ (r : OpRecord N W). record r { results = map h r.results }) m) ≡ map h (list_of (λ (r : OpRecord N W). r.results) m)
      in_record None = refl
      in_record (Some r) = refl
  definitions_on (of_block b) (of_block c) h = elim (rewrite_at N.same_block L.blocks b (λ (r : BlockRecord N W). record r { arguments = map h r.arguments }) f.blocks c) [
    | inl k ↦ inl (ap of_block k.0, ap (list_of (λ (r : BlockRecord N W). r.arguments)) k.1 ∙ in_record (f.blocks c))
    | inr k ↦ inr (λ e. k.0 (let s : ◌≡◌ {A = Definer N} (of_block c) (of_block b) = e in cc), ap (list_of (λ (r : BlockRecord N W). r.arguments)) k.1)
  ]
    where
      in_record : (m : Option (BlockRecord N W)) → list_of (λ (r : BlockRecord N W). r.arguments) (option_map (λ (r : BlockRecord N W). record r { arguments = map h r.arguments }) m) ≡ map h (list_of (λ (r : BlockRecord N W). r.arguments) m)
      in_record None = refl
      in_record (Some r) = refl

  -- a field that is set: the value has what it was set to, and every other value what it had
  module _ {X : Type 0} (field : Definition N W → X) (v : Value N) (g : Definition N W → Definition N W) (to : X) (number : (x : Definition N W) → (g x).number ≡ x.number) (set : (x : Definition N W) → field (g x) ≡ to) where
    abbrev Has : Forest N W → Value N → X → Type 0
    Has f v t = (x : Definition N W) × In x (definitions_of f v.definer) × (x.number ≡ v.number) × (field x ≡ t)

    abbrev after : Forest N W
    after = on_value f v g

    -- the rewritten definition, or one that stayed
    data Case (x y : Definition N W) : Type 0 where
      rewritten : x.number ≡ v.number → y.number ≡ v.number → field y ≡ to → Case x y
      stayed : x.number ≢ v.number → y ≡ x → Case x y

    case : (x y : Definition N W) → y ≡ at_number v.number g x → Case x y
    case x y = by (N.same_number x.number v.number) refl
      where
        by : (t : Bool) → N.same_number x.number v.number ≡ t → y ≡ cond t (g x) x → Case x y
        by true s e = (let n = (L.numbers x.number v.number).0 s in rewritten n (ap (λ (z : Definition N W). z.number) e ∙ number x ∙ n) (ap field e ∙ set x))
        by false s e = stayed (λ n. (let t : N.same_number x.number v.number ≡ true = (L.numbers x.number v.number).1 n in cc)) e

    itself_on : (definitions_of after v.definer ≡ map (at_number v.number g) (definitions_of f v.definer))
    itself_on = elim (definitions_on v.definer v.definer (at_number v.number g)) [ inl c ↦ c.1 | inr c ↦ absurd (c.0 refl) ]

    pub has_set : IsLiveNamed f (a_value v) → Has after v to
    has_set live =
        let at = In-map_back (λ (x : Definition N W). x.number) v.number (definitions_of f v.definer) live in
        let y = at_number v.number g at.0 in
        let h : In y (map (at_number v.number g) (definitions_of f v.definer)) = In-map (at_number v.number g) at.0 (definitions_of f v.definer) at.1 in
        elim (case at.0 y refl) [
          | rewritten n m e ↦ (y, subst (In y) (sym itself_on) h, m, e)
          | stayed n e ↦ absurd (n (sym at.2))
        ]

    pub has_only : (t : X) → Has after v t → t ≡ to
    has_only t k =
        let at = In-map_back (at_number v.number g) k.0 (definitions_of f v.definer) (subst (In k.0) itself_on k.1) in
        elim (case at.0 k.0 at.2) [
          | rewritten n m e ↦ sym k.3 ∙ e
          | stayed n e ↦ absurd (n (sym (ap (λ (z : Definition N W). z.number) e) ∙ k.2))
        ]

    pub has_others : (w : Value N) (t : X) → w ≢ v → Has after w t ↔ Has f w t
    has_others w t apart = elim (definitions_on v.definer w.definer (at_number v.number g)) [
      | inr c ↦ (λ k. (k.0, subst (In k.0) c.1 k.1, k.2, k.3), λ k. (k.0, subst (In k.0) (sym c.1) k.1, k.2, k.3))
      | inl c ↦ (
        λ k. let at = In-map_back (at_number v.number g) k.0 (definitions_of f w.definer) (subst (In k.0) c.1 k.1) in
            elim (case at.0 k.0 at.2) [
              | rewritten n m e ↦ absurd (apart (one c.0 (sym k.2 ∙ m)))
              | stayed n e ↦ (k.0, subst (λ z. In z (definitions_of f w.definer)) (sym e) at.1, k.2, k.3)
            ],
        λ k. let y = at_number v.number g k.0 in
            let h : In y (map (at_number v.number g) (definitions_of f w.definer)) = In-map (at_number v.number g) k.0 (definitions_of f w.definer) k.1 in
            elim (case k.0 y refl) [
              | rewritten n m e ↦ absurd (apart (one c.0 (sym k.2 ∙ n)))
              | stayed n e ↦ (k.0, subst (In k.0) (sym c.1) (subst (λ z. In z (map (at_number v.number g) (definitions_of f w.definer))) e h), k.2, k.3)
            ],
      )
    ]
      where
        one : w.definer ≡ v.definer → w.number ≡ v.number → w ≡ v
        one d n = λ i. record { definer = d i; number = n i }

  pub type_is_set : (v : Value N) (ty : ℕ) → (IsLiveNamed f (a_value v) → HasType (set_type f v ty) v ty) × ((t : ℕ) → HasType (set_type f v ty) v t → t ≡ ty) × ((w : Value N) (t : ℕ) → w ≢ v → HasType (set_type f v ty) w t ↔ HasType f w t)
  type_is_set v ty = (has_set (λ x. x.ty) v (λ x. record x { ty = ty }) ty (λ x. refl) (λ x. refl), has_only (λ x. x.ty) v (λ x. record x { ty = ty }) ty (λ x. refl) (λ x. refl), has_others (λ x. x.ty) v (λ x. record x { ty = ty }) ty (λ x. refl) (λ x. refl))

  pub name_is_set : (v : Value N) (name : Option Text) → (IsLiveNamed f (a_value v) → HasName (set_name f v name) v name) × ((n : Option Text) → HasName (set_name f v name) v n → n ≡ name) × ((w : Value N) (n : Option Text) → w ≢ v → HasName (set_name f v name) w n ↔ HasName f w n)
  name_is_set v name = (has_set (λ x. x.name) v (λ x. record x { name = name }) name (λ x. refl) (λ x. refl), has_only (λ x. x.name) v (λ x. record x { name = name }) name (λ x. refl) (λ x. refl), has_others (λ x. x.name) v (λ x. record x { name = name }) name (λ x. refl) (λ x. refl))

-- a part of a record that is set under a key
module _ {A R X : Type 0} (same : A → A → Bool) (tells : Tells same) (read : R → X) (h : R → R) (to : X) (set : (r : R) → read (h r) ≡ to) (key : A) (m : A → Option R) where
  part_set : is_some (m key) ≡ true → option_map read (rewrite same key h m key) ≡ Some to
  part_set live = elim (rewrite_at same tells key h m key) [ inl c ↦ ap (option_map read) c.1 ∙ by (m key) live | inr c ↦ absurd (c.0 refl) ]
    where
      by : (o : Option R) → is_some o ≡ true → option_map read (option_map h o) ≡ Some to
      by None e = absurd cc
      by (Some r) e = ap Some (set r)

  part_other : (x : A) → x ≢ key → option_map read (rewrite same key h m x) ≡ option_map read (m x)
  part_other x n = elim (rewrite_at same tells key h m x) [ inl c ↦ absurd (n c.0) | inr c ↦ ap (option_map read) c.1 ]

module _ {W : Dialect} (f : Forest context_ids W) where
  loc_is_set : (d : Definer context_ids) (loc : W.Loc) → LocIsSet f d loc
  loc_is_set d loc = record { set = set d; values = λ v e live. ap (loc_of (set_loc f d loc)) e ∙ set d live; others = others d; alone = alone_loc f d loc }
    where
      set : (d : Definer context_ids) → IsLive f (definer_entity _ d) → loc_of (set_loc f d loc) d ≡ Some loc
      set (of_op o) live = part_set context_ids.same_op lawful.ops (λ (r : OpRecord context_ids W). r.loc) (λ r. record r { loc = loc }) loc (λ r. refl) o f.ops live
      set (of_block b) live = part_set context_ids.same_block lawful.blocks (λ (r : BlockRecord context_ids W). r.loc) (λ r. record r { loc = loc }) loc (λ r. refl) b f.blocks live

      others : (d e : Definer context_ids) → e ≢ d → loc_of (set_loc f d loc) e ≡ loc_of f e
      others (of_op o) (of_op p) n = part_other context_ids.same_op lawful.ops (λ (r : OpRecord context_ids W). r.loc) (λ r. record r { loc = loc }) loc (λ r. refl) o f.ops p (λ e. n (ap of_op e))
      others (of_block b) (of_block c) n = part_other context_ids.same_block lawful.blocks (λ (r : BlockRecord context_ids W). r.loc) (λ r. record r { loc = loc }) loc (λ r. refl) b f.blocks c (λ e. n (ap of_block e))
      others (of_op o) (of_block b) n = refl
      others (of_block b) (of_op o) n = refl

  attributes_are_set : (d : Definer context_ids) (pairs : List (Text × W.Attr)) → AttributesAreSet f d pairs
  attributes_are_set d pairs = record { set = set d; others = others d; alone = alone_attributes f d pairs }
    where
      set : (d : Definer context_ids) → IsLive f (definer_entity _ d) → attributes_of (set_attributes f d pairs) d ≡ Some pairs
      set (of_op o) live = part_set context_ids.same_op lawful.ops (λ (r : OpRecord context_ids W). r.attributes) (λ r. record r { attributes = pairs }) pairs (λ r. refl) o f.ops live
      set (of_block b) live = part_set context_ids.same_block lawful.blocks (λ (r : BlockRecord context_ids W). r.attributes) (λ r. record r { attributes = pairs }) pairs (λ r. refl) b f.blocks live

      others : (d e : Definer context_ids) → e ≢ d → attributes_of (set_attributes f d pairs) e ≡ attributes_of f e
      others (of_op o) (of_op p) n = part_other context_ids.same_op lawful.ops (λ (r : OpRecord context_ids W). r.attributes) (λ r. record r { attributes = pairs }) pairs (λ r. refl) o f.ops p (λ e. n (ap of_op e))
      others (of_block b) (of_block c) n = part_other context_ids.same_block lawful.blocks (λ (r : BlockRecord context_ids W). r.attributes) (λ r. record r { attributes = pairs }) pairs (λ r. refl) b f.blocks c (λ e. n (ap of_block e))
      others (of_op o) (of_block b) n = refl
      others (of_block b) (of_op o) n = refl

pub calls_change_one_part : (W : Dialect) → CallsChangeOnePart W
calls_change_one_part W = record {
  types = λ f v ty. let s = type_is_set lawful f v ty in record { set = s.0; only = s.1; others = s.2; alone = alone_type f v ty };
  names = λ f v name. let s = name_is_set lawful f v name in record { set = s.0; only = s.1; others = s.2; alone = alone_name f v name };
  labels = λ f b label. record {
    set = part_set context_ids.same_block lawful.blocks (λ (r : BlockRecord context_ids W). r.label) (λ r. record r { label = label }) label (λ r. refl) b f.blocks;
    others = part_other context_ids.same_block lawful.blocks (λ (r : BlockRecord context_ids W). r.label) (λ r. record r { label = label }) label (λ r. refl) b f.blocks;
    alone = alone_label f b label;
  };
  locations = loc_is_set;
  attributes = attributes_are_set;
}
