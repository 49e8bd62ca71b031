-- What was there at first stays as it was, and stands in nothing new, while what is new is made, changed and taken out.
use Rattle.std.proofs.Common.{◌≡◌, ◌⊎◌, ◌++◌, ℕ, inl, inr, not, Bool, true, false, cond, Option, Some, None, IsSome, List, [], ◌∷◌, map, refl, sym, subst}
use Rattle.std.specs.Option.{option_map}
use Rattle.std.specs.List.{list_any}
use Rattle.ir_model.specs.declared.ids.ArenaIndex.{ArenaIndex}
use Rattle.ir_model.specs.ContextIds.{context_ids, same_id}
use Rattle.ir_model.specs.Forest.{BlockRecord, Definition, Dialect, Entity, Forest, OpRecord, Operand, Successor, Text, a_block, a_region, an_op, of_block, of_op, same_entity}
use Rattle.ir_model.specs.Nesting.{In, Inside, IsLive, Nested, below, children, itself, list_of}
use Rattle.ir_model.specs.Calls.{set_attributes, set_label, set_loc}
use Rattle.ir_model.specs.Changes.{DropsUses, Removes, but, new_block, new_op, no_uses, on_block, on_op, on_ops, on_region, on_regions, rewrite}
use Rattle.ir_model.proofs.Filters.{In-filter}
use Rattle.ir_model.proofs.Nests.{In-append, In-map, In-map_back}
use Rattle.ir_model.proofs.Removal.{read_off}
use Rattle.generic_text.specs.Left.{IsNew, LeavesAll, StandsApart}
use Rattle.generic_text.proofs.Left.{leaves-block, leaves-drops, leaves-new-block, leaves-new-op, leaves-none, leaves-op, leaves-region, leaves-removes, still_live}

-- ## Lists with more in them

module _ {X : Type 0} (P : X → Type 0) (new : X) (is : P new) where
  -- with one more behind, each was there or is the new one
  one_behind : (xs : List X) (x : X) → In x (xs ++ new ∷ []) → In x xs ⊎ P x
  one_behind xs x at = elim (In-append x xs (new ∷ []) at) [ inl h ↦ inl h | inr h ↦ elim h [ inl e ↦ inr (subst P (sym e) is) | inr none ↦ absurd none ] ]

  -- and so with one more in front
  one_in_front : (xs : List X) (x : X) → In x (new ∷ xs) → In x xs ⊎ P x
  one_in_front xs x at = elim at [ inl e ↦ inr (subst P (sym e) is) | inr h ↦ inl h ]

module _ {X E : Type 0} (wrap : X → E) (P : E → Type 0) where
  -- what is made of each in a list was made of one that was there, or is new
  mapped : (xs ys : List X) → ((x : X) → In x ys → In x xs ⊎ P (wrap x)) → (z : E) → In z (map wrap ys) → In z (map wrap xs) ⊎ P z
  mapped xs ys adds z at =
      let found = In-map_back wrap z ys at in
      elim (adds found.0 found.1) [
        | inl h ↦ inl (subst (λ e. In e (map wrap xs)) (sym found.2) (In-map wrap found.0 xs h))
        | inr new ↦ inr (subst P (sym found.2) new)
      ]

  -- and so where a record is rewritten under a key
  rewritten : {R : Type 0} (of : R → List X) (h : R → R) (key k : ArenaIndex) (m : ArenaIndex → Option R) → ((r : R) (x : X) → In x (of (h r)) → In x (of r) ⊎ P (wrap x))
      → (z : E) → In z (map wrap (list_of of (rewrite same_id key h m k))) → In z (map wrap (list_of of (m k))) ⊎ P z
  rewritten {R} of h key k m adds z at = by (same_id k key) (m k) at
    where
      by : (b : Bool) (n : Option R) → In z (map wrap (list_of of (cond b (option_map h n) n))) → In z (map wrap (list_of of n)) ⊎ P z
      by true None at = inl at
      by true (Some r) at = mapped (of r) (of (h r)) (adds r) z at
      by false n at = inl at

-- what has a list has a record
recorded : {R X E : Type 0} (wrap : X → E) (of : R → List X) (m : Option R) (z : E) → In z (map wrap (list_of of m)) → IsSome m
recorded wrap of None z at = absurd at
recorded wrap of (Some r) z at = refl

-- while nothing has changed
pub apart-none : {W : Dialect} (f : Forest context_ids W) → Nested f → StandsApart f f
apart-none {W} f nested = record { nested = nested; left = leaves-none f; apart = λ x y at live. there y x at }
  where
    there : (y x : Entity context_ids) → In x (children f y) → IsLive f y
    there (an_op o) x at = recorded a_region (λ (r : OpRecord context_ids W). r.regions) (f.ops o) x at
    there (a_block b) x at = recorded an_op (λ (r : BlockRecord context_ids W). r.ops) (f.blocks b) x at
    there (a_region r) x at = recorded a_block (λ (bs : List ArenaIndex). bs) (f.regions r) x at

module _ {W : Dialect} (first f : Forest context_ids W) (apart : StandsApart first f) where
  abbrev AddsNew : Forest context_ids W → Type 0
  AddsNew g = (x y : Entity context_ids) → In x (children g y) → In x (children f y) ⊎ IsNew first x

  adds-new : (g h : Forest context_ids W) → g ≡ h → LeavesAll first g → AddsNew h → StandsApart first g
  adds-new g h is left adds = record {
    nested = apart.nested;
    left = left;
    apart = λ x y at live. elim (adds x y (subst (λ (k : Forest context_ids W). In x (children k y)) is at)) [ inl was ↦ apart.apart x y was live | inr new ↦ absurd (new live) ];
  }

  pub apart-same : (g : Forest context_ids W) → g ≡ f → StandsApart first g
  apart-same g is = subst (λ (h : Forest context_ids W). StandsApart first h) (sym is) apart

  -- ## What is new is changed

  pub apart-op : (g : Forest context_ids W) (o : ArenaIndex) (h : OpRecord context_ids W → OpRecord context_ids W) → IsNew first (an_op o) → g ≡ on_op f o h → ((r : OpRecord context_ids W) (x : ArenaIndex) → In x (h r).regions → In x r.regions ⊎ IsNew first (a_region x)) → StandsApart first g
  apart-op g o h new is more = adds-new g (on_op f o h) is (leaves-op first f apart.left g o h new is) adds
    where
      adds : AddsNew (on_op f o h)
      adds x (an_op p) at = rewritten a_region (IsNew first) (λ (r : OpRecord context_ids W). r.regions) h o p f.ops more x at
      adds x (a_block b) at = inl at
      adds x (a_region r) at = inl at

  pub apart-block : (g : Forest context_ids W) (b : ArenaIndex) (h : BlockRecord context_ids W → BlockRecord context_ids W) → IsNew first (a_block b) → g ≡ on_block f b h → ((r : BlockRecord context_ids W) (x : ArenaIndex) → In x (h r).ops → In x r.ops ⊎ IsNew first (an_op x)) → StandsApart first g
  apart-block g b h new is more = adds-new g (on_block f b h) is (leaves-block first f apart.left g b h new is) adds
    where
      adds : AddsNew (on_block f b h)
      adds x (an_op p) at = inl at
      adds x (a_block c) at = rewritten an_op (IsNew first) (λ (r : BlockRecord context_ids W). r.ops) h b c f.blocks more x at
      adds x (a_region r) at = inl at

  pub apart-region : (g : Forest context_ids W) (r : ArenaIndex) (h : List ArenaIndex → List ArenaIndex) → IsNew first (a_region r) → g ≡ on_region f r h → ((bs : List ArenaIndex) (x : ArenaIndex) → In x (h bs) → In x bs ⊎ IsNew first (a_block x)) → StandsApart first g
  apart-region g r h new is more = adds-new g (on_region f r h) is (leaves-region first f apart.left g r h new is) adds
    where
      adds : AddsNew (on_region f r h)
      adds x (an_op p) at = inl at
      adds x (a_block b) at = inl at
      adds x (a_region s) at = rewritten a_block (IsNew first) (λ (bs : List ArenaIndex). bs) h r s f.regions more x at

  -- ## What is new is put into what is new

  pub apart-op-behind : (g : Forest context_ids W) (b o : ArenaIndex) → IsNew first (a_block b) → IsNew first (an_op o) → g ≡ on_block f b (on_ops (λ os. os ++ o ∷ [])) → StandsApart first g
  apart-op-behind g b o new also is = apart-block g b (on_ops (λ os. os ++ o ∷ [])) new is (λ r x at. one_behind (λ p. IsNew first (an_op p)) o also r.ops x at)

  pub apart-block-behind : (g : Forest context_ids W) (r b : ArenaIndex) → IsNew first (a_region r) → IsNew first (a_block b) → g ≡ on_region f r (λ bs. bs ++ b ∷ []) → StandsApart first g
  apart-block-behind g r b new also is = apart-region g r (λ bs. bs ++ b ∷ []) new is (λ bs x at. one_behind (λ c. IsNew first (a_block c)) b also bs x at)

  pub apart-block-in-front : (g : Forest context_ids W) (r b : ArenaIndex) → IsNew first (a_region r) → IsNew first (a_block b) → g ≡ on_region f r (λ bs. b ∷ bs) → StandsApart first g
  apart-block-in-front g r b new also is = apart-region g r (λ bs. b ∷ bs) new is (λ bs x at. one_in_front (λ c. IsNew first (a_block c)) b also bs x at)

  -- ## Something new is made

  pub apart-new-op : (g : Forest context_ids W) (o : ArenaIndex) (loc : W.Loc) (kind : ℕ) (results : List (Definition context_ids W)) (operands : List (Operand context_ids)) (successors : List (Successor context_ids)) (regions : List ArenaIndex)
      → (IsLive f (an_op o) → ⊥) → ((r : ArenaIndex) → In r regions → IsLive f (a_region r) → ⊥) → g ≡ new_op f o loc kind results operands successors regions → StandsApart first g
  apart-new-op g o loc kind results operands successors regions dead none is =
      adds-new g (new_op f o loc kind results operands successors regions) is (leaves-new-op first f apart.left g o loc kind results operands successors regions dead none is) adds
    where
      op_case : (x : Entity context_ids) (b : Bool) (m : Option (OpRecord context_ids W)) → In x (map a_region (list_of (λ (r : OpRecord context_ids W). r.regions) (cond b (Some (record { kind = kind; results = results; operands = operands; successors = successors; regions = regions; attributes = []; loc = loc })) m)))
          → In x (map a_region (list_of (λ (r : OpRecord context_ids W). r.regions) m)) ⊎ IsNew first x
      op_case x true m at = let found = In-map_back a_region x regions at in inr (λ live. none found.0 found.1 (still_live first f apart.left (a_region found.0) (subst (λ (e : Entity context_ids). IsLive first e) found.2 live)))
      op_case x false m at = inl at

      region_case : (x : Entity context_ids) (b : Bool) (m : Option (List ArenaIndex)) → In x (map a_block (list_of (λ (bs : List ArenaIndex). bs) (cond b (Some []) m))) → In x (map a_block (list_of (λ (bs : List ArenaIndex). bs) m))
      region_case x true m at = absurd at
      region_case x false m at = at

      adds : AddsNew (new_op f o loc kind results operands successors regions)
      adds x (an_op p) at = op_case x (same_id p o) (f.ops p) at
      adds x (a_block b) at = inl at
      adds x (a_region r) at = inl (region_case x (list_any (λ s. same_id s r) regions) (f.regions r) at)

  pub apart-new-block : (g : Forest context_ids W) (b : ArenaIndex) (loc : W.Loc) (label : Option Text) (arguments : List (Definition context_ids W)) → (IsLive f (a_block b) → ⊥) → g ≡ new_block f b loc label arguments → StandsApart first g
  apart-new-block g b loc label arguments dead is = adds-new g (new_block f b loc label arguments) is (leaves-new-block first f apart.left g b loc label arguments dead is) adds
    where
      block_case : (x : Entity context_ids) (t : Bool) (m : Option (BlockRecord context_ids W)) → In x (map an_op (list_of (λ (r : BlockRecord context_ids W). r.ops) (cond t (Some (record { label = label; arguments = arguments; ops = []; attributes = []; loc = loc })) m))) → In x (map an_op (list_of (λ (r : BlockRecord context_ids W). r.ops) m))
      block_case x true m at = absurd at
      block_case x false m at = at

      adds : AddsNew (new_block f b loc label arguments)
      adds x (an_op p) at = inl at
      adds x (a_block c) at = inl (block_case x (same_id c b) (f.blocks c) at)
      adds x (a_region r) at = inl at

  -- ## What is new is taken out

  -- what stands inside what is new is new
  inside-new : (e x : Entity context_ids) → IsNew first e → Inside f e x → IsNew first x
  inside-new e x new itself = new
  inside-new e x new (below {c = c} at within) = λ live. inside-new e c new within (apart.apart x c at live)

  pub apart-drops : (g : Forest context_ids W) (e : Entity context_ids) → IsNew first e → DropsUses f e g → StandsApart first g
  apart-drops g e new drops = adds-new g g refl (leaves-drops first f apart.left g e (λ x at. inside-new e x new at) drops) adds
    where
      op_case : (x : Entity context_ids) (m n : Option (OpRecord context_ids W)) → (n ≡ m) ⊎ (n ≡ option_map no_uses m) → In x (map a_region (list_of (λ (r : OpRecord context_ids W). r.regions) n)) → In x (map a_region (list_of (λ (r : OpRecord context_ids W). r.regions) m))
      op_case x m n (inl is) at = subst (λ (k : Option (OpRecord context_ids W)). In x (map a_region (list_of (λ (r : OpRecord context_ids W). r.regions) k))) is at
      op_case x m n (inr is) at = cut m (subst (λ (k : Option (OpRecord context_ids W)). In x (map a_region (list_of (λ (r : OpRecord context_ids W). r.regions) k))) is at)
        where
          cut : (k : Option (OpRecord context_ids W)) → In x (map a_region (list_of (λ (r : OpRecord context_ids W). r.regions) (option_map no_uses k))) → In x (map a_region (list_of (λ (r : OpRecord context_ids W). r.regions) k))
          cut None h = h
          cut (Some r) h = h

      adds : AddsNew g
      adds x (an_op p) at = inl (op_case x (f.ops p) (g.ops p) (drops.either p) at)
      adds x (a_block b) at = inl (subst (λ (m : ArenaIndex → Option (BlockRecord context_ids W)). In x (map an_op (list_of (λ (r : BlockRecord context_ids W). r.ops) (m b)))) drops.blocks at)
      adds x (a_region r) at = inl (subst (λ (m : ArenaIndex → Option (List ArenaIndex)). In x (map a_block (list_of (λ (bs : List ArenaIndex). bs) (m r)))) drops.regions at)

  pub apart-removes : (g : Forest context_ids W) (e : Entity context_ids) → IsNew first e → Removes f e g → StandsApart first g
  apart-removes g e new removes = adds-new g g refl (leaves-removes first f apart.left g e apart.nested new (λ x at. inside-new e x new at) removes) adds
    where
      fewer : {R X : Type 0} (c : X → Entity context_ids) (of : R → List X) (on : (List X → List X) → R → R) → ((h : List X → List X) (r : R) → of (on h r) ≡ h (of r)) → (Ins : Type 0) (m n : Option R)
          → (Ins → n ≡ None) → ((Ins → ⊥) → n ≡ option_map (on (but e c)) m) → (x : Entity context_ids) → In x (map c (list_of of n)) → In x (map c (list_of of m)) ⊎ IsNew first x
      fewer {R} {X} c of on keeps Ins m n gone out x at = mapped c (IsNew first) (list_of of m) (list_of of n) (λ y h. inl (was m y (read_off Ins of n (option_map (on (but e c)) m) gone out y h).1)) x at
        where
          was : (k : Option R) (y : X) → In y (list_of of (option_map (on (but e c)) k)) → In y (list_of of k)
          was None y h = h
          was (Some r) y h = (In-filter (λ z. not (same_entity context_ids (c z) e)) y (of r) (subst (λ (zs : List X). In y zs) (keeps (but e c) r) h)).0

      adds : AddsNew g
      adds x (an_op p) at = fewer a_region (λ (r : OpRecord context_ids W). r.regions) on_regions (λ h r. refl) (Inside f e (an_op p)) (f.ops p) (g.ops p) (removes.ops_inside p) (removes.ops_outside p) x at
      adds x (a_block b) at = fewer an_op (λ (r : BlockRecord context_ids W). r.ops) on_ops (λ h r. refl) (Inside f e (a_block b)) (f.blocks b) (g.blocks b) (removes.blocks_inside b) (removes.blocks_outside b) x at
      adds x (a_region r) at = fewer a_block (λ (bs : List ArenaIndex). bs) (λ h bs. h bs) (λ h r. refl) (Inside f e (a_region r)) (f.regions r) (g.regions r) (removes.regions_inside r) (removes.regions_outside r) x at

module _ {W : Dialect} (first f : Forest context_ids W) (apart : StandsApart first f) where
  -- whatever is written of what is new
  pub apart-written-op : (g : Forest context_ids W) (o : ArenaIndex) (loc : W.Loc) (pairs : List (Text × W.Attr)) → IsNew first (an_op o) → g ≡ set_attributes (set_loc f (of_op o) loc) (of_op o) pairs → StandsApart first g
  apart-written-op g o loc pairs new is =
      let located = set_loc f (of_op o) loc in
      apart-op first located (apart-op first f apart located o (λ r. record r { loc = loc }) new refl (λ r x at. inl at)) g o (λ r. record r { attributes = pairs }) new is (λ r x at. inl at)

  pub apart-written-block : (g : Forest context_ids W) (b : ArenaIndex) (label : Option Text) (loc : W.Loc) (pairs : List (Text × W.Attr)) → IsNew first (a_block b) → g ≡ set_attributes (set_loc (set_label f b label) (of_block b) loc) (of_block b) pairs → StandsApart first g
  apart-written-block g b label loc pairs new is =
      let labelled = set_label f b label in
      let located = set_loc labelled (of_block b) loc in
      let one = apart-block first f apart labelled b (λ r. record r { label = label }) new refl (λ r x at. inl at) in
      apart-block first located (apart-block first labelled one located b (λ r. record r { loc = loc }) new refl (λ r x at. inl at)) g b (λ r. record r { attributes = pairs }) new is (λ r x at. inl at)
