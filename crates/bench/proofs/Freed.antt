-- What stands in a block or a region that stands in nothing stays in such a one where lists are edited, and may go into another one.
use Rattle.std.proofs.Common.{◌≡◌, ◌≢◌, ◌⊎◌, inl, inr, Bool, not, refl, sym, ap, subst, ◌∙◌, true, false, Option, Some, None, List, [], ◌∷◌, ◌++◌, map, cond}
use Rattle.std.specs.Option.{option_map}
use Rattle.std.specs.Prelude.{if◌then◌else◌}
use Rattle.ir_model.specs.declared.ids.ArenaIndex.{ArenaIndex}
use Rattle.ir_model.specs.ContextIds.{context_ids, same_id}
use Rattle.ir_model.specs.Forest.{BlockRecord, Dialect, Entity, Forest, a_block, a_region, an_op}
use Rattle.ir_model.specs.Nesting.{In, Inside, IsLinked, IsLive, Nested, Within, below, blocks_of, children, itself, list_of, ops_of, regions_of}
use Rattle.ir_model.specs.Changes.{in_blocks, in_regions, on_block, on_ops, on_region, put_before, without}
use Rattle.ir_model.specs.Edits.{MayGoBeside, MayGoInto}
use Rattle.ir_model.specs.Parent.{first_of}
use Rattle.ir_model.proofs.TwoRuns.{id_tells}
use Rattle.ir_model.proofs.Nests.{In-map, In-map_back}
use Rattle.ir_model.proofs.Filters.{In-filter, In-kept}
use Rattle.ir_model.proofs.Relinks.{first_in}
use Rattle.bench.specs.Settled.{StandsFree}
use Rattle.bench.proofs.Made.{no_block_in_ops, no_block_in_regions, no_op_in_blocks, no_op_in_regions}

module _ {W : Dialect} (f : Forest context_ids W) where
  -- what stands in nothing is inside nothing else
  pub apart : (x y : Entity context_ids) → x ≢ y → (IsLinked f y → ⊥) → Inside f x y → ⊥
  apart x y differ unlinked itself = differ refl
  apart x y differ unlinked (below {c = c} h w) = unlinked (c, h)

  -- a block that stands in nothing isn't inside an operation
  pub block_apart : (o b : ArenaIndex) → (IsLinked f (a_block b) → ⊥) → Inside f (an_op o) (a_block b) → ⊥
  block_apart o b = apart (an_op o) (a_block b) (λ e. let k : ◌≡◌ {A = Entity context_ids} (an_op o) (a_block b) = e in cc)

  -- a region of an operation that stands in nothing isn't inside a block
  pub region_apart : Nested f → (b r o : ArenaIndex) → In r (regions_of f o) → (IsLinked f (an_op o) → ⊥) → Inside f (a_block b) (a_region r) → ⊥
  region_apart nested b r o at unlinked w = by w
    where
      by : Inside f (a_block b) (a_region r) → ⊥
      by (below {c = c} h w) =
          apart (a_block b) (an_op o) (λ e. let k : ◌≡◌ {A = Entity context_ids} (a_block b) (an_op o) = e in cc) unlinked
          (subst (λ z. Inside f (a_block b) z) (nested.one_list (a_region r) c (an_op o) h (In-map a_region r (regions_of f o) at)) w)

  -- a block stands in no list but those of regions, and an operation in none but those of blocks
  pub block_unlinked : (g : Forest context_ids W) (b : ArenaIndex) → g.regions ≡ f.regions → (IsLinked f (a_block b) → ⊥) → IsLinked g (a_block b) → ⊥
  block_unlinked g b same unlinked l = by l.0 l.1
    where
      by : (y : Entity context_ids) → In {A = Entity context_ids} (a_block b) (children g y) → ⊥
      by (an_op o) h = no_block_in_regions b (regions_of g o) h
      by (a_block c) h = no_block_in_ops b (ops_of g c) h
      by (a_region r) h = unlinked (a_region r, subst (λ (m : ArenaIndex → Option (List ArenaIndex)). In {A = Entity context_ids} (a_block b) (map a_block (list_of (λ bs. bs) (m r)))) same h)

  pub op_unlinked : (g : Forest context_ids W) (o : ArenaIndex) → g.blocks ≡ f.blocks → (IsLinked f (an_op o) → ⊥) → IsLinked g (an_op o) → ⊥
  op_unlinked g o same unlinked l = by l.0 l.1
    where
      by : (y : Entity context_ids) → In {A = Entity context_ids} (an_op o) (children g y) → ⊥
      by (an_op p) h = no_op_in_regions o (regions_of g p) h
      by (a_block b) h = unlinked (a_block b, subst (λ (m : ArenaIndex → Option (BlockRecord context_ids W)). In {A = Entity context_ids} (an_op o) (map an_op (list_of (λ (r : BlockRecord context_ids W). r.ops) (m b)))) same h)
      by (a_region r) h = no_op_in_blocks o (blocks_of g r) h

-- the first of a list is in it
pub is_in : {A : Type 0} (x : A) (xs : List A) → first_of xs ≡ Some x → In x xs
is_in x xs e = subst (In x) (sym (first_in x xs e).1) (inl refl)

module _ {W : Dialect} (f : Forest context_ids W) where
  -- the first of the block is linked
  pub head_linked : (o b : ArenaIndex) → first_of (ops_of f b) ≡ Some o → IsLinked f (an_op o)
  head_linked o b e = (a_block b, In-map an_op o (ops_of f b) (is_in o (ops_of f b) e))

  pub block_head_linked : (b r : ArenaIndex) → first_of (blocks_of f r) ≡ Some b → IsLinked f (a_block b)
  block_head_linked b r e = (a_region r, In-map a_block b (blocks_of f r) (is_in b (blocks_of f r) e))

-- edits of the lists of blocks leave those of regions, and the other way round
pub unlinked_in_blocks : {W : Dialect} (f g : Forest context_ids W) (change : List ArenaIndex → List ArenaIndex) (b : ArenaIndex) → g ≡ in_blocks f change → (IsLinked f (a_block b) → ⊥) → IsLinked g (a_block b) → ⊥
unlinked_in_blocks {W} f g change b is = block_unlinked f g b (ap (λ (h : Forest context_ids W). h.regions) is)

pub unlinked_on_block : {W : Dialect} (f g : Forest context_ids W) (c : ArenaIndex) (change : BlockRecord context_ids W → BlockRecord context_ids W) (b : ArenaIndex) → g ≡ on_block f c change → (IsLinked f (a_block b) → ⊥) → IsLinked g (a_block b) → ⊥
unlinked_on_block {W} f g c change b is = block_unlinked f g b (ap (λ (h : Forest context_ids W). h.regions) is)

pub op_unlinked_in_regions : {W : Dialect} (f g : Forest context_ids W) (change : List ArenaIndex → List ArenaIndex) (o : ArenaIndex) → g ≡ in_regions f change → (IsLinked f (an_op o) → ⊥) → IsLinked g (an_op o) → ⊥
op_unlinked_in_regions {W} f g change o is = op_unlinked f g o (ap (λ (h : Forest context_ids W). h.blocks) is)

pub op_unlinked_on_region : {W : Dialect} (f g : Forest context_ids W) (r : ArenaIndex) (change : List ArenaIndex → List ArenaIndex) (o : ArenaIndex) → g ≡ on_region f r change → (IsLinked f (an_op o) → ⊥) → IsLinked g (an_op o) → ⊥
op_unlinked_on_region {W} f g r change o is = op_unlinked f g o (ap (λ (h : Forest context_ids W). h.blocks) is)

pub regions_in_regions : {W : Dialect} (f g : Forest context_ids W) (change : List ArenaIndex → List ArenaIndex) (r o : ArenaIndex) → g ≡ in_regions f change → In r (regions_of f o) → In r (regions_of g o)
regions_in_regions f g change r o is at = subst (λ h. In r (regions_of h o)) (sym is) at

pub regions_on_region : {W : Dialect} (f g : Forest context_ids W) (c : ArenaIndex) (change : List ArenaIndex → List ArenaIndex) (r o : ArenaIndex) → g ≡ on_region f c change → In r (regions_of f o) → In r (regions_of g o)
regions_on_region f g c change r o is at = subst (λ h. In r (regions_of h o)) (sym is) at

-- a region that stands in an operation is one of its regions
pub region_stands : {W : Dialect} (f : Forest context_ids W) (r o : ArenaIndex) → In (a_region r) (children f (an_op o)) → In r (regions_of f o)
region_stands f r o at =
    let m = In-map_back {A = ArenaIndex} {B = Entity context_ids} a_region (a_region r) (regions_of f o) at in
    let e : ◌≡◌ {A = Entity context_ids} (a_region r) (a_region m.0) = m.2 in
    let same : r ≡ m.0 = cc in
    subst (λ z. In z (regions_of f o)) (sym same) m.1

-- what stands in a block that stands in nothing stands in a list
pub free_linked : {W : Dialect} (f : Forest context_ids W) (o : ArenaIndex) → StandsFree f o → IsLinked f (an_op o)
free_linked f o s = (a_block s.block, In-map an_op o (ops_of f s.block) s.stands)

pub not_so : (b : Bool) → not b ≡ true → b ≡ true → ⊥
not_so true fails holds = cc
not_so false fails holds = cc

pub parent_free : {W : Dialect} (f : Forest context_ids W) (o b : ArenaIndex) → In (an_op o) (children f (a_block b)) → (IsLinked f (a_block b) → ⊥) → StandsFree f o
parent_free f o b at free =
    let m = In-map_back {A = ArenaIndex} {B = Entity context_ids} an_op (an_op o) (ops_of f b) at in
    let e : ◌≡◌ {A = Entity context_ids} (an_op o) (an_op m.0) = m.2 in
    let same : o ≡ m.0 = cc in
    record { block = b; stands = subst (λ z. In z (ops_of f b)) (sym same) m.1; free = free }

-- every block's list is edited
pub mapped : {W : Dialect} (g : List ArenaIndex → List ArenaIndex) → g [] ≡ [] → (m : Option (BlockRecord context_ids W))
    → list_of (λ (r : BlockRecord context_ids W). r.ops) (option_map (on_ops g) m) ≡ g (list_of (λ (r : BlockRecord context_ids W). r.ops) m)
mapped g none None = sym none
mapped g none (Some r) = refl

kept_before : (o mark p : ArenaIndex) (xs : List ArenaIndex) → In p xs → In p (put_before same_id o mark xs)
kept_before o mark p [] h = elim h [ ]
kept_before o mark p (y ∷ ys) h = by (same_id y mark) (λ k. kept_before o mark p ys k) h
  where
    by : (b : Bool) → (In p ys → In p (put_before same_id o mark ys)) → In p (y ∷ ys) → In p (cond b (o ∷ y ∷ ys) (y ∷ put_before same_id o mark ys))
    by true more h = inr h
    by false more (inl e) = inl e
    by false more (inr k) = inr (more k)

put_in : (o mark : ArenaIndex) (xs : List ArenaIndex) → In mark xs → In o (put_before same_id o mark xs)
put_in o mark [] h = elim h [ ]
put_in o mark (y ∷ ys) h = by (same_id y mark) refl (λ k. put_in o mark ys k) h
  where
    by : (b : Bool) → same_id y mark ≡ b → (In mark ys → In o (put_before same_id o mark ys)) → In mark (y ∷ ys) → In o (cond b (o ∷ y ∷ ys) (y ∷ put_before same_id o mark ys))
    by true e more h = inl refl
    by false e more (inl s) = absurd (let t : same_id y mark ≡ true = (id_tells y mark).1 (sym s) in cc)
    by false e more (inr k) = inr (more k)

pub still_left : (o p : ArenaIndex) (xs : List ArenaIndex) → p ≢ o → In p xs → In p (without same_id o xs)
still_left o p xs differ h = In-kept (λ z. not (same_id z o)) p xs h (by (same_id p o) refl)
  where
    by : (b : Bool) → same_id p o ≡ b → not b ≡ true
    by true e = absurd (differ ((id_tells p o).0 e))
    by false e = refl

pub not_left : (o : ArenaIndex) (xs : List ArenaIndex) → In o (without same_id o xs) → ⊥
not_left o xs h =
    let no : not (same_id o o) ≡ true = (In-filter (λ y. not (same_id y o)) o xs h).1 in
    let wrong : not true ≡ true = subst (λ b. not b ≡ true) ((id_tells o o).1 refl) no in
    cc

module _ {W : Dialect} (f g : Forest context_ids W) (o : ArenaIndex) where
  module _ (is : g ≡ in_blocks f (without same_id o)) where
    -- what else stands in a block that stands in nothing still does
    pub out_free : (p : ArenaIndex) → p ≢ o → StandsFree f p → StandsFree g p
    out_free p differ s = record {
      block = s.block;
      stands = subst (λ h. In p (ops_of h s.block)) (sym is) (subst (In p) (sym (mapped (without same_id o) refl (f.blocks s.block))) (still_left o p (ops_of f s.block) differ s.stands));
      free = block_unlinked f g s.block (ap (λ (h : Forest context_ids W). h.regions) is) s.free;
    }

    out_unlinked : IsLinked g (an_op o) → ⊥
    out_unlinked l = by l.0 l.1
      where
        by : (y : Entity context_ids) → In {A = Entity context_ids} (an_op o) (children g y) → ⊥
        by (an_op p) h = no_op_in_regions o (regions_of g p) h
        by (a_block b) h =
            let m = In-map_back {A = ArenaIndex} {B = Entity context_ids} an_op (an_op o) (ops_of g b) h in
            let e : ◌≡◌ {A = Entity context_ids} (an_op o) (an_op m.0) = m.2 in
            let same : o ≡ m.0 = cc in
            not_left o (ops_of f b) (subst (λ z. In z (without same_id o (ops_of f b))) (sym same)
            (subst (In m.0) (mapped (without same_id o) refl (f.blocks b)) (subst (λ (h : Forest context_ids W). In m.0 (ops_of h b)) is m.1)))
        by (a_region r) h = no_op_in_blocks o (blocks_of g r) h

    -- it may go beside another one of these
    pub may_go_beside : (mark : ArenaIndex) → mark ≢ o → StandsFree f mark → MayGoBeside g (an_op o) (an_op mark)
    may_go_beside mark differ s =
        let left = out_free mark differ s in
        (out_unlinked, (a_block left.block, In-map an_op mark (ops_of g left.block) left.stands, block_apart g o left.block left.free))

  module _ (mark : ArenaIndex) (is : g ≡ in_blocks f (put_before same_id o mark)) where
    kept_free : (p : ArenaIndex) → StandsFree f p → StandsFree g p
    kept_free p s = record {
      block = s.block;
      stands = subst (λ h. In p (ops_of h s.block)) (sym is) (subst (In p) (sym (mapped (put_before same_id o mark) refl (f.blocks s.block))) (kept_before o mark p (ops_of f s.block) s.stands));
      free = block_unlinked f g s.block (ap (λ (h : Forest context_ids W). h.regions) is) s.free;
    }

    placed_free : StandsFree f mark → StandsFree g o
    placed_free s = record {
      block = s.block;
      stands = subst (λ h. In o (ops_of h s.block)) (sym is) (subst (In o) (sym (mapped (put_before same_id o mark) refl (f.blocks s.block))) (put_in o mark (ops_of f s.block) s.stands));
      free = block_unlinked f g s.block (ap (λ (h : Forest context_ids W). h.regions) is) s.free;
    }

-- an operation that is taken out and put before another one stands free, and so do all others that did
pub moved_free : {W : Dialect} (f g h : Forest context_ids W) (o mark : ArenaIndex) → mark ≢ o → g ≡ in_blocks f (without same_id o) → h ≡ in_blocks g (put_before same_id o mark)
    → StandsFree f mark → (p : ArenaIndex) → StandsFree f p → StandsFree h p
moved_free f g h o mark differ out into at p s = by (same_id p o) refl
  where
    by : (b : Bool) → same_id p o ≡ b → StandsFree h p
    by true e = subst (λ z. StandsFree h z) (sym ((id_tells p o).0 e)) (placed_free g h o mark into (out_free f g o out mark differ at))
    by false e = kept_free g h o mark into p (out_free f g o out p (λ k. let t : same_id p o ≡ true = (id_tells p o).1 k in cc) s)
