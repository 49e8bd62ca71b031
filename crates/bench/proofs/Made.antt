-- Where a new operation or a new block may go: it stands in nothing, and nothing that was there before stands inside it.
use Rattle.std.proofs.Common.{◌≡◌, ◌⊎◌, ◌+◌, ◌≤◌, ℕ, inl, inr, Bool, refl, sym, ap, subst, ◌∙◌, arith, true, false, Option, Some, None, IsSome, IsTrue, List, [], ◌∷◌, map, cond}
use Rattle.std.specs.List.{list_any}
use Rattle.ir_model.specs.declared.ids.ArenaIndex.{ArenaIndex}
use Rattle.ir_model.specs.declared.ids.Limits.{Limits}
use Rattle.ir_model.specs.ContextIds.{context_ids, same_id}
use Rattle.ir_model.specs.Forest.{BlockRecord, Definition, Dialect, Entity, Forest, OpRecord, Operand, Successor, Text, a_block, a_region, an_op}
use Rattle.ir_model.specs.Nesting.{In, Inside, IsLinked, IsLive, Nested, Within, below, blocks_of, children, itself, list_of, ops_of, regions_of}
use Rattle.ir_model.specs.Changes.{new_block, new_op, put}
use Rattle.ir_model.specs.Edits.{MayGoInto}
use Rattle.ir_model.specs.Sessions.{IsNewId}
use Rattle.ir_model.proofs.TwoRuns.{id_tells}
use Rattle.ir_model.proofs.KeepsNew.{any_in}
use Rattle.ir_model.proofs.Nests.{In-map_back}

-- what may be handed out wasn't handed out yet
pub not_passed : (limits : Limits) (passed : ArenaIndex → Bool) (live : ArenaIndex → Type 0) (i : ArenaIndex) → IsNewId limits passed live i → IsTrue (passed i) → ⊥
not_passed limits passed live i new gone = elim new.3 [
  | inl first ↦ first.1 i gone refl
  | inr later ↦ (let most : i.version ≤ later.0.version = later.5 i gone refl in let least : i.version ≡ later.0.version + 2 = later.2 in omega arith)
]

pub no_op_in_regions : (o : ArenaIndex) (rs : List ArenaIndex) → In {A = Entity context_ids} (an_op o) (map a_region rs) → ⊥
no_op_in_regions o rs h = let m = In-map_back {A = ArenaIndex} {B = Entity context_ids} a_region (an_op o) rs h in let e : ◌≡◌ {A = Entity context_ids} (an_op o) (a_region m.0) = m.2 in cc

pub no_op_in_blocks : (o : ArenaIndex) (bs : List ArenaIndex) → In {A = Entity context_ids} (an_op o) (map a_block bs) → ⊥
no_op_in_blocks o bs h = let m = In-map_back {A = ArenaIndex} {B = Entity context_ids} a_block (an_op o) bs h in let e : ◌≡◌ {A = Entity context_ids} (an_op o) (a_block m.0) = m.2 in cc

pub no_block_in_regions : (b : ArenaIndex) (rs : List ArenaIndex) → In {A = Entity context_ids} (a_block b) (map a_region rs) → ⊥
no_block_in_regions b rs h = let m = In-map_back {A = ArenaIndex} {B = Entity context_ids} a_region (a_block b) rs h in let e : ◌≡◌ {A = Entity context_ids} (a_block b) (a_region m.0) = m.2 in cc

pub no_block_in_ops : (b : ArenaIndex) (os : List ArenaIndex) → In {A = Entity context_ids} (a_block b) (map an_op os) → ⊥
no_block_in_ops b os h = let m = In-map_back {A = ArenaIndex} {B = Entity context_ids} an_op (a_block b) os h in let e : ◌≡◌ {A = Entity context_ids} (a_block b) (an_op m.0) = m.2 in cc

-- what is put under a key is found there
found : {B : Type 0} (key : ArenaIndex) (v : B) (m : ArenaIndex → Option B) → put same_id key v m key ≡ Some v
found key v m = let e : same_id key key ≡ true = (id_tells key key).1 refl in rw e

module _ {W : Dialect} (f : Forest context_ids W) (nested : Nested f) where
  module _ (o : ArenaIndex) (loc : W.Loc) (kind : ℕ) (results : List (Definition context_ids W)) (operands : List (Operand context_ids)) (successors : List (Successor context_ids)) (regions : List ArenaIndex)
      (dead : IsLive f (an_op o) → ⊥) where
    abbrev with_op : Forest context_ids W
    with_op = new_op f o loc kind results operands successors regions

    op_in_nothing : (y : Entity context_ids) → In (an_op o) (children with_op y) → ⊥
    op_in_nothing (an_op p) h = no_op_in_regions o (regions_of with_op p) h
    op_in_nothing (a_block b) h = dead (nested.live (an_op o) (a_block b) h)
    op_in_nothing (a_region r) h = no_op_in_blocks o (blocks_of with_op r) h

    its_regions : regions_of with_op o ≡ regions
    its_regions = ap (list_of (λ (r : OpRecord context_ids W). r.regions)) (found o _ f.ops)

    empty : (r : ArenaIndex) → In r regions → blocks_of with_op r ≡ []
    empty r h = elim (any_in same_id id_tells r regions) [ inl e ↦ rw e.0 | inr e ↦ absurd (e.1 h) ]

    -- what is inside it is itself, or an empty region
    in_op : (x : Entity context_ids) → Within (children with_op) (an_op o) x → (x ≡ an_op o) ⊎ ((r : ArenaIndex) × (x ≡ a_region r) × (blocks_of with_op r ≡ []))
    in_op x itself = inl refl
    in_op x (below {c = c} h w) = by (in_op c w)
      where
        by : (c ≡ an_op o) ⊎ ((r : ArenaIndex) × (c ≡ a_region r) × (blocks_of with_op r ≡ [])) → (x ≡ an_op o) ⊎ ((r : ArenaIndex) × (x ≡ a_region r) × (blocks_of with_op r ≡ []))
        by (inl e) =
            let m = In-map_back {A = ArenaIndex} {B = Entity context_ids} a_region x (regions_of with_op o) (subst (λ z. In x (children with_op z)) e h) in
            inr (m.0, m.2, empty m.0 (subst (In m.0) its_regions m.1))
        by (inr e) = absurd (
            let k : In x (map a_block (blocks_of with_op e.0)) = subst (λ z. In x (children with_op z)) e.1 h in
            subst (λ bs. In x (map a_block bs)) e.2 k)

    pub op_goes : (g : Forest context_ids W) (b : ArenaIndex) → g ≡ with_op → MayGoInto g (an_op o) (a_block b)
    op_goes g b e = subst (λ h. MayGoInto h (an_op o) (a_block b)) (sym e) (
      λ l. op_in_nothing l.0 l.1,
      λ w. elim (in_op (a_block b) w) [
        | inl s ↦ (let k : ◌≡◌ {A = Entity context_ids} (a_block b) (an_op o) = s in cc)
        | inr s ↦ (let k : ◌≡◌ {A = Entity context_ids} (a_block b) (a_region s.0) = s.1 in cc)
      ],
    )

  module _ (b : ArenaIndex) (loc : W.Loc) (label : Option Text) (arguments : List (Definition context_ids W)) (dead : IsLive f (a_block b) → ⊥) where
    abbrev with_block : Forest context_ids W
    with_block = new_block f b loc label arguments

    block_in_nothing : (y : Entity context_ids) → In (a_block b) (children with_block y) → ⊥
    block_in_nothing (an_op p) h = no_block_in_regions b (regions_of f p) h
    block_in_nothing (a_block c) h = no_block_in_ops b (ops_of with_block c) h
    block_in_nothing (a_region r) h = dead (nested.live (a_block b) (a_region r) h)

    no_ops : ops_of with_block b ≡ []
    no_ops = ap (list_of (λ (r : BlockRecord context_ids W). r.ops)) (found b _ f.blocks)

    in_block : (x : Entity context_ids) → Within (children with_block) (a_block b) x → x ≡ a_block b
    in_block x itself = refl
    in_block x (below {c = c} h w) = absurd (
        let k : In x (map an_op (ops_of with_block b)) = subst (λ z. In x (children with_block z)) (in_block c w) h in
        subst (λ os. In x (map an_op os)) no_ops k)

    pub block_goes : (g : Forest context_ids W) (r : ArenaIndex) → g ≡ with_block → MayGoInto g (a_block b) (a_region r)
    block_goes g r e = subst (λ h. MayGoInto h (a_block b) (a_region r)) (sym e) (
      λ l. block_in_nothing l.0 l.1,
      λ w. let k : ◌≡◌ {A = Entity context_ids} (a_region r) (a_block b) = in_block (a_region r) w in cc,
    )
