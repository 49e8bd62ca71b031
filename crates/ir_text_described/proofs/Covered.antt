-- What rows define corresponds.
use Rattle.std.proofs.Common.{◌≡◌, ℕ, ◌+◌, ◌<◌, ◌≤◌, true, false, List, length, Some, refl, sym, ap, ◌∙◌, subst₂, inl, inr, ⊎_elim, true≢false, arith}
use Rattle.std.proofs.lemmas.Bool.{cases_lt}
use Rattle.ir_model.specs.declared.ids.ArenaIndex.{ArenaIndex}
use Rattle.ir_model.specs.ContextIds.{context_ids}
use Rattle.ir_model.specs.Forest.{Dialect, Definer, of_op, of_block, Entity, an_op, a_block, a_region, definer_entity}
use Rattle.ir_model.specs.Nesting.{regions_of, ops_of, blocks_of}
use Rattle.ir_text_tree.specs.declared.row.Part.TheVariants as parts
use Rattle.ir_text_names.specs.Values.{defines}
use Rattle.ir_text_described.specs.Trees.{part_at}
use Rattle.ir_text_described.specs.Alike.{AtOnePlace, Correspond, outermost, inner}
use Rattle.ir_text_described.proofs.Places.{at_place_mapped}
use Rattle.ir_text_described.proofs.Ranks.{gives, gives_value}
use Rattle.ir_text_described.proofs.Sides.{Sides, Row}
use Rattle.ir_text_described.proofs.Meets.{OpsMeet, none, more, RegionsMeet, no_more_regions, more_regions, RegionMeet, within, BlocksMeet, no_more_blocks, more_blocks}

module _ {W V : Dialect} (w : Sides W V) (operations operations' : List ArenaIndex) where
  abbrev pub Corresponds : Entity context_ids → Entity context_ids → Type 0
  Corresponds x y = Correspond w.f w.g operations operations' x y

  -- What the row defines, if it defines something, corresponds.
  pub record Covered (r : ℕ) : Type 0 where
    pub value : defines (part_at w.tree r) ≡ true → (d : Definer context_ids) × (d' : Definer context_ids) × (k : ℕ) × Corresponds (definer_entity context_ids d) (definer_entity context_ids d') × (w.meanings.values r ≡ Some (record { definer = d; first = k })) × (w.meanings'.values r ≡ Some (record { definer = d'; first = k }))
    pub block : part_at w.tree r ≡ parts.Label → (b : ArenaIndex) × (c : ArenaIndex) × Corresponds (a_block b) (a_block c) × (w.meanings.blocks r ≡ Some b) × (w.meanings'.blocks r ≡ Some c)

  row_covered : (d d' : Definer context_ids) (r : ℕ) → Corresponds (definer_entity context_ids d) (definer_entity context_ids d') → Row w d d' r → Covered r
  row_covered d d' r c row = record {
    value = λ e. let v = row.value e in (d, d', v.0, c, v.1, v.2);
    block = λ e. let b = row.block e in (b.0, b.1, subst₂ (λ x y. Corresponds (definer_entity context_ids x) (definer_entity context_ids y)) b.2 b.3 c, b.4, b.5);
  }

  plain_covered : (r : ℕ) → gives (part_at w.tree r) ≡ false → Covered r
  plain_covered r nothing = record {
    value = λ e. absurd (true≢false (sym (gives_value (part_at w.tree r) e) ∙ nothing));
    block = λ e. absurd (true≢false (sym (ap gives e) ∙ nothing));
  }

  part_covered : (n r : ℕ) → n ≡ r → gives (part_at w.tree n) ≡ false → Covered r
  part_covered n r e nothing = plain_covered r (ap (λ x. gives (part_at w.tree x)) (sym e) ∙ nothing)

  mutual
    ops_cover : {os ps : List ArenaIndex} {at next : ℕ} → OpsMeet w os ps at next → ((o p : ArenaIndex) → AtOnePlace o p os ps → Corresponds (an_op o) (an_op p)) → (r : ℕ) → at ≤ r → r < next → Covered r
    ops_cover none c r le lt = absurd (omega arith)
    ops_cover (more {o = o} {p = p} {a = a} {b = b} {c = c'} head inside tail rest) c r le lt =
        ⊎_elim (λ (before : r < a). row_covered (of_op o) (of_op p) r (c o p (inl refl)) (head.rows r le before))
        (λ (behind : a ≤ r). ⊎_elim (λ (before : r < b). regions_cover inside (λ g h at. inner (c o p (inl refl)) (at_place_mapped a_region a_region (regions_of w.f o) (regions_of w.g p) g h at)) r behind before)
        (λ (behind : b ≤ r). ⊎_elim (λ (before : r < c'). plain_covered r (tail.rows r behind before))
        (λ (behind : c' ≤ r). ops_cover rest (λ x y at. c x y (inr at)) r behind lt)
        (cases_lt r c'))
        (cases_lt r b))
        (cases_lt r a)

    regions_cover : {gs hs : List ArenaIndex} {at next : ℕ} → RegionsMeet w gs hs at next → ((g h : ArenaIndex) → AtOnePlace g h gs hs → Corresponds (a_region g) (a_region h)) → (r : ℕ) → at ≤ r → r < next → Covered r
    regions_cover no_more_regions c r le lt = absurd (omega arith)
    regions_cover (more_regions {g = g} {h = h} {a = a} first rest) c r le lt =
        ⊎_elim (λ (before : r < a). region_cover first (c g h (inl refl)) r le before)
        (λ (behind : a ≤ r). regions_cover rest (λ x y at. c x y (inr at)) r behind lt)
        (cases_lt r a)

    region_cover : {g h : ArenaIndex} {at next : ℕ} → RegionMeet w g h at next → Corresponds (a_region g) (a_region h) → (r : ℕ) → at ≤ r → r < next → Covered r
    region_cover (within {g = g} {h = h} {at = at} {a = a} opens inside closes e) c r le lt =
        ⊎_elim (λ (before : r < at + 1). part_covered at r (omega arith) (ap gives opens))
        (λ (behind : at + 1 ≤ r). ⊎_elim (λ (before : r < a). blocks_cover inside (λ x y at'. inner c (at_place_mapped a_block a_block (blocks_of w.f g) (blocks_of w.g h) x y at')) r behind before)
        (λ (behind : a ≤ r). part_covered a r (omega arith) (ap gives closes))
        (cases_lt r a))
        (cases_lt r (at + 1))

    blocks_cover : {bs cs : List ArenaIndex} {at next : ℕ} → BlocksMeet w bs cs at next → ((x y : ArenaIndex) → AtOnePlace x y bs cs → Corresponds (a_block x) (a_block y)) → (r : ℕ) → at ≤ r → r < next → Covered r
    blocks_cover no_more_blocks c r le lt = absurd (omega arith)
    blocks_cover (more_blocks {b = b} {c = b'} {a = a} {m = m} label inside rest) c r le lt =
        ⊎_elim (λ (before : r < a). row_covered (of_block b) (of_block b') r (c b b' (inl refl)) (label.rows r le before))
        (λ (behind : a ≤ r). ⊎_elim (λ (before : r < m). ops_cover inside (λ x y at. inner (c b b' (inl refl)) (at_place_mapped an_op an_op (ops_of w.f b) (ops_of w.g b') x y at)) r behind before)
        (λ (behind : m ≤ r). blocks_cover rest (λ x y at. c x y (inr at)) r behind lt)
        (cases_lt r m))
        (cases_lt r a)

  pub all_covered : OpsMeet w operations operations' 0 (length w.tree.rows) → (r : ℕ) → r < length w.tree.rows → Covered r
  all_covered meet r lt = ops_cover meet (λ o p at. outermost at) r (omega arith) lt
