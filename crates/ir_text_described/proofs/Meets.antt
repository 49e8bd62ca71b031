-- Operations of two forests that are the same rows, as what stands in one another.
use Rattle.std.proofs.Common.{◌≡◌, ℕ, ◌+◌, ◌≤◌, List, [], ◌∷◌, refl, sym, ap, ◌∙◌, subst, subst₂, true≢false, arith}
use Rattle.ir_model.specs.declared.ids.ArenaIndex.{ArenaIndex}
use Rattle.ir_model.specs.Forest.{Dialect}
use Rattle.ir_model.specs.Nesting.{regions_of, ops_of, blocks_of}
use Rattle.ir_text_tree.specs.declared.row.Part.TheVariants as parts
use Rattle.ir_text_described.specs.Trees.{part_at}
use Rattle.ir_text_described.specs.Written.{IsTail}
use Rattle.ir_text_described.proofs.Ranks.{rank, rank_at}
use Rattle.ir_text_described.proofs.Sides.{Sides, one, other}
use Rattle.ir_text_described.proofs.Heads.{HeadPair, heads_meet, head_begins}
use Rattle.ir_text_described.proofs.Tails.{TailPair, tails_meet, tail_low}
use Rattle.ir_text_described.proofs.Labels.{LabelPair, labels_meet, plain_pair}
use Rattle.ir_text_described.proofs.Nested.{IsBlocksRow, OpsAt, no_ops, ops, RegionsAt, no_regions, regions, RegionAt, all_labelled, first_plain, BlocksAt, no_blocks, blocks, Stops, blocks_row_stops, ops_far, region_opens, regions_low, blocks_row}

module _ {W V : Dialect} (w : Sides W V) where
  mutual
    -- the operations of both forests are the rows from one row up to another
    pub data OpsMeet : List ArenaIndex → List ArenaIndex → ℕ → ℕ → Type 0 where
      none : {at : ℕ} → OpsMeet [] [] at at
      more : {o p : ArenaIndex} {os ps : List ArenaIndex} {at a b c next : ℕ} → HeadPair w o p at a → RegionsMeet (regions_of w.f o) (regions_of w.g p) a b → TailPair w o p b c → OpsMeet os ps c next → OpsMeet (o ∷ os) (p ∷ ps) at next

    pub data RegionsMeet : List ArenaIndex → List ArenaIndex → ℕ → ℕ → Type 0 where
      no_more_regions : {at : ℕ} → RegionsMeet [] [] at at
      more_regions : {g h : ArenaIndex} {gs hs : List ArenaIndex} {at a next : ℕ} → RegionMeet g h at a → RegionsMeet gs hs a next → RegionsMeet (g ∷ gs) (h ∷ hs) at next

    pub data RegionMeet : ArenaIndex → ArenaIndex → ℕ → ℕ → Type 0 where
      within : {g h : ArenaIndex} {at a next : ℕ} → part_at w.tree at ≡ parts.Open → BlocksMeet (blocks_of w.f g) (blocks_of w.g h) (at + 1) a → part_at w.tree a ≡ parts.Close → next ≡ a + 1 → RegionMeet g h at next

    pub data BlocksMeet : List ArenaIndex → List ArenaIndex → ℕ → ℕ → Type 0 where
      no_more_blocks : {at : ℕ} → BlocksMeet [] [] at at
      more_blocks : {b c : ArenaIndex} {bs cs : List ArenaIndex} {at a m next : ℕ} → LabelPair w b c at a → OpsMeet (ops_of w.f b) (ops_of w.g c) a m → BlocksMeet bs cs m next → BlocksMeet (b ∷ bs) (c ∷ cs) at next

  pub record OpsEnd (os ps : List ArenaIndex) (at next next' : ℕ) : Type 0 where
    pub ends : next ≡ next'
    pub meet : OpsMeet os ps at next

  record RegionsEnd (gs hs : List ArenaIndex) (at next next' : ℕ) : Type 0 where
    ends : next ≡ next'
    meet : RegionsMeet gs hs at next

  record RegionEnd (g h : ArenaIndex) (at next next' : ℕ) : Type 0 where
    ends : next ≡ next'
    meet : RegionMeet g h at next

  record BlocksEnd (bs cs : List ArenaIndex) (at next next' : ℕ) : Type 0 where
    ends : next ≡ next'
    meet : BlocksMeet bs cs at next

  no_region : (n : ℕ) → 5 ≤ rank_at w.tree n → part_at w.tree n ≡ parts.Open → ⊥
  no_region n far e = let is : rank_at w.tree n ≡ 4 = ap rank e in absurd (omega arith)

  no_label : (n : ℕ) → part_at w.tree n ≡ parts.Label → part_at w.tree n ≡ parts.Close → ⊥
  no_label n e e' = cc

  -- the rows are those of one text, whatever they name
  other_stops : (n : ℕ) → IsBlocksRow (other w).tree n → Stops w.tree n
  other_stops n row = blocks_row_stops w.tree n (record { far = row.far; begins = row.begins })

  mutual
    pub ops_meet : {os ps : List ArenaIndex} {at next next' : ℕ} → OpsAt (one w) os at next → OpsAt (other w) ps at next' → Stops w.tree next → Stops w.tree next' → OpsEnd os ps at next next'
    ops_meet no_ops no_ops stop stop' = record { ends = refl; meet = none }
    ops_meet no_ops (ops {o = p} {at = at} {a = a} head rs t rest) stop stop' = let b = head_begins (other w) p at a head in absurd (stop.stops b.within b.begins)
    ops_meet (ops {o = o} {at = at} {a = a} head rs t rest) no_ops stop stop' = let b = head_begins (one w) o at a head in absurd (stop'.stops b.within b.begins)
    ops_meet {next' = next'} (ops {o = o} {at = at} {a = a} {b = b} {c = c} head rs t rest) (ops {o = p} {os = ps} {a = a'} {b = b'} {c = c'} head' rs' t' rest') stop stop' =
        let far : 9 ≤ rank_at w.tree c = ops_far (one w) rest stop.far in
        let far' : 9 ≤ rank_at w.tree c' = ops_far (other w) rest' stop'.far in
        let low : 5 ≤ rank_at w.tree b = tail_low (one w) o b c t far in
        let low' : 5 ≤ rank_at w.tree b' = tail_low (other w) p b' c' t' far' in
        let heads = heads_meet w o p at a a' head head' (regions_low (one w) rs low) (regions_low (other w) rs' low') in
        let inside = regions_meet rs (subst (λ x. RegionsAt (other w) (regions_of w.g p) x b') (sym heads.ends) rs') low low' in
        let tails = tails_meet w o p b c c' t (subst (λ x. IsTail (other w) p x c') (sym inside.ends) t') far far' in
        let behind = ops_meet rest (subst (λ x. OpsAt (other w) ps x next') (sym tails.ends) rest') stop stop' in
        record { ends = behind.ends; meet = more heads.pair inside.meet tails.pair behind.meet }

    regions_meet : {gs hs : List ArenaIndex} {at next next' : ℕ} → RegionsAt (one w) gs at next → RegionsAt (other w) hs at next' → 5 ≤ rank_at w.tree next → 5 ≤ rank_at w.tree next' → RegionsEnd gs hs at next next'
    regions_meet no_regions no_regions far far' = record { ends = refl; meet = no_more_regions }
    regions_meet no_regions (regions {at = at} r rest) far far' = absurd (no_region at far (region_opens (other w) r))
    regions_meet (regions {at = at} r rest) no_regions far far' = absurd (no_region at far' (region_opens (one w) r))
    regions_meet {next' = next'} (regions r rest) (regions {gs = hs} r' rest') far far' =
        let first = region_meet r r' in
        let behind = regions_meet rest (subst (λ x. RegionsAt (other w) hs x next') (sym first.ends) rest') far far' in
        record { ends = behind.ends; meet = more_regions first.meet behind.meet }

    region_meet : {g h : ArenaIndex} {at next next' : ℕ} → RegionAt (one w) g at next → RegionAt (other w) h at next' → RegionEnd g h at next next'
    region_meet (all_labelled part bs closes e) (all_labelled part' bs' closes' e') =
        let all = blocks_meet bs bs' closes closes' in
        record { ends = e ∙ ap (λ x. x + 1) all.ends ∙ sym e'; meet = within part all.meet closes e }
    region_meet (all_labelled part bs closes e) (first_plain part' is no_head os bs' closes' e') = let row = blocks_row (one w) bs closes in absurd (true≢false (sym no_head.begins ∙ row.begins))
    region_meet (first_plain part is no_head os bs closes e) (all_labelled part' bs' closes' e') = let row = blocks_row (other w) bs' closes' in absurd (true≢false (sym no_head.begins ∙ row.begins))
    region_meet {g = g} {h = h} {at = at} (first_plain {b = b} {a = a} {m = m} part is no_head os bs closes e) (first_plain {b = c} {bs = cs} {a = a'} {m = m'} part' is' no_head' os' bs' closes' e') =
        let first = ops_meet os os' (blocks_row_stops w.tree m (blocks_row (one w) bs closes)) (other_stops m' (blocks_row (other w) bs' closes')) in
        let others = blocks_meet bs (subst (λ x. BlocksAt (other w) cs x a') (sym first.ends) bs') closes closes' in
        let all : BlocksMeet (blocks_of w.f g) (blocks_of w.g h) (at + 1) a = subst₂ (λ xs ys. BlocksMeet xs ys (at + 1) a) (sym is) (sym is') (more_blocks (plain_pair w b c (at + 1) no_head no_head') first.meet others.meet) in
        record { ends = e ∙ ap (λ x. x + 1) others.ends ∙ sym e'; meet = within part all closes e }

    blocks_meet : {bs cs : List ArenaIndex} {at next next' : ℕ} → BlocksAt (one w) bs at next → BlocksAt (other w) cs at next' → part_at w.tree next ≡ parts.Close → part_at w.tree next' ≡ parts.Close → BlocksEnd bs cs at next next'
    blocks_meet no_blocks no_blocks closes closes' = record { ends = refl; meet = no_more_blocks }
    blocks_meet no_blocks (blocks {at = at} label os rest) closes closes' = absurd (no_label at label.part closes)
    blocks_meet (blocks {at = at} label os rest) no_blocks closes closes' = absurd (no_label at label.part closes')
    blocks_meet {next' = next'} (blocks {b = b} {at = at} {a = a} {m = m} label os rest) (blocks {b = c} {bs = cs} {a = a'} {m = m'} label' os' rest') closes closes' =
        let stop = blocks_row_stops w.tree m (blocks_row (one w) rest closes) in
        let stop' = other_stops m' (blocks_row (other w) rest' closes') in
        let labels = labels_meet w b c at a a' label label' (ops_far (one w) os stop.far) (ops_far (other w) os' stop'.far) in
        let inside = ops_meet os (subst (λ x. OpsAt (other w) (ops_of w.g c) x m') (sym labels.ends) os') stop stop' in
        let behind = blocks_meet rest (subst (λ x. BlocksAt (other w) cs x next') (sym inside.ends) rest') closes closes' in
        record { ends = behind.ends; meet = more_blocks labels.pair inside.meet behind.meet }
