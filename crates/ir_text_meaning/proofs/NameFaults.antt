-- Names are at fault by rows exactly where they are in the tree.
use Rattle.std.proofs.Common.{◌≡◌, ◌⊎◌, ◌↔◌, ℕ, List, sym, ap, subst, ◌∙◌, inl, inr, ⊎_elim}
use Rattle.ir_text_tree.specs.declared.row.Part.TheVariants as parts
use Rattle.ir_text_tree.specs.Rows.{row}
use Rattle.ir_text_tree.specs.Trees.{Body, tree_rows}
use Rattle.ir_text_names.specs.declared.fault.Wrong.{Wrong}
use Rattle.ir_text_names.specs.declared.fault.Wrong.TheVariants as wrongs
use Rattle.ir_text_names.specs.Rows.{part_of, piece}
use Rattle.ir_text_names.specs.Values.{IsInRegion, NamesNoValue, IsValueAgain, IsValueWrong}
use Rattle.ir_text_names.specs.Blocks.{NamesNoBlock, IsBlockAgain, IsBlockWrong}
use Rattle.ir_text_names.specs.Keys.{IsKeyWrong}
use Rattle.ir_text_meaning.specs.Regions.{IsWithin}
use Rattle.ir_text_meaning.specs.Meanings.{HasBlock}
use Rattle.ir_text_meaning.specs.Faults.{MeansValueAgain, MeansBlockAgain, IsOperandIn, IsSuccessorIn, MeansNoValue, MeansNoBlock, IsNameFault}
use Rattle.ir_text_meaning.proofs.Places.{one_body}
use Rattle.ir_text_meaning.proofs.Bodies.{tree_frame, frame, in_frame}
use Rattle.ir_text_meaning.proofs.NameMeanings.{definition_home, operand_home, successor_home, label_home, definition_of, operand_of, successor_of, block_of, definition_stands, definition_row, operand_stands, successor_stands, block_stands, inside_meet, values_meet, blocks_meet, text_in, part_in, defines_part}
use Rattle.ir_text_meaning.proofs.Owned.{keys_meet}

-- ---- values

abbrev IsValueBefore : List ℕ → Body → ℕ → Type 0
IsValueBefore text b i = (j : ℕ) × MeansValueAgain text b i j

value_again_meant : (text : List ℕ) (b : Body) (i : ℕ) → IsValueAgain text (tree_rows b) i → IsValueBefore text b i
value_again_meant text b i h =
    let rows = tree_rows b in
    let j = h.1.0 in
    let x = definition_home b i h.0 in
    let y = definition_home b j h.1.2 in (
      j,
      record {
        body = x.body;
        body_at = x.at;
        other = y.body;
        other_at = y.at;
        later = x.part.span;
        earlier = y.part.span;
        in_tree = x.within;
        other_in_tree = y.within;
        around =
            ⊎_elim (λ (f : IsInRegion rows i j). inl ((inside_meet b y.body x.body y.at x.at j i y.part x.part y.within y.stands x.within x.stands).0 f))
            (λ (f : IsInRegion rows j i). inr ((inside_meet b x.body y.body x.at y.at i j x.part y.part x.within x.stands y.within y.stands).0 f)) h.1.4;
        is_later = definition_of x.body x.at i x.part x.stands (ap defines_part (sym x.is) ∙ h.0.1);
        is_earlier = definition_of y.body y.at j y.part y.stands (ap defines_part (sym y.is) ∙ h.1.2.1);
        before = h.1.1;
        same = ap (text_in text) (sym y.is) ∙ h.1.3 ∙ ap (text_in text) x.is;
      },
    )

value_again_named : (text : List ℕ) (b : Body) (i : ℕ) → IsValueBefore text b i → IsValueAgain text (tree_rows b) i
value_again_named text b i h =
    let rows = tree_rows b in
    let j = h.0 in
    let k = h.1 in
    let x = definition_stands k.body k.body_at i k.later k.is_later in
    let y = definition_stands k.other k.other_at j k.earlier k.is_earlier in
    let later = definition_row b k.body k.body_at i k.later k.in_tree k.is_later in
    let earlier = definition_row b k.other k.other_at j k.earlier k.other_in_tree k.is_earlier in (
      later.0,
      (
        j,
        k.before,
        earlier.0,
        ap (piece text) earlier.1 ∙ k.same ∙ ap (piece text) (sym later.1),
        ⊎_elim (λ (f : IsWithin k.body k.body_at k.other k.other_at). inl ((inside_meet b k.other k.body k.other_at k.body_at j i y.0 x.0 k.other_in_tree y.1 k.in_tree x.1).1 f))
            (λ (f : IsWithin k.other k.other_at k.body k.body_at). inr ((inside_meet b k.body k.other k.body_at k.other_at i j x.0 y.0 k.in_tree x.1 k.other_in_tree y.1).1 f)) k.around,
      ),
    )

pub values_again_meet : (text : List ℕ) (b : Body) (i : ℕ) → IsValueAgain text (tree_rows b) i ↔ IsValueBefore text b i
values_again_meet text b i = (value_again_meant text b i, value_again_named text b i)

operand_found : (b : Body) (u : ℕ) → part_of (tree_rows b) u ≡ parts.Operand → IsOperandIn b u
operand_found b u e = let x = operand_home b u e in (x.body, x.at, x.part.span, x.within, operand_of x.body x.at u x.part x.stands (ap part_in (sym x.is) ∙ e))

operand_there : (b : Body) (u : ℕ) → IsOperandIn b u → part_of (tree_rows b) u ≡ parts.Operand
operand_there b u h = ap part_in (in_frame (tree_rows b) h.0 h.1 u (row parts.Operand h.2) (frame h.3 (tree_frame b)) (operand_stands h.0 h.1 u h.2 h.4)).0

pub no_values_meet : (text : List ℕ) (b : Body) (u : ℕ) → NamesNoValue text (tree_rows b) u ↔ MeansNoValue text b u
no_values_meet text b u = (λ h. (operand_found b u h.0, λ d m. h.1 d ((values_meet text b u d).1 m)), λ h. (operand_there b u h.0, λ d m. h.1 d ((values_meet text b u d).0 m)))

-- ---- blocks

abbrev IsBlockBefore : List ℕ → Body → ℕ → Type 0
IsBlockBefore text b i = (j : ℕ) × MeansBlockAgain text b i j

block_again_meant : (text : List ℕ) (b : Body) (i : ℕ) → IsBlockAgain text (tree_rows b) i → IsBlockBefore text b i
block_again_meant text b i h =
    let rows = tree_rows b in
    let j = h.1.0 in
    let given = h.1.2 in
    let x = label_home b i h.0 in
    let y = label_home b j given.0 in
    let at : y.at ≡ x.at = sym y.region ∙ given.1 ∙ x.region in
    let body : y.body ≡ x.body = one_body y.within x.within at in
    let earlier : HasBlock y.body y.at j y.part.span = block_of y.body y.at j y.part y.stands (ap part_in (sym y.is) ∙ given.0) in (
      j,
      record {
        body = x.body;
        body_at = x.at;
        later = x.part.span;
        earlier = y.part.span;
        in_tree = x.within;
        is_later = block_of x.body x.at i x.part x.stands (ap part_in (sym x.is) ∙ h.0);
        is_earlier = subst (λ (c : Body). HasBlock c x.at j y.part.span) body (subst (λ (n : ℕ). HasBlock y.body n j y.part.span) at earlier);
        before = h.1.1;
        same = ap (text_in text) (sym y.is) ∙ given.2 ∙ ap (text_in text) x.is;
      },
    )

block_again_named : (text : List ℕ) (b : Body) (i : ℕ) → IsBlockBefore text b i → IsBlockAgain text (tree_rows b) i
block_again_named text b i h =
    let rows = tree_rows b in
    let j = h.0 in
    let k = h.1 in
    let at = frame k.in_tree (tree_frame b) in
    let x = in_frame rows k.body k.body_at i (row parts.Label k.later) at (block_stands k.body k.body_at i k.later k.is_later) in
    let y = in_frame rows k.body k.body_at j (row parts.Label k.earlier) at (block_stands k.body k.body_at j k.earlier k.is_earlier) in
    (ap part_in x.0, (j, k.before, (ap part_in y.0, y.1 ∙ sym x.1, ap (text_in text) y.0 ∙ k.same ∙ ap (text_in text) (sym x.0))))

pub blocks_again_meet : (text : List ℕ) (b : Body) (i : ℕ) → IsBlockAgain text (tree_rows b) i ↔ IsBlockBefore text b i
blocks_again_meet text b i = (block_again_meant text b i, block_again_named text b i)

successor_found : (b : Body) (s : ℕ) → part_of (tree_rows b) s ≡ parts.Successor → IsSuccessorIn b s
successor_found b s e = let x = successor_home b s e in (x.body, x.at, x.part.span, x.within, successor_of x.body x.at s x.part x.stands (ap part_in (sym x.is) ∙ e))

successor_there : (b : Body) (s : ℕ) → IsSuccessorIn b s → part_of (tree_rows b) s ≡ parts.Successor
successor_there b s h = ap part_in (in_frame (tree_rows b) h.0 h.1 s (row parts.Successor h.2) (frame h.3 (tree_frame b)) (successor_stands h.0 h.1 s h.2 h.4)).0

pub no_blocks_meet : (text : List ℕ) (b : Body) (s : ℕ) → NamesNoBlock text (tree_rows b) s ↔ MeansNoBlock text b s
no_blocks_meet text b s = (λ h. (successor_found b s h.0, λ l m. h.1 l ((blocks_meet text b s l).1 m)), λ h. (successor_there b s h.0, λ l m. h.1 l ((blocks_meet text b s l).0 m)))

-- ---- all of them

-- the faults of names by rows
abbrev pub IsRowFault : List ℕ → Body → Wrong → ℕ → Type 0
IsRowFault text b v i = (IsBlockWrong text (tree_rows b) v i ⊎ IsKeyWrong text (tree_rows b) v i) ⊎ IsValueWrong text (tree_rows b) v i

pick : {A B C D : Type 0} → (A ⊎ B) ⊎ C → (A → D) → (B → D) → (C → D) → D
pick {A = A} {B = B} {C = C} h f g k = ⊎_elim (λ (x : A ⊎ B). ⊎_elim f g x) k h

never : {D : Type 0} → ⊥ → D
never h = absurd h

fault_meant : (text : List ℕ) (b : Body) (v : Wrong) (i : ℕ) → IsRowFault text b v i → IsNameFault text b v i
fault_meant text b wrongs.BlockTwice i h = pick h (blocks_again_meet text b i).0 never never
fault_meant text b wrongs.UnknownBlock i h = pick h (no_blocks_meet text b i).0 never never
fault_meant text b wrongs.KeyTwice i h = pick h never (keys_meet text b i).0 never
fault_meant text b wrongs.ValueTwice i h = pick h never never (values_again_meet text b i).0
fault_meant text b wrongs.UnknownValue i h = pick h never never (no_values_meet text b i).0
fault_meant text b _ i h = pick h never never never

fault_told : (text : List ℕ) (b : Body) (v : Wrong) (i : ℕ) → IsNameFault text b v i → IsRowFault text b v i
fault_told text b wrongs.BlockTwice i h = inl (inl ((blocks_again_meet text b i).1 h))
fault_told text b wrongs.UnknownBlock i h = inl (inl ((no_blocks_meet text b i).1 h))
fault_told text b wrongs.KeyTwice i h = inl (inr ((keys_meet text b i).1 h))
fault_told text b wrongs.ValueTwice i h = inr ((values_again_meet text b i).1 h)
fault_told text b wrongs.UnknownValue i h = inr ((no_values_meet text b i).1 h)
fault_told text b _ i h = absurd h

pub faults_meet : (text : List ℕ) (b : Body) (v : Wrong) (i : ℕ) → IsRowFault text b v i ↔ IsNameFault text b v i
faults_meet text b v i = (fault_meant text b v i, fault_told text b v i)
