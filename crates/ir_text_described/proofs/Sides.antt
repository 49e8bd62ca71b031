-- Two forests beside the rows of one text, whose names may be told in two ways.
use Rattle.std.proofs.Common.{◌≡◌, ℕ, ◌+◌, ◌<◌, ◌≤◌, Bool, true, false, List, Option, Some, None, refl, sym, ap, ◌∙◌, true≢false, if◌then◌else◌, arith}
use Rattle.ir_model.specs.declared.ids.ArenaIndex.{ArenaIndex}
use Rattle.ir_model.specs.ContextIds.{context_ids}
use Rattle.ir_model.specs.Forest.{Dialect, Definer, of_block, Forest}
use Rattle.ir_text_tree.specs.declared.row.Part.{Part}
use Rattle.ir_text_tree.specs.declared.row.Part.TheVariants as parts
use Rattle.ir_text_names.specs.Indices.{is_index}
use Rattle.ir_text_names.specs.Numbers.{is_count}
use Rattle.ir_text_names.specs.Values.{defines}
use Rattle.ir_text_described.specs.Words.{Words}
use Rattle.ir_text_described.specs.Trees.{NamedTree, part_at, behind_use, behind_result, Meanings}
use Rattle.ir_text_described.specs.Written.{Setting, MayStand}
use Rattle.ir_text_described.proofs.Ranks.{rank, rank_at, gives, gives_value, GiveNothing, none_give, one_gives}

pub record Sides (W V : Dialect) : Type 0 where
  pub f : Forest context_ids W
  pub g : Forest context_ids V
  pub words : Words W
  pub words' : Words V
  pub located : Bool
  pub tree : NamedTree
  pub meanings : Meanings
  pub meanings' : Meanings
  pub block_named' : ℕ → Option ℕ
  pub value_named' : ℕ → Option ℕ

module _ {W V : Dialect} where
  abbrev pub one : Sides W V → Setting W
  one w = record { forest = w.f; words = w.words; located = w.located; tree = w.tree; meanings = w.meanings }

  abbrev pub other : Sides W V → Setting V
  other w = record { forest = w.g; words = w.words'; located = w.located; tree = record w.tree { block_named = w.block_named'; value_named = w.value_named' }; meanings = w.meanings' }

-- What the row defines, if it defines something, is defined by the one definer in the one forest and by the other in the other, at one place.
pub record Row {W V : Dialect} (w : Sides W V) (d d' : Definer context_ids) (r : ℕ) : Type 0 where
  pub value : defines (part_at w.tree r) ≡ true → (k : ℕ) × (w.meanings.values r ≡ Some (record { definer = d; first = k })) × (w.meanings'.values r ≡ Some (record { definer = d'; first = k }))
  pub block : part_at w.tree r ≡ parts.Label → (b : ArenaIndex) × (c : ArenaIndex) × (d ≡ of_block b) × (d' ≡ of_block c) × (w.meanings.blocks r ≡ Some b) × (w.meanings'.blocks r ≡ Some c)

pub plain_row : {W V : Dialect} (w : Sides W V) (d d' : Definer context_ids) (r : ℕ) → gives (part_at w.tree r) ≡ false → Row w d d' r
plain_row w d d' r gives_none = record {
  value = λ e. absurd (true≢false (sym (gives_value (part_at w.tree r) e) ∙ gives_none));
  block = λ e. absurd (true≢false (sym (ap gives e) ∙ gives_none));
}

-- ---- rows of which a number may follow

count_gives : (p : Part) → is_count p ≡ true → gives p ≡ false
count_gives parts.Count e = refl
count_gives _ e = absurd (true≢false (sym e))

index_gives : (p : Part) → is_index p ≡ true → gives p ≡ false
index_gives parts.Index e = refl
index_gives _ e = absurd (true≢false (sym e))

number_gives : (t : NamedTree) (is : Part → Bool) → ((p : Part) → is p ≡ true → gives p ≡ false) → (at r : ℕ) (b : Bool) → is (part_at t (at + 1)) ≡ b → at < r → r < (if b then at + 2 else at + 1) → gives (part_at t r) ≡ false
number_gives t is none at r true e lt to = let same : r ≡ at + 1 = omega arith in ap (λ n. gives (part_at t n)) same ∙ none (part_at t (at + 1)) e
number_gives t is none at r false e lt to = absurd (omega arith)

number_behind : (at : ℕ) (b : Bool) → at < (if b then at + 2 else at + 1)
number_behind at true = omega arith
number_behind at false = omega arith

-- behind the name of results, up to the next row that is read
pub count_row : (t : NamedTree) (at r : ℕ) → at < r → r < behind_result t at → gives (part_at t r) ≡ false
count_row t at r lt to = number_gives t is_count count_gives at r (is_count (part_at t (at + 1))) refl lt to

pub result_behind : (t : NamedTree) (at : ℕ) → at < behind_result t at
result_behind t at = number_behind at (is_count (part_at t (at + 1)))

-- behind an operand
pub index_row : (t : NamedTree) (at r : ℕ) → at < r → r < behind_use t at → gives (part_at t r) ≡ false
index_row t at r lt to = number_gives t is_index index_gives at r (is_index (part_at t (at + 1))) refl lt to

-- ---- what may stand there

module _ {W : Dialect} (s : Setting W) (part : Part) where
  pub may_rows : (text : Option (List ℕ)) (at next : ℕ) → gives part ≡ false → MayStand s part text at next → GiveNothing s.tree at next
  may_rows None at next none e = none_give s.tree at next (sym e)
  may_rows (Some text) at next none h = one_gives s.tree at next h.2 (ap gives h.0 ∙ none)

  pub may_low : (q : ℕ) (text : Option (List ℕ)) (at next : ℕ) → q ≤ rank part → q ≤ rank_at s.tree next → MayStand s part text at next → q ≤ rank_at s.tree at
  may_low q None at next le far e = let same : rank_at s.tree next ≡ rank_at s.tree at = ap (rank_at s.tree) e in omega arith
  may_low q (Some text) at next le far h = let same : rank_at s.tree at ≡ rank part = ap rank h.0 in omega arith

pub record SameText (text text' : Option (List ℕ)) (next next' : ℕ) : Type 0 where
  pub texts : text ≡ text'
  pub ends : next ≡ next'

pub may_meet : {W V : Dialect} (w : Sides W V) (part : Part) (text text' : Option (List ℕ)) (at next next' : ℕ) → (part_at w.tree next ≡ part → ⊥) → (part_at w.tree next' ≡ part → ⊥) → MayStand (one w) part text at next → MayStand (other w) part text' at next' → SameText text text' next next'
may_meet w part None None at next next' far far' e e' = record { texts = refl; ends = e ∙ sym e' }
may_meet w part None (Some text') at next next' far far' e h' = absurd (far (ap (part_at w.tree) e ∙ h'.0))
may_meet w part (Some text) None at next next' far far' h e' = absurd (far' (ap (part_at w.tree) e' ∙ h.0))
may_meet w part (Some text) (Some text') at next next' far far' h h' = record { texts = ap Some (sym h.1 ∙ h'.1); ends = h.2 ∙ sym h'.2 }

-- where both end at one row
pub may_same : {W V : Dialect} (w : Sides W V) (part : Part) (text text' : Option (List ℕ)) (at next : ℕ) → MayStand (one w) part text at next → MayStand (other w) part text' at next → text ≡ text'
may_same w part None None at next e e' = refl
may_same w part None (Some text') at next e h' = let behind = h'.2 in absurd (omega arith)
may_same w part (Some text) None at next h e' = let behind = h.2 in absurd (omega arith)
may_same w part (Some text) (Some text') at next h h' = ap Some (sym h.1 ∙ h'.1)
