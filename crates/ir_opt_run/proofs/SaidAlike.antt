-- What one text says of two forests is alike.
use Rattle.std.proofs.Common.{◌≡◌, ℕ, Bool, false, List, length, Option, Result, Ok, subst, inl, inr}
use Rattle.ir_model.specs.declared.ids.ArenaIndex.{ArenaIndex}
use Rattle.ir_model.specs.ContextIds.{context_ids}
use Rattle.ir_model.specs.Forest.{Dialect, Forest}
use Rattle.ir_text_tokens.specs.declared.token.Token.{Token}
use Rattle.ir_text_tokens.specs.Coverings.{Covers}
use Rattle.ir_text_tokens.specs.Readings.{read_of}
use Rattle.ir_text_tree.specs.declared.row.Row.{Row}
use Rattle.ir_text_tree.specs.declared.sort.Piece.{Piece}
use Rattle.ir_text_tree.specs.Trees.{Body, IsWholeText, Spells, tree_rows}
use Rattle.ir_text_reader.specs.Pieces.{pieces}
use Rattle.ir_text_names.specs.Firsts.{HasNone}
use Rattle.ir_text_names.specs.Resolved.{IsWrong}
use Rattle.ir_text_names.specs.declared.fault.Wrong.TheVariants as wrongs
use Rattle.ir_text_described.specs.Words.{Words}
use Rattle.ir_text_described.specs.Described.{IsDescribedBy}
use Rattle.ir_text_described.specs.Alike.{AreAlike}
use Rattle.ir_text_described.specs.DescribedLaws.{told_tree, NamesAreMeant, NamesAreGivenOnce, MeantAlike}
use Rattle.ir_opt_run.specs.Modules.{Says}

-- tokens that are all of a text are what is read of it
abbrev pub CoveringIsRead : Type 0
CoveringIsRead = (ts : List Token) (text : List ℕ) → Covers 0 false text ts → read_of text ≡ Ok ts

-- tokens spell no two trees with different rows
abbrev pub OneTreeIsSpelled : Type 0
OneTreeIsSpelled = (xs : List Piece) (b c : Body) → IsWholeText b → IsWholeText c → Spells xs b → Spells xs c → tree_rows b ≡ tree_rows c

ok_same : {E : Type 0} {A : Type 0} (r : Result A E) (x y : A) → r ≡ Ok x → r ≡ Ok y → x ≡ y
ok_same r x y e e' = cc

given_once : (text : List ℕ) (rows : List Row) → HasNone (IsWrong text rows) (length rows) → NamesAreGivenOnce text rows
given_once text rows none = record {
  values = λ k lt again. none k lt wrongs.ValueTwice (inr (inr (inl (inl again))));
  blocks = λ k lt again. none k lt wrongs.BlockTwice (inl (inl again));
}

module _ {W V : Dialect} (covering : CoveringIsRead) (one_tree : OneTreeIsSpelled) (alike : MeantAlike W V) where
  module _ (f : Forest context_ids W) (g : Forest context_ids V) (words : Words W) (words' : Words V) (located : Bool) (text : List ℕ) (operations operations' : List ArenaIndex) where
    rows_alike : (rows rows' : List Row) (blocks values blocks' values' : ℕ → Option ℕ) → rows' ≡ rows → NamesAreGivenOnce text rows
        → NamesAreMeant (told_tree text rows blocks values) → NamesAreMeant (told_tree text rows' blocks' values')
        → IsDescribedBy f words located (told_tree text rows blocks values) operations → IsDescribedBy g words' located (told_tree text rows' blocks' values') operations'
        → AreAlike f g operations operations' words words' located
    rows_alike rows rows' blocks values blocks' values' same once meant meant' d d' =
        alike f g words words' located text rows blocks values blocks' values' operations operations' once meant
        (subst (λ rs. NamesAreMeant (told_tree text rs blocks' values')) same meant') d
        (subst (λ rs. IsDescribedBy g words' located (told_tree text rs blocks' values') operations') same d')

    pub said_alike : Says f words located text operations → Says g words' located text operations' → AreAlike f g operations operations' words words' located
    said_alike s s' =
        let spelled = s.is_right.0.1 in
        let spelled' = s'.is_right.0.1 in
        let tokens : spelled'.0 ≡ spelled.0 = ok_same (read_of text) spelled'.0 spelled.0 (covering spelled'.0 text spelled'.1) (covering spelled.0 text spelled.1) in
        let same : tree_rows s'.tree ≡ tree_rows s.tree = one_tree (pieces text spelled.0) s'.tree s.tree s'.is_right.0.0 s.is_right.0.0 (subst (λ ts. Spells (pieces text ts) s'.tree) tokens spelled'.2) spelled.2 in
        rows_alike (tree_rows s.tree) (tree_rows s'.tree) s.block_named s.value_named s'.block_named s'.value_named same
        (given_once text (tree_rows s.tree) s.is_right.1)
        (record { values = s.values; blocks = s.blocks })
        (record { values = s'.values; blocks = s'.blocks })
        s.described s'.described
