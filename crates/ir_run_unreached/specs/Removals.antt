-- Blocks that lose their uses or are erased, one after the other.
use Rattle.std.specs.Prelude.{◌≡◌, List, [], ◌∷◌}
use Rattle.ir_model.specs.Ids.{Ids, Distinct}
use Rattle.ir_model.specs.Forest.{Dialect, Forest, a_block, Named, owner}
use Rattle.ir_model.specs.Nesting.{In, Inside, IsLive, names_of}
use Rattle.ir_model.specs.Changes.{DropsUses, Removes}

module _ {N : Ids} {W : Dialect} where
  -- the uses inside the first block are dropped, then those inside the next one, and so on
  pub data DropsEach : Forest N W → List N.Block → Forest N W → Type 0 where
    none_dropped : {f : Forest N W} → DropsEach f [] f
    one_dropped : {f g h : Forest N W} {b : N.Block} {bs : List N.Block} → DropsUses f (a_block b) g → DropsEach g bs h → DropsEach f (b ∷ bs) h

  -- the first block is erased with all inside it, then the next one, and so on
  pub data ErasesEach : Forest N W → List N.Block → Forest N W → Type 0 where
    none_erased : {f : Forest N W} → ErasesEach f [] f
    one_erased : {f g h : Forest N W} {b : N.Block} {bs : List N.Block} → Removes f (a_block b) g → ErasesEach g bs h → ErasesEach f (b ∷ bs) h

  -- the blocks are there, none of them is inside another, and no operation names a definition inside one
  pub record CanEraseEach (f : Forest N W) (blocks : List N.Block) : Type 0 where
    pub live : (b : N.Block) → In b blocks → IsLive f (a_block b)
    pub once : Distinct blocks
    pub apart : (b c : N.Block) → In b blocks → In c blocks → Inside f (a_block b) (a_block c) → c ≡ b
    pub unnamed : (b : N.Block) (user : N.Op) (d : Named N) → In b blocks → In d (names_of f user) → Inside f (a_block b) (owner N d) → ⊥
