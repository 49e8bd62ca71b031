-- Results and arguments by their places, as the record of an operation or a block has them.
use Rattle.std.proofs.Common.{◌≡◌, ap, ◌∙◌, ℕ, length, map, Option, Some}
use Rattle.std.specs.Prelude.{slice_get}
use Rattle.std.specs.Option.{option_map}
use Rattle.std.proofs.lemmas.Option.{slice_get-map}
use Rattle.ir_model.specs.declared.ids.ArenaIndex.{ArenaIndex}
use Rattle.ir_model.specs.ContextIds.{context_ids}
use Rattle.ir_model.specs.Forest.{BlockRecord, Definition, Dialect, Forest, OpRecord, of_block, of_op}
use Rattle.ir_model.specs.Nesting.{definitions_of, list_of, numbers_of}

module _ {W : Dialect} (f : Forest context_ids W) (i : ArenaIndex) where
  abbrev number_in : Definition context_ids W → ℕ
  number_in x = x.number

  module _ (r : OpRecord context_ids W) (is : f.ops i ≡ Some r) where
    -- there are as many results as the record has
    pub result_count : length (definitions_of f (of_op i)) ≡ length r.results
    result_count = ap (λ q. length (list_of (λ (x : OpRecord context_ids W). x.results) q)) is

    -- the number of the result at a place is the one that the record has there
    pub result_number : (at n : ℕ) → option_map number_in (slice_get r.results at) ≡ Some n → slice_get (numbers_of f (of_op i)) at ≡ Some n
    result_number at n there = ap (λ q. slice_get (map number_in (list_of (λ (x : OpRecord context_ids W). x.results) q)) at) is ∙ slice_get-map number_in r.results at ∙ there

  module _ (r : BlockRecord context_ids W) (is : f.blocks i ≡ Some r) where
    -- and so for arguments
    pub argument_count : length (definitions_of f (of_block i)) ≡ length r.arguments
    argument_count = ap (λ q. length (list_of (λ (x : BlockRecord context_ids W). x.arguments) q)) is

    pub argument_number : (at n : ℕ) → option_map number_in (slice_get r.arguments at) ≡ Some n → slice_get (numbers_of f (of_block i)) at ≡ Some n
    argument_number at n there = ap (λ q. slice_get (map number_in (list_of (λ (x : BlockRecord context_ids W). x.arguments) q)) at) is ∙ slice_get-map number_in r.arguments at ∙ there
