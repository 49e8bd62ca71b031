-- What stands at a place of a record, in the lists that the forest tells.
use mathlib.Core.Path.{◌≡◌, ap, ◌∙◌}
use Rattle.std.proofs.Common.{ℕ, Option, Some, List, map, length, slice_get}
use Rattle.std.specs.Option.{option_map}
use Rattle.std.proofs.lemmas.Option.{slice_get-map}
use Rattle.ir_model.specs.Ids.{Ids}
use Rattle.ir_model.specs.Forest.{Dialect, of_op, of_block, Definition, OpRecord, BlockRecord, Successor, Forest}
use Rattle.ir_model.specs.Nesting.{list_of, numbers_of}
use Rattle.ir_model.specs.BlockGraph.{targets_of}
use Rattle.ir_run_unreached.proofs.Slices.{length_seen}

module _ {N : Ids} {W : Dialect} (f : Forest N W) where
  module _ (o : N.Op) (r : OpRecord N W) (found : f.ops o ≡ Some r) where
    pub target_at : (k : ℕ) (b : N.Block) → option_map (λ a. a.block) (slice_get r.successors k) ≡ Some b → slice_get (targets_of f o) k ≡ Some b
    target_at k b e = ap (λ m. slice_get (map (λ (p : Successor N). p.block) (list_of (λ (q : OpRecord N W). q.successors) m)) k) found ∙ slice_get-map (λ (p : Successor N). p.block) r.successors k ∙ e

    pub target_count : length (targets_of f o) ≡ length r.successors
    target_count = ap (λ m. length (map (λ (p : Successor N). p.block) (list_of (λ (q : OpRecord N W). q.successors) m))) found ∙ length_seen r.successors (λ (p : Successor N). p.block)

    pub result_at : (k : ℕ) (n : N.ValueNumber) → option_map (λ d. d.number) (slice_get r.results k) ≡ Some n → slice_get (numbers_of f (of_op o)) k ≡ Some n
    result_at k n e = ap (λ m. slice_get (map (λ (d : Definition N W). d.number) (list_of (λ (q : OpRecord N W). q.results) m)) k) found ∙ slice_get-map (λ (d : Definition N W). d.number) r.results k ∙ e

    pub result_count : length (numbers_of f (of_op o)) ≡ length r.results
    result_count = ap (λ m. length (map (λ (d : Definition N W). d.number) (list_of (λ (q : OpRecord N W). q.results) m))) found ∙ length_seen r.results (λ (d : Definition N W). d.number)

  module _ (b : N.Block) (r : BlockRecord N W) (found : f.blocks b ≡ Some r) where
    pub argument_at : (k : ℕ) (n : N.ValueNumber) → option_map (λ d. d.number) (slice_get r.arguments k) ≡ Some n → slice_get (numbers_of f (of_block b)) k ≡ Some n
    argument_at k n e = ap (λ m. slice_get (map (λ (d : Definition N W). d.number) (list_of (λ (q : BlockRecord N W). q.arguments) m)) k) found ∙ slice_get-map (λ (d : Definition N W). d.number) r.arguments k ∙ e

    pub argument_count : length (numbers_of f (of_block b)) ≡ length r.arguments
    argument_count = ap (λ m. length (map (λ (d : Definition N W). d.number) (list_of (λ (q : BlockRecord N W). q.arguments) m))) found ∙ length_seen r.arguments (λ (d : Definition N W). d.number)
