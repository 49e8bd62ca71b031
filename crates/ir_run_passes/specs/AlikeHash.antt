-- The hash by which alike operations are looked up.
use Rattle.std.specs.Prelude.{ℕ, List, map, fold, Option}
use Rattle.std.specs.Option.{option_map_or}
use Rattle.std.specs.Hash.{HashWrites, le_bytes}
use Rattle.std.specs.Hash.FoldHasher.{initial, write, finish}
use Rattle.std.specs.declared.hash.FoldHasher.{FoldHasher}
use Rattle.ir_model.specs.declared.ids.ArenaIndex.{ArenaIndex}
use Rattle.ir_model.specs.ContextIds.{context_ids}
use Rattle.ir_model.specs.Forest.{Text, Dialect, Forest, OpRecord}
use Rattle.ir_model_passes.specs.Meaning.{named_values, result_types}

-- a hasher that was fed one number more
abbrev pub fed_number : FoldHasher → ℕ → FoldHasher
fed_number state n = write state (le_bytes 8 n)

module _ {W : Dialect} (attributes_input : List (Text × W.Attr) → HashWrites) where
  -- a hash of the kind, the numbers of the values that are named, the types of the results, and the attributes
  abbrev pub alike_hash : OpRecord context_ids W → ℕ
  alike_hash r =
      let kind = write initial (le_bytes 4 r.kind) in
      let operands = fold fed_number kind (map (λ v. v.number) (named_values r)) in
      let types = fold fed_number operands (result_types r) in
      finish (fold write types (attributes_input r.attributes))

  -- the hash of a live operation
  abbrev pub hash_in : Forest context_ids W → ArenaIndex → ℕ
  hash_in f o = option_map_or alike_hash (f.ops o) 0
