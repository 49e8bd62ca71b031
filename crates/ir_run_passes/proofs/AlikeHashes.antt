-- Alike operations have one hash.
use mathlib.Core.Path.{◌≡◌, refl, sym, ap, ◌∙◌}
use Rattle.std.proofs.Common.{ℕ, Some, List, map, fold}
use Rattle.std.specs.Prelude.{IsTrue}
use Rattle.std.specs.Option.{option_map_or}
use Rattle.std.specs.Hash.{HashWrites, le_bytes}
use Rattle.std.specs.Hash.FoldHasher.{initial, write, finish}
use Rattle.ir_model.specs.declared.ids.ArenaIndex.{ArenaIndex}
use Rattle.ir_model.specs.ContextIds.{context_ids}
use Rattle.ir_model.specs.Forest.{Text, Dialect, Behaviour, Forest, OpRecord, Value}
use Rattle.ir_model_passes.specs.Meaning.{SameAttributes, named_values, result_types}
use Rattle.ir_model_passes.specs.Merging.{Alike}
use Rattle.ir_run_passes.specs.AlikeHash.{fed_number, alike_hash, hash_in}

-- the hash of these parts
abbrev hash_of_parts : ℕ → List (Value context_ids) → List ℕ → HashWrites → ℕ
hash_of_parts kind values types writes = finish (fold write (fold fed_number (fold fed_number (write initial (le_bytes 4 kind)) (map (λ v. v.number) values)) types) writes)

module _ {W : Dialect} (input : List (Text × W.Attr) → HashWrites) where
  pub hash_is : (f : Forest context_ids W) (o : ArenaIndex) (r : OpRecord context_ids W) → f.ops o ≡ Some r → hash_in input f o ≡ alike_hash input r
  hash_is f o r e = ap (λ m. option_map_or (alike_hash input) m 0) e

  pub one_hash : (B : Behaviour W) (same : SameAttributes W) → ((d e : List (Text × W.Attr)) → IsTrue (same d e) → input d ≡ input e) → (f : Forest context_ids W) (o p : ArenaIndex) → Alike B same f o p → hash_in input f o ≡ hash_in input f p
  one_hash B same respects f o p alike =
      let r = alike.one in
      let q = alike.other in
      hash_is f o r alike.one_is
      ∙ ap (λ k. hash_of_parts k (named_values r) (result_types r) (input r.attributes)) alike.kinds
      ∙ ap (λ vs. hash_of_parts q.kind vs (result_types r) (input r.attributes)) alike.operands
      ∙ ap (λ ts. hash_of_parts q.kind (named_values q) ts (input r.attributes)) alike.types
      ∙ ap (hash_of_parts q.kind (named_values q) (result_types q)) (respects r.attributes q.attributes alike.attributes)
      ∙ sym (hash_is f p q alike.other_is)

  -- where the record of an operation stays, so does its hash
  pub hash_stays : (f g : Forest context_ids W) (o : ArenaIndex) → g.ops o ≡ f.ops o → hash_in input g o ≡ hash_in input f o
  hash_stays f g o e = ap (λ m. option_map_or (alike_hash input) m 0) e
