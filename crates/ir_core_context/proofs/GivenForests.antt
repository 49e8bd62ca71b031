-- New regions leave what an operation defines, uses and names.
use Rattle.std.proofs.Common.{◌≡◌, ℕ, ◌<◌, List, [], ◌++◌, map, Option, Some, None, refl, sym, ap, subst, ◌∙◌, inl, inr}
use Rattle.std.specs.Option.{option_map}
use Rattle.ir_model.specs.declared.ids.ArenaIndex.{ArenaIndex}
use Rattle.ir_model.specs.ContextIds.{context_ids, same_id}
use Rattle.ir_model.specs.Forest.{Dialect, Definer, of_op, of_block, Definition, Forest, Named, OpRecord, Operand, Successor, a_value, the_block}
use Rattle.ir_model.specs.Nesting.{In, IsLiveNamed, definitions_of, list_of, operands_of, successors_of, use_numbers_of}
use Rattle.ir_model.specs.Changes.{on_regions}
use Rattle.ir_model.proofs.Keeps.{rewrite_at}
use Rattle.ir_model.proofs.TwoRuns.{id_tells}
use Rattle.ir_core_context.specs.Creation.{AreFresh, with_regions}

module _ {W : Dialect} (f : Forest context_ids W) (o : ArenaIndex) (rs : List ArenaIndex) where
  -- what a record has beside regions
  part : {X : Type 0} (read : OpRecord context_ids W → List X) → ((xs : List ArenaIndex) (r : OpRecord context_ids W) → read (record r { regions = xs }) ≡ read r) → (p : ArenaIndex)
      → list_of read ((with_regions f o rs).ops p) ≡ list_of read (f.ops p)
  part {X} read same p = elim (rewrite_at same_id id_tells o (on_regions (λ xs. xs ++ rs)) f.ops p) [
    | inl e ↦ ap (list_of read) e.1 ∙ by (f.ops p)
    | inr e ↦ ap (list_of read) e.1
  ]
    where
      by : (x : Option (OpRecord context_ids W)) → list_of read (option_map (on_regions (λ xs. xs ++ rs)) x) ≡ list_of read x
      by None = refl
      by (Some r) = same (r.regions ++ rs) r

  pub given-operands : (p : ArenaIndex) → operands_of (with_regions f o rs) p ≡ operands_of f p
  given-operands p = part (λ r. r.operands) (λ xs r. refl) p

  pub given-successors : (p : ArenaIndex) → successors_of (with_regions f o rs) p ≡ successors_of f p
  given-successors p = part (λ r. r.successors) (λ xs r. refl) p

  given-definitions : (d : Definer context_ids) → definitions_of (with_regions f o rs) d ≡ definitions_of f d
  given-definitions (of_op p) = part (λ r. r.results) (λ xs r. refl) p
  given-definitions (of_block b) = refl

  pub given-live : (d : Named context_ids) → IsLiveNamed f d → IsLiveNamed (with_regions f o rs) d
  given-live (a_value v) h = subst (λ (xs : List (Definition context_ids W)). In v.number (map (λ (x : Definition context_ids W). x.number) xs)) (sym (given-definitions v.definer)) h
  given-live (the_block b) h = h

  pub given-fresh : (first : ℕ) → AreFresh f first → AreFresh (with_regions f o rs) first
  given-fresh first fresh = record {
    below = λ p n h. fresh.below p n
        (subst (λ (xs : List (Operand context_ids)). In n (map (λ (q : Operand context_ids). q.use_number) xs ++ map (λ (q : Successor context_ids). q.use_number) (successors_of f p))) (given-operands p)
        (subst (λ (xs : List (Successor context_ids)). In n (map (λ (q : Operand context_ids). q.use_number) (operands_of (with_regions f o rs) p) ++ map (λ (q : Successor context_ids). q.use_number) xs)) (given-successors p) h));
  }
