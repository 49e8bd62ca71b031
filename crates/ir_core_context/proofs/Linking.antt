-- What giving an operation its places asks and leaves.
use Rattle.std.proofs.Common.{◌≡◌, ◌⊎◌, ℕ, ◌+◌, ◌<◌, ◌≤◌, List, [], ◌∷◌, ◌++◌, length, map, All, Option, Some, None, IsSome, slice_get, refl, sym, ap, subst, ◌∙◌, inl, inr, arith}
use Rattle.std.specs.List.{range_with_len}
use Rattle.std.specs.Option.{option_map}
use Rattle.std.proofs.lemmas.List.{append-nil}
use Rattle.ir_model.specs.declared.ids.ArenaIndex.{ArenaIndex}
use Rattle.ir_model.specs.ContextIds.{context_ids, same_id}
use Rattle.ir_model.specs.Forest.{Forest, OpRecord, Operand, Successor, a_value, the_block}
use Rattle.ir_model.specs.Nesting.{In, IsLiveNamed, list_of, operands_of, successors_of, use_numbers_of}
use Rattle.ir_model.specs.Changes.{on_op, on_operands, on_successors, rewrite}
use Rattle.ir_model.proofs.Back.{slice_get-in}
use Rattle.ir_model.proofs.Keeps.{rewrite_at}
use Rattle.ir_model.proofs.Nests.{In-append, In-left, In-map, In-map_back, In-right}
use Rattle.ir_model.proofs.TwoRuns.{id_tells}
use Rattle.ir_base_arenas.specs.Arena.{get, IsLiveIn}
use Rattle.ir_core_records.specs.declared.record.BlockIndex.{BlockIndex}
use Rattle.ir_core_records.specs.declared.record.UsePlace.{UsePlace}
use Rattle.ir_core_records.specs.declared.record.ValueIndex.{ValueIndex}
use Rattle.ir_core_records.specs.declared.records.Records.{Records}
use Rattle.ir_core_records.specs.Chains.{AreLinked, chains_of}
use Rattle.ir_core_records.specs.Frames.{KeepsTree}
use Rattle.ir_core_records.specs.Links.{IsFreshUse}
use Rattle.ir_core_records.specs.Meaning.{block_record, closed, forest_in, operand_of, operands_from, successor_of, value_of}
use Rattle.ir_core_records.specs.Nested.{AreNested}
use Rattle.ir_core_records.specs.Table.{IsLiveBlock, IsValue, operands_at, successors_at}
use Rattle.ir_core_records.specs.Tree.{tree_of, ops_in}
use Rattle.ir_core_context.specs.Creation.{AreFresh, HoldTogether}
use Rattle.ir_core_context.specs.State.{ContextState}
use Rattle.ir_core_context.proofs.MadeParts.{operand-numbers}
use Rattle.ir_core_context.proofs.Making.{rewrite-none, rewrite-twice}
use Rattle.ir_core_context.proofs.Numbers.{In-range}
use Rattle.ir_core_records.specs.Meant.{operands-meant, successors-meant}
use Rattle.ir_core_context.specs.Named.{live-value}

map-none : {U V : Type 0} (f : U → V) (xs : List U) → map f xs ≡ [] → xs ≡ []
map-none f [] e = refl
map-none f (x ∷ xs) e = absurd cc

some-map : {U V : Type 0} (f : U → V) (x : Option U) → IsSome (option_map f x) → IsSome x
some-map f None h = h
some-map f (Some y) h = refl

module _ {D A K B S X L : Type 0} where
  -- what keeps the tree keeps all together where uses are linked
  pub together-kept : (old new : Records D A K B S X L) → HoldTogether old → KeepsTree old new → AreLinked (chains_of new) → HoldTogether new
  together-kept old new together keeps linked = record { linked = linked; nested = subst AreNested (sym keeps.tree) together.nested; own = keeps.own together.own }

module _ {D A K B S X L : Type 0} (t : Records D A K B S X L) where
  abbrev f : Forest context_ids (closed A K B S X L)
  f = forest_in t

  pub no_operands : (o : ArenaIndex) → operands_of (forest_in t) o ≡ [] → operands_at t o ≡ []
  no_operands o none = map-none operand_of (operands_at t o) (sym (operands-meant t o) ∙ none)

  pub no_successors : (o : ArenaIndex) → successors_of (forest_in t) o ≡ [] → successors_at t o ≡ []
  no_successors o none = map-none successor_of (successors_at t o) (sym (successors-meant t o) ∙ none)

  pub fresh-operands : (first : ℕ) → AreFresh (forest_in t) first → (n : ℕ) → first ≤ n → IsFreshUse (operands_at t) n
  fresh-operands first fresh n high o i a at is =
      let here : In (operand_of a) (operands_of f o) = subst (In (operand_of a)) (sym (operands-meant t o)) (In-map operand_of a (operands_at t o) (slice_get-in (operands_at t o) i a at)) in
      let low : a.number < first = fresh.below o a.number (In-left a.number (map (λ (p : Operand context_ids). p.use_number) (operands_of f o)) (map (λ (p : Successor context_ids). p.use_number) (successors_of f o)) (In-map (λ (p : Operand context_ids). p.use_number) (operand_of a) (operands_of f o) here)) in
      omega (arith, low, high, is)

  pub fresh-successors : (first : ℕ) → AreFresh (forest_in t) first → (n : ℕ) → first ≤ n → IsFreshUse (successors_at t) n
  fresh-successors first fresh n high o i a at is =
      let here : In (successor_of a) (successors_of f o) = subst (In (successor_of a)) (sym (successors-meant t o)) (In-map successor_of a (successors_at t o) (slice_get-in (successors_at t o) i a at)) in
      let low : a.number < first = fresh.below o a.number (In-right a.number (map (λ (p : Operand context_ids). p.use_number) (operands_of f o)) (map (λ (p : Successor context_ids). p.use_number) (successors_of f o)) (In-map (λ (p : Successor context_ids). p.use_number) (successor_of a) (successors_of f o) here)) in
      omega (arith, low, high, is)

  pub live-values : {V : Type 0} (index : V → ValueIndex) (vs : List V) → All (λ v. IsLiveNamed (forest_in t) (a_value (value_of (index v)))) vs → All (λ v. IsValue t (index v)) vs
  live-values index vs live k d within = live-value t _ (live k d within)

  pub live-block : (b : ArenaIndex) → IsLiveNamed (forest_in t) (the_block b) → IsLiveIn t.blocks b
  live-block b h = some-map (block_record (ops_in (tree_of t) b)) (get t.blocks b) h

-- an operation was given operands that begin at a number
module _ {A K B S X L : Type 0} (f : Forest context_ids (closed A K B S X L)) (o : ArenaIndex) (first : ℕ) (vs : List ValueIndex) where
  abbrev with_operands : Forest context_ids (closed A K B S X L)
  with_operands = on_op f o (on_operands (λ _. operands_from first vs))

  abbrev Rec : Type 0
  Rec = OpRecord context_ids (closed A K B S X L)

  pub successors-stay : (p : ArenaIndex) → successors_of with_operands p ≡ successors_of f p
  successors-stay p = elim (rewrite_at same_id id_tells o (on_operands (λ _. operands_from first vs)) f.ops p) [
    | inl e ↦ ap (list_of (λ (r : Rec). r.successors)) e.1 ∙ by (f.ops p)
    | inr e ↦ ap (list_of (λ (r : Rec). r.successors)) e.1
  ]
    where
      by : (x : Option Rec) → list_of (λ (r : Rec). r.successors) (option_map (on_operands (λ _. operands_from first vs)) x) ≡ list_of (λ (r : Rec). r.successors) x
      by None = refl
      by (Some r) = refl

  operand_case : (p : ArenaIndex) (q : Operand context_ids) → In q (operands_of with_operands p) → In q (operands_from first vs) ⊎ In q (operands_of f p)
  operand_case p q h = elim (rewrite_at same_id id_tells o (on_operands (λ _. operands_from first vs)) f.ops p) [
    | inl e ↦ inl (by (f.ops p) (subst (λ (x : Option Rec). In q (list_of (λ (r : Rec). r.operands) x)) e.1 h))
    | inr e ↦ inr (subst (λ (x : Option Rec). In q (list_of (λ (r : Rec). r.operands) x)) e.1 h)
  ]
    where
      by : (x : Option Rec) → In q (list_of (λ (r : Rec). r.operands) (option_map (on_operands (λ _. operands_from first vs)) x)) → In q (operands_from first vs)
      by None k = absurd k
      by (Some r) k = k

  pub fresh-after : AreFresh f first → AreFresh with_operands (first + length vs)
  fresh-after fresh = record {
    below = λ p n h. elim (In-append n (map (λ (q : Operand context_ids). q.use_number) (operands_of with_operands p)) (map (λ (q : Successor context_ids). q.use_number) (successors_of with_operands p)) h) [
      | inl k ↦ (
          let at = In-map_back (λ (q : Operand context_ids). q.use_number) n (operands_of with_operands p) k in
          elim (operand_case p at.0 at.1) [
            | inl new ↦ (In-range first (length vs) n (subst (In n) (operand-numbers first vs) (subst (λ m. In m (map (λ (q : Operand context_ids). q.use_number) (operands_from first vs))) (sym at.2) (In-map (λ (q : Operand context_ids). q.use_number) at.0 (operands_from first vs) new)))).1
            | inr old ↦ (let low : n < first = fresh.below p n (In-left n (map (λ (q : Operand context_ids). q.use_number) (operands_of f p)) (map (λ (q : Successor context_ids). q.use_number) (successors_of f p)) (subst (λ m. In m (map (λ (q : Operand context_ids). q.use_number) (operands_of f p))) (sym at.2) (In-map (λ (q : Operand context_ids). q.use_number) at.0 (operands_of f p) old))) in omega (arith, low))
          ])
      | inr k ↦ (
          let old : In n (map (λ (q : Successor context_ids). q.use_number) (successors_of f p)) = subst (λ (xs : List (Successor context_ids)). In n (map (λ (q : Successor context_ids). q.use_number) xs)) (successors-stay p) k in
          let low : n < first = fresh.below p n (In-right n (map (λ (q : Operand context_ids). q.use_number) (operands_of f p)) (map (λ (q : Successor context_ids). q.use_number) (successors_of f p)) old) in
          omega (arith, low))
    ];
  }

  -- and loses them again
  pub emptied : operands_of f o ≡ [] → on_op with_operands o (on_operands (λ _. [])) ≡ f
  emptied none = λ i. record f { ops = ops i }
    where
      ops : (on_op with_operands o (on_operands (λ _. []))).ops ≡ f.ops
      ops = rewrite-twice o (on_operands (λ _. operands_from first vs)) (on_operands (λ _. [])) f.ops ∙ rewrite-none o _ f.ops (λ r e.
          let was : r.operands ≡ [] = sym (ap (list_of (λ (x : Rec). x.operands)) e) ∙ none in
          λ i. record r { operands = sym was i })
