-- What a write of the definitions of one operation or block does: to the chains, to the tree and to the forest.
use Rattle.std.proofs.Common.{◌≡◌, ℕ, Bool, cond, List, [], map, Option, Some, None, IsSome, refl, sym, ap, ◌∙◌, inl, inr, true≢false}
use Rattle.std.specs.Option.{option_map}
use Rattle.ir_model.specs.declared.ids.ArenaIndex.{ArenaIndex}
use Rattle.ir_model.specs.ContextIds.{context_ids, same_id}
use Rattle.ir_model.specs.Forest.{Definition as PlainDefinition}
use Rattle.ir_model.specs.Changes.{on_results, on_arguments}
use Rattle.ir_model.specs.Calls.{on_definitions}
use Rattle.ir_model.proofs.IdCases.{id_cases, id_same, id_differs}
use Rattle.ir_base_arenas.specs.Arena.{Arena, get}
use Rattle.ir_core_records.specs.declared.record.Definer.{Definer}
use Rattle.ir_core_records.specs.declared.record.Definer.TheVariants.{Op, Block}
use Rattle.ir_core_records.specs.declared.record.Definition.{Definition}
use Rattle.ir_core_records.specs.declared.record.Operation.{Operation}
use Rattle.ir_core_records.specs.declared.record.BasicBlock.{BasicBlock}
use Rattle.ir_core_records.specs.declared.record.Region.{Region}
use Rattle.ir_core_records.specs.declared.records.Records.{Records}
use Rattle.ir_core_records.specs.Chains.{chains_of}
use Rattle.ir_core_records.specs.Frames.{KeepsTree}
use Rattle.ir_core_records.specs.Lists.{in_record, edited, uses_with}
use Rattle.ir_core_records.specs.Meaning.{closed, definer_of, definition_of, op_record, block_record, op_records, region_records, forest_in}
use Rattle.ir_core_records.specs.Table.{operands_at, successors_at, definitions_at, block_uses_at}
use Rattle.ir_core_records.specs.Tree.{Tree, tree_of, ops_in, blocks_in}
use Rattle.ir_core_records.specs.Edited.{get-edited, get-edited_other, edited-kept, edited-self}
use Rattle.ir_core_records.specs.KeptTrees.{keeps-by_ops, keeps-by_blocks}
use Rattle.ir_core_chains.specs.Definers.{IsDefiner, with_definitions}

-- what a record with another list has there
written-in : {T : Type 0} (read : T → List Definition) (write : List Definition → T → T) → ((rs : List Definition) (x : T) → read (write rs x) ≡ rs) → (x : Option T) (rs : List Definition) → IsSome x → in_record read [] (option_map (write rs) x) ≡ rs
written-in read write get_put None rs live = absurd (true≢false (sym live))
written-in read write get_put (Some x) rs live = get_put rs x

-- what records mean, where one of them was changed and means what a rewriting makes of it
meant-edited : {T R : Type 0} (mean : ArenaIndex → T → R) (change : T → T) (g : R → R) (t : Arena T) (o : ArenaIndex) → ((x : T) → get t o ≡ Some x → mean o (change x) ≡ g (mean o x))
    → (p : ArenaIndex) → option_map (mean p) (get (edited change t o) p) ≡ cond (same_id p o) (option_map g (option_map (mean p) (get t p))) (option_map (mean p) (get t p))
meant-edited {T} {R} mean change g t o same p =
    elim (id_cases p o) [
      | inl q ↦
          ap (λ (j : ArenaIndex). option_map (mean j) (get (edited change t o) j)) q
          ∙ ap (option_map (mean o)) (get-edited change t o)
          ∙ by_item (get t o) (λ x e. same x e)
          ∙ ap (λ (j : ArenaIndex). option_map g (option_map (mean j) (get t j))) (sym q)
          ∙ ap (λ (b : Bool). cond b (option_map g (option_map (mean p) (get t p))) (option_map (mean p) (get t p))) (sym (ap (λ (j : ArenaIndex). same_id j o) q ∙ id_same o))
      | inr q ↦
          ap (option_map (mean p)) (get-edited_other change t o p q)
          ∙ ap (λ (b : Bool). cond b (option_map g (option_map (mean p) (get t p))) (option_map (mean p) (get t p))) (sym (id_differs p o q))
    ]
  where
    by_item : (x : Option T) → ((y : T) → x ≡ Some y → mean o (change y) ≡ g (mean o y)) → option_map (mean o) (option_map change x) ≡ option_map g (option_map (mean o) x)
    by_item None h = refl
    by_item (Some y) h = ap Some (h y refl)

module _ {D A K B S X L : Type 0} (t : Records D A K B S X L) where
  -- the definer has them now, and every other has what it had
  pub definitions-here : (d : Definer) (rs : List Definition) → IsDefiner t d → definitions_at (with_definitions t d rs) d ≡ rs
  definitions-here (Op o) rs live = ap (in_record (λ (op : Operation D A K B S X L). op.results) []) (get-edited (λ op. record op { results = rs }) t.ops o) ∙ written-in (λ (op : Operation D A K B S X L). op.results) (λ xs op. record op { results = xs }) (λ xs x. refl) (get t.ops o) rs live
  definitions-here (Block b) rs live = ap (in_record (λ (x : BasicBlock D A K B S X L). x.arguments) []) (get-edited (λ x. record x { arguments = rs }) t.blocks b) ∙ written-in (λ (x : BasicBlock D A K B S X L). x.arguments) (λ xs x. record x { arguments = xs }) (λ xs x. refl) (get t.blocks b) rs live

  uses-same : (d : Definer) (rs : List Definition) → IsDefiner t d → ((n : ℕ) → uses_with rs n ≡ uses_with (definitions_at t d) n) → (e : Definer) (n : ℕ) → uses_with (definitions_at (with_definitions t d rs) e) n ≡ uses_with (definitions_at t e) n
  uses-same (Op o) rs live same (Op p) n =
      elim (id_cases p o) [
        | inl q ↦ ap (λ (j : ArenaIndex). uses_with (definitions_at (with_definitions t (Op o) rs) (Op j)) n) q ∙ ap (λ (ds : List Definition). uses_with ds n) (definitions-here (Op o) rs live) ∙ same n ∙ ap (λ (j : ArenaIndex). uses_with (definitions_at t (Op j)) n) (sym q)
        | inr q ↦ ap (λ (x : Option (Operation D A K B S X L)). uses_with (in_record (λ (op : Operation D A K B S X L). op.results) [] x) n) (get-edited_other (λ op. record op { results = rs }) t.ops o p q)
      ]
  uses-same (Op o) rs live same (Block b) n = refl
  uses-same (Block b) rs live same (Op p) n = refl
  uses-same (Block b) rs live same (Block c) n =
      elim (id_cases c b) [
        | inl q ↦ ap (λ (j : ArenaIndex). uses_with (definitions_at (with_definitions t (Block b) rs) (Block j)) n) q ∙ ap (λ (ds : List Definition). uses_with ds n) (definitions-here (Block b) rs live) ∙ same n ∙ ap (λ (j : ArenaIndex). uses_with (definitions_at t (Block j)) n) (sym q)
        | inr q ↦ ap (λ (x : Option (BasicBlock D A K B S X L)). uses_with (in_record (λ (y : BasicBlock D A K B S X L). y.arguments) [] x) n) (get-edited_other (λ x. record x { arguments = rs }) t.blocks b c q)
      ]

  -- where each number has the uses that it had, all chains are as they were
  pub chains-written : (d : Definer) (rs : List Definition) → IsDefiner t d → ((n : ℕ) → uses_with rs n ≡ uses_with (definitions_at t d) n) → chains_of (with_definitions t d rs) ≡ chains_of t
  chains-written (Op o) rs live same = λ i. record {
    operands = λ p. edited-kept (in_record (λ (op : Operation D A K B S X L). op.operands) []) (λ op. record op { results = rs }) (λ x. refl) t.ops o p i;
    successors = λ p. edited-kept (in_record (λ (op : Operation D A K B S X L). op.successors) []) (λ op. record op { results = rs }) (λ x. refl) t.ops o p i;
    uses = λ v. uses-same (Op o) rs live same v.definer v.number i;
    block_uses = block_uses_at t;
  }
  chains-written (Block b) rs live same = λ i. record {
    operands = operands_at t;
    successors = successors_at t;
    uses = λ v. uses-same (Block b) rs live same v.definer v.number i;
    block_uses = λ c. edited-kept (in_record (λ (x : BasicBlock D A K B S X L). x.uses) []) (λ x. record x { arguments = rs }) (λ x. refl) t.blocks b c.index i;
  }

  -- the tree is as it was
  pub keeps-written : (d : Definer) (rs : List Definition) → KeepsTree t (with_definitions t d rs)
  keeps-written (Op o) rs = keeps-by_ops (λ op. record op { results = rs }) (λ x. refl) (λ x. refl) (λ x. refl) t o
  keeps-written (Block b) rs = keeps-by_blocks (λ x. record x { arguments = rs }) (λ x. refl) (λ x. refl) (λ x. refl) t b

  -- what stands there, written there
  pub self-written : (d : Definer) → with_definitions t d (definitions_at t d) ≡ t
  self-written (Op o) = λ i. record t { ops = edited-self (λ op. record op { results = definitions_at t (Op o) }) t.ops o (λ x e. ap (λ (y : Option (Operation D A K B S X L)). record x { results = in_record (λ (op : Operation D A K B S X L). op.results) [] y }) e) i }
  self-written (Block b) = λ i. record t { blocks = edited-self (λ x. record x { arguments = definitions_at t (Block b) }) t.blocks b (λ x e. ap (λ (y : Option (BasicBlock D A K B S X L)). record x { arguments = in_record (λ (z : BasicBlock D A K B S X L). z.arguments) [] y }) e) i }

  regions-written : (d : Definer) (rs : List Definition) → (λ (g : ArenaIndex). option_map (λ (_ : Region). blocks_in (tree_of (with_definitions t d rs)) g) (get t.regions g)) ≡ region_records t
  regions-written d rs = ap (λ (tr : Tree). λ (g : ArenaIndex). option_map (λ (_ : Region). blocks_in tr g) (get t.regions g)) (keeps-written d rs).tree

  -- where they mean g of what those there meant, the forest has g of those there
  pub forest-written : (d : Definer) (rs : List Definition) (g : List (PlainDefinition context_ids (closed A K B S X L)) → List (PlainDefinition context_ids (closed A K B S X L)))
      → map definition_of rs ≡ g (map definition_of (definitions_at t d)) → forest_in (with_definitions t d rs) ≡ on_definitions (forest_in t) (definer_of d) g
  forest-written (Op o) rs g means = λ i. record {
    ops = λ p. meant-edited (λ _ op. op_record op) (λ op. record op { results = rs }) (on_results g) t.ops o
        (λ x e. λ j. record (op_record x) { results = (means ∙ ap (λ (y : Option (Operation D A K B S X L)). g (map definition_of (in_record (λ (op : Operation D A K B S X L). op.results) [] y))) e) j }) p i;
    blocks = ap (λ (tr : Tree). λ (b : ArenaIndex). option_map (block_record (ops_in tr b)) (get t.blocks b)) (keeps-written (Op o) rs).tree i;
    regions = regions-written (Op o) rs i;
  }
  forest-written (Block b) rs g means = λ i. record {
    ops = op_records t;
    blocks = (ap (λ (tr : Tree). λ (c : ArenaIndex). option_map (block_record (ops_in tr c)) (get (edited (λ (x : BasicBlock D A K B S X L). record x { arguments = rs }) t.blocks b) c)) (keeps-written (Block b) rs).tree
        ∙ (λ j c. meant-edited (λ q x. block_record (ops_in (tree_of t) q) x) (λ x. record x { arguments = rs }) (on_arguments g) t.blocks b
        (λ x e. λ k. record (block_record (ops_in (tree_of t) b) x) { arguments = (means ∙ ap (λ (y : Option (BasicBlock D A K B S X L)). g (map definition_of (in_record (λ (z : BasicBlock D A K B S X L). z.arguments) [] y))) e) k }) c j)) i;
    regions = regions-written (Block b) rs i;
  }
