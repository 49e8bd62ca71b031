-- What writes of one chain do to the forest: one operation names other things, and all else is as it was.
use Rattle.std.proofs.Common.{◌≡◌, ℕ, ◌+◌, ◌-◌, ◌==◌, List, [], ◌∷◌, ◌++◌, length, map, Option, Some, None, Bool, true, false, cond, refl, sym, ap, ◌∙◌, inl, inr}
use Rattle.std.specs.List.{insert, remove}
use Rattle.std.specs.Option.{option_map}
use Rattle.std.proofs.lemmas.Bool.{cases_eq, eq-eqb, ne_eqb}
use Rattle.std.proofs.lemmas.List.{length-map, map-append}
use Rattle.ir_model.specs.declared.ids.ArenaIndex.{ArenaIndex}
use Rattle.ir_model.specs.ContextIds.{context_ids, same_id}
use Rattle.ir_model.specs.Forest.{Operand, Successor, OpRecord, BlockRecord}
use Rattle.ir_model.specs.Changes.{rewrite, on_op, on_operands, on_successors}
use Rattle.ir_model.proofs.IdCases.{id_cases, id_same, id_differs}
use Rattle.ir_base_arenas.specs.Arena.{Arena, get}
use Rattle.ir_core_records.specs.declared.record.Definer.{Definer}
use Rattle.ir_core_records.specs.declared.record.Definer.TheVariants.{Op, Block}
use Rattle.ir_core_records.specs.declared.record.ValueIndex.{ValueIndex}
use Rattle.ir_core_records.specs.declared.record.BlockIndex.{BlockIndex}
use Rattle.ir_core_records.specs.declared.record.UseIndex.{UseIndex}
use Rattle.ir_core_records.specs.declared.record.UsePlace.{UsePlace}
use Rattle.ir_core_records.specs.declared.record.Definition.{Definition}
use Rattle.ir_core_records.specs.declared.record.Operation.{Operation}
use Rattle.ir_core_records.specs.declared.record.BasicBlock.{BasicBlock}
use Rattle.ir_core_records.specs.declared.record.Region.{Region}
use Rattle.ir_core_records.specs.declared.records.Records.{Records}
use Rattle.ir_core_records.specs.Lists.{in_record, put_uses}
use Rattle.ir_core_chains.specs.Chain.{Rewrites}
use Rattle.ir_core_records.specs.Mapped.{map-insert, map-remove}
use Rattle.ir_core_records.specs.Chains.{number_and_name, names_in, names_from}
use Rattle.ir_core_records.specs.Table.{with_operands, with_successors, with_block_uses, with_uses_by, with_uses}
use Rattle.ir_core_records.specs.Tree.{Tree, tree_of, ops_in, blocks_in}
use Rattle.ir_core_records.specs.Frames.{KeepsTree}
use Rattle.ir_core_records.specs.Meant.{map-map}
use Rattle.ir_core_records.specs.Meaning.{closed, value_of, operands_from, successors_from, definition_of, op_record, block_record, op_records, block_records, region_records, forest_in}
use Rattle.ir_core_chains.specs.Edits.{edited-kept}
use Rattle.ir_core_chains.specs.TableLaws.{chain-values, chain-blocks}
use Rattle.ir_core_chains.specs.ChainEdits.{rewrites-keep}
use Rattle.ir_core_chains.specs.Frames.{keeps-by_values, keeps-by_successors}

-- the operand, or the successor, that a number and a name mean
abbrev pub operand_named : ℕ × ValueIndex → Operand context_ids
operand_named n = record { use_number = n.0; value = value_of n.1 }

abbrev pub successor_named : ℕ × BlockIndex → Successor context_ids
successor_named n = record { use_number = n.0; block = n.1.index }

pub operands-named : (n : ℕ) (vs : List ValueIndex) → map operand_named (names_from n vs) ≡ operands_from n vs
operands-named n [] = refl
operands-named n (v ∷ vs) = ap (λ (os : List (Operand context_ids)). record { use_number = n; value = value_of v } ∷ os) (operands-named (n + 1) vs)

pub successors-named : (n : ℕ) (bs : List BlockIndex) → map successor_named (names_from n bs) ≡ successors_from n bs
successors-named n [] = refl
successors-named n (b ∷ bs) = ap (λ (os : List (Successor context_ids)). record { use_number = n; block = b.index } ∷ os) (successors-named (n + 1) bs)

-- lists of places mean what their names mean
module _ {N P : Type 0} (of_name : ℕ × N → P) where
  abbrev meant_places : List (UsePlace N) → List P
  meant_places xs = map (λ (a : UsePlace N). of_name (number_and_name a)) xs

  by_names : (xs : List (UsePlace N)) → map of_name (names_in xs) ≡ meant_places xs
  by_names [] = refl
  by_names (x ∷ xs) = ap (λ ys. of_name (number_and_name x) ∷ ys) (by_names xs)

  meant-names : (xs : List (UsePlace N)) (ys : List (ℕ × N)) → names_in xs ≡ ys → meant_places xs ≡ map of_name ys
  meant-names xs ys e = sym (by_names xs) ∙ ap (map of_name) e

  meant-same : (xs ys : List (UsePlace N)) → names_in ys ≡ names_in xs → meant_places ys ≡ meant_places xs
  meant-same xs ys e = meant-names ys (names_in xs) e ∙ by_names xs

  meant-pushed : (xs ys : List (UsePlace N)) (n : ℕ × N) → names_in ys ≡ names_in xs ++ n ∷ [] → meant_places ys ≡ meant_places xs ++ of_name n ∷ []
  meant-pushed xs ys n e = meant-names ys (names_in xs ++ n ∷ []) e ∙ map-append of_name (names_in xs) (n ∷ []) ∙ ap (λ ps. ps ++ of_name n ∷ []) (by_names xs)

  meant-popped : (xs ys : List (UsePlace N)) → names_in ys ≡ remove (names_in xs) (length xs - 1) → meant_places ys ≡ remove (meant_places xs) (length (meant_places xs) - 1)
  meant-popped xs ys e =
      meant-names ys (remove (names_in xs) (length xs - 1)) e
      ∙ map-remove of_name (names_in xs) (length xs - 1)
      ∙ ap (λ ps. remove ps (length xs - 1)) (by_names xs)
      ∙ ap (λ n. remove (meant_places xs) (n - 1)) (sym (length-map xs (λ (a : UsePlace N). of_name (number_and_name a))))

  meant-removed : (i : ℕ) (xs ys : List (UsePlace N)) → names_in ys ≡ remove (names_in xs) i → meant_places ys ≡ remove (meant_places xs) i
  meant-removed i xs ys e = meant-names ys (remove (names_in xs) i) e ∙ map-remove of_name (names_in xs) i ∙ ap (λ ps. remove ps i) (by_names xs)

  meant-inserted : (i : ℕ) (xs ys : List (UsePlace N)) (n : ℕ × N) → names_in ys ≡ insert (names_in xs) i n → meant_places ys ≡ insert (meant_places xs) i (of_name n)
  meant-inserted i xs ys n e = meant-names ys (insert (names_in xs) i n) e ∙ map-insert of_name (names_in xs) i n ∙ ap (λ ps. insert ps i (of_name n)) (by_names xs)

  meant-replaced : (i : ℕ) (xs ys : List (UsePlace N)) (n : ℕ × N) → names_in ys ≡ insert (remove (names_in xs) i) i n → meant_places ys ≡ insert (remove (meant_places xs) i) i (of_name n)
  meant-replaced i xs ys n e =
      meant-names ys (insert (remove (names_in xs) i) i n) e
      ∙ map-insert of_name (remove (names_in xs) i) i n
      ∙ ap (λ ps. insert ps i (of_name n)) (map-remove of_name (names_in xs) i ∙ ap (λ ps. remove ps i) (by_names xs))

module _ {A K B S X L : Type 0} where
  put_uses-meaning : (rs : List Definition) (n : ℕ) (us : List UseIndex) → map (definition_of {A = A} {K = K} {B = B} {S = S} {X = X} {L = L}) (put_uses rs n us) ≡ map definition_of rs
  put_uses-meaning [] n us = refl
  put_uses-meaning (x ∷ rs) n us =
      elim (cases_eq x.number n) [
        | inl q ↦ let hit : x.number == n ≡ true = eq-eqb x.number n q in rw hit refl
        | inr q ↦ let miss : x.number == n ≡ false = ne_eqb x.number n q in rw miss (ap (λ ms. definition_of x ∷ ms) (put_uses-meaning rs n us))
      ]

module _ {D A K B S X L : Type 0} where
  -- what each block means, were these its operations
  abbrev pub blocks_with : (ArenaIndex → List ArenaIndex) → Records D A K B S X L → ArenaIndex → Option (BlockRecord context_ids (closed A K B S X L))
  blocks_with ops t b = option_map (block_record (ops b)) (get t.blocks b)

  -- one kind of places: `put` writes what they mean into an operation's meaning, `on` rewrites it there, and writes of the kind leave the rest
  pub record IsKind {N P : Type 0} (of_name : ℕ × N → P) (places : Operation D A K B S X L → List (UsePlace N)) (put : List P → OpRecord context_ids (closed A K B S X L) → OpRecord context_ids (closed A K B S X L))
      (on : (List P → List P) → OpRecord context_ids (closed A K B S X L) → OpRecord context_ids (closed A K B S X L)) (Writes : Records D A K B S X L → Records D A K B S X L → Type 0) : Type 0 where
    pub splits : (op : Operation D A K B S X L) → op_record op ≡ put (meant_places of_name (places op)) (put [] (op_record op))
    pub changes : (g : List P → List P) (op : Operation D A K B S X L) → put (g (meant_places of_name (places op))) (put [] (op_record op)) ≡ on g (op_record op)
    pub keeps : (t s : Records D A K B S X L) → Writes t s → KeepsTree t s
    pub bare : (t s : Records D A K B S X L) → Writes t s → (p : ArenaIndex) → option_map (λ (op : Operation D A K B S X L). put [] (op_record op)) (get s.ops p) ≡ option_map (λ (op : Operation D A K B S X L). put [] (op_record op)) (get t.ops p)
    pub blocks : (t s : Records D A K B S X L) → Writes t s → (lists : ArenaIndex → List ArenaIndex) → blocks_with lists s ≡ blocks_with lists t

module _ {D A K B S X L N P : Type 0} {of_name : ℕ × N → P} {places : Operation D A K B S X L → List (UsePlace N)} {put : List P → OpRecord context_ids (closed A K B S X L) → OpRecord context_ids (closed A K B S X L)}
    {on : (List P → List P) → OpRecord context_ids (closed A K B S X L) → OpRecord context_ids (closed A K B S X L)} {Writes : Records D A K B S X L → Records D A K B S X L → Type 0} (kind : IsKind of_name places put on Writes) where
  abbrev at : Records D A K B S X L → ArenaIndex → List (UsePlace N)
  at t o = in_record places [] (get t.ops o)

  abbrev bare_at : Records D A K B S X L → ArenaIndex → Option (OpRecord context_ids (closed A K B S X L))
  bare_at t o = option_map (λ (op : Operation D A K B S X L). put [] (op_record op)) (get t.ops o)

  as_bare : (x : Option (Operation D A K B S X L)) → option_map op_record x ≡ option_map (put (meant_places of_name (in_record places [] x))) (option_map (λ (op : Operation D A K B S X L). put [] (op_record op)) x)
  as_bare None = refl
  as_bare (Some op) = ap Some (kind.splits op)

  as_changed : (g : List P → List P) (x : Option (Operation D A K B S X L)) → option_map (put (g (meant_places of_name (in_record places [] x)))) (option_map (λ (op : Operation D A K B S X L). put [] (op_record op)) x) ≡ option_map (on g) (option_map op_record x)
  as_changed g None = refl
  as_changed g (Some op) = ap Some (kind.changes g op)

  now : (t s : Records D A K B S X L) → Writes t s → (p : ArenaIndex) → op_records s p ≡ option_map (put (meant_places of_name (at s p))) (bare_at t p)
  now t s w p = as_bare (get s.ops p) ∙ ap (option_map (put (meant_places of_name (at s p)))) (kind.bare t s w p)

  away : (t s : Records D A K B S X L) → Writes t s → (p : ArenaIndex) → meant_places of_name (at s p) ≡ meant_places of_name (at t p) → op_records s p ≡ op_records t p
  away t s w p same = now t s w p ∙ ap (λ (ps : List P). option_map (put ps) (bare_at t p)) same ∙ sym (as_bare (get t.ops p))

  -- where an operation's places mean g of what they meant, and all others mean what they meant
  records-changed : (g : List P → List P) (t s : Records D A K B S X L) (o : ArenaIndex) → Writes t s → meant_places of_name (at s o) ≡ g (meant_places of_name (at t o)) → ((p : ArenaIndex) → ¬ (p ≡ o) → names_in (at s p) ≡ names_in (at t p))
      → op_records s ≡ rewrite same_id o (on g) (op_records t)
  records-changed g t s o w here others = λ i p. each p i
    where
      at_o : op_records s o ≡ option_map (on g) (op_records t o)
      at_o = now t s w o ∙ ap (λ (ps : List P). option_map (put ps) (bare_at t o)) here ∙ as_changed g (get t.ops o)

      each : (p : ArenaIndex) → op_records s p ≡ cond (same_id p o) (option_map (on g) (op_records t p)) (op_records t p)
      each p =
          elim (id_cases p o) [
            | inl q ↦ ap (op_records s) q ∙ at_o ∙ ap (λ (j : ArenaIndex). option_map (on g) (op_records t j)) (sym q) ∙ ap (λ (b : Bool). cond b (option_map (on g) (op_records t p)) (op_records t p)) (sym (ap (λ (j : ArenaIndex). same_id j o) q ∙ id_same o))
            | inr q ↦ away t s w p (meant-same of_name (at t p) (at s p) (others p q)) ∙ ap (λ (b : Bool). cond b (option_map (on g) (op_records t p)) (op_records t p)) (sym (id_differs p o q))
          ]

  forest-by_ops : (t s : Records D A K B S X L) (ops : ArenaIndex → Option (OpRecord context_ids (closed A K B S X L))) → Writes t s → op_records s ≡ ops → forest_in s ≡ record (forest_in t) { ops = ops }
  forest-by_ops t s ops w e = λ i. record { ops = e i; blocks = same_blocks i; regions = same_regions i }
    where
      keeps : KeepsTree t s
      keeps = kind.keeps t s w

      same_blocks : block_records s ≡ block_records t
      same_blocks = ap (λ (tr : Tree). blocks_with (ops_in tr) s) keeps.tree ∙ kind.blocks t s w (ops_in (tree_of t))

      same_regions : region_records s ≡ region_records t
      same_regions =
          ap (λ (tr : Tree). λ (g : ArenaIndex). option_map (λ (_ : Region). blocks_in tr g) (get s.regions g)) keeps.tree
          ∙ ap (λ (rs : Arena Region). λ (g : ArenaIndex). option_map (λ (_ : Region). blocks_in (tree_of t) g) (get rs g)) keeps.regions

  forest-changed : (g : List P → List P) (t s : Records D A K B S X L) (o : ArenaIndex) → Writes t s → meant_places of_name (at s o) ≡ g (meant_places of_name (at t o)) → ((p : ArenaIndex) → ¬ (p ≡ o) → names_in (at s p) ≡ names_in (at t p)) → forest_in s ≡ on_op (forest_in t) o (on g)
  forest-changed g t s o w here others = forest-by_ops t s (rewrite same_id o (on g) (op_records t)) w (records-changed g t s o w here others)

  meant-mapped : (f : ℕ × N → ℕ × N) (g : P → P) → ((n : ℕ × N) → of_name (f n) ≡ g (of_name n)) → (xs ys : List (UsePlace N)) → names_in ys ≡ map f (names_in xs) → meant_places of_name ys ≡ map g (meant_places of_name xs)
  meant-mapped f g mean xs ys e =
      meant-names of_name ys (map f (names_in xs)) e
      ∙ map-map f of_name (names_in xs)
      ∙ (λ i. map (λ (n : ℕ × N). mean n i) (names_in xs))
      ∙ sym (map-map of_name g (names_in xs))
      ∙ ap (map g) (by_names of_name xs)

  -- where the names of each operation's places are mapped, so is what they mean
  pub forest-mapped : (f : ArenaIndex → ℕ × N → ℕ × N) (g : ArenaIndex → P → P) → ((o : ArenaIndex) (n : ℕ × N) → of_name (f o n) ≡ g o (of_name n)) → (t s : Records D A K B S X L) → Writes t s → ((o : ArenaIndex) → names_in (at s o) ≡ map (f o) (names_in (at t o)))
      → forest_in s ≡ record (forest_in t) { ops = λ o. option_map (on (map (g o))) (op_records t o) }
  forest-mapped f g mean t s w names = forest-by_ops t s (λ o. option_map (on (map (g o))) (op_records t o)) w (λ i o. each o i)
    where
      each : (o : ArenaIndex) → op_records s o ≡ option_map (on (map (g o))) (op_records t o)
      each o = now t s w o ∙ ap (λ (ps : List P). option_map (put ps) (bare_at t o)) (meant-mapped (f o) (g o) (mean o) (at t o) (at s o) (names o)) ∙ as_changed (map (g o)) (get t.ops o)

  -- one more, one less, none, and these
  pub forest-pushed : (t s : Records D A K B S X L) (o : ArenaIndex) (n : ℕ × N) → Writes t s → names_in (at s o) ≡ names_in (at t o) ++ n ∷ [] → ((p : ArenaIndex) → ¬ (p ≡ o) → names_in (at s p) ≡ names_in (at t p)) → forest_in s ≡ on_op (forest_in t) o (on (λ xs. xs ++ of_name n ∷ []))
  forest-pushed t s o n w here others = forest-changed (λ xs. xs ++ of_name n ∷ []) t s o w (meant-pushed of_name (at t o) (at s o) n here) others

  pub forest-popped : (t s : Records D A K B S X L) (o : ArenaIndex) → Writes t s → names_in (at s o) ≡ remove (names_in (at t o)) (length (at t o) - 1) → ((p : ArenaIndex) → ¬ (p ≡ o) → names_in (at s p) ≡ names_in (at t p)) → forest_in s ≡ on_op (forest_in t) o (on (λ xs. remove xs (length xs - 1)))
  forest-popped t s o w here others = forest-changed (λ xs. remove xs (length xs - 1)) t s o w (meant-popped of_name (at t o) (at s o) here) others

  pub forest-removed : (i : ℕ) (t s : Records D A K B S X L) (o : ArenaIndex) → Writes t s → names_in (at s o) ≡ remove (names_in (at t o)) i → ((p : ArenaIndex) → ¬ (p ≡ o) → names_in (at s p) ≡ names_in (at t p)) → forest_in s ≡ on_op (forest_in t) o (on (λ xs. remove xs i))
  forest-removed i t s o w here others = forest-changed (λ xs. remove xs i) t s o w (meant-removed of_name i (at t o) (at s o) here) others

  pub forest-inserted : (i : ℕ) (t s : Records D A K B S X L) (o : ArenaIndex) (n : ℕ × N) → Writes t s → names_in (at s o) ≡ insert (names_in (at t o)) i n → ((p : ArenaIndex) → ¬ (p ≡ o) → names_in (at s p) ≡ names_in (at t p)) → forest_in s ≡ on_op (forest_in t) o (on (λ xs. insert xs i (of_name n)))
  forest-inserted i t s o n w here others = forest-changed (λ xs. insert xs i (of_name n)) t s o w (meant-inserted of_name i (at t o) (at s o) n here) others

  pub forest-replaced : (i : ℕ) (t s : Records D A K B S X L) (o : ArenaIndex) (n : ℕ × N) → Writes t s → names_in (at s o) ≡ insert (remove (names_in (at t o)) i) i n → ((p : ArenaIndex) → ¬ (p ≡ o) → names_in (at s p) ≡ names_in (at t p)) → forest_in s ≡ on_op (forest_in t) o (on (λ xs. insert (remove xs i) i (of_name n)))
  forest-replaced i t s o n w here others = forest-changed (λ xs. insert (remove xs i) i (of_name n)) t s o w (meant-replaced of_name i (at t o) (at s o) n here) others

  pub forest-cleared : (t s : Records D A K B S X L) (o : ArenaIndex) → Writes t s → at s o ≡ [] → ((p : ArenaIndex) → ¬ (p ≡ o) → names_in (at s p) ≡ names_in (at t p)) → forest_in s ≡ on_op (forest_in t) o (on (λ _. []))
  forest-cleared t s o w here others = forest-changed (λ _. []) t s o w (ap (meant_places of_name) here) others

  pub forest-linked : (t s : Records D A K B S X L) (o : ArenaIndex) (names : List (ℕ × N)) (ps : List P) → map of_name names ≡ ps → Writes t s → names_in (at s o) ≡ names → ((p : ArenaIndex) → ¬ (p ≡ o) → names_in (at s p) ≡ names_in (at t p)) → forest_in s ≡ on_op (forest_in t) o (on (λ _. ps))
  forest-linked t s o names ps mean w here others = forest-changed (λ _. ps) t s o w (meant-names of_name (at s o) names here ∙ mean) others

  -- all places name what they named
  pub forest-undone : (t s : Records D A K B S X L) (o : ArenaIndex) → Writes t s → at t o ≡ [] → at s o ≡ [] → ((p : ArenaIndex) → ¬ (p ≡ o) → names_in (at s p) ≡ names_in (at t p)) → forest_in s ≡ forest_in t
  forest-undone t s o w before after others = forest-by_ops t s (op_records t) w (λ i p. away t s w p (same p) i)
    where
      same : (p : ArenaIndex) → meant_places of_name (at s p) ≡ meant_places of_name (at t p)
      same p = elim (id_cases p o) [
        | inl q ↦ ap (λ (j : ArenaIndex). meant_places of_name (at s j)) q ∙ ap (meant_places of_name) (after ∙ sym before) ∙ ap (λ (j : ArenaIndex). meant_places of_name (at t j)) (sym q)
        | inr q ↦ meant-same of_name (at t p) (at s p) (others p q)
      ]

module _ {A K B S X L : Type 0} where
  abbrev pub put_operands : List (Operand context_ids) → OpRecord context_ids (closed A K B S X L) → OpRecord context_ids (closed A K B S X L)
  put_operands os r = record r { operands = os }

  abbrev pub put_successors : List (Successor context_ids) → OpRecord context_ids (closed A K B S X L) → OpRecord context_ids (closed A K B S X L)
  put_successors os r = record r { successors = os }

module _ {D A K B S X L : Type 0} where
  -- what operations mean beside their operands, and beside their successors
  abbrev without_operands : Records D A K B S X L → ArenaIndex → Option (OpRecord context_ids (closed A K B S X L))
  without_operands t o = option_map (λ (op : Operation D A K B S X L). put_operands [] (op_record op)) (get t.ops o)

  abbrev without_successors : Records D A K B S X L → ArenaIndex → Option (OpRecord context_ids (closed A K B S X L))
  without_successors t o = option_map (λ (op : Operation D A K B S X L). put_successors [] (op_record op)) (get t.ops o)

  bare-with_uses : (t : Records D A K B S X L) (d : Definer) (n : ℕ) (us : List UseIndex) (p : ArenaIndex) → without_operands (with_uses_by t d n us) p ≡ without_operands t p
  bare-with_uses t (Op o) n us p = edited-kept (option_map (λ (op : Operation D A K B S X L). put_operands [] (op_record op))) (λ op. record op { results = put_uses op.results n us }) (λ x. λ i. Some (record (put_operands [] (op_record x)) { results = put_uses-meaning x.results n us i })) t.ops o p
  bare-with_uses t (Block b) n us p = refl

  blocks-with_uses : (lists : ArenaIndex → List ArenaIndex) (t : Records D A K B S X L) (d : Definer) (n : ℕ) (us : List UseIndex) (b : ArenaIndex) → blocks_with lists (with_uses_by t d n us) b ≡ blocks_with lists t b
  blocks-with_uses lists t (Op o) n us b = refl
  blocks-with_uses lists t (Block c) n us b = edited-kept (option_map (block_record (lists b))) (λ (x : BasicBlock D A K B S X L). record x { arguments = put_uses x.arguments n us }) (λ x. λ i. Some (record (block_record (lists b) x) { arguments = put_uses-meaning x.arguments n us i })) t.blocks c b

  pub operands-kind : IsKind {D = D} {A = A} {K = K} {B = B} {S = S} {X = X} {L = L} operand_named (λ op. op.operands) put_operands on_operands (Rewrites with_operands with_uses)
  operands-kind = record {
    splits = λ op. refl;
    changes = λ g op. refl;
    keeps = keeps-by_values;
    bare = λ t s w p. ap (λ (m : ArenaIndex → Option (OpRecord context_ids (closed A K B S X L))). m p)
        (rewrites-keep chain-values without_operands
        (λ r o xs. λ i p. edited-kept (option_map (λ (op : Operation D A K B S X L). put_operands [] (op_record op))) (λ op. record op { operands = xs }) (λ x. refl) r.ops o p i)
        (λ r v us. λ i p. bare-with_uses r v.definer v.number us p i) t s w);
    blocks = λ t s w lists. rewrites-keep chain-values (blocks_with lists) (λ r o xs. refl) (λ r v us. λ i b. blocks-with_uses lists r v.definer v.number us b i) t s w;
  }

  pub successors-kind : IsKind {D = D} {A = A} {K = K} {B = B} {S = S} {X = X} {L = L} successor_named (λ op. op.successors) put_successors on_successors (Rewrites with_successors with_block_uses)
  successors-kind = record {
    splits = λ op. refl;
    changes = λ g op. refl;
    keeps = keeps-by_successors;
    bare = λ t s w p. ap (λ (m : ArenaIndex → Option (OpRecord context_ids (closed A K B S X L))). m p)
        (rewrites-keep chain-blocks without_successors
        (λ r o xs. λ i p. edited-kept (option_map (λ (op : Operation D A K B S X L). put_successors [] (op_record op))) (λ op. record op { successors = xs }) (λ x. refl) r.ops o p i)
        (λ r b us. refl) t s w);
    blocks = λ t s w lists. rewrites-keep chain-blocks (blocks_with lists) (λ r o xs. refl)
        (λ r c us. λ i b. edited-kept (option_map (block_record (lists b))) (λ (x : BasicBlock D A K B S X L). record x { uses = us }) (λ x. refl) r.blocks c.index b i) t s w;
  }
