-- Where no more is live than what stands inside an entity, nothing else is, and nothing outside names what is inside.
use Rattle.std.proofs.Common.{◌≡◌, ◌⊎◌, ◌+◌, ◌≤◌, true, All, List, [], ◌∷◌, ◌++◌, length, map, Option, Some, None, IsSome, refl, subst, sym, inl, inr, arith}
use Rattle.std.specs.Option.{option_map}
use Rattle.std.proofs.lemmas.List.{length-append, length-map}
use Rattle.std.proofs.lemmas.List.Elements.{All-head, All-tail}
use Rattle.ir_model.specs.ContextIds.{context_ids}
use Rattle.ir_model.specs.Forest.{Dialect, Entity, Forest, Named, OpRecord, Operand, Successor, a_value, an_op, a_block, a_region, same_entity, the_block}
use Rattle.ir_model.specs.Nesting.{In, IsClosed, IsLive, list_of}
use Rattle.ir_model.specs.Subtree.{ListsSubtree}
use Rattle.ir_model.proofs.KeepsErase.{same_self, same_tells}
use Rattle.ir_model.proofs.KeepsNew.{any_in}
use Rattle.ir_model.proofs.Nests.{Absent-not_in, In-left, In-map, In-right}
use Rattle.ir_model.proofs.Removal.{length-within}
use Rattle.ir_model.proofs.TwoRuns.{lawful}
use Rattle.ir_model_passes.specs.SweepInside.{ListsLive}
use Rattle.ir_base_arenas.specs.Arena.{arena_len, get}
use Rattle.ir_core_records.specs.declared.records.Records.{Records}
use Rattle.ir_core_records.specs.Meaning.{block_record, forest_in, op_record}
use Rattle.ir_core_records.specs.Tree.{blocks_in, ops_in, tree_of}
use Rattle.ir_model.proofs.LiveIds.{ids_count, live_ids, live_listed}
use Rattle.ir_opt_run.specs.Modules.{HasOnly}

-- what holds of all that a list is made of holds of each in it
pub all_mapped : {A B : Type 0} (P : B → Type 0) (g : A → B) (xs : List A) → All (λ a. P (g a)) xs → (x : B) → In x (map g xs) → P x
all_mapped P g [] all x h = absurd h
all_mapped P g (y ∷ ys) all x h = elim h [ inl e ↦ subst P (sym e) (All-head (λ a. P (g a)) y ys all) | inr k ↦ all_mapped P g ys (All-tail (λ a. P (g a)) y ys all) x k ]

-- an entity is in a list, or it isn't
listed_or_not : (y : Entity context_ids) (xs : List (Entity context_ids)) → In y xs ⊎ (In y xs → ⊥)
listed_or_not y xs = elim (any_in (same_entity context_ids) (λ a b. (same_tells context_ids lawful a b, λ e. subst (λ z. same_entity context_ids a z ≡ true) e (same_self context_ids lawful a))) y xs) [ inl h ↦ inl h.1 | inr h ↦ inr h.1 ]

has_only : {W : Dialect} (f : Forest context_ids W) (e : Entity context_ids) (inside all : List (Entity context_ids)) → ListsSubtree f e inside
    → ((x : Entity context_ids) → In x inside → IsLive f x) → ListsLive f all → length all ≤ length inside → HasOnly f e
has_only f e inside all is live lists few x there = elim (listed_or_not x inside) [
  | inl h ↦ (is.exact x).0 h
  | inr out ↦
      let more = length-within (x ∷ inside) all (Absent-not_in x inside out, is.once) (λ y h. elim h [ inl same ↦ subst (λ z. In z all) (sym same) (lists x there) | inr k ↦ lists y (live y k) ]) in
      absurd (omega (arith, more, few))
]

-- what is made of a record is there where the record is
unmap : {R S : Type 0} (f : R → S) (m : Option R) → IsSome (option_map f m) → IsSome m
unmap f None h = h
unmap f (Some r) h = refl

module _ {D A K B S X L : Type 0} (t : Records D A K B S X L) where
  abbrev ops : List (Entity context_ids)
  ops = map an_op (live_ids t.ops)

  abbrev blocks : List (Entity context_ids)
  blocks = map a_block (live_ids t.blocks)

  abbrev regions : List (Entity context_ids)
  regions = map a_region (live_ids t.regions)

  all_count : length (ops ++ (blocks ++ regions)) ≡ arena_len t.ops + (arena_len t.blocks + arena_len t.regions)
  all_count =
      omega (
        arith,
        length-append ops (blocks ++ regions),
        length-append blocks regions,
        length-map {B = Entity context_ids} (live_ids t.ops) an_op,
        length-map {B = Entity context_ids} (live_ids t.blocks) a_block,
        length-map {B = Entity context_ids} (live_ids t.regions) a_region,
        ids_count t.ops,
        ids_count t.blocks,
        ids_count t.regions,
      )

  all_listed : ListsLive (forest_in t) (ops ++ (blocks ++ regions))
  all_listed (an_op o) live = In-left (an_op o) ops (blocks ++ regions) (In-map an_op o (live_ids t.ops) (live_listed t.ops o (unmap op_record (get t.ops o) live)))
  all_listed (a_block b) live =
      In-right (a_block b) ops (blocks ++ regions) (In-left (a_block b) blocks regions (In-map a_block b (live_ids t.blocks) (live_listed t.blocks b (unmap (block_record (ops_in (tree_of t) b)) (get t.blocks b) live))))
  all_listed (a_region r) live =
      In-right (a_region r) ops (blocks ++ regions) (In-right (a_region r) blocks regions (In-map a_region r (live_ids t.regions) (live_listed t.regions r (unmap (λ _. blocks_in (tree_of t) r) (get t.regions r) live))))

  pub only-inside : (e : Entity context_ids) (inside : List (Entity context_ids)) → ListsSubtree (forest_in t) e inside → ((x : Entity context_ids) → In x inside → IsLive (forest_in t) x)
      → arena_len t.ops + (arena_len t.blocks + arena_len t.regions) ≤ length inside → HasOnly (forest_in t) e
  only-inside e inside is live few = has_only (forest_in t) e inside (ops ++ (blocks ++ regions)) is live all_listed (omega (arith, all_count, few))

module _ {W : Dialect} (f : Forest context_ids W) where
  -- what a record names, if there is one
  abbrev names_by : Option (OpRecord context_ids W) → List (Named context_ids)
  names_by m = map (λ (x : Operand context_ids). a_value x.value) (list_of (λ (r : OpRecord context_ids W). r.operands) m) ++ map (λ (x : Successor context_ids). the_block x.block) (list_of (λ (r : OpRecord context_ids W). r.successors) m)

  -- what names something has a record
  recorded : (d : Named context_ids) (m : Option (OpRecord context_ids W)) → In d (names_by m) → IsSome m
  recorded d None h = elim h [ ]
  recorded d (Some r) h = refl

  -- where all that is live stands inside an entity, this is closed
  pub only-closes : (e : Entity context_ids) → HasOnly f e → IsClosed f e
  only-closes e only o d named there = only (an_op o) (recorded d (f.ops o) named)
