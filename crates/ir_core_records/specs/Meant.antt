-- What the forest of all records has, read in the records.
use Rattle.std.proofs.Common.{◌≡◌, refl, ap, ◌∙◌, List, [], ◌∷◌, map, Option, Some, None}
use Rattle.std.specs.Option.{option_map}
use Rattle.ir_model.specs.declared.ids.ArenaIndex.{ArenaIndex}
use Rattle.ir_model.specs.ContextIds.{context_ids}
use Rattle.ir_model.specs.Forest.{OpRecord, BlockRecord, Definition as PlainDefinition, Value}
use Rattle.ir_model.specs.Nesting.{list_of, definitions_of, numbers_of, operands_of, successors_of}
use Rattle.ir_base_arenas.specs.Arena.{get}
use Rattle.ir_core_records.specs.declared.record.Definer.{Definer}
use Rattle.ir_core_records.specs.declared.record.Definer.TheVariants.{Op, Block}
use Rattle.ir_core_records.specs.declared.record.ValueIndex.{ValueIndex}
use Rattle.ir_core_records.specs.declared.record.Definition.{Definition}
use Rattle.ir_core_records.specs.declared.record.Operation.{Operation}
use Rattle.ir_core_records.specs.declared.record.BasicBlock.{BasicBlock}
use Rattle.ir_core_records.specs.declared.records.Records.{Records}
use Rattle.ir_core_records.specs.Lists.{in_record}
use Rattle.ir_core_records.specs.Meaning.{closed, definer_of, definition_of, operand_of, successor_of, value_of, op_record, block_record, forest_in}
use Rattle.ir_core_records.specs.Table.{definitions_at, operands_at, successors_at}
use Rattle.ir_core_records.specs.Tree.{tree_of, ops_in}

pub map-map : {A B C : Type 0} (f : A → B) (g : B → C) (xs : List A) → map g (map f xs) ≡ map (λ x. g (f x)) xs
map-map f g [] = refl
map-map f g (x ∷ xs) = ap (λ ys. g (f x) ∷ ys) (map-map f g xs)

-- a list of what a record means is the list in the record, as it is meant
list-meant : {T R X Y : Type 0} (f : T → R) (read : R → List Y) (here : T → List X) (g : X → Y) → ((x : T) → read (f x) ≡ map g (here x)) → (m : Option T) → list_of read (option_map f m) ≡ map g (in_record here [] m)
list-meant f read here g same None = refl
list-meant f read here g same (Some x) = same x

definer-same : (d e : Definer) → definer_of d ≡ definer_of e → d ≡ e
definer-same (Op o) (Op p) h = let k : o ≡ p = cc in ap Op k
definer-same (Block b) (Block c) h = let k : b ≡ c = cc in ap Block k
definer-same (Op o) (Block b) h = cc
definer-same (Block b) (Op o) h = cc

-- two indices that mean one value are one
pub value-same : (v w : ValueIndex) → value_of v ≡ value_of w → v ≡ w
value-same v w h =
    let p : v.definer ≡ w.definer = definer-same v.definer w.definer (ap (λ (x : Value context_ids). x.definer) h) in
    let q : v.number ≡ w.number = ap (λ (x : Value context_ids). x.number) h in
    λ i. record { definer = p i; number = q i }

module _ {D A K B S X L : Type 0} (t : Records D A K B S X L) where
  -- the results of an operation, or the arguments of a block
  pub definitions-meant : (d : Definer) → definitions_of (forest_in t) (definer_of d) ≡ map (definition_of {A = A} {K = K} {B = B} {S = S} {X = X} {L = L}) (definitions_at t d)
  definitions-meant (Op o) =
      list-meant op_record (λ (r : OpRecord context_ids (closed A K B S X L)). r.results) (λ (op : Operation D A K B S X L). op.results) definition_of (λ op. refl) (get t.ops o)
  definitions-meant (Block b) =
      list-meant (block_record (ops_in (tree_of t) b)) (λ (r : BlockRecord context_ids (closed A K B S X L)). r.arguments) (λ (x : BasicBlock D A K B S X L). x.arguments) definition_of (λ x. refl) (get t.blocks b)

  pub operands-meant : (o : ArenaIndex) → operands_of (forest_in t) o ≡ map operand_of (operands_at t o)
  operands-meant o =
      list-meant op_record (λ (r : OpRecord context_ids (closed A K B S X L)). r.operands) (λ (op : Operation D A K B S X L). op.operands) operand_of (λ op. refl) (get t.ops o)

  pub successors-meant : (o : ArenaIndex) → successors_of (forest_in t) o ≡ map successor_of (successors_at t o)
  successors-meant o =
      list-meant op_record (λ (r : OpRecord context_ids (closed A K B S X L)). r.successors) (λ (op : Operation D A K B S X L). op.successors) successor_of (λ op. refl) (get t.ops o)

  -- the numbers of the results or arguments
  pub numbers-meant : (d : Definer) → numbers_of (forest_in t) (definer_of d) ≡ map (λ (r : Definition). r.number) (definitions_at t d)
  numbers-meant d =
      ap (map (λ (x : PlainDefinition context_ids (closed A K B S X L)). x.number)) (definitions-meant d)
      ∙ map-map (definition_of {A = A} {K = K} {B = B} {S = S} {X = X} {L = L}) (λ (x : PlainDefinition context_ids (closed A K B S X L)). x.number) (definitions_at t d)
