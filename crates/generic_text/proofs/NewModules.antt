-- A new module, and the operations that are put into its block.
use Rattle.std.proofs.Common.{rules, ◌≡◌, ◌∙◌, ℕ, Option, Some, List, [], ◌∷◌, ◌++◌, length, codes, slice_get, refl, sym, ap, subst}
use Rattle.std.specs.Option.{option_map}
use Rattle.ir_model.specs.declared.ids.ArenaIndex.{ArenaIndex}
use Rattle.ir_model.specs.ContextIds.{context_ids}
use Rattle.ir_model.specs.Forest.{BlockRecord, Definition, OpRecord, Operand, Successor, Text, a_block, a_region, of_block}
use Rattle.ir_model.specs.Nesting.{IsLive, blocks_of, definitions_of, list_of, ops_of, regions_of}
use Rattle.ir_model.specs.Changes.{new_block, new_op, on_block, on_ops, on_region}
use Rattle.ir_core_context.specs.Calls.{HasArguments, HasCounts}
use Rattle.generic_dialect.specs.declared.generic.GenericLoc.{GenericLoc}
use Rattle.generic_dialect.specs.declared.generic.GenericLoc.TheVariants as locations
use Rattle.generic_dialect.specs.declared.generic.GenericSaved.{GenericSaved}
use Rattle.generic_dialect.specs.Kinds.{kind_of, listed_name}
use Rattle.ir_model.specs.Edits.{StoredType}
use Rattle.generic_text.specs.Enclosing.{Encloses, IsBareModule, IsNewModule, StandsAround, around}
use Rattle.generic_text.specs.GenericWords.{words_of}
use Rattle.generic_text.specs.Left.{GenericForest, generic}
use Rattle.generic_text.proofs.Filled.{arguments_stay, new_region_is_empty, none_counted, one_behind, one_counted, only_block, put_there}

some_is : {A : Type 0} (x y : A) → Some x ≡ Some y → x ≡ y
some_is x y is = search rules

-- an operation that was made as a module with one region is one
pub made_module : (f g : GenericForest) (o : ArenaIndex) (loc : GenericLoc) (kind : ℕ) (results : List (Definition context_ids generic)) (operands : List (Operand context_ids)) (successors : List (Successor context_ids)) (regions : List ArenaIndex)
    → g ≡ new_op f o loc kind results operands successors regions → HasCounts g o 0 0 0 1 → listed_name (kind_of kind) ≡ Some (codes "builtin.module") → loc ≡ locations.Unknown → IsNewModule g o
made_module f g o loc kind results operands successors regions is counts named unknown =
    let own : OpRecord context_ids generic = record { kind = kind; results = results; operands = operands; successors = successors; regions = regions; attributes = []; loc = loc } in
    let found : g.ops o ≡ Some own = ap (λ (h : GenericForest). h.ops o) is ∙ put_there o own f.ops in
    let one = one_counted regions (some_is _ _ (sym (ap (option_map (λ (r : OpRecord context_ids generic). length r.regions)) found) ∙ counts.region_count)) in
    record {
      own = own;
      is_operation = found;
      plain = record {
        named = named;
        operands = none_counted operands (some_is _ _ (sym (ap (option_map (λ (r : OpRecord context_ids generic). length r.operands)) found) ∙ counts.operand_count));
        results = none_counted results (some_is _ _ (sym (ap (option_map (λ (r : OpRecord context_ids generic). length r.results)) found) ∙ counts.result_count));
        successors = none_counted successors (some_is _ _ (sym (ap (option_map (λ (r : OpRecord context_ids generic). length r.successors)) found) ∙ counts.successor_count));
        attributes = refl;
        location = unknown;
      };
      region = one.0;
      regions = one.1;
      empty = ap (λ (h : GenericForest). blocks_of h one.0) is ∙ new_region_is_empty f o loc kind results operands successors regions one.0 one.1;
    }

-- a new block without arguments and operations is put into its region
pub filled_first : (f g h : GenericForest) (root block region : ArenaIndex) (loc : GenericLoc) (label : Option Text) (arguments : List (Definition context_ids generic)) → IsNewModule f root → g ≡ new_block f block loc label arguments → HasArguments g block 0
    → slice_get (regions_of g root) 0 ≡ Some region → IsLive g (a_region region) → h ≡ on_region g region (λ bs. bs ++ block ∷ []) → StandsAround h root block []
filled_first f g h root block region loc label arguments new made counted first live put =
    let own_there : g.ops root ≡ Some new.own = ap (λ (x : GenericForest). x.ops root) made ∙ new.is_operation in
    let listed : regions_of g root ≡ new.region ∷ [] = ap (list_of (λ (r : OpRecord context_ids generic). r.regions)) own_there ∙ new.regions in
    let same : new.region ≡ region = some_is _ _ (sym (ap (λ (rs : List ArenaIndex). slice_get rs 0) listed) ∙ first) in
    let empty : blocks_of g region ≡ [] = ap (λ (x : GenericForest). blocks_of x region) made ∙ subst (λ (r : ArenaIndex). blocks_of f r ≡ []) same new.empty in
    let in_it : g.blocks block ≡ Some (record { label = label; arguments = arguments; ops = []; attributes = []; loc = loc }) = ap (λ (x : GenericForest). x.blocks block) made ∙ put_there block _ f.blocks in
    record {
      own = new.own;
      is_operation = ap (λ (x : GenericForest). x.ops root) put ∙ own_there;
      plain = new.plain;
      region = region;
      regions = new.regions ∙ ap (λ (r : ArenaIndex). r ∷ []) same;
      blocks = ap (λ (x : GenericForest). blocks_of x region) put ∙ only_block g region block live empty;
      arguments = ap (λ (x : GenericForest). definitions_of x (of_block block)) put ∙ (ap (list_of (λ (r : BlockRecord context_ids generic). r.arguments)) in_it ∙ none_counted arguments (some_is _ _ (sym (ap (option_map (λ (r : BlockRecord context_ids generic). length r.arguments)) in_it) ∙ counted)));
      inside = ap (λ (x : GenericForest). ops_of x block) put ∙ ap (list_of (λ (r : BlockRecord context_ids generic). r.ops)) in_it;
    }

-- one more is put behind the others
pub filled_more : (f g : GenericForest) (root block o : ArenaIndex) (operations more : List ArenaIndex) → StandsAround f root block operations → IsLive f (a_block block) → g ≡ on_block f block (on_ops (λ os. os ++ o ∷ [])) → more ≡ operations ++ o ∷ [] → StandsAround g root block more
filled_more f g root block o operations more stands live is longer = record {
  own = stands.own;
  is_operation = ap (λ (h : GenericForest). h.ops root) is ∙ stands.is_operation;
  plain = stands.plain;
  region = stands.region;
  regions = stands.regions;
  blocks = ap (λ (h : GenericForest). blocks_of h stands.region) is ∙ stands.blocks;
  arguments = ap (λ (h : GenericForest). definitions_of h (of_block block)) is ∙ (arguments_stay f block o ∙ stands.arguments);
  inside = ap (λ (h : GenericForest). ops_of h block) is ∙ (one_behind f block o operations live stands.inside ∙ sym longer);
}

-- in the words of the dialect it is a bare module around them
pub filled_encloses : (f : GenericForest) (saved : List GenericSaved) (types : List (StoredType generic)) (root block : ArenaIndex) (operations : List ArenaIndex) → StandsAround f root block operations → Encloses f (words_of {B = Unit {0}} {X = Unit {0}} saved types) root operations
filled_encloses f saved types root block operations stands =
    let plain = stands.plain in
    let bare : IsBareModule (words_of {B = Unit {0}} {X = Unit {0}} saved types) stands.own = record {
      named = (let e = plain.named in rw e);
      operands = plain.operands;
      results = plain.results;
      successors = plain.successors;
      regions = ap length stands.regions;
      attributes = plain.attributes;
      location = (let e = plain.location in rw e);
    } in
    around stands.own stands.region block stands.is_operation bare stands.regions stands.blocks stands.arguments (sym stands.inside)
