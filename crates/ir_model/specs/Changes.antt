-- What the edits change in a forest.
use Rattle.std.specs.Prelude.{◌≡◌, ◌⊎◌, ℕ, Bool, not, if◌then◌else◌, List, [], ◌∷◌, ◌++◌, map, Option, Some, None}
use Rattle.std.specs.List.{list_any, filter}
use Rattle.std.specs.Option.{option_map}
use Rattle.ir_model.specs.Ids.{Ids}
use Rattle.ir_model.specs.Forest.{Text, Dialect, Value, Entity, an_op, a_block, a_region, Definition, OpRecord, BlockRecord, Forest, Operand, Successor, same_value, same_entity}
use Rattle.ir_model.specs.Nesting.{Inside}

-- the map with this under the key
abbrev pub put : {A B : Type 0} → (A → A → Bool) → A → B → (A → Option B) → A → Option B
put same key v m x = if same x key then Some v else m x

-- the map with the record under the key rewritten
abbrev pub rewrite : {A B : Type 0} → (A → A → Bool) → A → (B → B) → (A → Option B) → A → Option B
rewrite same key g m x = if same x key then option_map g (m x) else m x

-- the map with every record rewritten
abbrev pub rewrite_all : {A B : Type 0} → (B → B) → (A → Option B) → A → Option B
rewrite_all g m x = option_map g (m x)

module _ {A : Type 0} (same : A → A → Bool) where
  -- the list with every x taken out; the rest keep their order
  abbrev pub without : A → List A → List A
  without x xs = filter (λ y. not (same y x)) xs

  -- the list with x put right before the first place of the mark; a list without the mark stays as it is
  abbrev pub put_before : A → A → List A → List A
  put_before x mark [] = []
  put_before x mark (y ∷ ys) = if same y mark then x ∷ y ∷ ys else y ∷ put_before x mark ys

  -- the list with x put right behind the first place of the mark; a list without the mark stays as it is
  abbrev pub put_after : A → A → List A → List A
  put_after x mark [] = []
  put_after x mark (y ∷ ys) = if same y mark then y ∷ x ∷ ys else y ∷ put_after x mark ys

module _ {N : Ids} where
  -- the operand with this use number and value
  abbrev pub operand : N.UseNumber × Value N → Operand N
  operand p = record { use_number = p.0; value = p.1 }

  -- the successor with this use number and block
  abbrev pub successor : N.UseNumber × N.Block → Successor N
  successor p = record { use_number = p.0; block = p.1 }

  -- the operand, which names the new value where it named the old one, and keeps its use number
  abbrev pub redirected : Value N → Value N → Operand N → Operand N
  redirected old new p = if same_value N p.value old then record p { value = new } else p

  -- the successor, which names the new block where it named the old one, and keeps its use number
  abbrev pub retargeted : N.Block → N.Block → Successor N → Successor N
  retargeted old new p = if N.same_block p.block old then record p { block = new } else p

module _ {N : Ids} where
  -- all of the list but e
  abbrev pub but : {A : Type 0} → Entity N → (A → Entity N) → List A → List A
  but e of xs = filter (λ x. not (same_entity N (of x) e)) xs

module _ {N : Ids} {W : Dialect} where
  -- the record of the operation rewritten; all else is as it was
  abbrev pub on_op : Forest N W → N.Op → (OpRecord N W → OpRecord N W) → Forest N W
  on_op f o g = record f { ops = rewrite N.same_op o g f.ops }

  -- the record of the block rewritten; all else is as it was
  abbrev pub on_block : Forest N W → N.Block → (BlockRecord N W → BlockRecord N W) → Forest N W
  on_block f b g = record f { blocks = rewrite N.same_block b g f.blocks }

  -- the list of the region rewritten; all else is as it was
  abbrev pub on_region : Forest N W → N.Region → (List N.Block → List N.Block) → Forest N W
  on_region f r g = record f { regions = rewrite N.same_region r g f.regions }

  -- a result or argument with this number and type, and no name
  abbrev pub definition : N.ValueNumber × ℕ → Definition N W
  definition p = record { number = p.0; ty = p.1; name = None }

  -- new, unlinked, with no names and no attributes
  abbrev pub new_op : Forest N W → N.Op → W.Loc → ℕ → List (Definition N W) → List (Operand N) → List (Successor N) → List N.Region → Forest N W
  new_op f o loc kind results operands successors regions = record f {
    ops = put N.same_op o (record {
      kind = kind;
      results = results;
      operands = operands;
      successors = successors;
      regions = regions;
      attributes = [];
      loc = loc;
    }) f.ops;
    regions = λ r. if list_any (λ s. N.same_region s r) regions then Some [] else f.regions r;
  }

  -- a new block, unlinked, with a label and arguments, no operations and no attributes
  abbrev pub new_block : Forest N W → N.Block → W.Loc → Option Text → List (Definition N W) → Forest N W
  new_block f b loc label arguments = record f {
    blocks = put N.same_block b (record { label = label; arguments = arguments; ops = []; attributes = []; loc = loc }) f.blocks;
  }

  -- a new empty region, the last of the operation
  abbrev pub add_region : Forest N W → N.Op → N.Region → Forest N W
  add_region f o r = record f {
    ops = rewrite N.same_op o (λ rec. record rec { regions = rec.regions ++ r ∷ [] }) f.ops;
    regions = put N.same_region r [] f.regions;
  }

  -- the record with its results rewritten
  abbrev pub on_results : (List (Definition N W) → List (Definition N W)) → OpRecord N W → OpRecord N W
  on_results g r = record r { results = g r.results }

  -- the record with its arguments rewritten
  abbrev pub on_arguments : (List (Definition N W) → List (Definition N W)) → BlockRecord N W → BlockRecord N W
  on_arguments g r = record r { arguments = g r.arguments }

  -- the record with its operands rewritten
  abbrev pub on_operands : (List (Operand N) → List (Operand N)) → OpRecord N W → OpRecord N W
  on_operands g r = record r { operands = g r.operands }

  -- the record with its successors rewritten
  abbrev pub on_successors : (List (Successor N) → List (Successor N)) → OpRecord N W → OpRecord N W
  on_successors g r = record r { successors = g r.successors }

  -- the record with its regions rewritten
  abbrev pub on_regions : (List N.Region → List N.Region) → OpRecord N W → OpRecord N W
  on_regions g r = record r { regions = g r.regions }

  -- the record with its operations rewritten
  abbrev pub on_ops : (List N.Op → List N.Op) → BlockRecord N W → BlockRecord N W
  on_ops g r = record r { ops = g r.ops }

  -- every operand that names the first names the second, under its old use number
  abbrev pub redirect : Forest N W → Value N → Value N → Forest N W
  redirect f old new = record f { ops = rewrite_all (on_operands (map (redirected old new))) f.ops }

  -- every successor that names the first names the second, under its old use number
  abbrev pub retarget : Forest N W → N.Block → N.Block → Forest N W
  retarget f old new = record f { ops = rewrite_all (on_successors (map (retargeted old new))) f.ops }

  -- a list edit in every block, and in every region
  abbrev pub in_blocks : Forest N W → (List N.Op → List N.Op) → Forest N W
  in_blocks f g = record f { blocks = rewrite_all (on_ops g) f.blocks }

  -- a list edit in every region
  abbrev pub in_regions : Forest N W → (List N.Block → List N.Block) → Forest N W
  in_regions f g = record f { regions = rewrite_all g f.regions }

  -- these operations, which are the donor's, go behind those of the donee, and the donor has none left
  abbrev pub append_ops : Forest N W → N.Block → N.Block → List N.Op → Forest N W
  append_ops f donee donor ops = on_block (on_block f donee (on_ops (λ xs. xs ++ ops))) donor (on_ops (λ _. []))

  -- these blocks, which are the donor's, go behind those of the donee, and the donor has none left
  abbrev pub append_blocks : Forest N W → N.Region → N.Region → List N.Block → Forest N W
  append_blocks f donee donor blocks = on_region (on_region f donee (λ xs. xs ++ blocks)) donor (λ _. [])

  -- the region leaves its operation, whose other regions keep their order, and goes last in the other one
  abbrev pub move_region : Forest N W → N.Region → N.Op → Forest N W
  move_region f r o = on_op (record f { ops = rewrite_all (on_regions (without N.same_region r)) f.ops }) o (on_regions (λ rs. rs ++ r ∷ []))

  -- the record without operands and successors
  abbrev pub no_uses : OpRecord N W → OpRecord N W
  no_uses r = record r { operands = []; successors = [] }

  -- every operation inside e has no operands and no successors, and all else is as it was
  pub record DropsUses (f : Forest N W) (e : Entity N) (g : Forest N W) : Type 0 where
    pub inside : (o : N.Op) → Inside f e (an_op o) → g.ops o ≡ option_map no_uses (f.ops o)
    pub outside : (o : N.Op) → (Inside f e (an_op o) → ⊥) → g.ops o ≡ f.ops o
    -- no operation is left in a third way
    pub either : (o : N.Op) → (g.ops o ≡ f.ops o) ⊎ (g.ops o ≡ option_map no_uses (f.ops o))
    pub blocks : g.blocks ≡ f.blocks
    pub regions : g.regions ≡ f.regions

  -- e taken out of all lists
  abbrev pub unlist : Entity N → Forest N W → Forest N W
  unlist e f = record {
    ops = rewrite_all (on_regions (but e a_region)) f.ops;
    blocks = rewrite_all (on_ops (but e an_op)) f.blocks;
    regions = rewrite_all (but e a_block) f.regions;
  }

  -- all that is inside e is gone, e stands in no list, and all else is as it was
  pub record Removes (f : Forest N W) (e : Entity N) (g : Forest N W) : Type 0 where
    pub ops_inside : (o : N.Op) → Inside f e (an_op o) → g.ops o ≡ None
    pub ops_outside : (o : N.Op) → (Inside f e (an_op o) → ⊥) → g.ops o ≡ (unlist e f).ops o
    pub blocks_inside : (b : N.Block) → Inside f e (a_block b) → g.blocks b ≡ None
    pub blocks_outside : (b : N.Block) → (Inside f e (a_block b) → ⊥) → g.blocks b ≡ (unlist e f).blocks b
    pub regions_inside : (r : N.Region) → Inside f e (a_region r) → g.regions r ≡ None
    pub regions_outside : (r : N.Region) → (Inside f e (a_region r) → ⊥) → g.regions r ≡ (unlist e f).regions r
