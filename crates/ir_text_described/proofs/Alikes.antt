-- What one tree describes in two forests is alike.
use Rattle.std.proofs.Common.{◌≡◌, ℕ, ◌+◌, ◌<◌, Bool, true, false, List, length, Option, Some, None, slice_get, refl, sym, ap, ◌∙◌, subst, subst₂, inl, inr, if◌then◌else◌, arith}
use Rattle.std.proofs.lemmas.List.{length-map}
use Rattle.std.specs.Option.{option_and_then}
use Rattle.std.specs.List.{AllZip}
use Rattle.ir_model.specs.declared.ids.ArenaIndex.{ArenaIndex}
use Rattle.ir_model.specs.ContextIds.{context_ids}
use Rattle.ir_model.specs.Forest.{Dialect, Definer, of_block, Entity, an_op, a_block, a_region, definer_entity, Value, Operand, Successor, OpRecord, BlockRecord, Forest}
use Rattle.ir_model.specs.Nesting.{list_of, children, regions_of, ops_of, blocks_of, operands_of, successors_of, definitions_of, numbers_of}
use Rattle.ir_text_tree.specs.declared.row.Part.TheVariants as parts
use Rattle.ir_text_tree.specs.declared.row.Row.{Row}
use Rattle.ir_text_names.specs.Blocks.{IsBlockAgain, IsBlockNamed, NamesBlock}
use Rattle.ir_text_names.specs.Values.{IsValueAgain, IsValueNamed, NamesValue}
use Rattle.ir_text_described.specs.Words.{Words}
use Rattle.ir_text_described.specs.Trees.{NamedTree, part_at, which_at}
use Rattle.ir_text_described.specs.Written.{IsOperand, IsSuccessor, number_of}
use Rattle.ir_text_described.specs.Described.{IsDescribedBy}
use Rattle.ir_text_described.specs.Alike.{AtOnePlace, Correspond, outermost, inner, ValuesCorrespond, OperationsAlike, BlocksAlike, AreAlike, entries_of, type_texts}
use Rattle.ir_text_described.specs.DescribedLaws.{NamesAreDefined, NamesAreMeant, NamesAreGivenOnce}
use Rattle.ir_text_described.proofs.Places.{mapped_some, at_index, unmapped, zip_by_place}
use Rattle.ir_text_described.proofs.Ranks.{is_row}
use Rattle.ir_text_described.proofs.Onward.{Twice}
use Rattle.ir_text_described.proofs.Sides.{Sides, one, other}
use Rattle.ir_text_described.proofs.Heads.{HeadPair}
use Rattle.ir_text_described.proofs.Tails.{TailPair}
use Rattle.ir_text_described.proofs.Labels.{LabelPair}
use Rattle.ir_text_described.proofs.Nested.{ops_written, rows_end}
use Rattle.ir_text_described.proofs.Meets.{OpsMeet, none, more, RegionsMeet, no_more_regions, more_regions, within, BlocksMeet, no_more_blocks, more_blocks, ops_meet}
use Rattle.ir_text_described.proofs.Covered.{Covered, all_covered}

some_same : {A : Type 0} (x y : A) → Some x ≡ Some y → x ≡ y
some_same x y e = cc

-- one thing that is said twice
said_twice : {A : Type 0} (o : Option A) (x y : A) → o ≡ Some x → o ≡ Some y → x ≡ y
said_twice o x y e e' = some_same x y (sym e ∙ e')

told : {A : Type 0} (b : Bool) (x y : Option A) → (if b then x else None) ≡ (if b then y else None) → b ≡ true → x ≡ y
told true x y e is = e
told false x y e is = let differ : ⊥ = cc in absurd differ

module _ {W V : Dialect} (w : Sides W V) where
  -- ---- as many of each

  so_many_ops : {os ps : List ArenaIndex} {at next : ℕ} → OpsMeet w os ps at next → length os ≡ length ps
  so_many_ops none = refl
  so_many_ops (more head inside tail rest) = let same = so_many_ops rest in omega arith

  so_many_regions : {gs hs : List ArenaIndex} {at next : ℕ} → RegionsMeet w gs hs at next → length gs ≡ length hs
  so_many_regions no_more_regions = refl
  so_many_regions (more_regions r rest) = let same = so_many_regions rest in omega arith

  so_many_blocks : {bs cs : List ArenaIndex} {at next : ℕ} → BlocksMeet w bs cs at next → length bs ≡ length cs
  so_many_blocks no_more_blocks = refl
  so_many_blocks (more_blocks label os rest) = let same = so_many_blocks rest in omega arith

  -- ---- what corresponds is the same rows

  record OpPair (o p : ArenaIndex) : Type 0 where
    at : ℕ
    a : ℕ
    b : ℕ
    next : ℕ
    head : HeadPair w o p at a
    inside : RegionsMeet w (regions_of w.f o) (regions_of w.g p) a b
    tail : TailPair w o p b next

  record BlockPair (b c : ArenaIndex) : Type 0 where
    at : ℕ
    a : ℕ
    next : ℕ
    label : LabelPair w b c at a
    inside : OpsMeet w (ops_of w.f b) (ops_of w.g c) a next

  record RegionPair (g h : ArenaIndex) : Type 0 where
    at : ℕ
    next : ℕ
    inside : BlocksMeet w (blocks_of w.f g) (blocks_of w.g h) at next

  abbrev Paired : Entity context_ids → Entity context_ids → Type 0
  Paired (an_op o) (an_op p) = OpPair o p
  Paired (a_block b) (a_block c) = BlockPair b c
  Paired (a_region g) (a_region h) = RegionPair g h
  Paired _ _ = ⊥

  op_at : {os ps : List ArenaIndex} {at next : ℕ} (o p : ArenaIndex) → OpsMeet w os ps at next → AtOnePlace o p os ps → OpPair o p
  op_at o p none at = absurd at
  op_at o p (more head inside tail rest) (inl e) = subst₂ OpPair (sym (ap (λ z. z.0) e)) (sym (ap (λ z. z.1) e)) (record { at = _; a = _; b = _; next = _; head = head; inside = inside; tail = tail })
  op_at o p (more head inside tail rest) (inr at) = op_at o p rest at

  region_at : {gs hs : List ArenaIndex} {at next : ℕ} (g h : ArenaIndex) → RegionsMeet w gs hs at next → AtOnePlace g h gs hs → RegionPair g h
  region_at g h no_more_regions at = absurd at
  region_at g h (more_regions (within opens inside closes behind) rest) (inl e) = subst₂ RegionPair (sym (ap (λ z. z.0) e)) (sym (ap (λ z. z.1) e)) (record { at = _; next = _; inside = inside })
  region_at g h (more_regions r rest) (inr at) = region_at g h rest at

  block_at : {bs cs : List ArenaIndex} {at next : ℕ} (b c : ArenaIndex) → BlocksMeet w bs cs at next → AtOnePlace b c bs cs → BlockPair b c
  block_at b c no_more_blocks at = absurd at
  block_at b c (more_blocks label inside rest) (inl e) = subst₂ BlockPair (sym (ap (λ z. z.0) e)) (sym (ap (λ z. z.1) e)) (record { at = _; a = _; next = _; label = label; inside = inside })
  block_at b c (more_blocks label inside rest) (inr at) = block_at b c rest at

  child_paired : (x y a b : Entity context_ids) → Paired x y → AtOnePlace a b (children w.f x) (children w.g y) → Paired a b
  child_paired (an_op o) (an_op p) a b pair at =
      let u = unmapped a_region a_region (regions_of w.f o) (regions_of w.g p) a b at in
      subst₂ Paired (sym u.2) (sym u.3) (region_at u.0 u.1 pair.inside u.4)
  child_paired (a_block c) (a_block d) a b pair at =
      let u = unmapped an_op an_op (ops_of w.f c) (ops_of w.g d) a b at in
      subst₂ Paired (sym u.2) (sym u.3) (op_at u.0 u.1 pair.inside u.4)
  child_paired (a_region g) (a_region h) a b pair at =
      let u = unmapped a_block a_block (blocks_of w.f g) (blocks_of w.g h) a b at in
      subst₂ Paired (sym u.2) (sym u.3) (block_at u.0 u.1 pair.inside u.4)
  child_paired (an_op o) (a_block c) a b pair at = absurd pair
  child_paired (an_op o) (a_region g) a b pair at = absurd pair
  child_paired (a_block c) (an_op o) a b pair at = absurd pair
  child_paired (a_block c) (a_region g) a b pair at = absurd pair
  child_paired (a_region g) (an_op o) a b pair at = absurd pair
  child_paired (a_region g) (a_block c) a b pair at = absurd pair

  so_many_inside : (x y : Entity context_ids) → Paired x y → length (children w.f x) ≡ length (children w.g y)
  so_many_inside (an_op o) (an_op p) pair = length-map (regions_of w.f o) a_region ∙ so_many_regions pair.inside ∙ sym (length-map (regions_of w.g p) a_region)
  so_many_inside (a_block c) (a_block d) pair = length-map (ops_of w.f c) an_op ∙ so_many_ops pair.inside ∙ sym (length-map (ops_of w.g d) an_op)
  so_many_inside (a_region g) (a_region h) pair = length-map (blocks_of w.f g) a_block ∙ so_many_blocks pair.inside ∙ sym (length-map (blocks_of w.g h) a_block)
  so_many_inside (an_op o) (a_block c) pair = absurd pair
  so_many_inside (an_op o) (a_region g) pair = absurd pair
  so_many_inside (a_block c) (an_op o) pair = absurd pair
  so_many_inside (a_block c) (a_region g) pair = absurd pair
  so_many_inside (a_region g) (an_op o) pair = absurd pair
  so_many_inside (a_region g) (a_block c) pair = absurd pair

  -- ---- blocks

  block_locations : (b c : ArenaIndex) → BlockPair b c → (q : BlockRecord context_ids W) (r : BlockRecord context_ids V) → w.f.blocks b ≡ Some q → w.g.blocks c ≡ Some r → w.located ≡ true → (k : ℕ) → k < length q.arguments → w.words.argument_location q.loc k ≡ w.words'.argument_location r.loc k
  block_locations b c pair q r is is' located k lt =
      let few : k < length (definitions_of w.f (of_block b)) = subst (λ x. k < length (list_of (λ z. z.arguments) x)) (sym is) lt in
      let texts = told w.located (option_and_then (λ z. w.words.argument_location z.loc k) (w.f.blocks b)) (option_and_then (λ z. w.words'.argument_location z.loc k) (w.g.blocks c)) (pair.label.locations k few) located in
      sym (ap (option_and_then (λ z. w.words.argument_location z.loc k)) is) ∙ texts ∙ ap (option_and_then (λ z. w.words'.argument_location z.loc k)) is'

  blocks_alike : (operations operations' : List ArenaIndex) (b c : ArenaIndex) → BlockPair b c → BlocksAlike w.f w.g operations operations' w.words w.words' w.located b c
  blocks_alike operations operations' b c pair = record { argument_types = pair.label.argument_types; argument_locations = block_locations b c pair }

-- each row names the same, whichever way the names are told
record NameTheSame {W V : Dialect} (w : Sides W V) : Type 0 where
  values : (u : ℕ) → u < length w.tree.rows → w.tree.value_named u ≡ w.value_named' u
  blocks : (u : ℕ) → u < length w.tree.rows → w.tree.block_named u ≡ w.block_named' u

module _ {W V : Dialect} (w : Sides W V) (operations operations' : List ArenaIndex) where
  abbrev Corresponds : Entity context_ids → Entity context_ids → Type 0
  Corresponds x y = Correspond w.f w.g operations operations' x y

  abbrev Values : Value context_ids → Value context_ids → Type 0
  Values v v' = ValuesCorrespond w.f w.g operations operations' v v'

  paired : {x y : Entity context_ids} → OpsMeet w operations operations' 0 (length w.tree.rows) → Corresponds x y → Paired w x y
  paired meet (outermost {o = o} {p = p} at) = op_at w o p meet at
  paired meet (inner {x = x} {a = a} {y = y} {b = b} c at) = child_paired w x y a b (paired meet c) at

  -- ---- operands

  values_correspond : (d d' : Definer context_ids) (place : ℕ) (v v' : Value context_ids) → Corresponds (definer_entity context_ids d) (definer_entity context_ids d') → v.definer ≡ d → v'.definer ≡ d' → number_of (one w) d place ≡ Some v.number → number_of (other w) d' place ≡ Some v'.number → Values v v'
  values_correspond d d' place v v' c e e' n n' = record {
    definers = subst₂ (λ x y. Corresponds (definer_entity context_ids x) (definer_entity context_ids y)) (sym e) (sym e') c;
    places = subst₂ (λ x y. AtOnePlace v.number v'.number (numbers_of w.f x) (numbers_of w.g y)) (sym e) (sym e') (at_index (λ x. x.number) (λ x. x.number) (definitions_of w.f d) (definitions_of w.g d') place v.number v'.number n n');
  }

  -- the values that both operands name, where the row that they name stands for values of these definers, from this place on
  named_values : (o p : ArenaIndex) (k : ℕ) (u : Twice (IsOperand (one w) o) (IsOperand (other w) p) k) (d d' : Definer context_ids) (first : ℕ) → u.other.row ≡ u.one.row → u.other.index ≡ u.one.index → Corresponds (definer_entity context_ids d) (definer_entity context_ids d')
      → w.meanings.values u.one.row ≡ Some (record { definer = d; first = first }) → w.meanings'.values u.one.row ≡ Some (record { definer = d'; first = first }) → Values u.one.value u.other.value
  named_values o p k u d d' first same_row same_index c e e' =
      let is : u.one.defined ≡ record { definer = d; first = first } = said_twice (w.meanings.values u.one.row) u.one.defined (record { definer = d; first = first }) u.one.meant e in
      let is' : u.other.defined ≡ record { definer = d'; first = first } = said_twice (w.meanings'.values u.one.row) u.other.defined (record { definer = d'; first = first }) (sym (ap w.meanings'.values same_row) ∙ u.other.meant) e' in
      let number : number_of (other w) u.other.defined.definer (u.other.defined.first + u.one.index) ≡ Some u.other.value.number = subst (λ i. number_of (other w) u.other.defined.definer (u.other.defined.first + i) ≡ Some u.other.value.number) same_index u.other.number in
      values_correspond d d' (first + u.one.index) u.one.value u.other.value c
      (u.one.definer ∙ ap (λ z. z.definer) is)
      (u.other.definer ∙ ap (λ z. z.definer) is')
      (subst (λ z. number_of (one w) z.definer (z.first + u.one.index) ≡ Some u.one.value.number) is u.one.number)
      (subst (λ z. number_of (other w) z.definer (z.first + u.one.index) ≡ Some u.other.value.number) is' number)

  named_blocks : (o p : ArenaIndex) (k : ℕ) (u : Twice (IsSuccessor (one w) o) (IsSuccessor (other w) p) k) (b c : ArenaIndex) → u.other.row ≡ u.one.row → Corresponds (a_block b) (a_block c) → w.meanings.blocks u.one.row ≡ Some b → w.meanings'.blocks u.one.row ≡ Some c → Corresponds (a_block u.one.block) (a_block u.other.block)
  named_blocks o p k u b c same_row corresponds e e' =
      let is : u.one.block ≡ b = said_twice (w.meanings.blocks u.one.row) u.one.block b u.one.meant e in
      let is' : u.other.block ≡ c = said_twice (w.meanings'.blocks u.one.row) u.other.block c (sym (ap w.meanings'.blocks same_row) ∙ u.other.meant) e' in
      subst₂ (λ x y. Corresponds (a_block x) (a_block y)) (sym is) (sym is') corresponds

  module _ (names : NamesAreDefined w.tree) (same : NameTheSame w) (covered : (r : ℕ) → r < length w.tree.rows → Covered w operations operations' r) where
    operand_row : (n : ℕ) → part_at w.tree n ≡ parts.Operand → n < length w.tree.rows
    operand_row n part = is_row w.tree n (λ e. let differ : ⊥ = cc in differ)

    successor_row : (n : ℕ) → part_at w.tree n ≡ parts.Successor → n < length w.tree.rows
    successor_row n part = is_row w.tree n (λ e. let differ : ⊥ = cc in differ)

    label_row : (n : ℕ) → part_at w.tree n ≡ parts.Label → n < length w.tree.rows
    label_row n part = is_row w.tree n (λ e. let differ : ⊥ = cc in differ)

    operand_values : (o p : ArenaIndex) (k : ℕ) (u : Twice (IsOperand (one w) o) (IsOperand (other w) p) k) → Values u.one.value u.other.value
    operand_values o p k u =
        let same_row : u.other.row ≡ u.one.row = said_twice (w.tree.value_named u.at) u.other.row u.one.row (same.values u.at (operand_row u.at u.one.part) ∙ u.other.named) u.one.named in
        let same_index : u.other.index ≡ u.one.index = said_twice (which_at w.tree u.at) u.other.index u.one.index u.other.which u.one.which in
        let row = names.values u.at u.one.row (operand_row u.at u.one.part) u.one.named in
        let c = (covered u.one.row row.0).value row.1 in
        named_values o p k u c.0 c.1 c.2 same_row same_index c.3 c.4 c.5

    successor_blocks : (o p : ArenaIndex) (k : ℕ) (u : Twice (IsSuccessor (one w) o) (IsSuccessor (other w) p) k) → Corresponds (a_block u.one.block) (a_block u.other.block)
    successor_blocks o p k u =
        let same_row : u.other.row ≡ u.one.row = said_twice (w.tree.block_named u.at) u.other.row u.one.row (same.blocks u.at (successor_row u.at u.one.part) ∙ u.other.named) u.one.named in
        let label = names.blocks u.at u.one.row (successor_row u.at u.one.part) u.one.named in
        let c = (covered u.one.row (label_row u.one.row label)).block label in
        named_blocks o p k u c.0 c.1 same_row c.2 c.3 c.4

    operand_related : (o p : ArenaIndex) (k : ℕ) → Twice (IsOperand (one w) o) (IsOperand (other w) p) k → (a : Operand context_ids) × (b : Operand context_ids) × (slice_get (operands_of w.f o) k ≡ Some a) × (slice_get (operands_of w.g p) k ≡ Some b) × Values a.value b.value
    operand_related o p k u =
        let a = mapped_some (λ z. z.value) (slice_get (operands_of w.f o) k) u.one.value u.one.is_operand in
        let b = mapped_some (λ z. z.value) (slice_get (operands_of w.g p) k) u.other.value u.other.is_operand in
        (a.0, b.0, a.1, b.1, subst₂ Values (sym a.2) (sym b.2) (operand_values o p k u))

    successor_related : (o p : ArenaIndex) (k : ℕ) → Twice (IsSuccessor (one w) o) (IsSuccessor (other w) p) k → (a : Successor context_ids) × (b : Successor context_ids) × (slice_get (successors_of w.f o) k ≡ Some a) × (slice_get (successors_of w.g p) k ≡ Some b) × Corresponds (a_block a.block) (a_block b.block)
    successor_related o p k u =
        let a = mapped_some (λ z. z.block) (slice_get (successors_of w.f o) k) u.one.block u.one.is_successor in
        let b = mapped_some (λ z. z.block) (slice_get (successors_of w.g p) k) u.other.block u.other.is_successor in
        (a.0, b.0, a.1, b.1, subst₂ (λ x y. Corresponds (a_block x) (a_block y)) (sym a.2) (sym b.2) (successor_blocks o p k u))

    -- ---- operations

    live_alike : (o p : ArenaIndex) (q : OpRecord context_ids W) (r : OpRecord context_ids V) → w.f.ops o ≡ Some q → w.g.ops p ≡ Some r → w.words.operation_name q.kind ≡ w.words'.operation_name r.kind → OpPair w o p → OperationsAlike w.f w.g operations operations' w.words w.words' w.located o p
    live_alike o p q r is is' same_name pair =
        let R = λ (a : Operand context_ids) (b : Operand context_ids). Values a.value b.value in
        let S = λ (a : Successor context_ids) (b : Successor context_ids). Corresponds (a_block a.block) (a_block b.block) in
        record {
          one = q;
          other = r;
          one_is = is;
          other_is = is';
          names = same_name;
          result_types = sym (ap (λ x. type_texts w.words (list_of (λ z. z.results) x)) is) ∙ pair.tail.result_types ∙ ap (λ x. type_texts w.words' (list_of (λ z. z.results) x)) is';
          operands = subst₂ (AllZip R) (ap (list_of (λ z. z.operands)) is) (ap (list_of (λ z. z.operands)) is') (zip_by_place R (operands_of w.f o) (operands_of w.g p) pair.head.so_many_operands (λ k lt. operand_related o p k (pair.head.operands k lt)));
          successors = subst₂ (AllZip S) (ap (list_of (λ z. z.successors)) is) (ap (list_of (λ z. z.successors)) is') (zip_by_place S (successors_of w.f o) (successors_of w.g p) pair.head.so_many_successors (λ k lt. successor_related o p k (pair.head.successors k lt)));
          properties = sym (ap (option_and_then (λ z. w.words.properties z.attributes)) is) ∙ pair.head.properties ∙ ap (option_and_then (λ z. w.words'.properties z.attributes)) is';
          entries = sym (ap (λ x. entries_of w.words (list_of (λ z. z.attributes) x)) is) ∙ pair.tail.entries ∙ ap (λ x. entries_of w.words' (list_of (λ z. z.attributes) x)) is';
          locations = λ located. sym (ap (option_and_then (λ z. w.words.location z.loc)) is) ∙ told w.located (option_and_then (λ z. w.words.location z.loc) (w.f.ops o)) (option_and_then (λ z. w.words'.location z.loc) (w.g.ops p)) pair.tail.locations located ∙ ap (option_and_then (λ z. w.words'.location z.loc)) is';
        }

    ops_alike : (o p : ArenaIndex) → OpPair w o p → OperationsAlike w.f w.g operations operations' w.words w.words' w.located o p
    ops_alike o p pair =
        let q = mapped_some (λ z. w.words.operation_name z.kind) (w.f.ops o) pair.head.text pair.head.one_named in
        let r = mapped_some (λ z. w.words'.operation_name z.kind) (w.g.ops p) pair.head.text pair.head.other_named in
        live_alike o p q.0 r.0 q.1 r.1 (q.2 ∙ sym r.2) pair

  all_alike : NamesAreDefined w.tree → NameTheSame w → OpsMeet w operations operations' 0 (length w.tree.rows) → AreAlike w.f w.g operations operations' w.words w.words' w.located
  all_alike names same meet = record {
    as_many = so_many_ops w meet;
    as_many_inside = λ x y c. so_many_inside w x y (paired meet c);
    each_operation = λ o p c. ops_alike names same (all_covered w operations operations' meet) o p (paired meet c);
    each_block = λ b c corresponds. blocks_alike w operations operations' b c (paired meet corresponds);
  }

-- what the rows of a text describe in two forests is alike, where each row names the same
names_alike : {W V : Dialect} (f : Forest context_ids W) (g : Forest context_ids V) (words : Words W) (words' : Words V) (located : Bool) (text : List ℕ) (rows : List Row) (blocks values blocks' values' : ℕ → Option ℕ) (operations operations' : List ArenaIndex)
    → NamesAreDefined (record { text = text; rows = rows; block_named = blocks; value_named = values })
    → ((u : ℕ) → u < length rows → values u ≡ values' u) → ((u : ℕ) → u < length rows → blocks u ≡ blocks' u)
    → IsDescribedBy f words located (record { text = text; rows = rows; block_named = blocks; value_named = values }) operations
    → IsDescribedBy g words' located (record { text = text; rows = rows; block_named = blocks'; value_named = values' }) operations'
    → AreAlike f g operations operations' words words' located
names_alike {W = W} {V = V} f g words words' located text rows blocks values blocks' values' operations operations' names same_values same_blocks d d' =
    let tree : NamedTree = record { text = text; rows = rows; block_named = blocks; value_named = values } in
    let w : Sides W V = record { f = f; g = g; words = words; words' = words'; located = located; tree = tree; meanings = d.meanings; meanings' = d'.meanings; block_named' = blocks'; value_named' = values' } in
    let both = ops_meet w (ops_written (one w) operations d.written) (ops_written (other w) operations' d'.written) (rows_end tree) (rows_end tree) in
    all_alike w operations operations' names (record { values = same_values; blocks = same_blocks }) both.meet

-- what one tree describes in two forests is alike
pub described_alike : {W V : Dialect} (f : Forest context_ids W) (g : Forest context_ids V) (words : Words W) (words' : Words V) (located : Bool) (tree : NamedTree) (operations operations' : List ArenaIndex)
    → NamesAreDefined tree → IsDescribedBy f words located tree operations → IsDescribedBy g words' located tree operations' → AreAlike f g operations operations' words words' located
described_alike f g words words' located tree operations operations' names d d' =
    names_alike f g words words' located tree.text tree.rows tree.block_named tree.value_named tree.block_named tree.value_named operations operations' names (λ u lt. refl) (λ u lt. refl) d d'

-- what names mean is defined
pub meant_defined : (t : NamedTree) → NamesAreMeant t → NamesAreDefined t
meant_defined t meant = record {
  values = λ u d lt e. (subst (IsValueNamed t.text t.rows u) e (meant.values u lt)).1;
  blocks = λ u l lt e. (subst (IsBlockNamed t.text t.rows u) e (meant.blocks u lt)).1.0;
}

-- what is known of names
abbrev pub OneValue : Type 0
OneValue = (text : List ℕ) (rows : List Row) (u d e : ℕ) → ((k : ℕ) → k < length rows → ¬ IsValueAgain text rows k) → NamesValue text rows u d → NamesValue text rows u e → d ≡ e

abbrev pub OneBlock : Type 0
OneBlock = (text : List ℕ) (rows : List Row) (s l m : ℕ) → ((k : ℕ) → k < length rows → ¬ IsBlockAgain text rows k) → NamesBlock text rows s l → NamesBlock text rows s m → l ≡ m

-- where no name is given again, it means one thing
module _ (one_value : OneValue) (one_block : OneBlock) (text : List ℕ) (rows : List Row) (once : NamesAreGivenOnce text rows) where
  one_value_meant : (u : ℕ) (a b : Option ℕ) → IsValueNamed text rows u a → IsValueNamed text rows u b → a ≡ b
  one_value_meant u None None h h' = refl
  one_value_meant u None (Some e) h h' = absurd (h e h')
  one_value_meant u (Some d) None h h' = absurd (h' d h)
  one_value_meant u (Some d) (Some e) h h' = ap Some (one_value text rows u d e once.values h h')

  one_block_meant : (u : ℕ) (a b : Option ℕ) → IsBlockNamed text rows u a → IsBlockNamed text rows u b → a ≡ b
  one_block_meant u None None h h' = refl
  one_block_meant u None (Some e) h h' = absurd (h e h')
  one_block_meant u (Some d) None h h' = absurd (h' d h)
  one_block_meant u (Some d) (Some e) h h' = ap Some (one_block text rows u d e once.blocks h h')

-- what the rows of one text describe is alike, by whatever tables their names are told
pub meant_alike : {W V : Dialect} (f : Forest context_ids W) (g : Forest context_ids V) (words : Words W) (words' : Words V) (located : Bool) (text : List ℕ) (rows : List Row) (blocks values blocks' values' : ℕ → Option ℕ) (operations operations' : List ArenaIndex)
    → OneValue → OneBlock → NamesAreGivenOnce text rows
    → NamesAreMeant (record { text = text; rows = rows; block_named = blocks; value_named = values }) → NamesAreMeant (record { text = text; rows = rows; block_named = blocks'; value_named = values' })
    → IsDescribedBy f words located (record { text = text; rows = rows; block_named = blocks; value_named = values }) operations
    → IsDescribedBy g words' located (record { text = text; rows = rows; block_named = blocks'; value_named = values' }) operations'
    → AreAlike f g operations operations' words words' located
meant_alike f g words words' located text rows blocks values blocks' values' operations operations' one_value one_block once meant meant' d d' =
    names_alike f g words words' located text rows blocks values blocks' values' operations operations' (meant_defined (record { text = text; rows = rows; block_named = blocks; value_named = values }) meant)
    (λ u lt. one_value_meant one_value one_block text rows once u (values u) (values' u) (meant.values u lt) (meant'.values u lt))
    (λ u lt. one_block_meant one_value one_block text rows once u (blocks u) (blocks' u) (meant.blocks u lt) (meant'.blocks u lt)) d d'
