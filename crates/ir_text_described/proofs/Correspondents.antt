-- What corresponds in operations of two forests.
use Rattle.std.proofs.Common.{◌≡◌, Bool, List, [], ◌∷◌, map, length, refl, sym, ap, ◌∙◌, subst, subst₂, inl, inr, arith}
use Rattle.std.specs.List.{AllZip}
use Rattle.ir_model.specs.declared.ids.ArenaIndex.{ArenaIndex}
use Rattle.ir_model.specs.ContextIds.{context_ids}
use Rattle.ir_model.specs.Ids.{Distinct}
use Rattle.ir_model.specs.Forest.{Dialect, Forest, Definer, of_op, of_block, Entity, an_op, a_block, a_region, definer_entity, Value}
use Rattle.ir_model.specs.Nesting.{In, Inside, itself, below, Nested, list_of, children, definitions_of, numbers_of, ops_of, regions_of, blocks_of}
use Rattle.ir_model.proofs.Nests.{not_in-Absent, In-map}
use Rattle.ir_model.proofs.Keeps.{Distinct-unmap}
use Rattle.std.proofs.lemmas.List.{length-map}
use Rattle.ir_text_described.specs.Words.{Words}
use Rattle.ir_text_described.specs.Alike.{AtOnePlace, type_texts, Correspond, outermost, inner, ValuesCorrespond, OperationsAlike, BlocksAlike, AreAlike}
use Rattle.ir_text_described.specs.AlikeLaws.{StandApart, HaveOneType}
use Rattle.ir_text_described.proofs.Places.{unmapped}

-- ---- places

module _ {A B : Type 0} where
  left_in : (xs : List A) (ys : List B) (a : A) (b : B) → AtOnePlace a b xs ys → In a xs
  left_in [] ys a b at = absurd at
  left_in (x ∷ xs) [] a b at = absurd at
  left_in (x ∷ xs) (y ∷ ys) a b (inl e) = inl (ap (λ p. p.0) e)
  left_in (x ∷ xs) (y ∷ ys) a b (inr at) = inr (left_in xs ys a b at)

  turned : (xs : List A) (ys : List B) (a : A) (b : B) → AtOnePlace a b xs ys → AtOnePlace b a ys xs
  turned [] ys a b at = absurd at
  turned (x ∷ xs) [] a b at = absurd at
  turned (x ∷ xs) (y ∷ ys) a b (inl e) = inl (ap (λ p. (p.1, p.0)) e)
  turned (x ∷ xs) (y ∷ ys) a b (inr at) = inr (turned xs ys a b at)

  -- where nothing stands twice, at its place stands one thing
  one_beside : (xs : List A) (ys : List B) (a : A) (b c : B) → Distinct xs → AtOnePlace a b xs ys → AtOnePlace a c xs ys → b ≡ c
  one_beside [] ys a b c d at at' = absurd at
  one_beside (x ∷ xs) [] a b c d at at' = absurd at
  one_beside (x ∷ xs) (y ∷ ys) a b c d (inl e) (inl e') = ap (λ p. p.1) e ∙ sym (ap (λ p. p.1) e')
  one_beside (x ∷ xs) (y ∷ ys) a b c d (inl e) (inr at') = absurd (not_in-Absent x xs d.0 (subst (λ z. In z xs) (ap (λ p. p.0) e) (left_in xs ys a c at')))
  one_beside (x ∷ xs) (y ∷ ys) a b c d (inr at) (inl e') = absurd (not_in-Absent x xs d.0 (subst (λ z. In z xs) (ap (λ p. p.0) e') (left_in xs ys a b at)))
  one_beside (x ∷ xs) (y ∷ ys) a b c d (inr at) (inr at') = one_beside xs ys a b c d.1 at at'

  -- beside each thing of a list stands one of another as long as it
  beside : (xs : List A) (ys : List B) (a : A) → length xs ≡ length ys → In a xs → (b : B) × AtOnePlace a b xs ys
  beside [] ys a so_many at = absurd at
  beside (x ∷ xs) [] a so_many at = absurd (omega arith)
  beside (x ∷ xs) (y ∷ ys) a so_many (inl e) = (y, inl (ap (λ z. (z, y)) e))
  beside (x ∷ xs) (y ∷ ys) a so_many (inr at) = let r = beside xs ys a (omega arith) at in (r.0, inr r.1)

  same_beside : {X : Type 0} (h : A → X) (h' : B → X) (xs : List A) (ys : List B) (a : A) (b : B) → map h xs ≡ map h' ys → AtOnePlace a b xs ys → h a ≡ h' b
  same_beside h h' [] ys a b same at = absurd at
  same_beside h h' (x ∷ xs) [] a b same at = absurd at
  same_beside h h' (x ∷ xs) (y ∷ ys) a b same (inl e) = let first : h x ≡ h' y = cc in ap (λ p. h p.0) e ∙ first ∙ sym (ap (λ p. h' p.1) e)
  same_beside h h' (x ∷ xs) (y ∷ ys) a b same (inr at) = let rest : map h xs ≡ map h' ys = cc in same_beside h h' xs ys a b rest at

  zip_turned : (R : A → B → Type 0) (S : B → A → Type 0) → ((a : A) (b : B) → R a b → S b a) → (xs : List A) (ys : List B) → AllZip R xs ys → AllZip S ys xs
  zip_turned R S turn [] [] h = tt
  zip_turned R S turn [] (y ∷ ys) h = absurd h
  zip_turned R S turn (x ∷ xs) [] h = absurd h
  zip_turned R S turn (x ∷ xs) (y ∷ ys) h = (turn x y h.0, zip_turned R S turn xs ys h.1)

-- ---- what corresponds

module _ {W V : Dialect} (f : Forest context_ids W) (g : Forest context_ids V) (operations operations' : List ArenaIndex) where
  corresponds_turned : {x y : Entity context_ids} → Correspond f g operations operations' x y → Correspond g f operations' operations y x
  corresponds_turned (outermost {o = o} {p = p} at) = outermost (turned operations operations' o p at)
  corresponds_turned (inner {x = x} {a = a} {y = y} {b = b} c at) = inner (corresponds_turned c) (turned (children f x) (children g y) a b at)

  -- what corresponds to something is inside one of the operations
  inside_one : {x y : Entity context_ids} → Correspond f g operations operations' x y → (o : ArenaIndex) × In o operations × Inside f (an_op o) x
  inside_one (outermost {o = o} {p = p} at) = (o, left_in operations operations' o p at, itself)
  inside_one (inner {x = x} {a = a} {y = y} {b = b} c at) = let r = inside_one c in (r.0, r.1, below (left_in (children f x) (children g y) a b at) r.2)

  module _ (nested : Nested f) (apart : StandApart f operations) where
    -- none of the operations stands in the list of what corresponds
    not_inner : (o : ArenaIndex) (x y : Entity context_ids) → In o operations → Correspond f g operations operations' x y → In (an_op o) (children f x) → ⊥
    not_inner o x y listed c at =
        let r = inside_one c in
        let same : r.0 ≡ o = apart.apart r.0 o r.1 listed (below at r.2) in
        nested.no_cycle (an_op o) x at (subst (λ p. Inside f (an_op p) x) same r.2)

    pub one_correspondent : {x y z : Entity context_ids} → Correspond f g operations operations' x y → Correspond f g operations operations' x z → y ≡ z
    one_correspondent (outermost {o = o} {p = p} at) (outermost {p = q} at') = ap an_op (one_beside operations operations' o p q apart.once at at')
    one_correspondent (outermost {o = o} {p = p} at) (inner {x = x} {y = y} {b = b} c at') = absurd (not_inner o x y (left_in operations operations' o p at) c (left_in (children f x) (children g y) (an_op o) b at'))
    one_correspondent (inner {x = x} {y = y} {b = b} c at) (outermost {o = o} {p = p} at') = absurd (not_inner o x y (left_in operations operations' o p at') c (left_in (children f x) (children g y) (an_op o) b at))
    one_correspondent (inner {x = x} {a = a} {y = y} {b = b} c at) (inner {x = x'} {y = y'} {b = b'} c' at') =
        let same : x' ≡ x = nested.one_list a x' x (left_in (children f x') (children g y') a b' at') (left_in (children f x) (children g y) a b at) in
        let beside' : y ≡ y' = one_correspondent c (subst (λ z. Correspond f g operations operations' z y') same c') in
        one_beside (children f x) (children g y) a b b' (nested.once x) at (subst₂ (λ u v. AtOnePlace a b' (children f u) (children g v)) same (sym beside') at')

pub other_correspondent : {W V : Dialect} (f : Forest context_ids W) (g : Forest context_ids V) (operations operations' : List ArenaIndex) → Nested g → StandApart g operations' → {x y z : Entity context_ids} → Correspond f g operations operations' x z → Correspond f g operations operations' y z → x ≡ y
other_correspondent f g operations operations' nested apart c c' = one_correspondent g f operations' operations nested apart (corresponds_turned f g operations operations' c) (corresponds_turned f g operations operations' c')

-- ---- operations that stand apart

module _ {W : Dialect} (f : Forest context_ids W) where
  pub alone_apart : (o : ArenaIndex) → StandApart f (o ∷ [])
  alone_apart o = record { once = (tt, tt); apart = λ x y at at' within. first_of_one x y at at' }
    where
      first_of_one : (x y : ArenaIndex) → In x (o ∷ []) → In y (o ∷ []) → x ≡ y
      first_of_one x y (inl e) (inl e') = e ∙ sym e'
      first_of_one x y (inl e) (inr at') = absurd at'
      first_of_one x y (inr at) b = absurd at

  module _ (b : ArenaIndex) (nested : Nested f) where
    in_block : (o : ArenaIndex) → In o (ops_of f b) → In (an_op o) (children f (a_block b))
    in_block o at = In-map an_op o (ops_of f b) at

    -- what is inside an operation of the block and stands in its list is that operation
    is_outer : (o : ArenaIndex) (x : Entity context_ids) → In o (ops_of f b) → In x (children f (a_block b)) → Inside f (an_op o) x → an_op o ≡ x
    is_outer o x listed at itself = refl
    is_outer o x listed at (below {c = c} at' within) =
        let same : c ≡ a_block b = nested.one_list x c (a_block b) at' at in
        absurd (nested.no_cycle (an_op o) (a_block b) (in_block o listed) (subst (Inside f (an_op o)) same within))

    op_same : (o p : ArenaIndex) → ◌≡◌ {A = Entity context_ids} (an_op o) (an_op p) → o ≡ p
    op_same o p e = cc

    pub block_apart : StandApart f (ops_of f b)
    block_apart = record {
      once = Distinct-unmap an_op (ops_of f b) (nested.once (a_block b));
      apart = λ o p at at' within. op_same o p (is_outer o (an_op p) at (in_block p at') within);
    }

-- ---- what is alike

module _ {W V : Dialect} (f : Forest context_ids W) (g : Forest context_ids V) (words : Words W) (words' : Words V) (located : Bool) (operations operations' : List ArenaIndex) (alike : AreAlike f g operations operations' words words' located) where
  inside_corresponds : (o : ArenaIndex) (x : Entity context_ids) → In o operations → Inside f (an_op o) x → (y : Entity context_ids) × Correspond f g operations operations' x y
  inside_corresponds o x listed itself = let r = beside operations operations' o alike.as_many listed in (an_op r.0, outermost r.1)
  inside_corresponds o x listed (below {c = c} at within) =
      let y = inside_corresponds o c listed within in
      let r = beside (children f c) (children g y.0) x (alike.as_many_inside c y.0 y.1) at in
      (r.0, inner y.1 r.1)

  pub all_correspond : (o : ArenaIndex) (x : Entity context_ids) → In o operations → Inside f (an_op o) x → (y : Entity context_ids) × Correspond f g operations operations' x y
  all_correspond o x listed within = inside_corresponds o x listed within

  back : {x y : Entity context_ids} → Correspond g f operations' operations y x → Correspond f g operations operations' x y
  back c = corresponds_turned g f operations' operations c

  forth : {x y : Entity context_ids} → Correspond f g operations operations' x y → Correspond g f operations' operations y x
  forth c = corresponds_turned f g operations operations' c

  values_turned : (v w : Value context_ids) → ValuesCorrespond f g operations operations' v w → ValuesCorrespond g f operations' operations w v
  values_turned v w c = record { definers = forth c.definers; places = turned (numbers_of f v.definer) (numbers_of g w.definer) v.number w.number c.places }

  operations_turned : (o p : ArenaIndex) → OperationsAlike f g operations operations' words words' located o p → OperationsAlike g f operations' operations words' words located p o
  operations_turned o p a = record {
    one = a.other;
    other = a.one;
    one_is = a.other_is;
    other_is = a.one_is;
    names = sym a.names;
    result_types = sym a.result_types;
    operands = zip_turned (λ x y. ValuesCorrespond f g operations operations' x.value y.value) (λ x y. ValuesCorrespond g f operations' operations x.value y.value) (λ x y c. values_turned x.value y.value c) a.one.operands a.other.operands a.operands;
    successors = zip_turned (λ x y. Correspond f g operations operations' (a_block x.block) (a_block y.block)) (λ x y. Correspond g f operations' operations (a_block x.block) (a_block y.block)) (λ x y c. forth c) a.one.successors a.other.successors a.successors;
    properties = sym a.properties;
    entries = sym a.entries;
    locations = λ told. sym (a.locations told);
  }

  so_many_arguments : (b c : ArenaIndex) → BlocksAlike f g operations operations' words words' located b c → length (definitions_of f (of_block b)) ≡ length (definitions_of g (of_block c))
  so_many_arguments b c a = sym (length-map (definitions_of f (of_block b)) (λ d. words.type_text d.ty)) ∙ ap length a.argument_types ∙ length-map (definitions_of g (of_block c)) (λ d. words'.type_text d.ty)

  blocks_turned : (b c : ArenaIndex) → BlocksAlike f g operations operations' words words' located b c → BlocksAlike g f operations' operations words' words located c b
  blocks_turned b c a = record {
    argument_types = sym a.argument_types;
    argument_locations = λ r q is' is told k lt.
        let many : length q.arguments ≡ length r.arguments = sym (ap (λ z. length (list_of (λ x. x.arguments) z)) is) ∙ so_many_arguments b c a ∙ ap (λ z. length (list_of (λ x. x.arguments) z)) is' in
        sym (a.argument_locations q r is is' told k (omega arith));
  }

  pub alike_turned : AreAlike g f operations' operations words' words located
  alike_turned = record {
    as_many = sym alike.as_many;
    as_many_inside = λ y x c. sym (alike.as_many_inside x y (back c));
    each_operation = λ p o c. operations_turned o p (alike.each_operation o p (back c));
    each_block = λ c b corresponds. blocks_turned b c (alike.each_block b c (back corresponds));
  }

  -- ---- types of values

  abbrev OneKind : Entity context_ids → Entity context_ids → Type 0
  OneKind (an_op o) (an_op p) = Unit {0}
  OneKind (a_block b) (a_block c) = Unit {0}
  OneKind (a_region r) (a_region q) = Unit {0}
  OneKind _ _ = ⊥

  children_kind : (x y a b : Entity context_ids) → OneKind x y → AtOnePlace a b (children f x) (children g y) → OneKind a b
  children_kind (an_op o) (an_op p) a b k at = let u = unmapped a_region a_region (regions_of f o) (regions_of g p) a b at in subst₂ OneKind (sym u.2) (sym u.3) tt
  children_kind (a_block c) (a_block d) a b k at = let u = unmapped an_op an_op (ops_of f c) (ops_of g d) a b at in subst₂ OneKind (sym u.2) (sym u.3) tt
  children_kind (a_region r) (a_region q) a b k at = let u = unmapped a_block a_block (blocks_of f r) (blocks_of g q) a b at in subst₂ OneKind (sym u.2) (sym u.3) tt
  children_kind (an_op o) (a_block c) a b k at = absurd k
  children_kind (an_op o) (a_region r) a b k at = absurd k
  children_kind (a_block c) (an_op o) a b k at = absurd k
  children_kind (a_block c) (a_region r) a b k at = absurd k
  children_kind (a_region r) (an_op o) a b k at = absurd k
  children_kind (a_region r) (a_block c) a b k at = absurd k

  one_kind : {x y : Entity context_ids} → Correspond f g operations operations' x y → OneKind x y
  one_kind (outermost at) = tt
  one_kind (inner {x = x} {a = a} {y = y} {b = b} c at) = children_kind x y a b (one_kind c) at

  type_texts_same : (d e : Definer context_ids) → Correspond f g operations operations' (definer_entity context_ids d) (definer_entity context_ids e) → type_texts words (definitions_of f d) ≡ type_texts words' (definitions_of g e)
  type_texts_same (of_op o) (of_op p) c =
      let a = alike.each_operation o p c in
      ap (λ x. type_texts words (list_of (λ z. z.results) x)) a.one_is ∙ a.result_types ∙ sym (ap (λ x. type_texts words' (list_of (λ z. z.results) x)) a.other_is)
  type_texts_same (of_block b) (of_block d) c = (alike.each_block b d c).argument_types
  type_texts_same (of_op o) (of_block b) c = absurd (one_kind c)
  type_texts_same (of_block b) (of_op o) c = absurd (one_kind c)

  pub have_one_type : (v w : Value context_ids) → ValuesCorrespond f g operations operations' v w → HaveOneType f g words words' v w
  have_one_type v w c =
      let u = unmapped (λ x. x.number) (λ x. x.number) (definitions_of f v.definer) (definitions_of g w.definer) v.number w.number c.places in
      record {
        one = u.0;
        other = u.1;
        one_defined = left_in (definitions_of f v.definer) (definitions_of g w.definer) u.0 u.1 u.4;
        other_defined = left_in (definitions_of g w.definer) (definitions_of f v.definer) u.1 u.0 (turned (definitions_of f v.definer) (definitions_of g w.definer) u.0 u.1 u.4);
        one_number = sym u.2;
        other_number = sym u.3;
        texts = same_beside (λ d. words.type_text d.ty) (λ d. words'.type_text d.ty) (definitions_of f v.definer) (definitions_of g w.definer) u.0 u.1 (type_texts_same v.definer w.definer c.definers) u.4;
      }
