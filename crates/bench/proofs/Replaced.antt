-- An operation of a chain is replaced by a new one behind it and erased: nothing names it then, and the others stay as they were.
use Rattle.std.proofs.Common.{◌≡◌, ◌≢◌, ◌⊎◌, ◌<◌, ℕ, inl, inr, Bool, not, refl, sym, ap, subst, ◌∙◌, arith, true, false, Option, Some, None, IsSome, List, [], ◌∷◌, ◌++◌, length, map, cond}
use Rattle.std.specs.Prelude.{IfSome, MatchOption, slice_get}
use Rattle.std.specs.Option.{option_map}
use Rattle.ir_model.specs.declared.ids.ArenaIndex.{ArenaIndex}
use Rattle.ir_model.specs.ContextIds.{context_ids, same_id}
use Rattle.ir_model.specs.Ids.{Distinct}
use Rattle.ir_model.specs.Forest.{BlockRecord, Definer, Definition, Dialect, Entity, Forest, Named, OpRecord, Operand, Successor, Value, a_block, a_region, a_value, an_op, of_block, of_op, owner, the_block}
use Rattle.ir_model.specs.Nesting.{In, Inside, IsClosed, IsLinked, IsLive, IsLiveNamed, Nested, WellFormed, Within, below, children, definitions_of, itself, list_of, names_of, numbers_of, operands_of, ops_of, regions_of, successors_of}
use Rattle.ir_model.specs.Changes.{Removes, but, in_blocks, new_op, on_operands, on_ops, on_regions, put, put_after, redirect, redirected, unlist, without}
use Rattle.ir_model.specs.Edits.{MayGoBeside, MayGoInto}
use Rattle.ir_model.specs.Parent.{Adjacent, ComesAfter, IsNext, first_of}
use Rattle.ir_model.specs.Uses.{IsUse, Use}
use Rattle.ir_model.proofs.TwoRuns.{id_tells}
use Rattle.ir_model.proofs.KeepsNew.{put_at}
use Rattle.ir_model.proofs.Nests.{In-append, In-map, In-map_back}
use Rattle.ir_model.proofs.Filters.{In-filter}
use Rattle.ir_model.proofs.Redirected.{Distinct-back}
use Rattle.ir_model.proofs.Relinks.{Adjacent-first, Adjacent-second}
use Rattle.bench.specs.Settled.{AreLinks, IsLink}
use Rattle.bench.proofs.Freed.{is_in, mapped, not_left, still_left}

-- the operands, the results and the regions of a record
pub record HasShape {W : Dialect} (m : Option (OpRecord context_ids W)) : Type 0 where
  pub operands : length (list_of (λ (r : OpRecord context_ids W). r.operands) m) ≡ 2
  pub results : length (list_of (λ (r : OpRecord context_ids W). r.results) m) ≡ 1
  pub regions : list_of (λ (r : OpRecord context_ids W). r.regions) m ≡ []

map_length : {A B : Type 0} (f : A → B) (xs : List A) → length (map f xs) ≡ length xs
map_length f [] = refl
map_length f (x ∷ xs) = ap (λ (n : ℕ). Prim.Native.Nat.suc n) (map_length f xs)

kept_after : (o mark p : ArenaIndex) (xs : List ArenaIndex) → In p xs → In p (put_after same_id o mark xs)
kept_after o mark p [] h = elim h [ ]
kept_after o mark p (y ∷ ys) h = by (same_id y mark) (λ k. kept_after o mark p ys k) h
  where
    by : (b : Bool) → (In p ys → In p (put_after same_id o mark ys)) → In p (y ∷ ys) → In p (cond b (y ∷ o ∷ ys) (y ∷ put_after same_id o mark ys))
    by true more (inl e) = inl e
    by true more (inr k) = inr (inr k)
    by false more (inl e) = inl e
    by false more (inr k) = inr (more k)

-- it or one of those that were there
from_after : (o mark p : ArenaIndex) (xs : List ArenaIndex) → In p (put_after same_id o mark xs) → (p ≡ o) ⊎ In p xs
from_after o mark p [] h = inr h
from_after o mark p (y ∷ ys) h = by (same_id y mark) (λ k. from_after o mark p ys k) h
  where
    by : (b : Bool) → (In p (put_after same_id o mark ys) → (p ≡ o) ⊎ In p ys) → In p (cond b (y ∷ o ∷ ys) (y ∷ put_after same_id o mark ys)) → (p ≡ o) ⊎ In p (y ∷ ys)
    by true more (inl e) = inr (inl e)
    by true more (inr (inl e)) = inl e
    by true more (inr (inr k)) = inr (inr k)
    by false more (inl e) = inr (inl e)
    by false more (inr k) = elim (more k) [ inl e ↦ inl e | inr i ↦ inr (inr i) ]

-- what stands in a list without old is something else
differs : (old p : ArenaIndex) (xs : List ArenaIndex) → In p (without same_id old xs) → p ≢ old
differs old p xs h e = not_left old xs (subst (λ z. In z (without same_id old xs)) e h)

-- two items of a list of one are one
one_item : {A : Type 0} (x y : A) (xs : List A) → length xs ≡ 1 → In x xs → In y xs → x ≡ y
one_item x y [] one h k = elim h [ ]
one_item x y (z ∷ []) one (inl e) (inl d) = e ∙ sym d
one_item x y (z ∷ []) one (inl e) (inr k) = elim k [ ]
one_item x y (z ∷ []) one (inr h) k = elim h [ ]
one_item x y (z ∷ w ∷ ws) one h k = absurd (omega arith)

module _ {W : Dialect} (f : Forest context_ids W) (nested : Nested f) (b o : ArenaIndex) (at : In o (ops_of f b)) where
  -- what comes after an operation of the block is another one of the block
  pub next_stands : (p : ArenaIndex) → ComesAfter f (an_op o) (an_op p) → In p (ops_of f b) × (p ≢ o)
  next_stands p after = (stands, differ)
    where
      here : after.0 ≡ a_block b
      here = nested.one_list (an_op o) after.0 (a_block b) (Adjacent-first (an_op o) (an_op p) (children f after.0) after.1) (In-map an_op o (ops_of f b) at)

      stands : In p (ops_of f b)
      stands =
          let i : In {A = Entity context_ids} (an_op p) (map an_op (ops_of f b)) = subst (λ z. In (an_op p) (children f z)) here (Adjacent-second (an_op o) (an_op p) (children f after.0) after.1) in
          let m = In-map_back {A = ArenaIndex} {B = Entity context_ids} an_op (an_op p) (ops_of f b) i in
          let e : ◌≡◌ {A = Entity context_ids} (an_op p) (an_op m.0) = m.2 in
          let same : p ≡ m.0 = cc in
          subst (λ z. In z (ops_of f b)) (sym same) m.1

      differ : p ≢ o
      differ e =
          let apart = (Distinct-back after.1.0 (an_op o ∷ an_op p ∷ after.1.1) (subst Distinct after.1.2 (nested.once after.0))).0.0 in
          apart (ap an_op (sym e))

redirected_shape : {W : Dialect} (change : Operand context_ids → Operand context_ids) (r : Option (OpRecord context_ids W)) → HasShape r → HasShape (option_map (on_operands (map change)) r)
redirected_shape change None s = s
redirected_shape change (Some r) s = record { operands = map_length change r.operands ∙ s.operands; results = s.results; regions = s.regions }

unlisted_shape : {W : Dialect} (e : Entity context_ids) (r : Option (OpRecord context_ids W)) → HasShape r → HasShape (option_map (on_regions (but e a_region)) r)
unlisted_shape e None s = s
unlisted_shape e (Some r) s = record { operands = s.operands; results = s.results; regions = ap (but e a_region) s.regions }

module _ {W : Dialect} (k : Forest context_ids W) (old : ArenaIndex) (alone : regions_of k old ≡ []) where
  -- nothing else is inside it
  only_itself : (x : Entity context_ids) → Inside k (an_op old) x → x ≡ an_op old
  only_itself x itself = refl
  only_itself x (below {c = c} h w) = absurd (
      let i : In x (map a_region (regions_of k old)) = subst (λ z. In x (children k z)) (only_itself c w) h in
      subst (λ rs. In x (map a_region rs)) alone i)

  module _ (keys : ℕ) (formed : WellFormed k keys) (ov : Value context_ids) (own : ov.definer ≡ of_op old) (live : IsLiveNamed k (a_value ov)) (one : length (definitions_of k (of_op old)) ≡ 1)
      (none : (u : Use context_ids) → IsUse k (a_value ov) u → ⊥) where
    not_named : (o : ArenaIndex) → In (a_value ov) (names_of k o) → ⊥
    not_named o h = elim (In-append (a_value ov) (map (λ (p : Operand context_ids). a_value p.value) (operands_of k o)) (map (λ (p : Successor context_ids). the_block p.block) (successors_of k o)) h) [
      | inl i ↦ (
          let m = In-map_back (λ (p : Operand context_ids). a_value p.value) (a_value ov) (operands_of k o) i in
          let e : ◌≡◌ {A = Named context_ids} (a_value ov) (a_value m.0.value) = m.2 in
          let same : ov ≡ m.0.value = cc in
          none (record { user = o; number = m.0.use_number }) (subst (λ v. In {A = Operand context_ids} (record { use_number = m.0.use_number; value = v }) (operands_of k o)) (sym same) m.1))
      | inr i ↦ (
          let m = In-map_back (λ (p : Successor context_ids). the_block p.block) (a_value ov) (successors_of k o) i in
          let e : ◌≡◌ {A = Named context_ids} (a_value ov) (the_block m.0.block) = m.2 in
          absurd cc)
    ]

    only_result : (o : ArenaIndex) (d : Definer context_ids) (n : ℕ) → In (a_value (record { definer = d; number = n })) (names_of k o) → d ≡ of_op old → ⊥
    only_result o d n at e =
        let there : In n (numbers_of k (of_op old)) = subst (λ c. In n (numbers_of k c)) e (formed.named o (a_value (record { definer = d; number = n })) at) in
        let here : In (ov.number) (numbers_of k (of_op old)) = subst (λ c. In (ov.number) (numbers_of k c)) own live in
        let count : length (numbers_of k (of_op old)) ≡ 1 = map_length (λ (x : Definition context_ids W). x.number) (definitions_of k (of_op old)) ∙ one in
        let number : n ≡ ov.number = one_item n ov.number (numbers_of k (of_op old)) count there here in
        let definer : d ≡ ov.definer = e ∙ sym own in
        let value : ◌≡◌ {A = Value context_ids} (record { definer = d; number = n }) ov = λ i. record { definer = definer i; number = number i } in
        not_named o (subst (λ v. In (a_value v) (names_of k o)) value at)

    definer_is : (d : Definer context_ids) → owner context_ids (a_value (record { definer = d; number = 0 })) ≡ an_op old → d ≡ of_op old
    definer_is (of_op o) e = let same : o ≡ old = cc in ap of_op same
    definer_is (of_block c) e = absurd cc

    -- nothing that stands elsewhere names what it defines
    pub closed : IsClosed k (an_op old)
    closed o (a_value v) at inside = absurd (only_result o v.definer v.number at (definer_is v.definer (only_itself (owner context_ids (a_value v)) inside)))
    closed o (the_block c) at inside = let e : ◌≡◌ {A = Entity context_ids} (a_block c) (an_op old) = only_itself (a_block c) inside in absurd cc

module _ {W : Dialect} (f g h k : Forest context_ids W) (old new : ArenaIndex) (ov nv : Value context_ids)
    (others : (p : ArenaIndex) → p ≢ new → g.ops p ≡ f.ops p) (same_blocks : g.blocks ≡ f.blocks) (shape : HasShape (g.ops new))
    (placed : h ≡ in_blocks g (put_after same_id new old)) (named : k ≡ redirect h ov nv) where
  record_now : (p : ArenaIndex) → k.ops p ≡ option_map (on_operands (map (redirected ov nv))) (g.ops p)
  record_now p = ap (λ (x : Forest context_ids W). x.ops p) named ∙ ap (λ (x : Forest context_ids W). option_map (on_operands (map (redirected ov nv))) (x.ops p)) placed

  shape_now : (p : ArenaIndex) → HasShape (f.ops p) → HasShape (k.ops p)
  shape_now p s = subst HasShape (sym (record_now p)) (redirected_shape (redirected ov nv) (g.ops p) (by (same_id p new) refl))
    where
      by : (b : Bool) → same_id p new ≡ b → HasShape (g.ops p)
      by true e = subst (λ z. HasShape (g.ops z)) (sym ((id_tells p new).0 e)) shape
      by false e = subst HasShape (sym (others p (λ q. let t : same_id p new ≡ true = (id_tells p new).1 q in cc))) s

  shape_new : HasShape (k.ops new)
  shape_new = subst HasShape (sym (record_now new)) (redirected_shape (redirected ov nv) (g.ops new) shape)

  list_now : (b : ArenaIndex) → ops_of k b ≡ put_after same_id new old (ops_of f b)
  list_now b =
      ap (λ (x : Forest context_ids W). ops_of x b) named ∙ ap (λ (x : Forest context_ids W). ops_of x b) placed ∙ mapped (put_after same_id new old) refl (g.blocks b)
      ∙ ap (λ (x : ArenaIndex → Option (BlockRecord context_ids W)). put_after same_id new old (list_of (λ (r : BlockRecord context_ids W). r.ops) (x b))) same_blocks

  pub alone_now : IsLink f old → regions_of k old ≡ []
  alone_now s = (shape_now old (record { operands = s.operands; results = s.results; regions = s.regions })).regions

  pub one_now : IsLink f old → length (definitions_of k (of_op old)) ≡ 1
  one_now s = (shape_now old (record { operands = s.operands; results = s.results; regions = s.regions })).results

  module _ (m : Forest context_ids W) (link : IsLink f old) (gone : Removes k (an_op old) m) where
    list_left : (b : ArenaIndex) → ops_of m b ≡ without same_id old (put_after same_id new old (ops_of f b))
    list_left b =
        let left = gone.blocks_outside b (λ w. let e : ◌≡◌ {A = Entity context_ids} (a_block b) (an_op old) = only_itself k old (alone_now link) (a_block b) w in absurd cc) in
        ap (list_of (λ (r : BlockRecord context_ids W). r.ops)) left ∙ mapped (without same_id old) refl (k.blocks b) ∙ ap (without same_id old) (list_now b)

    -- the others stand where they did
    pub still_stands : (b p : ArenaIndex) → p ≢ old → In p (ops_of f b) → In p (ops_of m b)
    still_stands b p differ at = subst (In p) (sym (list_left b)) (still_left old p (put_after same_id new old (ops_of f b)) differ (kept_after new old p (ops_of f b) at))

    shape_left : (p : ArenaIndex) → p ≢ old → HasShape (k.ops p) → HasShape (m.ops p)
    shape_left p differ s =
        let left = gone.ops_outside p (λ w. let e : ◌≡◌ {A = Entity context_ids} (an_op p) (an_op old) = only_itself k old (alone_now link) (an_op p) w in let same : p ≡ old = cc in differ same) in
        subst HasShape (sym left) (unlisted_shape (an_op old) (k.ops p) s)

    -- and all of a block are as they were told
    pub still_links : (b : ArenaIndex) → AreLinks f b → AreLinks m b
    still_links b links p at = record { operands = is.operands; results = is.results; regions = is.regions }
      where
        within : In p (without same_id old (put_after same_id new old (ops_of f b)))
        within = subst (In p) (list_left b) at

        differ : p ≢ old
        differ = differs old p (put_after same_id new old (ops_of f b)) within

        was : HasShape (k.ops p)
        was = elim (from_after new old p (ops_of f b) (In-filter (λ y. not (same_id y old)) p (put_after same_id new old (ops_of f b)) within).0) [
          | inl e ↦ subst (λ z. HasShape (k.ops z)) (sym e) shape_new
          | inr i ↦ shape_now p (let l = links p i in record { operands = l.operands; results = l.results; regions = l.regions })
        ]

        is : HasShape (m.ops p)
        is = shape_left p differ was

-- the first operation of a block stands in it
pub head_stands : {T : Type 0} (index : T → ArenaIndex) (r : Option T) (xs : List ArenaIndex) → option_map index r ≡ first_of xs → IfSome r (λ p. In (index p) xs)
head_stands index None xs e = tt
head_stands index (Some p) xs e = is_in (index p) xs (sym e)

-- what came next is left in the block, where all others are
pub next_left : {W : Dialect} {T : Type 0} (f g : Forest context_ids W) → Nested f → (b o : ArenaIndex) → In o (ops_of f b) → (index : T → ArenaIndex) (r : Option T) → IsNext f (an_op o) (option_map (λ p. an_op (index p)) r)
    → ((p : ArenaIndex) → p ≢ o → In p (ops_of f b) → In p (ops_of g b)) → IfSome r (λ p. In (index p) (ops_of g b))
next_left f g nested b o at index None told left = tt
next_left f g nested b o at index (Some p) told left = let next = next_stands f nested b o at (index p) told in left (index p) next.1 next.0

-- what is told of a thing that is there
pub of_some : {T : Type 0} (r : Option T) (x : T) (P : T → Type 0) → r ≡ Some x → IfSome r P → P x
of_some {T} r x P e h = subst (λ (o : Option T). IfSome o P) e h
