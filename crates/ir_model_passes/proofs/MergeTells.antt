-- What is known once alike operations were merged in one block, or in each block inside an entity.
use mathlib.Core.Path.{◌≡◌, refl, sym, ap, ◌∙◌, subst}
use Rattle.std.proofs.Common.{ℕ, ◌+◌, inl, inr, true, false, not, Option, Some, None, List, [], ◌∷◌, is_some, length, arith}
use Rattle.std.specs.List.{filter}
use Rattle.ir_model.specs.Ids.{Ids, Distinct}
use Rattle.ir_model.specs.Forest.{Dialect, Behaviour, Entity, an_op, a_block, OpRecord, Forest}
use Rattle.ir_model.specs.Nesting.{In, IsLive, Inside, below, children, WellFormed, ops_of}
use Rattle.ir_model.proofs.Loops.{Lawful}
use Rattle.ir_model.proofs.Nests.{In-map}
use Rattle.ir_model.proofs.Filters.{In-filter, In-kept, Distinct-filter}
use Rattle.ir_model.proofs.Removal.{length-same}
use Rattle.ir_model_passes.specs.Meaning.{SameAttributes}
use Rattle.ir_model_passes.specs.SweepInside.{ListsOps}
use Rattle.ir_model_passes.specs.Merging.{MergesOne, MergesSome, none_merges, one_merges}
use Rattle.ir_model_passes.specs.MergingInside.{merged_of, MergesCommon, in_order, out_of_order, MergesEach, at_end, one_more, MergesInside}
use Rattle.ir_model_passes.specs.MergeTells.{CommonTells, InsideTells}
use Rattle.ir_model_passes.proofs.Merged.{before_in, one_formed, list_left, op_case}
use Rattle.ir_model_passes.proofs.Merges.{some_formed, some_counted, one_shorter}
use Rattle.ir_model.proofs.Keeps.{is_some-map}

module _ {N : Ids} {W : Dialect} (L : Lawful N) (B : Behaviour W) (same : SameAttributes W) (keys : ℕ) where
  -- ## One merging

  module _ (b : N.Block) where
    -- an operation other than the later one stays
    one_stays : (f g : Forest N W) → WellFormed f keys → (m : MergesOne B same f b g) (o : N.Op) → IsLive f (an_op o) → (In o (ops_of f b) → ⊥) → IsLive g (an_op o)
    one_stays f g w m o live out = elim (op_case L B same f keys b g w m o) [
      | inl k ↦ absurd (out (subst (λ x. In x (ops_of f b)) (sym k.0) (before_in m.earlier m.later (ops_of f b) m.in_order).1))
      | inr k ↦ ap is_some k.2 ∙ is_some-map _ (f.ops o) ∙ live
    ]

    -- the operations that are there can be listed where those that were there can, and the list is one shorter
    one_list : (f g : Forest N W) → WellFormed f keys → MergesOne B same f b g → (before : List N.Op) → ListsOps f before → (after : List N.Op) × ListsOps g after × (length before ≡ length after + 1)
    one_list f g w m before lists =
        let kept : N.Op → _ = λ o. not (N.same_op o m.later) in
        (filter kept before, (Distinct-filter kept before lists.0, λ o. (there o, back o)), one_shorter N.same_op L.ops m.later before lists.0 ((lists.1 m.later).1 later_live))
      where
        later_live : IsLive f (an_op m.later)
        later_live = w.nested.live (an_op m.later) (a_block b) (In-map an_op m.later (ops_of f b) (before_in m.earlier m.later (ops_of f b) m.in_order).1)

        there : (o : N.Op) → In o (filter (λ x. not (N.same_op x m.later)) before) → IsLive g (an_op o)
        there o h = let at = In-filter (λ x. not (N.same_op x m.later)) o before h in elim (op_case L B same f keys b g w m o) [
          | inl k ↦ absurd (let d : not true ≡ true = sym (ap not k.1) ∙ at.1 in cc)
          | inr k ↦ ap is_some k.2 ∙ is_some-map _ (f.ops o) ∙ (lists.1 o).0 at.0
        ]

        back : (o : N.Op) → IsLive g (an_op o) → In o (filter (λ x. not (N.same_op x m.later)) before)
        back o live = elim (op_case L B same f keys b g w m o) [
          | inl k ↦ absurd (let d : false ≡ true = sym (ap is_some k.2) ∙ live in cc)
          | inr k ↦ In-kept (λ x. not (N.same_op x m.later)) o before ((lists.1 o).1 (sym (is_some-map _ (f.ops o)) ∙ sym (ap is_some k.2) ∙ live)) (ap not k.1)
        ]

    -- ## Some mergings

    -- what is in a list was in it
    some_listed : (f g : Forest N W) (n : ℕ) → WellFormed f keys → MergesSome B same b f g n → (c : N.Block) (x : N.Op) → In x (ops_of g c) → In x (ops_of f c)
    some_listed f g n w none_merges c x h = h
    some_listed f g _ w (one_merges {g = between} {n = k} s m) c x h =
        some_listed f between k w s c x (In-filter (λ o. not (N.same_op o m.later)) x (ops_of between c)
        (subst (In x) (list_left L B same between keys b g (some_formed L B same b keys f between k w s) m c) h)).0

    some_stay : (f g : Forest N W) (n : ℕ) → WellFormed f keys → MergesSome B same b f g n → (o : N.Op) → IsLive f (an_op o) → (In o (ops_of f b) → ⊥) → IsLive g (an_op o)
    some_stay f g n w none_merges o live out = live
    some_stay f g _ w (one_merges {g = between} {n = k} s m) o live out =
        one_stays between g (some_formed L B same b keys f between k w s) m o (some_stay f between k w s o live out) (λ h. out (some_listed f between k w s b o h))

    some_list : (f g : Forest N W) (n : ℕ) → WellFormed f keys → MergesSome B same b f g n → (before : List N.Op) → ListsOps f before → (after : List N.Op) × ListsOps g after × (length before ≡ length after + n)
    some_list f g n w none_merges before lists = (before, lists, (let e : length before ≡ length before + 0 = omega arith in e))
    some_list f g _ w (one_merges {g = between} {n = k} s m) before lists =
        let first = some_list f between k w s before lists in
        let then = one_list between g (some_formed L B same b keys f between k w s) m first.0 first.1 in
        let fewer = first.2 in
        let fewer_still = then.2 in
        (then.0, then.1, omega (arith, fewer, fewer_still))

    -- ## In one block

    pub common_tells : (f g : Forest N W) (answer : Option ℕ) → WellFormed f keys → MergesCommon B same f b g answer → CommonTells B same f b g answer
    common_tells f g _ w (in_order {count = n} order merges) = record {
      no_number = λ e. absurd cc;
      a_number = λ count e.
          let one : n ≡ count = cc in
          (order, subst (λ k. length (ops_of f b) ≡ length (ops_of g b) + k) one (some_counted L B same b keys f g n w merges.steps), merges.none_alike);
    }
    common_tells f g _ w (out_of_order not_so) = record {
      no_number = λ e. (not_so, refl);
      a_number = λ count e. absurd cc;
    }

    common_formed : (f g : Forest N W) (answer : Option ℕ) → WellFormed f keys → MergesCommon B same f b g answer → WellFormed g keys
    common_formed f g _ w (in_order {count = n} order merges) = some_formed L B same b keys f g n w merges.steps
    common_formed f g _ w (out_of_order not_so) = w

    common_listed : (f g : Forest N W) (answer : Option ℕ) → WellFormed f keys → MergesCommon B same f b g answer → (c : N.Block) (x : N.Op) → In x (ops_of g c) → In x (ops_of f c)
    common_listed f g _ w (in_order {count = n} order merges) c x h = some_listed f g n w merges.steps c x h
    common_listed f g _ w (out_of_order not_so) c x h = h

    common_stay : (f g : Forest N W) (answer : Option ℕ) → WellFormed f keys → MergesCommon B same f b g answer → (o : N.Op) → IsLive f (an_op o) → (In o (ops_of f b) → ⊥) → IsLive g (an_op o)
    common_stay f g _ w (in_order {count = n} order merges) o live out = some_stay f g n w merges.steps o live out
    common_stay f g _ w (out_of_order not_so) o live out = live

    common_list : (f g : Forest N W) (answer : Option ℕ) → WellFormed f keys → MergesCommon B same f b g answer → (before : List N.Op) → ListsOps f before → (after : List N.Op) × ListsOps g after × (length before ≡ length after + merged_of answer)
    common_list f g _ w (in_order {count = n} order merges) before lists = some_list f g n w merges.steps before lists
    common_list f g _ w (out_of_order not_so) before lists = (before, lists, (let e : length before ≡ length before + 0 = omega arith in e))

  -- ## In one block after the other

  each_stay : (f g : Forest N W) (blocks : List N.Block) (count : ℕ) → WellFormed f keys → MergesEach B same f blocks g count → (o : N.Op) → IsLive f (an_op o) → ((b : N.Block) → In b blocks → In o (ops_of f b) → ⊥) → IsLive g (an_op o)
  each_stay f g _ _ w at_end o live out = live
  each_stay f g _ _ w (one_more {g = between} {blocks = rest} {count = n} {answer = answer} b now more) o live out =
      each_stay between g rest n (common_formed b f between answer w now) more o (common_stay b f between answer w now o live (out b (inl refl)))
      (λ c h k. out c (inr h) (common_listed b f between answer w now c o k))

  each_list : (f g : Forest N W) (blocks : List N.Block) (count : ℕ) → WellFormed f keys → MergesEach B same f blocks g count → (before : List N.Op) → ListsOps f before → (after : List N.Op) × ListsOps g after × (length before ≡ length after + count)
  each_list f g _ _ w at_end before lists = (before, lists, (let e : length before ≡ length before + 0 = omega arith in e))
  each_list f g _ _ w (one_more {g = between} {blocks = rest} {count = n} {answer = answer} b now more) before lists =
      let first = common_list b f between answer w now before lists in
      let then = each_list between g rest n (common_formed b f between answer w now) more first.0 first.1 in
      let fewer = first.2 in
      let fewer_still = then.2 in
      (then.0, then.1, omega (arith, fewer, fewer_still))

  -- mergings in one block alone are those of that block
  one_block_alone : (f g : Forest N W) (b : N.Block) (blocks : List N.Block) (count : ℕ) → Distinct blocks → ((c : N.Block) → In c blocks → c ≡ b) → In b blocks → MergesEach B same f blocks g count → (answer : Option ℕ) × MergesCommon B same f b g answer × (count ≡ merged_of answer)
  one_block_alone f g b [] count once only here steps = elim here [ ]
  one_block_alone f g b _ _ once only here (one_more {answer = answer} c now at_end) =
      (answer, subst (λ x. MergesCommon B same f x g answer) (only c (inl refl)) now, (let e : merged_of answer + 0 ≡ merged_of answer = omega arith in e))
  one_block_alone f g b (c ∷ d ∷ rest) count once only here steps = absurd (once.0.0 (only c (inl refl) ∙ sym (only d (inr (inl refl)))))

  pub inside_tells : (f g : Forest N W) (root : Entity N) (count : ℕ) → WellFormed f keys → MergesInside B same f root g count → InsideTells B same f root g count
  inside_tells f g root count w m = record {
    so_many = λ before after was now.
        let led = each_list f g m.blocks count w m.steps before was in
        let one = length-same led.0 after led.1.0 now.0 (λ o h. (now.1 o).1 ((led.1.1 o).0 h)) (λ o h. (led.1.1 o).1 ((now.1 o).0 h)) in
        let fewer = led.2 in
        omega (arith, one, fewer);
    others_stay = λ o live out. each_stay f g m.blocks count w m.steps o live (λ b h k. out (below (In-map an_op o (ops_of f b) k) ((m.all b).0 h)));
    of_one_block = λ b alone. one_block_alone f g b m.blocks count m.once (λ c h. (alone c).0 ((m.all c).0 h)) ((m.all b).1 ((alone b).1 refl)) m.steps;
  }
