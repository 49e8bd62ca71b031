-- The facts of the small forests.
use mathlib.Core.Path.{◌≡◌, refl, sym, ap, ◌∙◌, subst}
use Rattle.std.proofs.Common.{ℕ, zero, suc, ◌⊎◌, inl, inr, Option, Some, None, List, [], ◌∷◌, length, arith}
use Rattle.std.specs.Prelude.{slice_get}
use Rattle.std.specs.List.{AllZip}
use Rattle.ir_model.specs.Forest.{Value, Operand, Successor, Entity, an_op, a_block, a_region, a_value, the_block, owner}
use Rattle.ir_model.specs.Nesting.{In, Inside, itself, below, IsClosed, IsLinked, children, ops_of}
use Rattle.ir_model.specs.Edits.{MoveRegion}
use Rattle.ir_model.specs.Subtree.{ListsSubtree}
use Rattle.ir_model.specs.Uses.{Use, IsUse, AreUses, IsOperandAt}
use Rattle.ir_model.specs.SmallForests.{Small, n0, n1, n2, n3, n4, n5, small_ids, behaviour, result, operand}
use Rattle.ir_model.specs.WorkedRows.{RegionMoves, moved_once, after_one_move, OwnResult, own_replaced, own_put_back, OutsideUseInDepth, nest, InsertIntoItself, holder, PredsTwice, twice_named, use_}
use Rattle.ir_model.proofs.Unique.{Change-unique}
use Rattle.ir_model.proofs.Removal.{length-same, one_size}

-- nothing stands at the third place of a list after the first move
no_third : (y x : Entity small_ids) → ◌≡◌ {A = Option (Entity small_ids)} (slice_get (children moved_once y) 2) (Some x) → ⊥
no_third (an_op n0) x e = cc
no_third (an_op n1) x e = cc
no_third (an_op n2) x e = cc
no_third (an_op n3) x e = cc
no_third (an_op n4) x e = cc
no_third (an_op n5) x e = cc
no_third (a_block b) x e = cc
no_third (a_region n0) x e = cc
no_third (a_region n1) x e = cc
no_third (a_region n2) x e = cc
no_third (a_region n3) x e = cc
no_third (a_region n4) x e = cc
no_third (a_region n5) x e = cc

pub region_moves : RegionMoves
region_moves = record {
  moved = λ new. record { value = n0; found = refl; holds = record { value = n1; found = refl; holds = record { value = _; found = refl; holds = refl } } };
  left = refl;
  last = refl;
  index = (an_op n0, refl);
  no_other_index = λ i. no_third i.0 (a_region n2) i.1;
  no_gap_filled = λ e. cc;
  again = λ new t p. Change-unique behaviour (MoveRegion 0 1) after_one_move t after_one_move new p (record { value = n0; found = refl; holds = record { value = n1; found = refl; holds = record { value = _; found = refl; holds = refl } } });
  left_of_four = refl;
  no_gap_filled_of_four = λ e. cc;
  behind_the_other = refl;
  left_of_three = refl;
  behind_both = refl;
}

-- the operations of two, four and two rows have these names alone
own_uses : (u : Use small_ids) → IsUse own_replaced (a_value (result n0 n0)) u → ⊥
own_uses u h = by u.user h
  where
    by : (o : Small) → IsUse own_replaced (a_value (result n0 n0)) (record { user = o; number = u.number }) → ⊥
    by n0 (inl e) = let s : n0 ≡ n1 = ap (λ (p : Operand small_ids). p.value.number) e in cc
    by n0 (inr k) = elim k [ ]
    by _ k = elim k [ ]

own_use_of : (u : Use small_ids) → IsUse own_replaced (a_value (result n1 n1)) u → u ≡ use_ n0 n1
own_use_of u h = by u.user h
  where
    by : (o : Small) → IsUse own_replaced (a_value (result n1 n1)) (record { user = o; number = u.number }) → ◌≡◌ {A = Use small_ids} (record { user = o; number = u.number }) (use_ n0 n1)
    by n0 (inl e) = let s : u.number ≡ n1 = ap (λ (p : Operand small_ids). p.use_number) e in λ i. record { user = n0; number = s i }
    by n0 (inr k) = elim k [ ]
    by _ k = elim k [ ]

old_use_gone : (index : ℕ) → IsOperandAt own_replaced (use_ n0 n0) index → ⊥
old_use_gone zero h = let e : ◌≡◌ {A = Option (Operand small_ids)} (Some (operand n1 (result n1 n1))) (Some (operand n0 h.0)) = h.1 in let s : operand n1 (result n1 n1) ≡ operand n0 h.0 = cc in let t : n1 ≡ n0 = ap (λ (p : Operand small_ids). p.use_number) s in cc
old_use_gone (suc index) h = let e : ◌≡◌ {A = Option (Operand small_ids)} None (Some (operand n0 h.0)) = h.1 in absurd cc

old_number : IsUse own_replaced (a_value (result n1 n1)) (use_ n0 n0) → ⊥
old_number (inl e) = let s : n0 ≡ n1 = ap (λ (p : Operand small_ids). p.use_number) e in cc
old_number (inr k) = elim k [ ]

own_closed : IsClosed own_put_back (an_op n0)
own_closed n0 d h inside = itself
own_closed _ d h inside = elim h [ ]

-- the second operation has nothing inside but itself
only_itself : (x : Entity small_ids) → Inside own_replaced (an_op n1) x → x ≡ an_op n1
only_itself x itself = refl
only_itself x (below {c = c} h w) = absurd (subst (λ y. In x (children own_replaced y)) (only_itself c w) h)

own_not_closed : IsClosed own_replaced (an_op n1) → ⊥
own_not_closed closed = let e = only_itself (an_op n0) (closed n0 (a_value (result n1 n1)) (inl refl) itself) in cc

pub own_result : OwnResult
own_result = record {
  replaced = record { value = n0; found = refl; holds = record { value = result n1 n1; found = refl; holds = record { value = n1; found = refl; holds = refl } } };
  put_back = record { value = n0; found = refl; holds = record { value = result n0 n0; found = refl; holds = record { value = n2; found = refl; holds = refl } } };
  unused = own_uses;
  used = record { once = (tt, tt); exact = λ u. (λ h. elim h [ inl e ↦ subst (λ v. IsUse own_replaced (a_value (result n1 n1)) v) (sym e) (inl refl) | inr k ↦ elim k [ ] ], λ h. inl (own_use_of u h)) };
  not_the_old_number = λ u. old_number ((u.exact (use_ n0 n0)).0 (inl refl));
  old_use_gone = old_use_gone;
  closed = own_closed;
  erasable = record { value = n0; found = refl; holds = record { value = _; found = refl; holds = own_closed } };
  gone = λ g p. p.ops_inside n0 itself;
  not_closed = own_not_closed;
}

-- what stands inside the first operation of the nest, whatever the operand names
data InNest : Entity small_ids → Type 0 where
  the_op : InNest (an_op n0)
  the_region : InNest (a_region n0)
  the_inner_block : InNest (a_block n0)
  the_inner_op : InNest (an_op n1)

in_nest : (v : Value small_ids) (x : Entity small_ids) → Inside (nest v) (an_op n0) x → InNest x
in_nest v x itself = the_op
in_nest v x (below {c = c} h w) = by c x (in_nest v c w) h
  where
    by : (c x : Entity small_ids) → InNest c → In x (children (nest v) c) → InNest x
    by c x the_op (inl e) = subst InNest (sym e) the_region
    by c x the_op (inr k) = elim k [ ]
    by c x the_region (inl e) = subst InNest (sym e) the_inner_block
    by c x the_region (inr k) = elim k [ ]
    by c x the_inner_block (inl e) = subst InNest (sym e) the_inner_op
    by c x the_inner_block (inr k) = elim k [ ]
    by c x the_inner_op k = elim k [ ]

inner_op_inside : (v : Value small_ids) → Inside (nest v) (an_op n0) (an_op n1)
inner_op_inside v = below {c = a_block n0} (inl refl) (below {c = a_region n0} (inl refl) (below {c = an_op n0} (inl refl) itself))

not_in_nest : (x : Entity small_ids) → InNest x → x ≡ an_op n2 → ⊥
not_in_nest x the_op e = cc
not_in_nest x the_region e = cc
not_in_nest x the_inner_block e = cc
not_in_nest x the_inner_op e = cc

nest_not_closed : IsClosed (nest (result n1 n0)) (an_op n0) → ⊥
nest_not_closed closed = not_in_nest (an_op n2) (in_nest (result n1 n0) (an_op n2) (closed n2 (a_value (result n1 n0)) (inl refl) (inner_op_inside (result n1 n0)))) refl

op_three_outside : (x : Entity small_ids) → InNest x → x ≡ an_op n3 → ⊥
op_three_outside x the_op e = cc
op_three_outside x the_region e = cc
op_three_outside x the_inner_block e = cc
op_three_outside x the_inner_op e = cc

nest_closed : IsClosed (nest (result n3 n1)) (an_op n0)
nest_closed n0 d h inside = itself
nest_closed n1 d h inside = inner_op_inside (result n3 n1)
nest_closed n2 d (inl e) inside = absurd (op_three_outside (an_op n3) (in_nest (result n3 n1) (an_op n3) (subst (λ z. Inside (nest (result n3 n1)) (an_op n0) (owner small_ids z)) e inside)) refl)
nest_closed n2 d (inr k) inside = elim k [ ]
nest_closed _ d h inside = elim h [ ]

nest_list : List (Entity small_ids)
nest_list = an_op n0 ∷ a_region n0 ∷ a_block n0 ∷ an_op n1 ∷ []

nest_listed : ListsSubtree (nest (result n3 n1)) (an_op n0) nest_list
unfolding nest_list
nest_listed = record {
  once = ((λ e. cc, (λ e. cc, (λ e. cc, tt))), ((λ e. cc, (λ e. cc, tt)), ((λ e. cc, tt), (tt, tt))));
  exact = λ x. (to x, λ h. back x (in_nest (result n3 n1) x h));
}
  where
    back : (x : Entity small_ids) → InNest x → In x (an_op n0 ∷ a_region n0 ∷ a_block n0 ∷ an_op n1 ∷ [])
    back x the_op = inl refl
    back x the_region = inr (inl refl)
    back x the_inner_block = inr (inr (inl refl))
    back x the_inner_op = inr (inr (inr (inl refl)))

    to : (x : Entity small_ids) → In x (an_op n0 ∷ a_region n0 ∷ a_block n0 ∷ an_op n1 ∷ []) → Inside (nest (result n3 n1)) (an_op n0) x
    to x (inl e) = subst (Inside (nest (result n3 n1)) (an_op n0)) (sym e) itself
    to x (inr (inl e)) = subst (Inside (nest (result n3 n1)) (an_op n0)) (sym e) (below {c = an_op n0} (inl refl) itself)
    to x (inr (inr (inl e))) = subst (Inside (nest (result n3 n1)) (an_op n0)) (sym e) (below {c = a_region n0} (inl refl) (below {c = an_op n0} (inl refl) itself))
    to x (inr (inr (inr (inl e)))) = subst (Inside (nest (result n3 n1)) (an_op n0)) (sym e) (inner_op_inside (result n3 n1))
    to x (inr (inr (inr (inr k)))) = elim k [ ]

pub outside_use : OutsideUseInDepth
unfolding nest_list
outside_use = record {
  not_closed = nest_not_closed;
  refused = λ c. nest_not_closed (let e : Some n0 ≡ Some c.value = c.found in let s : n0 ≡ c.value = cc in subst (λ o. IsClosed (nest (result n1 n0)) (an_op o)) (sym s) c.holds.holds);
  closed = nest_closed;
  allowed = record { value = n0; found = refl; holds = record { value = _; found = refl; holds = nest_closed } };
  four = (nest_list, nest_listed, refl);
  not_three = λ s. (let e : 4 ≡ length s.0 = one_size (nest (result n3 n1)) (an_op n0) nest_list s.0 nest_listed s.1 in let t : 4 ≡ 3 = e ∙ s.2 in omega (arith, t));
}

pub into_itself : InsertIntoItself
into_itself = record {
  refused = λ c.
      let e : Some n0 ≡ Some c.value = c.found in
      let o : n0 ≡ c.value = cc in
      let k : Some n0 ≡ Some c.holds.holds.value = c.holds.holds.found in
      let b : n0 ≡ c.holds.holds.value = cc in
      let apart = c.holds.holds.holds.holds.1 in
      subst (λ p. Inside holder (an_op p) (a_block c.holds.holds.value) → ⊥) (sym o) apart
      (subst (λ d. Inside holder (an_op n0) (a_block d)) b (below {c = a_region n0} (inl refl) (below {c = an_op n0} (inl refl) itself)));
  other = record {
    value = n1;
    found = refl;
    holds = record { value = _; found = refl; holds = record { value = n0; found = refl; holds = record { value = _; found = refl; holds = (holder_unlinked, holder_apart) } } };
  };
}
  where
    -- the second operation stands in no list
    holder_unlinked : IsLinked holder (an_op n1) → ⊥
    holder_unlinked h = by h.0 h.1
      where
        by : (y : Entity small_ids) → In (an_op n1) (children holder y) → ⊥
        by (an_op n0) (inl e) = cc
        by (an_op n0) (inr k) = k
        by (an_op n1) k = k
        by (an_op n2) k = k
        by (an_op n3) k = k
        by (an_op n4) k = k
        by (an_op n5) k = k
        by (a_block n0) k = k
        by (a_block n1) k = k
        by (a_block n2) k = k
        by (a_block n3) k = k
        by (a_block n4) k = k
        by (a_block n5) k = k
        by (a_region n0) (inl e) = cc
        by (a_region n0) (inr k) = k
        by (a_region n1) k = k
        by (a_region n2) k = k
        by (a_region n3) k = k
        by (a_region n4) k = k
        by (a_region n5) k = k

    only_it : (x : Entity small_ids) → Inside holder (an_op n1) x → x ≡ an_op n1
    only_it x itself = refl
    only_it x (below {c = c} h w) = absurd (subst (λ y. In x (children holder y)) (only_it c w) h)

    holder_apart : Inside holder (an_op n1) (a_block n0) → ⊥
    holder_apart h = let e = only_it (a_block n0) h in cc

twice_use : (u : Use small_ids) → IsUse (twice_named 4) (the_block n1) u → (u ≡ use_ n1 n0) ⊎ (u ≡ use_ n1 n1)
twice_use u h = by u.user h
  where
    by : (o : Small) → IsUse (twice_named 4) (the_block n1) (record { user = o; number = u.number })
        → (◌≡◌ {A = Use small_ids} (record { user = o; number = u.number }) (use_ n1 n0)) ⊎ (◌≡◌ {A = Use small_ids} (record { user = o; number = u.number }) (use_ n1 n1))
    by n0 k = elim k [ ]
    by n1 (inl e) = inl (let s : u.number ≡ n0 = ap (λ (p : Successor small_ids). p.use_number) e in λ i. record { user = n1; number = s i })
    by n1 (inr (inl e)) = inr (let s : u.number ≡ n1 = ap (λ (p : Successor small_ids). p.use_number) e in λ i. record { user = n1; number = s i })
    by n1 (inr (inr k)) = elim k [ ]
    by _ k = elim k [ ]

pub both_uses : AreUses (twice_named 4) (the_block n1) (use_ n1 n0 ∷ use_ n1 n1 ∷ [])
both_uses = record {
  once = ((λ e. (let s : n0 ≡ n1 = ap (λ (u : Use small_ids). u.number) e in cc), tt), (tt, tt));
  exact = λ u. (to u, λ h. elim (twice_use u h) [ inl e ↦ inl e | inr e ↦ inr (inl e) ]);
}
  where
    to : (u : Use small_ids) → In u (use_ n1 n0 ∷ use_ n1 n1 ∷ []) → IsUse (twice_named 4) (the_block n1) u
    to u (inl e) = subst (IsUse (twice_named 4) (the_block n1)) (sym e) (inl refl)
    to u (inr (inl e)) = subst (IsUse (twice_named 4) (the_block n1)) (sym e) (inr (inl refl))
    to u (inr (inr k)) = elim k [ ]

as_long : {A C : Type 0} (R : A → C → Type 0) (xs : List A) (ys : List C) → AllZip R xs ys → length xs ≡ length ys
as_long R [] [] z = refl
as_long R [] (y ∷ ys) z = elim z [ ]
as_long R (x ∷ xs) [] z = elim z [ ]
as_long R (x ∷ xs) (y ∷ ys) z = let more = as_long R xs ys z.1 in ap suc more

two_of_them : (uses : List (Use small_ids)) → AreUses (twice_named 4) (the_block n1) uses → length uses ≡ 2
two_of_them uses are = length-same uses (use_ n1 n0 ∷ use_ n1 n1 ∷ []) are.once both_uses.once
    (λ u h. (both_uses.exact u).1 ((are.exact u).0 h)) (λ u h. (are.exact u).1 ((both_uses.exact u).0 h))

pub preds_twice : PredsTwice
preds_twice = record {
  two = (use_ n1 n0 ∷ use_ n1 n1 ∷ [], both_uses, refl);
  not_one = λ c. (let same : length c.0 ≡ 2 = two_of_them c.0 c.1 in let one : length c.0 ≡ 1 = c.2 in omega (arith, one, same));
  listed_twice = record { uses = use_ n1 n0 ∷ use_ n1 n1 ∷ []; are_uses = both_uses; in_order = (inl refl, (inl refl, tt)) };
  not_once = λ p.
      let one : length p.uses ≡ 1 = as_long (λ (u : Use small_ids) a. In u.user (ops_of (twice_named 4) a)) p.uses (n0 ∷ []) p.in_order in
      let same : length p.uses ≡ 2 = two_of_them p.uses p.are_uses in
      omega (arith, one, same);
  last_names_it = inl refl;
  no_successors = refl;
  no_successor = λ h. h;
  successors = refl;
}
