-- Which edits may be made at the start.
use mathlib.Core.Path.{◌≡◌, refl, ap, ◌∙◌, subst}
use Rattle.std.proofs.Common.{ℕ, Bool, true, false, cond, not, ◌≤◌, ◌<◌, inl, inr, [], arith}
use Rattle.std.specs.Prelude.{nat_eq}
use Rattle.ir_model.specs.Forest.{Entity, an_op, a_block, a_region, Named, a_value, the_block, owner}
use Rattle.ir_model.specs.Nesting.{In, Inside, itself, below, children, names_of, IsLinked, IsClosed}
use Rattle.ir_model.specs.Edits.{Unused, UsersLinked, MayJoin}
use Rattle.ir_model.specs.EditStart.{OpName, o0, o1, o2, o3, o4, o5, o6, o7, b0, b1, b3, b4, b5, r0, r2, r3, r4, v0, v1, v3, v4, number_row, row_ids, result, argument, start}
use Rattle.ir_model.specs.ConditionRows.{MayMake, MayDefine, MayUse, MayList, MayJoinLists, MayRemove}
use Rattle.ir_model.proofs.EditStart.{here, out, none}
use Rattle.ir_model.proofs.EditSubtrees.{all_pass, each_passes, holds_all, with_holder, with_block, with_region, with_first, holder_tells, block_tells, region_tells, first_tells, unlinked_by, closed_by}

-- ## What is linked and what is inside

-- whether it is another one than o4
abbrev not_spare : Entity row_ids → Bool
not_spare (an_op o4) = false
not_spare _ = true

-- whether it is another one than o0
abbrev not_root : Entity row_ids → Bool
not_root (an_op o0) = false
not_root _ = true

-- whether it is another one than b3
abbrev not_loose : Entity row_ids → Bool
not_loose (a_block b3) = false
not_loose _ = true

-- whether it is another one than o2
abbrev not_taker : Entity row_ids → Bool
not_taker (an_op o2) = false
not_taker _ = true

spare_unlinked : IsLinked start.forest (an_op o4) → ⊥
spare_unlinked = unlinked_by not_spare (an_op o4) by refl
  where
    by : (y : Entity row_ids) → all_pass not_spare (children start.forest y) ≡ true
    by (an_op o0) = refl
    by (a_block b0) = refl
    by (a_region r0) = refl
    by _ = refl

root_unlinked : IsLinked start.forest (an_op o0) → ⊥
root_unlinked = unlinked_by not_root (an_op o0) by refl
  where
    by : (y : Entity row_ids) → all_pass not_root (children start.forest y) ≡ true
    by (an_op o0) = refl
    by (a_block b0) = refl
    by (a_region r0) = refl
    by _ = refl

loose_unlinked : IsLinked start.forest (a_block b3) → ⊥
loose_unlinked = unlinked_by not_loose (a_block b3) by refl
  where
    by : (y : Entity row_ids) → all_pass not_loose (children start.forest y) ≡ true
    by (an_op o0) = refl
    by (a_block b0) = refl
    by (a_region r0) = refl
    by _ = refl

-- what has o2 is inside o0
taker_inside : (y : Entity row_ids) → In (an_op o2) (children start.forest y) → Inside start.forest (an_op o0) y
taker_inside (a_block b0) h = below {c = a_region r0} (inl refl) (below {c = an_op o0} (inl refl) itself)
taker_inside (an_op o0) h = let e : false ≡ true = each_passes not_taker (children start.forest (an_op o0)) (an_op o2) refl h in absurd cc
taker_inside (a_region r0) h = let e : false ≡ true = each_passes not_taker (children start.forest (a_region r0)) (an_op o2) refl h in absurd cc
taker_inside y h = let e : false ≡ true = each_passes not_taker (children start.forest y) (an_op o2) refl h in absurd cc

-- o4 and what is inside it
abbrev with_spare : Entity row_ids → Bool
with_spare (an_op o4) = true
with_spare (a_region r2) = true
with_spare _ = false

-- the operations of b0, which have nothing inside
abbrev lone_ones : Entity row_ids → Bool
lone_ones (an_op o1) = true
lone_ones (an_op o2) = true
lone_ones (an_op o3) = true
lone_ones _ = false

-- what has no list has nothing inside but itself
alone : (e : Entity row_ids) → children start.forest e ≡ [] → (x : Entity row_ids) → Inside start.forest e x → x ≡ e
alone e bare x itself = refl
alone e bare x (below {c = c} h w) = absurd (subst (In x) (ap (children start.forest) (alone e bare c w) ∙ bare) h)

in_spare : (x : Entity row_ids) → Inside start.forest (an_op o4) x → with_spare x ≡ true
in_spare = holds_all (an_op o4) with_spare refl by
  where
    by : (c : Entity row_ids) → cond (with_spare c) (all_pass with_spare (children start.forest c)) true ≡ true
    by (an_op o0) = refl
    by (a_block b0) = refl
    by (a_region r0) = refl
    by _ = refl

-- what is inside one of them is one of them
in_lone : (e : Entity row_ids) → lone_ones e ≡ true → (x : Entity row_ids) → Inside start.forest e x → lone_ones x ≡ true
in_lone e root = holds_all e lone_ones root by
  where
    by : (c : Entity row_ids) → cond (lone_ones c) (all_pass lone_ones (children start.forest c)) true ≡ true
    by (an_op o0) = refl
    by (a_block b0) = refl
    by (a_region r0) = refl
    by _ = refl

-- the blocks of r0 and what is inside them
abbrev with_blocks : Entity row_ids → Bool
with_blocks (a_region r0) = false
with_blocks x = with_first x

in_blocks : (e : Entity row_ids) → with_blocks e ≡ true → (x : Entity row_ids) → Inside start.forest e x → with_blocks x ≡ true
in_blocks e root = holds_all e with_blocks root by
  where
    by : (c : Entity row_ids) → cond (with_blocks c) (all_pass with_blocks (children start.forest c)) true ≡ true
    by (an_op o0) = refl
    by (a_block b0) = refl
    by (a_region r0) = refl
    by _ = refl

-- ## What is named

-- whether another number is named than the one in this row
abbrev not_number : ℕ → Named row_ids → Bool
not_number k (a_value v) = not (nat_eq (number_row v.number) k)
not_number k (the_block b) = true

second_unused : Unused start.forest (a_value (result o1 v1))
second_unused o h = let e : false ≡ true = each_passes (not_number 1) (names_of start.forest o) (a_value (result o1 v1)) (by o) h in cc
  where
    by : (p : OpName) → all_pass (not_number 1) (names_of start.forest p) ≡ true
    by o0 = refl
    by _ = refl

fifth_unused : Unused start.forest (a_value (argument b0 v4))
fifth_unused o h = let e : false ≡ true = each_passes (not_number 4) (names_of start.forest o) (a_value (argument b0 v4)) (by o) h in cc
  where
    by : (p : OpName) → all_pass (not_number 4) (names_of start.forest p) ≡ true
    by o0 = refl
    by _ = refl

users_linked : UsersLinked start.forest b1
users_linked o0 h = elim h [ ]
users_linked o1 h = (a_block b0, inl refl)
users_linked o2 h = (a_block b0, inr (inl refl))
users_linked o3 h = (a_block b0, inr (inr (inl refl)))
users_linked o4 (inl e) = absurd cc
users_linked o4 (inr k) = elim k [ ]
users_linked o5 h = (a_block b4, inl refl)
users_linked o6 h = (a_block b5, inl refl)
users_linked o7 h = elim h [ ]

holder_closed : IsClosed start.forest (an_op o5)
holder_closed = closed_by (an_op o5) with_holder holder_tells by
  where
    by : (o : OpName) → cond (with_holder (an_op o)) true (all_pass (λ (d : Named row_ids). not (with_holder (owner row_ids d))) (names_of start.forest o)) ≡ true
    by o0 = refl
    by _ = refl

block_closed : IsClosed start.forest (a_block b4)
block_closed = closed_by (a_block b4) with_block block_tells by
  where
    by : (o : OpName) → cond (with_block (an_op o)) true (all_pass (λ (d : Named row_ids). not (with_block (owner row_ids d))) (names_of start.forest o)) ≡ true
    by o0 = refl
    by _ = refl

region_closed : IsClosed start.forest (a_region r3)
region_closed = closed_by (a_region r3) with_region region_tells by
  where
    by : (o : OpName) → cond (with_region (an_op o)) true (all_pass (λ (d : Named row_ids). not (with_region (owner row_ids d))) (names_of start.forest o)) ≡ true
    by o0 = refl
    by _ = refl

-- ## The rows

pub may_make : MayMake
may_make = record {
  any_type = tt;
  op = record {
    allowed = ((omega arith, (omega arith, tt)), (here _ (inl refl, tt), (here _ (inr (inl refl), tt), tt)), (here _ (here _ tt), (here _ (here _ tt), tt)));
    refused = λ c. (let h : 2 < 2 = c.0.1.0 in omega (arith, h));
  };
  op_operands = λ c. none c.1.1.0;
  op_successors = λ c. none c.2.1.0;
  block = record { allowed = (omega arith, (omega arith, tt)); refused = λ c. (let h : 2 < 2 = c.1.0 in omega (arith, h)) };
  region = record { allowed = here _ (here _ tt); refused = λ c. none c };
}

pub may_define : MayDefine
may_define = record {
  push_result = record { allowed = (here _ (here _ tt), here _ tt); refused = λ c. none c.1 };
  push_argument = record { allowed = (here _ (here _ tt), here _ tt); refused = λ c. none c.0 };
  insert_result = record { allowed = (here _ (here _ (omega arith)), here _ tt); refused = λ c. (let h : 4 ≤ 3 = out _ (out _ c.0) in omega (arith, h)) };
  insert_argument = record { allowed = (here _ (here _ (omega arith)), here _ tt); refused = λ c. (let h : 4 ≤ 3 = out _ (out _ c.0) in omega (arith, h)) };
  remove_result = record { allowed = here _ (here _ (here _ second_unused)); refused = λ c. out _ (out _ (out _ c)) o3 (inl refl) };
  remove_argument = record { allowed = here _ (here _ (here _ fifth_unused)); refused = λ c. out _ (out _ (out _ c)) o5 (inl refl) };
  no_fourth_result = λ c. none (out _ (out _ c));
  no_fourth_argument = λ c. none (out _ (out _ c));
}

pub may_use : MayUse
may_use = record {
  push_operand = record { allowed = here _ (here _ (here _ (inr (inl refl), tt))); refused = λ c. none (out _ (out _ c)) };
  push_successor = record { allowed = here _ (here _ (here _ (here _ tt))); refused = λ c. none (out _ (out _ c)) };
  insert_operand = record { allowed = here _ (here _ (here _ (inr (inl refl), omega arith))); refused = λ c. (let h : 4 ≤ 3 = (out _ (out _ (out _ c))).1 in omega (arith, h)) };
  insert_successor = record { allowed = here _ (here _ (here _ (here _ (omega arith)))); refused = λ c. (let h : 4 ≤ 3 = out _ (out _ (out _ (out _ c))) in omega (arith, h)) };
  remove_operand = record { allowed = here _ (here _ (omega arith)); refused = λ c. (let h : 3 < 3 = out _ (out _ c) in omega (arith, h)) };
  remove_successor = record { allowed = here _ (here _ (omega arith)); refused = λ c. (let h : 3 < 3 = out _ (out _ c) in omega (arith, h)) };
  replace_operand = record { allowed = here _ (here _ (here _ (inr (inl refl), omega arith))); refused = λ c. (let h : 3 < 3 = (out _ (out _ (out _ c))).1 in omega (arith, h)) };
  replace_successor = record { allowed = here _ (here _ (here _ (here _ (omega arith)))); refused = λ c. (let h : 3 < 3 = out _ (out _ (out _ (out _ c))) in omega (arith, h)) };
  replace_all = record { allowed = here _ (inl refl, here _ (inr (inl refl), tt)); refused = λ c. none (out _ c).1 };
  retarget_all = record { allowed = here _ (here _ (here _ (here _ users_linked))); refused = λ c. spare_unlinked (out _ (out _ (out _ (out _ c))) o4 (inl refl)) };
}

pub may_list : MayList
may_list = record {
  op_front = record { allowed = here _ (here _ (here _ (here _ (spare_unlinked, λ i. let e = in_spare (a_block b0) i in cc)))); refused = λ c. (out _ (out _ (out _ (out _ c)))).0 (a_block b0, inr (inl refl)) };
  op_back = record {
    allowed = here _ (here _ (here _ (here _ (spare_unlinked, λ i. let e = in_spare (a_block b0) i in cc))));
    refused = λ c. (out _ (out _ (out _ (out _ c)))).1 (below {c = a_region r3} (inl refl) (below {c = an_op o0} (inr (inl refl)) itself));
  };
  op_before = record {
    allowed = here _ (here _ (here _ (here _ (spare_unlinked, (a_block b0, inr (inl refl), λ i. let e = in_spare (a_block b0) i in cc)))));
    refused = λ c. (let beside = (out _ (out _ (out _ (out _ c)))).1 in root_unlinked (beside.0, beside.1));
  };
  op_after = record {
    allowed = here _ (here _ (here _ (here _ (spare_unlinked, (a_block b0, inr (inl refl), λ i. let e = in_spare (a_block b0) i in cc)))));
    refused = λ c. (let beside = (out _ (out _ (out _ (out _ c)))).1 in beside.2 (taker_inside beside.0 beside.1));
  };
  unlink_op = record { allowed = here _ (here _ (a_block b0, inr (inl refl))); refused = λ c. spare_unlinked (out _ (out _ c)) };
  unlink_block = record { allowed = here _ (here _ (a_region r0, inr (inl refl))); refused = λ c. loose_unlinked (out _ (out _ c)) };
  block_front = record { allowed = here _ (here _ (here _ (refl, (loose_unlinked, λ i. let e = alone (a_block b3) refl (a_region r0) i in cc)))); refused = λ c. (out _ (out _ (out _ c))).1.0 (a_region r0, inr (inl refl)) };
  block_back = record { allowed = here _ (here _ (here _ (refl, (loose_unlinked, λ i. let e = alone (a_block b3) refl (a_region r0) i in cc)))); refused = λ c. (out _ (out _ (out _ c))).1.0 (a_region r0, inr (inr (inl refl))) };
  block_before = record {
    allowed = here _ (here _ (here _ (here _ (loose_unlinked, (a_region r0, inr (inl refl), λ i. let e = alone (a_block b3) refl (a_region r0) i in cc)))));
    refused = λ c. (let beside = (out _ (out _ (out _ (out _ c)))).1 in loose_unlinked (beside.0, beside.1));
  };
  block_after = record {
    allowed = here _ (here _ (here _ (here _ (loose_unlinked, (a_region r0, inr (inl refl), λ i. let e = alone (a_block b3) refl (a_region r0) i in cc)))));
    refused = λ c. (out _ (out _ (out _ (out _ c)))).0 (a_region r0, inr (inr (inl refl)));
  };
}

-- o1, o2 and o3 are not around b4 or b0
ops_join : MayJoin start.forest (a_block b4) (a_block b0)
ops_join = (λ e. cc, λ x h. (let lone = each_passes lone_ones (children start.forest (a_block b0)) x refl h in (λ i. (let e = in_lone x lone (a_block b4) i in cc), λ i. (let e = in_lone x lone (a_block b0) i in cc))))

-- b0, b1 and b2 are not around r3 or r0
blocks_join : MayJoin start.forest (a_region r3) (a_region r0)
blocks_join = (λ e. cc, λ x h. (let some = each_passes with_blocks (children start.forest (a_region r0)) x refl h in (λ i. (let e = in_blocks x some (a_region r3) i in cc), λ i. (let e = in_blocks x some (a_region r0) i in cc))))

pub may_join : MayJoinLists
may_join = record {
  append_ops = record {
    allowed = here _ (here _ (here _ (here _ ops_join)));
    refused = λ c. ((out _ (out _ (out _ (out _ c)))).1 (an_op o5) (inl refl)).0 (below {c = a_region r4} (inl refl) (below {c = an_op o5} (inl refl) itself));
  };
  append_blocks = record { allowed = here _ (refl, here _ (refl, blocks_join)); refused = λ c. (out _ (out _ c).1).1.0 refl };
  append_inside = λ c. ((out _ (out _ c).1).1.1 (a_block b4) (inl refl)).0 (below {c = an_op o5} (inl refl) (below {c = a_block b4} (inl refl) itself));
  move_region = record {
    allowed = here _ (refl, here _ (here _ (λ i. let e = region_tells.outside (an_op o4) i in cc)));
    refused = λ c. out _ (out _ (out _ c).1) (region_tells.inside (an_op o6) refl);
  };
}

pub may_remove : MayRemove
may_remove = record {
  drop_op = record { allowed = here _ (here _ tt); refused = λ c. none c };
  drop_block = record { allowed = here _ (here _ tt); refused = λ c. none c };
  drop_region = record { allowed = here _ (refl, tt); refused = λ c. none c };
  erase_op = record { allowed = here _ (here _ holder_closed); refused = λ c. (let e = alone (an_op o1) refl (an_op o2) (out _ (out _ c) o2 (a_value (result o1 v0)) (inl refl) itself) in cc) };
  erase_block = record { allowed = here _ (here _ block_closed); refused = λ c. (let e = alone (a_block b1) refl (an_op o3) (out _ (out _ c) o3 (the_block b1) (inr (inl refl)) itself) in cc) };
  erase_region = record {
    allowed = here _ (here _ (here _ region_closed));
    refused = λ c. (let e = first_tells.outside (an_op o5) (out _ (out _ (out _ c)) o5 (a_value (argument b0 v3)) (inl refl) (below {c = a_region r0} (inl refl) itself)) in cc);
  };
}
