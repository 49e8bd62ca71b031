-- The facts of the edits that would break a forest.
use mathlib.Core.Path.{◌≡◌, refl, sym, ◌∙◌, subst}
use Rattle.std.proofs.Common.{inl, inr, None, List, [], ◌∷◌, length, arith}
use Rattle.ir_model.specs.Forest.{Entity, an_op, a_block, a_region, a_value, the_block}
use Rattle.ir_model.specs.Nesting.{In, Inside, itself, below, IsClosed, IsLinked, children, names_of}
use Rattle.ir_model.specs.Edits.{MayJoin}
use Rattle.ir_model.specs.Changes.{Removes, unlist}
use Rattle.ir_model.specs.Subtree.{ListsSubtree}
use Rattle.ir_model.specs.SmallForests.{Small, n0, n1, n2, n3, n4, n5, small_ids, result}
use Rattle.ir_model.specs.HostileRows.{nested_twice, HostileEdits, self_named, other_left, EraseInnerSuccessor}
use Rattle.ir_model.proofs.Found.{held}
use Rattle.ir_model.proofs.Removal.{one_size}
use Rattle.ir_model.proofs.SmallChecks.{in_no_list, inside_among, not_inside, distinct_entities}

-- the user outside
abbrev out : List Small
out = n2 ∷ []

-- the user inside
abbrev within : List Small
within = n2 ∷ n3 ∷ []

user_unlinked : (y : Entity small_ids) → In (an_op n3) (children (nested_twice out) y) → ⊥
user_unlinked y h = in_no_list (nested_twice out) (an_op n3) refl (y, h)

-- what lies inside what
inner_block : (ops : List Small) → Inside (nested_twice ops) (an_op n1) (a_block n1)
inner_block ops = below {c = a_region n1} (inl refl) (below {c = an_op n1} (inl refl) itself)

in_region : (ops : List Small) → Inside (nested_twice ops) (a_region n0) (an_op n1)
in_region ops = below {c = a_block n0} (inl refl) (below {c = a_region n0} (inl refl) itself)

in_outer_block : (ops : List Small) → Inside (nested_twice ops) (a_block n0) (a_region n1)
in_outer_block ops = below {c = an_op n1} (inl refl) (below {c = a_block n0} (inl refl) itself)

user_in_region : Inside (nested_twice within) (a_region n1) (an_op n3)
user_in_region = below {c = a_block n1} (inr (inl refl)) (below {c = a_region n1} (inl refl) itself)

user_in_block : Inside (nested_twice within) (a_block n0) (an_op n3)
user_in_block = below {c = a_block n1} (inr (inl refl)) (below {c = a_region n1} (inl refl) (in_outer_block within))

region_closed : IsClosed (nested_twice within) (a_region n1)
region_closed n3 d h i = user_in_region
region_closed _ d h i = elim h [ ]

block_closed : IsClosed (nested_twice within) (a_block n0)
block_closed n3 d h i = user_in_block
block_closed _ d h i = elim h [ ]

-- the user outside is inside neither
not_in_region : Inside (nested_twice out) (a_region n1) (an_op n3) → ⊥
not_in_region = not_inside (nested_twice out) (a_region n1) (a_region n1 ∷ a_block n1 ∷ an_op n2 ∷ []) (an_op n3) (inl refl) refl refl

not_in_block : Inside (nested_twice out) (a_block n0) (an_op n3) → ⊥
not_in_block = not_inside (nested_twice out) (a_block n0) (a_block n0 ∷ an_op n1 ∷ a_region n1 ∷ a_block n1 ∷ an_op n2 ∷ []) (an_op n3) (inl refl) refl refl

constant_in_region : Inside (nested_twice out) (a_region n1) (an_op n2)
constant_in_region = below {c = a_block n1} (inl refl) (below {c = a_region n1} (inl refl) itself)

-- the constant has nothing inside but itself
past_constant : (x : Entity small_ids) → (x ≡ an_op n2 → ⊥) → Inside (nested_twice out) (an_op n2) x → ⊥
past_constant x apart h = elim (inside_among (nested_twice out) (an_op n2) (an_op n2 ∷ []) (inl refl) refl x h) [ inl e ↦ apart e | inr k ↦ elim k [ ] ]

outward : MayJoin (nested_twice out) (a_block n0) (a_block n1)
outward = (λ e. cc, by)
  where
    by : (x : Entity small_ids) → In x (an_op n2 ∷ []) → (Inside (nested_twice out) x (a_block n0) → ⊥) × (Inside (nested_twice out) x (a_block n1) → ⊥)
    by x (inl e) = (
      λ h. past_constant (a_block n0) (λ k. cc) (subst (λ y. Inside (nested_twice out) y (a_block n0)) e h),
      λ h. past_constant (a_block n1) (λ k. cc) (subst (λ y. Inside (nested_twice out) y (a_block n1)) e h),
    )
    by x (inr k) = elim k [ ]

blocks_outward : MayJoin (nested_twice out) (a_region n0) (a_region n1)
blocks_outward = (λ e. cc, by)
  where
    past_block : (x : Entity small_ids) → (In x (a_block n1 ∷ an_op n2 ∷ []) → ⊥) → Inside (nested_twice out) (a_block n1) x → ⊥
    past_block x apart h = apart (inside_among (nested_twice out) (a_block n1) (a_block n1 ∷ an_op n2 ∷ []) (inl refl) refl x h)

    by : (x : Entity small_ids) → In x (a_block n1 ∷ []) → (Inside (nested_twice out) x (a_region n0) → ⊥) × (Inside (nested_twice out) x (a_region n1) → ⊥)
    by x (inl e) = (
      λ h. past_block (a_region n0) (λ k. elim k [ inl a ↦ cc | inr b ↦ elim b [ inl a ↦ cc | inr c ↦ elim c [ ] ] ]) (subst (λ y. Inside (nested_twice out) y (a_region n0)) e h),
      λ h. past_block (a_region n1) (λ k. elim k [ inl a ↦ cc | inr b ↦ elim b [ inl a ↦ cc | inr c ↦ elim c [ ] ] ]) (subst (λ y. Inside (nested_twice out) y (a_region n1)) e h),
    )
    by x (inr k) = elim k [ ]

pub hostile_edits : HostileEdits
hostile_edits = record {
  retarget = λ c. (let linked = held n1 (held _ (held n0 c)) in let k = held _ linked n3 (inr (inl refl)) in user_unlinked k.0 k.1);
  retarget_linked = record { value = n0; found = refl; holds = record { value = _; found = refl; holds = record { value = n1; found = refl; holds = record { value = _; found = refl; holds = inside_linked } } } };
  retarget_unused = record { value = n1; found = refl; holds = record { value = _; found = refl; holds = record { value = n0; found = refl; holds = record { value = _; found = refl; holds = none_named } } } };
  append_inward = λ c. ((held _ (held n0 (held _ (held n1 c)))).1 (an_op n1) (inl refl)).0 (inner_block out);
  append_outward = record { value = n0; found = refl; holds = record { value = _; found = refl; holds = record { value = n1; found = refl; holds = record { value = _; found = refl; holds = outward } } } };
  append_to_itself = λ c. (held n0 (held n0 c).1).1.0 refl;
  append_inner_to_itself = λ c. (held n1 (held n1 c).1).1.0 refl;
  append_blocks_inward = λ c. ((held n0 (held n1 c).1).1.1 (a_block n0) (inl refl)).0 (in_outer_block out);
  append_blocks_outward = record { value = n0; found = refl; holds = (refl, record { value = n1; found = refl; holds = (refl, blocks_outward) }) };
  before_itself = λ c. (let beside = held _ (held n3 (held _ (held n3 c))) in user_unlinked beside.1.0 beside.1.1);
  linked_before_itself = λ c. (held _ (held n2 (held _ (held n2 c)))).0 (a_block n1, inl refl);
  before_another = record { value = n3; found = refl; holds = record { value = _; found = refl; holds = record { value = n2; found = refl; holds = record { value = _; found = refl; holds = (λ k. user_unlinked k.0 k.1, (a_block n1, inl refl, not_inside (nested_twice out) (an_op n3) (an_op n3 ∷ []) (a_block n1) (inl refl) refl refl)) } } } };
  move_inward = λ c. held _ (held n1 (held n0 c).1) (in_region out);
  move_outward = record { value = n1; found = refl; holds = (refl, record { value = n0; found = refl; holds = record { value = _; found = refl; holds = not_inside (nested_twice out) (a_region n1) (a_region n1 ∷ a_block n1 ∷ an_op n2 ∷ []) (an_op n0) (inl refl) refl refl } }) };
  erase_region = λ c. not_in_region (held n1 (held _ (held n1 c)) n3 (a_value (result n2 n0)) (inl refl) constant_in_region);
  erase_region_closed = record { value = n1; found = refl; holds = record { value = _; found = refl; holds = record { value = n1; found = refl; holds = region_closed } } };
  erase_block = λ c. not_in_block (held _ (held n0 c) n3 (the_block n0) (inr (inl refl)) itself);
  erase_block_closed = record { value = n0; found = refl; holds = record { value = _; found = refl; holds = block_closed } };
}
  where
    inside_linked : (o : Small) → In (the_block n0) (names_of (nested_twice within) o) → IsLinked (nested_twice within) (an_op o)
    inside_linked n3 h = (a_block n1, inr (inl refl))
    inside_linked _ h = elim h [ ]

    none_named : (o : Small) → In (the_block n1) (names_of (nested_twice out) o) → IsLinked (nested_twice out) (an_op o)
    none_named n3 (inl e) = cc
    none_named n3 (inr (inl e)) = let s : n1 ≡ n0 = cc in cc
    none_named n3 (inr (inr (inl e))) = let s : n1 ≡ n0 = cc in cc
    none_named n3 (inr (inr (inr k))) = elim k [ ]
    none_named _ h = elim h [ ]

-- ## A block that is named from inside

self_closed : IsClosed (self_named []) (a_block n0)
self_closed n0 d h i = below {c = a_block n0} (inl refl) itself
self_closed _ d h i = elim h [ ]

both_listed : ListsSubtree (self_named []) (a_block n0) (a_block n0 ∷ an_op n0 ∷ [])
both_listed = record {
  once = distinct_entities (a_block n0 ∷ an_op n0 ∷ []) refl;
  exact = λ x. (to x, inside_among (self_named []) (a_block n0) (a_block n0 ∷ an_op n0 ∷ []) (inl refl) refl x);
}
  where
    to : (x : Entity small_ids) → In x (a_block n0 ∷ an_op n0 ∷ []) → Inside (self_named []) (a_block n0) x
    to x (inl e) = subst (Inside (self_named []) (a_block n0)) (sym e) itself
    to x (inr (inl e)) = subst (Inside (self_named []) (a_block n0)) (sym e) (below {c = a_block n0} (inl refl) itself)
    to x (inr (inr k)) = elim k [ ]

op_closed : IsClosed (self_named []) (an_op n0)
op_closed n0 d h i = itself
op_closed _ d h i = elim h [ ]

named_outside : IsClosed (self_named (n0 ∷ [])) (a_block n0) → ⊥
named_outside closed = not_inside (self_named (n0 ∷ [])) (a_block n0) (a_block n0 ∷ an_op n0 ∷ []) (an_op n1) (inl refl) refl refl (closed n1 (the_block n0) (inl refl) itself)

-- the block has nothing inside but itself and the operation
in_both : (x : Entity small_ids) → Inside (self_named []) (a_block n0) x → In x (a_block n0 ∷ an_op n0 ∷ [])
in_both = inside_among (self_named []) (a_block n0) (a_block n0 ∷ an_op n0 ∷ []) (inl refl) refl

removed : Removes (self_named []) (a_block n0) (other_left.forest)
removed = record {
  ops_inside = λ o h. gone o (in_both (an_op o) h);
  ops_outside = outside;
  blocks_inside = λ b h. refl;
  blocks_outside = blocks_outside;
  regions_inside = λ r h. refl;
  regions_outside = λ r h. refl;
}
  where
    gone : (o : Small) → In {A = Entity small_ids} (an_op o) (a_block n0 ∷ an_op n0 ∷ []) → other_left.forest.ops o ≡ None
    gone n0 h = refl
    gone n1 h = absurd (elim h [ inl e ↦ cc | inr k ↦ elim k [ inl e ↦ cc | inr z ↦ elim z [ ] ] ])
    gone n2 h = refl
    gone n3 h = refl
    gone n4 h = refl
    gone n5 h = refl

    outside : (o : Small) → (Inside (self_named []) (a_block n0) (an_op o) → ⊥) → other_left.forest.ops o ≡ (unlist (a_block n0) (self_named [])).ops o
    outside n0 h = absurd (h (below {c = a_block n0} (inl refl) itself))
    outside n1 h = refl
    outside n2 h = refl
    outside n3 h = refl
    outside n4 h = refl
    outside n5 h = refl

    blocks_outside : (b : Small) → (Inside (self_named []) (a_block n0) (a_block b) → ⊥) → other_left.forest.blocks b ≡ (unlist (a_block n0) (self_named [])).blocks b
    blocks_outside n0 h = absurd (h itself)
    blocks_outside n1 h = refl
    blocks_outside n2 h = refl
    blocks_outside n3 h = refl
    blocks_outside n4 h = refl
    blocks_outside n5 h = refl

pub erase_inner_successor : EraseInnerSuccessor
erase_inner_successor = record {
  closed = self_closed;
  allowed = record { value = n0; found = refl; holds = record { value = _; found = refl; holds = self_closed } };
  erased = λ new. record { value = n0; found = refl; holds = (removed, refl) };
  two = (a_block n0 ∷ an_op n0 ∷ [], both_listed, refl);
  not_one = λ s. (let e : 2 ≡ length s.0 = one_size (self_named []) (a_block n0) (a_block n0 ∷ an_op n0 ∷ []) s.0 both_listed s.1 in let t : 2 ≡ 1 = e ∙ s.2 in omega (arith, t));
  block_gone = λ g r. r.blocks_inside n0 itself;
  op_gone = λ g r. r.ops_inside n0 (below {c = a_block n0} (inl refl) itself);
  other_stays = λ g r. r.ops_outside n1 (not_inside (self_named []) (a_block n0) (a_block n0 ∷ an_op n0 ∷ []) (an_op n1) (inl refl) refl refl);
  op_alone = record { value = n0; found = refl; holds = record { value = _; found = refl; holds = op_closed } };
  not_closed = named_outside;
  refused = λ c. named_outside (held _ (held n0 c));
}
