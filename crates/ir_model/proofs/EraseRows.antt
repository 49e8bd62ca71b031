-- The facts of the worked example of erasing.
use mathlib.Core.Path.{◌≡◌, refl, sym, ap, subst}
use Rattle.std.proofs.Common.{◌⊎◌, inl, inr, None, List, [], ◌∷◌}
use Rattle.ir_model.specs.Ids.{Fresh}
use Rattle.ir_model.specs.Forest.{Forest, Entity, an_op, a_block, a_region, Named, owner}
use Rattle.ir_model.specs.Nesting.{In, Inside, itself, below, IsClosed, children}
use Rattle.ir_model.specs.Changes.{Removes, unlist}
use Rattle.ir_model.specs.Edits.{Change, EraseOp, State}
use Rattle.ir_model.specs.Subtree.{ListsSubtree}
use Rattle.ir_model.specs.SmallForests.{Small, n0, n1, n2, n3, n4, n5, small_ids, bare, behaviour, result}
use Rattle.ir_model.specs.EraseRows.{used_no_more, erased_state, inside_left, ErasedInDepth}
use Rattle.ir_model.proofs.Unique.{Change-unique}
use Rattle.ir_model.proofs.WorkedRows.{outside_use}
use Rattle.ir_model.proofs.Insides.{inside_list}

-- the forest before the erase, and the one after it
abbrev f : Forest small_ids bare
f = used_no_more.forest

abbrev left : Forest small_ids bare
left = erased_state.forest

-- what goes
abbrev going : List (Entity small_ids)
going = an_op n0 ∷ a_region n0 ∷ a_block n0 ∷ an_op n1 ∷ []

down : (c x : Entity small_ids) → In c going → In x (children f c) → In x going
down c x (inl e) h = elim (let k : In x (a_region n0 ∷ []) = subst (λ y. In x (children f y)) e h in k) [ inl q ↦ inr (inl q) | inr k ↦ absurd k ]
down c x (inr (inl e)) h = elim (let k : In x (a_block n0 ∷ []) = subst (λ y. In x (children f y)) e h in k) [ inl q ↦ inr (inr (inl q)) | inr k ↦ absurd k ]
down c x (inr (inr (inl e))) h = elim (let k : In x (an_op n1 ∷ []) = subst (λ y. In x (children f y)) e h in k) [ inl q ↦ inr (inr (inr (inl q))) | inr k ↦ absurd k ]
down c x (inr (inr (inr (inl e)))) h = absurd (let k : In {A = Entity small_ids} x [] = subst (λ y. In x (children f y)) e h in k)
down c x (inr (inr (inr (inr i)))) h = elim i [ ]

goes : (x : Entity small_ids) → Inside f (an_op n0) x → In x going
goes = inside_list f (an_op n0) going (inl refl) down

in_region : Inside f (an_op n0) (a_region n0)
in_region = below {c = an_op n0} (inl refl) itself

in_block : Inside f (an_op n0) (a_block n0)
in_block = below {c = a_region n0} (inl refl) in_region

in_inner : Inside f (an_op n0) (an_op n1)
in_inner = below {c = a_block n0} (inl refl) in_block

-- of operations the first two go, of blocks and regions the first
op_goes : (o : Small) → In {A = Entity small_ids} (an_op o) going → (o ≡ n0) ⊎ (o ≡ n1)
op_goes o (inl e) = inl cc
op_goes o (inr (inl e)) = absurd cc
op_goes o (inr (inr (inl e))) = absurd cc
op_goes o (inr (inr (inr (inl e)))) = inr cc
op_goes o (inr (inr (inr (inr i)))) = elim i [ ]

removes : Removes f (an_op n0) left
removes = record {
  ops_inside = λ o h. elim (op_goes o (goes (an_op o) h)) [ inl e ↦ ap left.ops e | inr e ↦ ap left.ops e ];
  ops_outside = ops_outside;
  blocks_inside = λ b h. refl;
  blocks_outside = blocks_outside;
  regions_inside = λ r h. refl;
  regions_outside = regions_outside;
}
  where
    ops_outside : (o : Small) → (Inside f (an_op n0) (an_op o) → ⊥) → left.ops o ≡ (unlist (an_op n0) f).ops o
    ops_outside n0 out = absurd (out itself)
    ops_outside n1 out = absurd (out in_inner)
    ops_outside n2 out = refl
    ops_outside n3 out = refl
    ops_outside n4 out = refl
    ops_outside n5 out = refl

    blocks_outside : (b : Small) → (Inside f (an_op n0) (a_block b) → ⊥) → left.blocks b ≡ (unlist (an_op n0) f).blocks b
    blocks_outside n0 out = absurd (out in_block)
    blocks_outside _ out = refl

    regions_outside : (r : Small) → (Inside f (an_op n0) (a_region r) → ⊥) → left.regions r ≡ (unlist (an_op n0) f).regions r
    regions_outside n0 out = absurd (out in_region)
    regions_outside _ out = refl

closed : IsClosed f (an_op n0)
closed n0 d h i = itself
closed n1 d h i = in_inner
closed n2 d (inl e) i = elim (op_goes n3 (goes (an_op n3) (subst (λ (z : Named small_ids). Inside f (an_op n0) (owner small_ids z)) e i))) [ inl q ↦ absurd cc | inr q ↦ absurd cc ]
closed n2 d (inr k) i = elim k [ ]
closed _ d h i = elim h [ ]

listed : ListsSubtree f (an_op n0) going
listed = record { once = ((λ e. cc, (λ e. cc, (λ e. cc, tt))), ((λ e. cc, (λ e. cc, tt)), ((λ e. cc, tt), (tt, tt)))); exact = λ x. (to x, goes x) }
  where
    to : (x : Entity small_ids) → In x going → Inside f (an_op n0) x
    to x (inl e) = subst (Inside f (an_op n0)) (sym e) itself
    to x (inr (inl e)) = subst (Inside f (an_op n0)) (sym e) in_region
    to x (inr (inr (inl e))) = subst (Inside f (an_op n0)) (sym e) in_block
    to x (inr (inr (inr (inl e)))) = subst (Inside f (an_op n0)) (sym e) in_inner
    to x (inr (inr (inr (inr k)))) = elim k [ ]

erased : (new : Fresh small_ids) → Change behaviour used_no_more (EraseOp 0) new erased_state
erased new = record { value = n0; found = refl; holds = (removes, refl) }

pub erased_in_depth : ErasedInDepth
erased_in_depth = record {
  refused = outside_use.refused;
  replaced = record { value = n2; found = refl; holds = record { value = result n3 n1; found = refl; holds = record { value = n1; found = refl; holds = refl } } };
  allowed = record { value = n0; found = refl; holds = record { value = _; found = refl; holds = closed } };
  four = (going, listed, refl);
  erased = erased;
  nothing_else = λ new t c. Change-unique behaviour (EraseOp 0) used_no_more t erased_state new c (erased new);
  none_stays = λ new c. (let e : inside_left.forest.ops n0 ≡ None = ap (λ (s : State small_ids bare). s.forest.ops n0) (Change-unique behaviour (EraseOp 0) used_no_more inside_left erased_state new c (erased new)) in cc);
}
