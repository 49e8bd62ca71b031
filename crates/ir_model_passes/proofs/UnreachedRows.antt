-- Which blocks of a small region are reached, and what goes with the others.
use mathlib.Core.Path.{◌≡◌, refl, sym, ap, ◌∙◌, subst}
use Rattle.std.proofs.Common.{ℕ, ◌⊎◌, inl, inr, Bool, true, false, not, cond, Some, None, List, [], ◌∷◌}
use Rattle.std.specs.Prelude.{IsTrue}
use Rattle.std.specs.List.{filter}
use Rattle.std.specs.Option.{option_map}
use Rattle.ir_model.specs.Forest.{OpRecord, BlockRecord, Forest, Entity, an_op, a_block, a_region}
use Rattle.ir_model.specs.Nesting.{In, Inside, itself, below, children, blocks_of}
use Rattle.ir_model.specs.BlockGraph.{targets_of}
use Rattle.ir_model.specs.SmallForests.{Small, n0, n1, n2, n3, n4, n5, small_ids, same_small}
use Rattle.ir_model.proofs.SmallChecks.{small_tells}
use Rattle.ir_model_passes.specs.Unreached.{Reached, at_first, by_successor, IsUnreached, GoesUnreached, RemovesUnreached}
use Rattle.ir_model_passes.specs.MarkedForests.{block_with}
use Rattle.ir_model_passes.specs.UnreachedRows.{three_blocks, two_left, one_left, UnreachedRows}
use Rattle.ir_model_passes.proofs.Going.{none_is_not_some, some_one}
use Rattle.ir_model_passes.proofs.Unreached.{only}

first : Reached three_blocks n0 n0
first = at_first refl

second : Reached three_blocks n0 n1
second = by_successor {a = n0} n0 first (inl refl) (inl refl) (inr (inl refl))

-- no operation names the third block
never_named : (o : Small) → In n2 (targets_of three_blocks o) → ⊥
never_named n0 (inl e) = cc
never_named n0 (inr h) = elim h [ ]
never_named n1 h = elim h [ ]
never_named n2 (inl e) = cc
never_named n2 (inr h) = elim h [ ]
never_named n3 h = elim h [ ]
never_named n4 h = elim h [ ]
never_named n5 h = elim h [ ]

never : (b : Small) → Reached three_blocks n0 b → b ≡ n2 → ⊥
never b (at_first e) is = (let z : n0 ≡ n2 = some_one n0 b e ∙ is in cc)
never b (by_successor o r here names in_list) is = never_named o (subst (λ z. In z (targets_of three_blocks o)) is names)

third : IsUnreached three_blocks n0 n2
third = (inr (inr (inl refl)), λ r. never n2 r refl)

third_alone : (b : Small) → IsUnreached three_blocks n0 b → b ≡ n2
third_alone b (inl e, out) = absurd (out (subst (Reached three_blocks n0) (sym e) first))
third_alone b (inr (inl e), out) = absurd (out (subst (Reached three_blocks n0) (sym e) second))
third_alone b (inr (inr (inl e)), out) = e
third_alone b (inr (inr (inr h)), out) = elim h [ ]

-- what is inside the third block
inside_third : (x : Entity small_ids) → Inside three_blocks (a_block n2) x → (x ≡ a_block n2) ⊎ (x ≡ an_op n2)
inside_third x itself = inl refl
inside_third x (below {c = c} h w) = elim (inside_third c w) [
  | inl e ↦ in_block (subst (λ y. In x (children three_blocks y)) e h)
  | inr e ↦ absurd (let k : In x [] = subst (λ y. In x (children three_blocks y)) e h in k)
]
  where
    in_block : In x (an_op n2 ∷ []) → (x ≡ a_block n2) ⊎ (x ≡ an_op n2)
    in_block (inl e) = inr e
    in_block (inr k) = elim k [ ]

goes_third : (x : Entity small_ids) → GoesUnreached three_blocks n0 x → (x ≡ a_block n2) ⊎ (x ≡ an_op n2)
goes_third x (b, un, i) = inside_third x (subst (λ z. Inside three_blocks (a_block z) x) (third_alone b un) i)

-- the test of what goes
abbrev is_gone : Entity small_ids → Bool
is_gone (an_op o) = same_small o n2
is_gone (a_block c) = same_small c n2
is_gone (a_region r) = false

goes : (x : Entity small_ids) → IsTrue (is_gone x) → GoesUnreached three_blocks n0 x
goes (an_op o) e = (n2, third, subst (λ z. Inside three_blocks (a_block n2) (an_op z)) (sym ((small_tells o n2).0 e)) (below {c = a_block n2} (inl refl) itself))
goes (a_block c) e = (n2, third, subst (λ z. Inside three_blocks (a_block n2) (a_block z)) (sym ((small_tells c n2).0 e)) itself)
goes (a_region r) e = absurd (let k : false ≡ true = e in cc)

told : (x : Entity small_ids) → GoesUnreached three_blocks n0 x → IsTrue (is_gone x)
told x k = elim (goes_third x k) [
  | inl e ↦ subst (λ z. IsTrue (is_gone z)) (sym e) refl
  | inr e ↦ subst (λ z. IsTrue (is_gone z)) (sym e) refl
]

removed : RemovesUnreached three_blocks n0 two_left 1
removed = record { is_gone = is_gone; decides = λ x. (goes x, told x); ops = ops; blocks = blocks; regions = regions; counted = refl }
  where
    ops : (o : Small) → two_left.ops o ≡ cond (is_gone (an_op o)) None (three_blocks.ops o)
    ops n0 = refl
    ops n1 = refl
    ops n2 = refl
    ops n3 = refl
    ops n4 = refl
    ops n5 = refl

    blocks : (c : Small) → two_left.blocks c ≡ cond (is_gone (a_block c)) None (three_blocks.blocks c)
    blocks n0 = refl
    blocks n1 = refl
    blocks n2 = refl
    blocks n3 = refl
    blocks n4 = refl
    blocks n5 = refl

    regions : (r : Small) → two_left.regions r ≡ option_map (filter (λ b. not (is_gone (a_block b)))) (three_blocks.regions r)
    regions n0 = refl
    regions n1 = refl
    regions n2 = refl
    regions n3 = refl
    regions n4 = refl
    regions n5 = refl

other_count : RemovesUnreached three_blocks n0 two_left 2 → ⊥
other_count s = (let e : ◌≡◌ {A = ℕ} 2 1 = (only three_blocks n0 two_left 1 removed two_left 2 s).1 in cc)

reached_gone : (count : ℕ) → RemovesUnreached three_blocks n0 one_left count → ⊥
reached_gone count s = by (s.is_gone (a_block n1)) refl
  where
    by : (t : Bool) → s.is_gone (a_block n1) ≡ t → ⊥
    by true e = elim (goes_third (a_block n1) ((s.decides (a_block n1)).0 e)) [
      | inl k ↦ cc
      | inr k ↦ cc
    ]
    by false e = none_is_not_some (block_with []) (s.blocks n1 ∙ ap (λ t. cond t None (three_blocks.blocks n1)) e)

unreached_left : (count : ℕ) → RemovesUnreached three_blocks n0 three_blocks count → ⊥
unreached_left count s =
    let gone = (s.decides (a_block n2)).1 (n2, third, itself) in
    none_is_not_some (block_with (n2 ∷ [])) (sym (s.blocks n2 ∙ ap (λ t. cond t None (three_blocks.blocks n2)) gone))

pub unreached_rows : UnreachedRows
unreached_rows = record {
  first = first;
  second = second;
  third = third;
  removed = removed;
  other_count = other_count;
  reached_gone = reached_gone;
  unreached_left = unreached_left;
}
