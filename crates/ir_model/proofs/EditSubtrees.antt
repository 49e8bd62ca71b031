-- What is inside the entities of the start: a list with its test, and what the test tells.
use mathlib.Core.Path.{◌≡◌, refl, sym, ap, ◌∙◌}
use Rattle.std.proofs.Common.{Bool, true, false, cond, not, inl, inr, List, [], ◌∷◌}
use Rattle.ir_model.specs.Forest.{Entity, an_op, a_block, a_region, Named, owner}
use Rattle.ir_model.specs.Nesting.{In, Inside, itself, below, children, names_of, IsClosed, IsLinked}
use Rattle.ir_model.specs.EditStart.{OpName, o1, o2, o3, o5, o6, b0, b1, b2, b4, b5, r0, r3, r4, row_ids, start}

-- ## What is inside

module _ {A : Type 0} where
  -- all of the list pass the test
  abbrev pub all_pass : (A → Bool) → List A → Bool
  all_pass test [] = true
  all_pass test (x ∷ xs) = cond (test x) (all_pass test xs) false

  pub each_passes : (test : A → Bool) (xs : List A) (x : A) → all_pass test xs ≡ true → In x xs → test x ≡ true
  each_passes test [] x all h = elim h [ ]
  each_passes test (y ∷ ys) x all h = by (test y) refl (each_passes test ys x) all h
    where
      by : (t : Bool) → test y ≡ t → (all_pass test ys ≡ true → In x ys → test x ≡ true) → cond t (all_pass test ys) false ≡ true → In x (y ∷ ys) → test x ≡ true
      by true e rest all (inl same) = ap test same ∙ e
      by true e rest all (inr later) = rest all later
      by false e rest all h = absurd cc

-- the test names exactly what is inside e
pub record Tells (e : Entity row_ids) (among : Entity row_ids → Bool) : Type 0 where
  pub inside : (x : Entity row_ids) → among x ≡ true → Inside start.forest e x
  pub outside : (x : Entity row_ids) → Inside start.forest e x → among x ≡ true

-- what has the root, and the list of each that it has, has all that is inside
pub holds_all : (e : Entity row_ids) (among : Entity row_ids → Bool) → among e ≡ true → ((c : Entity row_ids) → cond (among c) (all_pass among (children start.forest c)) true ≡ true)
    → (x : Entity row_ids) → Inside start.forest e x → among x ≡ true
holds_all e among root closed x itself = root
holds_all e among root closed x (below {c = c} h w) = each_passes among (children start.forest c) x (ap (λ t. cond t (all_pass among (children start.forest c)) true) (sym (holds_all e among root closed c w)) ∙ closed c) h

-- ## The four subtrees

-- o5 and what is inside it
abbrev pub with_holder : Entity row_ids → Bool
with_holder (an_op o5) = true
with_holder (a_region r4) = true
with_holder (a_block b5) = true
with_holder (an_op o6) = true
with_holder _ = false

-- b4 and what is inside it
abbrev pub with_block : Entity row_ids → Bool
with_block (a_block b4) = true
with_block x = with_holder x

-- r3 and what is inside it
abbrev pub with_region : Entity row_ids → Bool
with_region (a_region r3) = true
with_region x = with_block x

-- r0 and what is inside it
abbrev pub with_first : Entity row_ids → Bool
with_first (a_region r0) = true
with_first (a_block b0) = true
with_first (a_block b1) = true
with_first (a_block b2) = true
with_first (an_op o1) = true
with_first (an_op o2) = true
with_first (an_op o3) = true
with_first _ = false

pub holder_tells : Tells (an_op o5) with_holder
holder_tells = record { inside = by; outside = holds_all (an_op o5) with_holder refl closed }
  where
    by : (x : Entity row_ids) → with_holder x ≡ true → Inside start.forest (an_op o5) x
    by (an_op o5) e = itself
    by (a_region r4) e = below {c = an_op o5} (inl refl) itself
    by (a_block b5) e = below {c = a_region r4} (inl refl) (below {c = an_op o5} (inl refl) itself)
    by (an_op o6) e = below {c = a_block b5} (inl refl) (below {c = a_region r4} (inl refl) (below {c = an_op o5} (inl refl) itself))
    by x e = absurd cc

    closed : (c : Entity row_ids) → cond (with_holder c) (all_pass with_holder (children start.forest c)) true ≡ true
    closed (an_op o5) = refl
    closed (a_region r4) = refl
    closed (a_block b5) = refl
    closed _ = refl

pub block_tells : Tells (a_block b4) with_block
block_tells = record { inside = by; outside = holds_all (a_block b4) with_block refl closed }
  where
    by : (x : Entity row_ids) → with_block x ≡ true → Inside start.forest (a_block b4) x
    by (a_block b4) e = itself
    by (an_op o5) e = below {c = a_block b4} (inl refl) itself
    by (a_region r4) e = below {c = an_op o5} (inl refl) (below {c = a_block b4} (inl refl) itself)
    by (a_block b5) e = below {c = a_region r4} (inl refl) (below {c = an_op o5} (inl refl) (below {c = a_block b4} (inl refl) itself))
    by (an_op o6) e = below {c = a_block b5} (inl refl) (below {c = a_region r4} (inl refl) (below {c = an_op o5} (inl refl) (below {c = a_block b4} (inl refl) itself)))
    by x e = absurd cc

    closed : (c : Entity row_ids) → cond (with_block c) (all_pass with_block (children start.forest c)) true ≡ true
    closed (an_op o5) = refl
    closed (a_region r4) = refl
    closed (a_block b4) = refl
    closed _ = refl

pub region_tells : Tells (a_region r3) with_region
region_tells = record { inside = by; outside = holds_all (a_region r3) with_region refl closed }
  where
    by : (x : Entity row_ids) → with_region x ≡ true → Inside start.forest (a_region r3) x
    by (a_region r3) e = itself
    by (a_block b4) e = below {c = a_region r3} (inl refl) itself
    by (an_op o5) e = below {c = a_block b4} (inl refl) (below {c = a_region r3} (inl refl) itself)
    by (a_region r4) e = below {c = an_op o5} (inl refl) (below {c = a_block b4} (inl refl) (below {c = a_region r3} (inl refl) itself))
    by (a_block b5) e = below {c = a_region r4} (inl refl) (below {c = an_op o5} (inl refl) (below {c = a_block b4} (inl refl) (below {c = a_region r3} (inl refl) itself)))
    by (an_op o6) e = below {c = a_block b5} (inl refl) (below {c = a_region r4} (inl refl) (below {c = an_op o5} (inl refl) (below {c = a_block b4} (inl refl) (below {c = a_region r3} (inl refl) itself))))
    by x e = absurd cc

    closed : (c : Entity row_ids) → cond (with_region c) (all_pass with_region (children start.forest c)) true ≡ true
    closed (an_op o5) = refl
    closed (a_region r4) = refl
    closed (a_block b4) = refl
    closed _ = refl

pub first_tells : Tells (a_region r0) with_first
first_tells = record { inside = by; outside = holds_all (a_region r0) with_first refl closed }
  where
    by : (x : Entity row_ids) → with_first x ≡ true → Inside start.forest (a_region r0) x
    by (a_region r0) e = itself
    by (a_block b0) e = below {c = a_region r0} (inl refl) itself
    by (a_block b1) e = below {c = a_region r0} (inr (inl refl)) itself
    by (a_block b2) e = below {c = a_region r0} (inr (inr (inl refl))) itself
    by (an_op o1) e = below {c = a_block b0} (inl refl) (below {c = a_region r0} (inl refl) itself)
    by (an_op o2) e = below {c = a_block b0} (inr (inl refl)) (below {c = a_region r0} (inl refl) itself)
    by (an_op o3) e = below {c = a_block b0} (inr (inr (inl refl))) (below {c = a_region r0} (inl refl) itself)
    by x e = absurd cc

    closed : (c : Entity row_ids) → cond (with_first c) (all_pass with_first (children start.forest c)) true ≡ true
    closed (an_op o1) = refl
    closed (a_block b0) = refl
    closed (a_region r0) = refl
    closed _ = refl

-- what nothing lists is unlinked
pub unlinked_by : (test : Entity row_ids → Bool) (x : Entity row_ids) → ((y : Entity row_ids) → all_pass test (children start.forest y) ≡ true) → test x ≡ false → IsLinked start.forest x → ⊥
unlinked_by test x all fails h = let passes = each_passes test (children start.forest h.0) x (all h.0) h.1 in cc

-- each operation that is not inside names nothing that is
pub closed_by : (e : Entity row_ids) (among : Entity row_ids → Bool) → Tells e among
    → ((o : OpName) → cond (among (an_op o)) true (all_pass (λ (d : Named row_ids). not (among (owner row_ids d))) (names_of start.forest o)) ≡ true) → IsClosed start.forest e
closed_by e among tells all o d h inside = by (among (an_op o)) refl (all o)
  where
    by : (t : Bool) → among (an_op o) ≡ t → cond t true (all_pass (λ (c : Named row_ids). not (among (owner row_ids c))) (names_of start.forest o)) ≡ true → Inside start.forest e (an_op o)
    by true p q = tells.inside (an_op o) p
    by false p q =
        let outside : not (among (owner row_ids d)) ≡ true = each_passes (λ (c : Named row_ids). not (among (owner row_ids c))) (names_of start.forest o) d q h in
        let turned : not (among (owner row_ids d)) ≡ false = ap not (tells.outside (owner row_ids d) inside) in
        absurd cc
