-- What the rows of all edits share: a map is told by its rows.
use mathlib.Core.Path.{◌≡◌, refl, sym, subst, fun_ext}
use Rattle.std.proofs.Common.{Some, None}
use Rattle.ir_model.specs.declared.answer.Answer.{Answer}
use Rattle.ir_model.specs.Ids.{Fresh, counts}
use Rattle.ir_model.specs.Edits.{Edit, State, Change, The, answer, needs}
use Rattle.ir_model.specs.EditStart.{OpName, BlockName, RegionName, o0, o1, o2, o3, o4, o5, o6, o7, b0, b1, b2, b3, b4, b5, b6, r0, r1, r2, r3, r4, r5, r6, row_ids, row_dialect, row_behaviour, start, Leads}
use Rattle.ir_model.proofs.Unique.{Change-unique}

module _ {A : Type 0} where
  -- two maps from operations that agree at each are one
  pub same_ops : (f g : OpName → A) → f o0 ≡ g o0 → f o1 ≡ g o1 → f o2 ≡ g o2 → f o3 ≡ g o3 → f o4 ≡ g o4 → f o5 ≡ g o5 → f o6 ≡ g o6 → f o7 ≡ g o7 → f ≡ g
  same_ops f g a b c d e h i j = fun_ext by
    where
      by : (o : OpName) → f o ≡ g o
      by o0 = a
      by o1 = b
      by o2 = c
      by o3 = d
      by o4 = e
      by o5 = h
      by o6 = i
      by o7 = j

  -- two maps from blocks that agree at each are one
  pub same_blocks : (f g : BlockName → A) → f b0 ≡ g b0 → f b1 ≡ g b1 → f b2 ≡ g b2 → f b3 ≡ g b3 → f b4 ≡ g b4 → f b5 ≡ g b5 → f b6 ≡ g b6 → f ≡ g
  same_blocks f g a b c d e h i = fun_ext by
    where
      by : (o : BlockName) → f o ≡ g o
      by b0 = a
      by b1 = b
      by b2 = c
      by b3 = d
      by b4 = e
      by b5 = h
      by b6 = i

  -- two maps from regions that agree at each are one
  pub same_regions : (f g : RegionName → A) → f r0 ≡ g r0 → f r1 ≡ g r1 → f r2 ≡ g r2 → f r3 ≡ g r3 → f r4 ≡ g r4 → f r5 ≡ g r5 → f r6 ≡ g r6 → f ≡ g
  same_regions f g a b c d e h i = fun_ext by
    where
      by : (o : RegionName) → f o ≡ g o
      by r0 = a
      by r1 = b
      by r2 = c
      by r3 = d
      by r4 = e
      by r5 = h
      by r6 = i

-- two states with the same parts are one
pub same_state : {s t : State row_ids row_dialect} → s.forest.ops ≡ t.forest.ops → s.forest.blocks ≡ t.forest.blocks → s.forest.regions ≡ t.forest.regions → s.store ≡ t.store → s.tables ≡ t.tables → s ≡ t
same_state a b c d e = λ i. record { forest = record { ops = a i; blocks = b i; regions = c i }; store = d i; tables = e i }

-- what is found is it
pub here : {A : Type 0} {P : A → Type 0} (x : A) → P x → The (Some x) P
here x p = record { value = x; found = refl; holds = p }

-- a change is the only one, and so the row follows from it
pub leads : {edit : Edit row_dialect} {new : Fresh row_ids} {given : Answer} {t neighbour : State row_ids row_dialect}
    → Change row_behaviour start edit new t → answer start edit ≡ given → needs edit ≡ counts row_ids new → (neighbour ≡ t → ⊥) → Leads edit new given t neighbour
leads {edit} {new} {given} {t} {neighbour} there answered makes apart = record {
  there = there;
  nowhere_else = λ other change. Change-unique row_behaviour edit start other t new change there;
  not_beside = λ change. apart (Change-unique row_behaviour edit start neighbour t new change there);
  answered = answered;
  makes = makes;
}

-- what holds of what is found
pub out : {A : Type 0} {P : A → Type 0} (x : A) → The (Some x) P → P x
out {A} {P} x t = let e : Some t.value ≡ Some x = sym t.found in let f : t.value ≡ x = cc in subst P f t.holds

-- nothing is found
pub none : {A : Type 0} {P : A → Type 0} → The None P → ⊥
none {A} {P} t = let e : None ≡ Some t.value = t.found in cc
