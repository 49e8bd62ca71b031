-- Facts of small forests that are settled by going through all names.
use mathlib.Core.Path.{◌≡◌, refl, sym, ap, ◌∙◌, subst}
use Rattle.std.proofs.Common.{ℕ, zero, suc, inl, inr, ◌↔◌, Bool, true, false, ◌&&◌, not, List, [], ◌∷◌, ◌++◌, map}
use Rattle.std.specs.List.{list_any, list_all}
use Rattle.ir_model.specs.Forest.{Forest, Value, Operand, Entity, an_op, a_block, a_region, a_value, same_value, same_entity}
use Rattle.ir_model.specs.Nesting.{In, itself, below, Inside, IsLinked, children, operands_of}
use Rattle.ir_model.specs.Uses.{Use, IsUse, AreUses}
use Rattle.ir_model.specs.SmallForests.{Small, n0, n1, n2, n3, n4, n5, place, same_small, small_ids, bare}
use Rattle.ir_model.specs.Ids.{Distinct}
use Rattle.ir_model.proofs.Nests.{Absent-not_in, In-left, In-right, In-map}
use Rattle.ir_model.proofs.Renaming.{Tells}
use Rattle.ir_model.proofs.Loops.{Lawful}
use Rattle.ir_model.proofs.TwoRuns.{number_tells}
use Rattle.ir_model.proofs.Redirected.{value_tells, both_true}
use Rattle.ir_model.proofs.KeepsNew.{any_in}
use Rattle.ir_model.proofs.KeepsErase.{same_self, same_tells}

-- the name at the place
named_at : ℕ → Small
named_at n = elim n [ zero ↦ n0 | suc a ↦ elim a [ zero ↦ n1 | suc b ↦ elim b [ zero ↦ n2 | suc c ↦ elim c [ zero ↦ n3 | suc d ↦ elim d [ zero ↦ n4 | suc e ↦ n5 ] ] ] ] ]

back : (a : Small) → named_at (place a) ≡ a
unfolding named_at
back n0 = refl
back n1 = refl
back n2 = refl
back n3 = refl
back n4 = refl
back n5 = refl

pub small_tells : Tells same_small
small_tells a b = (λ e. sym (back a) ∙ ap named_at ((number_tells (place a) (place b)).0 e) ∙ back b, λ e. (number_tells (place a) (place b)).1 (ap place e))

pub lawful_small : Lawful small_ids
lawful_small = record { same_use = same_small; ops = small_tells; blocks = small_tells; regions = small_tells; numbers = small_tells; uses = small_tells }

both : (p q : Bool) → p ≡ true → q ≡ true → (p && q) ≡ true
both p q e g = rw (e, g)

-- all names
abbrev pub names : List Small
names = n0 ∷ n1 ∷ n2 ∷ n3 ∷ n4 ∷ n5 ∷ []

each_in : {A : Type 0} (P : A → Bool) (xs : List A) → list_all P xs ≡ true → (a : A) → In a xs → P a ≡ true
each_in P [] h a k = elim k [ ]
each_in P (x ∷ xs) h a (inl e) = ap P e ∙ (both_true (P x) (list_all P xs) h).0
each_in P (x ∷ xs) h a (inr k) = each_in P xs (both_true (P x) (list_all P xs) h).1 a k

named : (a : Small) → In a names
named n0 = inl refl
named n1 = inr (inl refl)
named n2 = inr (inr (inl refl))
named n3 = inr (inr (inr (inl refl)))
named n4 = inr (inr (inr (inr (inl refl))))
named n5 = inr (inr (inr (inr (inr (inl refl)))))

-- what a test says of all names holds of each
pub every : (P : Small → Bool) → list_all P names ≡ true → (a : Small) → P a ≡ true
every P h a = each_in P names h a (named a)

abbrev pub same_bool : Bool → Bool → Bool
same_bool true b = b
same_bool false b = not b

same_bools : (a b : Bool) → same_bool a b ≡ true → a ≡ b
same_bools true true e = refl
same_bools true false e = cc
same_bools false true e = cc
same_bools false false e = refl

-- ## Uses

abbrev pub same_use : Use small_ids → Use small_ids → Bool
same_use u v = same_small u.user v.user && same_small u.number v.number

use_tells : Tells same_use
use_tells u v = (
  λ e. let parts = both_true (same_small u.user v.user) (same_small u.number v.number) e in λ i. record { user = (small_tells u.user v.user).0 parts.0 i; number = (small_tells u.number v.number).0 parts.1 i },
  λ e. both (same_small u.user v.user) (same_small u.number v.number) ((small_tells u.user v.user).1 (ap (λ (x : Use small_ids). x.user) e)) ((small_tells u.number v.number).1 (ap (λ (x : Use small_ids). x.number) e)),
)

abbrev pub same_operand : Operand small_ids → Operand small_ids → Bool
same_operand p q = same_small p.use_number q.use_number && same_value small_ids p.value q.value

operand_tells : Tells same_operand
operand_tells p q = (
  λ e. let parts = both_true (same_small p.use_number q.use_number) (same_value small_ids p.value q.value) e in λ i. record { use_number = (small_tells p.use_number q.use_number).0 parts.0 i; value = (value_tells lawful_small p.value q.value).0 parts.1 i },
  λ e. both (same_small p.use_number q.use_number) (same_value small_ids p.value q.value) ((small_tells p.use_number q.use_number).1 (ap (λ (x : Operand small_ids). x.use_number) e)) ((value_tells lawful_small p.value q.value).1 (ap (λ (x : Operand small_ids). x.value) e)),
)

entity_tells : Tells (same_entity small_ids)
entity_tells x y = (same_tells small_ids lawful_small x y, λ e. subst (λ z. same_entity small_ids x z ≡ true) e (same_self small_ids lawful_small x))

-- both tests say the same of each use
abbrev pub same_answers : (Use small_ids → Bool) → (Use small_ids → Bool) → Bool
same_answers p q = list_all (λ o. list_all (λ n. same_bool (p record { user = o; number = n }) (q record { user = o; number = n })) names) names

pub answered : (p q : Use small_ids → Bool) → same_answers p q ≡ true → (u : Use small_ids) → p u ≡ q u
answered p q h u =
    same_bools (p u) (q u) (every (λ n. same_bool (p record { user = u.user; number = n }) (q record { user = u.user; number = n }))
    (every (λ o. list_all (λ n. same_bool (p record { user = o; number = n }) (q record { user = o; number = n })) names) h u.user) u.number)

-- whether the use is one of these, and whether an operand has its number and names the value
abbrev pub among : List (Use small_ids) → Use small_ids → Bool
among uses u = list_any (λ y. same_use y u) uses

abbrev pub uses_value : Forest small_ids bare → Value small_ids → Use small_ids → Bool
uses_value f v u = list_any (λ p. same_operand p record { use_number = u.number; value = v }) (operands_of f u.user)

-- what a test of a list says
in_by : {A : Type 0} (same : A → A → Bool) → Tells same → (x : A) (xs : List A) → (list_any (λ y. same y x) xs ≡ true) ↔ In x xs
in_by same tells x xs = elim (any_in same tells x xs) [
  | inl p ↦ (λ _. p.1, λ _. p.0)
  | inr p ↦ (λ e. (let t : true ≡ false = sym e ∙ p.0 in cc), λ h. absurd (p.1 h))
]

-- no two are the same
abbrev pub all_differ : {A : Type 0} → (A → A → Bool) → List A → Bool
all_differ same [] = true
all_differ same (x ∷ xs) = not (list_any (λ y. same y x) xs) && all_differ same xs

distinct_by : {A : Type 0} (same : A → A → Bool) → Tells same → (xs : List A) → all_differ same xs ≡ true → Distinct xs
distinct_by same tells [] h = tt
distinct_by same tells (x ∷ xs) h =
    let parts = both_true (not (list_any (λ y. same y x) xs)) (all_differ same xs) h in
    (Absent-not_in x xs (λ k. (let t = (in_by same tells x xs).1 k in let wrong : not true ≡ true = subst (λ b. not b ≡ true) t parts.0 in cc)), distinct_by same tells xs parts.1)

pub distinct_uses : (uses : List (Use small_ids)) → all_differ same_use uses ≡ true → Distinct uses
distinct_uses uses h = distinct_by same_use use_tells uses h

pub distinct_entities : (xs : List (Entity small_ids)) → all_differ (same_entity small_ids) xs ≡ true → Distinct xs
distinct_entities xs h = distinct_by (same_entity small_ids) entity_tells xs h

pub use_told : (f : Forest small_ids bare) (v : Value small_ids) (u : Use small_ids) → (uses_value f v u ≡ true) ↔ IsUse f (a_value v) u
use_told f v u = in_by same_operand operand_tells (record { use_number = u.number; value = v }) (operands_of f u.user)

-- the list has the uses of the value, as going through all names shows
uses_exact : (f : Forest small_ids bare) (v : Value small_ids) (uses : List (Use small_ids)) → same_answers (among uses) (uses_value f v) ≡ true → (u : Use small_ids) → In u uses ↔ IsUse f (a_value v) u
uses_exact f v uses h u =
    let e : list_any (λ y. same_use y u) uses ≡ list_any (λ p. same_operand p record { use_number = u.number; value = v }) (operands_of f u.user) = answered (among uses) (uses_value f v) h u in
    let one = in_by same_use use_tells u uses in
    let other = in_by same_operand operand_tells (record { use_number = u.number; value = v }) (operands_of f u.user) in
    (λ i. other.0 (sym e ∙ one.1 i), λ i. one.0 (e ∙ other.1 i))

pub are_uses : (f : Forest small_ids bare) (v : Value small_ids) (uses : List (Use small_ids)) → all_differ same_use uses ≡ true → same_answers (among uses) (uses_value f v) ≡ true → AreUses f (a_value v) uses
are_uses f v uses d h = record { once = distinct_uses uses d; exact = uses_exact f v uses h }

-- ## What is linked, and what is inside

-- all entities
abbrev pub entities : List (Entity small_ids)
entities = map an_op names ++ map a_block names ++ map a_region names

pub every_entity : (P : Entity small_ids → Bool) → list_all P entities ≡ true → (x : Entity small_ids) → P x ≡ true
every_entity P h x = each_in P entities h x (there x)
  where
    there : (x : Entity small_ids) → In x entities
    there (an_op o) = In-left (an_op o) (map an_op names) (map a_block names ++ map a_region names) (In-map an_op o names (named o))
    there (a_block b) = In-right (a_block b) (map an_op names) (map a_block names ++ map a_region names) (In-left (a_block b) (map a_block names) (map a_region names) (In-map a_block b names (named b)))
    there (a_region r) = In-right (a_region r) (map an_op names) (map a_block names ++ map a_region names) (In-right (a_region r) (map a_block names) (map a_region names) (In-map a_region r names (named r)))

-- an entity that no list has is not linked
pub in_no_list : (f : Forest small_ids bare) (x : Entity small_ids) → list_all (λ y. not (list_any (λ z. same_entity small_ids z x) (children f y))) entities ≡ true → IsLinked f x → ⊥
in_no_list f x h k =
    let said : list_any (λ z. same_entity small_ids z x) (children f k.0) ≡ true = (in_by (same_entity small_ids) entity_tells x (children f k.0)).1 k.1 in
    let no : not (list_any (λ z. same_entity small_ids z x) (children f k.0)) ≡ true = every_entity (λ y. not (list_any (λ z. same_entity small_ids z x) (children f y))) h k.0 in
    let wrong : not true ≡ true = subst (λ b. not b ≡ true) said no in
    cc

-- what is inside e is among these, where e is and their children are
pub inside_among : (f : Forest small_ids bare) (e : Entity small_ids) (these : List (Entity small_ids)) → In e these
    → list_all (λ y. list_all (λ z. list_any (λ t. same_entity small_ids t z) these) (children f y)) these ≡ true → (x : Entity small_ids) → Inside f e x → In x these
inside_among f e these start closed x itself = start
inside_among f e these start closed x (below {c = c} h w) =
    let at = inside_among f e these start closed c w in
    let all = each_in (λ y. list_all (λ z. list_any (λ t. same_entity small_ids t z) these) (children f y)) these closed c at in
    (in_by (same_entity small_ids) entity_tells x these).0 (each_in (λ z. list_any (λ t. same_entity small_ids t z) these) (children f c) all x h)

-- and nothing else is
pub not_inside : (f : Forest small_ids bare) (e : Entity small_ids) (these : List (Entity small_ids)) (x : Entity small_ids) → In e these
    → list_all (λ y. list_all (λ z. list_any (λ t. same_entity small_ids t z) these) (children f y)) these ≡ true
    → list_any (λ t. same_entity small_ids t x) these ≡ false → Inside f e x → ⊥
not_inside f e these x start closed out h =
    let t : true ≡ false = sym ((in_by (same_entity small_ids) entity_tells x these).1 (inside_among f e these start closed x h)) ∙ out in
    cc
