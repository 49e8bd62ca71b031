-- What the model says of a forest, for walks: what is inside is live, what comes beside and around, and listings have each entity once.
use Rattle.std.proofs.Common.{◌≡◌, ◌↔◌, Bool, true, false, IsTrue, IfSome, inl, inr, List, [], ◌∷◌, ◌++◌, Option, Some, None, refl, sym, ap, ◌∙◌, subst}
use Rattle.std.specs.Option.{option_map}
use Rattle.std.proofs.lemmas.Option.{same_Some}
use Rattle.ir_model.specs.ContextIds.{context_ids}
use Rattle.ir_model.specs.Forest.{Dialect, Entity, Forest}
use Rattle.ir_model.specs.Ids.{Distinct}
use Rattle.ir_model.specs.Nesting.{In, itself, below, children, Inside, IsLive, Nested}
use Rattle.ir_model.specs.Parent.{first_of, ComesAfter, IsNext, IsParent}
use Rattle.ir_model.specs.Subtree.{ListsSubtree}
use Rattle.ir_model.proofs.Nests.{In-right}
use Rattle.ir_view.specs.Orders.{IsOrder, IsPostOrder, IsPreorder, alone, nothing}
use Rattle.ir_view.proofs.Pieces.{inside-listed, listed-inside, listed-once}
use Rattle.ir_view.proofs.Splits.{split, in-middle}
use Rattle.ir_view.proofs.Steps.{After, after-last, after-root, after-sibling, post-last, post-root, post-sibling, pre-child, pre-leaf}

-- a list without a first item is empty
pub first-none : {E : Type 0} (xs : List E) → first_of xs ≡ None → xs ≡ []
first-none [] e = refl
first-none (x ∷ xs) e = absurd cc

-- what was told apart
pub told-apart : (b : Bool) (P : Type 0) → IsTrue b ↔ P → b ≡ false → P → ⊥
told-apart b P told e p = let t : b ≡ true = told.1 p in absurd cc

-- what is told of what an answer means holds of the answer
pub told-some : {A : Type 0} (means : A → Entity context_ids) (P : Entity context_ids → Type 0) (o : Option A) (p : Entity context_ids) → option_map means o ≡ Some p → P p → IfSome o (λ x. P (means x))
told-some means P None p e h = tt
told-some means P (Some x) p e h = subst P (sym (same_Some _ _ e)) h

module _ {W : Dialect} (f : Forest context_ids W) (nested : Nested f) where
  -- what is inside a live entity is live
  pub inside_live : (root x : Entity context_ids) → IsLive f root → Inside f root x → IsLive f x
  inside_live root x live itself = live
  inside_live root x live (below {c = c} h w) = nested.live x c h

  -- what is inside the root, and not the root itself, stands in something inside it
  pub owner-inside : (root x : Entity context_ids) → (x ≡ root → ⊥) → Inside f root x → (p : Entity context_ids) × In x (children f p) × Inside f root p
  owner-inside root x other itself = absurd (other refl)
  owner-inside root x other (below {c = c} h w) = (c, h, w)

  -- the first child is a child
  pub first-inside : (root x c : Entity context_ids) → Some c ≡ first_of (children f x) → Inside f root x → Inside f root c
  first-inside root x c e w = below (by (children f x) e) w
    where
      by : (cs : List (Entity context_ids)) → Some c ≡ first_of cs → In c cs
      by [] e = absurd cc
      by (d ∷ ds) e = let s : c ≡ d = cc in inl s

  -- the list in which an entity stands, with what comes next
  pub record Beside (root x y : Entity context_ids) : Type 0 where
    pub owner : Entity context_ids
    pub inside : Inside f root owner
    pub front : List (Entity context_ids)
    pub back : List (Entity context_ids)
    pub is : children f owner ≡ front ++ x ∷ y ∷ back

  pub beside : (root x y : Entity context_ids) → (x ≡ root → ⊥) → Inside f root x → ComesAfter f x y → Beside root x y
  beside root x y other w after =
      let p = owner-inside root x other w in
      let here : In x (children f after.0) = subst (In x) (sym after.1.2) (in-middle x after.1.0 (y ∷ after.1.1)) in
      record { owner = after.0; inside = subst (Inside f root) (nested.one_list x p.0 after.0 p.1 here) p.2; front = after.1.0; back = after.1.1; is = after.1.2 }

  pub beside-inside : (root x y : Entity context_ids) → Beside root x y → Inside f root y
  beside-inside root x y b = below (subst (In y) (sym b.is) (In-right y b.front (x ∷ y ∷ b.back) (inr (inl refl)))) b.inside

  -- the list in which an entity stands last
  pub record Last (root x : Entity context_ids) (answer : Option (Entity context_ids)) : Type 0 where
    pub owner : Entity context_ids
    pub inside : Inside f root owner
    pub front : List (Entity context_ids)
    pub is : children f owner ≡ front ++ x ∷ []
    pub answers : answer ≡ Some owner

  pub last : (root x : Entity context_ids) (answer : Option (Entity context_ids)) → (x ≡ root → ⊥) → Inside f root x → IsNext f x None → IsParent f x answer → Last root x answer
  last root x answer other w none parent =
      let p = owner-inside root x other w in
      let m = split x (children f p.0) p.1 in
      record { owner = p.0; inside = p.2; front = m.0; is = m.2 ∙ ap (λ ys. m.0 ++ x ∷ ys) (by m.1 m.2); answers = found answer parent }
    where
      p : (p : Entity context_ids) × In x (children f p) × Inside f root p
      p = owner-inside root x other w

      by : (vs : List (Entity context_ids)) → children f p.0 ≡ (split x (children f p.0) p.1).0 ++ x ∷ vs → vs ≡ []
      by [] e = refl
      by (v ∷ vs) e = absurd (none v (p.0, ((split x (children f p.0) p.1).0, vs, e)))

      found : (o : Option (Entity context_ids)) → IsParent f x o → o ≡ Some p.0
      found None is = absurd (is p.0 p.1)
      found (Some q) is = ap Some (nested.one_list x q p.0 is p.1)

  -- what an entity inside the root stands in is inside the root, and is there
  pub owner-in : (root x : Entity context_ids) (answer : Option (Entity context_ids)) → (x ≡ root → ⊥) → Inside f root x → IsParent f x answer → (p : Entity context_ids) × (answer ≡ Some p) × Inside f root p
  owner-in root x answer other w parent = by answer parent
    where
      p : (p : Entity context_ids) × In x (children f p) × Inside f root p
      p = owner-inside root x other w

      by : (o : Option (Entity context_ids)) → IsParent f x o → (p : Entity context_ids) × (o ≡ Some p) × Inside f root p
      by None is = absurd (is p.0 p.1)
      by (Some q) is = (q, refl, subst (Inside f root) (sym (nested.one_list x q p.0 is p.1)) p.2)

  module _ (ahead behind : Entity context_ids → List (Entity context_ids)) (own : (e : Entity context_ids) → ahead e ++ behind e ≡ e ∷ []) (root : Entity context_ids) (xs : List (Entity context_ids)) (is : IsOrder ahead behind (children f) (root ∷ []) xs) where
    -- the listing of one has each entity once
    pub once : Distinct xs
    once =
        listed-once ahead behind (children f) own nested.one_list nested.once nested.no_cycle (root ∷ []) xs is (tt, tt)
        (λ a b x i k v w. elim i [ inl s ↦ elim k [ inl t ↦ s ∙ sym t | inr n ↦ absurd n ] | inr n ↦ absurd n ])

    pub lists : ListsSubtree f root xs
    lists = record {
      once = once;
      exact = λ x. (
        λ i. (let m = listed-inside ahead behind (children f) own (root ∷ []) xs is x i in
            elim m.1 [ inl s ↦ subst (λ z. Inside f z x) s m.2 | inr n ↦ absurd n ]),
        inside-listed ahead behind (children f) own root xs is x,
      );
    }

  module _ (root here : Entity context_ids) (within : Inside f root here) (xs before behind : List (Entity context_ids)) (splits : xs ≡ before ++ here ∷ behind) where
    module _ (is : IsPostOrder f root xs) where
      post-once : Distinct xs
      post-once = once nothing alone (λ e. refl) root xs is

      pub post-ends : here ≡ root → None ≡ first_of behind
      post-ends e = sym (post-root (children f) root xs post-once is here before behind splits e)

      pub post-beside : (v y : Entity context_ids) → (here ≡ root → ⊥) → ComesAfter f here v → ((zs : List (Entity context_ids)) → IsPostOrder f v zs → first_of zs ≡ Some y) → Some y ≡ first_of behind
      post-beside v y other after first =
          let b = beside root here v other within after in
          sym (post-sibling (children f) root xs post-once is here before behind splits b.owner b.inside b.front v y b.back b.is first)

      pub post-around : (answer : Option (Entity context_ids)) → (here ≡ root → ⊥) → IsNext f here None → IsParent f here answer → answer ≡ first_of behind
      post-around answer other none parent =
          let l = last root here answer other within none parent in
          l.answers ∙ sym (post-last (children f) root xs post-once is here before behind splits l.owner l.inside l.front l.is)

    module _ (is : IsPreorder f root xs) where
      pre-once : Distinct xs
      pre-once = once alone nothing (λ e. refl) root xs is

      pub pre-first : (c : Entity context_ids) → Some c ≡ first_of (children f here) → Some c ≡ first_of behind
      pre-first c e = by (children f here) refl e
        where
          by : (cs : List (Entity context_ids)) → children f here ≡ cs → Some c ≡ first_of cs → Some c ≡ first_of behind
          by [] s e = absurd cc
          by (d ∷ ds) s e = e ∙ sym (pre-child (children f) root xs is pre-once here within before behind splits d ds s)

      pub pre-starts : children f here ≡ [] → After (children f) xs here (first_of behind)
      pre-starts none = pre-leaf (children f) root xs is pre-once here within before behind splits none

  -- a climb from a leaf, in preorder
  module _ (root x : Entity context_ids) (within : Inside f root x) (xs : List (Entity context_ids)) (is : IsPreorder f root xs) (answer : Option (Entity context_ids)) (a : After (children f) xs x answer) where
    pub climb-ends : x ≡ root → None ≡ answer
    climb-ends e = sym (after-root (children f) root xs is answer (subst (λ z. After (children f) xs z answer) e a))

    pub climb-beside : (v : Entity context_ids) → (x ≡ root → ⊥) → ComesAfter f x v → Some v ≡ answer
    climb-beside v other after =
        let b = beside root x v other within after in
        sym (after-sibling (children f) root xs is b.owner x v b.front b.back answer b.inside b.is a)

    pub climb-up : (p : Entity context_ids) → (x ≡ root → ⊥) → IsNext f x None → IsParent f x (Some p) → After (children f) xs p answer
    climb-up p other none parent =
        let l = last root x (Some p) other within none parent in
        let s : p ≡ l.owner = same_Some _ _ l.answers in
        subst (λ z. After (children f) xs z answer) (sym s) (after-last (children f) xs l.owner x l.front answer l.is a)
