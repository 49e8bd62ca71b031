-- What comes after an entity in post-order and in preorder.
use Rattle.std.proofs.Common.{◌≡◌, List, [], ◌∷◌, ◌++◌, Option, Some, None, refl, sym, ap, ◌∙◌, subst}
use Rattle.std.proofs.lemmas.List.{append_assoc, append-nil}
use Rattle.ir_model.specs.Ids.{Distinct}
use Rattle.ir_model.specs.Nesting.{Within}
use Rattle.ir_model.specs.Parent.{first_of}
use Rattle.ir_view.specs.Orders.{IsOrder, no_more, one_more, nothing, alone}
use Rattle.ir_view.proofs.Splits.{unique-split}
use Rattle.ir_view.proofs.Pieces.{Stands, stands, stands-self, stands-down, parts, opened}

module _ {E : Type 0} where
  -- what comes first of two lists
  first-left : (xs ys : List E) (x : E) → first_of xs ≡ Some x → first_of (xs ++ ys) ≡ Some x
  first-left [] ys x e = absurd cc
  first-left (y ∷ xs) ys x e = e

  first-of-parts : (whole front xs ys zs : List E) (x : E) → whole ≡ front ++ zs → front ≡ xs ++ ys → first_of xs ≡ Some x → first_of whole ≡ Some x
  first-of-parts whole front xs ys zs x is parted e =
      ap first_of (is ∙ ap (λ w. w ++ zs) parted) ∙ first-left (xs ++ ys) zs x (first-left xs ys x e)

  module _ (lists : E → List E) where
    none-listed : {ahead behind : E → List E} (zs : List E) → IsOrder ahead behind lists [] zs → zs ≡ []
    none-listed _ no_more = refl

    -- the listing of one stands at the front of that of what it stands first in
    pub record Leads (start current : E) : Type 0 where
      pub leads : (zs : List E) → IsOrder nothing alone lists (start ∷ []) zs → (xs : List E) × (ys : List E) × IsOrder nothing alone lists (current ∷ []) xs × (zs ≡ xs ++ ys)

    pub leads-self : (e : E) → Leads e e
    leads-self e = record { leads = λ zs h. (zs, [], h, sym (append-nil zs)) }

    pub leads-down : (start e c : E) (cs : List E) → lists e ≡ c ∷ cs → Leads start e → Leads start c
    leads-down start e c cs is l = record {
      leads = λ zs h.
          let m = l.leads zs h in
          let o = opened nothing alone lists e m.0 m.2 in
          let n = parts nothing alone lists (c ∷ []) cs o.0 (subst (λ es. IsOrder nothing alone lists es o.0) is o.1) in
          (n.0, n.1 ++ (e ∷ [] ++ m.1), n.2, m.3 ∙ ap (λ w. w ++ m.1) (o.2 ∙ ap (λ w. w ++ e ∷ []) n.4) ∙ append_assoc (n.0 ++ n.1) (e ∷ []) m.1 ∙ append_assoc n.0 n.1 (e ∷ [] ++ m.1));
    }

    -- a listing begins with the leaf that leads it
    pub leads-first : (start leaf : E) → lists leaf ≡ [] → Leads start leaf → (zs : List E) → IsOrder nothing alone lists (start ∷ []) zs → first_of zs ≡ Some leaf
    leads-first start leaf none l zs h =
        let m = l.leads zs h in
        let o = opened nothing alone lists leaf m.0 m.2 in
        let empty : o.0 ≡ [] = none-listed o.0 (subst (λ es. IsOrder nothing alone lists es o.0) none o.1) in
        ap first_of (m.3 ∙ ap (λ w. w ++ m.1) (o.2 ∙ ap (λ w. w ++ leaf ∷ []) empty))

    module _ (root : E) (whole : List E) (once : Distinct whole) where
      module _ (is_whole : IsOrder nothing alone lists (root ∷ []) whole) (here : E) (before behind : List E) (splits : whole ≡ before ++ here ∷ behind) where
        behind-is : (s : Stands nothing alone lists whole here) → behind ≡ s.back
        behind-is s =
            unique-split here before behind (s.front ++ s.inner) s.back (subst Distinct splits once)
            (sym splits ∙ s.is ∙ ap (λ w. s.front ++ w) (append_assoc s.inner (here ∷ []) s.back) ∙ sym (append_assoc s.front s.inner (here ∷ s.back)))

        module _ (p : E) (within : Within lists root p) (us : List E) where
          -- after an entity comes the first of the one beside it
          pub post-sibling : (v y : E) (vs : List E) → lists p ≡ us ++ here ∷ v ∷ vs → ((zs : List E) → IsOrder nothing alone lists (v ∷ []) zs → first_of zs ≡ Some y) → first_of behind ≡ Some y
          post-sibling v y vs is first =
              let s = stands nothing alone lists root whole is_whole p within in
              let c = stands-down nothing alone lists whole p here us (v ∷ vs) is s in
              let n = parts nothing alone lists (v ∷ []) vs c.others c.listed in
              first-of-parts behind c.others n.0 n.1 (p ∷ s.back) y (behind-is c.stands ∙ c.behind_it) n.4 (first n.0 n.2)

          -- and after the last of a list what it stands in
          pub post-last : lists p ≡ us ++ here ∷ [] → first_of behind ≡ Some p
          post-last is =
              let s = stands nothing alone lists root whole is_whole p within in
              let c = stands-down nothing alone lists whole p here us [] is s in
              ap first_of (behind-is c.stands ∙ c.behind_it ∙ ap (λ w. w ++ (p ∷ [] ++ s.back)) (none-listed c.others c.listed))

      -- and after the root comes nothing
      pub post-root : (is_whole : IsOrder nothing alone lists (root ∷ []) whole) (here : E) (before behind : List E) → whole ≡ before ++ here ∷ behind → here ≡ root → first_of behind ≡ None
      post-root is_whole here before behind splits e =
          let s = stands-self nothing alone lists root whole is_whole in
          ap first_of (behind-is is_whole root before behind (splits ∙ ap (λ z. before ++ z ∷ behind) e) s.0 ∙ s.1)

    -- in the list this comes after all that is inside x
    pub record After (whole : List E) (x : E) (y : Option E) : Type 0 where
      pub after : (s : Stands alone nothing lists whole x) → first_of s.back ≡ y

    pub after-last : (whole : List E) (p x : E) (us : List E) (y : Option E) → lists p ≡ us ++ x ∷ [] → After whole x y → After whole p y
    after-last whole p x us y is a = record {
      after = λ s.
          let c = stands-down alone nothing lists whole p x us [] is s in
          ap first_of (sym (c.behind_it ∙ ap (λ w. w ++ s.back) (none-listed c.others c.listed))) ∙ a.after c.stands;
    }

    pub begins : (e : E) (es zs : List E) → IsOrder alone nothing lists (e ∷ es) zs → first_of zs ≡ Some e
    begins e es _ (one_more inner rest) = refl

    module _ (root : E) (whole : List E) (is_whole : IsOrder alone nothing lists (root ∷ []) whole) where
      pub after-root : (y : Option E) → After whole root y → y ≡ None
      after-root y a = let s = stands-self alone nothing lists root whole is_whole in sym (a.after s.0) ∙ ap first_of s.1

      pub after-sibling : (p x v : E) (us vs : List E) (y : Option E) → Within lists root p → lists p ≡ us ++ x ∷ v ∷ vs → After whole x y → y ≡ Some v
      after-sibling p x v us vs y within is a =
          let s = stands alone nothing lists root whole is_whole p within in
          let c = stands-down alone nothing lists whole p x us (v ∷ vs) is s in
          sym (a.after c.stands) ∙ ap first_of c.behind_it ∙ first-left c.others (nothing p ++ s.back) v (begins v vs c.others c.listed)

      module _ (once : Distinct whole) (here : E) (within : Within lists root here) (before behind : List E) (splits : whole ≡ before ++ here ∷ behind) where
        behind-inner : (s : Stands alone nothing lists whole here) → behind ≡ s.inner ++ s.back
        behind-inner s =
            unique-split here before behind s.front ((s.inner ++ []) ++ s.back) (subst Distinct splits once) (sym splits ∙ s.is)
            ∙ ap (λ w. w ++ s.back) (append-nil s.inner)

        -- after an entity comes what stands in it first
        pub pre-child : (c : E) (cs : List E) → lists here ≡ c ∷ cs → first_of behind ≡ Some c
        pre-child c cs is =
            let s = stands alone nothing lists root whole is_whole here within in
            ap first_of (behind-inner s) ∙ first-left s.inner s.back c (begins c cs s.inner (subst (λ es. IsOrder alone nothing lists es s.inner) is s.listed))

        -- and where nothing does what comes after all inside it
        pub pre-leaf : lists here ≡ [] → After whole here (first_of behind)
        pre-leaf is = record {
          after = λ s. ap first_of (sym (behind-inner s ∙ ap (λ w. w ++ s.back) (none-listed s.inner (subst (λ es. IsOrder alone nothing lists es s.inner) is s.listed))));
        }
