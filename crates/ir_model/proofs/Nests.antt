-- Lists of children, and what keeps them without cycles.
use mathlib.Core.Path.{◌≡◌, refl, sym, ap, ◌∙◌, subst}
use Rattle.std.proofs.Common.{◌≢◌, ◌⊎◌, inl, inr, List, [], ◌∷◌, ◌++◌, map}
use Rattle.ir_model.specs.Ids.{Absent, Distinct}
use Rattle.ir_model.specs.Nesting.{In, Within, itself, below}

module _ {A : Type 0} where
  pub In-append : (x : A) (xs ys : List A) → In x (xs ++ ys) → In x xs ⊎ In x ys
  In-append x [] ys h = inr h
  In-append x (y ∷ xs) ys (inl e) = inl (inl e)
  In-append x (y ∷ xs) ys (inr h) = elim (In-append x xs ys h) [ inl a ↦ inl (inr a) | inr b ↦ inr b ]

  pub In-left : (x : A) (xs ys : List A) → In x xs → In x (xs ++ ys)
  In-left x (y ∷ xs) ys (inl e) = inl e
  In-left x (y ∷ xs) ys (inr h) = inr (In-left x xs ys h)
  In-left x [] ys h = elim h [ ]

  pub In-right : (x : A) (xs ys : List A) → In x ys → In x (xs ++ ys)
  In-right x [] ys h = h
  In-right x (y ∷ xs) ys h = inr (In-right x xs ys h)

  pub In-map : {B : Type 0} (f : A → B) (x : A) (xs : List A) → In x xs → In (f x) (map f xs)
  In-map f x [] h = elim h [ ]
  In-map f x (y ∷ xs) (inl e) = inl (ap f e)
  In-map f x (y ∷ xs) (inr h) = inr (In-map f x xs h)

  pub In-map_back : {B : Type 0} (f : A → B) (y : B) (xs : List A) → In y (map f xs) → (x : A) × In x xs × (y ≡ f x)
  In-map_back f y [] h = elim h [ ]
  In-map_back f y (x ∷ xs) (inl e) = (x, inl refl, e)
  In-map_back f y (x ∷ xs) (inr h) = let more = In-map_back f y xs h in (more.0, inr more.1, more.2)

  pub Absent-not_in : (x : A) (xs : List A) → (In x xs → ⊥) → Absent x xs
  Absent-not_in x [] h = tt
  Absent-not_in x (y ∷ xs) h = (λ e. h (inl e), Absent-not_in x xs (λ i. h (inr i)))

  pub not_in-Absent : (x : A) (xs : List A) → Absent x xs → In x xs → ⊥
  not_in-Absent x [] a h = h
  not_in-Absent x (y ∷ xs) a (inl e) = a.0 e
  not_in-Absent x (y ∷ xs) a (inr h) = not_in-Absent x xs a.1 h

  pub Distinct-append : (xs ys : List A) → Distinct xs → Distinct ys → ((x : A) → In x xs → In x ys → ⊥) → Distinct (xs ++ ys)
  Distinct-append [] ys d e apart = e
  Distinct-append (x ∷ xs) ys d e apart = (
    Absent-not_in x (xs ++ ys) (λ h. elim (In-append x xs ys h) [ inl a ↦ not_in-Absent x xs d.0 a | inr b ↦ apart x (inl refl) b ]),
    Distinct-append xs ys d.1 e (λ z a b. apart z (inr a) b),
  )

pub Distinct-map : {A B : Type 0} (f : A → B) → ((x y : A) → f x ≡ f y → x ≡ y) → (xs : List A) → Distinct xs → Distinct (map f xs)
Distinct-map f one [] d = tt
Distinct-map f one (x ∷ xs) d = (
  Absent-not_in (f x) (map f xs) (λ h. let at = In-map_back f (f x) xs h in not_in-Absent x xs d.0 (subst (λ z. In z xs) (sym (one x at.0 at.2)) at.1)),
  Distinct-map f one xs d.1,
)

module _ {E : Type 0} (old new : E → List E) where
  abbrev NoCycle : (E → List E) → Type 0
  NoCycle lists = (x y : E) → In x (lists y) → Within lists x y → ⊥

  abbrev OneList : (E → List E) → Type 0
  OneList lists = (x y z : E) → In x (lists y) → In x (lists z) → y ≡ z

  -- fewer edges
  pub Within-fewer : ((x y : E) → In x (new y) → In x (old y)) → (e a : E) → Within new e a → Within old e a
  Within-fewer fewer e a itself = itself
  Within-fewer fewer e a (below {c = c} h w) = below (fewer a c h) (Within-fewer fewer e c w)

  pub NoCycle-fewer : ((x y : E) → In x (new y) → In x (old y)) → NoCycle old → NoCycle new
  NoCycle-fewer fewer none x y h w = none x y (fewer x y h) (Within-fewer fewer x y w)

  pub OneList-fewer : ((x y : E) → In x (new y) → In x (old y)) → OneList old → OneList new
  OneList-fewer fewer one x y z h k = one x y z (fewer x y h) (fewer x z k)

  pub Within-trans : (e c a : E) → Within old e c → Within old c a → Within old e a
  Within-trans e c a v itself = v
  Within-trans e c a v (below {c = d} h w) = below h (Within-trans e c d v w)

  -- one node more, in one list
  module _ (n c : E) (more : (x y : E) → In x (new y) → In x (old y) ⊎ ((x ≡ n) × (y ≡ c)))
      (unlinked : (y : E) → In n (old y) → ⊥) (apart : Within old n c → ⊥) where
    Within-more : (e a : E) → Within new e a → Within old e a ⊎ (Within old n a × Within old e c)
    Within-more e a itself = inl itself
    Within-more e a (below {c = d} h w) = by (more a d h) (Within-more e d w)
      where
        by : In a (old d) ⊎ ((a ≡ n) × (d ≡ c)) → Within old e d ⊎ (Within old n d × Within old e c) → Within old e a ⊎ (Within old n a × Within old e c)
        by (inl g) (inl v) = inl (below g v)
        by (inl g) (inr v) = inr (below g v.0, v.1)
        by (inr g) (inl v) = inr (subst (λ z. Within old n z) (sym g.0) itself, subst (λ z. Within old e z) g.1 v)
        by (inr g) (inr v) = absurd (apart (subst (λ z. Within old n z) g.1 v.0))

    pub NoCycle-more : NoCycle old → NoCycle new
    NoCycle-more none x y h w = by (more x y h) (Within-more x y w)
      where
        by : In x (old y) ⊎ ((x ≡ n) × (y ≡ c)) → Within old x y ⊎ (Within old n y × Within old x c) → ⊥
        by (inl g) (inl v) = none x y g v
        by (inl g) (inr v) = apart (Within-trans n x c (below g v.0) v.1)
        by (inr g) (inl v) = apart (subst (λ z. Within old z c) g.0 (subst (λ z. Within old x z) g.1 v))
        by (inr g) (inr v) = apart (subst (λ z. Within old n z) g.1 v.0)

    pub OneList-more : OneList old → OneList new
    OneList-more one x y z h k = by (more x y h) (more x z k)
      where
        by : In x (old y) ⊎ ((x ≡ n) × (y ≡ c)) → In x (old z) ⊎ ((x ≡ n) × (z ≡ c)) → y ≡ z
        by (inl g) (inl v) = one x y z g v
        by (inl g) (inr v) = absurd (unlinked y (subst (λ w. In w (old y)) v.0 g))
        by (inr g) (inl v) = absurd (unlinked z (subst (λ w. In w (old z)) g.0 v))
        by (inr g) (inr v) = g.1 ∙ sym v.1

  -- the donor's list joined to the donee's
  module _ (donee donor : E) (more : (x y : E) → In x (new y) → ((y ≢ donor) × In x (old y)) ⊎ ((y ≡ donee) × In x (old donor)))
      (differ : donee ≢ donor) (apart : (x : E) → In x (old donor) → Within old x donee → ⊥) where
    Within-joined : (e a : E) → Within new e a → Within old e a ⊎ ((x : E) × In x (old donor) × Within old x a × Within old e donee)
    Within-joined e a itself = inl itself
    Within-joined e a (below {c = d} h w) = by (more a d h) (Within-joined e d w)
      where
        by : ((d ≢ donor) × In a (old d)) ⊎ ((d ≡ donee) × In a (old donor)) → Within old e d ⊎ ((x : E) × In x (old donor) × Within old x d × Within old e donee)
            → Within old e a ⊎ ((x : E) × In x (old donor) × Within old x a × Within old e donee)
        by (inl g) (inl v) = inl (below g.1 v)
        by (inl g) (inr v) = inr (v.0, v.1, below g.1 v.2, v.3)
        by (inr g) (inl v) = inr (a, g.1, itself, subst (λ z. Within old e z) g.0 v)
        by (inr g) (inr v) = absurd (apart v.0 v.1 (subst (λ z. Within old v.0 z) g.0 v.2))

    pub NoCycle-joined : NoCycle old → NoCycle new
    NoCycle-joined none x y h w = by (more x y h) (Within-joined x y w)
      where
        by : ((y ≢ donor) × In x (old y)) ⊎ ((y ≡ donee) × In x (old donor)) → Within old x y ⊎ ((z : E) × In z (old donor) × Within old z y × Within old x donee) → ⊥
        by (inl g) (inl v) = none x y g.1 v
        by (inl g) (inr v) = apart v.0 v.1 (Within-trans v.0 x donee (below g.1 v.2) v.3)
        by (inr g) (inl v) = apart x g.1 (subst (λ z. Within old x z) g.0 v)
        by (inr g) (inr v) = apart v.0 v.1 (subst (λ z. Within old v.0 z) g.0 v.2)

    pub OneList-joined : OneList old → OneList new
    OneList-joined one x y z h k = by (more x y h) (more x z k)
      where
        by : ((y ≢ donor) × In x (old y)) ⊎ ((y ≡ donee) × In x (old donor)) → ((z ≢ donor) × In x (old z)) ⊎ ((z ≡ donee) × In x (old donor)) → y ≡ z
        by (inl g) (inl v) = one x y z g.1 v.1
        by (inl g) (inr v) = absurd (g.0 (one x y donor g.1 v.1))
        by (inr g) (inl v) = absurd (v.0 (one x z donor v.1 g.1))
        by (inr g) (inr v) = g.0 ∙ sym v.0
