-- What an erasure does then: it removes what is inside leaf by leaf, while nothing there is named.
use mathlib.Core.Path.{◌≡◌, refl, sym, subst}
use Rattle.std.proofs.Common.{ℕ, not, Option, Some, None, List, [], map}
use Rattle.std.specs.Option.{option_map}
use Rattle.ir_model.specs.Ids.{Ids}
use Rattle.ir_model.specs.Forest.{Dialect, Entity, an_op, a_block, a_region, OpRecord, BlockRecord, Forest, Named, owner, same_entity}
use Rattle.ir_model.specs.Nesting.{In, list_of, children, Inside, WellFormed, names_of}
use Rattle.ir_model.specs.Changes.{on_ops, on_regions, but, DropsUses, Removes}
use Rattle.ir_model.proofs.Loops.{Lawful}
use Rattle.ir_model.proofs.Nests.{In-map, In-map_back, Within-fewer}
use Rattle.ir_model.proofs.Filters.{In-filter}
use Rattle.ir_model.proofs.Keeps.{list_of-map}
use Rattle.ir_model.proofs.KeepsUses.{named_by, names_are, DropsUses-kept}
use Rattle.ir_model.proofs.KeepsErase.{Removes-kept}
use Rattle.ir_core_erasing.specs.Dropping.{Unnamed}
use Rattle.ir_core_erasing.proofs.Drops.{unnamed-closed}

-- a list that is read off a record that is gone or as it was kept is among what was kept
read_kept : {A B : Type 0} (Ins : Type 0) (of : B → List A) (now kept : Option B) → (Ins → now ≡ None) → ((Ins → ⊥) → now ≡ kept) → (x : A) → In x (list_of of now) → In x (list_of of kept)
read_kept Ins of None kept gone out x h = elim h [ ]
read_kept Ins of (Some r) kept gone out x h =
    let not_in : Ins → ⊥ = λ i. (let e : Some r ≡ None = gone i in cc) in
    subst (λ m. In x (list_of of m)) (out not_in) h

module _ {N : Ids} {W : Dialect} where
  module _ (f g : Forest N W) (x : Entity N) (r : Removes f x g) where
    -- the part of a record that is a list, filtered
    filtered : {A B : Type 0} (c : A → Entity N) (of : B → List A) (on : (List A → List A) → B → B) → ((h : List A → List A) (q : B) → of (on h q) ≡ h (of q)) → (m : Option B) (a : A)
        → In a (list_of of (option_map (on (but x c)) m)) → In a (list_of of m)
    filtered c of on keeps None a h = elim h [ ]
    filtered c of on keeps (Some q) a h = (In-filter (λ y. not (same_entity N (c y) x)) a (of q) (subst (In a) (keeps (but x c) q) h)).0

    member : {A B : Type 0} (Ins : Type 0) (c : A → Entity N) (of : B → List A) (on : (List A → List A) → B → B) → ((h : List A → List A) (q : B) → of (on h q) ≡ h (of q)) → (m now : Option B)
        → (Ins → now ≡ None) → ((Ins → ⊥) → now ≡ option_map (on (but x c)) m) → (z : Entity N) → In z (map c (list_of of now)) → In z (map c (list_of of m))
    member Ins c of on keeps m now gone out z h =
        let at = In-map_back c z (list_of of now) h in
        let was = filtered c of on keeps m at.0 (read_kept Ins of now (option_map (on (but x c)) m) gone out at.0 at.1) in
        subst (λ v. In v (map c (list_of of m))) (sym at.2) (In-map c at.0 (list_of of m) was)

    -- a removal adds no children
    pub removed-children : (z y : Entity N) → In z (children g y) → In z (children f y)
    removed-children z (an_op o) h = member (Inside f x (an_op o)) a_region (λ (q : OpRecord N W). q.regions) on_regions (λ h q. refl) (f.ops o) (g.ops o) (r.ops_inside o) (r.ops_outside o) z h
    removed-children z (a_block b) h = member (Inside f x (a_block b)) an_op (λ (q : BlockRecord N W). q.ops) on_ops (λ h q. refl) (f.blocks b) (g.blocks b) (r.blocks_inside b) (r.blocks_outside b) z h
    removed-children z (a_region q) h = member (Inside f x (a_region q)) a_block (λ (bs : List N.Block). bs) (λ h bs. h bs) (λ h q. refl) (f.regions q) (g.regions q) (r.regions_inside q) (r.regions_outside q) z h

    pub removed-inside : (e y : Entity N) → Inside g e y → Inside f e y
    removed-inside e y i = Within-fewer (children f) (children g) removed-children e y i

    -- nor names
    pub removed-names : (o : N.Op) (d : Named N) → In d (names_of g o) → In d (names_of f o)
    removed-names o d h =
        let now : In d (list_of named_by (g.ops o)) = subst (In d) (names_are g o) h in
        let kept = read_kept (Inside f x (an_op o)) named_by (g.ops o) (option_map (on_regions (but x a_region)) (f.ops o)) (r.ops_inside o) (r.ops_outside o) d now in
        subst (In d) (sym (names_are f o)) (subst (In d) (list_of-map named_by (on_regions (but x a_region)) (λ q. refl) (f.ops o)) kept)

    -- so what is inside e stays unnamed, whatever is removed
    pub removed-unnamed : (e : Entity N) → Unnamed f e → Unnamed g e
    removed-unnamed e none o d h i = none o d (removed-names o d h) (removed-inside e (owner N d) i)

  module _ (L : Lawful N) (f g : Forest N W) (e leaf : Entity N) (keys : ℕ) where
    -- the step of a loop that removes the leaves inside e
    pub leaf-unnamed : Unnamed f e → children f leaf ≡ [] → Inside f e leaf → Removes f leaf g → Unnamed g e
    leaf-unnamed none empty i r = removed-unnamed f g leaf r e none

    pub leaf-formed : WellFormed f keys → Unnamed f e → Inside f e leaf → Removes f leaf g → WellFormed g keys
    leaf-formed w none i r = (Removes-kept L f g leaf keys w r [] (unnamed-closed f e leaf none i)).forest

  -- where the loop begins
  pub drop-formed : (f g : Forest N W) (e : Entity N) (keys : ℕ) → WellFormed f keys → DropsUses f e g → WellFormed g keys
  drop-formed f g e keys w d = (DropsUses-kept f keys [] w g e d).forest
