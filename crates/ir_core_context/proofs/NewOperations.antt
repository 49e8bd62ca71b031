-- A forest with a new operation: what the operation has, what stays live, and who may name it.
use Rattle.std.proofs.Common.{◌≡◌, ◌≢◌, ◌⊎◌, ℕ, true, is_some, List, [], ◌∷◌, ◌++◌, map, Option, Some, None, refl, sym, ap, subst, ◌∙◌, inl, inr}
use Rattle.ir_model.specs.declared.ids.ArenaIndex.{ArenaIndex}
use Rattle.ir_model.specs.ContextIds.{context_ids, same_id}
use Rattle.ir_model.specs.Forest.{Dialect, Definer, of_op, of_block, Definition, Entity, an_op, a_block, a_region, Forest, OpRecord, Operand, Successor, a_value, the_block}
use Rattle.ir_model.specs.Nesting.{In, IsLinked, IsLive, WellFormed, children, list_of, numbers_of, operands_of, regions_of, successors_of}
use Rattle.ir_model.specs.Changes.{new_op}
use Rattle.ir_model.specs.Uses.{AreUses, IsUse, Use}
use Rattle.ir_model.proofs.KeepsNew.{any_in, put_at}
use Rattle.ir_model.proofs.Nests.{In-map_back}
use Rattle.ir_model.proofs.TwoRuns.{id_tells}
use Rattle.ir_core_records.specs.declared.record.Definer.TheVariants.{Op}
use Rattle.ir_core_records.specs.declared.record.UseIndex.{UseIndex}
use Rattle.ir_core_records.specs.declared.record.ValueIndex.{ValueIndex}
use Rattle.ir_core_records.specs.declared.records.Records.{Records}
use Rattle.ir_core_records.specs.Chains.{AreLinked, chains_of}
use Rattle.ir_core_records.specs.Meaning.{closed, forest_in, use_of}
use Rattle.ir_core_records.specs.Table.{uses_at}
use Rattle.ir_core_context.specs.Calls.{EntitiesStayLive, StayLive}
use Rattle.ir_core_context.specs.Creation.{AreFresh}
use Rattle.ir_core_data.specs.Side.{nothing as no_side}
use Rattle.ir_core_context.specs.State.{ContextState}
use Rattle.ir_core_context.specs.Named.{use-live}
use Rattle.ir_core_context.proofs.ExactUses.{uses-exact}

module _ {W : Dialect} (f g : Forest context_ids W) (o : ArenaIndex) (loc : W.Loc) (kind : ℕ) (results : List (Definition context_ids W))
    (operands : List (Operand context_ids)) (successors : List (Successor context_ids)) (regions : List ArenaIndex)
    (is : g ≡ new_op f o loc kind results operands successors regions) where
  abbrev Rec : Type 0
  Rec = OpRecord context_ids W

  abbrev made : Rec
  made = record { kind = kind; results = results; operands = operands; successors = successors; regions = regions; attributes = []; loc = loc }

  op_case : (p : ArenaIndex) → ((p ≡ o) × (g.ops p ≡ Some made)) ⊎ ((p ≢ o) × (g.ops p ≡ f.ops p))
  op_case p =
      let same : g.ops p ≡ (new_op f o loc kind results operands successors regions).ops p = ap (λ (h : Forest context_ids W). h.ops p) is in
      elim (put_at same_id id_tells o made f.ops p) [ inl e ↦ inl (e.0, same ∙ e.1) | inr e ↦ inr (e.0, same ∙ e.1) ]

  -- the new operation has what it was made of
  pub new-found : g.ops o ≡ Some made
  new-found = elim (op_case o) [ inl e ↦ e.1 | inr e ↦ absurd (e.0 refl) ]

  pub new-live : IsLive g (an_op o)
  new-live = ap is_some new-found

  module _ (dead : f.ops o ≡ None) where
    was_dead : IsLive f (an_op o) → ⊥
    was_dead h = (let e : is_some {T = Rec} None ≡ true = rw dead at h in cc)

    -- each operation, block and region that was live is so still
    pub new-entities-live : EntitiesStayLive f g
    new-entities-live (an_op p) h = elim (op_case p) [ inl e ↦ ap is_some e.1 | inr e ↦ ap is_some e.1 ∙ h ]
    new-entities-live (a_block b) h = ap (λ (x : Forest context_ids W). is_some (x.blocks b)) is ∙ h
    new-entities-live (a_region r) h = ap (λ (x : Forest context_ids W). is_some (x.regions r)) is ∙ elim (any_in same_id id_tells r regions) [ inl e ↦ rw e.0 refl | inr e ↦ rw e.0 h ]

    -- and so is each value and block
    pub new-names-live : StayLive f g
    new-names-live (the_block b) h = ap (λ (x : Forest context_ids W). is_some (x.blocks b)) is ∙ h
    new-names-live (a_value v) h = by v.definer h
      where
        by : (d : Definer context_ids) → In v.number (numbers_of f d) → In v.number (numbers_of g d)
        by (of_block b) k = subst (λ (x : Forest context_ids W). In v.number (numbers_of x (of_block b))) (sym is) k
        by (of_op p) k = elim (op_case p) [
          | inl e ↦ absurd (let none : f.ops p ≡ None = ap f.ops e.0 ∙ dead in subst (λ (x : Option Rec). In v.number (map (λ (y : Definition context_ids W). y.number) (list_of (λ r. r.results) x))) none k)
          | inr e ↦ subst (λ (x : Option Rec). In v.number (map (λ (y : Definition context_ids W). y.number) (list_of (λ r. r.results) x))) (sym e.1) k
        ]

    -- the new operation stands in no list
    pub new-unlinked : (keys : ℕ) → WellFormed f keys → IsLinked g (an_op o) → ⊥
    new-unlinked keys formed (y, h) = by y h
      where
        by : (y : Entity context_ids) → In (an_op o) (children g y) → ⊥
        by (a_block b) k = was_dead (formed.nested.live (an_op o) (a_block b) (subst (λ (x : Forest context_ids W). In (an_op o) (children x (a_block b))) is k))
        by (an_op p) k = (let at = In-map_back a_region (an_op o) (regions_of g p) k in let e : an_op o ≡ a_region at.0 = at.2 in cc)
        by (a_region r) k = (let at = In-map_back a_block (an_op o) (list_of (λ bs. bs) (g.regions r)) k in let e : an_op o ≡ a_block at.0 = at.2 in cc)

    -- its results have no use but by its own operands
    pub new-unused : (keys : ℕ) → WellFormed f keys → (n : ℕ) (u : Use context_ids) → IsUse g (a_value (record { definer = of_op o; number = n })) u → In (record { use_number = u.number; value = record { definer = of_op o; number = n } }) operands
    new-unused keys formed n u h = elim (op_case u.user) [
      | inl e ↦ subst (λ (x : Option Rec). In (record { use_number = u.number; value = record { definer = of_op o; number = n } }) (list_of (λ r. r.operands) x)) e.1 h
      | inr e ↦ absurd (named (subst (λ (x : Option Rec). In (record { use_number = u.number; value = record { definer = of_op o; number = n } }) (list_of (λ r. r.operands) x)) e.1 h))
    ]
      where
        named : IsUse f (a_value (record { definer = of_op o; number = n })) u → ⊥
        named k =
            let live : In n (numbers_of f (of_op o)) = use-live f keys (record { definer = of_op o; number = n }) u formed k in
            subst (λ (x : Option Rec). In n (map (λ (y : Definition context_ids W). y.number) (list_of (λ r. r.results) x))) dead live

-- where the new operation has no places yet
module _ {W : Dialect} (f g : Forest context_ids W) (o : ArenaIndex) (loc : W.Loc) (kind : ℕ) (results : List (Definition context_ids W)) (is : g ≡ new_op f o loc kind results [] [] []) where
  pub bare-regions : regions_of g o ≡ []
  bare-regions = ap (list_of (λ (r : OpRecord context_ids W). r.regions)) (new-found f g o loc kind results [] [] [] is)

  pub bare-operands : operands_of g o ≡ []
  bare-operands = ap (list_of (λ (r : OpRecord context_ids W). r.operands)) (new-found f g o loc kind results [] [] [] is)

  pub bare-successors : successors_of g o ≡ []
  bare-successors = ap (list_of (λ (r : OpRecord context_ids W). r.successors)) (new-found f g o loc kind results [] [] [] is)

  abbrev uses_in : Option (OpRecord context_ids W) → List ℕ
  uses_in x = map (λ (p : Operand context_ids). p.use_number) (list_of (λ r. r.operands) x) ++ map (λ (p : Successor context_ids). p.use_number) (list_of (λ r. r.successors) x)

  -- use numbers are fresh as before
  pub bare-fresh : (first : ℕ) → AreFresh f first → AreFresh g first
  bare-fresh first fresh = record {
    below = λ p n h. elim (op_case f g o loc kind results [] [] [] is p) [
      | inl e ↦ absurd (subst (λ (x : Option (OpRecord context_ids W)). In n (uses_in x)) e.1 h)
      | inr e ↦ fresh.below p n (subst (λ (x : Option (OpRecord context_ids W)). In n (uses_in x)) e.1 h)
    ];
  }

-- the kept uses of the results of such an operation
module _ {D A K B S X L : Type 0} (f : Forest context_ids (closed A K B S X L)) (t : Records D A K B S X L) (o : ArenaIndex) (loc : L) (kind : ℕ) (results : List (Definition context_ids (closed A K B S X L)))
    (is : forest_in t ≡ new_op f o loc kind results [] [] []) (dead : f.ops o ≡ None) where
  abbrev alone : ContextState D A K B S X L
  alone = record { records = t; types = []; next_value = 0; next_use = 0; side = no_side 0 0; limits = record { values = 0; uses = 0; slots = 0; last_version = 0 } }

  abbrev result : ℕ → ValueIndex
  result n = record { definer = Op o; number = n }

  pub bare-unused : (keys : ℕ) → WellFormed f keys → AreLinked (chains_of t) → (n : ℕ) → uses_at t (result n) ≡ []
  bare-unused keys formed linked n = by (uses_at t (result n)) (uses-exact alone linked (result n))
    where
      by : (us : List UseIndex) → AreUses (forest_in t) (a_value (record { definer = of_op o; number = n })) (map use_of us) → us ≡ []
      by [] are = refl
      by (u ∷ us) are = absurd (new-unused f (forest_in t) o loc kind results [] [] [] is dead keys formed n (use_of u) ((are.exact (use_of u)).0 (inl refl)))
