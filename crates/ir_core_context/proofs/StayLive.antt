-- A new block or a new region leaves live what was live.
use Rattle.std.proofs.Common.{◌≡◌, List, [], ◌∷◌, ◌++◌, map, Option, None, is_some, refl, sym, ap, subst, ◌∙◌, inl, inr}
use Rattle.ir_model.specs.declared.ids.ArenaIndex.{ArenaIndex}
use Rattle.ir_model.specs.ContextIds.{context_ids, same_id}
use Rattle.ir_model.specs.Forest.{Dialect, Definer, of_op, of_block, Definition, Forest, Text, a_value, the_block, an_op, a_block, a_region}
use Rattle.ir_model.specs.Nesting.{In, IsLive, IsLiveNamed}
use Rattle.ir_model.specs.Changes.{add_region, new_block, on_regions}
use Rattle.ir_model.proofs.Keeps.{is_some-map, rewrite_at}
use Rattle.ir_model.proofs.KeepsDefinitions.{Defines, defines_block}
use Rattle.ir_model.proofs.KeepsNew.{put_at}
use Rattle.ir_model.proofs.TwoRuns.{id_tells, lawful}
use Rattle.ir_core_context.specs.Calls.{EntitiesStayLive, StayLive}
use Rattle.ir_core_context.proofs.GivenForests.{given-live}

module _ {W : Dialect} (f : Forest context_ids W) where
  -- where what had no definitions has some, and all else is the same
  more-stays : (g : Forest context_ids W) (d : Definer context_ids) (ys : List (Definition context_ids W)) → Defines f g d [] ys → StayLive f g
  more-stays g d ys more (the_block b) h = more.live (a_block b) h
  more-stays g d ys more (a_value v) h = elim (more.at v.definer) [
    | inl e ↦ absurd (subst (λ (xs : List (Definition context_ids W)). In v.number (map (λ (x : Definition context_ids W). x.number) xs)) e.1 h)
    | inr e ↦ subst (λ (xs : List (Definition context_ids W)). In v.number (map (λ (x : Definition context_ids W). x.number) xs)) (sym e) h
  ]

  module _ (b : ArenaIndex) (loc : W.Loc) (label : Option Text) (arguments : List (Definition context_ids W)) (dead : f.blocks b ≡ None) where
    pub block-stays : StayLive f (new_block f b loc label arguments)
    block-stays = more-stays (new_block f b loc label arguments) (of_block b) arguments (defines_block lawful f b loc label arguments dead)

    pub block-entities-stay : EntitiesStayLive f (new_block f b loc label arguments)
    block-entities-stay = (defines_block lawful f b loc label arguments dead).live

  module _ (o r : ArenaIndex) where
    pub region-stays : StayLive f (add_region f o r)
    region-stays (the_block b) h = h
    region-stays (a_value v) h = by v.definer h
      where
        by : (d : Definer context_ids) → IsLiveNamed f (a_value (record { definer = d; number = v.number })) → IsLiveNamed (add_region f o r) (a_value (record { definer = d; number = v.number }))
        by (of_op p) k = given-live f o (r ∷ []) (a_value (record { definer = of_op p; number = v.number })) k
        by (of_block b) k = k

    pub region-entities-stay : EntitiesStayLive f (add_region f o r)
    region-entities-stay (an_op p) h = elim (rewrite_at same_id id_tells o (on_regions (λ xs. xs ++ r ∷ [])) f.ops p) [
      | inl e ↦ ap is_some e.1 ∙ is_some-map (on_regions (λ xs. xs ++ r ∷ [])) (f.ops p) ∙ h
      | inr e ↦ ap is_some e.1 ∙ h
    ]
    region-entities-stay (a_block b) h = h
    region-entities-stay (a_region g) h = elim (put_at same_id id_tells r [] f.regions g) [
      | inl e ↦ ap is_some e.1
      | inr e ↦ ap is_some e.1 ∙ h
    ]

    -- the new region is live
    pub region-live : IsLive (add_region f o r) (a_region r)
    region-live = elim (put_at same_id id_tells r [] f.regions r) [ inl e ↦ ap is_some e.1 | inr e ↦ absurd (e.0 refl) ]
