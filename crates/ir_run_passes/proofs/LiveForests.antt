-- What is live in a forest, listed by the ids of the records that arenas have.
use mathlib.Core.Path.{◌≡◌, refl, sym, ◌∙◌, subst}
use Rattle.std.proofs.Common.{◌<◌, Option, Some, None, List, ◌∷◌, ◌++◌, map, is_some, inl, inr, arith}
use Rattle.std.specs.Option.{option_map}
use Rattle.ir_model.specs.declared.ids.ArenaIndex.{ArenaIndex}
use Rattle.ir_model.specs.ContextIds.{context_ids}
use Rattle.ir_model.specs.Forest.{Dialect, Forest, Entity, an_op, a_block, a_region}
use Rattle.ir_model.specs.Nesting.{In, IsLive}
use Rattle.ir_model.specs.Arenas.{Arena, arena_len, get}
use Rattle.ir_model.proofs.LiveIds.{live_ids, ids_once, ids_count, live_listed, listed_live}
use Rattle.ir_model.proofs.Nests.{Absent-not_in, In-left, In-right, In-map}
use Rattle.ir_model.proofs.Removal.{length-within}
use Rattle.ir_model_passes.specs.SweepInside.{ListsLive, ListsOps}

-- the arena has a record under each id under which the map has something, and no other
abbrev pub IsKeptIn : {R T : Type 0} → (ArenaIndex → Option R) → Arena T → Type 0
IsKeptIn m a = (x : ArenaIndex) → is_some (m x) ≡ is_some (get a x)

pub kept_by : {R T : Type 0} (means : ArenaIndex → T → R) (a : Arena T) → IsKeptIn (λ x. option_map (means x) (get a x)) a
kept_by means a x = by (get a x)
  where
    by : (m : Option _) → is_some (option_map (means x) m) ≡ is_some m
    by None = refl
    by (Some r) = refl

module _ {W : Dialect} {O : Type 0} where
  -- the operations of a forest, listed
  pub lists_ops : (f : Forest context_ids W) (a : Arena O) → IsKeptIn f.ops a → ListsOps f (live_ids a)
  lists_ops f a kept = (ids_once a, λ o. (λ h. kept o ∙ listed_live a o h, λ live. live_listed a o (sym (kept o) ∙ live)))

  -- where all that is there was there, and one that was there is not, fewer are there
  pub fewer_live : (f g : Forest context_ids W) (a b : Arena O) → IsKeptIn f.ops a → IsKeptIn g.ops b
      → ((o : ArenaIndex) → IsLive g (an_op o) → IsLive f (an_op o)) → (o : ArenaIndex) → IsLive f (an_op o) → (IsLive g (an_op o) → ⊥) → arena_len b < arena_len a
  fewer_live f g a b was is back o there gone =
      let now = lists_ops g b is in
      let more = length-within (o ∷ live_ids b) (live_ids a)
      (Absent-not_in o (live_ids b) (λ h. gone ((now.1 o).0 h)), ids_once b)
      (λ x h. elim h [ inl e ↦ subst (λ y. In y (live_ids a)) (sym e) (live_listed a o (sym (was o) ∙ there)) | inr k ↦ live_listed a x (sym (was x) ∙ back x ((now.1 x).0 k)) ]) in
      let before = ids_count a in
      let after = ids_count b in
      omega (arith, more, before, after)

-- all that is live in a forest, listed
abbrev pub live_entities : {O P R : Type 0} → Arena O → Arena P → Arena R → List (Entity context_ids)
live_entities a b c = map an_op (live_ids a) ++ (map a_block (live_ids b) ++ map a_region (live_ids c))

module _ {W : Dialect} {O P R : Type 0} (f : Forest context_ids W) (a : Arena O) (b : Arena P) (c : Arena R) (ops : IsKeptIn f.ops a) (blocks : IsKeptIn f.blocks b) (regions : IsKeptIn f.regions c) where
  pub lists_live : ListsLive f (live_entities a b c)
  lists_live (an_op o) live = In-left (an_op o) (map an_op (live_ids a)) _ (In-map an_op o (live_ids a) (live_listed a o (sym (ops o) ∙ live)))
  lists_live (a_block x) live = In-right (a_block x) (map an_op (live_ids a)) _ (In-left (a_block x) (map a_block (live_ids b)) _ (In-map a_block x (live_ids b) (live_listed b x (sym (blocks x) ∙ live))))
  lists_live (a_region r) live = In-right (a_region r) (map an_op (live_ids a)) _ (In-right (a_region r) (map a_block (live_ids b)) _ (In-map a_region r (live_ids c) (live_listed c r (sym (regions r) ∙ live))))
