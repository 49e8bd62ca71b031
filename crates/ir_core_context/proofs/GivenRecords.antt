-- Regions that an operation was given, as records.
use Rattle.std.proofs.Common.{◌≡◌, ◌⊎◌, ℕ, List, [], Option, Some, None, IsSome, is_some, refl, sym, ap, ◌∙◌, inl, inr}
use Rattle.std.specs.Option.{option_map}
use Rattle.ir_model.specs.declared.ids.ArenaIndex.{ArenaIndex}
use Rattle.ir_model.specs.Forest.{Forest}
use Rattle.ir_model.specs.Nesting.{In}
use Rattle.ir_base_arenas.specs.Arena.{get, IsLiveIn}
use Rattle.ir_core_records.specs.declared.records.Records.{Records}
use Rattle.ir_core_records.specs.Meaning.{forest_in, op_record}
use Rattle.ir_core_records.specs.Tree.{blocks_in, tree_of}
use Rattle.ir_core_context.specs.Creation.{IsGiven}
use Rattle.ir_core_context.proofs.Making.{given_at}

mapped : {U V : Type 0} (f : U → V) (x : Option U) → IsSome x → IsSome (option_map f x)
mapped f None h = h
mapped f (Some y) h = refl

unmapped : {U V : Type 0} (f : U → V) (x : Option U) → IsSome (option_map f x) → IsSome x
unmapped f None h = h
unmapped f (Some y) h = refl

module _ {D A K B S X L : Type 0} where
  pub live-op : (t : Records D A K B S X L) (o : ArenaIndex) → IsLiveIn t.ops o → IsSome ((forest_in t).ops o)
  live-op t o live = mapped op_record (get t.ops o) live

  pub live-there : (t : Records D A K B S X L) (o : ArenaIndex) → IsSome ((forest_in t).ops o) → IsLiveIn t.ops o
  live-there t o live = unmapped op_record (get t.ops o) live

  pub dead-op : (t : Records D A K B S X L) (o : ArenaIndex) → get t.ops o ≡ None → (forest_in t).ops o ≡ None
  dead-op t o dead = ap (option_map op_record) dead

  pub dead-region : (t : Records D A K B S X L) (r : ArenaIndex) → get t.regions r ≡ None → (forest_in t).regions r ≡ None
  dead-region t r dead = ap (option_map (λ _. blocks_in (tree_of t) r)) dead

  module _ (s t : Records D A K B S X L) (o : ArenaIndex) (rs : List ArenaIndex) (n : ℕ) (is : IsGiven (forest_in s) o rs n (forest_in t)) where
    seen : (r : ArenaIndex) → IsSome ((forest_in t).regions r) → IsLiveIn t.regions r
    seen r h = unmapped (λ _. blocks_in (tree_of t) r) (get t.regions r) h

    -- the given ones are live
    pub made-live : (r : ArenaIndex) → In r rs → IsLiveIn t.regions r
    made-live r i = seen r (ap is_some (ap (λ (f : Forest _ _). f.regions r) is.is ∙ elim (given_at (forest_in s) o rs r) [ inl k ↦ k.1 | inr k ↦ absurd (k.0 i) ]))

    -- and what was live is so still
    pub still-live : (r : ArenaIndex) → IsLiveIn s.regions r → IsLiveIn t.regions r
    still-live r live =
        let was : IsSome ((forest_in s).regions r) = mapped (λ _. blocks_in (tree_of s) r) (get s.regions r) live in
        seen r (ap is_some (ap (λ (f : Forest _ _). f.regions r) is.is) ∙ elim (given_at (forest_in s) o rs r) [ inl k ↦ ap is_some k.1 | inr k ↦ ap is_some k.1 ∙ was ])
