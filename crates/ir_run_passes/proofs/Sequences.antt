-- Operations of a block that go one after the other: what is left, how many there were, and what that makes of a sweep.
use mathlib.Core.Path.{◌≡◌, refl, sym, ap, ◌∙◌, subst}
use Rattle.std.proofs.Common.{ℕ, suc, ◌+◌, ◌≤◌, ◌≢◌, inl, inr, Bool, true, false, not, cond, Option, Some, None, List, [], ◌∷◌, length, arith}
use Rattle.std.specs.List.{filter}
use Rattle.std.specs.Option.{option_map}
use Rattle.std.specs.Prelude.{IfSome}
use Rattle.ir_model.specs.Sessions.{Session}
use Rattle.ir_core_queries.specs.Calls.{SameButForest}
use Rattle.ir_model.specs.declared.ids.ArenaIndex.{ArenaIndex}
use Rattle.ir_model.specs.ContextIds.{context_ids, same_id}
use Rattle.ir_model.specs.Forest.{Dialect, Behaviour, Forest, BlockRecord, an_op, a_block}
use Rattle.ir_model.specs.Nesting.{In, list_of, IsLive, WellFormed, ops_of}
use Rattle.ir_model.specs.Changes.{on_ops, but, Removes}
use Rattle.ir_model.specs.Subtree.{IsSubtreeSize}
use Rattle.ir_model.specs.Dead.{Sweeps}
use Rattle.ir_model.specs.SweepLaws.{NoneIsClosed}
use Rattle.ir_model.proofs.KeepsErase.{Removes-kept}
use Rattle.ir_model.proofs.IdCases.{id_same, id_differs}
use Rattle.ir_model.proofs.Nests.{In-map}
use Rattle.ir_model.proofs.Filters.{In-kept}
use Rattle.ir_model.proofs.TwoRuns.{lawful}
use Rattle.ir_run_passes.specs.Going.{CanGo, Goes, none_goes, one_goes}
use Rattle.ir_run_passes.proofs.Partly.{Partly, untouched, one_more, sweeps, block_live}

-- a filter that drops one of a list leaves fewer
filter_fewer : {A : Type 0} (t : A → Bool) (xs : List A) → length (filter t xs) ≤ length xs
filter_fewer t [] = omega arith
filter_fewer {A = A} t (x ∷ xs) = by (t x) (filter_fewer t xs)
  where
    by : (b : Bool) → length (filter t xs) ≤ length xs → length (cond b (x ∷ filter t xs) (filter t xs)) ≤ suc (length xs)
    by true more = omega arith
    by false more = omega arith

filter_drops : {A : Type 0} (t : A → Bool) (o : A) (xs : List A) → In o xs → t o ≡ false → suc (length (filter t xs)) ≤ length xs
filter_drops t o [] h e = elim h [ ]
filter_drops {A = A} t o (x ∷ xs) (inl s) e = subst (λ b. suc (length (cond b (x ∷ filter t xs) (filter t xs))) ≤ suc (length xs)) (sym (ap t (sym s) ∙ e)) (let more = filter_fewer t xs in omega (arith, more))
filter_drops {A = A} t o (x ∷ xs) (inr k) e = by (t x) (filter_drops t o xs k e)
  where
    by : (b : Bool) → suc (length (filter t xs)) ≤ length xs → suc (length (cond b (x ∷ filter t xs) (filter t xs))) ≤ suc (length xs)
    by true more = omega arith
    by false more = omega arith

module _ {W : Dialect} (b : ArenaIndex) where
  -- the list without an operation
  list_without : (o : ArenaIndex) (m : Option (BlockRecord context_ids W)) → list_of (λ (r : BlockRecord context_ids W). r.ops) (option_map (on_ops (but {N = context_ids} (an_op o) an_op)) m) ≡ but {N = context_ids} (an_op o) an_op (list_of (λ r. r.ops) m)
  list_without o None = refl
  list_without o (Some r) = refl

  module _ (g h : Forest context_ids W) (keys : ℕ) (w : WellFormed g keys) (o : ArenaIndex) (listed : In o (ops_of g b)) (removes : Removes g (an_op o) h) where
    -- the block's list after one of its operations went
    list_left : ops_of h b ≡ but {N = context_ids} (an_op o) an_op (ops_of g b)
    list_left = ap (list_of (λ (r : BlockRecord context_ids W). r.ops)) (removes.blocks_outside b (λ v. w.nested.no_cycle (an_op o) (a_block b) (In-map an_op o (ops_of g b) listed) v)) ∙ list_without o (g.blocks b)

    pub list_fewer : suc (length (ops_of h b)) ≤ length (ops_of g b)
    list_fewer = subst (λ os. suc (length os) ≤ length (ops_of g b)) (sym list_left) (filter_drops (λ p. not (same_id p o)) o (ops_of g b) listed (ap not (id_same o)))

    -- the others are in it still
    pub stays_listed : (p : ArenaIndex) → In p (ops_of g b) → p ≢ o → In p (ops_of h b)
    stays_listed p k other = subst (λ os. In p os) (sym list_left) (In-kept (λ q. not (same_id q o)) p (ops_of g b) k (ap not (id_differs p o other)))

module _ {W : Dialect} (B : Behaviour W) (b : ArenaIndex) (f : Forest context_ids W) where
  pub goes-formed : (keys : ℕ) → WellFormed f keys → (g : Forest context_ids W) (count : ℕ) → Goes B b f g count → WellFormed g keys
  goes-formed keys w g count none_goes = w
  goes-formed keys w h count (one_goes {g = g} {n = n} o size before listed can inside removes) =
      (Removes-kept lawful g h (an_op o) keys (goes-formed keys w g n before) removes [] can.closed).forest

  -- as many are missing in the block's list, or more
  pub goes-fewer : (keys : ℕ) → WellFormed f keys → (g : Forest context_ids W) (count : ℕ) → Goes B b f g count → count + length (ops_of g b) ≤ length (ops_of f b)
  goes-fewer keys w g count none_goes = omega arith
  goes-fewer keys w h count (one_goes {g = g} {n = n} o size before listed can inside removes) =
      let more = goes-fewer keys w g n before in
      let less = list_fewer b g h keys (goes-formed keys w g n before) o listed removes in
      omega (arith, more, less)

  -- one after the other, and then others
  pub goes-joined : (g : Forest context_ids W) (m : ℕ) → Goes B b f g m → (h : Forest context_ids W) (n : ℕ) → Goes B b g h n → Goes B b f h (m + n)
  goes-joined g m first h n none_goes = let e : m ≡ m + 0 = omega arith in subst (λ k. Goes B b f g k) e first
  goes-joined g m first h n (one_goes {g = i} {n = k} o size before listed can inside removes) =
      let e : suc (m + k) ≡ m + suc k = omega arith in
      subst (λ j. Goes B b f h j) e (one_goes o size (goes-joined g m first i k before) listed can inside removes)

  pub goes-one : (g h : Forest context_ids W) (n more size : ℕ) (p : ArenaIndex) → more ≡ n + 1 → Goes B b f g n → In p (ops_of g b) → CanGo B g p → IsSubtreeSize g (an_op p) size → Removes g (an_op p) h → Goes B b f h more
  goes-one g h n more size p e before listed can inside removes =
      let is : suc n ≡ more = omega arith in
      subst (λ j. Goes B b f h j) is (one_goes p size before listed can inside removes)

  partly : (keys : ℕ) (w : WellFormed f keys) (g : Forest context_ids W) (count : ℕ) → Goes B b f g count → Partly B lawful f b w.nested g count
  partly keys w g count none_goes = untouched B lawful f b w.nested
  partly keys w h count (one_goes {g = g} {n = n} o size before listed can inside removes) =
      one_more B lawful f b w.nested g n (partly keys w g n before) h o size listed can.is_pure can.closed inside removes

  pub goes-live : (keys : ℕ) → WellFormed f keys → (g : Forest context_ids W) (count : ℕ) → Goes B b f g count → IsLive f (a_block b) → IsLive g (a_block b)
  goes-live keys w g count goes live = block_live B lawful f b w.nested g count (partly keys w g count goes) live

  -- where none that is left could go, it is a sweep
  pub goes-sweeps : (keys : ℕ) → WellFormed f keys → (g : Forest context_ids W) (count : ℕ) → Goes B b f g count → NoneIsClosed B g b → Sweeps B f b g count
  goes-sweeps keys w g count goes none = sweeps B lawful f b w.nested g count (partly keys w g count goes) none

-- the answer of a call, where there is one, is still in the list after another operation went
pub stay_listed : {W : Dialect} (b : ArenaIndex) (g h : Forest context_ids W) (keys : ℕ) → WellFormed g keys → (o : ArenaIndex) → In o (ops_of g b) → Removes g (an_op o) h
    → {P : Type 0} (index : P → ArenaIndex) (m : Option P) → IfSome m (λ x. In (index x) (ops_of g b)) → IfSome m (λ x. index x ≢ o) → IfSome m (λ x. In (index x) (ops_of h b))
stay_listed b g h keys w o listed removes index None k other = tt
stay_listed b g h keys w o listed removes index (Some x) k other = stays_listed b g h keys w o listed removes (index x) k other

-- all but the forest is as before, over two changes
pub same_joined : {W : Dialect} (r s t : Session W) → SameButForest r s → SameButForest s t → SameButForest r t
same_joined r s t a c = record { store = c.store ∙ a.store; beside = c.beside ∙ a.beside; passed = c.passed ∙ a.passed; limits = c.limits ∙ a.limits }
