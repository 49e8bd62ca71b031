-- What the arena of auxiliary data means after each change of it.
use mathlib.Core.Path.{fun_ext}
use Rattle.std.proofs.Common.{◌≡◌, ◌≢◌, ◌↔◌, ℕ, zero, suc, Bool, true, false, cond, if◌then◌else◌, Option, Some, None, IsSome, IsTrue, is_some, refl, sym, ap, subst, ◌∙◌, inl, inr, arith}
use Rattle.std.specs.Prelude.{OnSome, IfNone}
use Rattle.std.specs.Option.{option_copied_mut, option_map}
use Rattle.std.specs.Borrow.{MutBor}
use Rattle.ir_model.specs.declared.ids.ArenaIndex.{ArenaIndex}
use Rattle.ir_model.specs.declared.ids.Limits.{Limits}
use Rattle.ir_model.specs.ContextIds.{same_id}
use Rattle.ir_model.specs.AuxData.{InsertsAux, LacksAuxSlot, write_aux}
use Rattle.ir_model.specs.Changes.{put, rewrite}
use Rattle.ir_model.specs.Stores.{without_aux}
use Rattle.ir_model.proofs.ArenaRoom.{has-room, lacks-room}
use Rattle.ir_model.proofs.Arenas.{get-cut, get-cut_other, get-fill_live, get-fill_live_other, get-fill_new, get-fill_new_other, get-miss, new-is_new, passed-cut, passed-fill_live, passed-fill_new, passed-miss}
use Rattle.ir_model.proofs.IdCases.{id_cases, id_differs, id_same}
use Rattle.ir_model.proofs.StepTells.{one_count}
use Rattle.ir_model.specs.Sessions.{TakesSlot}
use Rattle.ir_base_arenas.specs.Arena.{Arena, IsLiveIn, IsNew, IsWhole, cut, fill, get, is_passed, miss, room}
use Rattle.ir_core_data.specs.declared.side_data.SideData.{SideData}
use Rattle.ir_core_data.specs.Side.{Keeps, beside_in, with_written}

-- one thing at an id, and another elsewhere
by_id : {R : Type 0} (i j : ArenaIndex) (x u v : R) → (j ≡ i → x ≡ u) → (j ≢ i → x ≡ v) → x ≡ cond (same_id j i) u v
by_id i j x u v there apart = elim (id_cases j i) [
  | inl e ↦ there e ∙ sym (ap (λ b. cond b u v) (subst (λ k. same_id j k ≡ true) e (id_same j)))
  | inr ne ↦ apart ne ∙ sym (ap (λ b. cond b u v) (id_differs j i ne))
]

-- two answers are one where each is yes exactly where the other is
alike : (a b : Bool) → (IsTrue a → IsTrue b) → (IsTrue b → IsTrue a) → a ≡ b
alike true true to from = refl
alike true false to from = sym (to refl)
alike false true to from = from refl
alike false false to from = refl

module _ {T : Type 0} (a : Arena T) (i : ArenaIndex) where
  get-new_fill : (v : T) → IsNew a i → get (fill a i v) ≡ put same_id i v (get a)
  get-new_fill v new =
      fun_ext (λ j. by_id i j (get (fill a i v) j) (Some v) (get a j) (λ e. ap (get (fill a i v)) e ∙ get-fill_new a i v new) (λ ne. get-fill_new_other a i j v new ne))

  passed-new_fill : (v : T) → IsNew a i → is_passed (fill a i v) ≡ (λ j. if same_id j i then true else is_passed a j)
  passed-new_fill v new =
      fun_ext (λ j. by_id i j (is_passed (fill a i v) j) true (is_passed a j)
      (λ e. (passed-fill_new a i j v new).1 (inr e))
      (λ ne. alike (is_passed (fill a i v) j) (is_passed a j)
      (λ h. elim ((passed-fill_new a i j v new).0 h) [ inl was ↦ was | inr e ↦ absurd (ne e) ])
      (λ h. (passed-fill_new a i j v new).1 (inl h))))

  get-live_fill : (v : T) → IsLiveIn a i → get (fill a i v) ≡ rewrite same_id i (λ _. v) (get a)
  get-live_fill v live =
      fun_ext (λ j. by_id i j (get (fill a i v) j) (option_map (λ _. v) (get a j)) (get a j)
      (λ e. ap (get (fill a i v)) e ∙ get-fill_live a i v live ∙ sym (set (get a j) (subst (λ k. IsSome (get a k)) (sym e) live)))
      (λ ne. get-fill_live_other a i j v live ne))
    where
      set : (m : Option T) → is_some m ≡ true → option_map (λ _. v) m ≡ Some v
      set None h = absurd (cc)
      set (Some x) h = refl

  get-taken : IsLiveIn a i → get (cut a i) ≡ (λ j. if same_id j i then None else get a j)
  get-taken live =
      fun_ext (λ j. by_id i j (get (cut a i) j) None (get a j) (λ e. ap (get (cut a i)) e ∙ get-cut a i live) (λ ne. get-cut_other a i j live ne))

  get-missed : get a i ≡ None → get (miss a) ≡ (λ j. if same_id j i then None else get a j)
  get-missed none = fun_ext (λ j. by_id i j (get (miss a) j) None (get a j) (λ e. get-miss a j ∙ ap (get a) e ∙ none) (λ ne. get-miss a j))

module _ {D A K B S X L : Type 0} (s : SideData D A K B S X L) (i : ArenaIndex) where
  -- auxiliary data that is put under a new index
  pub puts : (v : X) (after : Arena X) → IsNew s.aux i → after ≡ fill s.aux i v → (limits : Limits) → Keeps limits s.aux → InsertsAux limits (beside_in s) v i (beside_in (record s { aux = after }))
  puts v after new filled limits keeps = record {
    is_new = new-is_new limits s.aux i (sym keeps.limit) (sym keeps.last_version) new;
    after = ap (λ a. beside_in (record s { aux = a })) filled ∙ (λ t. record (beside_in s) { aux = get-new_fill s.aux i v new t; aux_passed = passed-new_fill s.aux i v new t });
  }

  -- data that is written where there is some
  pub writes : IsLiveIn s.aux i → (v : X) → beside_in (with_written s i v) ≡ write_aux (beside_in s) i v
  writes live v t = record (beside_in s) { aux = get-live_fill s.aux i v live t; aux_passed = λ j. passed-fill_live s.aux i j v live t }

  taken : IsLiveIn s.aux i → beside_in (record s { aux = cut s.aux i }) ≡ without_aux (beside_in s) i
  taken live t = record (beside_in s) { aux = get-taken s.aux i live t; aux_passed = λ j. passed-cut s.aux i j live t }

  missed : get s.aux i ≡ None → beside_in (record s { aux = miss s.aux }) ≡ without_aux (beside_in s) i
  missed none t = record (beside_in s) { aux = get-missed s.aux i none t; aux_passed = λ j. passed-miss s.aux j t }

  -- data that is taken out, where there is any
  pub takes : (found : Option X) (after : Arena X) → found ≡ get s.aux i → OnSome found (after ≡ cut s.aux i) → IfNone found (after ≡ miss s.aux) → beside_in (record s { aux = after }) ≡ without_aux (beside_in s) i
  takes None after is some none = ap (λ a. beside_in (record s { aux = a })) none ∙ missed (sym is)
  takes (Some x) after is some none = ap (λ a. beside_in (record s { aux = a })) some ∙ taken (ap is_some (sym is))

  -- and the arena keeps to the limits
  pub takes-keeps : (found : Option X) (after : Arena X) → OnSome found (after ≡ cut s.aux i) → IfNone found (after ≡ miss s.aux) → (limits : Limits) → Keeps limits s.aux → Keeps limits after
  takes-keeps None after some none limits keeps = subst (Keeps limits) (sym none) (record { limit = keeps.limit; last_version = keeps.last_version })
  takes-keeps (Some x) after some none limits keeps = subst (Keeps limits) (sym some) (record { limit = keeps.limit; last_version = keeps.last_version })

module _ {D A K B S X L : Type 0} (s : SideData D A K B S X L) where
  -- there is no room exactly where there is no slot for one more
  pub no_room : (limits : Limits) → Keeps limits s.aux → IsWhole s.aux → (room s.aux ≡ 0) ↔ LacksAuxSlot limits (beside_in s)
  no_room limits keeps whole = (
    λ none. lacks-room limits s.aux 1 (sym keeps.limit) (sym keeps.last_version) whole (omega (arith, none)),
    λ lacks. by lacks (room s.aux) refl,
  )
    where
      by : LacksAuxSlot limits (beside_in s) → (left : ℕ) → room s.aux ≡ left → room s.aux ≡ 0
      by lacks zero is = is
      by lacks (suc left) is =
          let has = has-room limits s.aux 1 (sym keeps.limit) (sym keeps.last_version) whole (omega (arith, is)) in
          let same = one_count (TakesSlot limits (is_passed s.aux) (IsLiveIn s.aux)) has.0 lacks.0 has.1 lacks.1 in
          absurd (omega (arith, has.2, lacks.2, same))

-- what is lent is there
pub lent-live : {A : Type 0} (lent : Option (MutBor A)) (m : Option A) → option_copied_mut lent ≡ m → IsSome lent → IsSome m
lent-live None m is some = absurd (cc)
lent-live (Some r) m is some = ap is_some (sym is)
