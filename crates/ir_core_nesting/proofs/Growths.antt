-- One insertion, and one removal, in the words of what was handed out.
use Rattle.std.proofs.Common.{◌≡◌, List, [], ◌∷◌, Option, Some, None, is_some, OnSome, refl, sym, ap, subst, ◌∙◌, inl, inr, true≢false, arith}
use Rattle.ir_model.specs.declared.ids.ArenaIndex.{ArenaIndex}
use Rattle.ir_model.specs.Nesting.{In}
use Rattle.ir_model.specs.Sessions.{IsNewId}
use Rattle.ir_model.proofs.Arenas.{get-new, get-cut, get-cut_other, passed-fill_new, passed-fill_live, passed-cut, new-is_new, get-fill_live, get-fill_live_other, get-fill_new}
use Rattle.ir_model.proofs.ArenaRoom.{len-fill_live, room-fill_live}
use Rattle.ir_model.proofs.IdCases.{id_cases}
use Rattle.ir_base_arenas.specs.Arena.{Arena, get, IsLiveIn, IsNew, is_passed, fill, cut}
use Rattle.ir_base_arenas.specs.Lists.{SameIds}
use Rattle.ir_core_records.specs.Growth.{Grows, SkipsIds, Clears}

the : (id i : ArenaIndex) → In i (id ∷ []) → i ≡ id
the id i (inl e) = e
the id i (inr h) = absurd h

module _ {T : Type 0} where
  pub Grows-none : (a : Arena T) → Grows a a []
  Grows-none a = record {
    distinct = tt;
    dead = λ i h. absurd h;
    are_new = λ limits slots last i h. absurd h;
    passed = λ i. (λ h. inl h, λ h. elim h [ inl p ↦ p | inr k ↦ absurd k ]);
    limit = refl;
    last_version = refl;
  }

  pub Skips-none : (a : Arena T) → SkipsIds a a 1
  Skips-none a = record { skipped = []; few = omega arith; grows = Grows-none a }

  pub Grows-one : (a : Arena T) (id : ArenaIndex) (v : T) → IsNew a id → Grows a (fill a id v) (id ∷ [])
  Grows-one a id v is_new = record {
    distinct = (tt, tt);
    dead = λ i k. ap (get a) (the id i k) ∙ get-new a id is_new;
    are_new = λ limits slots last i k. subst (IsNewId limits (is_passed a) (IsLiveIn a)) (sym (the id i k)) (new-is_new limits a id slots last is_new);
    passed = λ i. (
      λ p. elim ((passed-fill_new a id i v is_new).0 p) [ inl q ↦ inl q | inr e ↦ inr (inl e) ],
      λ p. (passed-fill_new a id i v is_new).1 (elim p [ inl q ↦ inl q | inr k ↦ inr (the id i k) ]),
    );
    limit = refl;
    last_version = refl;
  }

  -- what hands out no id
  pub Grows-then : (a b c : Arena T) (xs : List ArenaIndex) → Grows a b xs → ((i : ArenaIndex) → is_passed c i ≡ is_passed b i) → c.limit ≡ b.limit → c.last_version ≡ b.last_version → Grows a c xs
  Grows-then a b c xs g passed limit last = record {
    distinct = g.distinct;
    dead = g.dead;
    are_new = g.are_new;
    passed = λ i. (λ p. (g.passed i).0 (sym (passed i) ∙ p), λ p. passed i ∙ (g.passed i).1 p);
    limit = limit ∙ g.limit;
    last_version = last ∙ g.last_version;
  }

  -- what was made and taken back
  pub Skips-cut : (a : Arena T) (id : ArenaIndex) (v : T) → IsNew a id → SkipsIds a (cut (fill a id v) id) 1
  Skips-cut a id v is_new = record {
    skipped = id ∷ [];
    few = omega arith;
    grows = Grows-then a (fill a id v) (cut (fill a id v) id) (id ∷ []) (Grows-one a id v is_new) (λ i. passed-cut (fill a id v) id i (ap is_some (get-fill_new a id v is_new))) refl refl;
  }

  pub Clears-cut : (a : Arena T) (id : ArenaIndex) → IsLiveIn a id → Clears a (cut a id) (id ∷ [])
  Clears-cut a id live = record {
    gone = λ i k. ap (get (cut a id)) (the id i k) ∙ get-cut a id live;
    kept = λ i k. get-cut_other a id i live (λ e. k (inl e));
    passed = λ i. passed-cut a id i live;
    limit = refl;
    last_version = refl;
  }

  pub SameIds-none : (a : Arena T) → SameIds a a
  SameIds-none a = record {
    live = λ i. (λ h. h, λ h. h);
    passed = λ i. refl;
    room = refl;
    len = refl;
    limit = refl;
    last_version = refl;
    removals = refl;
  }

  pub SameIds-written : (a : Arena T) (id : ArenaIndex) (v : T) → IsLiveIn a id → SameIds a (fill a id v)
  SameIds-written a id v live = record {
    live = λ i. elim (id_cases i id) [
      | inl e ↦ (λ h. ap (λ z. is_some (get a z)) e ∙ live, λ h. ap (λ z. is_some (get (fill a id v) z)) e ∙ ap is_some (get-fill_live a id v live))
      | inr ne ↦ let same = ap is_some (get-fill_live_other a id i v live ne) in (λ h. sym same ∙ h, λ h. same ∙ h)
    ];
    passed = λ i. passed-fill_live a id i v live;
    room = room-fill_live a id v live;
    len = len-fill_live a id v live;
    limit = refl;
    last_version = refl;
    removals = refl;
  }

  -- a removal that found its record
  pub removed : (a b : Arena T) (id : ArenaIndex) (r : Option T) → IsLiveIn a id → r ≡ get a id → OnSome r (b ≡ cut a id) → b ≡ cut a id
  removed a b id None live is h = absurd (true≢false (sym live ∙ ap is_some (sym is)))
  removed a b id (Some v) live is h = h
