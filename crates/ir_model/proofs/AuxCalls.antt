-- Calls on auxiliary data keep what is live among what was passed, and what is gone gone.
use mathlib.Core.Path.{◌≡◌, refl, sym, ap, ◌∙◌, subst, fun_ext}
use Rattle.std.proofs.Common.{◌≢◌, ◌≤◌, ◌⊎◌, inl, inr, List, [], ◌∷◌, length, Bool, true, false, cond, Option, Some, None, IsSome, is_some, arith}
use Rattle.std.specs.Prelude.{◌↔◌, IsTrue, bytes_eq}
use Rattle.std.specs.Option.{option_map}
use Rattle.std.proofs.lemmas.Slice.Eq.{bytes_eq-Decides}
use Rattle.ir_model.specs.declared.ids.ArenaIndex.{ArenaIndex}
use Rattle.ir_model.specs.declared.ids.Limits.{Limits}
use Rattle.ir_model.specs.ContextIds.{same_id}
use Rattle.ir_model.specs.Forest.{Text, Dialect}
use Rattle.ir_model.specs.Nesting.{In}
use Rattle.ir_model.specs.Sessions.{Beside}
use Rattle.ir_model.specs.Stores.{with_aux}
use Rattle.ir_model.specs.AuxData.{live_aux, IsNewAux, AuxIsSound}
use Rattle.ir_model.specs.StoreLaws.{AuxIsKept, AuxIsInserted, AuxIsRemoved, AuxIsNamed, AuxIsWritten}
use Rattle.ir_model.proofs.TwoRuns.{lawful}
use Rattle.ir_model.proofs.Relinks.{same_refl, differs}
use Rattle.ir_model.proofs.StepLaws.{rises}

id_itself : (i : ArenaIndex) → same_id i i ≡ true
id_itself i = (lawful.ops i i).1 refl

id_apart : (j i : ArenaIndex) → j ≢ i → same_id j i ≡ false
id_apart j i = differs same_id lawful.ops j i

not_true : (b : Bool) → (b ≡ true → ⊥) → b ≡ false
not_true true n = absurd (n refl)
not_true false n = refl

none_there : {A : Type 0} (m : Option A) → (is_some m ≡ true → ⊥) → m ≡ None
none_there None n = refl
none_there (Some x) n = absurd (n refl)

module _ {W : Dialect} (b : Beside W) (sound : AuxIsSound b) where
  not_passed : (limits : Limits) (i : ArenaIndex) → IsNewAux limits b i → IsTrue (b.aux_passed i) → ⊥
  not_passed limits i new h = let less = rises limits b.aux_passed (live_aux b) i i refl new h in omega (arith, less)

  inserted : (limits : Limits) (data_ : W.Aux) (i : ArenaIndex) → IsNewAux limits b i → AuxIsInserted b data_ i (with_aux b i data_)
  inserted limits data_ i new = record {
    was_free = (not_true (b.aux_passed i) (not_passed limits i new), none_there (b.aux i) (λ h. not_passed limits i new (sound.passed i h)));
    newer = λ old same h. rises limits b.aux_passed (live_aux b) i old same new h;
    there = (ap (λ t. cond t (Some data_) (b.aux i)) (id_itself i), ap (λ t. cond t true (b.aux_passed i)) (id_itself i));
    others = λ j n. (ap (λ t. cond t (Some data_) (b.aux j)) (id_apart j i n), ap (λ t. cond t true (b.aux_passed j)) (id_apart j i n));
    names = refl;
    saved = refl;
    stays = record {
      sound = record { passed = λ j. still (same_id j i) j };
      gone = λ j g. gone j (same_id j i) refl g;
    };
  }
    where
      still : (t : Bool) (j : ArenaIndex) → IsSome (cond t (Some data_) (b.aux j)) → IsTrue (cond t true (b.aux_passed j))
      still true j h = refl
      still false j h = sound.passed j h

      gone : (j : ArenaIndex) (t : Bool) → same_id j i ≡ t → IsTrue (b.aux_passed j) × (live_aux b j → ⊥) → IsTrue (cond t true (b.aux_passed j)) × (IsSome (cond t (Some data_) (b.aux j)) → ⊥)
      gone j true e g = absurd (not_passed limits i new (subst (λ z. IsTrue (b.aux_passed z)) ((lawful.ops j i).0 e) g.0))
      gone j false e g = g

  removed : (i : ArenaIndex) → AuxIsRemoved b i
  removed i = record {
    empty = ap (λ t. cond t None (b.aux i)) (id_itself i);
    others = λ j n. ap (λ t. cond t None (b.aux j)) (id_apart j i n);
    names = λ name. refl;
    nothing = λ e. ap (λ (m : ArenaIndex → Option W.Aux). record b { aux = m }) (fun_ext (λ j. same j e (same_id j i) refl));
    passed = refl;
    saved = refl;
    stays = record {
      sound = record { passed = λ j h. sound.passed j (fewer (same_id j i) (b.aux j) h) };
      gone = λ j g. (g.0, λ h. g.1 (fewer (same_id j i) (b.aux j) h));
    };
  }
    where
      fewer : (t : Bool) (m : Option W.Aux) → IsSome (cond t None m) → IsSome m
      fewer true m h = absurd (let e : false ≡ true = h in cc)
      fewer false m h = h

      same : (j : ArenaIndex) → b.aux i ≡ None → (t : Bool) → same_id j i ≡ t → cond t None (b.aux j) ≡ b.aux j
      same j e true s = sym (ap b.aux ((lawful.ops j i).0 s) ∙ e)
      same j e false s = refl

  named : (name : Text) (i : ArenaIndex) → AuxIsNamed b name i
  named name i = record {
    leads = ap (λ t. cond t (Some i) (b.aux_names name)) (same_refl bytes_eq bytes_eq-Decides name);
    others = λ other n. ap (λ t. cond t (Some i) (b.aux_names other)) (differs bytes_eq bytes_eq-Decides other name n);
    data_ = refl;
    passed = refl;
    saved = refl;
    stays = record { sound = record { passed = sound.passed }; gone = λ j g. g };
  }

  written : (i : ArenaIndex) (data_ : W.Aux) → AuxIsWritten b i data_
  written i data_ = record {
    there = λ live. ap (λ t. cond t (option_map (λ _. data_) (b.aux i)) (b.aux i)) (id_itself i) ∙ set (b.aux i) live;
    others = λ j n. ap (λ t. cond t (option_map (λ _. data_) (b.aux j)) (b.aux j)) (id_apart j i n);
    live = λ j. as_live (same_id j i) (b.aux j);
    names = refl;
    passed = refl;
    saved = refl;
    stays = record {
      sound = record { passed = λ j h. sound.passed j ((as_live (same_id j i) (b.aux j)).0 h) };
      gone = λ j g. (g.0, λ h. g.1 ((as_live (same_id j i) (b.aux j)).0 h));
    };
  }
    where
      set : (m : Option W.Aux) → is_some m ≡ true → option_map (λ _. data_) m ≡ Some data_
      set None h = absurd cc
      set (Some x) h = refl

      as_live : (t : Bool) (m : Option W.Aux) → IsSome (cond t (option_map (λ _. data_) m) m) ↔ IsSome m
      as_live true None = (λ h. h, λ h. h)
      as_live true (Some x) = (λ h. refl, λ h. refl)
      as_live false m = (λ h. h, λ h. h)

pub aux_is_kept : (W : Dialect) → AuxIsKept W
aux_is_kept W = record {
  inserted = λ limits b c data_ i sound h. subst (AuxIsInserted b data_ i) (sym h.after) (inserted b sound limits data_ i h.is_new);
  skipped = λ limits b c sound h. record {
    one = λ i j m n p q. one_in h.skipped h.few i j (newly (b.aux_passed i) (h.passed i).0 m p) (newly (b.aux_passed j) (h.passed j).0 n q);
    aux = h.aux;
    names = h.names;
    saved = h.saved;
    stays = record {
      sound = record { passed = λ i live. (h.passed i).1 (inl (sound.passed i (subst (λ (m : ArenaIndex → Option W.Aux). IsSome (m i)) h.aux live))) };
      gone = λ i g. ((h.passed i).1 (inl g.0), λ live. g.1 (subst (λ (m : ArenaIndex → Option W.Aux). IsSome (m i)) h.aux live));
    };
  };
  removed = λ b i sound. removed b sound i;
  named = λ b name i sound. named b sound name i;
  written = λ b i data_ sound. written b sound i data_;
}
  where
    one_in : (xs : List ArenaIndex) → length xs ≤ 1 → (i j : ArenaIndex) → In i xs → In j xs → i ≡ j
    one_in [] few i j h k = elim h [ ]
    one_in (x ∷ []) few i j (inl e) (inl f) = e ∙ sym f
    one_in (x ∷ []) few i j (inl e) (inr k) = elim k [ ]
    one_in (x ∷ []) few i j (inr h) k = elim h [ ]
    one_in (x ∷ y ∷ xs) few i j h k = absurd (omega (arith, few))

    newly : {P Q : Type 0} (t : Bool) → (P → IsTrue t ⊎ Q) → t ≡ false → P → Q
    newly true to e p = absurd cc
    newly false to e p = elim (to p) [ inl k ↦ absurd (let f : false ≡ true = k in cc) | inr q ↦ q ]
