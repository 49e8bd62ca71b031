-- An arena with each record in an option does all that the arena of the records does.
use Rattle.std.proofs.Common.{◌≡◌, ℕ, zero, suc, ◌+◌, ◌-◌, ◌==◌, ◌&&◌, Bool, true, false, cond, nat_lt, List, [], ◌∷◌, map, count_by, Option, Some, None, IsSome, is_none, is_some, refl, sym, ap, subst, ◌∙◌, inl, inr, arith}
use Rattle.std.specs.Prelude.{OnSome, IfNone}
use Rattle.std.specs.Option.{option_copied_mut, option_flatten, option_map}
use Rattle.std.specs.Borrow.{MutBor}
use Rattle.std.proofs.lemmas.List.{length-map}
use Rattle.std.proofs.lemmas.List.Sums.{sum_by-cons}
use Rattle.std.proofs.Math.ListN.{get_or-map}
use Rattle.ir_model.specs.declared.ids.ArenaIndex.{ArenaIndex}
use Rattle.ir_model.specs.Slots.{Slot, find, item_under, is_retired, is_taken, never, put_in, put_slot, slot_at, slot_in}
use Rattle.ir_model.specs.Arenas.{IsInRange}
use Rattle.ir_base_arenas.specs.Arena.{Arena, Inserts, IsNew, IsNextVersion, IsWhole, cut, fill, get, miss, room, unused}
use Rattle.ir_model.proofs.Arenas.{get-fill_new}
use Rattle.ir_core_data.specs.WrappedArena.{opened, slot_with, wrapped}

module _ {T : Type 0} where
  flat : (o : Option T) → option_flatten (option_map Some o) ≡ o
  flat None = refl
  flat (Some x) = refl

  as_taken : (o : Option T) → is_some (option_map Some o) ≡ is_some o
  as_taken None = refl
  as_taken (Some x) = refl

  as_vacant : (o : Option T) → is_none (option_map Some o) ≡ is_none o
  as_vacant None = refl
  as_vacant (Some x) = refl

  abbrev slot_of : Slot T → Slot (Option T)
  slot_of s = slot_with (option_map Some) s

  -- the slots one by one
  back : (slots : List (Slot T)) → map (slot_with option_flatten) (map slot_of slots) ≡ slots
  back [] = refl
  back (s ∷ rest) = λ i. record { version = s.version; item = flat s.item i } ∷ back rest i

  in_place : (slots : List (Slot T)) (k : ℕ) → slot_in (map slot_of slots) k ≡ slot_of (slot_in slots k)
  in_place slots k = get_or-map slot_of slots k never

  numbered : (slots : List (Slot T)) (n : ℕ) → slot_at (map slot_of slots) n ≡ slot_of (slot_at slots n)
  unfolding slot_at
  numbered slots zero = refl
  numbered slots (suc k) = in_place slots k

  written_in : (slots : List (Slot T)) (k : ℕ) (s : Slot T) → put_in (map slot_of slots) k (slot_of s) ≡ map slot_of (put_in slots k s)
  written_in [] k s = refl
  written_in (x ∷ rest) zero s = refl
  written_in (x ∷ rest) (suc k) s = ap (λ l. slot_of x ∷ l) (written_in rest k s)

  written : (slots : List (Slot T)) (n : ℕ) (s : Slot T) → put_slot (map slot_of slots) n (slot_of s) ≡ map slot_of (put_slot slots n s)
  unfolding put_slot
  written slots zero s = refl
  written slots (suc k) s = written_in slots k s

  under : (s : Slot T) (version : ℕ) → item_under (slot_of s) version ≡ option_map Some (item_under s version)
  under s version = by (s.version == version)
    where
      by : (b : Bool) → cond b (option_map Some s.item) None ≡ option_map Some (cond b s.item None)
      by true = refl
      by false = refl

  counted : (p : Slot (Option T) → Bool) (q : Slot T → Bool) → ((s : Slot T) → p (slot_of s) ≡ q s) → (slots : List (Slot T)) → count_by p (map slot_of slots) ≡ count_by q slots
  counted p q same [] = refl
  counted p q same (s ∷ rest) =
      sum_by-cons (λ x. cond (p x) 1 0) (slot_of s) (map slot_of rest)
      ∙ ap (λ b. cond b 1 0 + count_by p (map slot_of rest)) (same s)
      ∙ ap (λ n. cond (q s) 1 0 + n) (counted p q same rest)
      ∙ sym (sum_by-cons (λ x. cond (q x) 1 0) s rest)

  pub opened-wrapped : (a : Arena T) → opened (wrapped a) ≡ a
  opened-wrapped a = λ i. record a { slots = back a.slots i }

  get-wrapped : (a : Arena T) (id : ArenaIndex) → get (wrapped a) id ≡ option_map Some (get a id)
  unfolding find
  get-wrapped a id = ap (λ s. item_under s id.version) (numbered a.slots id.slot) ∙ under (slot_at a.slots id.slot) id.version

  fill-wrapped : (a : Arena T) (id : ArenaIndex) (v : T) → fill (wrapped a) id (Some v) ≡ wrapped (fill a id v)
  fill-wrapped a id v = λ i. record (wrapped a) { slots = written a.slots id.slot (record { version = id.version; item = Some v }) i }

  cut-wrapped : (a : Arena T) (id : ArenaIndex) → cut (wrapped a) id ≡ wrapped (cut a id)
  cut-wrapped a id = λ i. record (wrapped a) { slots = written a.slots id.slot (record { version = id.version; item = None }) i; removals = a.removals + 1 }

  room-wrapped : (a : Arena T) → room (wrapped a) ≡ room a
  room-wrapped a =
      ap (λ n. a.limit - n - count_by (is_retired a.last_version) (map slot_of a.slots)) (counted is_taken is_taken (λ s. as_taken s.item) a.slots)
      ∙ ap (λ n. a.limit - count_by is_taken a.slots - n) (counted (is_retired a.last_version) (is_retired a.last_version) (λ s. ap (λ b. b && nat_lt a.last_version (s.version + 2)) (as_vacant s.item)) a.slots)

  unused-wrapped : (a : Arena T) → unused (wrapped a) ≡ unused a
  unused-wrapped a = ap (λ n. a.limit - n) (length-map a.slots slot_of)

  whole-wrapped : (a : Arena T) → IsWhole (wrapped a) → IsWhole a
  whole-wrapped a whole = record {
    within = omega (arith, whole.within, length-map a.slots slot_of);
    versions = λ k below. subst (λ s. IsInRange a.last_version s.version) (in_place a.slots k) (whole.versions k (omega (arith, below, length-map a.slots slot_of)));
  }

  new-wrapped : (a : Arena T) (id : ArenaIndex) → IsNew (wrapped a) id → IsNew a id
  new-wrapped a id new = record {
    numbered = new.numbered;
    within = new.within;
    fits = new.fits;
    vacant = sym (flat (slot_at a.slots id.slot).item) ∙ ap option_flatten (ap (λ s. s.item) (sym (numbered a.slots id.slot)) ∙ new.vacant);
    version = by new.version;
  }
    where
      last : (slot_at (map slot_of a.slots) id.slot).version ≡ (slot_at a.slots id.slot).version
      last = ap (λ s. s.version) (numbered a.slots id.slot)

      by : IsNextVersion (wrapped a) id → IsNextVersion a id
      by (inl end) = inl (omega (arith, end.0, length-map a.slots slot_of), end.1)
      by (inr again) = inr (omega (arith, again.0, length-map a.slots slot_of), omega (arith, again.1, last), omega (arith, again.2, last))

module _ {T : Type 0} (b : Arena (Option T)) (a : Arena T) (is : b ≡ wrapped a) where
  opens : opened b ≡ a
  opens = ap opened is ∙ opened-wrapped a

  stays : b ≡ wrapped (opened b)
  stays = is ∙ ap wrapped (sym opens)

-- an arena of options that is seen as the arena a of records
module _ {T : Type 0} (b : Arena (Option T)) (a : Arena T) (kept : b ≡ wrapped (opened b)) (seen : opened b ≡ a) where
  is : b ≡ wrapped a
  is = kept ∙ ap wrapped seen

  pub seen-room : room b ≡ room a
  seen-room = ap room is ∙ room-wrapped a

  pub seen-unused : unused b ≡ unused a
  seen-unused = ap unused is ∙ unused-wrapped a

  pub seen-whole : IsWhole b → IsWhole a
  seen-whole whole = whole-wrapped a (subst IsWhole is whole)

  -- what stands under an id
  pub seen-get : (id : ArenaIndex) (found : Option (Option T)) → found ≡ get b id → option_flatten found ≡ get a id
  seen-get id found at = ap option_flatten (at ∙ ap (λ c. get c id) is ∙ get-wrapped a id) ∙ flat (get a id)

  -- no option that is found is without a record
  pub found-some : (id : ArenaIndex) (o : Option T) → Some o ≡ get b id → IsSome o
  found-some id (Some x) found = refl
  found-some id None found = absurd (by (get a id) (found ∙ ap (λ c. get c id) is ∙ get-wrapped a id))
    where
      by : (o : Option T) → Some None ≡ option_map Some o → ⊥
      by None e = absurd (cc)
      by (Some x) e = absurd (cc)

  -- a record that is put under an id
  filled_is : (id : ArenaIndex) (v : T) → fill b id (Some v) ≡ wrapped (fill a id v)
  filled_is id v = ap (λ c. fill c id (Some v)) is ∙ fill-wrapped a id v

  pub seen-fill : (id : ArenaIndex) (v : T) → opened (fill b id (Some v)) ≡ fill a id v
  seen-fill id v = opens (fill b id (Some v)) (fill a id v) (filled_is id v)

  pub fill-kept : (id : ArenaIndex) (o : Option T) → IsSome o → fill b id o ≡ wrapped (opened (fill b id o))
  fill-kept id None some = absurd (cc)
  fill-kept id (Some v) some = stays (fill b id (Some v)) (fill a id v) (filled_is id v)

  -- and under a new one
  pub seen-insert : (after : Arena (Option T)) (id : ArenaIndex) (v : T) → IsNew b id → after ≡ fill b id (Some v) → Inserts (λ stored. stored ≡ v) a (opened after) id
  seen-insert after id v new filled =
      let is_new = new-wrapped a id (subst (λ c. IsNew c id) is new) in
      let shown = ap opened filled ∙ seen-fill id v in
      record {
        new_id = is_new;
        value = v;
        by_make = refl;
        filled = shown;
        found = ap (λ c. get c id) shown ∙ get-fill_new a id v is_new;
      }

  pub insert-kept : (after : Arena (Option T)) (id : ArenaIndex) (v : T) → after ≡ fill b id (Some v) → after ≡ wrapped (opened after)
  insert-kept after id v filled = stays after (fill a id v) (filled ∙ filled_is id v)

  -- a record that is taken out, where there is one
  module _ (id : ArenaIndex) (after : Arena (Option T)) where
    taken : after ≡ cut b id → after ≡ wrapped (cut a id)
    taken some = some ∙ ap (λ c. cut c id) is ∙ cut-wrapped a id

    missed : after ≡ miss b → after ≡ wrapped (miss a)
    missed none = none ∙ ap miss is

    pub remove-kept : (found : Option (Option T)) → OnSome found (after ≡ cut b id) → IfNone found (after ≡ miss b) → after ≡ wrapped (opened after)
    remove-kept None some none = stays after (miss a) (missed none)
    remove-kept (Some o) some none = stays after (cut a id) (taken some)

    pub seen-cut : (found : Option (Option T)) → OnSome found (after ≡ cut b id) → OnSome (option_flatten found) (opened after ≡ cut a id)
    seen-cut None some = tt
    seen-cut (Some None) some = tt
    seen-cut (Some (Some x)) some = opens after (cut a id) (taken some)

    pub seen-miss : (found : Option (Option T)) → found ≡ get b id → IfNone found (after ≡ miss b) → IfNone (option_flatten found) (opened after ≡ miss a)
    seen-miss None at none = opens after (miss a) (missed none)
    seen-miss (Some None) at none = let some = found-some id None at in absurd (cc)
    seen-miss (Some (Some x)) at none = tt

-- what is lent, where there is something to lend
pub lent-some : {T : Type 0} (lent : Option (MutBor T)) (o : Option T) → option_copied_mut lent ≡ o → IsSome o → (r : MutBor T) × (lent ≡ Some r)
lent-some None o is some = absurd (cc)
lent-some (Some r) o is some = (r, refl)
