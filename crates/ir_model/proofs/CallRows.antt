-- The worked examples of the calls beside the edits hold.
use mathlib.Core.Path.{◌≡◌, refl, sym, ap, ◌∙◌, subst, fun_ext}
use Rattle.std.proofs.Common.{ℕ, zero, suc, ◌<◌, ◌≤◌, ◌+◌, ◌⊎◌, inl, inr, Bool, true, false, cond, Option, Some, None, List, [], ◌∷◌, map, length, IsSome, arith}
use Rattle.std.specs.Prelude.{◌↔◌, IsTrue, slice_get, codes, ◌==◌}
use Rattle.std.specs.Option.{option_map}
use Rattle.ir_model.specs.declared.ids.ArenaIndex.{ArenaIndex}
use Rattle.ir_model.specs.ContextIds.{same_id}
use Rattle.ir_model.specs.Forest.{Text, OpRecord, Definition, Successor, Forest, of_op, the_block}
use Rattle.ir_model.specs.Nesting.{In, ops_of, regions_of, definitions_of}
use Rattle.ir_model.specs.Edits.{The, StoredType}
use Rattle.ir_model.specs.Uses.{Use, IsUse, AreUses}
use Rattle.ir_model.specs.Sessions.{TakesSlot}
use Rattle.ir_model.specs.Calls.{set_type, set_name}
use Rattle.ir_model.specs.Kinds.{dominance}
use Rattle.ir_model.specs.AuxData.{live_aux}
use Rattle.ir_model.specs.VerifierLists.{DifferBelow, IsFirstRepeat}
use Rattle.ir_model.specs.SmallForests.{Small, n0, n1, n2, n3, n4, n5, small_ids, bare, result, operation}
use Rattle.ir_model.specs.IdForests.{first}
use Rattle.ir_model.specs.WorkedRows.{use_}
use Rattle.ir_model.specs.CallRows.{SavedRows, BodyRows, HandleRows, DominanceRows, ParentRows, PredecessorRows, PartRows, AuxRows, VerifierRows, KeyRows, repeated_keys, asks, no_first, two_owners, nested_block, two_ways, spoken, named_value, with_data, taken_out, one_slot}
use Rattle.ir_model.proofs.TwoRuns.{lawful}
use Rattle.ir_model.proofs.WorkedRows.{both_uses}

pub saved_rows : SavedRows
saved_rows = record { kept = refl; hello = refl; world = refl; number = refl; other_kind = refl }

pub body_rows : BodyRows
body_rows = record { set = refl; handle = refl; not_both = λ e. bodies_differ (ap (λ (ts : List (StoredType spoken)). option_map (λ (t : StoredType spoken). t.body) (slice_get ts 0)) e) }
  where
    bodies_differ : ◌≡◌ {A = Option (Option ℕ)} (Some None) (Some (Some 1)) → ⊥
    bodies_differ e = absurd cc

pub handle_rows : HandleRows
handle_rows = record {
  other_kind = (record { value = _; found = refl; holds = refl }, λ e. omega (arith, e));
  its_kind = record { value = _; found = refl; holds = refl };
  not_refused = λ provided h. h.1 (sym h.0.holds ∙ ap (λ (t : StoredType spoken). t.key) (sym (kept h.0.value h.0.found)));
  lacks = (record { value = _; found = refl; holds = refl }, refl);
  implements = (0, record { value = _; found = refl; holds = refl }, refl);
  not_lacking = λ provided h.
      let k : provided ≡ 0 = sym h.0.holds ∙ ap (λ (t : StoredType spoken). t.key) (sym (kept h.0.value h.0.found)) in
      true_false (sym (ap (λ n. n == 0) k) ∙ h.1);
}
  where
    kept : (t : StoredType spoken) → ◌≡◌ {A = Option (StoredType spoken)} (Some (record { key = 0; body = None })) (Some t) → ◌≡◌ {A = StoredType spoken} (record { key = 0; body = None }) t
    kept t e = cc

    true_false : true ≡ false → ⊥
    true_false e = absurd cc

at_place : (g o : Small) (i : ℕ) → slice_get (regions_of two_owners o) i ≡ Some g → (((o ≡ n0) × (i ≡ 0) × (g ≡ n0)) ⊎ ((o ≡ n0) × (i ≡ 1) × (g ≡ n1))) ⊎ ((o ≡ n1) × (i ≡ 0) × (g ≡ n2))
at_place g n0 zero e = inl (inl (refl, refl, let s : n0 ≡ g = cc in sym s))
at_place g n0 (suc zero) e = inl (inr (refl, refl, let s : n1 ≡ g = cc in sym s))
at_place g n0 (suc (suc i)) e = absurd cc
at_place g n1 zero e = inr (refl, refl, let s : n2 ≡ g = cc in sym s)
at_place g n1 (suc i) e = absurd cc
at_place g n2 i e = absurd cc
at_place g n3 i e = absurd cc
at_place g n4 i e = absurd cc
at_place g n5 i e = absurd cc

answer_at : (o : Small) (i : ℕ) (r : OpRecord small_ids bare) → two_owners.ops o ≡ Some r → (b : Bool) → The (two_owners.ops o) (λ q. b ≡ dominance asks no_first q.kind i) → b ≡ dominance asks no_first r.kind i
answer_at o i r e b t = (let f : Some r ≡ Some t.value = sym e ∙ t.found in let s : r ≡ t.value = cc in t.holds ∙ ap (λ (q : OpRecord small_ids bare). dominance asks no_first q.kind i) (sym s))

pub dominance_rows : DominanceRows
dominance_rows = record {
  asked = record {
    told = (n0, (0, refl, record { value = _; found = refl; holds = refl }));
    only = λ b h. elim (at_place n0 h.0 h.1.0 h.1.1) [
      | inl k ↦ elim k [ inl z ↦ moved n0 0 (operation 7 [] [] [] (n0 ∷ n1 ∷ [])) refl b h.0 h.1.0 z.0 z.1 h.1.2 | inr z ↦ absurd (let e = z.2 in cc) ]
      | inr z ↦ absurd (let e = z.2 in cc)
    ];
  };
  asked_again = record {
    told = (n0, (1, refl, record { value = _; found = refl; holds = refl }));
    only = λ b h. elim (at_place n1 h.0 h.1.0 h.1.1) [
      | inl k ↦ elim k [ inl z ↦ absurd (let e = z.2 in cc) | inr z ↦ moved n0 1 (operation 7 [] [] [] (n0 ∷ n1 ∷ [])) refl b h.0 h.1.0 z.0 z.1 h.1.2 ]
      | inr z ↦ absurd (let e = z.2 in cc)
    ];
  };
  not_asked = record {
    told = (n1, (0, refl, record { value = _; found = refl; holds = refl }));
    only = λ b h. elim (at_place n2 h.0 h.1.0 h.1.1) [
      | inl k ↦ elim k [ inl z ↦ absurd (let e = z.2 in cc) | inr z ↦ absurd (let e = z.2 in cc) ]
      | inr z ↦ moved n1 0 (operation 5 [] [] [] (n2 ∷ [])) refl b h.0 h.1.0 z.0 z.1 h.1.2
    ];
  };
}
  where
    moved : (o : Small) (i : ℕ) (r : OpRecord small_ids bare) → two_owners.ops o ≡ Some r → (b : Bool) (p : Small) (j : ℕ) → p ≡ o → j ≡ i → The (two_owners.ops p) (λ q. b ≡ dominance asks no_first q.kind j) → b ≡ dominance asks no_first r.kind i
    moved o i r e b p j same at h = answer_at o i r e b (subst (λ k. The (two_owners.ops o) (λ q. b ≡ dominance asks no_first q.kind k)) at (subst (λ z. The (two_owners.ops z) (λ q. b ≡ dominance asks no_first q.kind j)) same h))

pub parent_rows : ParentRows
parent_rows = record {
  of_argument = refl;
  region = (n1, refl, inl refl);
  not_around = λ e. absurd cc;
  of_result = inl refl;
  unlinked = alone;
  not_linked = alone n0;
}
  where
    alone : (c : Small) → In n1 (ops_of nested_block c) → ⊥
    alone n0 (inl e) = absurd cc
    alone n0 (inr k) = k
    alone n1 k = k
    alone n2 k = k
    alone n3 k = k
    alone n4 k = k
    alone n5 k = k

two_ways_use : (u : Use small_ids) → IsUse two_ways (the_block n2) u → (u ≡ use_ n0 n0) ⊎ (u ≡ use_ n1 n1)
two_ways_use u h = by u.user h
  where
    by : (o : Small) → IsUse two_ways (the_block n2) (record { user = o; number = u.number })
        → (◌≡◌ {A = Use small_ids} (record { user = o; number = u.number }) (use_ n0 n0)) ⊎ (◌≡◌ {A = Use small_ids} (record { user = o; number = u.number }) (use_ n1 n1))
    by n0 (inl e) = inl (let s : u.number ≡ n0 = ap (λ (p : Successor small_ids). p.use_number) e in λ i. record { user = n0; number = s i })
    by n0 (inr k) = elim k [ ]
    by n1 (inl e) = inr (let s : u.number ≡ n1 = ap (λ (p : Successor small_ids). p.use_number) e in λ i. record { user = n1; number = s i })
    by n1 (inr k) = elim k [ ]
    by n2 k = elim k [ ]
    by n3 k = elim k [ ]
    by n4 k = elim k [ ]
    by n5 k = elim k [ ]

use_to : (u v : Use small_ids) → u ≡ v → IsUse two_ways (the_block n2) v → IsUse two_ways (the_block n2) u
use_to u v e h = subst (IsUse two_ways (the_block n2)) (sym e) h

uses_apart : use_ n0 n0 ≡ use_ n1 n1 → ⊥
uses_apart e = (let s : n0 ≡ n1 = ap (λ (u : Use small_ids). u.number) e in cc)

in_order_uses : AreUses two_ways (the_block n2) (use_ n0 n0 ∷ use_ n1 n1 ∷ [])
in_order_uses = record {
  once = ((uses_apart, tt), (tt, tt));
  exact = λ u. (
    λ h. elim h [ inl e ↦ use_to u (use_ n0 n0) e (inl refl) | inr k ↦ elim k [ inl e ↦ use_to u (use_ n1 n1) e (inl refl) | inr z ↦ elim z [ ] ] ],
    λ h. elim (two_ways_use u h) [ inl e ↦ inl e | inr e ↦ inr (inl e) ],
  );
}

other_order_uses : AreUses two_ways (the_block n2) (use_ n1 n1 ∷ use_ n0 n0 ∷ [])
other_order_uses = record {
  once = ((λ e. uses_apart (sym e), tt), (tt, tt));
  exact = λ u. (
    λ h. elim h [ inl e ↦ use_to u (use_ n1 n1) e (inl refl) | inr k ↦ elim k [ inl e ↦ use_to u (use_ n0 n0) e (inl refl) | inr z ↦ elim z [ ] ] ],
    λ h. elim (two_ways_use u h) [ inl e ↦ inr (inl e) | inr e ↦ inl e ],
  );
}

pub predecessor_rows : PredecessorRows
predecessor_rows = record {
  in_order = record { are_uses = in_order_uses; in_order = (inl refl, (inl refl, tt)) };
  in_other_order = record { are_uses = other_order_uses; in_order = (inl refl, (inl refl, tt)) };
  not_out_of_order = λ p. elim p.in_order.0 [ inl e ↦ absurd cc | inr k ↦ k ];
  first_by_that = record { value = use_ n1 n1; found = refl; holds = inl refl };
  twice = record { are_uses = both_uses; in_order = (inl refl, (inl refl, tt)) };
  not_once = λ p. p.in_order.1;
  by_its_first = (n1, inl refl, inl refl);
  not_itself = λ h. h.1;
}

pub part_rows : PartRows
part_rows = record {
  one_moves = refl;
  none_move = refl;
  typed = ap (λ (ops : Small → Option (OpRecord small_ids bare)). record { ops = ops; blocks = λ b. None; regions = λ r. None }) (fun_ext typed_at);
  renamed = ap (λ (ops : Small → Option (OpRecord small_ids bare)). record { ops = ops; blocks = λ b. None; regions = λ r. None }) (fun_ext renamed_at);
  not_unnamed = λ e. names_differ (ap (λ (f : Forest small_ids bare). map (λ (x : Definition small_ids bare). x.name) (definitions_of f (of_op n0))) e);
}
  where
    typed_at : (o : Small) → (set_type (named_value (Some (codes "c0")) 0) (result n0 n0) 1).ops o ≡ (named_value (Some (codes "c0")) 1).ops o
    typed_at n0 = refl
    typed_at n1 = refl
    typed_at n2 = refl
    typed_at n3 = refl
    typed_at n4 = refl
    typed_at n5 = refl

    renamed_at : (o : Small) → (set_name (named_value (Some (codes "c0")) 0) (result n0 n0) None).ops o ≡ (named_value None 0).ops o
    renamed_at n0 = refl
    renamed_at n1 = refl
    renamed_at n2 = refl
    renamed_at n3 = refl
    renamed_at n4 = refl
    renamed_at n5 = refl

    names_differ : ◌≡◌ {A = List (Option (List ℕ))} (Some (codes "c0") ∷ []) (None ∷ []) → ⊥
    names_differ e = absurd cc

taken_live : (x : ArenaIndex) → live_aux taken_out x → ⊥
taken_live x h = by (same_id x first) h
  where
    by : (t : Bool) → IsSome (cond t None (cond t (Some (codes "data")) None)) → ⊥
    by true h = absurd cc
    by false h = absurd cc

taken_passed : (x : ArenaIndex) → IsTrue (taken_out.aux_passed x) → x ≡ first
taken_passed x h = by (same_id x first) refl h
  where
    by : (t : Bool) → same_id x first ≡ t → IsTrue (cond t true false) → x ≡ first
    by true e h = (lawful.ops x first).0 e
    by false e h = absurd cc

pub aux_rows : AuxRows
aux_rows = record {
  inserted = record { is_new = (omega arith, omega arith, omega arith, inl (refl, λ j h. absurd (let e : false ≡ true = h in cc))); after = refl };
  no_second_slot = λ new. (let h : 2 ≤ 1 = new.1 in omega (arith, h));
  still_named = refl;
  not_forgotten = λ e. absurd cc;
  gone = refl;
  other_index = refl;
  next = (omega arith, omega arith, omega arith, inr (first, refl, refl, refl, taken_live first, λ j h s. (let e : j.version ≡ 1 = ap (λ (i : ArenaIndex). i.version) (taken_passed j h) in omega (arith, e))));
  not_again = λ new. elim new.3 [ inl z ↦ z.1 first refl refl | inr z ↦ (let h : 1 ≡ z.0.version + 2 = z.2 in omega (arith, h)) ];
  spent = (1, (first ∷ [], (tt, tt), one_taken, refl), omega arith);
  not_spent = λ h. still_room h.0 h.1.0 h.1.2 h.1.3 h.2;
  a_slot_left = (0, ([], tt, none_taken, refl), omega arith);
  no_slot_left = λ h. no_room h.0 h.1.0 h.1.2 h.1.3 h.2;
}
  where
    one_taken : (x : ArenaIndex) → In x (first ∷ []) ↔ TakesSlot (one_slot 1) taken_out.aux_passed (live_aux taken_out) x
    one_taken x = (
      λ h. elim h [ inl e ↦ subst (TakesSlot (one_slot 1) taken_out.aux_passed (live_aux taken_out)) (sym e) (inr (refl, taken_live first, omega arith)) | inr k ↦ elim k [ ] ],
      λ h. elim h [ inl live ↦ absurd (taken_live x live) | inr z ↦ inl (taken_passed x z.0) ],
    )

    none_taken : (x : ArenaIndex) → In x [] ↔ TakesSlot (one_slot 3) taken_out.aux_passed (live_aux taken_out) x
    none_taken x = (
      λ h. elim h [ ],
      λ h. elim h [
        | inl live ↦ taken_live x live
        | inr z ↦ (let v : x.version ≡ 1 = ap (λ (i : ArenaIndex). i.version) (taken_passed x z.0) in let k : 3 < x.version + 2 = z.2 in omega (arith, v, k))
      ],
    )

    no_room : (gone : ℕ) (xs : List ArenaIndex) → ((x : ArenaIndex) → In x xs ↔ TakesSlot (one_slot 3) with_data.aux_passed (live_aux with_data) x) → length xs ≡ gone → gone + 1 ≤ 1 → ⊥
    no_room gone [] exact e le = (exact first).1 (inl refl)
    no_room gone (x ∷ xs) exact e le = (let s : suc (length xs) ≡ gone = e in omega (arith, s, le))

    still_room : (gone : ℕ) (xs : List ArenaIndex) → ((x : ArenaIndex) → In x xs ↔ TakesSlot (one_slot 3) taken_out.aux_passed (live_aux taken_out) x) → length xs ≡ gone → 1 < gone + 1 → ⊥
    still_room gone [] exact e lt = (let s : 0 ≡ gone = e in omega (arith, s, lt))
    still_room gone (x ∷ xs) exact e lt = elim ((exact x).0 (inl refl)) [
      | inl live ↦ taken_live x live
      | inr z ↦ (let v : x.version ≡ 1 = ap (λ (i : ArenaIndex). i.version) (taken_passed x z.0) in let h : 3 < x.version + 2 = z.2 in omega (arith, v, h))
    ]

pub verifier_rows : VerifierRows
verifier_rows = record { one_owner = refl; two_owners = refl }

-- the first letter of a key
letter : Option Text → ℕ
letter None = 0
letter (Some []) = 0
letter (Some (c ∷ cs)) = c

keys_differ : Some (codes "a") ≡ Some (codes "b") → ⊥
unfolding letter
keys_differ e = (let h : 97 ≡ 98 = ap letter e in omega (arith, h))

-- the places below two differ
two_differ : (rest : List Text) → DifferBelow (codes "a" ∷ codes "b" ∷ rest) 2
two_differ rest zero (suc zero) lt within e = keys_differ e
two_differ rest (suc m) (suc zero) lt within e = (let h : suc m < 1 = lt in omega (arith, h))
two_differ rest m zero lt within e = (let h : m < 0 = lt in omega (arith, h))
two_differ rest m (suc (suc n)) lt within e = (let h : suc (suc n) < 2 = within in omega (arith, h))

two_of_repeated : DifferBelow repeated_keys 2
two_of_repeated = two_differ (codes "a" ∷ codes "b" ∷ codes "a" ∷ [])

pub key_rows : KeyRows
key_rows = record {
  told = λ m n. (told m n, λ h. subst (λ k. IsFirstRepeat repeated_keys k n) (sym h.0) (subst (IsFirstRepeat repeated_keys 0) (sym h.1) these));
  differ = two_of_repeated;
  not_below_three = λ d. d 0 2 (omega arith) (omega arith) refl;
  none_told = λ m n r. two_differ [] m n r.in_order r.within r.same;
  all_differ = two_differ [];
}
  where
    these : IsFirstRepeat repeated_keys 0 2
    these = record { in_order = omega arith; within = omega arith; same = refl; least = two_of_repeated }

    told : (m n : ℕ) → IsFirstRepeat repeated_keys m n → (m ≡ 0) × (n ≡ 2)
    told zero (suc (suc zero)) r = (refl, refl)
    told (suc zero) (suc (suc zero)) r = absurd (keys_differ (sym r.same))
    told (suc (suc m)) (suc (suc zero)) r = (let h : suc (suc m) < 2 = r.in_order in omega (arith, h))
    told m zero r = (let h : m < 0 = r.in_order in omega (arith, h))
    told m (suc zero) r = absurd (two_of_repeated m 1 r.in_order (omega arith) r.same)
    told m (suc (suc (suc n))) r = absurd (r.least 0 2 (omega arith) (omega arith) refl)
