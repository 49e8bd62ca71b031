-- What each edit of the lists of a chain does to its links, whatever is named and wherever the lists lie.
use Rattle.std.proofs.Common.{◌≡◌, ℕ, ◌<◌, List, [], ◌∷◌, ◌++◌, length, Some, Result, Ok, Err, OnErr, slice_get, refl, sym, ap, subst, ◌∙◌, arith}
use Rattle.std.specs.List.{swap_remove}
use Rattle.std.proofs.lemmas.List.{length_push, length-map, map-append}
use Rattle.std.proofs.lemmas.Option.{slice_get_within}
use Rattle.ir_model.specs.declared.ids.ArenaIndex.{ArenaIndex}
use Rattle.ir_core_records.specs.declared.record.UseIndex.{UseIndex}
use Rattle.ir_core_records.specs.declared.record.UsePlace.{UsePlace}
use Rattle.ir_core_records.specs.Links.{LinkedBut, NoHole, IsFreshUse}
use Rattle.ir_core_chains.specs.Chain.{IsUseChain, Rewrites, unchanged, by_places, by_uses}
use Rattle.ir_core_records.specs.Chains.{number_and_name, names_in}
use Rattle.ir_core_chains.specs.ListReads.{slice_get-push_at, swap_remove-last}
use Rattle.ir_core_chains.specs.LinkLemmas.{OperandsChange, UsesChange, grow, attach}

-- what holds anyway holds at an error, and after a success
pub err_holds : {T E P : Type 0} (r : Result T E) → P → OnErr r P
err_holds (Ok x) p = tt
err_holds (Err e) p = p

module _ {S N : Type 0} {Live : S → ArenaIndex → Type 0} {ps : S → ArenaIndex → List (UsePlace N)} {put_ps : S → ArenaIndex → List (UsePlace N) → S} {Has : S → N → Type 0} {us : S → N → List UseIndex} {put_us : S → N → List UseIndex → S} (C : IsUseChain Live ps put_ps Has us put_us) where
  abbrev Linked : S → Type 0
  Linked t = LinkedBut NoHole (ps t) (us t)

  pub linked_by : (t s : S) → s ≡ t → Linked t → Linked s
  linked_by t s same linked = subst (λ (r : S). Linked r) (sym same) linked

  pub place_use : (t : S) (o : ArenaIndex) (i : ℕ) (a : UsePlace N) → Linked t → slice_get (ps t o) i ≡ Some a → slice_get (us t a.names) a.place ≡ Some (record { user = o; number = a.number })
  place_use t o i a links at = links.forward o i a at (λ (h : ⊥). h)

  pub place_named : (t : S) (o : ArenaIndex) (i : ℕ) (a : UsePlace N) → Linked t → slice_get (ps t o) i ≡ Some a → Has t a.names
  place_named t o i a links at = C.use_lists.has t a.names a.place (record { user = o; number = a.number }) (place_use t o i a links at)

  pub place_within : (t : S) (o : ArenaIndex) (i : ℕ) (a : UsePlace N) → Linked t → slice_get (ps t o) i ≡ Some a → a.place < length (us t a.names)
  place_within t o i a links at = slice_get_within (us t a.names) a.place (record { user = o; number = a.number }) (place_use t o i a links at)

  -- a use is put at the end, and then its place
  abbrev pub with_use : S → ArenaIndex → UsePlace N → S
  with_use t o a = put_us t a.names (us t a.names ++ record { user = o; number = a.number } ∷ [])

  abbrev with_both : S → ArenaIndex → UsePlace N → S
  with_both t o a = put_ps (with_use t o a) o (ps (with_use t o a) o ++ a ∷ [])

  pub both_is : (t s r : S) (o : ArenaIndex) (a : UsePlace N) → s ≡ with_use t o a → r ≡ put_ps s o (ps s o ++ a ∷ []) → r ≡ with_both t o a
  both_is t s r o a used placed = placed ∙ ap (λ (q : S). put_ps q o (ps q o ++ a ∷ [])) used

  module _ (t r : S) (o : ArenaIndex) (a : UsePlace N) (live : Live t o) (has : Has t a.names) (both : r ≡ with_both t o a) where
    used_live : Live (with_use t o a) o
    used_live = C.live_stays t a.names (us t a.names ++ record { user = o; number = a.number } ∷ []) o live

    pub pushed_live : Live r o
    pushed_live = subst (λ (q : S). Live q o) (sym both) (C.place_lists.keeps (with_use t o a) o (ps (with_use t o a) o ++ a ∷ []) o used_live)

    pushed_places : OperandsChange o (ps t o ++ a ∷ []) (ps t) (ps (with_both t o a))
    pushed_places =
        let same = C.places_stay t a.names (us t a.names ++ record { user = o; number = a.number } ∷ []) in
        let ys = ps (with_use t o a) o ++ a ∷ [] in
        record {
          here = C.place_lists.here (with_use t o a) o ys used_live ∙ ap (λ (os : ArenaIndex → List (UsePlace N)). os o ++ a ∷ []) same;
          others = λ p ne. C.place_lists.others (with_use t o a) o ys used_live p ne ∙ ap (λ (os : ArenaIndex → List (UsePlace N)). os p) same;
        }

    pushed_uses : UsesChange a.names (us t a.names ++ record { user = o; number = a.number } ∷ []) (us t) (us (with_both t o a))
    pushed_uses =
        let same = C.uses_stay (with_use t o a) o (ps (with_use t o a) o ++ a ∷ []) in
        let ws = us t a.names ++ record { user = o; number = a.number } ∷ [] in
        record {
          here = ap (λ (vs : N → List UseIndex). vs a.names) same ∙ C.use_lists.here t a.names ws has;
          others = λ w ne. ap (λ (vs : N → List UseIndex). vs w) same ∙ C.use_lists.others t a.names ws has w ne;
        }

    pub pushed_links : Linked t → IsFreshUse (ps t) a.number → a.place ≡ length (us t a.names) → Linked r
    pushed_links links fresh end =
        let s = with_both t o a in
        let M = grow C.tell (ps t) (ps s) (us t) o a links pushed_places fresh in
        let here : slice_get (ps s o) (length (ps t o)) ≡ Some a = ap (λ (xs : List (UsePlace N)). slice_get xs (length (ps t o))) pushed_places.here ∙ slice_get-push_at (ps t o) a in
        subst Linked (sym both) (attach C.tell (ps s) (us t) (us s) o (length (ps t o)) a M here end pushed_uses)

    pub pushed_names : names_in (ps r o) ≡ names_in (ps t o) ++ number_and_name a ∷ []
    pushed_names = ap (λ (q : S). names_in (ps q o)) both ∙ ap names_in pushed_places.here ∙ map-append number_and_name (ps t o) (a ∷ [])

    pub pushed_others : (p : ArenaIndex) → ¬ (p ≡ o) → names_in (ps r p) ≡ names_in (ps t p)
    pushed_others p ne = ap (λ (q : S). names_in (ps q p)) both ∙ ap names_in (pushed_places.others p ne)

  -- where the place was refused, the use is still there
  pub refused_has : (t r : S) (o : ArenaIndex) (a : UsePlace N) → Has t a.names → r ≡ with_use t o a → Has r a.names
  refused_has t r o a has same = subst (λ (q : S). Has q a.names) (sym same) (C.use_lists.keeps t a.names (us t a.names ++ record { user = o; number = a.number } ∷ []) a.names has)

  refused_uses : (t r : S) (o : ArenaIndex) (a : UsePlace N) → Has t a.names → r ≡ with_use t o a → us r a.names ≡ us t a.names ++ record { user = o; number = a.number } ∷ []
  refused_uses t r o a has same = ap (λ (w : S). us w a.names) same ∙ C.use_lists.here t a.names (us t a.names ++ record { user = o; number = a.number } ∷ []) has

  pub refused_within : (t r : S) (o : ArenaIndex) (a : UsePlace N) → Has t a.names → r ≡ with_use t o a → a.place ≡ length (us t a.names) → a.place < length (us r a.names)
  refused_within t r o a has same end =
      let u : UseIndex = record { user = o; number = a.number } in
      let size : length (us r a.names) ≡ length (us t a.names ++ u ∷ []) = ap length (refused_uses t r o a has same) in
      omega (arith, end, size, length_push (us t a.names) u)

  -- it is the last one, and is taken out again
  pub refused : (t s r q : S) (o : ArenaIndex) (a : UsePlace N) (past : UseIndex) → Has t a.names → s ≡ with_use t o a → r ≡ s → a.place ≡ length (us t a.names) → q ≡ put_us r a.names (swap_remove (us r a.names) a.place past) → q ≡ t
  refused t s r q o a past has used kept end taken =
      let u : UseIndex = record { user = o; number = a.number } in
      let same : r ≡ with_use t o a = kept ∙ used in
      let here = refused_uses t r o a has same in
      let left : swap_remove (us r a.names) a.place past ≡ us t a.names =
      ap (λ (vs : List UseIndex). swap_remove vs a.place past) here ∙ ap (λ (k : ℕ). swap_remove (us t a.names ++ u ∷ []) k past) end ∙ swap_remove-last (us t a.names) u past in
      taken
      ∙ ap (put_us r a.names) left
      ∙ ap (λ (w : S). put_us w a.names (us t a.names)) same
      ∙ C.use_lists.twice t a.names (us t a.names ++ u ∷ []) (us t a.names) has
      ∙ C.use_lists.self t a.names

  pub same_count : (xs ys : List (UsePlace N)) → names_in xs ≡ names_in ys → length xs ≡ length ys
  same_count xs ys e = sym (length-map xs number_and_name) ∙ ap length e ∙ length-map ys number_and_name

  -- nothing was written where the state is the same
  pub rewrites-same : (t s : S) → s ≡ t → Rewrites put_ps put_us t s
  rewrites-same t s e = subst (λ (r : S). Rewrites put_ps put_us t r) (sym e) unchanged

  -- what all such writes leave is as before
  pub rewrites-keep : {Y : Type 0} (f : S → Y) → ((s : S) (o : ArenaIndex) (xs : List (UsePlace N)) → f (put_ps s o xs) ≡ f s) → ((s : S) (v : N) (ws : List UseIndex) → f (put_us s v ws) ≡ f s) → (t s : S) → Rewrites put_ps put_us t s → f s ≡ f t
  rewrites-keep f p q t _ unchanged = refl
  rewrites-keep f p q t _ (by_places r new o xs before is) = ap f is ∙ p r o xs ∙ rewrites-keep f p q t r before
  rewrites-keep f p q t _ (by_uses r new v ws before is) = ap f is ∙ q r v ws ∙ rewrites-keep f p q t r before

  -- a relation of states that holds of each write, and of two steps where it holds of each
  pub rewrites-hold : (R : S → S → Type 0) → ((s : S) → R s s) → ((r s t : S) → R r s → R s t → R r t) → ((s : S) (o : ArenaIndex) (xs : List (UsePlace N)) → R s (put_ps s o xs)) → ((s : S) (v : N) (ws : List UseIndex) → R s (put_us s v ws)) → (t s : S) → Rewrites put_ps put_us t s → R t s
  rewrites-hold R same both p q t _ unchanged = same t
  rewrites-hold R same both p q t _ (by_places r new o xs before is) = subst (R t) (sym is) (both t r (put_ps r o xs) (rewrites-hold R same both p q t r before) (p r o xs))
  rewrites-hold R same both p q t _ (by_uses r new v ws before is) = subst (R t) (sym is) (both t r (put_us r v ws) (rewrites-hold R same both p q t r before) (q r v ws))

  -- one such run of writes after another
  pub rewrites-trans : (r s t : S) → Rewrites put_ps put_us r s → Rewrites put_ps put_us s t → Rewrites put_ps put_us r t
  rewrites-trans r s _ first unchanged = first
  rewrites-trans r s _ first (by_places q new o xs before is) = by_places q new o xs (rewrites-trans r s q first before) is
  rewrites-trans r s _ first (by_uses q new v ws before is) = by_uses q new v ws (rewrites-trans r s q first before) is

  -- what stands stays
  pub rewrites-live : (t s : S) (o : ArenaIndex) → Rewrites put_ps put_us t s → Live t o → Live s o
  rewrites-live t _ o unchanged live = live
  rewrites-live t _ o (by_places q new p xs before is) live = subst (λ (r : S). Live r o) (sym is) (C.place_lists.keeps q p xs o (rewrites-live t q o before live))
  rewrites-live t _ o (by_uses q new v ws before is) live = subst (λ (r : S). Live r o) (sym is) (C.live_stays q v ws o (rewrites-live t q o before live))

  pub rewrites-has : (t s : S) (w : N) → Rewrites put_ps put_us t s → Has t w → Has s w
  rewrites-has t _ w unchanged has = has
  rewrites-has t _ w (by_places q new p xs before is) has = subst (λ (r : S). Has r w) (sym is) (C.has_stays q p xs w (rewrites-has t q w before has))
  rewrites-has t _ w (by_uses q new v ws before is) has = subst (λ (r : S). Has r w) (sym is) (C.use_lists.keeps q v ws w (rewrites-has t q w before has))
