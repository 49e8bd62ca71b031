-- What a write of one record does to what is seen of an arena.
use Rattle.std.proofs.Common.{◌≡◌, Option, Some, None, IsSome, rules, sym, ap, ◌∙◌, subst, inl, inr}
use Rattle.std.specs.Option.{option_map}
use Rattle.ir_model.specs.declared.ids.ArenaIndex.{ArenaIndex}
use Rattle.ir_base_arenas.specs.Arena.{Arena, get, fill, IsLiveIn}
use Rattle.ir_base_arenas.specs.Lists.{Links, Ends, Heap, seen, change, SameBut}
use Rattle.ir_model.proofs.IdCases.{id_cases}
use Rattle.ir_base_arenas.proofs.ListArena.{live-at, map_records-fill, get-map_records}
use Rattle.ir_model.proofs.Arenas.{get-fill_live, get-fill_live_other}
use Rattle.ir_base_arenas.proofs.ListChains.{change-here, change-other}

heap_ext : {A : Type 0} (f g : Heap A) → ((j : ArenaIndex) → f j ≡ g j) → f ≡ g
heap_ext f g h = λ i j. h j i

module _ {T A : Type 0} where
  pub seen-fill : (view : T → A) (f : A → A) (s : Arena T) (i : ArenaIndex) (x w : T) → get s i ≡ Some x → view w ≡ f (view x) → seen view (fill s i w) ≡ change f (Some i) (seen view s)
  seen-fill view f s i x w e is = heap_ext _ _ (λ j. elim (id_cases i j) [
    | inl same ↦ subst (λ j. seen view (fill s i w) j ≡ change f (Some i) (seen view s) j) same
        (ap (option_map view) (get-fill_live s i w (live-at s i x e)) ∙ ap Some is ∙ sym (change-here f i (seen view s) (view x) (ap (option_map view) e)))
    | inr ne ↦ ap (option_map view) (get-fill_live_other s i j w (live-at s i x e) (λ e. ne (sym e))) ∙ sym (change-other f i (seen view s) j ne)
  ])

-- a write that leaves what is read leaves all that is seen
pub seen-same : {T A : Type 0} (view : T → A) (s : Arena T) (i : ArenaIndex) (x w : T) → get s i ≡ Some x → view w ≡ view x → seen view (fill s i w) ≡ seen view s
seen-same view s i x w e is = heap_ext _ _ (λ j. elim (id_cases i j) [
  | inl same ↦ subst (λ j. seen view (fill s i w) j ≡ seen view s j) same
      (ap (option_map view) (get-fill_live s i w (live-at s i x e)) ∙ ap Some is ∙ sym (ap (option_map view) e))
  | inr ne ↦ ap (option_map view) (get-fill_live_other s i j w (live-at s i x e) (λ e. ne (sym e)))
])

-- the arenas are the same but for what each of two edits changes
pub SameBut-trans : {T : Type 0} (clear : T → T) (s t u : Arena T) → SameBut clear s t → SameBut clear t u → SameBut clear s u
SameBut-trans clear s t u p q = q ∙ p

-- what is the same in two arenas is seen the same
pub SameBut-get : {T : Type 0} (clear : T → T) (s t : Arena T) → SameBut clear s t → (i : ArenaIndex) → seen clear t i ≡ seen clear s i
SameBut-get clear s t same i = sym (get-map_records clear t i) ∙ ap (λ a. get a i) same ∙ get-map_records clear s i

live-cases : {T : Type 0} (f : T → T) (o p : Option T) → option_map f p ≡ option_map f o → IsSome o → IsSome p
live-cases f None p e live = absurd (search (rules, live))
live-cases f (Some x) None e live = cc
live-cases f (Some x) (Some y) e live = search rules

pub SameBut-live : {T : Type 0} (clear : T → T) (s t : Arena T) (i : ArenaIndex) → SameBut clear s t → IsLiveIn s i → IsLiveIn t i
SameBut-live clear s t i same live = live-cases clear (get s i) (get t i) (SameBut-get clear s t same i) live

-- a record's links, after its setters
module _ {T A : Type 0} (links : T → A) (with_links : T → A → T) (get_put : (x : T) (l : A) → links (with_links x l) ≡ l) (put_put : (x : T) (l m : A) → with_links (with_links x l) m ≡ with_links x m) where
  pub put-seen : (s : Arena T) (i : ArenaIndex) (x w : T) (f : A → A) → get s i ≡ Some x → w ≡ with_links x (f (links x)) → seen links (fill s i w) ≡ change f (Some i) (seen links s)
  put-seen s i x w f e is = seen-fill links f s i x w e (ap links is ∙ get_put x (f (links x)))

  pub put-rest : (s : Arena T) (i : ArenaIndex) (x w : T) (l none : A) → get s i ≡ Some x → w ≡ with_links x l → SameBut (λ y. with_links y none) s (fill s i w)
  put-rest s i x w l none e is = map_records-fill (λ y. with_links y none) s i x w e (ap (λ y. with_links y none) is ∙ put_put x l none)

-- three setters, one after another
module _ {T : Type 0} (links : T → Links) (with_links : T → Links → T) (get_put : (x : T) (l : Links) → links (with_links x l) ≡ l) (put_put : (x : T) (l m : Links) → with_links (with_links x l) m ≡ with_links x m) where
  pub set-three : (x y z w : T) (a b c : Option ArenaIndex)
      → y ≡ with_links x (record (links x) { next = a })
      → z ≡ with_links y (record (links y) { prev = b })
      → w ≡ with_links z (record (links z) { container = c })
      → w ≡ with_links x (record { next = a; prev = b; container = c })
  set-three x y z w a b c p q r =
      let ly : links y ≡ record (links x) { next = a } = ap links p ∙ get_put _ _ in
      let z2 : z ≡ with_links x (record { next = a; prev = b; container = (links x).container }) =
      q ∙ ap (λ (l : Links). with_links y (record l { prev = b })) ly ∙ ap (λ v. with_links v (record { next = a; prev = b; container = (links x).container })) p ∙ put_put _ _ _ in
      let lz : links z ≡ record { next = a; prev = b; container = (links x).container } = ap links z2 ∙ get_put _ _ in
      r ∙ ap (λ (l : Links). with_links z (record l { container = c })) lz ∙ ap (λ v. with_links v (record { next = a; prev = b; container = c })) z2 ∙ put_put _ _ _

-- two setters of ends
module _ {T : Type 0} (ends : T → Ends) (with_ends : T → Ends → T) (get_put : (x : T) (e : Ends) → ends (with_ends x e) ≡ e) (put_put : (x : T) (e f : Ends) → with_ends (with_ends x e) f ≡ with_ends x f) where
  pub set-two : (x y w : T) (a b : Option ArenaIndex)
      → y ≡ with_ends x (record (ends x) { head = a })
      → w ≡ with_ends y (record (ends y) { tail = b })
      → w ≡ with_ends x (record { head = a; tail = b })
  set-two x y w a b p q =
      let ly : ends y ≡ record (ends x) { head = a } = ap ends p ∙ get_put _ _ in
      q ∙ ap (λ (e : Ends). with_ends y (record e { tail = b })) ly ∙ ap (λ v. with_ends v (record { head = a; tail = b })) p ∙ put_put _ _ _
