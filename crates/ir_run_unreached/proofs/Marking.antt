-- A list of marks that grows while it is gone through, until it has all that is reached.
use mathlib.Core.Path.{◌≡◌, refl, sym, ap, ◌∙◌, subst}
use Rattle.std.proofs.Common.{ℕ, suc, zero, ◌+◌, ◌-◌, ◌<◌, ◌≤◌, ◌↔◌, ◌⊎◌, inl, inr, Bool, true, false, not, cond, ◌||◌, Option, Some, None, List, [], ◌∷◌, ◌++◌, length, slice_get, take, is_some, arith}
use Rattle.std.specs.Prelude.{IsNone, IsTrue}
use Rattle.std.specs.List.{list_any, IsDistinct, AllByRecursion}
use Rattle.std.specs.Option.{option_map}
use Rattle.std.proofs.lemmas.Bool.{false≢true}
use Rattle.std.proofs.lemmas.List.{append_assoc}
use Rattle.ir_model.specs.Ids.{Ids, Distinct, Absent}
use Rattle.ir_model.specs.Forest.{Dialect, a_block, a_region, Forest}
use Rattle.ir_model.specs.Nesting.{In, Nested, IsLive, blocks_of, ops_of}
use Rattle.ir_model.specs.Edits.{with_key}
use Rattle.ir_model.specs.Parent.{first_of}
use Rattle.ir_model.specs.BlockGraph.{targets_of}
use Rattle.ir_model.proofs.Nests.{In-append, In-left, In-right, In-map, Absent-not_in, not_in-Absent, Distinct-append}
use Rattle.ir_model.proofs.Removal.{length-within}
use Rattle.ir_model_passes.specs.Unreached.{Reached, at_first, by_successor, IsUnreached}
use Rattle.ir_run_unreached.specs.Marks.{Adds, IsNamedIn, KeepsUnmarked, LeavesUnmarked, ListsUnreached}

-- what is none has no index
pub none_seen : {P Q : Type 0} (index : P → Q) (m : Option P) (r : Option Q) → option_map index m ≡ r → m ≡ None → r ≡ None
none_seen index m r e none = sym e ∙ ap (option_map index) none

-- ## What is added to a list

module _ {A : Type 0} where
  append_none : (xs : List A) → xs ++ [] ≡ xs
  append_none [] = refl
  append_none (x ∷ xs) = ap (λ ys. x ∷ ys) (append_none xs)

  -- the list itself, where nothing is such
  pub adds_none : (such : A → Type 0) (xs : List A) → ((x : A) → such x → ⊥) → Adds such xs xs
  adds_none such xs none = record { more = ([], sym (append_none xs)); only = λ x h. inl h; all = λ x s. absurd (none x s) }

  -- one after the other
  pub adds_then : (one other both : A → Type 0) (xs ys zs : List A) → Adds one xs ys → Adds other ys zs
      → ((x : A) → both x → one x ⊎ other x) → ((x : A) → one x → both x) → ((x : A) → other x → both x) → Adds both xs zs
  adds_then one other both xs ys zs a b parts left right = record {
    more = (a.more.0 ++ b.more.0, b.more.1 ∙ ap (λ l. l ++ b.more.0) a.more.1 ∙ append_assoc xs a.more.0 b.more.0);
    only = λ x h. elim (b.only x h) [
      | inl k ↦ elim (a.only x k) [ inl i ↦ inl i | inr s ↦ inr (left x s) ]
      | inr s ↦ inr (right x s)
    ];
    all = λ x s. elim (parts x s) [
      | inl k ↦ subst (In x) (sym b.more.1) (In-left x ys b.more.0 (a.all x k))
      | inr k ↦ b.all x k
    ];
  }

  -- the same of what is such in other words
  pub adds_as : (such so : A → Type 0) (xs ys : List A) → ((x : A) → such x ↔ so x) → Adds such xs ys → Adds so xs ys
  adds_as such so xs ys same a = record {
    more = a.more;
    only = λ x h. elim (a.only x h) [ inl k ↦ inl k | inr s ↦ inr ((same x).0 s) ];
    all = λ x s. a.all x ((same x).1 s);
  }

  -- what is pushed is added
  pub adds_last : (xs : List A) (x : A) → Adds (λ y. y ≡ x) xs (xs ++ x ∷ [])
  adds_last xs x = record {
    more = (x ∷ [], refl);
    only = λ y h. elim (In-append y xs (x ∷ []) h) [ inl k ↦ inl k | inr k ↦ elim k [ inl e ↦ inr e | inr q ↦ absurd q ] ];
    all = λ y e. In-right y xs (x ∷ []) (inl e);
  }

  module _ (eq : A → A → Bool) (same : (x y : A) → IsTrue (eq x y) ↔ (x ≡ y)) where
    pub any_in : (x : A) (xs : List A) → list_any (λ k. eq k x) xs ≡ true → In x xs
    any_in x [] e = absurd (false≢true e)
    any_in x (y ∷ ys) e = by (any_in x ys) (eq y x) refl e
      where
        by : (list_any (λ k. eq k x) ys ≡ true → In x ys) → (t : Bool) → eq y x ≡ t → (t || list_any (λ k. eq k x) ys) ≡ true → In x (y ∷ ys)
        by more true k l = inl (sym ((same y x).0 k))
        by more false k l = inr (more l)

    pub in_any : (x : A) (xs : List A) → In x xs → list_any (λ k. eq k x) xs ≡ true
    in_any x [] h = absurd h
    in_any x (y ∷ ys) (inl e) = ap (λ t. t || list_any (λ k. eq k x) ys) ((same y x).1 (sym e))
    in_any x (y ∷ ys) (inr h) = by (eq y x) (in_any x ys h)
      where
        by : (t : Bool) → list_any (λ k. eq k x) ys ≡ true → (t || list_any (λ k. eq k x) ys) ≡ true
        by true k = refl
        by false k = k

    absent_so : (x : A) (xs : List A) → AllByRecursion (λ y. eq x y ≡ false) xs → Absent x xs
    absent_so x [] h = tt
    absent_so x (y ∷ ys) h = (λ e. false≢true (sym h.0 ∙ (same x y).1 e), absent_so x ys h.1)

    -- no two of a store are one
    pub distinct_so : (xs : List A) → IsDistinct eq xs → Distinct xs
    unfolding IsDistinct
    distinct_so [] d = tt
    distinct_so (x ∷ xs) d = (absent_so x xs d.0, distinct_so xs d.1)

    -- a key that is put into a store
    pub adds_key : (xs : List A) (x : A) → Adds (λ y. y ≡ x) xs (with_key eq xs x)
    adds_key xs x = by (list_any (λ k. eq k x) xs) refl
      where
        by : (t : Bool) → list_any (λ k. eq k x) xs ≡ t → Adds (λ y. y ≡ x) xs (cond t xs (xs ++ x ∷ []))
        by true e = record { more = ([], sym (append_none xs)); only = λ y h. inl h; all = λ y s. subst (λ z. In z xs) (sym s) (any_in x xs e) }
        by false e = adds_last xs x

  -- ## Places of a list

  -- one more place
  pub taken_more : (xs : List A) (k next : ℕ) (x y : A) → next ≡ k + 1 → slice_get xs k ≡ Some x → In y (take next xs) ↔ (In y (take k xs) ⊎ (y ≡ x))
  taken_more xs k zero x y one e = absurd (omega (arith, one))
  taken_more [] k (suc next) x y one e = absurd cc
  taken_more (z ∷ xs) zero (suc next) x y one e = (
    λ h. elim h [ inl s ↦ inr (s ∙ head e) | inr q ↦ absurd (subst (λ n. In y (take n xs)) none q) ],
    λ h. elim h [ inl q ↦ absurd q | inr s ↦ inl (s ∙ sym (head e)) ],
  )
    where
      none : next ≡ 0
      none = omega (arith, one)

      head : Some z ≡ Some x → z ≡ x
      head k = cc
  taken_more (z ∷ xs) (suc k) (suc next) x y one e =
      let more = taken_more xs k next x y (omega (arith, one)) e in (
        λ h. elim h [ inl s ↦ inl (inl s) | inr q ↦ elim (more.0 q) [ inl i ↦ inl (inr i) | inr s ↦ inr s ] ],
        λ h. elim h [ inl i ↦ elim i [ inl s ↦ inl s | inr q ↦ inr (more.1 (inl q)) ] | inr s ↦ inr (more.1 (inr s)) ],
      )

  pub taken_all : (xs : List A) (n : ℕ) → n ≡ length xs → take n xs ≡ xs
  taken_all xs n e = ap (λ k. take k xs) e ∙ whole xs
    where
      whole : (ys : List A) → take (length ys) ys ≡ ys
      whole [] = refl
      whole (y ∷ ys) = ap (λ l. y ∷ l) (whole ys)

  -- what stands right behind a front of so many
  behind_front : (front back : List A) (n : ℕ) (x : A) → length front ≡ n → slice_get (front ++ back) n ≡ Some x → (rest : List A) × (back ≡ x ∷ rest)
  behind_front [] [] n x e at = absurd (let z : zero ≡ n = e in none n z at)
    where
      none : (m : ℕ) → zero ≡ m → slice_get [] m ≡ Some x → ⊥
      none m z h = cc
  behind_front [] (y ∷ ys) n x e at = (ys, ap (λ z. z ∷ ys) (first n e at))
    where
      first : (m : ℕ) → zero ≡ m → slice_get (y ∷ ys) m ≡ Some x → y ≡ x
      first zero z h = cc
      first (suc m) z h = absurd (omega (arith, z))
  behind_front (y ∷ front) back zero x e at = absurd (omega (arith, e))
  behind_front (y ∷ front) back (suc n) x e at = behind_front front back n x (omega (arith, e)) at

  -- nothing stands there, so nothing is behind
  nothing_behind : (front back : List A) (n : ℕ) → length front ≡ n → slice_get (front ++ back) n ≡ None → back ≡ []
  nothing_behind [] [] n e at = refl
  nothing_behind [] (y ∷ ys) zero e at = absurd cc
  nothing_behind [] (y ∷ ys) (suc n) e at = absurd (omega (arith, e))
  nothing_behind (y ∷ front) back zero e at = absurd (omega (arith, e))
  nothing_behind (y ∷ front) back (suc n) e at = nothing_behind front back n (omega (arith, e)) at

  length_more : (xs : List A) (x : A) → length (xs ++ x ∷ []) ≡ length xs + 1
  length_more [] x = refl
  length_more (y ∷ xs) x = let more = length_more xs x in omega (arith, more)

  -- what stands behind in a list without repeats is not in front
  pub not_in_front : (front rest : List A) (b : A) → Distinct (front ++ b ∷ rest) → In b front → ⊥
  not_in_front [] rest b d h = h
  not_in_front (x ∷ front) rest b d (inl e) = not_in-Absent x (front ++ b ∷ rest) d.0 (In-right x front (b ∷ rest) (inl (sym e)))
  not_in_front (x ∷ front) rest b d (inr h) = not_in_front front rest b d.1 h

-- ## The marks of a region

module _ {N : Ids} {W : Dialect} (f : Forest N W) (region : N.Region) where
  -- so many of the marks have been looked at; each mark is reached, the first block is marked, and so is what those name that have been looked at
  pub record Marking (marked : List N.Block) (place : ℕ) : Type 0 where
    pub done : List N.Block
    pub ahead : List N.Block
    pub parts : marked ≡ done ++ ahead
    pub so_far : length done ≡ place
    pub reached : (b : N.Block) → In b marked → Reached f region b
    pub first : (b : N.Block) → first_of (blocks_of f region) ≡ Some b → In b marked
    pub seen : (a b : N.Block) → In a done → IsNamedIn f (ops_of f a) b → In b (blocks_of f region) → In b marked

  -- what one operation more names
  pub named_more : (done : List N.Op) (o : N.Op) (old mid new : List N.Block) → Adds (λ b. IsNamedIn f done b × In b (blocks_of f region)) old mid → Adds (λ b. In b (targets_of f o) × In b (blocks_of f region)) mid new
      → Adds (λ b. IsNamedIn f (done ++ o ∷ []) b × In b (blocks_of f region)) old new
  named_more done o old mid new so_far here = adds_then (λ b. IsNamedIn f done b × In b (blocks_of f region)) (λ b. In b (targets_of f o) × In b (blocks_of f region)) (λ b. IsNamedIn f (done ++ o ∷ []) b × In b (blocks_of f region)) old mid new so_far here
      (λ b k. elim (In-append k.0.0 done (o ∷ []) k.0.1) [
        | inl i ↦ inl ((k.0.0, i, k.0.2), k.1)
        | inr i ↦ elim i [ inl e ↦ inr (subst (λ z. In b (targets_of f z)) e k.0.2, k.1) | inr q ↦ absurd q ]
      ])
      (λ b k. ((k.0.0, In-left k.0.0 done (o ∷ []) k.0.1, k.0.2), k.1))
      (λ b k. ((o, In-right o done (o ∷ []) (inl refl), k.0), k.1))

  -- one target more
  pub target_more : (o : N.Op) (k : ℕ) (x : N.Block) (old mid new : List N.Block) → slice_get (targets_of f o) k ≡ Some x
      → Adds (λ b. In b (take k (targets_of f o)) × In b (blocks_of f region)) old mid → Adds (λ b. (b ≡ x) × In b (blocks_of f region)) mid new
      → Adds (λ b. In b (take (k + 1) (targets_of f o)) × In b (blocks_of f region)) old new
  target_more o k x old mid new at so_far here = adds_then (λ b. In b (take k (targets_of f o)) × In b (blocks_of f region)) (λ b. (b ≡ x) × In b (blocks_of f region)) (λ b. In b (take (k + 1) (targets_of f o)) × In b (blocks_of f region)) old mid new so_far here
      (λ b h. elim ((taken_more (targets_of f o) k (k + 1) x b refl at).0 h.0) [ inl i ↦ inl (i, h.1) | inr e ↦ inr (e, h.1) ])
      (λ b h. ((taken_more (targets_of f o) k (k + 1) x b refl at).1 (inl h.0), h.1))
      (λ b h. ((taken_more (targets_of f o) k (k + 1) x b refl at).1 (inr h.0), h.1))

  pub marking_starts : (marked : List N.Block) → ((b : N.Block) → In b marked ↔ (first_of (blocks_of f region) ≡ Some b)) → Marking marked 0
  marking_starts marked first = record {
    done = [];
    ahead = marked;
    parts = refl;
    so_far = refl;
    reached = λ b h. at_first ((first b).0 h);
    first = λ b e. (first b).1 e;
    seen = λ a b h. absurd h;
  }

  in_region : (b : N.Block) → Reached f region b → In b (blocks_of f region)
  in_region b (at_first e) = by (blocks_of f region) e
    where
      by : (bs : List N.Block) → first_of bs ≡ Some b → In b bs
      by [] k = absurd cc
      by (c ∷ bs) k = inl cc
  in_region b (by_successor o r here names in_list) = in_list

  module _ (marked : List N.Block) (place : ℕ) (m : Marking marked place) (a : N.Block) (at : slice_get marked place ≡ Some a) where
    next_one : (rest : List N.Block) × (m.ahead ≡ a ∷ rest)
    next_one = behind_front m.done m.ahead place a m.so_far (subst (λ xs. slice_get xs place ≡ Some a) m.parts at)

    looked_at : In a marked
    looked_at = subst (In a) (sym m.parts) (In-right a m.done m.ahead (subst (In a) (sym next_one.1) (inl refl)))

    -- the block that is looked at is live
    pub marked_live : Nested f → IsLive f (a_block a)
    marked_live nested = nested.live (a_block a) (a_region region) (In-map a_block a (blocks_of f region) (in_region a (m.reached a looked_at)))

    pub marking_goes_on : (new : List N.Block) → Adds (λ b. IsNamedIn f (ops_of f a) b × In b (blocks_of f region)) marked new → Marking new (place + 1)
    marking_goes_on new adds = record {
      done = m.done ++ a ∷ [];
      ahead = next_one.0 ++ adds.more.0;
      parts = adds.more.1 ∙ ap (λ xs. xs ++ adds.more.0) (m.parts ∙ ap (λ xs. m.done ++ xs) next_one.1) ∙ append_assoc m.done (a ∷ next_one.0) adds.more.0 ∙ sym (append_assoc m.done (a ∷ []) (next_one.0 ++ adds.more.0));
      so_far = length_more m.done a ∙ ap (λ n. n + 1) m.so_far;
      reached = λ b h. elim (adds.only b h) [
        | inl k ↦ m.reached b k
        | inr k ↦ by_successor k.0.0 (m.reached a looked_at) k.0.1 k.0.2 k.1
      ];
      first = λ b e. kept b (m.first b e);
      seen = λ c b h named in_list. elim (In-append c m.done (a ∷ []) h) [
        | inl k ↦ kept b (m.seen c b k named in_list)
        | inr k ↦ elim k [
          | inl e ↦ adds.all b (subst (λ z. IsNamedIn f (ops_of f z) b) e named, in_list)
          | inr q ↦ absurd q
        ]
      ];
    }
      where
        kept : (b : N.Block) → In b marked → In b new
        kept b h = subst (In b) (sym adds.more.1) (In-left b marked adds.more.0 h)

    -- and fewer are left
    pub marking_smaller : Distinct marked → length (blocks_of f region) - (place + 1) < length (blocks_of f region) - place
    marking_smaller distinct =
        let all = length-within marked (blocks_of f region) distinct (λ b h. in_region b (m.reached b h)) in
        let some = within marked place a at in
        omega (arith, all, some)
      where
        within : (xs : List N.Block) (n : ℕ) (x : N.Block) → slice_get xs n ≡ Some x → n < length xs
        within [] n x e = absurd cc
        within (y ∷ xs) zero x e = omega arith
        within (y ∷ xs) (suc n) x e = let more = within xs n x e in omega (arith, more)

  -- when all were looked at, the marks are what is reached
  pub marking_ends : (marked : List N.Block) (place : ℕ) → Marking marked place → slice_get marked place ≡ None → (b : N.Block) → In b marked ↔ Reached f region b
  marking_ends marked place m at b = (λ h. m.reached b h, back b)
    where
      all_done : marked ≡ m.done
      all_done = m.parts ∙ ap (λ xs. m.done ++ xs) (nothing_behind m.done m.ahead place m.so_far (subst (λ xs. slice_get xs place ≡ None) m.parts at)) ∙ append_none m.done

      back : (c : N.Block) → Reached f region c → In c marked
      back c (at_first e) = m.first c e
      back c (by_successor {a = a} o r here names in_list) = m.seen a c (subst (In a) all_done (back a r)) (o, here, names) in_list

  -- ## What is not marked

  pub sorted_starts : (marked : List N.Block) → LeavesUnmarked marked [] []
  sorted_starts marked = record { once = tt; exact = λ b. (λ h. absurd h, λ h. absurd h.0) }

  module _ (marked front kept : List N.Block) (s : LeavesUnmarked marked front kept) (b : N.Block) where
    -- a marked one is passed over
    pub sorted_over : In b marked → LeavesUnmarked marked (front ++ b ∷ []) kept
    sorted_over is = record {
      once = s.once;
      exact = λ c. (
        λ h. (let k = (s.exact c).0 h in (In-left c front (b ∷ []) k.0, k.1)),
        λ h. elim (In-append c front (b ∷ []) h.0) [
          | inl k ↦ (s.exact c).1 (k, h.1)
          | inr k ↦ elim k [ inl e ↦ absurd (h.1 (subst (λ z. In z marked) (sym e) is)) | inr q ↦ absurd q ]
        ],
      );
    }

    -- another one is kept
    pub sorted_in : (In b marked → ⊥) → (In b front → ⊥) → LeavesUnmarked marked (front ++ b ∷ []) (kept ++ b ∷ [])
    sorted_in out new = record {
      once = Distinct-append kept (b ∷ []) s.once (tt, tt) (λ c h k. elim k [ inl e ↦ new ((s.exact b).0 (subst (λ z. In z kept) e h)).0 | inr q ↦ q ]);
      exact = λ c. (
        λ h. elim (In-append c kept (b ∷ []) h) [
          | inl k ↦ (let q = (s.exact c).0 k in (In-left c front (b ∷ []) q.0, q.1))
          | inr k ↦ (In-right c front (b ∷ []) k, elim k [ inl e ↦ subst (λ z. In z marked → ⊥) (sym e) out | inr q ↦ absurd q ])
        ],
        λ h. elim (In-append c front (b ∷ []) h.0) [
          | inl k ↦ In-left c kept (b ∷ []) ((s.exact c).1 (k, h.1))
          | inr k ↦ In-right c kept (b ∷ []) k
        ],
      );
    }

  -- so it is with the next block
  pub sorted_more : (marked front rest kept new : List N.Block) (b : N.Block) → Distinct (front ++ b ∷ rest) → KeepsUnmarked marked b kept new → LeavesUnmarked marked front kept → LeavesUnmarked marked (front ++ b ∷ []) new
  sorted_more marked front rest kept new b distinct (inl k) s = subst (LeavesUnmarked marked (front ++ b ∷ [])) (sym k.1) (sorted_over marked front kept s b k.0)
  sorted_more marked front rest kept new b distinct (inr k) s = subst (LeavesUnmarked marked (front ++ b ∷ [])) (sym k.1) (sorted_in marked front kept s b k.0 (not_in_front front rest b distinct))

  pub sorted_ends : (marked kept : List N.Block) → ((b : N.Block) → In b marked ↔ Reached f region b) → LeavesUnmarked marked (blocks_of f region) kept → ListsUnreached f region kept
  sorted_ends marked kept reached s = record {
    once = s.once;
    exact = λ b. (
      λ h. (let k = (s.exact b).0 h in (k.0, λ r. k.1 ((reached b).1 r))),
      λ h. (s.exact b).1 (h.0, λ k. h.1 ((reached b).0 k)),
    );
  }
