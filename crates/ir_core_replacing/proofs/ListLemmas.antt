-- Lists of uses while the chosen ones are copied out and the others close up.
use Rattle.std.proofs.Common.{◌≡◌, ℕ, zero, suc, ◌+◌, ◌<◌, ◌≤◌, List, [], ◌∷◌, ◌++◌, length, get_or, set, take, Some, slice_get, Bool, true, false, cond, refl, sym, ap, ◌∙◌, arith}
use Rattle.std.proofs.lemmas.Option.{slice_get_within, slice_get-get_or, same_Some}
use Rattle.std.proofs.lemmas.List.{append_assoc, length-set, take_all}
use Rattle.ir_core_records.specs.declared.record.UseIndex.{UseIndex}
use Rattle.ir_core_chains.specs.ListReads.{slice_get-set_other}
use Rattle.ir_core_replacing.specs.Chosen.{chosen, left_out, count_yes, count_no}
use Rattle.ir_core_replacing.proofs.ChosenLemmas.{chosen-at}
use Rattle.ir_core_replacing.proofs.GroupLemmas.{get-behind}

-- the front of a longer list
pub take-front : {X : Type 0} (xs ys : List X) → take (length xs) (xs ++ ys) ≡ xs
take-front [] ys = refl
take-front (x ∷ xs) ys = ap (λ zs. x ∷ zs) (take-front xs ys)

-- one more is chosen, or not
pub chosen-more : (us : List UseIndex) (bs : List Bool) (k : ℕ) (u : UseIndex) (b : Bool) → slice_get us k ≡ Some u → slice_get bs k ≡ Some b → chosen (take (suc k) us) (take (suc k) bs) ≡ chosen (take k us) (take k bs) ++ cond b (u ∷ []) []
chosen-more [] bs k u b at is = absurd (cc)
chosen-more (x ∷ us) [] k u b at is = absurd (cc)
chosen-more (x ∷ us) (true ∷ bs) zero u true at is = ap (λ (w : UseIndex). w ∷ []) (same_Some x u at)
chosen-more (x ∷ us) (false ∷ bs) zero u false at is = refl
chosen-more (x ∷ us) (true ∷ bs) zero u false at is = absurd (cc)
chosen-more (x ∷ us) (false ∷ bs) zero u true at is = absurd (cc)
chosen-more (x ∷ us) (true ∷ bs) (suc k) u b at is = ap (λ ws. x ∷ ws) (chosen-more us bs k u b at is)
chosen-more (x ∷ us) (false ∷ bs) (suc k) u b at is = chosen-more us bs k u b at is

pub left_out-more : (us : List UseIndex) (bs : List Bool) (k : ℕ) (u : UseIndex) (b : Bool) → slice_get us k ≡ Some u → slice_get bs k ≡ Some b → left_out (take (suc k) us) (take (suc k) bs) ≡ left_out (take k us) (take k bs) ++ cond b [] (u ∷ [])
left_out-more [] bs k u b at is = absurd (cc)
left_out-more (x ∷ us) [] k u b at is = absurd (cc)
left_out-more (x ∷ us) (true ∷ bs) zero u true at is = refl
left_out-more (x ∷ us) (false ∷ bs) zero u false at is = ap (λ (w : UseIndex). w ∷ []) (same_Some x u at)
left_out-more (x ∷ us) (true ∷ bs) zero u false at is = absurd (cc)
left_out-more (x ∷ us) (false ∷ bs) zero u true at is = absurd (cc)
left_out-more (x ∷ us) (true ∷ bs) (suc k) u b at is = left_out-more us bs k u b at is
left_out-more (x ∷ us) (false ∷ bs) (suc k) u b at is = ap (λ ws. x ∷ ws) (left_out-more us bs k u b at is)

-- what stands at a place in range
pub item-there : {X : Type 0} (xs : List X) (k : ℕ) → k < length xs → (x : X) × (slice_get xs k ≡ Some x)
item-there [] k l = absurd (omega (arith, l))
item-there (x ∷ xs) zero l = (x, refl)
item-there (x ∷ xs) (suc k) l = item-there xs k (omega (arith, l))

-- one more use is put behind the others, if it is chosen
pub append-more : (us : List UseIndex) (bs : List Bool) (k : ℕ) (d : UseIndex) (before now new : List UseIndex) → length bs ≡ length us → k < length us → now ≡ before ++ chosen (take k us) (take k bs) → new ≡ now ++ cond (get_or bs k false) (get_or us k d ∷ []) []
    → new ≡ before ++ chosen (take (k + 1) us) (take (k + 1) bs)
append-more us bs k d before now new size within e f =
    let next : suc k ≡ k + 1 = omega arith in
    let x : List UseIndex = cond (get_or bs k false) (get_or us k d ∷ []) [] in
    let l : k < length bs = omega (arith, size, within) in
    f
    ∙ ap (λ (ws : List UseIndex). ws ++ x) e
    ∙ append_assoc before (chosen (take k us) (take k bs)) x
    ∙ ap (λ (ws : List UseIndex). before ++ ws) (sym (chosen-more us bs k (get_or us k d) (get_or bs k false) (slice_get-get_or us k d within) (slice_get-get_or bs k false l)))
    ∙ (λ i. before ++ chosen (take (next i) us) (take (next i) bs))

-- there is room for each that is chosen
pub chosen-room : (ys us : List UseIndex) (bs : List Bool) (ws : List UseIndex) (start moved k : ℕ) (u : UseIndex) → ws ≡ ys ++ chosen us bs → start ≡ length ys → moved ≡ count_yes bs k → slice_get us k ≡ Some u → slice_get bs k ≡ Some true → start + moved < length ws
chosen-room ys us bs ws start moved k u whole at_start count at is =
    slice_get_within ws (start + moved) u
    (ap (λ (zs : List UseIndex). slice_get zs (start + moved)) whole
    ∙ (λ q. slice_get (ys ++ chosen us bs) (at_start q + count q))
    ∙ get-behind ys (chosen us bs) (count_yes bs k)
    ∙ chosen-at us bs k u at is)

-- one item more in front of a write
take-set_more : {X : Type 0} (xs : List X) (k : ℕ) (x : X) → k < length xs → take (suc k) (set xs k x) ≡ take k xs ++ x ∷ []
take-set_more [] k x l = absurd (omega (arith, l))
take-set_more (y ∷ xs) zero x l = refl
take-set_more (y ∷ xs) (suc k) x l = ap (λ zs. y ∷ zs) (take-set_more xs k x (omega (arith, l)))

-- of these uses the first k are looked at, and those of them that stay are put down in front
pub record PutDown (old : List UseIndex) (bs : List Bool) (k kept : ℕ) (now : List UseIndex) : Type 0 where
  pub few : kept ≤ k
  pub size : length now ≡ length old
  pub front : take kept now ≡ left_out (take k old) (take k bs)
  pub behind : (j : ℕ) → k ≤ j → slice_get now j ≡ slice_get old j

pub put-none : (old : List UseIndex) (bs : List Bool) → PutDown old bs 0 0 old
put-none old bs = record { few = omega arith; size = refl; front = refl; behind = λ j l. refl }

pub put-more : (old : List UseIndex) (bs : List Bool) (k kept : ℕ) (now new : List UseIndex) (u : UseIndex) (b : Bool) (kept' : ℕ) → PutDown old bs k kept now → slice_get now k ≡ Some u → slice_get bs k ≡ Some b
    → new ≡ cond b now (set now kept u) → kept' ≡ cond b kept (kept + 1) → PutDown old bs (k + 1) kept' new
put-more old bs k kept now new u true kept' P at is e f =
    let few = P.few in
    let next : suc k ≡ k + 1 = omega arith in
    let there : slice_get old k ≡ Some u = sym (P.behind k (omega arith)) ∙ at in
    record {
      few = omega (arith, few, f);
      size = ap length e ∙ P.size;
      front = ap (λ (n : ℕ). take n new) f ∙ ap (take kept) e ∙ P.front ∙ sym (append_none (left_out (take k old) (take k bs))) ∙ sym (left_out-more old bs k u true there is) ∙ (λ i. left_out (take (next i) old) (take (next i) bs));
      behind = λ j l. ap (λ (ws : List UseIndex). slice_get ws j) e ∙ P.behind j (omega (arith, l));
    }
  where
    append_none : {X : Type 0} (xs : List X) → xs ++ [] ≡ xs
    append_none [] = refl
    append_none (x ∷ xs) = ap (λ zs. x ∷ zs) (append_none xs)
put-more old bs k kept now new u false kept' P at is e f =
    let few = P.few in
    let within = slice_get_within now k u at in
    let room : kept < length now = omega (arith, few, within) in
    let next : suc k ≡ k + 1 = omega arith in
    let one : kept' ≡ suc kept = omega (arith, f) in
    let there : slice_get old k ≡ Some u = sym (P.behind k (omega arith)) ∙ at in
    record {
      few = omega (arith, few, f);
      size = ap length e ∙ length-set now kept u ∙ P.size;
      front = ap (λ (n : ℕ). take n new) one ∙ ap (take (suc kept)) e ∙ take-set_more now kept u room ∙ ap (λ (ws : List UseIndex). ws ++ u ∷ []) P.front ∙ sym (left_out-more old bs k u false there is) ∙ (λ i. left_out (take (next i) old) (take (next i) bs));
      behind = λ j l.
          let off : ¬ (j ≡ kept) = λ (q : j ≡ kept). absurd (omega (arith, l, few, q)) in
          ap (λ (ws : List UseIndex). slice_get ws j) e ∙ slice_get-set_other now kept j u off ∙ P.behind j (omega (arith, l));
    }

pub put-all : (old : List UseIndex) (bs : List Bool) (k kept : ℕ) (now : List UseIndex) → PutDown old bs k kept now → length bs ≡ length old → length bs ≤ k → take kept now ≡ left_out old bs
put-all old bs k kept now P size past =
    let over : length old ≤ k = omega (arith, size, past) in
    P.front ∙ (λ i. left_out (take_all k old over i) (take_all k bs past i))

-- yes and no together are all
pub counts : (bs : List Bool) (k : ℕ) → k ≤ length bs → count_yes bs k + count_no bs k ≡ k
counts [] zero l = refl
counts [] (suc k) l = absurd (omega (arith, l))
counts (b ∷ bs) zero l = refl
counts (true ∷ bs) (suc k) l = let e = counts bs k (omega (arith, l)) in omega (arith, e)
counts (false ∷ bs) (suc k) l = let e = counts bs k (omega (arith, l)) in omega (arith, e)

pub count-none : (bs : List Bool) → 0 ≡ count_yes bs 0
count-none [] = refl
count-none (b ∷ bs) = refl

pub count-more : (bs : List Bool) (k : ℕ) (b : Bool) → slice_get bs k ≡ Some b → count_yes bs (k + 1) ≡ cond b (count_yes bs k + 1) (count_yes bs k)
count-more bs k b is = let e : k + 1 ≡ suc k = omega arith in ap (count_yes bs) e ∙ by bs k b is
  where
    by : (cs : List Bool) (j : ℕ) (c : Bool) → slice_get cs j ≡ Some c → count_yes cs (suc j) ≡ cond c (count_yes cs j + 1) (count_yes cs j)
    by [] j c is = absurd (cc)
    by (true ∷ cs) zero true is = let e = count-none cs in omega (arith, e)
    by (false ∷ cs) zero false is = sym (count-none cs)
    by (true ∷ cs) zero false is = absurd (cc)
    by (false ∷ cs) zero true is = absurd (cc)
    by (true ∷ cs) (suc j) true is = let e = by cs j true is in omega (arith, e)
    by (true ∷ cs) (suc j) false is = let e = by cs j false is in omega (arith, e)
    by (false ∷ cs) (suc j) c is = by cs j c is
