-- What holds of a legaliser's tables, and of the names that it gives.
use Rattle.std.proofs.Common.{◌≡◌, ◌≢◌, ℕ, ◌<◌, ◌^◌, ◌++◌, List, [], ◌∷◌, map, length, Bool, true, false, cond, if◌then◌else◌, ◌==◌, Option, None, Some, MatchOption, Result, Ok, Err, IfOk, OnOk, ◌⊎◌, inl, inr, string_bytes, String, refl, sym, ◌∙◌, ap, subst, arith}
use Rattle.std.proofs.lemmas.Grind.{common_steps}
use Rattle.std.proofs.lemmas.Slice.Eq.{bytes_eq-Decides}
use Rattle.std.proofs.lemmas.Map.Text.{is_eq-slice_cmp}
use Rattle.std.proofs.lemmas.Bool.{false_from_ne_true, cond-true, cond-false}
use Rattle.std.proofs.lemmas.List.{map-append}
use Rattle.std.specs.List.{list_all}
use Rattle.std.specs.Str.{bytes_eq}
use Rattle.std.specs.Char.{is_ascii_alphabetic, is_ascii_alphanumeric}
use Rattle.std.specs.Fmt.{decimal}
use Rattle.std.specs.Ordering.{nat_cmp, is_eq}
use Rattle.std.specs.Cmp.Lexicographic.{slice_cmp, nat_list_cmp_total, nat_list_eq_equiv}
use Rattle.std.specs.Map.{update, lookup}
use Rattle.std.specs.HashMap.{HashMap, get_by_text}
use Rattle.std.specs.FinMap as finite
use Rattle.ir_model.specs.declared.error.CoreError.{CoreError}
use Rattle.ir_model.specs.declared.error.CoreError.TheVariants.{OutOfMemory, CounterSpent, SlotsSpent}
use Rattle.ir_model.specs.Identifier.{can_start, can_continue, IsIdentifier}
use Rattle.ir_model.specs.Legaliser.{Given, name_of, give, kept, replaced, numbered_text, IsFree, Chooses, GivesNew, Gives, HasNoName}
use Rattle.ir_base_identifiers.specs.Spent.{SpentOnlyWhere}
use Rattle.ir_base_identifiers.specs.LegaliserTables.{source_at, AreInverse, ArePaired, given_by}
use Rattle.ir_base_identifiers.proofs.IdentifierLemmas.{is_identifier-append, decimal-can_continue}

-- two texts that are not equal are told apart
pub bytes_eq_apart : (a b : List ℕ) → a ≢ b → bytes_eq a b ≡ false
bytes_eq_apart a b apart = false_from_ne_true (bytes_eq a b) (λ is. apart ((bytes_eq-Decides a b).0 is))

-- a text is found equal to itself
pub bytes_eq_self : (a : List ℕ) → bytes_eq a a ≡ true
bytes_eq_self a = (bytes_eq-Decides a a).1 refl

module _ (f : List ℕ → Option (List ℕ)) (k v : List ℕ) where
  -- a value that is put is found
  pub update_found : update bytes_eq f k (Some v) k ≡ Some v
  update_found = cond-true _ _ _ (bytes_eq_self k)

  -- any other key finds what it found
  pub update_kept : (q : List ℕ) → k ≢ q → update bytes_eq f k (Some v) q ≡ f q
  update_kept q apart = cond-false _ _ _ (bytes_eq_apart k q apart)

  -- what is found was put, or was there
  pub update_source : (q w : List ℕ) → update bytes_eq f k (Some v) q ≡ Some w → ((k ≡ q) × (v ≡ w)) ⊎ (f q ≡ Some w)
  update_source q w is =
      elim (bytes_eq k q) as (λ b. bytes_eq k q ≡ b → cond b (Some v) (f q) ≡ Some w → ((k ≡ q) × (v ≡ w)) ⊎ (f q ≡ Some w)) [
        | true ↦ λ same found. let is_v : v ≡ w = cc in inl ((bytes_eq-Decides k q).0 same, is_v)
        | false ↦ λ _ found. inr found
      ] refl is

-- a key that finds something is not one that finds nothing
found_apart : (f : List ℕ → Option (List ℕ)) (a b w : List ℕ) → f a ≡ None → f b ≡ Some w → a ≢ b
found_apart f a b w none found same = let at_a : f a ≡ f b = ap f same in cc

-- one direction of the inverse stays when a new pair is put into both
there_put : (f g : List ℕ → Option (List ℕ)) (a b : List ℕ) → ((x y : List ℕ) → f x ≡ Some y → g y ≡ Some x) → g b ≡ None
    → (x y : List ℕ) → update bytes_eq f a (Some b) x ≡ Some y → update bytes_eq g b (Some a) y ≡ Some x
there_put f g a b there free x y found =
    elim (update_source f a b x y found) [
      | inl same ↦ subst (λ (w : List ℕ). update bytes_eq g b (Some a) w ≡ Some x) same.1 (update_found g b a ∙ ap Some same.0)
      | inr was ↦ update_kept g b a y (found_apart g b y x free (there x y was)) ∙ there x y was
    ]

-- two inverses stay inverse when a new pair is put into both
pub AreInverse-put : (f g : List ℕ → Option (List ℕ)) (a b : List ℕ) → AreInverse f g → f a ≡ None → g b ≡ None
    → AreInverse (update bytes_eq f a (Some b)) (update bytes_eq g b (Some a))
AreInverse-put f g a b inverse unknown free = record {
  there = there_put f g a b inverse.there free;
  back = λ x y found. there_put g f b a (λ v w is. inverse.back w v is) unknown y x found;
}

-- inverses that answer alike are inverse too
pub AreInverse-along : (f g f' g' : List ℕ → Option (List ℕ)) → ((q : List ℕ) → f' q ≡ f q) → ((q : List ℕ) → g' q ≡ g q) → AreInverse f g → AreInverse f' g'
AreInverse-along f g f' g' same_f same_g inverse = record {
  there = λ a b found. same_g b ∙ inverse.there a b (sym (same_f a) ∙ found);
  back = λ a b found. same_f a ∙ inverse.back a b (sym (same_g b) ∙ found);
}

-- a name without a source is free
pub free_from_none : (f g : List ℕ → Option (List ℕ)) (name : List ℕ) → AreInverse f g → g name ≡ None → (source : List ℕ) → f source ≢ Some name
free_from_none f g name inverse none source found = let back : g name ≡ Some source = inverse.there source name found in cc

-- and a free name has no source
pub none_from_free : (f g : List ℕ → Option (List ℕ)) (name : List ℕ) → AreInverse f g → ((source : List ℕ) → f source ≢ Some name) → g name ≡ None
none_from_free f g name inverse free =
    elim (g name) as (λ o. g name ≡ o → o ≡ None) [
      | None ↦ λ _. refl
      | Some source ↦ λ is. absurd (free source (inverse.back source name is))
    ] refl

-- a search among the texts finds what a look-up finds
find-texts : {Y : Type 0} (q : List ℕ) → (es : List (String Y × List ℕ)) → finite.find (slice_cmp nat_cmp) q (map (λ p. (string_bytes p.0, p.1)) es) ≡ lookup (λ k. bytes_eq q (string_bytes k)) es
find-texts q [] = refl
find-texts q (e ∷ es) = λ i. cond (is_eq-slice_cmp q (string_bytes e.0) i) (Some e.1) (find-texts q es i)

-- the name that was given is the one in the table
pub name_of-given_by : {Y S : Type 0} (names : HashMap (String Y) (List ℕ) S) (counter : ℕ) (q : List ℕ) → name_of (given_by names counter) q ≡ get_by_text names q
name_of-given_by names counter q = finite.get-from_entries nat_list_cmp_total _ q ∙ find-texts q names.entries

-- a table with one more name gives what the first gave and that name
pub given_by-put : {Y S : Type 0} (names new : HashMap (String Y) (List ℕ) S) (counter next : ℕ) (source name : List ℕ)
    → ((q : List ℕ) → get_by_text new q ≡ update bytes_eq (get_by_text names) source (Some name) q)
    → given_by new next ≡ give (given_by names counter) source name next
given_by-put names new counter next source name put =
    let old : Given = given_by names counter in
    let same : (given_by new next).names ≡ finite.insert old.names source name =
    finite.same_map nat_list_cmp_total (finite.slice_cmp-IsAntisymmetric finite.nat_cmp-IsAntisymmetric) _ _
    (λ q. name_of-given_by new next q ∙ put q
    ∙ ap (λ b. cond b (Some name) (get_by_text names q)) (nat_list_eq_equiv.symm source q ∙ sym (is_eq-slice_cmp q source))
    ∙ ap (cond (is_eq (slice_cmp nat_cmp q source)) (Some name)) (sym (name_of-given_by names counter q))
    ∙ sym (finite.get-insert nat_list_cmp_total old.names source name q)) in
    λ i. record { names = same i; counter = next }

-- the byte that stands for a character in a base; the first one is a letter or `_`
abbrev pub stand_in : Bool → ℕ → ℕ
stand_in is_first = kept (if is_first then is_ascii_alphabetic else is_ascii_alphanumeric)

-- the bytes that stand for characters in a base, as far as they go
abbrev pub stand_ins : List ℕ → List ℕ
stand_ins [] = []
stand_ins (c ∷ cs) = stand_in true c ∷ map (stand_in false) cs

-- one more character adds the byte that stands for it
pub stand_ins-push : (cs : List ℕ) (c : ℕ) (is_first : Bool) → is_first ≡ (length (stand_ins cs) == 0) → stand_ins (cs ++ c ∷ []) ≡ stand_ins cs ++ stand_in is_first c ∷ []
stand_ins-push [] c is_first e = subst (λ (b : Bool). stand_in true c ∷ [] ≡ stand_in b c ∷ []) (sym e) refl
stand_ins-push (d ∷ ds) c is_first e =
    let further : is_first ≡ false = search (arith, common_steps) in
    subst (λ (b : Bool). stand_in true d ∷ map (stand_in false) (ds ++ c ∷ []) ≡ (stand_in true d ∷ map (stand_in false) ds) ++ stand_in b c ∷ []) (sym further)
    (ap (λ bs. stand_in true d ∷ bs) (map-append (stand_in false) ds (c ∷ [])))

-- the byte that stands for a character is ASCII
pub stand_in-ascii : (is_first : Bool) (c : ℕ) → stand_in is_first c < 128
stand_in-ascii true c = grind (arith, common_steps)
stand_in-ascii false c = grind (arith, common_steps)

-- it may stand where it stands
pub stand_in-can_start : (c : ℕ) → can_start (stand_in true c) ≡ true
stand_in-can_start c = grind (arith, common_steps)

pub stand_in-can_continue : (c : ℕ) → can_continue (stand_in false c) ≡ true
stand_in-can_continue c = grind (arith, common_steps)

stand_ins-can_continue : (cs : List ℕ) → list_all can_continue (map (stand_in false) cs) ≡ true
stand_ins-can_continue [] = refl
stand_ins-can_continue (c ∷ cs) = rw (stand_in-can_continue c) (stand_ins-can_continue cs)

-- so any text becomes an identifier
pub replaced-IsIdentifier : (cs : List ℕ) → IsIdentifier (replaced cs)
replaced-IsIdentifier [] = refl
replaced-IsIdentifier (c ∷ cs) = rw (stand_in-can_start c) (stand_ins-can_continue cs)

-- a numbered identifier is one
pub numbered-IsIdentifier : (text : List ℕ) (n : ℕ) → IsIdentifier text → n < 2 ^ 64 → IsIdentifier (numbered_text text n)
numbered-IsIdentifier text n valid fits = is_identifier-append text (95 ∷ decimal n) valid (decimal-can_continue n fits)

-- a known source is given its name
pub Gives-known : (old : Given) (source name : List ℕ) → name_of old source ≡ Some name → Gives old source name old
Gives-known old source name known =
    subst (λ (o : Option (List ℕ)). MatchOption o (GivesNew old source name old) (λ w. (name ≡ w) × (old ≡ old))) (sym known) (refl, refl)

-- a new source is given what was chosen
pub Gives-new : (old new : Given) (source name : List ℕ) (next : ℕ) → name_of old source ≡ None → Chooses (IsFree old) old.counter source name next → new ≡ give old source name next → Gives old source name new
Gives-new old new source name next unknown chosen is =
    subst (λ (s : Given). Gives old source name s) (sym is)
    (subst (λ (o : Option (List ℕ)). MatchOption o (GivesNew old source name (give old source name next)) (λ w. (name ≡ w) × (give old source name next ≡ old))) (sym unknown)
    (record { chosen = chosen; new_is = refl }))

module _ (free free' : List ℕ → Type 0) (there : (name : List ℕ) → free name → free' name) (back : (name : List ℕ) → free' name → free name) where
  -- what is chosen rests on which names are free alone
  pub Chooses-along : (counter : ℕ) (source name : List ℕ) (next : ℕ) → Chooses free counter source name next → Chooses free' counter source name next
  Chooses-along counter source name next (inl by) = inl (record { is_free = there _ by.is_free; name_is = by.name_is; next_is = by.next_is })
  Chooses-along counter source name next (inr by) = inr (record {
    number = by.number;
    taken = λ f. by.taken (back _ f);
    is_next = record { from = by.is_next.from; is_free = there _ by.is_next.is_free; least = λ d above below f. by.is_next.least d above below (back _ f) };
    below = by.below;
    name_is = by.name_is;
    next_is = by.next_is;
  })

  -- and so does that none is left
  pub HasNoName-along : (counter : ℕ) (source : List ℕ) → HasNoName free counter source → HasNoName free' counter source
  HasNoName-along counter source none = record { taken = λ f. none.taken (back _ f); none_free = λ c above below f. none.none_free c above below (back _ f) }

-- what was given, and the tables that say so
module _ {Y Z S : Type 0} (names : HashMap (String Y) (List ℕ) S) (sources : HashMap (List ℕ) (String Z) S) (counter : ℕ) (s : Given) (is : given_by names counter ≡ s) where
  -- a source's name is the one in the table
  pub name_in : (source : List ℕ) → name_of s source ≡ get_by_text names source
  name_in source = ap (λ t. name_of t source) (sym is) ∙ name_of-given_by names counter source

  module _ (paired : ArePaired names sources) where
    -- a free name has no source in the table
    pub free_in : (name : List ℕ) → IsFree s name → source_at sources name ≡ None
    free_in name free = none_from_free (get_by_text names) (source_at sources) name paired (λ source found. free source (name_in source ∙ found))

    -- a name without a source in the table is free
    pub IsFree-in : (name : List ℕ) → source_at sources name ≡ None → IsFree s name
    IsFree-in name none = λ source found. free_from_none (get_by_text names) (source_at sources) name paired none source (sym (name_in source) ∙ found)

-- where no byte stands for any character, `_` alone is left
pub replaced-none : (cs text : List ℕ) → text ≡ stand_ins cs → length text ≡ 0 → text ++ 95 ∷ [] ≡ replaced cs
replaced-none [] text is none = ap (λ bs. bs ++ 95 ∷ []) is
replaced-none (c ∷ cs) text is none = absurd (omega (arith, ap length is))

-- else those bytes are what is left
pub replaced-some : (cs text : List ℕ) → text ≡ stand_ins cs → length text ≢ 0 → text ≡ replaced cs
replaced-some [] text is some = absurd (some (ap length is))
replaced-some (c ∷ cs) text is some = is

-- a map by what changes nothing changes nothing
pub map-same : (cs : List ℕ) → map (λ c. c) cs ≡ cs
map-same [] = refl
map-same (c ∷ cs) = ap (λ bs. c ∷ bs) (map-same cs)

module _ {Y Z S : Type 0} (names : HashMap (String Y) (List ℕ) S) (sources : HashMap (List ℕ) (String Z) S) (counter : ℕ) (s : Given) (is : given_by names counter ≡ s) (paired : ArePaired names sources) where
  -- what is chosen by the tables is chosen by what was given
  pub Chooses-in : (source name : List ℕ) (next : ℕ) → Chooses (λ text. source_at sources text ≡ None) counter source name next → Chooses (IsFree s) s.counter source name next
  Chooses-in source name next chosen =
      subst (λ (k : ℕ). Chooses (IsFree s) k source name next) (ap (λ t. t.counter) is)
      (Chooses-along (λ text. source_at sources text ≡ None) (IsFree s) (IsFree-in names sources counter s is paired) (free_in names sources counter s is paired) counter source name next chosen)

  -- and what has no name by the tables has none by what was given
  pub HasNoName-in : (source : List ℕ) → HasNoName (λ text. source_at sources text ≡ None) counter source → HasNoName (IsFree s) s.counter source
  HasNoName-in source none =
      subst (λ (k : ℕ). HasNoName (IsFree s) k source) (ap (λ t. t.counter) is)
      (HasNoName-along (λ text. source_at sources text ≡ None) (IsFree s) (IsFree-in names sources counter s is paired) (free_in names sources counter s is paired) counter source none)

-- a refusal stays one where a spent counter still is one
pub SpentOnlyWhere-along : (spent spent' : Type 0) (e : CoreError) → (spent → spent') → SpentOnlyWhere spent e → SpentOnlyWhere spent' e
SpentOnlyWhere-along spent spent' OutOfMemory there is = is
SpentOnlyWhere-along spent spent' CounterSpent there is = there is
SpentOnlyWhere-along spent spent' SlotsSpent there is = is

-- where the chosen name is given to a new source, the call gives it
pub Gives-result : {E : Type 0} (result : Result (List ℕ) E) (old new : Given) (source name : List ℕ) (next : ℕ)
    → name_of old source ≡ None → Chooses (IsFree old) old.counter source name next
    → IfOk result (λ given. given ≡ name) → OnOk result (new ≡ give old source name next) → IfOk result (λ given. Gives old source given new)
Gives-result (Ok given) old new source name next unknown chosen is_name is =
    subst (λ (w : List ℕ). Gives old source w new) (sym is_name) (Gives-new old new source name next unknown chosen is)
Gives-result (Err e) old new source name next unknown chosen is_name is = is_name
