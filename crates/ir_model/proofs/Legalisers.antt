-- A legaliser gives a new source a name that no other has.
use mathlib.Core.Path.{◌≡◌, refl, sym, ap, ◌∙◌, subst}
use Rattle.std.proofs.Common.{ℕ, ◌+◌, ◌<◌, inl, inr, Bool, true, false, cond, Option, Some, None, List, [], ◌∷◌, map, arith}
use Rattle.std.specs.Prelude.{MatchOption}
use Rattle.std.specs.Ordering.{nat_cmp, eq_by_cmp, is_eq, ordering_reverse}
use Rattle.std.specs.declared.cmp.Ordering.{Ordering}
use Rattle.std.specs.declared.cmp.Ordering.TheVariants.{Less, Equal, Greater}
use Rattle.std.specs.Cmp.Lexicographic.{slice_cmp, nat_list_cmp_total}
use Rattle.std.specs.FinMap as finite
use Rattle.ir_model.specs.Forest.{Text}
use Rattle.ir_model.specs.Nesting.{In}
use Rattle.ir_model.specs.Legaliser.{Given, nothing_given, name_of, give, IsFree, base, numbered_text, Chooses, GivesNew, Gives, NamesInTurn}
use Rattle.ir_model.specs.DefinitionLaws.{SourcesApart, CallsSettle, NamesLeadBack}

-- no two sources have one name
Apart : Given → Type 0
Apart s = (a b name : Text) → name_of s a ≡ Some name → name_of s b ≡ Some name → a ≡ b

-- what is chosen is free
pub chosen_free : (free : Text → Type 0) (counter : ℕ) (source name : Text) (next : ℕ) → Chooses free counter source name next → free name
chosen_free free counter source name next (inl c) = subst free (sym c.name_is) c.is_free
chosen_free free counter source name next (inr c) = subst free (sym c.name_is) c.is_next.is_free

texts_tell : (a b : Text) → eq_by_cmp (slice_cmp nat_cmp) a b ≡ true → a ≡ b
texts_tell a b e = by (slice_cmp nat_cmp a b) refl e
  where
    by : (o : Ordering) → slice_cmp nat_cmp a b ≡ o → is_eq o ≡ true → a ≡ b
    by Less t e = absurd cc
    by Equal t e = finite.slice_cmp-IsAntisymmetric finite.nat_cmp-IsAntisymmetric a b t
    by Greater t e = absurd cc

-- after a gift each source is the one that was given a name, or has what it had
name_after : (old : Given) (source name q : Text) (counter : ℕ) (t : Bool) → eq_by_cmp (slice_cmp nat_cmp) q source ≡ t → name_of (give old source name counter) q ≡ cond t (Some name) (name_of old q)
name_after old source name q counter t e = finite.get-insert nat_list_cmp_total old.names source name q ∙ ap (λ b. cond b (Some name) (name_of old q)) e

gift_apart : (old : Given) (source name : Text) (counter : ℕ) → IsFree old name → Apart old → Apart (give old source name counter)
unfolding Apart
gift_apart old source name counter free apart a b n p q = by (eq_by_cmp (slice_cmp nat_cmp) a source) (eq_by_cmp (slice_cmp nat_cmp) b source) refl refl
  where
    at : (x : Text) (t : Bool) → eq_by_cmp (slice_cmp nat_cmp) x source ≡ t → name_of (give old source name counter) x ≡ Some n → cond t (Some name) (name_of old x) ≡ Some n
    at x t e h = sym (name_after old source name x counter t e) ∙ h

    by : (t u : Bool) → eq_by_cmp (slice_cmp nat_cmp) a source ≡ t → eq_by_cmp (slice_cmp nat_cmp) b source ≡ u → a ≡ b
    by true true e f = texts_tell a source e ∙ sym (texts_tell b source f)
    by true false e f = absurd (let k : Some name ≡ Some n = at a true e p in let s : name ≡ n = cc in free b (at b false f q ∙ ap Some (sym s)))
    by false true e f = absurd (let k : Some name ≡ Some n = at b true f q in let s : name ≡ n = cc in free a (at a false e p ∙ ap Some (sym s)))
    by false false e f = apart a b n (at a false e p) (at b false f q)

gives_apart : (old new : Given) (source name : Text) → Gives old source name new → Apart old → Apart new
gives_apart old new source name g apart = by (name_of old source) g
  where
    by : (m : Option Text) → MatchOption m (GivesNew old source name new) (λ known. (name ≡ known) × (new ≡ old)) → Apart new
    by None n = subst Apart (sym n.new_is) (gift_apart old source name new.counter (chosen_free (IsFree old) old.counter source name new.counter n.chosen) apart)
    by (Some known) k = subst Apart (sym k.1) apart

run_apart : (calls : List (Text × Text)) (old new : Given) → NamesInTurn old calls new → Apart old → Apart new
run_apart [] old new r apart = subst Apart (sym r) apart
run_apart (call ∷ calls) old new r apart = run_apart calls r.0 new r.2 (gives_apart old r.0 call.0 call.1 r.1 apart)

pub sources_apart : SourcesApart
unfolding Apart
sources_apart counter calls s r a b name p q =
    run_apart calls (nothing_given counter) s r (λ x y n h k. absurd (let none : None ≡ Some n = sym (finite.get-empty (slice_cmp nat_cmp) x) ∙ h in cc)) a b name p q

pub text_itself : (t : Text) → eq_by_cmp (slice_cmp nat_cmp) t t ≡ true
text_itself t = by (slice_cmp nat_cmp t t) (nat_list_cmp_total.antisymm t t)
  where
    by : (o : Ordering) → o ≡ ordering_reverse o → is_eq o ≡ true
    by Less e = absurd cc
    by Equal e = refl
    by Greater e = absurd cc

-- the source has the name that it was given
pub gives_named : (old new : Given) (source name : Text) → Gives old source name new → name_of new source ≡ Some name
gives_named old new source name g = by (name_of old source) refl g
  where
    by : (m : Option Text) → name_of old source ≡ m → MatchOption m (GivesNew old source name new) (λ known. (name ≡ known) × (new ≡ old)) → name_of new source ≡ Some name
    by None e n = subst (λ s. name_of s source ≡ Some name) (sym n.new_is) (name_after old source name source new.counter true (text_itself source))
    by (Some known) e k = subst (λ s. name_of s source ≡ Some name) (sym k.1) (e ∙ ap Some (sym k.0))

-- and each keeps the one that it had
pub gives_keeps : (old new : Given) (source name q n : Text) → Gives old source name new → name_of old q ≡ Some n → name_of new q ≡ Some n
gives_keeps old new source name q n g h = by (name_of old source) refl g
  where
    at : name_of old source ≡ None → (t : Bool) → eq_by_cmp (slice_cmp nat_cmp) q source ≡ t → name_of (give old source name new.counter) q ≡ Some n
    at e true s = absurd (let none : None ≡ Some n = sym (ap (name_of old) (texts_tell q source s) ∙ e) ∙ h in cc)
    at e false s = name_after old source name q new.counter false s ∙ h

    by : (m : Option Text) → name_of old source ≡ m → MatchOption m (GivesNew old source name new) (λ known. (name ≡ known) × (new ≡ old)) → name_of new q ≡ Some n
    by None e k = subst (λ s. name_of s q ≡ Some n) (sym k.new_is) (at e (eq_by_cmp (slice_cmp nat_cmp) q source) refl)
    by (Some known) e k = subst (λ s. name_of s q ≡ Some n) (sym k.1) h

-- the name of a new source is settled
choose_one : (free : Text → Type 0) (counter : ℕ) (source n m : Text) (j k : ℕ) → Chooses free counter source n j → Chooses free counter source m k → (n ≡ m) × (j ≡ k)
choose_one free counter source n m j k (inl a) (inl b) = (a.name_is ∙ sym b.name_is, a.next_is ∙ sym b.next_is)
choose_one free counter source n m j k (inl a) (inr b) = absurd (b.taken a.is_free)
choose_one free counter source n m j k (inr a) (inl b) = absurd (a.taken b.is_free)
choose_one free counter source n m j k (inr a) (inr b) =
    let not_less : b.number < a.number → ⊥ = λ l. a.is_next.least b.number b.is_next.from l b.is_next.is_free in
    let not_more : a.number < b.number → ⊥ = λ l. b.is_next.least a.number a.is_next.from l a.is_next.is_free in
    let same : a.number ≡ b.number = omega (arith, not_less, not_more) in
    (a.name_is ∙ ap (numbered_text (base source)) same ∙ sym b.name_is, a.next_is ∙ ap (λ c. c + 1) same ∙ sym b.next_is)

-- so is what one call gives
pub gives_one : (old s t : Given) (source n m : Text) → Gives old source n s → Gives old source m t → (n ≡ m) × (s ≡ t)
gives_one old s t source n m g h = by (name_of old source) g h
  where
    by : (o : Option Text) → MatchOption o (GivesNew old source n s) (λ known. (n ≡ known) × (s ≡ old)) → MatchOption o (GivesNew old source m t) (λ known. (m ≡ known) × (t ≡ old)) → (n ≡ m) × (s ≡ t)
    by None a b = let e = choose_one (IsFree old) old.counter source n m s.counter t.counter a.chosen b.chosen in (e.0, a.new_is ∙ (λ i. give old source (e.0 i) (e.1 i)) ∙ sym b.new_is)
    by (Some known) a b = (a.0 ∙ sym b.0, a.1 ∙ sym b.1)

-- and what a run of calls gives
run_one : (calls others : List (Text × Text)) (old s t : Given) → map (λ call. call.0) calls ≡ map (λ call. call.0) others → NamesInTurn old calls s → NamesInTurn old others t → (calls ≡ others) × (s ≡ t)
run_one [] [] old s t e r q = (refl, r ∙ sym q)
run_one [] (d ∷ ds) old s t e r q = absurd cc
run_one (c ∷ cs) [] old s t e r q = absurd cc
run_one (c ∷ cs) (d ∷ ds) old s t e r q =
    let head : c.0 ≡ d.0 = cc in
    let rest : map (λ (call : Text × Text). call.0) cs ≡ map (λ (call : Text × Text). call.0) ds = cc in
    let one = gives_one old r.0 q.0 c.0 c.1 d.1 r.1 (subst (λ source. Gives old source d.1 q.0) (sym head) q.1) in
    let more = run_one cs ds r.0 s t rest r.2 (subst (λ now. NamesInTurn now ds t) (sym one.1) q.2) in
    ((λ i. (head i, one.0 i) ∷ more.0 i), more.1)

pub calls_settle : CallsSettle
calls_settle counter calls others s t e r q = run_one calls others (nothing_given counter) s t e r q

-- a source keeps its name over a run
run_keeps : (calls : List (Text × Text)) (old s : Given) (q n : Text) → NamesInTurn old calls s → name_of old q ≡ Some n → name_of s q ≡ Some n
run_keeps [] old s q n r h = subst (λ t. name_of t q ≡ Some n) (sym r) h
run_keeps (c ∷ cs) old s q n r h = run_keeps cs r.0 s q n r.2 (gives_keeps old r.0 c.0 c.1 q n r.1 h)

-- a source has the name that a call gave it
run_named : (calls : List (Text × Text)) (old s : Given) (call : Text × Text) → NamesInTurn old calls s → In call calls → name_of s call.0 ≡ Some call.1
run_named [] old s call r h = elim h [ ]
run_named (c ∷ cs) old s call r (inl e) = subst (λ (d : Text × Text). name_of s d.0 ≡ Some d.1) (sym e) (run_keeps cs r.0 s c.0 c.1 r.2 (gives_named old r.0 c.0 c.1 r.1))
run_named (c ∷ cs) old s call r (inr h) = run_named cs r.0 s call r.2 h

pub names_lead_back : NamesLeadBack
names_lead_back counter calls s call source r h =
    let named = run_named calls (nothing_given counter) s call r h in
    (λ e. sources_apart counter calls s r source call.0 call.1 e named, λ e. ap (name_of s) e ∙ named)
