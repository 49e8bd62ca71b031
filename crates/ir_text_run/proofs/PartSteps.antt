-- Parts that were spelled again, one behind the other.
use Rattle.std.proofs.Common.{◌≡◌, ◌≢◌, inl, inr, ℕ, MatchOption, arith, Result, Ok, Err, IfErr, ◌++◌, List, [], ◌∷◌, Option, None, Some, refl, sym, ap, subst, ◌∙◌, append-nil, codes}
use Rattle.std.specs.Io.KnownBytes.{Keeps, Appends}
use Rattle.std.proofs.KnownBytes.{Keeps-refl, Keeps-trans, Appends-kept}
use Rattle.ir_text_spelling.specs.TreeTexts.{tree_text}
use Rattle.ir_text_run.specs.Respellings.{Respells, RespellsOrKeeps, RespellsFront}
use Rattle.ir_text_run.specs.declared.fault.Fault.{Fault}
use Rattle.ir_text_run.specs.declared.fault.Fault.TheVariants as faults
use Rattle.ir_text_run.specs.Endings.{status_of}
use Rattle.ir_text_run.specs.Parts.{IsOnePart, IsDivided, WritesBefore, RespellsParts, RespellsSomeParts}

-- known bytes that stayed, and then grew
kept_appends : (a b c : Option (List ℕ)) (x : List ℕ) → Keeps a b → Appends b c x → Appends a c x
kept_appends None b c x k p = tt
kept_appends (Some u) None c x k p = absurd k
kept_appends (Some u) (Some v) None x k p = absurd p
kept_appends (Some u) (Some v) (Some w) x k p = p ∙ ap (λ (l : List ℕ). l ++ x) k

kept_respells : (text : List ℕ) (a b c : Option (List ℕ)) → Keeps a b → Respells text b c → Respells text a c
kept_respells text a b c k r = (r.0, r.1, kept_appends a b c _ k r.2)

pub respells_kept : (text : List ℕ) (a b c : Option (List ℕ)) → Respells text a b → Keeps b c → Respells text a c
respells_kept text a b c r k = (r.0, r.1, Appends-kept a b c _ r.2 k)

kept_or : (text : List ℕ) (a b c : Option (List ℕ)) → Keeps a b → RespellsOrKeeps text b c → RespellsOrKeeps text a c
kept_or text a b c k (inl r) = inl (kept_respells text a b c k r)
kept_or text a b c k (inr s) = inr (Keeps-trans a b c k s)

or_kept : (text : List ℕ) (a b c : Option (List ℕ)) → RespellsOrKeeps text a b → Keeps b c → RespellsOrKeeps text a c
or_kept text a b c (inl r) k = inl (respells_kept text a b c r k)
or_kept text a b c (inr s) k = inr (Keeps-trans a b c s k)

-- nothing was written
unwritten : {O : Type 0} (known : O → Option (List ℕ)) (o n : O) → n ≡ o → Keeps (known o) (known n)
unwritten {O = O} known o n e = subst (λ (x : O). Keeps (known o) (known x)) (sym e) (Keeps-refl (known o))

-- another fault
abbrev IsOther : Fault → Type 0
IsOther faults.Unwritable = ⊥
IsOther _ = Unit {0}

other : (e : Fault) → e ≡ faults.Unwritable → IsOther e → ⊥
other e is o = subst IsOther is o

-- all was written, but not sent on
pub front_kept : (text : List ℕ) (a b c : Option (List ℕ)) → Respells text a b → Keeps b c → RespellsFront text a c
front_kept text a b c r k = (r.0, r.1, (tree_text text r.0, [], sym (append-nil (tree_text text r.0)), Appends-kept a b c (tree_text text r.0) r.2 k))

pub if_told : {X E : Type 0} (r : Result X E) (u : E) (P : Type 0) → P → IfErr r (λ (e : E). e ≡ u → P)
if_told (Ok x) u P p = tt
if_told (Err e) u P p = λ _. p

-- what is said of the value that an option has
pub of_its_value : {X : Type 0} (o : Option X) (x : X) (A : Type 0) (B : X → Type 0) → o ≡ Some x → MatchOption o A B → B x
of_its_value {X = X} o x A B e h = subst (λ (p : Option X). MatchOption p A B) e h

-- under status 1 nothing was written
pub told_wrong : {O : Type 0} (known : O → Option (List ℕ)) (o n : O) (r : Result (Unit {0}) Fault) → status_of r ≡ 1 → IfErr r (λ e. e ≢ faults.Unwritable → n ≡ o) → Keeps (known o) (known n)
told_wrong known o n (Ok x) e h = absurd (omega (arith, e))
told_wrong known o n (Err faults.OutOfMemory) e h = unwritten known o n (h (λ is. other faults.OutOfMemory is tt))
told_wrong known o n (Err faults.Unreadable) e h = unwritten known o n (h (λ is. other faults.Unreadable is tt))
told_wrong known o n (Err faults.Unwritable) e h = absurd (omega (arith, e))
told_wrong known o n (Err (faults.Reading f)) e h = unwritten known o n (h (λ is. other (faults.Reading f) is tt))
told_wrong known o n (Err (faults.Naming f)) e h = unwritten known o n (h (λ is. other (faults.Naming f) is tt))

-- before the first part
pub nothing_yet : (Writes : List ℕ → Option (List ℕ) → Option (List ℕ) → Type 0) (text : List ℕ) (a : Option (List ℕ)) → (ps : List (List ℕ)) × WritesBefore Writes ps text text a a
unfolding WritesBefore
nothing_yet Writes text a = ([], (refl, Keeps-refl a))

-- the relation goes on from known bytes that stayed
abbrev IsKept : (List ℕ → Option (List ℕ) → Option (List ℕ) → Type 0) → Type 0
IsKept Writes = (text : List ℕ) (a b c : Option (List ℕ)) → Keeps a b → Writes text b c → Writes text a c

-- one part more
one_more : (Writes : List ℕ → Option (List ℕ) → Option (List ℕ) → Type 0) → IsKept Writes → (ps : List (List ℕ)) (text p rest more : List ℕ) (a b c d : Option (List ℕ)) → WritesBefore Writes ps text rest a b → IsDivided rest p more → Writes p b c → Appends c d (codes "// -----\n")
    → WritesBefore Writes (ps ++ (p ∷ [])) text more a d
unfolding WritesBefore
one_more Writes kept [] text p rest more a b c d before divided r w =
    (more, c, d, subst (λ (t : List ℕ). IsDivided t p more) (sym before.0) divided, kept p a b c before.1 r, w, (refl, Keeps-refl d))
one_more Writes kept (q ∷ ps) text p rest more a b c d before divided r w =
    (before.0, before.1, before.2, before.3, before.4, before.5, one_more Writes kept ps before.0 p rest more before.2 b c d before.6 divided r w)

pub and_one_more : (text p rest more : List ℕ) (a b c d : Option (List ℕ)) → ((ps : List (List ℕ)) × WritesBefore Respells ps text rest a b) → IsDivided rest p more → Respells p b c → Appends c d (codes "// -----\n")
    → (ps : List (List ℕ)) × WritesBefore Respells ps text more a d
and_one_more text p rest more a b c d before divided r w = (before.0 ++ (p ∷ []), one_more Respells kept_respells before.0 text p rest more a b c d before.1 divided r w)

pub and_some_more : (text p rest more : List ℕ) (a b c d : Option (List ℕ)) → ((ps : List (List ℕ)) × WritesBefore RespellsOrKeeps ps text rest a b) → IsDivided rest p more → RespellsOrKeeps p b c → Appends c d (codes "// -----\n")
    → (ps : List (List ℕ)) × WritesBefore RespellsOrKeeps ps text more a d
and_some_more text p rest more a b c d before divided r w = (before.0 ++ (p ∷ []), one_more RespellsOrKeeps kept_or before.0 text p rest more a b c d before.1 divided r w)

-- the last part
pub and_the_last : (text rest part : List ℕ) (a b c d : Option (List ℕ)) → ((ps : List (List ℕ)) × WritesBefore Respells ps text rest a b) → (part ≡ rest) × IsOnePart rest → Respells part b c → Keeps c d → RespellsParts text a d
and_the_last text rest part a b c d before whole r k = (before.0, rest, b, before.1, whole.1, respells_kept rest b c d (subst (λ (t : List ℕ). Respells t b c) whole.0 r) k)

pub and_the_last_of_some : (text rest part : List ℕ) (a b c d : Option (List ℕ)) → ((ps : List (List ℕ)) × WritesBefore RespellsOrKeeps ps text rest a b) → (part ≡ rest) × IsOnePart rest → RespellsOrKeeps part b c → Keeps c d → RespellsSomeParts text a d
and_the_last_of_some text rest part a b c d before whole r k = (before.0, rest, b, before.1, whole.1, or_kept rest b c d (subst (λ (t : List ℕ). RespellsOrKeeps t b c) whole.0 r) k)
