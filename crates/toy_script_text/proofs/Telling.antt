-- What is told of a script that wasn't done is why it wasn't, and the end of a line.
use mathlib.Core.Path.{◌≡◌, refl, sym, ap, subst}
use mathlib.Core.List.{append_assoc}
use Rattle.std.proofs.Common.{ℕ, ◌≢◌, List, [], ◌∷◌, ◌++◌, Option, Result, Err, OnOk, codes, decimal}
use Rattle.std.specs.Io.KnownBytes.{Appends}
use Rattle.toy_script_text.specs.declared.script_error.ScriptError.{ScriptError}
use Rattle.toy_script_text.specs.declared.script_error.ScriptError.TheVariants.{OutOfMemory, Unreadable, Unwritable, Malformed}
use Rattle.toy_script_text.specs.Outcomes.{reason, told_of}

pub told-reason : (e : ScriptError) → e ≢ Unwritable → told_of (Err e) ≡ reason e ++ 10 ∷ []
told-reason OutOfMemory h = refl
told-reason Unreadable h = refl
told-reason Unwritable h = absurd (h refl)
told-reason (Malformed line) h = ap (λ text. codes "line " ++ text) (sym (append_assoc (decimal line) (codes ": malformed") (10 ∷ [])))

pub not_nothing : (xs : List ℕ) → xs ++ 10 ∷ [] ≢ []
not_nothing [] e = cc
not_nothing (x ∷ xs) e = cc

-- a writer that took the reason and the end of a line was told what it is to be told
pub tells : {F : Type 0} (contents : F → Option (List ℕ)) (old new : F) {E : Type 0} (r : Result (Unit {0}) E) (outcome : Result (Unit {0}) ScriptError) (e : ScriptError) → outcome ≡ Err e → e ≢ Unwritable → OnOk r (Appends (contents old) (contents new) (reason e ++ 10 ∷ [])) → OnOk r (Appends (contents old) (contents new) (told_of outcome))
tells contents old new r outcome e is writable took = subst (λ o. OnOk r (Appends (contents old) (contents new) (told_of o))) (sym is) (subst (λ text. OnOk r (Appends (contents old) (contents new) text)) (sym (told-reason e writable)) took)

-- there is something to tell
pub something : (outcome : Result (Unit {0}) ScriptError) (e : ScriptError) → outcome ≡ Err e → e ≢ Unwritable → told_of outcome ≢ []
something outcome e is writable none = not_nothing (reason e) (subst (λ text. text ≡ []) (told-reason e writable) (subst (λ o. told_of o ≡ []) is none))
