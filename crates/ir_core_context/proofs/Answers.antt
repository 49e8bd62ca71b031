-- What an answer tells where it is known to be one.
use Rattle.std.proofs.Common.{◌≡◌, Result, Ok, Err, is_ok, true, false, OnOk, OnErr, refl}

pub at_ok : {T E : Type 0} (r : Result T E) (P : Type 0) → is_ok r ≡ true → OnOk r P → P
at_ok (Ok x) P h p = p
at_ok (Err e) P h p = absurd (cc)

pub at_err : {T E : Type 0} (r : Result T E) (P : Type 0) → is_ok r ≡ false → OnErr r P → P
at_err (Ok x) P h p = absurd (cc)
at_err (Err e) P h p = p

pub ok_value : {T E : Type 0} (r : Result T E) → is_ok r ≡ true → (x : T) × (r ≡ Ok x)
ok_value (Ok x) h = (x, refl)
ok_value (Err e) h = absurd (cc)

pub err_holds : {T E P : Type 0} (r : Result T E) → P → OnErr r P
err_holds (Ok x) p = tt
err_holds (Err e) p = p
