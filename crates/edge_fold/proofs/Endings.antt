-- What a call answers, if it is answered as it is.
use Rattle.std.proofs.Common.{◌≡◌, Result, Ok, Err, IfOk, refl}

pub if_each_ok : {T E : Type 0} (r : Result T E) (P : T → Type 0) → ((x : T) → r ≡ Ok x → P x) → IfOk r P
if_each_ok (Ok x) P each = each x refl
if_each_ok (Err e) P each = tt
