-- What an option that is some value was made of.
use Rattle.std.proofs.Common.{◌≡◌, Option, Some, None, is_some, refl, ap}
use Rattle.std.specs.Option.{option_and_then, option_map}
use Rattle.std.proofs.lemmas.Bool.{false≢true}

pub map_some : {A B : Type 0} (f : A → B) (o : Option A) (c : B) → option_map f o ≡ Some c → (x : A) × (o ≡ Some x) × (f x ≡ c)
map_some f None c is = absurd (false≢true (ap is_some is))
map_some f (Some x) c is = (x, refl, cc)

pub and_some : {A B : Type 0} (f : A → Option B) (o : Option A) (c : B) → option_and_then f o ≡ Some c → (x : A) × (o ≡ Some x) × (f x ≡ Some c)
and_some f None c is = absurd (false≢true (ap is_some is))
and_some f (Some x) c is = (x, refl, is)
