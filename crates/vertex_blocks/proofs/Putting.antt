-- Lists that come after others, in a page or by themselves.
use Rattle.std.proofs.Common.{◌≡◌, ℕ, ℤ, ◌<◌, inl, inr, Option, Some, None, Result, Ok, Err, OnOk, IfOk, IfSome, List, [], ◌∷◌, ◌++◌, length, refl, sym, ◌∙◌, ap}
use Rattle.std.proofs.lemmas.List.{append-nil}
use Rattle.pages.proofs.Building.{entry_some}
use Rattle.vertex_blocks.specs.Blocks.{Block}
use Rattle.vertex_blocks.specs.inside.Steps.{IsPut}

-- what follows where a call succeeds, and where there is a value
pub on_ok_then : {T E : Type 0} (r : Result T E) (P Q : Type 0) → (P → Q) → OnOk r P → IfOk r (λ _. Q)
on_ok_then (Ok t) P Q f h = f h
on_ok_then (Err e) P Q f h = tt

pub some_then : {A : Type 0} (o : Option A) (P Q : A → Type 0) → ((a : A) → P a → Q a) → IfSome o P → IfSome o Q
some_then None P Q f h = tt
some_then (Some a) P Q f h = f a h

pub put_long : {T E : Type 0} (r : Result T E) (v : ℕ) (xs : List (ℕ × ℤ)) (p s s' : Block) → 0 < length xs → OnOk r (s' ≡ s ++ (v, xs) ∷ []) → IfOk r (λ _. IsPut v xs p s p s')
put_long (Ok t) v xs p s s' some is = record {
  small = [];
  large = xs;
  page = sym (append-nil p);
  long = is ∙ ap (λ e. s ++ e) (entry_some v xs some);
  list = refl;
  apart = inl refl;
}
put_long (Err e) v xs p s s' some is = tt

pub put_packed : {T E : Type 0} (r : Result T E) (v : ℕ) (xs : List (ℕ × ℤ)) (p s p' : Block) → 0 < length xs → OnOk r (p' ≡ p ++ (v, xs) ∷ []) → IfOk r (λ _. IsPut v xs p s p' s)
put_packed (Ok t) v xs p s p' some is = record {
  small = xs;
  large = [];
  page = is ∙ ap (λ e. p ++ e) (entry_some v xs some);
  long = sym (append-nil s);
  list = append-nil xs;
  apart = inr refl;
}
put_packed (Err e) v xs p s p' some is = tt

pub put_none : (v : ℕ) (xs : List (ℕ × ℤ)) (p s : Block) → xs ≡ [] → IsPut v xs p s p s
put_none v xs p s none = record {
  small = [];
  large = [];
  page = sym (append-nil p);
  long = sym (append-nil s);
  list = sym none;
  apart = inl refl;
}
