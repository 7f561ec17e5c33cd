-- What was found grows piece by piece.
use Rattle.std.proofs.Common.{◌≡◌, ℕ, zero, suc, ◌+◌, ◌<◌, ◌≤◌, Bool, true, false, cond, eqb, ltb, Option, Some, option_to_list, List, [], ◌∷◌, ◌++◌, length, length-append, sym, refl, ap, ◌∙◌, subst}
use Rattle.std.proofs.Common.{arith, slice_get, slice_index_or, Result, Ok, Err, IfOk, IfSome, Vec, Global, vec_len, MatchOption, None, ◌-◌}
use Rattle.std.specs.List.{All}
use Rattle.std.proofs.lemmas.List.{map-append}
use Rattle.std.proofs.lemmas.List.Elements.{All-push, All-append, All-pop}
use Rattle.std.proofs.lemmas.Result.{IfOk-at_ok}
use Rattle.std.proofs.lemmas.Bool.{ltb-false}
use Rattle.std.proofs.lemmas.Bool.Decides.{nat_tests}
use mathlib.Core.Logic.{dite}
use native.Mathlib.Decide.{dec_lt}
use Rattle.crew.specs.declared.piece_results.Found.{Found}
use Rattle.crew.specs.inside.ClaimWord.{times}
use Rattle.crew.specs.inside.Claims.{pieces_at}
use Rattle.crew.specs.inside.Finding.{IsAnswered, HasAdded}
use Rattle.crew.specs.Pieces.{IsFoundAt, AreFound, pieces_of}

cond-append : (b : Bool) (y : ℕ) (r a c : List ℕ) → r ≡ a ++ c → cond b (y ∷ r) r ≡ cond b (y ∷ a) a ++ c
cond-append true y r a c e = ap (λ (l : List ℕ). y ∷ l) e
cond-append false y r a c e = e

pub pieces_at-append : (n : ℕ) (xs ys : List ℕ) → pieces_at n (xs ++ ys) ≡ pieces_at n xs ++ pieces_at n ys
pieces_at-append n [] ys = refl
pieces_at-append n (x ∷ xs) ys = cond-append (ltb x n) (x + 1) (pieces_at n (xs ++ ys)) (pieces_at n xs) (pieces_at n ys) (pieces_at-append n xs ys)

same_test : (j k : ℕ) → ◌≡◌ {A = ℕ} (cond (eqb (k + 1) (j + 1)) 1 0) (cond (eqb k j) 1 0)
same_test j k = grind (arith, nat_tests)

other_test : (j k n : ℕ) → j < n → n ≤ k → ◌≡◌ {A = ℕ} 0 (cond (eqb k j) 1 0)
other_test j k n below past = grind (arith, nat_tests)

times-cond : (b : Bool) (n j k : ℕ) (rest ks : List ℕ) → ltb k n ≡ b → j < n → times (j + 1) rest ≡ times j ks → times (j + 1) (cond b ((k + 1) ∷ rest) rest) ≡ cond (eqb k j) 1 0 + times j ks
times-cond true n j k rest ks is below e = let t = same_test j k in omega arith
times-cond false n j k rest ks is below e = let past = ltb-false k n is in let t = other_test j k n below past in omega arith

-- an index below the number of pieces stands for its piece
pub times-pieces_at : (n j : ℕ) (ks : List ℕ) → j < n → times (j + 1) (pieces_at n ks) ≡ times j ks
times-pieces_at n j [] below = refl
times-pieces_at n j (k ∷ ks) below = times-cond (ltb k n) n j k (pieces_at n ks) ks refl below (times-pieces_at n j ks below)

module _ {X : Type 0} where
  pub all_pushed : (P : X → Type 0) (old new : List X) (x : X) → new ≡ old ++ x ∷ [] → All P old → P x → All P new
  all_pushed P old new x is all last = subst (λ (l : List X). All P l) (sym is) (All-push P old x all last)

  pub all_appended : (P : X → Type 0) (old theirs new : List X) → new ≡ old ++ theirs → All P old → All P theirs → All P new
  all_appended P old theirs new is all also = subst (λ (l : List X). All P l) (sym is) (All-append P old theirs all also)

  pub length_pushed : (n : ℕ) (old new : List X) (x : X) → new ≡ old ++ x ∷ [] → length old ≡ n → length new ≡ n + 1
  length_pushed n old new x is len = let e = ap (λ (l : List X). length l) is in let f = length-append old (x ∷ []) in omega arith

  pub length_popped : (old new : List X) (r : Option X) (x : X) → old ≡ new ++ option_to_list r → r ≡ Some x → length old ≡ length new + 1
  length_popped old new r x is some =
      length_pushed (length new) new old x (is ∙ ap (λ (o : Option X). new ++ option_to_list o) some) refl

  -- how many are left after a pop
  pub popped_rest : (old new : Vec X Global) (r : Option X) → MatchOption r ((vec_len old ≡ 0) × (vec_len new ≡ 0)) (λ _. vec_len new + 1 ≡ vec_len old) → length new.items ≡ length old.items - 1
  popped_rest old new None is = let many = old.ok.0 in let left = new.ok.0 in let none = is.0 in let empty = is.1 in omega arith
  popped_rest old new (Some x) is = let many = old.ok.0 in let left = new.ok.0 in omega arith

  -- what was popped and is no error is as all of them are
  pub done_popped : {E : Type 0} (P : X → Type 0) (old new : List (Result X E)) (popped : Option (Result X E)) (r : Result X E) (x : X) → old ≡ new ++ option_to_list popped
      → popped ≡ Some r → r ≡ Ok x → All (λ r. IfOk r P) old → P x
  done_popped P old new popped r x is some ok all = IfOk-at_ok P ok (subst (λ o. IfSome o (λ r. IfOk r P)) some (All-pop (λ r. IfOk r P) old new popped is all).1)

  -- as many are there as jobs, and P holds of each
  pub all_given : {J E : Type 0} (P : X → Type 0) (jobs : Vec J Global) (r : Result (Vec X Global) E) → IfOk r (λ v. vec_len v ≡ vec_len jobs)
      → IfOk r (λ v. (i : ℕ) (d : X) → i < length jobs.items → P (slice_index_or v.items i d)) → IfOk r (λ v. (length v.items ≡ length jobs.items) × All P v.items)
  all_given P jobs (Ok v) len each =
      let many = v.ok.0 in
      let known = jobs.ok.0 in
      (omega arith, λ k d below. each k d (omega arith))
  all_given P jobs (Err e) len each = tt

  pub slice_get-left : (xs ys : List X) (j : ℕ) (x : X) → slice_get xs j ≡ Some x → slice_get (xs ++ ys) j ≡ Some x
  slice_get-left [] ys j x at = absurd (cc)
  slice_get-left (y ∷ xs) ys zero x at = at
  slice_get-left (y ∷ xs) ys (suc j) x at = slice_get-left xs ys j x at

  pub slice_get-last : (xs : List X) (x : X) → slice_get (xs ++ x ∷ []) (length xs) ≡ Some x
  slice_get-last [] x = refl
  slice_get-last (y ∷ xs) x = slice_get-last xs x

module _ {T : Type 0} where
  pub pieces_of-appended : (old theirs new : List (Found T)) → new ≡ old ++ theirs → pieces_of new ≡ pieces_of old ++ pieces_of theirs
  pieces_of-appended old theirs new is = ap (λ (l : List (Found T)). pieces_of l) is ∙ map-append (λ (f : Found T). f.piece) old theirs

module _ {T : Type 0} (answers : ℕ → T → Type 0) where
  pub pieces_of-added : (piece : ℕ) (old new : List (Found T)) → HasAdded answers piece old new → pieces_of new ≡ pieces_of old ++ piece ∷ []
  pieces_of-added piece old new h = ap (λ (l : List (Found T)). pieces_of l) h.1 ∙ (map-append (λ (f : Found T). f.piece) old (h.0 ∷ []) ∙ ap (λ (p : ℕ). pieces_of old ++ p ∷ []) h.2)

  pub answered_more : (pieces index : ℕ) (old new : List (Found T)) → index < pieces → All (IsAnswered answers pieces) old → HasAdded answers (index + 1) old new → All (IsAnswered answers pieces) new
  answered_more pieces index old new below all h =
      let is = h.2 in
      subst (λ (l : List (Found T)). All (IsAnswered answers pieces) l) (sym h.1)
      (All-push (IsAnswered answers pieces) old h.0 all (omega arith, omega arith, subst (λ (p : ℕ). answers p h.0.out) (sym is) h.3))

  pub found_none : AreFound answers 0 []
  found_none = (refl, λ j below. absurd (omega arith))

  pub found_more : (n : ℕ) (old new : List (Found T)) → AreFound answers n old → HasAdded answers (n + 1) old new → AreFound answers (n + 1) new
  found_more n old new all h =
      let len = all.0 in
      let longer = length-append old (h.0 ∷ []) in
      subst (λ (l : List (Found T)). AreFound answers (n + 1) l) (sym h.1) (
        omega arith,
        λ j below. dite (dec_lt j n)
            (λ lt. let f = all.1 j lt in (f.0, slice_get-left old (h.0 ∷ []) j f.0 f.1, f.2, f.3))
            (λ not_lt.
            let is : j ≡ n = omega arith in
            subst (λ (m : ℕ). IsFoundAt answers (old ++ h.0 ∷ []) m) (sym is)
            (h.0, subst (λ (m : ℕ). slice_get (old ++ h.0 ∷ []) m ≡ Some h.0) len (slice_get-last old h.0), h.2, h.3)),
      )
