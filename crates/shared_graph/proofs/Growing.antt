-- Histories with one more entry, and a reader's own entries in them.
use Rattle.std.proofs.Common.{◌≡◌, ℕ, ◌+◌, ◌≤◌, ◌==◌, true, false, List, [], ◌∷◌, ◌++◌, length, inl, inr, refl, sym, ap, ◌∙◌, subst, arith, length-append}
use Rattle.std.proofs.lemmas.Bool.{cases_Bool, eq-eqb, ne_eqb}
use Rattle.std.proofs.lemmas.List.{append-nil}
use mathlib.Core.List.{IsPrefix}
use Rattle.version_list.specs.declared.step.Done.{Done}
use Rattle.version_list.specs.Machine.{State, opened, state_after}
use Rattle.version_list.specs.Timeline.{IsLegal, replay}
use Rattle.version_list.proofs.Stepping.{replay-pushed, legal_pushed}
use Rattle.version_list.proofs.Counting.{opened_counts}
use Rattle.shared_graph.specs.declared.entry.Entry.{Entry}
use Rattle.shared_graph.specs.Histories.{steps_of, own, state_at}
use Rattle.shared_graph.specs.inside.Histories.{MayFollow}

pub steps_of-push : (log : List Entry) (e : Entry) → steps_of (log ++ e ∷ []) ≡ steps_of log ++ e.done ∷ []
steps_of-push [] e = refl
steps_of-push (x ∷ log) e = ap (λ (l : List Done). x.done ∷ l) (steps_of-push log e)

pub length-steps_of : (log : List Entry) → length (steps_of log) ≡ length log
length-steps_of [] = refl
length-steps_of (x ∷ log) = omega (arith, length-steps_of log)

pub legal-push : (base : State) (log : List Entry) (e : Entry) → IsLegal base (steps_of log) → MayFollow base log e.done → IsLegal base (steps_of (log ++ e ∷ []))
legal-push base log e legal may = subst (IsLegal base) (sym (steps_of-push log e)) (legal_pushed base (steps_of log) e.done legal may.0 may.1)

pub state_at-push : (base : State) (log : List Entry) (e : Entry) → state_at base (log ++ e ∷ []) ≡ state_after (state_at base log) e.done.step
state_at-push base log e = ap (replay base) (steps_of-push log e) ∙ replay-pushed base (steps_of log) e.done

-- the entries of a history that is legal from the opening can be counted
pub legal_few : (n room : ℕ) (log : List Entry) → IsLegal (opened n room) (steps_of log) → length log ≤ 18446744073709551615
legal_few n room log legal = omega (arith, opened_counts n room (steps_of log) legal, length-steps_of log)

-- and so they can with a step that may follow
pub next_few : (n room : ℕ) (log : List Entry) (done : Done) → IsLegal (opened n room) (steps_of log) → MayFollow (opened n room) log done → length log + 1 ≤ 18446744073709551615
next_few n room log done legal may =
    let e : Entry = record { by = 0; done = done } in
    omega (arith, legal_few n room (log ++ e ∷ []) (legal-push (opened n room) log e legal may), length-append log (e ∷ []))

pub own-append : (p : ℕ) (xs ys : List Entry) → own p (xs ++ ys) ≡ own p xs ++ own p ys
own-append p [] ys = refl
own-append p (x ∷ xs) ys = elim (cases_Bool (x.by == p)) [
  | inl here ↦ rw (here) (ap (λ (l : List Entry). x ∷ l) (own-append p xs ys))
  | inr other ↦ rw (other) (own-append p xs ys)
]

pub own-mine : (p : ℕ) (xs : List Entry) (e : Entry) → e.by ≡ p → own p (xs ++ e ∷ []) ≡ own p xs ++ e ∷ []
own-mine p xs e is = let here : e.by == p ≡ true = eq-eqb e.by p is in own-append p xs (e ∷ []) ∙ rw (here) refl

pub own-other : (p : ℕ) (xs : List Entry) (e : Entry) → (e.by ≡ p → ⊥) → own p (xs ++ e ∷ []) ≡ own p xs
own-other p xs e other = let apart : e.by == p ≡ false = ne_eqb e.by p other in own-append p xs (e ∷ []) ∙ rw (apart) (append-nil (own p xs))

pub length-own : (p : ℕ) (xs : List Entry) → length (own p xs) ≤ length xs
length-own p [] = omega arith
length-own p (x ∷ xs) = elim (cases_Bool (x.by == p)) [
  | inl here ↦ rw (here) (omega (arith, length-own p xs))
  | inr other ↦ rw (other) (omega (arith, length-own p xs))
]

no_more : {A : Type 0} (xs ys : List A) → length xs ≡ length (xs ++ ys) → xs ++ ys ≡ xs
no_more xs [] same = append-nil xs
no_more xs (y ∷ ys) same = absurd (omega (arith, same, length-append xs (y ∷ ys)))

-- a beginning with as many entries of a reader has all of them
pub own_whole : (p : ℕ) (xs ys : List Entry) → IsPrefix xs ys → length (own p xs) ≡ length (own p ys) → own p ys ≡ own p xs
own_whole p xs ys pre count =
    let is : own p ys ≡ own p xs ++ own p pre.0 = ap (own p) (sym pre.1) ∙ own-append p xs pre.0 in
    is ∙ no_more (own p xs) (own p pre.0) (count ∙ ap length is)
