-- Two lists, index by index.
use Rattle.std.proofs.Common.{◌≡◌, ◌∙◌, ◌<◌, ℕ, suc, List, [], ◌∷◌, length, map, refl, sym, ap, ap₂, arith, IfOk, Result, Ok, Err, vec_len}
use Rattle.std.specs.Global.{Vec}
use Rattle.std.specs.List.{slice_index_or}
use Rattle.shared_graph.specs.declared.naming.Naming as naming
use Rattle.races.specs.declared.entrants.EarlyRun.{EarlyRun}
use Rattle.races.specs.declared.entrants.Entrant.{Entrant}
use Rattle.races.specs.inside.Racing.{AllRanEarly, RanEarly}
use Rattle.snapshot_runs.specs.Runs.{plan_of_runs}

-- where f of each item of one list is g of the item of the other at its index, all of them are
pub same_at_indices : {A B C : Type 0} (f : B → C) (g : A → C) (xs : List A) (ys : List B) → length ys ≡ length xs
    → ((i : ℕ) (d : B) (e : A) → i < length xs → f (slice_index_or ys i d) ≡ g (slice_index_or xs i e)) → map f ys ≡ map g xs
same_at_indices f g [] [] len each = refl
same_at_indices f g [] (y ∷ ys) len each = absurd (omega (arith, len))
same_at_indices f g (x ∷ xs) [] len each = absurd (omega (arith, len))
same_at_indices f g (x ∷ xs) (y ∷ ys) len each =
    ap₂ (λ z zs. z ∷ zs) (each 0 y x (omega arith)) (same_at_indices f g xs ys (omega (arith, len)) (λ i d e below. each (suc i) d e (omega (arith, below))))

-- the run at this index is that of the entrant there
pub record RanAt {J : Type 0} {g : naming.Ghosts J} (n turns workers : ℕ) (jobs : List (Entrant J g)) (i : ℕ) (ran : EarlyRun J g) : Type 0 where
  pub job : Entrant J g
  pub is_job : (e : Entrant J g) → slice_index_or jobs i e ≡ job
  pub same : plan_of_runs ran.runs ≡ plan_of_runs job.runs
  pub early : RanEarly n turns workers ran

-- where the run at each index is that of the entrant there, the programs are the same, and each ran
pub all_early : {J : Type 0} {g : naming.Ghosts J} {E : Type 0} (n turns workers : ℕ) (jobs : Vec (Entrant J g)) (r : Result (Vec (EarlyRun J g)) E) → IfOk r (λ v. vec_len v ≡ vec_len jobs)
    → IfOk r (λ v. (i : ℕ) (d : EarlyRun J g) → i < length jobs.items → RanAt n turns workers jobs.items i (slice_index_or v.items i d))
    → IfOk r (λ v. AllRanEarly n turns workers jobs.items v.items)
all_early {J} {g} n turns workers jobs (Ok v) len each =
    let many = v.ok.0 in
    let known = jobs.ok.0 in
    let as_many : length v.items ≡ length jobs.items = omega arith in (
      same_at_indices (λ (x : EarlyRun J g). plan_of_runs x.runs) (λ (e : Entrant J g). plan_of_runs e.runs) jobs.items v.items as_many
          (λ i d e below. let at = each i d below in at.same ∙ sym (ap (λ (x : Entrant J g). plan_of_runs x.runs) (at.is_job e))),
      λ i d below. (each i d (omega (arith, below, as_many))).early,
    )
all_early n turns workers jobs (Err e) len each = tt
