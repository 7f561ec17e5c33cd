-- A budget of edges, and whether it is enough to follow a former apply.
use Rattle.std.specs.Prelude.{◌≡◌, ℕ, ◌<◌, ◌≤◌, ◌⊎◌, Bool, List}
use Rattle.std.specs.List.{filter}
use Rattle.std.specs.List.Sorted.{IsStrictlyIncreasing}
use Rattle.kernels.specs.EdgeApply.{is_member}
use Rattle.kernels.specs.Registers.{HasSizes}
use Rattle.kernels.specs.State.{StateValue}
use Rattle.edge_fold.specs.Ends.{IsEndTest}
use Rattle.edge_apply.specs.declared.apply.Apply.{Apply}
use Rattle.follow_engine.specs.declared.differences.Differences.{Differences}
use Rattle.follow_engine.specs.Reached.{is_reached}
use Rattle.follow_engine.specs.Work.{edges_to, marking_work}

-- of some vertices those that the second end of an apply lets through
abbrev pub AreChosen : Apply → (vertices chosen : List ℕ) → Type 0
AreChosen a vertices chosen = (m : StateValue) (to : ℕ → Bool) → a.vectors.now.vectors ≡ m.vectors → HasSizes a.sizes.now m → IsEndTest a.to m to
    → chosen ≡ filter to vertices

-- so many edges go to those reached destinations that the second end lets through
pub record IsPullWork (now was : Apply) (d : Differences) (work : ℕ) : Type 0 where
  pub reached : List ℕ
  pub ascending : IsStrictlyIncreasing reached
  pub listed : (v : ℕ) → v < now.flat.now.vertices → is_member v reached ≡ is_reached now was d v
  pub chosen : List ℕ
  pub are : AreChosen now reached chosen
  pub edges : work ≡ edges_to now.flat.now.edges chosen

-- the budget is spent by the edges that are gone over to mark, or by those to the destinations that are pulled
abbrev pub IsSpent : (now was : Apply) → Differences → (budget : ℕ) → Type 0
IsSpent now was d budget = (budget < marking_work now d) ⊎ ((work : ℕ) × IsPullWork now was d work × (budget < work))

-- the budget is enough for the former, and for the latter
abbrev pub IsWithinBudget : (now was : Apply) → Differences → (budget : ℕ) → Type 0
IsWithinBudget now was d budget = (marking_work now d ≤ budget) × ((work : ℕ) × IsPullWork now was d work × (work ≤ budget))
