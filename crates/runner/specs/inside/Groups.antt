-- The groups in which the vectors of a run stand.
use Rattle.std.specs.Prelude.{ℕ, List}
use Rattle.flat_snapshot.specs.Digraph.{Digraph}
use Rattle.plans.specs.declared.plan.Plan.{Plan}
use Rattle.run_state.specs.State.{AreGroups, opened_vectors}

-- they are the plan's, where these fit the vectors of a run on the graph
abbrev pub AreGroupsOf : Plan → Digraph → List (List ℕ) → Type 0
AreGroupsOf plan graph groups = AreGroups (opened_vectors graph plan.vectors.items) plan.groups.items groups
