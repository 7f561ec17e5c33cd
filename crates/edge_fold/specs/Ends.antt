-- The ends of an edge.
use Rattle.std.specs.Prelude.{◌≡◌, ℕ, Bool, true, Option, Some, None}
use Rattle.typed_tree.specs.FunctionStatementTree.{FunctionStatementsTree}
use Rattle.algorithm_meaning.specs.EdgeApply.{is_member}
use Rattle.algorithm_meaning.specs.Function.{result_of}
use Rattle.algorithm_meaning.specs.State.{StateValue}
use Rattle.kernels.specs.declared.endpoint_filter.EndpointFilter.{EndpointFilter}
use Rattle.kernels.specs.declared.endpoint_filter.EndpointFilter.TheVariants as end
use Rattle.kernels.specs.declared.kernel.FilterKernel.{FilterKernel}
use Rattle.kernels.specs.Kernels.{IsFilterKernel}

-- the test is that of a filter, over the vectors and the sets of a state
pub record IsFilterTest (kernel : FilterKernel) (m : StateValue) (test : ℕ → Bool) : Type 0 where
  pub steps : FunctionStatementsTree
  pub of : IsFilterKernel kernel steps
  pub result : (v : ℕ) → test v ≡ result_of steps m.sets m.vectors v

-- the test is that of an end
abbrev pub IsTest : EndpointFilter → StateValue → (ℕ → Bool) → Type 0
IsTest (end.Members set) m test = (v : ℕ) → test v ≡ is_member v set.now.members
IsTest (end.Filter kernel) m test = IsFilterTest kernel.now m test

-- the test is that of an end; one that is not given lets all through
abbrev pub IsEndTest : Option EndpointFilter → StateValue → (ℕ → Bool) → Type 0
IsEndTest None m test = (v : ℕ) → test v ≡ true
IsEndTest (Some e) m test = IsTest e m test
