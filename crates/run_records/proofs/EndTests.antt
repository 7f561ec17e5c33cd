-- Tests of ends: of an apply of the engines, and of a record.
use Rattle.std.proofs.Common.{ℕ, Bool, Option, Some, None, List, [], ◌∷◌, ap, sym, subst, ◌∙◌}
use Rattle.std.specs.Borrow.{Bor}
use Rattle.std.specs.Option.{option_copied}
use Rattle.typed_tree.specs.declared.statement.VertexFilter.{VertexFilter}
use Rattle.typed_tree.specs.declared.statement.VertexFilter.TheVariants as named
use Rattle.kernels.specs.FunctionStatementTree.{FunctionStatementsTree}
use Rattle.kernels.specs.EdgeApply.{is_member}
use Rattle.kernels.specs.State.{StateValue}
use Rattle.kernels.specs.declared.kernel.EdgeKernel.{EdgeKernel}
use Rattle.kernels.specs.declared.kernel.FilterKernel.{FilterKernel}
use Rattle.kernels.specs.declared.endpoint_filter.EndpointFilter.{EndpointFilter}
use Rattle.kernels.specs.declared.endpoint_filter.EndpointFilter.TheVariants as end
use Rattle.vertex_sets.specs.VertexSet.{VertexSubset}
use Rattle.plans.specs.declared.functions.FunctionKernels.{FunctionKernels}
use Rattle.edge_fold.specs.Ends.{IsEndTest, IsFilterTest}
use Rattle.edge_fold.specs.Folded.{AreKernels}
use Rattle.run_state.specs.declared.run_view.RunView.{RunView}
use Rattle.runner.specs.EdgeMap.{IsNamedEnd}
use Rattle.run_records.specs.inside.Ends.{AreOfOneKind, IsKeptSet, IsRecordedEnd}
use Rattle.run_records.specs.Recorded.{AreKernelsOf, IsNamedTest}

-- the test that a record names is that of the end of the apply that was recorded
pub test_of_apply : (run : RunView) (name : Option VertexFilter) (e : Option EndpointFilter) (kept : Option VertexSubset) (m : StateValue) (test : ℕ → Bool)
    → IsNamedEnd run name e → IsKeptSet e kept → IsNamedTest run.functions.now name kept m test → IsEndTest e m test
test_of_apply run None None kept m test is has tests = tests
test_of_apply run None (Some e) kept m test is has tests = absurd is
test_of_apply run (Some (named.Members slot)) None kept m test is has tests = absurd is
test_of_apply run (Some (named.Function index)) None kept m test is has tests = absurd is
test_of_apply run (Some (named.Members slot)) (Some (end.Members set)) kept m test is has tests = λ v. tests v ∙ ap (λ (us : List ℕ). is_member v us) has
test_of_apply run (Some (named.Members slot)) (Some (end.Filter kernel)) kept m test is has tests = absurd is
test_of_apply run (Some (named.Function index)) (Some (end.Members set)) kept m test is has tests = absurd is
test_of_apply run (Some (named.Function index)) (Some (end.Filter kernel)) kept m test is has tests =
    subst (λ (k : FilterKernel). IsFilterTest k m test) (sym is) tests

-- the test of the end of a recorded apply is the one that the record names
pub test_of_record : (f : FunctionKernels) (name : Option VertexFilter) (kept : Option VertexSubset) (e : Option EndpointFilter) (m : StateValue) (test : ℕ → Bool)
    → IsRecordedEnd f name kept e → IsEndTest e m test → IsNamedTest f name kept m test
test_of_record f None kept None m test is tests = tests
test_of_record f None kept (Some e) m test is tests = absurd is
test_of_record f (Some (named.Members slot)) kept None m test is tests = absurd is
test_of_record f (Some (named.Function index)) kept None m test is tests = absurd is
test_of_record f (Some (named.Members slot)) kept (Some (end.Members set)) m test is tests = λ v. tests v ∙ ap (λ (us : List ℕ). is_member v us) is
test_of_record f (Some (named.Members slot)) kept (Some (end.Filter kernel)) m test is tests = absurd is
test_of_record f (Some (named.Function index)) kept (Some (end.Members set)) m test is tests = absurd is
test_of_record f (Some (named.Function index)) kept (Some (end.Filter kernel)) m test is tests =
    subst (λ (k : FilterKernel). IsFilterTest k m test) is tests

-- the end of an apply and that of a recorded one between the same ends are of one kind
pub one_kind : (run : RunView) (name : Option VertexFilter) (kept : Option VertexSubset) (now was : Option EndpointFilter) → IsNamedEnd run name now
    → IsRecordedEnd run.functions.now name kept was → AreOfOneKind now was
one_kind run None kept None None is recorded = tt
one_kind run None kept None (Some b) is recorded = absurd recorded
one_kind run None kept (Some a) was is recorded = absurd is
one_kind run (Some (named.Members slot)) kept None was is recorded = absurd is
one_kind run (Some (named.Function index)) kept None was is recorded = absurd is
one_kind run (Some (named.Members slot)) kept (Some (end.Members a)) None is recorded = absurd recorded
one_kind run (Some (named.Members slot)) kept (Some (end.Members a)) (Some (end.Members b)) is recorded = tt
one_kind run (Some (named.Members slot)) kept (Some (end.Members a)) (Some (end.Filter b)) is recorded = absurd recorded
one_kind run (Some (named.Members slot)) kept (Some (end.Filter a)) was is recorded = absurd is
one_kind run (Some (named.Function index)) kept (Some (end.Members a)) was is recorded = absurd is
one_kind run (Some (named.Function index)) kept (Some (end.Filter a)) None is recorded = absurd recorded
one_kind run (Some (named.Function index)) kept (Some (end.Filter a)) (Some (end.Members b)) is recorded = absurd recorded
one_kind run (Some (named.Function index)) kept (Some (end.Filter a)) (Some (end.Filter b)) is recorded = is ∙ sym recorded

-- kernels by their values
pub kernels_here : (first : EdgeKernel) (second : Option (Bor EdgeKernel)) (steps : List FunctionStatementsTree) → AreKernelsOf first (option_copied second) steps
    → AreKernels first second steps
kernels_here first None [] are = absurd are
kernels_here first None (a ∷ []) are = are
kernels_here first None (a ∷ b ∷ more) are = absurd are
kernels_here first (Some second) [] are = absurd are
kernels_here first (Some second) (a ∷ []) are = absurd are
kernels_here first (Some second) (a ∷ b ∷ []) are = are
kernels_here first (Some second) (a ∷ b ∷ c ∷ more) are = absurd are

pub kernels_of_values : (first : EdgeKernel) (second : Option (Bor EdgeKernel)) (steps : List FunctionStatementsTree) → AreKernels first second steps
    → AreKernelsOf first (option_copied second) steps
kernels_of_values first None [] are = absurd are
kernels_of_values first None (a ∷ []) are = are
kernels_of_values first None (a ∷ b ∷ more) are = absurd are
kernels_of_values first (Some second) [] are = absurd are
kernels_of_values first (Some second) (a ∷ []) are = absurd are
kernels_of_values first (Some second) (a ∷ b ∷ []) are = are
kernels_of_values first (Some second) (a ∷ b ∷ c ∷ more) are = absurd are
