-- Code that reads the two ends of an edge alone does the same over vectors that agree at both.
use Rattle.std.proofs.Common.{◌≡◌, ℕ, ℤ, pos, true, Option, Some, None, List, [], ◌∷◌, ◌++◌, refl, sym, ap, ap₂, ◌∙◌}
use Rattle.std.proofs.lemmas.Bool.{and_parts, false≢true}
use Rattle.std.specs.Borrow.{Bor}
use Rattle.weighted_edges.specs.Edge.{Edge, unit_edge}
use Rattle.apply_options.specs.declared.reduction.Reduction.{Reduction}
use Rattle.typed_tree.specs.declared.expression.Endpoint.TheVariants as endpoint
use Rattle.algorithm_meaning.specs.declared.contribution.Contribution.{Contribution}
use Rattle.algorithm_meaning.specs.Function.{result_of}
use Rattle.kernels.specs.FunctionStatementTree.{FunctionStatementsTree}
use Rattle.kernels.specs.EdgeApply.{all_give, gives}
use Rattle.kernels.specs.State.{StateValue}
use Rattle.kernels.specs.Registers.{CodeInput, HasSizes, Registers, is_nonzero, run, step, with_number}
use Rattle.kernels.specs.Meaning.{each, given_by, IsEdgeCode, edge_input, given_in}
use Rattle.kernels.specs.ContributionCode.{ContributionCode}
use Rattle.kernels.specs.RegisterInstruction.{RegisterInstruction}
use Rattle.kernels.specs.RegisterInstruction.TheVariants as code
use Rattle.kernels.specs.declared.kernel.EdgeKernel.{EdgeKernel}
use Rattle.kernels.specs.declared.kernel.FilterKernel.{FilterKernel}
use Rattle.kernels.specs.Kernels.{IsFilterKernel}
use Rattle.edge_fold.specs.Folded.{AreKernels}
use Rattle.kernels.specs.Local.{is_local_code, is_local_instruction}
use Rattle.follow_engine.specs.Local.{AgreeAt, are_local}

-- other vectors and other sizes
abbrev other : CodeInput → List (List ℤ) → List ℤ → CodeInput
other s vectors sizes = record s { vectors = vectors; sizes = sizes }

step_alike : (s : CodeInput) (vectors : List (List ℤ)) (sizes : List ℤ) (i : RegisterInstruction) (c : Registers) → is_local_instruction i ≡ true
    → AgreeAt s.vectors vectors s.source → AgreeAt s.vectors vectors s.destination → step s i c ≡ step (other s vectors sizes) i c
step_alike s vectors sizes (code.Number to n) c h from to' = refl
step_alike s vectors sizes (code.Integer to index) c h from to' = refl
step_alike s vectors sizes (code.Condition to index) c h from to' = refl
step_alike s vectors sizes (code.Vertex to endpoint.Source) c h from to' = refl
step_alike s vectors sizes (code.Vertex to endpoint.Destination) c h from to' = refl
step_alike s vectors sizes (code.Weight to) c h from to' = refl
step_alike s vectors sizes (code.Entry to vector endpoint.Source) c h from to' = ap (λ (x : ℤ). with_number c to x) (from vector)
step_alike s vectors sizes (code.Entry to vector endpoint.Destination) c h from to' = ap (λ (x : ℤ). with_number c to x) (to' vector)
step_alike s vectors sizes (code.Within at) c h from to' = refl
step_alike s vectors sizes (code.EntryAt to vector) c h from to' = absurd (false≢true h)
step_alike s vectors sizes (code.Size to set) c h from to' = absurd (false≢true h)
step_alike s vectors sizes (code.Negate to) c h from to' = refl
step_alike s vectors sizes (code.Not to) c h from to' = refl
step_alike s vectors sizes (code.Copy to source) c h from to' = refl
step_alike s vectors sizes (code.And to with) c h from to' = refl
step_alike s vectors sizes (code.Arithmetic to o) c h from to' = refl
step_alike s vectors sizes (code.Compare to o) c h from to' = refl
step_alike s vectors sizes (code.Connect to o) c h from to' = refl
step_alike s vectors sizes (code.Reduce to r) c h from to' = refl
step_alike s vectors sizes (code.SetInt index source predicate) c h from to' = refl
step_alike s vectors sizes (code.SetBool index source predicate) c h from to' = refl
step_alike s vectors sizes (code.SetEntry vector source predicate) c h from to' = refl

pub run_alike : (s : CodeInput) (vectors : List (List ℤ)) (sizes : List ℤ) (is : List RegisterInstruction) (c : Registers) → is_local_code is ≡ true
    → AgreeAt s.vectors vectors s.source → AgreeAt s.vectors vectors s.destination → run s is c ≡ run (other s vectors sizes) is c
run_alike s vectors sizes [] c h from to = refl
run_alike s vectors sizes (i ∷ is) c h from to =
    let parts = and_parts (is_local_instruction i) (is_local_code is) h in
    ap (run s is) (step_alike s vectors sizes i c parts.0 from to) ∙ run_alike s vectors sizes is (step (other s vectors sizes) i c) parts.1 from to

abbrev blank : Registers
blank = record { numbers = λ _. pos 0; integers = λ _. pos 0; conditions = λ _. pos 0; inside = pos 0 }

-- what local code gives on an edge
given_alike : (is : List RegisterInstruction) (gs : List ContributionCode) (steps : FunctionStatementsTree) → IsEdgeCode is gs steps → is_local_code is ≡ true
    → (m k : StateValue) (ms ks : List ℤ) → HasSizes ms m → HasSizes ks k → (e : Edge) → AgreeAt m.vectors k.vectors e.0 → AgreeAt m.vectors k.vectors e.1
    → given_in m steps e ≡ given_in k steps e
given_alike is gs steps kernel local m k ms ks sized also e from to =
    sym (kernel m ms 0 e blank sized)
    ∙ ap (λ (c : Registers). given_by gs c.numbers) (run_alike (edge_input m ms 0 e) k.vectors ks is blank local from to)
    ∙ kernel k ks 0 e blank also

-- and the contributions, of which these are the parts
abbrev triple : Contribution → ℕ × Reduction × ℤ
triple c = (c.vector, c.reduction, c.number)

abbrev back : ℕ × Reduction × ℤ → Contribution
back g = record { vector = g.0; reduction = g.1; number = g.2 }

back_again : (cs : List Contribution) → each (each cs triple) back ≡ cs
back_again [] = refl
back_again (c ∷ cs) = ap (λ (ds : List Contribution). c ∷ ds) (back_again cs)

gives_alike : (steps : FunctionStatementsTree) (m k : StateValue) (e : Edge) → given_in m steps e ≡ given_in k steps e → gives steps m.sets m.vectors e ≡ gives steps k.sets k.vectors e
gives_alike steps m k e same =
    sym (back_again (gives steps m.sets m.vectors e)) ∙ ap (λ (gs : List (ℕ × Reduction × ℤ)). each gs back) same ∙ back_again (gives steps k.sets k.vectors e)

one_alike : (kernel : EdgeKernel) (steps : FunctionStatementsTree) → IsEdgeCode kernel.code.items kernel.gives.items steps → is_local_code kernel.code.items ≡ true
    → (m k : StateValue) (ms ks : List ℤ) → HasSizes ms m → HasSizes ks k → (e : Edge) → AgreeAt m.vectors k.vectors e.0 → AgreeAt m.vectors k.vectors e.1
    → gives steps m.sets m.vectors e ≡ gives steps k.sets k.vectors e
one_alike kernel steps are local m k ms ks sized also e from to =
    gives_alike steps m k e (given_alike kernel.code.items kernel.gives.items steps are local m k ms ks sized also e from to)

-- what one or two functions give
pub all_alike : (first : EdgeKernel) (second : Option (Bor EdgeKernel)) (steps : List FunctionStatementsTree) → AreKernels first second steps → are_local first second ≡ true
    → (m k : StateValue) (ms ks : List ℤ) → HasSizes ms m → HasSizes ks k → (e : Edge) → AgreeAt m.vectors k.vectors e.0 → AgreeAt m.vectors k.vectors e.1
    → all_give steps m.sets m.vectors e ≡ all_give steps k.sets k.vectors e
all_alike first None [] are local m k ms ks sized also e from to = absurd are
all_alike first None (a ∷ []) are local m k ms ks sized also e from to =
    ap (λ (cs : List Contribution). cs ++ []) (one_alike first a are local m k ms ks sized also e from to)
all_alike first None (a ∷ (b ∷ more)) are local m k ms ks sized also e from to = absurd are
all_alike first (Some second) [] are local m k ms ks sized also e from to = absurd are
all_alike first (Some second) (a ∷ []) are local m k ms ks sized also e from to = absurd are
all_alike first (Some second) (a ∷ (b ∷ [])) are local m k ms ks sized also e from to =
    let parts = and_parts (is_local_code first.code.items) (is_local_code second.now.code.items) local in
    ap₂ (λ (cs ds : List Contribution). cs ++ (ds ++ [])) (one_alike first a are.0 parts.0 m k ms ks sized also e from to)
    (one_alike second.now b are.1 parts.1 m k ms ks sized also e from to)
all_alike first (Some second) (a ∷ (b ∷ (d ∷ more))) are local m k ms ks sized also e from to = absurd are

-- the result of a local filter at a vertex
pub result_alike : (kernel : FilterKernel) (steps : FunctionStatementsTree) → IsFilterKernel kernel steps → is_local_code kernel.code.items ≡ true
    → (m k : StateValue) (ms ks : List ℤ) → HasSizes ms m → HasSizes ks k → (v : ℕ) → AgreeAt m.vectors k.vectors v
    → result_of steps m.sets m.vectors v ≡ result_of steps k.sets k.vectors v
result_alike kernel steps is local m k ms ks sized also v at =
    sym (is m ms 0 v blank sized)
    ∙ ap (λ (c : Registers). is_nonzero (c.conditions 0)) (run_alike (edge_input m ms 0 (unit_edge (v, v))) k.vectors ks kernel.code.items blank local at at)
    ∙ is k ks 0 v blank also
