-- Proofs of `apply_vertices`, src/applies.rt.
use Rattle.std.proofs.Common.{◌∙◌, ◌+◌, ℤ, List, slice_get, ap, subst, sym}
use Rattle.algorithm_meaning.specs.Statements.{with_vectors}
use Rattle.algorithm_meaning.specs.Function.{steps_of}
use Rattle.algorithm_meaning.specs.Value.{members_of}
use Rattle.kernels.specs.declared.vertex_kernel.VertexKernel.{VertexKernel}
use Rattle.kernels.specs.Meaning.{IsVertexCode}
use Rattle.plans.specs.Machine.{At}
use Rattle.runner.specs.declared.memory.Memory.{Memory}
use Rattle.runner.specs.inside.Position.{loops_of}
use Rattle.runner.proofs.Ready.{vertex_kernel}
use Rattle.runner.proofs.Stepping.{stands, vertices_done}
use Rattle.runner.proofs.memory.Memory.apply_vertices.Goals as goal

pub apply_vertices-requires-clause-first : goal.apply_vertices-requires-clause-first
apply_vertices-requires-clause-first c = vertex_kernel c.args.functions.now c.args.first c.get-first.result.now c.get-first.ensures c.requires.known

pub returns-clause-done : goal.returns-clause-done
returns-clause-done c p g t functions is fit =
    let run = c.args.self.now in
    let i = c.args.instruction.now in
    let s = run.state.state in
    let a = steps_of (slice_get p.vertex_functions c.args.first) in
    let first = subst (λ (k : VertexKernel). IsVertexCode k.code.items a) (sym c.get-first.ensures) (functions.vertex c.args.first) in
    let new : Memory = record { loops = run.loops; state = c.apply_vertices.new.self; block = c.apply_vertices.new.block; registers = run.registers } in
    let ascending = (c.vertices-vertices.ensures.valid.sets c.args.set.index).ascending in
    vertices_done i run new p g i.keep i.shown c.args.set c.args.first c.args.second t is fit
    (λ none here. stands (here + 1) (loops_of run) run.state c.apply_vertices.new.self _
    (c.in_ok-apply_vertices.ensures.one a first (c.second_kernel-second.ensures.none none)))
    (λ index some apart here.
    let b = steps_of (slice_get p.vertex_functions index) in
    stands (here + 1) (loops_of run) run.state c.apply_vertices.new.self _
    (c.in_ok-apply_vertices.ensures.two a b first (c.second_kernel-second.ensures.some p index functions some))
    ∙ ap (λ (vs : List (List ℤ)). At (here + 1) (loops_of run) (with_vectors s vs)) (sym (apart s (members_of (slice_get s.sets c.args.set.index)) s.vectors ascending)))
