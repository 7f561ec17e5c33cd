-- Proofs of `flags_of_end`, src/edge_apply.rt.
use Rattle.std.proofs.Common.{◌≡◌, false, Some, map, replicate, slice_get}
use Rattle.std.proofs.lemmas.Result.{IfOk-weaker}
use Rattle.std.specs.List.{range_with_len}
use Rattle.typed_tree.specs.FunctionStatementTree.{function_statements_tree, function_tree}
use Rattle.algorithm_meaning.specs.EdgeApply.{is_end}
use Rattle.algorithm_meaning.specs.Function.{result_of, steps_of}
use Rattle.algorithm_meaning.specs.Value.{members_of}
use Rattle.plain_run.specs.inside.Flags.{HasFlags, marked}
use Rattle.plain_run.specs.inside.Seen.{graph_of, state_of}
use Rattle.plain_run.proofs.Flags.{flag_of_vertex, flag_of_member}
use Rattle.plain_run.proofs.edge_apply.flags_of_end.Goals as goal

pub returns-in-Members-clause-flags : goal.returns-in-Members-clause-flags
returns-in-Members-clause-flags c = IfOk-weaker c.flags_of_members.result
    (λ f. f.items ≡ marked c.members_at-members.result.now (replicate c.args.graph.now.vertices false))
    (λ f. HasFlags f.items (is_end (map function_tree c.args.filters.now) (graph_of c.args.graph.now) (state_of c.args.state.now) (Some c.args.end)))
    (λ f is v. rw (c.in-Members.is, is, c.members_at-members.ensures, c.deref.ensures.value)
    (flag_of_member (members_of (slice_get c.args.state.now.sets.items c.in-Members.slot.index)) c.args.graph.now.vertices v))
    c.flags_of_members.ensures

pub returns-in-Function-clause-flags : goal.returns-in-Function-clause-flags
returns-in-Function-clause-flags c = IfOk-weaker c.flags_of_filter.result
    (λ f. f.items ≡ map (result_of (function_statements_tree c.steps_at-steps.result.now) c.deref-in-Function.result.now c.args.state.now.vectors.items) (range_with_len 0 c.args.graph.now.vertices))
    (λ f. HasFlags f.items (is_end (map function_tree c.args.filters.now) (graph_of c.args.graph.now) (state_of c.args.state.now) (Some c.args.end)))
    (λ f is v. rw (c.in-Function.is, is, c.deref-in-Function.ensures.value, c.steps_at-steps.ensures)
    (flag_of_vertex
    (result_of (steps_of (slice_get (map function_tree c.args.filters.now) c.in-Function.function)) c.args.state.now.sets.items c.args.state.now.vectors.items) c.args.graph.now.vertices v))
    c.flags_of_filter.ensures.flags
