use Rattle.std.proofs.Common.{◌≡◌, ◌∷◌, ◌++◌, drop, map}
use Rattle.syntax.specs.SourceViews.{call_tree as source_call}
use Rattle.typed_tree.specs.ProgramTree.{call_tree}
use Rattle.types.specs.Program.{schedule_call}
use Rattle.types.proofs.schedule.push_chain.Given as goal

abbrev pub invariant-calls : goal.invariant-calls
invariant-calls l =
    map call_tree l.calls.items ++ map schedule_call (map source_call (drop l.call-index l.chain.more.items))
    ≡ map call_tree l.fn.calls.items ++ map schedule_call (source_call l.chain.first ∷ map source_call l.chain.more.items)
