use Rattle.std.proofs.Common.{◌≡◌, ◌++◌, drop, map}
use Rattle.syntax.specs.SourceViews.{chain_tree}
use Rattle.typed_tree.specs.ProgramTree.{call_tree}
use Rattle.types.specs.Program.{chain_calls}
use Rattle.types.proofs.schedule.calls.Given as goal

abbrev pub invariant-chains : goal.invariant-chains
invariant-chains l =
    map call_tree l.calls.items ++ chain_calls (map chain_tree (drop l.chain-index l.chain-items))
    ≡ chain_calls (map chain_tree l.chain-items)
