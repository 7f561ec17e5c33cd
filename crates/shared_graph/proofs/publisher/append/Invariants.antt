use Rattle.std.proofs.Common.{◌≡◌}
use Rattle.shared_graph.proofs.publisher.append.Given as goal

abbrev pub invariant-loop : goal.invariant-loop
invariant-loop g l = record { desk : l.writer.desk ≡ l.fn.writer.desk; value : l.next ≡ l.fn.next }
