use Rattle.std.proofs.Common.{◌≡◌, drop}
use Rattle.shared_graph.proofs.publisher.publish.Given as goal

abbrev pub invariant-loop : goal.invariant-loop
invariant-loop g l = record {
  shown : l.writer.desk.shown.value ≡ l.fn.writer.desk.shown.value;
  pending : drop l.writer.behind l.writer.log.items ≡ drop l.fn.writer.behind l.fn.writer.log.items;
}
