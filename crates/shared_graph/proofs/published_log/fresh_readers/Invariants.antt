use Rattle.std.proofs.Common.{◌≡◌, vec_len, vec_capacity}
use Rattle.shared_graph.specs.Histories.{fresh_readers}
use Rattle.shared_graph.proofs.published_log.fresh_readers.Given as goal

abbrev pub invariant-loop-number : goal.invariant-loop-number
invariant-loop-number g l = record {
  publisher : l.publisher ≡ l.fn.publisher;
  passes : l.passes.items ≡ fresh_readers l.number;
  count : vec_len l.passes ≡ l.number;
  room : vec_capacity l.passes ≡ l.readers;
}
