use Rattle.std.proofs.Common.{◌≡◌, take, length, vec_len, vec_capacity}
use Rattle.version_list.specs.Timeline.{replies_to, advanced_through}
use Rattle.version_list.proofs.versions.Versions.run.Given as goal

abbrev pub invariant-loop-step : goal.invariant-loop-step
invariant-loop-step l = record {
  replies : l.replies.items ≡ replies_to l.initial.self.state (take l.step-index l.steps);
  timeline : l.self ≡ advanced_through l.initial.self (take l.step-index l.steps);
  count : vec_len l.replies ≡ l.step-index;
  room : vec_capacity l.replies ≡ length l.steps;
}
