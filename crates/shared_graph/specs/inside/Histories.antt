-- Beside `Histories`: definitions that no public contract cites.
use Rattle.std.specs.Prelude.{◌≡◌, List}
use Rattle.version_list.specs.declared.step.Done.{Done}
use Rattle.version_list.specs.Machine.{State, reply_to}
use Rattle.version_list.specs.Timeline.{IsAccepted}
use Rattle.shared_graph.specs.declared.entry.Entry.{Entry}
use Rattle.shared_graph.specs.Histories.{state_at}

-- the machine accepts the step at the end of the history, with this reply
abbrev pub MayFollow : State → List Entry → Done → Type 0
MayFollow base log done = (reply_to (state_at base log) done.step ≡ done.reply) × IsAccepted done.reply
