use Rattle.std.proofs.Common.{take}
use Rattle.replies.specs.Sending.{Sends}
use Rattle.races.specs.RaceText.{numbered, early_run}
use Rattle.races.proofs.race_text.send_early.Given as goal

-- those so far are sent
abbrev pub invariant-runs : goal.invariant-runs
invariant-runs g l = Sends l.fn.replies l.replies (numbered early_run 1 (take l.index l.all))
