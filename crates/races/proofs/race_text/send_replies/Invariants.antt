use Rattle.std.proofs.Common.{take}
use Rattle.std.specs.List.{flat_map}
use Rattle.replies.specs.Sending.{Sends}
use Rattle.races.specs.RaceText.{reply_line}
use Rattle.races.proofs.race_text.send_replies.Given as goal

-- those so far are sent
abbrev pub invariant-commits : goal.invariant-commits
invariant-commits g l = Sends l.fn.replies l.replies (flat_map reply_line (take l.commit-index l.commits))
