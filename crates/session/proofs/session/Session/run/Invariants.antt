use Rattle.std.proofs.Common.{◌≡◌, List, take, length, vec_len, vec_capacity}
use Rattle.session.specs.World.{ScheduledProgram, World, step_replies, world_after}
use Rattle.session.specs.Standing.{IsAt}
use Rattle.session.proofs.session.Session.run.Given as goal

abbrev pub invariant-loop-step : goal.invariant-loop-step
invariant-loop-step l = record {
  stands : (programs : List ScheduledProgram) (w : World) → IsAt programs w l.initial.self
      → (l.replies.items ≡ step_replies programs w (take l.step-index l.steps)) × IsAt programs (world_after programs w (take l.step-index l.steps)) l.self;
  count : vec_len l.replies ≡ l.step-index;
  room : vec_capacity l.replies ≡ length l.steps;
}
