-- Beside `Timeline`: definitions that no public contract cites.
use Rattle.std.specs.Prelude.{◌≡◌, Result, Ok, Err}
use Rattle.version_list.specs.declared.step.Step.{Step}
use Rattle.version_list.specs.declared.step.Reply.{Reply}
use Rattle.version_list.specs.declared.error.VersionError.{VersionError}
use Rattle.version_list.specs.declared.error.VersionError.TheVariants.{NoMemory, VertexRange, BadChunkSize, NotKept, NotHeld, HistoryFull}
use Rattle.version_list.specs.Machine.{reply_to}
use Rattle.version_list.specs.Timeline.{Timeline, advanced}

-- the step is answered as the machine does, and taken; or memory runs out and nothing is changed
abbrev pub Takes : Timeline → Step → Result Reply VersionError → Timeline → Type 0
Takes old step (Ok reply) new = (reply ≡ reply_to old.state step) × (new ≡ advanced old step)
Takes old step (Err NoMemory) new = new ≡ old
Takes old step (Err VertexRange) new = ⊥
Takes old step (Err BadChunkSize) new = ⊥
Takes old step (Err NotKept) new = ⊥
Takes old step (Err NotHeld) new = ⊥
Takes old step (Err HistoryFull) new = ⊥
