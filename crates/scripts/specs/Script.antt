-- Runs of a script, as changes of its reader and its writer, and the replies to a text.
use Rattle.std.specs.Prelude.{◌≡◌, ℕ, ◌<◌, Bool, true, List, [], ◌++◌, Result, Ok, Err, Option}
use Rattle.algorithm_meaning.specs.ProgramTree.{ProgramTree}
use Rattle.scripts.specs.declared.error.ScriptError.{ScriptError}
use Rattle.scripts.specs.declared.error.ScriptError.TheVariants.{NoMemory, ReadFailed, WriteFailed}
use Rattle.scripts.specs.Replies.{replies, replies_to_ended, faults, OpenState}

-- the bytes that a reader has given, whether it has ended, and how often it has failed
pub record Input : Type 0 where
  pub bytes_read : List ℕ
  pub ended : Bool
  pub failures : ℕ

-- the bytes that a writer has taken, and how often it has failed
pub record Written : Type 0 where
  pub bytes_written : List ℕ
  pub failures : ℕ

-- an input of its parts
abbrev pub input : List ℕ → Bool → ℕ → Input
input bytes_read ended failures = record { bytes_read = bytes_read; ended = ended; failures = failures }

-- what a writer has taken, of its parts
abbrev pub taken_by_writer : List ℕ → ℕ → Written
taken_by_writer bytes_written failures = record { bytes_written = bytes_written; failures = failures }

-- neither the reader nor the writer failed
abbrev pub NoneFails : Input → Input → Written → Written → Type 0
NoneFails old new before after = (new.failures ≡ old.failures) × (after.failures ≡ before.failures)

-- all was read, what was written is the replies to the bytes read, and it is known whether a run of them ended by a fault
pub record RepliesToAll (programs : List ProgramTree) (old new : Input) (before after : Written) (faulted : Bool) : Type 0 where
  pub bytes : List ℕ
  pub bytes_read : new.bytes_read ≡ old.bytes_read ++ bytes
  pub ended : new.ended ≡ true
  pub bytes_written : after.bytes_written ≡ before.bytes_written ++ replies programs bytes
  pub fault : faulted ≡ faults programs bytes
  pub quiet : NoneFails old new before after

-- what was written is exactly the replies to the lines that have ended among the bytes read, and these are a beginning of the replies to the bytes
pub record RepliesToEnded (programs : List ProgramTree) (old new : Input) (before after : Written) : Type 0 where
  pub bytes : List ℕ
  pub bytes_read : new.bytes_read ≡ old.bytes_read ++ bytes
  pub bytes_written : after.bytes_written ≡ before.bytes_written ++ replies_to_ended programs bytes
  pub rest : List ℕ
  pub beginning : replies_to_ended programs bytes ++ rest ≡ replies programs bytes

-- with some rest it is the whole
abbrev pub IsBeginning : List ℕ → List ℕ → Type 0
IsBeginning written whole = (rest : List ℕ) × (written ++ rest ≡ whole)

-- the written bytes are a beginning of the replies to the bytes read and to any bytes that may follow; after the end of the reader none follow
pub record RepliesInPart (programs : List ProgramTree) (old new : Input) (before after : Written) : Type 0 where
  pub bytes : List ℕ
  pub bytes_read : new.bytes_read ≡ old.bytes_read ++ bytes
  pub written : List ℕ
  pub bytes_written : after.bytes_written ≡ before.bytes_written ++ written
  pub beginning : (more : List ℕ) → (new.ended ≡ true → more ≡ []) → IsBeginning written (replies programs (bytes ++ more))

-- how a script ends: each error of a device where that device failed and the other did not, and else where none did
abbrev pub RunsScript : List ProgramTree → Input → Input → Written → Written → Result Bool ScriptError → Type 0
RunsScript programs old new before after (Ok faulted) = RepliesToAll programs old new before after faulted
RunsScript programs old new before after (Err NoMemory) = RepliesInPart programs old new before after × NoneFails old new before after
RunsScript programs old new before after (Err ReadFailed) = RepliesToEnded programs old new before after × (old.failures < new.failures)
    × (after.failures ≡ before.failures)
RunsScript programs old new before after (Err WriteFailed) = RepliesInPart programs old new before after × (new.failures ≡ old.failures)
    × (before.failures < after.failures)

-- what was written is the replies to the text, and it is known whether a run in it ended by a fault
pub record RepliesToText (programs : List ProgramTree) (text : List ℕ) (before after : Written) (faulted : Bool) : Type 0 where
  pub bytes_written : after.bytes_written ≡ before.bytes_written ++ replies programs text
  pub fault : faulted ≡ faults programs text
  pub quiet : after.failures ≡ before.failures

-- what was written is a beginning of the replies to the text
pub record BeginsReplies (programs : List ProgramTree) (text : List ℕ) (before after : Written) : Type 0 where
  pub written : List ℕ
  pub rest : List ℕ
  pub bytes_written : after.bytes_written ≡ before.bytes_written ++ written
  pub beginning : written ++ rest ≡ replies programs text

-- how a script of this text ends
abbrev pub RunsText : List ProgramTree → List ℕ → Written → Written → Result Bool ScriptError → Type 0
RunsText programs text before after (Ok faulted) = RepliesToText programs text before after faulted
RunsText programs text before after (Err NoMemory) = BeginsReplies programs text before after × (after.failures ≡ before.failures)
RunsText programs text before after (Err ReadFailed) = ⊥
RunsText programs text before after (Err WriteFailed) = BeginsReplies programs text before after × (before.failures < after.failures)

-- what the lines that have ended left, and the beginning of the line that has not
pub record Reading : Type 0 where
  pub state : Option OpenState
  pub partial : List ℕ
