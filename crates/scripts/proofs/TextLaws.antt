-- A script that a reader of a text gave.
use Rattle.std.proofs.Common.{◌≡◌, ℕ, ◌≤◌, Bool, true, false, List, [], ◌++◌, length, take, drop, Result, Ok, Err, sym, ap, ◌∙◌, arith}
use Rattle.std.proofs.lemmas.List.{take-append-drop, take_all, length-drop}
use Rattle.algorithm_meaning.specs.ProgramTree.{ProgramTree}
use Rattle.scripts.specs.declared.error.ScriptError.{ScriptError}
use Rattle.scripts.specs.declared.error.ScriptError.TheVariants.{NoMemory, ReadFailed, WriteFailed}
use Rattle.scripts.specs.Replies.{replies, faults}
use Rattle.scripts.specs.Script.{Input, Written, input, RepliesInPart, RunsScript, BeginsReplies, RunsText}
use Rattle.scripts.proofs.ReadingLaws.{empty_when_none}

-- before the text is read, and after n bytes of it
abbrev pub unread : Input
unread = input [] false 0

abbrev pub read : List ℕ → ℕ → Bool → Input
read text count ended = input (take count text) ended 0

-- where the reader has ended, all was given
module _ (programs : List ProgramTree) (text : List ℕ) (count : ℕ) (ended : Bool) (whole : ended ≡ true → length text ≤ count) (before after : Written) where
  nothing_left : ended ≡ true → drop count text ≡ []
  nothing_left is = empty_when_none (drop count text) (omega (arith, length-drop {A = ℕ} count text, whole is))

  begins : RepliesInPart programs unread (read text count ended) before after → BeginsReplies programs text before after
  begins part =
      let begun = part.beginning (drop count text) nothing_left in
      let all : part.bytes ++ drop count text ≡ text = ap (λ bytes. bytes ++ drop count text) (sym part.bytes_read) ∙ take-append-drop count text in
      record { written = part.written; rest = begun.0; bytes_written = part.bytes_written; beginning = begun.1 ∙ ap (replies programs) all }

  pub runs_text : (r : Result Bool ScriptError) → RunsScript programs unread (read text count ended) before after r → RunsText programs text before after r
  runs_text (Ok faulted) all =
      let bytes_read : all.bytes ≡ text = sym all.bytes_read ∙ take_all count text (whole all.ended) in
      record { bytes_written = all.bytes_written ∙ ap (λ bytes. before.bytes_written ++ replies programs bytes) bytes_read; fault = all.fault ∙ ap (faults programs) bytes_read; quiet = all.quiet.1 }
  runs_text (Err NoMemory) part = (begins part.0, part.1.1)
  runs_text (Err WriteFailed) part = (begins part.0, part.2)
  runs_text (Err ReadFailed) part = absurd (omega (arith, part.1))
