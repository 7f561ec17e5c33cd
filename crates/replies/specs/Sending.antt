-- Replies on their way to a writer, some of them kept to be written later.
use Rattle.std.specs.Prelude.{◌≡◌, ℕ, ◌<◌, List, ◌++◌, Result, Ok, Err}
use Rattle.replies.specs.declared.send_error.SendError.{SendError}
use Rattle.replies.specs.declared.send_error.SendError.TheVariants.{NoMemory, WriteFailed}

-- which writer it is, the bytes that it has taken, those that are kept for it, and how often it has failed
pub record Output : Type 0 where
  pub writer : ℕ
  pub bytes_written : List ℕ
  pub kept : List ℕ
  pub failures : ℕ

-- of the text, after what was kept, the same writer took a beginning, and the rest is left
pub record TakesFirst (old new : Output) (text rest : List ℕ) : Type 0 where
  pub same : new.writer ≡ old.writer
  pub sent : List ℕ
  pub bytes_written : new.bytes_written ≡ old.bytes_written ++ sent
  pub whole : sent ++ rest ≡ old.kept ++ text

-- the text is taken or kept, all of it, and the writer did not fail
pub record Sends (old new : Output) (text : List ℕ) : Type 0 where
  pub takes : TakesFirst old new text new.kept
  pub failures : new.failures ≡ old.failures

-- the writer took a beginning of the text, after what was kept
abbrev pub SendsPart : Output → Output → List ℕ → Type 0
SendsPart old new text = (rest : List ℕ) × TakesFirst old new text rest

-- a call that was to send a text and failed: a writer that failed makes `WriteFailed`, and nothing else does
abbrev pub Fails : Output → Output → List ℕ → SendError → Type 0
Fails old new text NoMemory = SendsPart old new text × (new.failures ≡ old.failures)
Fails old new text WriteFailed = SendsPart old new text × (old.failures < new.failures)

-- a call that sends a text
abbrev pub Emits : {A : Type 0} → Output → Output → List ℕ → Result A SendError → Type 0
Emits old new text (Ok x) = Sends old new text
Emits old new text (Err e) = Fails old new text e
