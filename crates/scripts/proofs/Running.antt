-- A script from its first byte to its last.
use Rattle.std.proofs.Common.{◌≡◌, ℕ, ◌<◌, Bool, true, Option, List, [], ◌++◌, Result, Ok, Err, refl, sym, ap, ◌∙◌, subst, arith, append_assoc, append-nil}
use Rattle.std.specs.Result.{IsErrAnd}
use Rattle.std.proofs.lemmas.Result.{err_from_is_err_and}
use Rattle.algorithm_meaning.specs.ProgramTree.{ProgramTree}
use Rattle.scripts.specs.declared.error.ScriptError.{ScriptError}
use Rattle.scripts.specs.declared.error.ScriptError.TheVariants.{ReadFailed}
use Rattle.scripts.specs.Refusal.{error_of_send}
use Rattle.replies.specs.declared.send_error.SendError.{SendError}
use Rattle.replies.specs.declared.send_error.SendError.TheVariants.{NoMemory, WriteFailed}
use Rattle.scripts.specs.Commands.{HasNone}
use Rattle.scripts.specs.Replies.{OpenState, answer, replies, replies_to_ended, has_faulted}
use Rattle.scripts.specs.Script.{Input, Written, taken_by_writer, IsBeginning, NoneFails, RepliesInPart, RepliesToEnded, RunsScript, Reading}
use Rattle.replies.specs.Sending.{Output, Sends, SendsPart, Fails}
use Rattle.replies.specs.inside.Sending.{output}
use Rattle.scripts.specs.inside.Progress.{at_start, reading_after, replies_within}
use Rattle.scripts.proofs.PieceLaws.{HasNone-unended}
use Rattle.scripts.proofs.ReadingLaws.{reading_then, replies_then, replies-last, faults-last}
use Rattle.replies.proofs.SendingLaws.{sends_none, sends_then, fails_then, all_written}

-- the lines that have ended among the bytes so far are answered, and nothing is kept of the replies
pub record IsReading (programs : List ProgramTree) (old now : Input) (a : Output) (reading : Reading) (b : Output) : Type 0 where
  pub bytes : List ℕ
  pub bytes_read : now.bytes_read ≡ old.bytes_read ++ bytes
  pub failures : now.failures ≡ old.failures
  pub reading_is : reading ≡ reading_after programs at_start bytes
  pub sends : Sends a b (replies_to_ended programs bytes)
  pub nothing_kept : b.kept ≡ []

-- nothing is read, and nothing answered
pub reading_starts : (programs : List ProgramTree) (old : Input) (a : Output) → a.kept ≡ [] → IsReading programs old old a at_start a
reading_starts programs old a empty = record {
  bytes = [];
  bytes_read = sym (append-nil old.bytes_read);
  failures = refl;
  reading_is = refl;
  sends = sends_none a;
  nothing_kept = empty;
}

-- the replies to the bytes, however they go on, begin with this text
abbrev pub BeginsAll : List ProgramTree → Input → List ℕ → List ℕ → Type 0
BeginsAll programs new bytes text = (more : List ℕ) → (new.ended ≡ true → more ≡ []) → IsBeginning text (replies programs (bytes ++ more))

-- as the replies to the lines that have ended do
begins_lines : (programs : List ProgramTree) (new : Input) (bytes : List ℕ) → BeginsAll programs new bytes (replies_to_ended programs bytes)
begins_lines programs new bytes more nothing =
    let r = reading_after programs at_start bytes in
    let s = reading_after programs at_start (bytes ++ more) in
    let last = (answer programs s.state s.partial).text in (
      replies_within programs r more ++ last,
      sym (append_assoc (replies_to_ended programs bytes) (replies_within programs r more) last) ∙ ap (λ text. text ++ last) (sym (replies_then programs at_start bytes more))
          ∙ sym (replies-last programs (bytes ++ more)),
    )

-- and where they do not go on, the replies to them
begins_whole : (programs : List ProgramTree) (new : Input) (bytes : List ℕ) → new.ended ≡ true → BeginsAll programs new bytes (replies programs bytes)
begins_whole programs new bytes ended more nothing =
    ([], append-nil (replies programs bytes) ∙ ap (replies programs) (sym (ap (λ xs. bytes ++ xs) (nothing ended) ∙ append-nil bytes)))

-- of such a text a part was taken
part_begins : (programs : List ProgramTree) (old new : Input) (a c : Output) (bytes text : List ℕ) → a.kept ≡ [] → new.bytes_read ≡ old.bytes_read ++ bytes → BeginsAll programs new bytes text
    → SendsPart a c text
    → RepliesInPart programs old new (taken_by_writer a.bytes_written a.failures) (taken_by_writer c.bytes_written c.failures)
part_begins programs old new a c bytes text empty bytes_read all part = record {
  bytes = bytes;
  bytes_read = bytes_read;
  written = part.1.sent;
  bytes_written = part.1.bytes_written;
  beginning = λ more nothing. (
    part.0 ++ (all more nothing).0,
    sym (append_assoc part.1.sent part.0 (all more nothing).0) ∙ ap (λ xs. xs ++ (all more nothing).0) (part.1.whole ∙ ap (λ xs. xs ++ text) empty) ∙ (all more nothing).1,
  );
}

-- a call that fails to send it, which the script ends with
ends_in_part : (programs : List ProgramTree) (old new : Input) (a c : Output) (bytes text : List ℕ) (e : SendError) → a.kept ≡ [] → new.bytes_read ≡ old.bytes_read ++ bytes
    → new.failures ≡ old.failures → BeginsAll programs new bytes text → Fails a c text e
    → RunsScript programs old new (taken_by_writer a.bytes_written a.failures) (taken_by_writer c.bytes_written c.failures) (Err (error_of_send e))
ends_in_part programs old new a c bytes text NoMemory empty bytes_read same all h = (part_begins programs old new a c bytes text empty bytes_read all h.0, (same, h.1))
ends_in_part programs old new a c bytes text WriteFailed empty bytes_read same all h = (part_begins programs old new a c bytes text empty bytes_read all h.0, same, h.1)

module _ (programs : List ProgramTree) (old now : Input) (a : Output) (reading : Reading) (b : Output) (r : IsReading programs old now a reading b) where
  -- no line feed stands in the line that has not ended
  pub reading_unended : HasNone 10 reading.partial
  reading_unended = subst (λ s. HasNone 10 s.partial) (sym r.reading_is) (HasNone-unended r.bytes)

  -- a reader that fails
  pub read_fails : (new : Input) → a.kept ≡ [] → new.bytes_read ≡ now.bytes_read → now.failures < new.failures
      → RunsScript programs old new (taken_by_writer a.bytes_written a.failures) (taken_by_writer b.bytes_written b.failures) (Err ReadFailed)
  read_fails new empty bytes_read fails = (exactly, omega (arith, fails, r.failures), r.sends.failures)
    where
      exactly : RepliesToEnded programs old new (taken_by_writer a.bytes_written a.failures) (taken_by_writer b.bytes_written b.failures)
      exactly = record {
        bytes = r.bytes;
        bytes_read = bytes_read ∙ r.bytes_read;
        bytes_written = all_written a b (replies_to_ended programs r.bytes) empty r.nothing_kept r.sends;
        rest = (answer programs (reading_after programs at_start r.bytes).state (reading_after programs at_start r.bytes).partial).text;
        beginning = sym (replies-last programs r.bytes);
      }

  module _ (new : Input) (more : List ℕ) (bytes_read : new.bytes_read ≡ now.bytes_read ++ more) (same : new.failures ≡ now.failures) (c : Output) where
    -- the bytes so far, with those that came
    read_now : new.bytes_read ≡ old.bytes_read ++ (r.bytes ++ more)
    read_now = bytes_read ∙ ap (λ xs. xs ++ more) r.bytes_read ∙ append_assoc old.bytes_read r.bytes more

    -- the replies to the lines that have ended, with those that end within more bytes
    ended_now : replies_to_ended programs (r.bytes ++ more) ≡ replies_to_ended programs r.bytes ++ replies_within programs reading more
    ended_now =
        replies_then programs at_start r.bytes more
        ∙ ap (λ s. replies_to_ended programs r.bytes ++ replies_within programs s more) (sym r.reading_is)

    -- the lines that end within more bytes are answered
    lines_sent : Sends b c (replies_within programs reading more) → Sends a c (replies_to_ended programs (r.bytes ++ more))
    lines_sent sends = subst (Sends a c) (sym ended_now) (sends_then a b c (replies_to_ended programs r.bytes) (replies_within programs reading more) r.sends sends)

    -- or the answer to one fails
    pub lines_fail : (e : SendError) → a.kept ≡ [] → Fails b c (replies_within programs reading more) e
        → RunsScript programs old new (taken_by_writer a.bytes_written a.failures) (taken_by_writer c.bytes_written c.failures) (Err (error_of_send e))
    lines_fail e empty fails =
        let both = fails_then a b c (replies_to_ended programs r.bytes) (replies_within programs reading more) e r.sends fails in
        let all = begins_lines programs new (r.bytes ++ more) in
        ends_in_part programs old new a c (r.bytes ++ more) (replies_to_ended programs (r.bytes ++ more)) e empty read_now (same ∙ r.failures) all
        (subst (λ text. Fails a c text e) (sym ended_now) both)

    -- what was kept is written, and the reading goes on
    pub reading_goes_on : Sends b c (replies_within programs reading more) → (later : Reading) → later ≡ reading_after programs reading more → (d : Output) → Sends c d [] → d.kept ≡ []
        → IsReading programs old new a later d
    reading_goes_on sends later is d flushed empty = record {
      bytes = r.bytes ++ more;
      bytes_read = read_now;
      failures = same ∙ r.failures;
      reading_is = is ∙ ap (λ s. reading_after programs s more) r.reading_is ∙ sym (reading_then programs at_start r.bytes more);
      sends = subst (Sends a d) (append-nil (replies_to_ended programs (r.bytes ++ more))) (sends_then a c d (replies_to_ended programs (r.bytes ++ more)) [] (lines_sent sends) flushed);
      nothing_kept = empty;
    }

    -- or that fails
    pub flush_fails : Sends b c (replies_within programs reading more) → (d : Output) (e : SendError) → a.kept ≡ [] → Fails c d [] e
        → RunsScript programs old new (taken_by_writer a.bytes_written a.failures) (taken_by_writer d.bytes_written d.failures) (Err (error_of_send e))
    flush_fails sends d e empty fails =
        let both = fails_then a c d (replies_to_ended programs (r.bytes ++ more)) [] e (lines_sent sends) fails in
        let all = begins_lines programs new (r.bytes ++ more) in
        ends_in_part programs old new a d (r.bytes ++ more) (replies_to_ended programs (r.bytes ++ more)) e empty read_now (same ∙ r.failures) all
        (subst (λ text. Fails a d text e) (append-nil (replies_to_ended programs (r.bytes ++ more))) both)

  module _ (new : Input) (bytes_read : new.bytes_read ≡ now.bytes_read) (ended : new.ended ≡ true) (same : new.failures ≡ now.failures) (c : Output) where
    -- no more bytes came
    read_all : new.bytes_read ≡ old.bytes_read ++ r.bytes
    read_all = bytes_read ∙ r.bytes_read

    -- the reply to the last line
    abbrev last : List ℕ
    last = (answer programs reading.state reading.partial).text

    -- all replies are those so far, and the last
    all_replies : replies programs r.bytes ≡ replies_to_ended programs r.bytes ++ last
    all_replies = replies-last programs r.bytes ∙ ap (λ s. replies_to_ended programs r.bytes ++ (answer programs s.state s.partial).text) (sym r.reading_is)

    -- the last line is answered
    all_sent : Sends b c last → Sends a c (replies programs r.bytes)
    all_sent sends = subst (Sends a c) (sym all_replies) (sends_then a b c (replies_to_ended programs r.bytes) last r.sends sends)

    -- or its answer fails
    pub finish_fails : (e : SendError) → a.kept ≡ [] → Fails b c last e → RunsScript programs old new (taken_by_writer a.bytes_written a.failures) (taken_by_writer c.bytes_written c.failures)
        (Err (error_of_send e))
    finish_fails e empty fails =
        let both = fails_then a b c (replies_to_ended programs r.bytes) last e r.sends fails in
        ends_in_part programs old new a c r.bytes (replies programs r.bytes) e empty read_all (same ∙ r.failures) (begins_whole programs new r.bytes ended)
        (subst (λ text. Fails a c text e) (sym all_replies) both)

    -- and then the last flush fails
    pub last_flush_fails : Sends b c last → (d : Output) (e : SendError) → a.kept ≡ [] → Fails c d [] e
        → RunsScript programs old new (taken_by_writer a.bytes_written a.failures) (taken_by_writer d.bytes_written d.failures) (Err (error_of_send e))
    last_flush_fails sends d e empty fails =
        let both = fails_then a c d (replies programs r.bytes) [] e (all_sent sends) fails in
        ends_in_part programs old new a d r.bytes (replies programs r.bytes) e empty read_all (same ∙ r.failures) (begins_whole programs new r.bytes ended)
        (subst (λ text. Fails a d text e) (append-nil (replies programs r.bytes)) both)

    -- or all is written
    pub script_ends : Sends b c last → (d : Output) → a.kept ≡ [] → d.kept ≡ [] → Sends c d []
        → (state : Option OpenState) → state ≡ (answer programs reading.state reading.partial).state → (faulted : Bool) → faulted ≡ has_faulted state
        → RunsScript programs old new (taken_by_writer a.bytes_written a.failures) (taken_by_writer d.bytes_written d.failures) (Ok faulted)
    script_ends sends d empty flushed last_flush state is faulted fault = record {
      bytes = r.bytes;
      bytes_read = read_all;
      ended = ended;
      bytes_written = all_written a d (replies programs r.bytes) empty flushed (subst (Sends a d) (append-nil (replies programs r.bytes))
          (sends_then a c d (replies programs r.bytes) [] (all_sent sends) last_flush));
      fault = fault ∙ ap has_faulted is ∙ ap (λ s. has_faulted (answer programs s.state s.partial).state) r.reading_is ∙ sym (faults-last programs r.bytes);
      quiet = (same ∙ r.failures, (sends_then a c d (replies programs r.bytes) [] (all_sent sends) last_flush).failures);
    }

-- a script that ends by an error
pub runs_failed : (programs : List ProgramTree) (old new : Input) (before after : Written) (r : Result Bool ScriptError) (e : ScriptError)
    → IsErrAnd r (λ d. d ≡ e) → RunsScript programs old new before after (Err e) → RunsScript programs old new before after r
runs_failed programs old new before after r e is runs = let p = err_from_is_err_and r is in rw (p.1, p.2) runs

-- a script whose writer is at last the one that the replies were sent to
pub runs_tied : {W : Type 0} (bytes_written : W → List ℕ) (failures : W → ℕ) (name : ℕ) (kept : List ℕ) (programs : List ProgramTree) (old new : Input) (before : Written) (o : Output) (last sent : W)
    (r : Result Bool ScriptError)
    → RunsScript programs old new before (taken_by_writer o.bytes_written o.failures) r → output name (bytes_written sent) kept (failures sent) ≡ o → last ≡ sent
    → RunsScript programs old new before (taken_by_writer (bytes_written last) (failures last)) r
runs_tied bytes_written failures name kept programs old new before o last sent r runs is same =
    rw (same) (subst (λ (out : Output). RunsScript programs old new before (taken_by_writer out.bytes_written out.failures) r) (sym is) runs)

-- a script that ends before it reads
pub nothing_done : (programs : List ProgramTree) (i : Input) (t : Written) → RepliesInPart programs i i t t × NoneFails i i t t
nothing_done programs i t = (
  record {
    bytes = [];
    bytes_read = sym (append-nil i.bytes_read);
    written = [];
    bytes_written = sym (append-nil t.bytes_written);
    beginning =
        λ more nothing. (replies programs more, refl);
  },
  (refl, refl),
)
