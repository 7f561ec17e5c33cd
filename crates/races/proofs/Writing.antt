-- A text that is written, all of it or a beginning.
use Rattle.std.proofs.Common.{◌≡◌, ◌∙◌, ℕ, List, [], ◌++◌, Result, Ok, Err, refl, sym, ap, subst, append-nil}
use Rattle.std.specs.Prelude.{OnOk}
use Rattle.std.specs.Result.{IsErrAnd}
use Rattle.std.proofs.lemmas.Result.{err_from_is_err_and}
use Rattle.replies.specs.declared.send_error.SendError.{SendError}
use Rattle.replies.specs.declared.send_error.SendError.TheVariants.{NoMemory, WriteFailed}
use Rattle.replies.specs.Sending.{Output, Emits, Fails, Sends, SendsPart}
use Rattle.replies.specs.inside.Sending.{output}
use Rattle.replies.proofs.SendingLaws.{all_written, fails_then, sends_then}
use Rattle.scripts.specs.Script.{Written, taken_by_writer}
use Rattle.races.specs.RaceText.{TakesBeginning, Writes}

-- the writer is the same
pub same_writer : {A : Type 0} (a b : Output) (t : List ℕ) (r : Result A SendError) → Emits a b t r → b.writer ≡ a.writer
same_writer a b t (Ok x) h = h.takes.same
same_writer a b t (Err NoMemory) h = h.0.1.same
same_writer a b t (Err WriteFailed) h = h.0.1.same

part_taken : (a b : Output) (t : List ℕ) → a.kept ≡ [] → SendsPart a b t → TakesBeginning t (taken_by_writer a.bytes_written a.failures) (taken_by_writer b.bytes_written b.failures)
part_taken a b t none part = (part.1.sent, part.0, part.1.bytes_written, part.1.whole ∙ ap (λ (k : List ℕ). k ++ t) none)

-- a text that failed to go
fails_written : (A : Type 0) (a b : Output) (t : List ℕ) (e : SendError) → a.kept ≡ [] → Fails a b t e
    → Writes {A = A} t (taken_by_writer a.bytes_written a.failures) (taken_by_writer b.bytes_written b.failures) (Err e)
fails_written A a b t NoMemory none h = (part_taken a b t none h.0, h.1)
fails_written A a b t WriteFailed none h = (part_taken a b t none h.0, h.1)

pub failed_written : {A : Type 0} (a b : Output) (t : List ℕ) (r : Result A SendError) (e : SendError) → a.kept ≡ [] → IsErrAnd r (λ d. d ≡ e) → Fails a b t e
    → Writes t (taken_by_writer a.bytes_written a.failures) (taken_by_writer b.bytes_written b.failures) r
failed_written {A} a b t r e none is h = let p = err_from_is_err_and r is in rw (p.1, p.2) (fails_written A a b t e none h)

-- a text that was sent, and then what is kept is written
pub sent_written : {A : Type 0} (a b c : Output) (t : List ℕ) (r : Result A SendError) → a.kept ≡ [] → Sends a b t → Emits b c [] r → OnOk r (c.kept ≡ [])
    → Writes t (taken_by_writer a.bytes_written a.failures) (taken_by_writer c.bytes_written c.failures) r
sent_written a b c t (Ok x) none one other empty =
    let both = sends_then a b c t [] one other in (all_written a c t none empty (subst (Sends a c) (append-nil t) both), both.failures)
sent_written {A} a b c t (Err e) none one other empty = fails_written A a c t e none (subst (λ (u : List ℕ). Fails a c u e) (append-nil t) (fails_then a b c t [] e one other))

-- memory ran out before anything was sent
pub none_written : {A : Type 0} (text : List ℕ) (t : Written) (r : Result A SendError) → IsErrAnd r (λ d. d ≡ NoMemory) → Writes text t t r
none_written text t r is = let p = err_from_is_err_and r is in rw (p.1, p.2) (([], text, sym (append-nil t.bytes_written), refl), refl)

-- the writer is at last the one that the text was sent to
pub written_tied : {A W : Type 0} (bytes_written : W → List ℕ) (failures : W → ℕ) (name : ℕ) (kept : List ℕ) (text : List ℕ) (before : Written) (o : Output) (last sent : W) (r : Result A SendError)
    → Writes text before (taken_by_writer o.bytes_written o.failures) r → output name (bytes_written sent) kept (failures sent) ≡ o → last ≡ sent
    → Writes text before (taken_by_writer (bytes_written last) (failures last)) r
written_tied bytes_written failures name kept text before o last sent r writes is same =
    rw same (subst (λ (out : Output). Writes text before (taken_by_writer out.bytes_written out.failures) r) (sym is) writes)
