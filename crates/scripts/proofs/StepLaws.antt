-- Steps on the versions of an open graph.
use Rattle.std.proofs.Common.{◌≡◌, ℕ, Bool, None, Result, Ok, Err, IfOk, IfErr, OnOk, is_some, if◌then◌else◌, refl, ap, sym, ◌∙◌}
use Rattle.std.specs.declared.alloc.AllocError.{AllocError}
use Rattle.version_list.specs.declared.error.VersionError.{VersionError}
use Rattle.version_list.specs.declared.error.VersionError.TheVariants as refusal
use Rattle.version_list.specs.declared.step.Step.{Step}
use Rattle.version_list.specs.declared.step.Step.TheVariants as step
use Rattle.version_list.specs.declared.step.Reply.{Reply}
use Rattle.version_list.specs.declared.step.Reply.TheVariants as reply
use Rattle.version_list.specs.Machine.{changed, reply_to, ticket_version}
use Rattle.version_list.specs.Timeline.{Answers, Timeline}
use Rattle.version_list.proofs.Holding.{is_open_is}
use Rattle.replies.specs.declared.line_reply.LineReply.{LineReply}
use Rattle.replies.specs.declared.line_reply.LineReply.TheVariants as line_reply
use Rattle.replies.specs.declared.send_error.SendError.{SendError}
use Rattle.replies.specs.declared.send_error.SendError.TheVariants.{NoMemory}
use Rattle.replies.specs.ReplyText.{line_text}
use Rattle.replies.specs.Sending.{Output, Emits}
use Rattle.replies.proofs.SendingLaws.{emits_as, part_none}
use Rattle.scripts.specs.Replies.{Answer, OpenState, stepping, step_line}
use Rattle.scripts.specs.inside.Stepping.{IsAnswered}
use Rattle.scripts.proofs.RunReplies.{on_ok_where}

-- a release of a ticket that is not open is refused
pub not_held : (o : OpenState) (number : ℕ) → ticket_version o.versions.open_tickets number ≡ None → IsAnswered o (stepping o (step.Release number) o.pending) (line_reply.Refused 122)
not_held o number none =
    let refused : reply_to o.versions (step.Release number) ≡ reply.Refused 122 =
    ap (λ (b : Bool). if b then reply.Released else reply.Refused 122) (is_open_is o.versions.open_tickets number ∙ ap is_some none) in
    record {
      state = sym (ap (λ (r : Reply). record o { versions = changed o.versions (step.Release number) r }) refused);
      text = sym (ap (step_line (step.Release number)) refused);
    }

-- a step that is refused, or lacks memory, changes nothing
pub unchanged : {A : Type 0} (old new : Timeline) (asked : Step) (told : A → Reply) (e : VersionError) → Answers old asked told (Err e) new → new ≡ old
unchanged old new asked told refusal.NoMemory is = is.1
unchanged old new asked told refusal.VertexRange is = is.unchanged
unchanged old new asked told refusal.BadChunkSize is = is.unchanged
unchanged old new asked told refusal.NotKept is = is.unchanged
unchanged old new asked told refusal.NotHeld is = is.unchanged
unchanged old new asked told refusal.HistoryFull is = is.unchanged

-- the reply to a step is sent, where there was memory for the step: the text of what was asked
pub emits_step : {A : Type 0} (a b : Output) (new : OpenState) (asked answer : Answer OpenState) (told : Result LineReply AllocError) (r : Result A SendError) → asked ≡ answer
    → IfOk told (IsAnswered new answer)
    → IfOk told (λ line. Emits a b (line_text line) r) → IfErr told (λ e. (b ≡ a) × (r ≡ Err NoMemory)) → Emits a b asked.text r
emits_step a b new asked answer (Ok line) r same is sent unsent = emits_as a b (line_text line) asked.text r sent (ap (λ (t : Answer OpenState). t.text) same ∙ sym is.text)
emits_step a b new asked answer (Err e) r same is sent unsent = rw (unsent.0, unsent.1) (part_none a asked.text, refl)

-- and the state is what the step leaves
pub leaves_step : {A : Type 0} (a b : Output) (new : OpenState) (asked answer : Answer OpenState) (told : Result LineReply AllocError) (r : Result A SendError) → asked ≡ answer
    → IfOk told (IsAnswered new answer)
    → IfErr told (λ e. (b ≡ a) × (r ≡ Err NoMemory)) → OnOk r (new ≡ asked.state)
leaves_step a b new asked answer (Ok line) r same is unsent = on_ok_where r (is.state ∙ sym (ap (λ (t : Answer OpenState). t.state) same))
leaves_step a b new asked answer (Err e) r same is unsent = rw unsent.1 tt
