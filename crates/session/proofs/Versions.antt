-- The versions of a session are stepped, or refuse.
use Rattle.std.proofs.Common.{◌≡◌, ℕ, Bool, None, is_some, Result, Ok, Err, OnErr, if◌then◌else◌, refl, sym, ap, ◌∙◌}
use Rattle.version_list.specs.declared.error.VersionError.{VersionError}
use Rattle.version_list.specs.declared.error.VersionError.TheVariants as versions
use Rattle.version_list.specs.declared.step.Step.{Step}
use Rattle.version_list.specs.declared.step.Step.TheVariants.{Release}
use Rattle.version_list.specs.declared.step.Reply.{Reply}
use Rattle.version_list.specs.declared.step.Reply.TheVariants.{Released, Refused}
use Rattle.version_list.specs.Machine.{State, reply_to, ticket_version}
use Rattle.version_list.specs.Timeline.{Timeline, IsAccepted, Refuses, Answers}
use Rattle.version_list.specs.Prepared.{Prepares}
use Rattle.version_list.proofs.Holding.{is_open_is}
use Rattle.session.specs.declared.error.SessionError.{SessionError}
use Rattle.session.specs.declared.error.SessionError.TheVariants.{VertexRange, BadChunkSize, NotKept, NotHeld, HistoryFull, NoProgram, NoJob, NoMemory}
use Rattle.session.specs.declared.step.SessionReply.{SessionReply}
use Rattle.session.specs.inside.Refusal.{of_versions}
use Rattle.session.specs.Standing.{SessionValue}
use Rattle.session.specs.inside.Attempts.{StepsVersions}

-- the versions refuse a step by this error, or lack memory for it
abbrev DoesNotStep : Timeline → Step → VersionError → Timeline → Type 0
DoesNotStep old st versions.NoMemory new = IsAccepted (reply_to old.state st) × (new ≡ old)
DoesNotStep old st e new = Refuses old st e new

answered : {A : Type 0} (old new : Timeline) (st : Step) (reply : A → Reply) (e : VersionError) → Answers old st reply (Err e) new → DoesNotStep old st e new
answered old new st reply versions.VertexRange is = is
answered old new st reply versions.BadChunkSize is = is
answered old new st reply versions.NotKept is = is
answered old new st reply versions.NotHeld is = is
answered old new st reply versions.HistoryFull is = is
answered old new st reply versions.NoMemory is = is

prepared : {A : Type 0} (old new : Timeline) (st : Step) (n : ℕ) (IsReady : Timeline → A → Type 0) (e : VersionError) → Prepares old st n IsReady (Err e) new → DoesNotStep old st e new
prepared old new st n IsReady versions.VertexRange is = is
prepared old new st n IsReady versions.BadChunkSize is = is
prepared old new st n IsReady versions.NotKept is = is
prepared old new st n IsReady versions.NotHeld is = is
prepared old new st n IsReady versions.HistoryFull is = is
prepared old new st n IsReady versions.NoMemory is = is

-- with its versions the session stays as it was
stays : (s t : SessionValue) (old new : Timeline) → s.versions ≡ old.state → t ≡ record s { versions = new.state } → new ≡ old → t ≡ s
stays s t old new here after same =
    after ∙ ap (λ (v : Timeline). record s { versions = v.state }) same ∙ ap (λ (v : State). record s { versions = v }) (sym here)

refused_by : (s t : SessionValue) (old new : Timeline) (st : Step) (number : ℕ) → s.versions ≡ old.state → t ≡ record s { versions = new.state } → reply_to old.state st ≡ Refused number → new ≡ old
    → (reply_to s.versions st ≡ Refused number) × (t ≡ s)
refused_by s t old new st number here after is same = (ap (λ (v : State). reply_to v st) here ∙ is, stays s t old new here after same)

does_not_step : (s t : SessionValue) (old new : Timeline) (st : Step) (e : VersionError) → s.versions ≡ old.state → t ≡ record s { versions = new.state } → DoesNotStep old st e new
    → StepsVersions s st (Err (of_versions e)) t
does_not_step s t old new st versions.VertexRange here after is = refused_by s t old new st 111 here after is.is_answer is.unchanged
does_not_step s t old new st versions.BadChunkSize here after is = refused_by s t old new st 103 here after is.is_answer is.unchanged
does_not_step s t old new st versions.NotKept here after is = refused_by s t old new st 121 here after is.is_answer is.unchanged
does_not_step s t old new st versions.NotHeld here after is = refused_by s t old new st 122 here after is.is_answer is.unchanged
does_not_step s t old new st versions.HistoryFull here after is = refused_by s t old new st 123 here after is.is_answer is.unchanged
does_not_step s t old new st versions.NoMemory here after is = stays s t old new here after is.1

unchanged : (old new : Timeline) (st : Step) (e : VersionError) → DoesNotStep old st e new → new ≡ old
unchanged old new st versions.VertexRange is = is.unchanged
unchanged old new st versions.BadChunkSize is = is.unchanged
unchanged old new st versions.NotKept is = is.unchanged
unchanged old new st versions.NotHeld is = is.unchanged
unchanged old new st versions.HistoryFull is = is.unchanged
unchanged old new st versions.NoMemory is = is.1

pub unchanged_answered : {A : Type 0} (old new : Timeline) (st : Step) (reply : A → Reply) (e : VersionError) → Answers old st reply (Err e) new → new ≡ old
unchanged_answered old new st reply e is = unchanged old new st e (answered old new st reply e is)

-- a call that answers a step, and one that prepares it, where it ends by an error
pub refuses_answered : {A : Type 0} (s t : SessionValue) (old new : Timeline) (st : Step) (reply : A → Reply) (e : VersionError) → s.versions ≡ old.state → t ≡ record s { versions = new.state }
    → Answers old st reply (Err e) new → StepsVersions s st (Err (of_versions e)) t
refuses_answered s t old new st reply e here after is = does_not_step s t old new st e here after (answered old new st reply e is)

pub refuses_prepared : {A : Type 0} (s t : SessionValue) (old new : Timeline) (st : Step) (n : ℕ) (IsReady : Timeline → A → Type 0) (e : VersionError) → s.versions ≡ old.state
    → t ≡ record s { versions = new.state } → Prepares old st n IsReady (Err e) new → StepsVersions s st (Err (of_versions e)) t
refuses_prepared s t old new st n IsReady e here after is = does_not_step s t old new st e here after (prepared old new st n IsReady e is)

-- a release of a ticket that is not open
pub refuses_release : (s : SessionValue) (number : ℕ) → ticket_version s.versions.open_tickets number ≡ None → StepsVersions s (Release number) (Err NotHeld) s
refuses_release s number none =
    (ap (λ (b : Bool). if b then Released else Refused 122) (is_open_is s.versions.open_tickets number ∙ ap is_some none), refl)

-- an error leaves the session as it was
pub steps_err : (s t : SessionValue) (st : Step) (result : Result SessionReply SessionError) → StepsVersions s st result t → OnErr result (t ≡ s)
steps_err s t st (Ok reply) is = tt
steps_err s t st (Err NoMemory) is = is
steps_err s t st (Err VertexRange) is = is.1
steps_err s t st (Err BadChunkSize) is = is.1
steps_err s t st (Err NotKept) is = is.1
steps_err s t st (Err NotHeld) is = is.1
steps_err s t st (Err HistoryFull) is = is.1
steps_err s t st (Err NoProgram) is = is.1
steps_err s t st (Err NoJob) is = is.1
