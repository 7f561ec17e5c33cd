-- The text of a race.
use Rattle.std.specs.Prelude.{◌≡◌, ℕ, ◌<◌, suc, List, [], ◌∷◌, ◌++◌, Result, Ok, Err, codes, decimal}
use Rattle.std.specs.List.{flat_map}
use Rattle.scripts.specs.Script.{Written}
use Rattle.replies.specs.ReplyText.{word_line, outcome_text}
use Rattle.replies.specs.declared.send_error.SendError.{SendError}
use Rattle.replies.specs.declared.send_error.SendError.TheVariants.{NoMemory, WriteFailed}
use Rattle.races.specs.declared.outcomes.CommitReply.{CommitReply}
use Rattle.races.specs.declared.outcomes.CommitReply.TheVariants.{Version, Refused}
use Rattle.races.specs.declared.outcomes.VersionRun.{VersionRun}
use Rattle.races.specs.declared.outcomes.ProgramRuns.{ProgramRuns}
use Rattle.races.specs.declared.outcomes.Race.{Race}

-- the line of what a commit is answered
abbrev pub reply_line : CommitReply → List ℕ
reply_line (Version version) = word_line (codes "version") version
reply_line (Refused number) = word_line (codes "refused") number

-- the replies of the commits
abbrev pub replies_text : List CommitReply → List ℕ
replies_text replies = flat_map reply_line replies

-- when the program of this number ran, and on which version
abbrev pub run_line : List ℕ → ℕ → ℕ → List ℕ
run_line when program version = when ++ (32 ∷ (decimal program ++ 32 ∷ word_line (codes "version") version))

-- such a line, and what the run shows
abbrev pub run_text : List ℕ → ℕ → VersionRun → List ℕ
run_text when program run = run_line when program run.version ++ outcome_text run.outcome

-- the texts of items that are numbered from n
abbrev pub numbered : {A : Type 0} → (ℕ → A → List ℕ) → ℕ → List A → List ℕ
numbered f n [] = []
numbered f n (x ∷ xs) = f n x ++ numbered f (suc n) xs

-- the early run of the program of this number
abbrev pub early_run : ℕ → ProgramRuns → List ℕ
early_run program runs = run_text (codes "early") program runs.early

-- the late run of the program of this number
abbrev pub late_run : ℕ → ProgramRuns → List ℕ
late_run program runs = run_text (codes "late") program runs.late

-- the early runs of the programs, in order
abbrev pub early_text : List ProgramRuns → List ℕ
early_text all = numbered early_run 1 all

-- the late runs of the programs, in order
abbrev pub late_text : List ProgramRuns → List ℕ
late_text all = numbered late_run 1 all

-- the reply of the opening, those of the commits, and the early and the late runs, each in order
abbrev pub race_text : Race → List ℕ
race_text race =
    word_line (codes "open") race.vertices ++ (replies_text race.replies.items ++ (early_text race.runs.items ++ late_text race.runs.items))

-- of the text a beginning was taken
abbrev pub TakesBeginning : List ℕ → Written → Written → Type 0
TakesBeginning text before after = (written : List ℕ) × (rest : List ℕ) × (after.bytes_written ≡ before.bytes_written ++ written) × (written ++ rest ≡ text)

-- all of the text was taken, or a beginning; the writer failed in this call if that is reported, and else it did not
abbrev pub Writes : {A : Type 0} → List ℕ → Written → Written → Result A SendError → Type 0
Writes text before after (Ok x) = (after.bytes_written ≡ before.bytes_written ++ text) × (after.failures ≡ before.failures)
Writes text before after (Err NoMemory) = TakesBeginning text before after × (after.failures ≡ before.failures)
Writes text before after (Err WriteFailed) = TakesBeginning text before after × (before.failures < after.failures)
