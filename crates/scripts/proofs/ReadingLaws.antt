-- The lines of a script that comes in pieces.
use Rattle.std.proofs.Common.{◌≡◌, ℕ, ◌<◌, length, Option, None, List, [], ◌∷◌, ◌++◌, refl, sym, ap, ◌∙◌, subst, arith, append_assoc, append-nil}
use Rattle.algorithm_meaning.specs.ProgramTree.{ProgramTree}
use Rattle.replies.specs.declared.send_error.SendError.{SendError}
use Rattle.scripts.specs.declared.commands.Command.{Command}
use Rattle.scripts.specs.declared.commands.Command.TheVariants as command
use Rattle.scripts.specs.Commands.{command_of, HasNone, ended_lines, unended_line}
use Rattle.scripts.specs.Replies.{OpenState, answer, by_command, replies, replies_to_lines, replies_to_ended, state_after_lines, faults, has_faulted, refused, unopened}
use Rattle.replies.specs.declared.send_error.SendError.TheVariants.{NoMemory}
use Rattle.replies.specs.Sending.{Output, Sends, Fails}
use Rattle.scripts.specs.Script.{Reading}
use Rattle.scripts.specs.inside.Progress.{at_start, reading_after, replies_within}
use Rattle.scripts.proofs.PieceLaws.{HasNone-append, lines_of-ended, ended_lines-append, unended_line-append, ended_lines-first, unended_line-first, ended_lines-none, unended_line-none}
use Rattle.replies.proofs.SendingLaws.{sends_none, sends_then, lacks_memory, fails_then, fails_more}

-- a line that is not empty is answered by its command
pub answer_command : (programs : List ProgramTree) (s : Option OpenState) (line : List ℕ) → 0 < length line → answer programs s line ≡ by_command programs s (command_of line)
answer_command programs s [] some = absurd (omega arith)
answer_command programs s (b ∷ bytes) some = refl

-- a list with no element
pub empty_when_none : {A : Type 0} (xs : List A) → length xs ≡ 0 → xs ≡ []
empty_when_none [] h = refl
empty_when_none (x ∷ xs) h = absurd (omega arith)

-- lines, and then others
replies_to_lines-append : (programs : List ProgramTree) (s : Option OpenState) (lines more : List (List ℕ))
    → replies_to_lines programs s (lines ++ more) ≡ replies_to_lines programs s lines ++ replies_to_lines programs (state_after_lines programs s lines) more
replies_to_lines-append programs s [] more = refl
replies_to_lines-append programs s (line ∷ lines) more =
    let a = answer programs s line in
    ap (λ text. a.text ++ text) (replies_to_lines-append programs a.state lines more)
    ∙ sym (append_assoc a.text (replies_to_lines programs a.state lines) (replies_to_lines programs (state_after_lines programs a.state lines) more))

state_after_lines-append : (programs : List ProgramTree) (s : Option OpenState) (lines more : List (List ℕ))
    → state_after_lines programs s (lines ++ more) ≡ state_after_lines programs (state_after_lines programs s lines) more
state_after_lines-append programs s [] more = refl
state_after_lines-append programs s (line ∷ lines) more = state_after_lines-append programs (answer programs s line).state lines more

-- a reading by its parts
reading_is : (r s : Reading) → r.state ≡ s.state → r.partial ≡ s.partial → r ≡ s
reading_is r s state partial = λ i. record { state = state i; partial = partial i }

-- what comes after bytes is read from where they ended
pub reading_then : (programs : List ProgramTree) (r : Reading) (bytes more : List ℕ) → reading_after programs r (bytes ++ more) ≡ reading_after programs (reading_after programs r bytes) more
reading_then programs r bytes more =
    let text = r.partial ++ bytes in
    let assoc : r.partial ++ (bytes ++ more) ≡ text ++ more = sym (append_assoc r.partial bytes more) in
    reading_is (reading_after programs r (bytes ++ more)) (reading_after programs (reading_after programs r bytes) more)
    (ap (state_after_lines programs r.state) (ap ended_lines assoc ∙ ended_lines-append text more)
    ∙ state_after_lines-append programs r.state (ended_lines text) (ended_lines (unended_line text ++ more)))
    (ap unended_line assoc ∙ unended_line-append text more)

pub replies_then : (programs : List ProgramTree) (r : Reading) (bytes more : List ℕ)
    → replies_within programs r (bytes ++ more) ≡ replies_within programs r bytes ++ replies_within programs (reading_after programs r bytes) more
replies_then programs r bytes more =
    let text = r.partial ++ bytes in
    let assoc : r.partial ++ (bytes ++ more) ≡ text ++ more = sym (append_assoc r.partial bytes more) in
    ap (replies_to_lines programs r.state) (ap ended_lines assoc ∙ ended_lines-append text more)
    ∙ replies_to_lines-append programs r.state (ended_lines text) (ended_lines (unended_line text ++ more))

-- the replies to all lines are those to the lines that have ended, and the reply to the last
pub replies-last : (programs : List ProgramTree) (bytes : List ℕ)
    → replies programs bytes ≡ replies_to_ended programs bytes ++ (answer programs (reading_after programs at_start bytes).state (reading_after programs at_start bytes).partial).text
replies-last programs bytes =
    let r = reading_after programs at_start bytes in
    ap (replies_to_lines programs None) (lines_of-ended bytes) ∙ replies_to_lines-append programs None (ended_lines bytes) (r.partial ∷ [])
    ∙ ap (λ text. replies_to_ended programs bytes ++ text) (append-nil (answer programs r.state r.partial).text)

pub faults-last : (programs : List ProgramTree) (bytes : List ℕ)
    → faults programs bytes ≡ has_faulted (answer programs (reading_after programs at_start bytes).state (reading_after programs at_start bytes).partial).state
faults-last programs bytes =
    ap (λ lines. has_faulted (state_after_lines programs None lines)) (lines_of-ended bytes)
    ∙ ap has_faulted (state_after_lines-append programs None (ended_lines bytes) (unended_line bytes ∷ []))

-- of the bytes, the lines that end before the rest are answered
pub record IsTaking (programs : List ProgramTree) (old : Reading) (bytes : List ℕ) (a : Output) (now : Reading) (rest : List ℕ) (b : Output) : Type 0 where
  pub text : List ℕ
  pub sends : Sends a b text
  pub unended : HasNone 10 now.partial
  pub replies : replies_within programs old bytes ≡ text ++ replies_within programs now rest
  pub reading : reading_after programs old bytes ≡ reading_after programs now rest

pub taking_starts : (programs : List ProgramTree) (old : Reading) (bytes : List ℕ) (a : Output) → HasNone 10 old.partial → IsTaking programs old bytes a old bytes a
taking_starts programs old bytes a none = record { text = []; sends = sends_none a; unended = none; replies = refl; reading = refl }

module _ (programs : List ProgramTree) (old : Reading) (bytes : List ℕ) (a : Output) (now : Reading) (rest : List ℕ) (b : Output) (t : IsTaking programs old bytes a now rest b) where
  -- the bytes end within a line
  pub taking_ends : HasNone 10 rest → Sends a b (replies_within programs old bytes)
  taking_ends none =
      let last : replies_within programs now rest ≡ [] =
      ap (replies_to_lines programs now.state) (ended_lines-none (now.partial ++ rest) (HasNone-append 10 now.partial rest t.unended none)) in
      subst (Sends a b) (sym (t.replies ∙ ap (λ text. t.text ++ text) last ∙ append-nil t.text)) t.sends

  pub reading_ends : HasNone 10 rest → reading_after programs old bytes ≡ record { state = now.state; partial = now.partial ++ rest }
  reading_ends none =
      let whole : HasNone 10 (now.partial ++ rest) = HasNone-append 10 now.partial rest t.unended none in
      t.reading
      ∙ reading_is (reading_after programs now rest) (record { state = now.state; partial = now.partial ++ rest })
      (ap (state_after_lines programs now.state) (ended_lines-none (now.partial ++ rest) whole))
      (unended_line-none (now.partial ++ rest) whole)

  -- out of memory on the way
  pub taking_lacks : (c : Output) → c.writer ≡ b.writer → c.bytes_written ≡ b.bytes_written → c.failures ≡ b.failures → Fails a c (replies_within programs old bytes) NoMemory
  taking_lacks c who same failures =
      subst (λ text. Fails a c text NoMemory) (sym t.replies) (lacks_memory a b c t.text (replies_within programs now rest) t.sends who same failures)

  module _ (line after : List ℕ) (cut : rest ≡ line ++ 10 ∷ after) (none : HasNone 10 line) (c : Output) where
    abbrev answered : Reading
    answered = record { state = (answer programs now.state (now.partial ++ line)).state; partial = [] }

    abbrev reply : List ℕ
    reply = (answer programs now.state (now.partial ++ line)).text

    whole : HasNone 10 (now.partial ++ line)
    whole = HasNone-append 10 now.partial line t.unended none

    assoc : now.partial ++ rest ≡ (now.partial ++ line) ++ 10 ∷ after
    assoc = ap (λ xs. now.partial ++ xs) cut ∙ sym (append_assoc now.partial line (10 ∷ after))

    -- the replies to the rest are that to the line, and those to what comes after it
    line_first : replies_within programs now rest ≡ reply ++ replies_within programs answered after
    line_first = ap (replies_to_lines programs now.state) (ap ended_lines assoc ∙ ended_lines-first (now.partial ++ line) after whole)

    line_read : reading_after programs now rest ≡ reading_after programs answered after
    line_read =
        reading_is (reading_after programs now rest) (reading_after programs answered after)
        (ap (state_after_lines programs now.state) (ap ended_lines assoc ∙ ended_lines-first (now.partial ++ line) after whole))
        (ap unended_line assoc ∙ unended_line-first (now.partial ++ line) after whole)

    -- a line is answered
    pub taking_line : Sends b c reply → IsTaking programs old bytes a answered after c
    taking_line sends = record {
      text = t.text ++ reply;
      sends = sends_then a b c t.text reply t.sends sends;
      unended = tt;
      replies = t.replies ∙ ap (λ xs. t.text ++ xs) line_first ∙ sym (append_assoc t.text reply (replies_within programs answered after));
      reading = t.reading ∙ line_read;
    }

    -- the answer to a line fails
    pub taking_fails : (e : SendError) → Fails b c reply e → Fails a c (replies_within programs old bytes) e
    taking_fails e fails =
        let whole : (t.text ++ reply) ++ replies_within programs answered after ≡ replies_within programs old bytes =
        append_assoc t.text reply (replies_within programs answered after) ∙ ap (λ xs. t.text ++ xs) (sym line_first) ∙ sym t.replies in
        subst (λ u. Fails a c u e) whole (fails_more a c (t.text ++ reply) (replies_within programs answered after) e (fails_then a b c t.text reply e t.sends fails))

-- only `vertices` opens a graph
pub nothing_opened : (c : Command) → ((n b : ℕ) → c ≡ command.Vertices n b → ⊥) → unopened c ≡ refused None 801
nothing_opened (command.Vertices n b) not = absurd (not n b refl)
nothing_opened (command.Add source destination weight) not = refl
nothing_opened (command.Remove source destination) not = refl
nothing_opened (command.Grow vertices) not = refl
nothing_opened command.Commit not = refl
nothing_opened (command.Hold version) not = refl
nothing_opened (command.Release ticket) not = refl
nothing_opened (command.Edges ticket) not = refl
nothing_opened (command.Run program turns workers ticket) not = refl
