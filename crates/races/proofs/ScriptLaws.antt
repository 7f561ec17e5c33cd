-- What the lines of a race leave and are answered as those of a script.
use Rattle.std.proofs.Common.{◌≡◌, ℕ, false, List, [], ◌∷◌, ◌++◌, Option, Some, None, refl, sym, ap, subst, codes}
use Rattle.std.specs.Prelude.{option_map, unwrap_or}
use Rattle.algorithm_meaning.specs.ProgramTree.{ProgramTree}
use Rattle.tree_batch.specs.declared.batch.Entry.{Entry}
use Rattle.tree_batch.specs.declared.batch.Entry.TheVariants as entry
use Rattle.version_list.specs.declared.step.Step.TheVariants.{Commit}
use Rattle.version_list.specs.Machine.{State, opened, reply_to}
use Rattle.replies.specs.ReplyText.{word_line}
use Rattle.scripts.specs.declared.commands.Command.{Command}
use Rattle.scripts.specs.declared.commands.Command.TheVariants as command
use Rattle.scripts.specs.Commands.{command_of}
use Rattle.scripts.specs.Replies.{OpenState, by_command, joined, replies_to_lines, state_after_lines, step_line, stepping}
use Rattle.races.specs.RaceScript.{Order, after_change, after_opening, batches_in, order, order_in}
use Rattle.races.specs.ScriptLaw.{MayOpen, commit_replies, state_after_commits}

-- from this state the lines leave these commits, and are answered by them
abbrev IsLeft : List ProgramTree → Option OpenState → List (List ℕ) → State → List (List Entry) → Type 0
IsLeft programs s lines versions batches =
    (option_map (λ o. o.versions) (state_after_lines programs s lines) ≡ Some (state_after_commits versions batches))
    × (replies_to_lines programs s lines ≡ commit_replies versions batches)

-- from each open state the lines leave the batches that are in them
abbrev Leaves : List ProgramTree → List (List ℕ) → Type 0
Leaves programs lines = (o : OpenState) (bs : List (List Entry)) → batches_in o.pending lines ≡ Some bs → IsLeft programs (Some o) lines o.versions bs

none≢some : {A : Type 0} (x : A) → None ≡ Some x → ⊥
none≢some x e = cc

-- what is left after a commit
committed : (programs : List ProgramTree) (lines : List (List ℕ)) → Leaves programs lines → (o : OpenState) (bs : List (List Entry)) (found : Option (List (List Entry)))
    → batches_in [] lines ≡ found → option_map (λ more. o.pending ∷ more) found ≡ Some bs
    → (option_map (λ s. s.versions) (state_after_lines programs (Some (stepping o (Commit o.pending) []).state) lines) ≡ Some (state_after_commits o.versions bs))
    × (step_line (Commit o.pending) (reply_to o.versions (Commit o.pending)) ++ replies_to_lines programs (Some (stepping o (Commit o.pending) []).state) lines ≡ commit_replies o.versions bs)
committed programs lines leaves o bs None found e = absurd (none≢some bs e)
committed programs lines leaves o bs (Some more) found e =
    let is : o.pending ∷ more ≡ bs = ap (λ (b : Option (List (List Entry))). unwrap_or b bs) e in
    let rest = leaves (stepping o (Commit o.pending) []).state more found in
    subst (λ (b : List (List Entry)).
    (option_map (λ s. s.versions) (state_after_lines programs (Some (stepping o (Commit o.pending) []).state) lines) ≡ Some (state_after_commits o.versions b))
    × (step_line (Commit o.pending) (reply_to o.versions (Commit o.pending)) ++ replies_to_lines programs (Some (stepping o (Commit o.pending) []).state) lines ≡ commit_replies o.versions b)) is
    (rest.0, ap (λ (t : List ℕ). step_line (Commit o.pending) (reply_to o.versions (Commit o.pending)) ++ t) rest.1)

-- a line that is a change
changed : (programs : List ProgramTree) (lines : List (List ℕ)) → Leaves programs lines → (c : Option Command) (o : OpenState) (bs : List (List Entry))
    → after_change c o.pending (λ entries. batches_in entries lines) ≡ Some bs
    → (option_map (λ s. s.versions) (state_after_lines programs (by_command programs (Some o) c).state lines) ≡ Some (state_after_commits o.versions bs))
    × ((by_command programs (Some o) c).text ++ replies_to_lines programs (by_command programs (Some o) c).state lines ≡ commit_replies o.versions bs)
changed programs lines leaves None o bs e = absurd (none≢some bs e)
changed programs lines leaves (Some (command.Add source destination weight)) o bs e = leaves (joined o (entry.Add source destination weight)).state bs e
changed programs lines leaves (Some (command.Remove source destination)) o bs e = leaves (joined o (entry.Remove source destination)).state bs e
changed programs lines leaves (Some (command.Grow vertices)) o bs e = leaves (joined o (entry.Grow vertices)).state bs e
changed programs lines leaves (Some command.Commit) o bs e = committed programs lines leaves o bs (batches_in [] lines) refl e
changed programs lines leaves (Some (command.Vertices n b)) o bs e = absurd (none≢some bs e)
changed programs lines leaves (Some (command.Hold version)) o bs e = absurd (none≢some bs e)
changed programs lines leaves (Some (command.Release ticket)) o bs e = absurd (none≢some bs e)
changed programs lines leaves (Some (command.Edges ticket)) o bs e = absurd (none≢some bs e)
changed programs lines leaves (Some (command.Run program turns workers ticket)) o bs e = absurd (none≢some bs e)

all_left : (programs : List ProgramTree) (lines : List (List ℕ)) → Leaves programs lines
all_left programs [] o bs e =
    let is : [] ≡ bs = ap (λ (b : Option (List (List Entry))). unwrap_or b bs) e in
    subst (λ (b : List (List Entry)). IsLeft programs (Some o) [] o.versions b) is (refl, refl)
all_left programs ([] ∷ lines) o bs e = all_left programs lines o bs e
all_left programs ((b ∷ bytes) ∷ lines) o bs e = changed programs lines (λ p more is. all_left programs lines p more is) (command_of (b ∷ bytes)) o bs e

-- from the start the lines leave the commits of an order, and are answered its opening and these
abbrev IsOpened : List ProgramTree → Option OpenState → List ℕ → List (List ℕ) → Order → Type 0
IsOpened programs s text lines o =
    (option_map (λ p. p.versions) (state_after_lines programs s lines) ≡ Some (state_after_commits (opened o.vertices 16777216) o.batches))
    × (text ++ replies_to_lines programs s lines ≡ word_line (codes "open") o.vertices ++ commit_replies (opened o.vertices 16777216) o.batches)

opens : (programs : List ProgramTree) (lines : List (List ℕ)) (n b : ℕ) (bs : List (List Entry)) → batches_in [] lines ≡ Some bs → MayOpen (order n b bs)
    → IsOpened programs (by_command programs None (Some (command.Vertices n b))).state (by_command programs None (Some (command.Vertices n b))).text lines (order n b bs)
opens programs lines n b bs is may =
    let start : OpenState = record { versions = opened n 16777216; pending = []; faulted = false } in
    let rest = all_left programs lines start bs is in
    rw (may.0, may.1) (rest.0, ap (λ (t : List ℕ). word_line (codes "open") n ++ t) rest.1)

opened_by : (programs : List ProgramTree) (lines : List (List ℕ)) (n b : ℕ) (o : Order) (found : Option (List (List Entry))) → batches_in [] lines ≡ found
    → option_map (order n b) found ≡ Some o → MayOpen o
    → IsOpened programs (by_command programs None (Some (command.Vertices n b))).state (by_command programs None (Some (command.Vertices n b))).text lines o
opened_by programs lines n b o None found e may = absurd (none≢some o e)
opened_by programs lines n b o (Some bs) found e may =
    let is : order n b bs ≡ o = ap (λ (p : Option Order). unwrap_or p o) e in
    subst (λ (p : Order). IsOpened programs (by_command programs None (Some (command.Vertices n b))).state (by_command programs None (Some (command.Vertices n b))).text lines p) is
    (opens programs lines n b bs found (subst MayOpen (sym is) may))

first_line : (programs : List ProgramTree) (lines : List (List ℕ)) (c : Option Command) (o : Order) → after_opening c lines ≡ Some o → MayOpen o
    → IsOpened programs (by_command programs None c).state (by_command programs None c).text lines o
first_line programs lines None o e may = absurd (none≢some o e)
first_line programs lines (Some (command.Vertices n b)) o e may = opened_by programs lines n b o (batches_in [] lines) refl e may
first_line programs lines (Some (command.Add source destination weight)) o e may = absurd (none≢some o e)
first_line programs lines (Some (command.Remove source destination)) o e may = absurd (none≢some o e)
first_line programs lines (Some (command.Grow vertices)) o e may = absurd (none≢some o e)
first_line programs lines (Some command.Commit) o e may = absurd (none≢some o e)
first_line programs lines (Some (command.Hold version)) o e may = absurd (none≢some o e)
first_line programs lines (Some (command.Release ticket)) o e may = absurd (none≢some o e)
first_line programs lines (Some (command.Edges ticket)) o e may = absurd (none≢some o e)
first_line programs lines (Some (command.Run program turns workers ticket)) o e may = absurd (none≢some o e)

-- the lines of an order
pub order_left : (programs : List ProgramTree) (lines : List (List ℕ)) (o : Order) → order_in lines ≡ Some o → MayOpen o → IsOpened programs None [] lines o
order_left programs [] o e may = absurd (none≢some o e)
order_left programs ([] ∷ lines) o e may = order_left programs lines o e may
order_left programs ((b ∷ bytes) ∷ lines) o e may = first_line programs lines (command_of (b ∷ bytes)) o e may
