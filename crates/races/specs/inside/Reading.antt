-- Progress of the reading of a race script.
use Rattle.std.specs.Prelude.{◌≡◌, ℕ, List, [], ◌++◌, Option, Some, None, Result, Ok, Err}
use Rattle.std.specs.Borrow.{Bor}
use Rattle.std.specs.Global.{Vec}
use Rattle.std.specs.Option.{option_map}
use Rattle.tree_batch.specs.declared.batch.Entry.{Entry}
use Rattle.scripts.specs.declared.commands.Command.{Command}
use Rattle.scripts.specs.Commands.{lines_of}
use Rattle.races.specs.declared.error.RaceScriptError.{RaceScriptError}
use Rattle.races.specs.declared.error.RaceScriptError.TheVariants.{NoRace, NoMemory}
use Rattle.races.specs.RaceScript.{after_change, after_opening, batches_in, order}

-- the lines of what is left of a text, or none where nothing is left
abbrev pub lines_left : Option (Bor (List ℕ)) → List (List ℕ)
lines_left None = []
lines_left (Some rest) = lines_of rest.now

-- the batches that were committed, and the entries since then
pub record Committed : Type 0 where
  pub batches : List (List Entry)
  pub pending : List Entry

-- all batches, where those after the ones so far are these
abbrev pub after_batches : List (List Entry) → Option (List (List Entry)) → Option (List (List Entry))
after_batches batches more = option_map (λ bs. batches ++ bs) more

-- whatever the lines after it give, the line of this command gives as much more as it did
abbrev pub TakesCommand : Committed → Option Command → Committed → Type 0
TakesCommand old command new = (rest : List Entry → Option (List (List Entry)))
    → after_batches old.batches (after_change command old.pending rest) ≡ after_batches new.batches (rest new.pending)

-- the line of this command was taken, or it is none of a race
abbrev pub Takes : {A : Type 0} → Committed → Option Command → Committed → Result A RaceScriptError → Type 0
Takes old command new (Ok x) = TakesCommand old command new
Takes old command new (Err NoRace) = (rest : List Entry → Option (List (List Entry))) → after_change command old.pending rest ≡ None
Takes old command new (Err NoMemory) = Unit {0}

-- the numbers of a line `vertices`, or none where the command is another
abbrev pub Opens : Option Command → Option (ℕ × ℕ) → Type 0
Opens command None = (lines : List (List ℕ)) → after_opening command lines ≡ None
Opens command (Some numbers) = (lines : List (List ℕ)) → after_opening command lines ≡ option_map (order numbers.0 numbers.1) (batches_in [] lines)

-- these batches were read, or there are none
abbrev pub ReadsBatches : Option (List (List Entry)) → Result (Vec (List Entry)) RaceScriptError → Type 0
ReadsBatches batches (Ok read) = batches ≡ Some read.items
ReadsBatches batches (Err NoRace) = batches ≡ None
ReadsBatches batches (Err NoMemory) = Unit {0}
