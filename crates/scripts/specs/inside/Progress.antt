-- Progress of a script: how far it has been read.
use Rattle.std.specs.Prelude.{[], ℕ, None, List, ◌++◌}
use Rattle.algorithm_meaning.specs.ProgramTree.{ProgramTree}
use Rattle.scripts.specs.Commands.{ended_lines, unended_line}
use Rattle.scripts.specs.Replies.{replies_to_lines, state_after_lines}
use Rattle.scripts.specs.Script.{Reading}

-- before the first byte
abbrev pub at_start : Reading
at_start = record { state = None; partial = [] }

-- the reading after more bytes
abbrev pub reading_after : List ProgramTree → Reading → List ℕ → Reading
reading_after programs r bytes = record {
  state = state_after_lines programs r.state (ended_lines (r.partial ++ bytes));
  partial = unended_line (r.partial ++ bytes);
}

-- the replies to the lines that end within the bytes
abbrev pub replies_within : List ProgramTree → Reading → List ℕ → List ℕ
replies_within programs r bytes = replies_to_lines programs r.state (ended_lines (r.partial ++ bytes))
