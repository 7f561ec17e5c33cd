-- Beside `Sending`: definitions that no public contract cites.
use Rattle.std.specs.Prelude.{ℕ, List}
use Rattle.replies.specs.Sending.{Output}

-- an output of its parts
abbrev pub output : ℕ → List ℕ → List ℕ → ℕ → Output
output writer bytes_written kept failures = record { writer = writer; bytes_written = bytes_written; kept = kept; failures = failures }
