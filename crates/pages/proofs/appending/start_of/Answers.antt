-- Proofs of `start_of`, src/appending.rt.
use Rattle.std.proofs.Common.{arith}
use Rattle.pages.proofs.Copying.{start_at}
use Rattle.pages.proofs.Storing.{no_entry}
use Rattle.pages.proofs.appending.start_of.Goals as goal

pub returns-then-index-entries : goal.returns-then-index-entries
returns-then-index-entries c = start_at 0 c.args.index c.args.bytes.now c.args.entries.now (no_entry) c.requires.listed (omega arith)
