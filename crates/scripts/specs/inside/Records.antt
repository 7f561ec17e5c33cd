-- The records of runs of a script.
use Rattle.std.specs.Prelude.{ℕ, Option, Some, None}
use Rattle.tree_batch.specs.Digraph.{Digraph}
use Rattle.version_records.specs.declared.version_records.VersionRecords.{VersionRecords}
use Rattle.version_records.specs.VersionRecords.{AreRecordsOf, HaveNone}
use Rattle.scripts.specs.Replies.{OpenState}

-- each record is that of its program on its version, and there is none as long as no graph is open
abbrev pub AreRecordsIn : {R : Type 0} → ((index : ℕ) → R → Digraph → Type 0) → Option OpenState → VersionRecords R → Type 0
AreRecordsIn is_record None records = HaveNone records
AreRecordsIn is_record (Some o) records = AreRecordsOf is_record o.versions records
