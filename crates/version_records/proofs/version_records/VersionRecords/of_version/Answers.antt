-- Proofs of `of_version`, src/version_records.rt.
use Rattle.std.proofs.Common.{refl, inl, rules}
use Rattle.version_records.proofs.Changing.{held_is}
use Rattle.version_records.proofs.version_records.VersionRecords.of_version.Goals as goal

pub returns-in-Some : goal.returns-in-Some
returns-in-Some g c = inl (record { found = c.in-Some.last.now; there = search rules; version = c.if-last-version.true; run_record = refl })

pub returns-in_default : goal.returns-in_default
returns-in_default g c = held_is c.args.self.now c.args.program c.args.version c.of_held.result c.of_held.ensures
