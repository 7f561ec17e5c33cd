-- Proofs of `after_release`, src/version_records.rt.
use Rattle.std.proofs.Common.{◌≡◌, None, Some, inl, inr, refl}
use Rattle.version_records.proofs.Changing.{last_stays}
use Rattle.version_records.proofs.Maps.{changed_at}
use Rattle.version_records.proofs.version_records.VersionRecords.after_release.Goals as goal

pub returns-then-not-is_kept : goal.returns-then-not-is_kept
returns-then-not-is_kept g c = λ p q r has. elim has [
  | inl last ↦ last_stays c.args.self.now _ refl p q r last
  | inr held ↦ elim (changed_at c.args.version None c.args.self.now.held c.swap_remove.new.self c.swap_remove.ensures.updates q held.found held.there) [
    | inl before ↦ inr (record { found = held.found; there = before; of = held.of; run_record = held.run_record })
    | inr here ↦ let bad : None ≡ Some held.found = here.1 in cc
  ]
]
