-- Proofs of `keep_held`, src/version_records.rt.
use Rattle.std.proofs.Common.{◌≡◌, ◌∙◌, None, Some, refl, sym}
use Rattle.version_records.proofs.Changing.{held_changed}
use Rattle.version_records.proofs.Maps.{inserted_at}
use Rattle.version_records.proofs.version_records.VersionRecords.keep_held.Goals as goal
use Rattle.version_records.proofs.version_records.VersionRecords.keep_held.Goals.{then-is_again, else-is_again}

pub returns : goal.returns
returns g c =
    held_changed _ _ _ _ _ _ (inserted_at c.insert.result _ _ c.args.self.now.held c.insert.new.self c.insert.ensures.updates c.insert.ensures.err) refl refl
    (λ r is. elim c.if-is_again.branch [
      | then-is_again w ↦ sym w.held-is ∙ is
      | else-is_again w ↦ let bad : None ≡ Some r = sym w.held-is ∙ is in cc
    ])
