-- Proofs of `after_commit`, src/version_records.rt.
use Rattle.std.proofs.Common.{refl, inl, inr}
use Rattle.version_records.proofs.Changing.{last_stays, held_stays}
use Rattle.version_records.proofs.version_records.VersionRecords.after_commit.Goals as goal

pub returns-else-self-edge_count : goal.returns-else-self-edge_count
returns-else-self-edge_count g c = λ p q r has. elim has [
  | inl last ↦ last_stays c.args.self.now _ refl p q r last
  | inr held ↦ held_stays c.args.self.now _ refl p q r held
]
