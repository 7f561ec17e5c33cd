-- Proofs of `keep_last`, src/version_records.rt.
use Rattle.std.proofs.Common.{◌≡◌, ◌∙◌, None, Some, refl, sym, ap}
use Rattle.std.proofs.lemmas.Option.{same_Some}
use Rattle.version_records.specs.declared.version_records.VersionRecord.{VersionRecord}
use Rattle.version_records.proofs.Changing.{last_changed}
use Rattle.version_records.proofs.Maps.{changed_at, inserted_at}
use Rattle.version_records.proofs.version_records.VersionRecords.keep_last.Goals as goal

pub returns-in-None : goal.returns-in-None
returns-in-None g c =
    last_changed _ _ _ _ _ None (changed_at _ None c.args.self.now.last c.swap_remove.new.self c.swap_remove.ensures.updates) refl
    (λ x is. let bad : None ≡ Some x = is in cc)

pub returns-in-Some : goal.returns-in-Some
returns-in-Some g c =
    last_changed _ _ _ _ _ (Some (record { version = c.args.version; run_record = c.in-Some.run_record })) (inserted_at c.insert.result _ _ c.args.self.now.last c.insert.new.self c.insert.ensures.updates c.insert.ensures.err) refl
    (λ x is. (sym (ap (λ (v : VersionRecord g.row.R.Denot). v.version) (same_Some _ x is)), c.in-Some.is ∙ ap (λ (v : VersionRecord g.row.R.Denot). Some v.run_record) (same_Some _ x is)))
