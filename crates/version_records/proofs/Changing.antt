-- Records after one was put or taken away.
use Rattle.std.proofs.Common.{◌≡◌, ◌⊎◌, ◌∙◌, ℕ, nat_eq, Bor, Option, Some, None, IfSome, sym, ap, inl, inr}
use Rattle.std.proofs.lemmas.Option.{same_Some}
use Rattle.std.specs.HashMap.{get}
use Rattle.version_records.specs.declared.version_records.VersionRecord.{VersionRecord}
use Rattle.version_records.specs.declared.version_records.HeldRun.{HeldRun}
use Rattle.version_records.specs.declared.version_records.VersionRecords.{VersionRecords}
use Rattle.version_records.specs.VersionRecords.{HasRecord, IsLast, IsOfHeld, MayKeep}

-- the record of a run on a version that a ticket holds is one that is kept
pub held_is : {R : Type 0} (records : VersionRecords R) (program k : ℕ) (o : Option (Bor R)) → IfSome o (λ r. IsOfHeld records program k r.now)
    → IfSome o (λ r. HasRecord records program k r.now)
held_is records program k None is = tt
held_is records program k (Some r) is = inr is

module _ {R : Type 0} (old new : VersionRecords R) where
  -- where the versions' records are the same
  pub held_stays : new.held ≡ old.held → (p q : ℕ) (r : R) → IsOfHeld new p q r → HasRecord old p q r
  held_stays same p q r is =
      inr (record { found = is.found; there = ap (λ m. get nat_eq m q) (sym same) ∙ is.there; of = is.of; run_record = is.run_record })

  -- where the programs' records are the same
  pub last_stays : new.last ≡ old.last → (p q : ℕ) (r : R) → IsLast new p q r → HasRecord old p q r
  last_stays same p q r is =
      inl (record { found = is.found; there = ap (λ m. get nat_eq m p) (sym same) ∙ is.there; version = is.version; run_record = is.run_record })

  module _ (program k : ℕ) (made : Option R) where
    -- what a program has as its last record may be one more
    pub last_changed : (w : Option (VersionRecord R)) → ((q : ℕ) (x : VersionRecord R) → get nat_eq new.last q ≡ Some x → (get nat_eq old.last q ≡ Some x) ⊎ ((q ≡ program) × (w ≡ Some x)))
        → new.held ≡ old.held → ((x : VersionRecord R) → w ≡ Some x → (x.version ≡ k) × (made ≡ Some x.run_record)) → MayKeep old program k made new
    last_changed w put same is p q r has = elim has [
      | inl last ↦ elim (put p last.found last.there) [
        | inl before ↦ inl (inl (record { found = last.found; there = before; version = last.version; run_record = last.run_record }))
        | inr here ↦
            let x = is last.found here.1 in
            inr (here.0, sym last.version ∙ x.0, x.1 ∙ ap Some last.run_record)
      ]
      | inr held ↦ inl (held_stays same p q r held)
    ]

    -- what a version has as its last record may be one more
    pub held_changed : (w : HeldRun R) → ((q : ℕ) (x : HeldRun R) → get nat_eq new.held q ≡ Some x → (get nat_eq old.held q ≡ Some x) ⊎ ((q ≡ k) × (Some w ≡ Some x)))
        → new.last ≡ old.last → w.program ≡ program → ((r : R) → w.run_record ≡ Some r → made ≡ Some r) → MayKeep old program k made new
    held_changed w put same of is p q r has = elim has [
      | inl last ↦ inl (last_stays same p q r last)
      | inr held ↦ elim (put q held.found held.there) [
        | inl before ↦ inl (inr (record { found = held.found; there = before; of = held.of; run_record = held.run_record }))
        | inr here ↦
            let here_is = same_Some w held.found here.1 in
            inr (sym held.of ∙ sym (ap (λ (x : HeldRun R). x.program) here_is) ∙ of, here.0, is r (ap (λ (x : HeldRun R). x.run_record) here_is ∙ held.run_record))
      ]
    ]
