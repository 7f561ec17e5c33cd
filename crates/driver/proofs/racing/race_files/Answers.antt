-- Proofs of `race_files`, src/racing.rt.
use Rattle.std.proofs.Common.{inl, inr, refl, map}
use Rattle.std.proofs.lemmas.Result.{err_from_is_err_and}
use Rattle.races.specs.RaceText.{race_text}
use Rattle.driver.specs.Reading.{tree_of}
use Rattle.driver.proofs.FileRaces.{begins_text, ends_writing, race_of_files, refused_race_of_files}
use Rattle.driver.proofs.racing.race_files.Goals as goal

pub returns : goal.returns
returns g c = record {
  race = c.in-Ok.raced;
  is_race = race_of_files _ _ _ _ _ c.in_ok-compiled.compiled.items _ c.in_ok-plans.plans.items _ c.in_ok-order.order c.in-Ok.raced c.in_ok-compiled.ensures c.in_ok-order.ensures c.deref.ensures.value
      c.in_ok-plans.ensures c.deref-2.ensures.value c.in-Ok.ensures.race c.in-Ok.ensures.opened c.in-Ok.ensures.workers;
  bytes_written = c.in_ok-write_race.ensures.0;
  quiet = c.in_ok-write_race.ensures.1;
  fault = c.has_faulted.ensures;
}

pub returns-in_err-write_race : goal.returns-in_err-write_race
returns-in_err-write_race g c =
    let p = err_from_is_err_and c.from_residual-in_err-write_race.result c.from_residual-in_err-write_race.ensures.1 in
    rw (p.1, p.2) (inr (record {
      race = c.in-Ok.raced;
      is_race = race_of_files _ _ _ _ _ c.in_ok-compiled.compiled.items _ c.in_ok-plans.plans.items _ c.in_ok-order.order c.in-Ok.raced c.in_ok-compiled.ensures c.in_ok-order.ensures
          c.deref.ensures.value c.in_ok-plans.ensures c.deref-2.ensures.value c.in-Ok.ensures.race c.in-Ok.ensures.opened c.in-Ok.ensures.workers;
      part = begins_text _ _ _ c.in_err-write_race.field-0.0 c.in_err-write_race.ensures;
      cause = ends_writing (race_text c.in-Ok.raced) _ _ c.in_err-write_race.field-0.0 c.in_err-write_race.ensures;
    }))

pub returns-in_err-order : goal.returns-in_err-order
returns-in_err-order g c =
    let p = err_from_is_err_and c.from_residual-in_err-order.result c.from_residual-in_err-order.ensures.1 in
    rw (p.1, p.2) (inl (record {
      untouched = refl;
      cause = inr (inl (record { programs = map tree_of c.in_ok-compiled.compiled.items; compiled = c.in_ok-compiled.ensures; cause = c.in_err-order.ensures }));
    }))

pub returns-in-Err : goal.returns-in-Err
returns-in-Err g c = inl (record {
  untouched = refl;
  cause = inr (inr (inl (refused_race_of_files _ _ _ c.args.bounds.workers c.in_ok-compiled.compiled.items _ c.in_ok-plans.plans.items _ c.in_ok-order.order c.in-Err.error c.args.names.script _
      c.in_ok-compiled.ensures c.in_ok-order.ensures c.deref.ensures.value c.in_ok-plans.ensures c.deref-2.ensures.value c.in-Err.ensures.refused refl c.of_race.ensures)));
})
