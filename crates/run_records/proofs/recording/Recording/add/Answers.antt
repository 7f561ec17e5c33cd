-- Proofs of `add`, src/recording.rt.
use Rattle.std.proofs.Common.{List, refl, sym, ◌∙◌, ap, subst}
use Rattle.run_records.specs.declared.apply_record.ApplyRecord.{ApplyRecord}
use Rattle.run_records.specs.Recorded.{AreRecorded, vectors_through}
use Rattle.run_records.proofs.Additions.{IsRecordOf, recorded_one_more, through_one_more}
use Rattle.run_records.proofs.recording.Recording.add.Goals as goal

pub returns-clause-recorded : goal.returns-clause-recorded
returns-clause-recorded c are =
    let run = c.args.run in
    let x = c.args.apply.now in
    let cs = c.args.changes.now.vectors.items in
    let start = c.args.self.now.start.vectors in
    let a : ApplyRecord = record {
      asked = c.args.asked;
      sizes = c.in_ok-sizes.sizes;
      sources = c.in_ok-sources.sources;
      destinations = c.in_ok-destinations.destinations;
      changes = c.in_ok-copy.copy;
    } in
    let of : IsRecordOf run c.args.asked x cs a = record {
      asks = refl;
      sizes = c.in_ok-sizes.ensures.items;
      from = c.in_ok-sources.ensures;
      to = c.in_ok-destinations.ensures;
      same = c.in_ok-copy.ensures;
    } in
    subst (λ (rs : List ApplyRecord). AreRecorded run.functions.now run.graph.now start rs) (sym c.in_ok-push.ensures.items)
    (recorded_one_more run c.args.asked x cs a c.args.self.now.applies.items start c.requires.apply of c.requires.vectors c.requires.once c.requires.changes are)

pub returns-clause-vectors : goal.returns-clause-vectors
returns-clause-vectors c =
    let run = c.args.run in
    let cs = c.args.changes.now.vectors.items in
    let start = c.args.self.now.start.vectors in
    let a : ApplyRecord = record {
      asked = c.args.asked;
      sizes = c.in_ok-sizes.sizes;
      sources = c.in_ok-sources.sources;
      destinations = c.in_ok-destinations.destinations;
      changes = c.in_ok-copy.copy;
    } in
    ap (λ (rs : List ApplyRecord). vectors_through rs start) c.in_ok-push.ensures.items
    ∙ through_one_more run cs a c.args.self.now.applies.items start c.requires.vectors c.in_ok-copy.ensures
