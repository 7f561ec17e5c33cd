-- Proofs of `follow`, src/former_run.rt.
use Rattle.std.proofs.Common.{rules, ◌≡◌, ◌+◌, ℕ, ℤ, true, List, drop, refl, sym, ap, ◌∙◌, subst, subst₂}
use Rattle.std.specs.Arc.{arc_value}
use Rattle.std.specs.Option.{option_map}
use Rattle.flat_snapshot.specs.Digraph.{Digraph}
use Rattle.vectors.specs.Changes.{with_all_changes}
use Rattle.vertex_marks.specs.Marks.{is_marked}
use Rattle.follow_engine.specs.declared.differences.Differences.{Differences}
use Rattle.follow_engine.specs.Following.{AreEndsBut}
use Rattle.runner.proofs.Partners.{found_some}
use Rattle.run_records.specs.inside.FormerRun.{AreAlikeBut}
use Rattle.run_records.specs.Recorded.{AreRecorded}
use Rattle.run_records.proofs.Former.{kinds_of_ends, known_of_apply}
use Rattle.run_records.proofs.Beside.{can_follow, known_after, record_at, some_holds}
use Rattle.run_records.proofs.former_run.FormerRun.follow.Goals as goal

pub differences-requires-clause-from : goal.differences-requires-clause-from
differences-requires-clause-from c =
    let mapped : c.is_same_map.result ≡ true = search rules in
    (kinds_of_ends c.args.run c.args.asked c.args.apply.now c.args.self.now c.in-Some.recorded.now c.recorded_apply-former.result c.requires.apply
    c.recorded_apply-former.ensures c.requires.beside.functions (c.is_same_map.ensures mapped).0).0

pub differences-requires-clause-to : goal.differences-requires-clause-to
differences-requires-clause-to c =
    let mapped : c.is_same_map.result ≡ true = search rules in
    (kinds_of_ends c.args.run c.args.asked c.args.apply.now c.args.self.now c.in-Some.recorded.now c.recorded_apply-former.result c.requires.apply
    c.recorded_apply-former.ensures c.requires.beside.functions (c.is_same_map.ensures mapped).0).1

pub differences-requires-clause-known : goal.differences-requires-clause-known
differences-requires-clause-known c =
    known_of_apply c.args.run c.args.asked c.args.apply.now c.args.self.now.vectors.vectors (option_map (λ l. l.items) c.args.self.now.candidates) c.requires.apply
    c.requires.known

pub follow-requires : goal.follow-requires
follow-requires c =
    let r = c.args.self.now in
    let a = c.in-Some.recorded.now in
    let x = c.args.apply.now in
    let run = c.args.run in
    let at = found_some r.run_record.now.applies.items c.deref.result.now r.next c.get.result c.in-Some.recorded c.deref.ensures.value c.get.ensures.lookup.1 c.get.ensures.lookup.3 c.in-Some.is in
    let parts = record_at run.functions.now (arc_value r.run_record.now.graph) r.vectors.vectors r.run_record.now.applies.items r.next a at c.requires.beside.recorded in
    let mapped : c.is_same_map.result ≡ true = search rules in
    let same = c.is_same_map.ensures mapped in
    let stays : c.stays_local.result ≡ true = search rules in
    let entries = some_holds _ _ _ c.in-Some-2.is c.in_ok-named.ensures.entries in
    let sources = some_holds _ _ _ c.in-Some-2.is c.in_ok-named.ensures.sources in
    let destinations = some_holds _ _ _ c.in-Some-2.is c.in_ok-named.ensures.destinations in
    can_follow run c.args.asked x r a _ _ c.requires.apply c.recorded_apply-former.ensures c.requires.beside parts.0 same.1 same.2 (sym c.stays_local.ensures ∙ stays) refl refl
    (subst (λ (us : List ℕ). AreAlikeBut x.flat.now.vertices r.vectors.vectors x.vectors.now.vectors us) (sym c.deref-2.ensures.value) entries)
    (subst (λ (us : List ℕ). AreEndsBut us x.from c.recorded_apply-former.result.from) (sym c.deref-3.ensures.value) sources)
    (subst (λ (us : List ℕ). AreEndsBut us x.to c.recorded_apply-former.result.to) (sym c.deref-4.ensures.value) destinations)

pub returns-clause-beside : goal.returns-clause-beside
returns-clause-beside c =
    let r = c.args.self.now in
    let a = c.in-Some.recorded.now in
    let run = c.args.run in
    let at = found_some r.run_record.now.applies.items c.deref.result.now r.next c.get.result c.in-Some.recorded c.deref.ensures.value c.get.ensures.lookup.1 c.get.ensures.lookup.3 c.in-Some.is in
    let parts = record_at run.functions.now (arc_value r.run_record.now.graph) r.vectors.vectors r.run_record.now.applies.items r.next a at c.requires.beside.recorded in
    record {
      functions = c.requires.beside.functions;
      vertices = c.requires.beside.vertices;
      edges = c.requires.beside.edges;
      recorded = subst
          (λ (vs : List (List ℤ)). AreRecorded run.functions.now (arc_value r.run_record.now.graph) vs (drop (r.next + 1) r.run_record.now.applies.items))
          (sym (ap (λ vs. vs.vectors) c.write.ensures)) parts.1;
    }

pub returns-clause-known : goal.returns-clause-known
returns-clause-known c =
    let r = c.args.self.now in
    let a = c.in-Some.recorded.now in
    let x = c.args.apply.now in
    let run = c.args.run in
    let kept = r.vectors.vectors in
    let cs = c.in-Some-3.changes.vectors.items in
    let ds = a.changes.vectors.items in
    let members = c.in_ok-members.field-0.items in
    let at = found_some r.run_record.now.applies.items c.deref.result.now r.next c.get.result c.in-Some.recorded c.deref.ensures.value c.get.ensures.lookup.1 c.get.ensures.lookup.3 c.in-Some.is in
    let parts = record_at run.functions.now (arc_value r.run_record.now.graph) r.vectors.vectors r.run_record.now.applies.items r.next a at c.requires.beside.recorded in
    let entries = some_holds _ _ _ c.in-Some-2.is c.in_ok-named.ensures.entries in
    let alike = subst (λ (us : List ℕ). AreAlikeBut x.flat.now.vertices kept x.vectors.now.vectors us) (sym c.deref-2.ensures.value) entries in
    let d : Differences = record {
      entries = c.deref-2.result;
      sources = c.deref-3.result;
      destinations = c.deref-4.result;
      edges = r.edges;
    } in
    let after = known_after x.flat.now.vertices x c.recorded_apply-former.result d members (is_marked c.follow.new.marks) x.vectors.now.vectors kept cs ds alike
    (some_holds _ _ _ c.in-Some-3.is c.in_ok-changes.ensures.once) parts.0.0 c.in_ok-members.ensures.marked
    (some_holds _ _ _ c.in-Some-3.is c.in_ok-changes.ensures.marked) (some_holds _ _ _ c.in-Some-3.is c.in_ok-changes.ensures.kept) in
    let here = subst (λ (g : Digraph). AreAlikeBut g.vertices (with_all_changes ds kept) (with_all_changes cs x.vectors.now.vectors) members) c.requires.apply.graph after in
    subst₂ (λ (old vs : List (List ℤ)). AreAlikeBut run.graph.now.vertices old (with_all_changes cs vs) members)
    (sym (ap (λ vs. vs.vectors) c.write.ensures)) (ap (λ vs. vs.vectors) c.requires.apply.vectors) here
