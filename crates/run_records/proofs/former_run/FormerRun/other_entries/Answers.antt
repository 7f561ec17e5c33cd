-- Proofs of `other_entries`, src/former_run.rt.
use Rattle.std.proofs.Common.{rules, ◌≡◌, ℕ, true, Some, List, ap, ◌∙◌, subst}
use Rattle.std.specs.List.{filter}
use Rattle.std.specs.Option.{option_map}
use Rattle.follow_engine.specs.Differing.{differ_at}
use Rattle.run_records.specs.inside.FormerRun.{AreKnown}
use Rattle.run_records.proofs.Outside.{alike_but_all, alike_but_listed}
use Rattle.run_records.proofs.former_run.FormerRun.other_entries.Goals as goal

pub returns-in_ok-found-in-None : goal.returns-in_ok-found-in-None
returns-in_ok-found-in-None c =
    let kept = c.args.self.now.vectors.vectors in
    let now = c.args.apply.now.vectors.now.vectors in
    let on : c.have_rows.result ≡ true = search rules in
    let also : c.have_rows-2.result ≡ true = search rules in
    alike_but_all c.count-count.result c.args.apply.now.flat.now.vertices c.vertices-vertices.result now kept c.in_ok-found-in-None.found.items c.vertices-vertices.ensures.count
    (c.have_rows-2.ensures also) (c.have_rows.ensures on) c.vectors_agree_where_none_differs.ensures c.in_ok-found-in-None.ensures

pub returns-in_ok-found-in-Some : goal.returns-in_ok-found-in-Some
returns-in_ok-found-in-Some c =
    let n = c.args.apply.now.flat.now.vertices in
    let kept = c.args.self.now.vectors.vectors in
    let now = c.args.apply.now.vectors.now.vectors in
    let on : c.have_rows.result ≡ true = search rules in
    let also : c.have_rows-2.result ≡ true = search rules in
    let listed = c.in-Some.listed in
    let named : c.args.self.now.candidates ≡ Some listed = search rules in
    let known = subst (λ o. AreKnown n kept (option_map (λ l. l.items) o) now) named c.requires in
    alike_but_listed c.count-count.result n c.vertices-vertices.result now kept listed.items c.in_ok-found-in-Some.found.items c.vertices-vertices.ensures.count
    (c.have_rows-2.ensures also) (c.have_rows.ensures on) c.vectors_agree_where_none_differs.ensures known
    (c.in_ok-found-in-Some.ensures ∙ ap (λ (us : List ℕ). filter (differ_at now kept c.count-count.result) us) c.deref.ensures.value)
