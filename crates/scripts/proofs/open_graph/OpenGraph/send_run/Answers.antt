-- Proofs of `send_run`, src/open_graph.rt.
use Rattle.std.proofs.Common.{◌≡◌, ℕ, ◌<◌, ◌⊎◌, ◌||◌, ◌∙◌, Bool, Bor, Option, ap, sym, subst, inl, inr}
use Rattle.std.specs.Option.{option_map, IfSome}
use Rattle.version_flats.specs.VersionFlats.{IsKept}
use Rattle.version_records.specs.VersionRecords.{AreRecordsOf, IsPredecessor}
use Rattle.version_records.proofs.Keeping.{AreRecordsOf-kept, predecessors}
use Rattle.replies.specs.declared.line_reply.LineReply.TheVariants as line_reply
use Rattle.algorithm_meaning.specs.declared.outcome.Outcome.{Outcome}
use Rattle.replies.specs.ReplyText.{outcome_text, is_fault, line_text}
use Rattle.tree_batch.specs.Digraph.{Digraph}
use Rattle.scripts.specs.Replies.{Answer, OpenState, graph_of, meaning_on, ran as ran_on}
use Rattle.scripts.proofs.ProgramLaws.{is_at}
use Rattle.scripts.proofs.RunReplies.{on_ok_where, either_first, either_second, runs, runs_by_too_many, runs_nowhere}
use Rattle.replies.proofs.SendingLaws.{emits_none, emits_as}
use Rattle.scripts.proofs.open_graph.OpenGraph.send_run.Goals as goal
use Rattle.scripts.proofs.open_graph.OpenGraph.send_run.Goals.{then-self, else-self, then-workers-eq0-via-then-workers-eq0, then-workers-eq0-via-else-workers-eq0+then-workers}

pub returns-in_default-clause-emits : goal.returns-in_default-clause-emits
returns-in_default-clause-emits g c =
    let found = is_at (g.P.Programs.trees c.args.host.now.programs.now) c.args.index c.requires.index in
    let nowhere = runs_nowhere c.args.self.now c.args.line.turns c.args.line.workers _ found.0 _ found.1
    (ap (λ (o : OpenState). graph_of o.versions c.args.line.ticket) (sym c.self.view_is) ∙ sym c.version_of.ensures.graph ∙ ap (option_map (λ v. v.1.now)) c.in_default.is) in
    emits_as _ _ _ _ _ c.refuse.ensures (ap (λ (a : Answer OpenState). a.text) nowhere ∙ ap (λ (n : ℕ). line_text (line_reply.Refused n)) (sym c.number.ensures))

pub returns-in_default-clause-state : goal.returns-in_default-clause-state
returns-in_default-clause-state g c =
    let found = is_at (g.P.Programs.trees c.args.host.now.programs.now) c.args.index c.requires.index in
    let nowhere = runs_nowhere c.args.self.now c.args.line.turns c.args.line.workers _ found.0 _ found.1
    (ap (λ (o : OpenState). graph_of o.versions c.args.line.ticket) (sym c.self.view_is) ∙ sym c.version_of.ensures.graph ∙ ap (option_map (λ v. v.1.now)) c.in_default.is) in
    on_ok_where c.refuse.result (sym (ap (λ (a : Answer OpenState). a.state) nowhere))

pub returns-then-workers-eq0-clause-emits : goal.returns-then-workers-eq0-clause-emits
returns-then-workers-eq0-clause-emits g c =
    let found = is_at (g.P.Programs.trees c.args.host.now.programs.now) c.args.index c.requires.index in
    let many : (c.args.line.workers ≡ 0) ⊎ (64 < c.args.line.workers) =
    elim c.then-workers-eq0.branch [ then-workers-eq0-via-then-workers-eq0 w ↦ inl w.if-workers-eq0.true | then-workers-eq0-via-else-workers-eq0+then-workers w ↦ inr w.if-workers.true ] in
    let refused = runs_by_too_many c.args.self.now c.args.line.turns c.args.line.workers _ found.0 _ _ found.1
    (ap (λ (o : OpenState). graph_of o.versions c.args.line.ticket) (sym c.self.view_is) ∙ sym c.version_of.ensures.graph ∙ ap (option_map (λ v. v.1.now)) c.in-Some.is) many in
    emits_as _ _ _ _ _ c.refuse-then-workers-eq0.ensures (ap (λ (a : Answer OpenState). a.text) refused)

pub returns-then-workers-eq0-clause-state : goal.returns-then-workers-eq0-clause-state
returns-then-workers-eq0-clause-state g c =
    let found = is_at (g.P.Programs.trees c.args.host.now.programs.now) c.args.index c.requires.index in
    let many : (c.args.line.workers ≡ 0) ⊎ (64 < c.args.line.workers) =
    elim c.then-workers-eq0.branch [ then-workers-eq0-via-then-workers-eq0 w ↦ inl w.if-workers-eq0.true | then-workers-eq0-via-else-workers-eq0+then-workers w ↦ inr w.if-workers.true ] in
    let refused = runs_by_too_many c.args.self.now c.args.line.turns c.args.line.workers _ found.0 _ _ found.1
    (ap (λ (o : OpenState). graph_of o.versions c.args.line.ticket) (sym c.self.view_is) ∙ sym c.version_of.ensures.graph ∙ ap (option_map (λ v. v.1.now)) c.in-Some.is) many in
    on_ok_where c.refuse-then-workers-eq0.result (sym (ap (λ (a : Answer OpenState). a.state) refused))

pub returns-in_err-flat-clause-emits : goal.returns-in_err-flat-clause-emits
returns-in_err-flat-clause-emits g c = emits_none _ _ _ c.from_residual.ensures.1

pub returns-in_err-ran-clause-emits : goal.returns-in_err-ran-clause-emits
returns-in_err-ran-clause-emits g c = emits_none _ _ _ c.from_residual-in_err-ran.ensures.1

pub returns-clause-emits : goal.returns-clause-emits
returns-clause-emits g c =
    let found = is_at (g.P.Programs.trees c.args.host.now.programs.now) c.args.index c.requires.index in
    let ran = runs c.args.self.now c.args.line.turns c.args.line.workers _ found.0 _ c.in-Some.graph.now found.1
    (ap (λ (o : OpenState). graph_of o.versions c.args.line.ticket) (sym c.self.view_is) ∙ sym c.version_of.ensures.graph
    ∙ ap (option_map (λ v. v.1.now)) c.in-Some.is) c.if-workers-eq0.false c.if-workers.false in
    let shown = c.in_ok-ran.ensures.outcome found.0 found.1 ∙ ap (λ (d : Digraph). meaning_on d found.0 c.args.line.turns) c.in_ok-flat.ensures.flat in
    emits_as _ _ _ _ _ c.send_outcome.ensures (ap (λ (a : Answer OpenState). a.text) ran ∙ ap outcome_text (sym shown))

pub returns-clause-state : goal.returns-clause-state
returns-clause-state g c =
    let found = is_at (g.P.Programs.trees c.args.host.now.programs.now) c.args.index c.requires.index in
    let ran = runs c.args.self.now c.args.line.turns c.args.line.workers _ found.0 _ c.in-Some.graph.now found.1
    (ap (λ (o : OpenState). graph_of o.versions c.args.line.ticket) (sym c.self.view_is) ∙ sym c.version_of.ensures.graph
    ∙ ap (option_map (λ v. v.1.now)) c.in-Some.is) c.if-workers-eq0.false c.if-workers.false in
    let shown = c.in_ok-ran.ensures.outcome found.0 found.1 ∙ ap (λ (d : Digraph). meaning_on d found.0 c.args.line.turns) c.in_ok-flat.ensures.flat in
    let inside = c.self.inside in
    let last = is_fault c.in_ok-ran.ran.outcome.end in
    let fault : c.if-self.self ≡ inside.faulted || last = elim c.if-self.branch [
      | then-self w ↦ either_first _ _ last w.self-is w.if-self.true
      | else-self w ↦ either_second _ _ _ last w.self-is w.is_fault-self-inside.ensures w.if-self.false
    ] in
    let faulted : Bool → OpenState = λ b. record { versions = inside.versions.state; pending = inside.pending; faulted = b } in
    on_ok_where c.send_outcome.result
    (ap faulted fault ∙ ap (λ (o : Outcome). faulted (inside.faulted || is_fault o.end)) shown
    ∙ ap (λ (o : OpenState). (ran_on o (meaning_on c.in-Some.graph.now found.0 c.args.line.turns)).state) c.self.view_is
    ∙ sym (ap (λ (a : Answer OpenState). a.state) ran))

pub flat-requires-clause-graph : goal.flat-requires-clause-graph
flat-requires-clause-graph g c =
    subst (λ (found : Option (ℕ × Bor Digraph)). IfSome found (λ v. IsKept c.self.inside.versions.state v.0 v.1.now)) c.in-Some.is c.version_of.ensures.kept

pub invariant_of-self-2 : goal.invariant_of-self-2
invariant_of-self-2 g c = c.flat.ensures.are_of

pub run-requires-clause-former : goal.run-requires-clause-former
run-requires-clause-former g c =
    let s = c.self.inside.versions.state in
    let is_record = g.P.Programs.is_record c.args.host.now.programs.now in
    let kept = subst (λ (found : Option (ℕ × Bor Digraph)). IfSome found (λ v. IsKept s v.0 v.1.now)) c.in-Some.is c.version_of.ensures.kept in
    let are = subst (λ (o : OpenState). AreRecordsOf is_record o.versions c.args.records.now) (sym c.self.view_is) c.requires.records in
    let former = predecessors is_record s c.args.records.now c.args.index c.in-Some.version c.in-Some.graph.now c.predecessor-former.result are kept c.predecessor-former.ensures in
    subst (λ (d : Digraph). IfSome c.predecessor-former.result (IsPredecessor (is_record c.args.index) d)) (sym c.in_ok-flat.ensures.flat) former

pub returns-clause-records : goal.returns-clause-records
returns-clause-records g c =
    let s = c.self.inside.versions.state in
    let is_record = g.P.Programs.is_record c.args.host.now.programs.now in
    let kept = subst (λ (found : Option (ℕ × Bor Digraph)). IfSome found (λ v. IsKept s v.0 v.1.now)) c.in-Some.is c.version_of.ensures.kept in
    let are = subst (λ (o : OpenState). AreRecordsOf is_record o.versions c.args.records.now) (sym c.self.view_is) c.requires.records in
    let made = subst (λ (d : Digraph). IfSome c.in_ok-ran.ran.run_record (λ r. is_record c.args.index r d)) c.in_ok-flat.ensures.flat c.in_ok-ran.ensures.kept in
    subst (λ (o : OpenState). AreRecordsOf is_record o.versions c.keep.new.self) c.self.view_is
    (AreRecordsOf-kept is_record s c.args.records.now c.keep.new.self c.args.index c.in-Some.version c.in_ok-ran.ran.run_record c.in-Some.graph.now c.keep.ensures kept made are)
