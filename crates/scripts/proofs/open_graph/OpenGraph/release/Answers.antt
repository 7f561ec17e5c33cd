-- Proofs of `release`, src/open_graph.rt.
use Rattle.std.proofs.Common.{◌≡◌, ◌∙◌, ℕ, Bor, Option, None, Result, ap, sym, subst}
use Rattle.std.specs.declared.alloc.AllocError.{AllocError}
use Rattle.std.specs.Option.{MatchOption}
use Rattle.std.specs.Result.{IfOk}
use Rattle.tree_batch.specs.Digraph.{Digraph}
use Rattle.version_list.specs.declared.step.Step.TheVariants as step
use Rattle.version_list.specs.Machine.{ticket_version}
use Rattle.version_list.specs.Kept.{IsHeld}
use Rattle.replies.specs.declared.line_reply.LineReply.{LineReply}
use Rattle.scripts.specs.Replies.{OpenState, stepping}
use Rattle.scripts.specs.inside.Stepping.{IsAnswered}
use Rattle.scripts.proofs.StepLaws.{not_held}
use Rattle.scripts.proofs.open_graph.OpenGraph.release.Goals as goal

pub returns-in_default-clause-answered : goal.returns-in_default-clause-answered
returns-in_default-clause-answered g c =
    let s = c.self.inside.versions.state in
    let number = c.args.number in
    let none : ticket_version s.open_tickets number ≡ None =
    subst (λ (found : Option (ℕ × Bor Digraph)). MatchOption found (ticket_version s.open_tickets number ≡ None) (λ v. IsHeld s number v.0 v.1.now)) c.in_default.is c.kept.ensures in
    let answered = not_held c.args.self.now number (ap (λ (o : OpenState). ticket_version o.versions.open_tickets number) (sym c.self.view_is) ∙ none) in
    subst (λ (r : Result LineReply AllocError). IfOk r (IsAnswered c.args.self.now (stepping c.args.self.now (step.Release number) c.args.self.now.pending))) (sym c.refusal.ensures) answered
