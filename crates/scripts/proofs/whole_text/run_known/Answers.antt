-- Proofs of `run_known`, src/whole_text.rt.
use Rattle.std.proofs.Common.{◌≡◌, ◌≤◌, ◌∙◌, ℕ, Bool, true, List, [], length, take, ap, sym, subst}
use Rattle.scripts.specs.Script.{Input, input, taken_by_writer, RunsScript, RunsText}
use Rattle.scripts.proofs.TextLaws.{unread, read, runs_text}
use Rattle.scripts.proofs.whole_text.run_known.Goals as goal

pub returns : goal.returns
returns g c =
    let ps = g.P.Programs.trees c.args.programs.now in
    let text = g.T.Text.text in
    let last = c.script.new.reader in
    let before = taken_by_writer (g.W.Drain.bytes_written c.args.writer.now) (g.W.Drain.failures c.args.writer.now) in
    let after = taken_by_writer (g.W.Drain.bytes_written c.script.new.writer) (g.W.Drain.failures c.script.new.writer) in
    let start : input (take c.new-reader.result.count text) c.new-reader.result.is_ended 0 ≡ unread =
    ap (λ (n : ℕ). input (take n text) c.new-reader.result.is_ended 0) c.new-reader.ensures.count ∙ ap (λ (b : Bool). input [] b 0) c.new-reader.ensures.not_ended in
    let runs = subst (λ (i : Input). RunsScript ps i (read text last.count last.is_ended) before after c.script.result.0) start c.script.ensures in
    let whole : last.is_ended ≡ true → length text ≤ last.count = last.whole in
    subst (λ (t : List ℕ). RunsText ps t before after c.script.result.0) (sym c.requires.text) (runs_text ps text last.count last.is_ended whole before after c.script.result.0 runs)
