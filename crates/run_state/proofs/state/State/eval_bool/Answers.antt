-- Proofs of `eval_bool`, src/state.rt.
use Rattle.std.proofs.Common.{ℕ, ap, ◌∙◌}
use Rattle.std.proofs.lemmas.Result.{IfOk-weaker}
use Rattle.algorithm_meaning.specs.Stand.{bool_value_in}
use Rattle.algorithm_meaning.specs.Loop.{forget_beyond}
use Rattle.run_state.proofs.state.State.eval_bool.Goals as goal

pub returns : goal.returns
returns c =
    let m = forget_beyond c.args.depth c.args.self.now.state in
    IfOk-weaker c.eval_bool.result _ _ (λ n value e is. value e m is c.main_state.ensures.main ∙ ap (λ (n : ℕ). bool_value_in n e m) c.main_state.ensures.vertices) c.eval_bool.ensures
