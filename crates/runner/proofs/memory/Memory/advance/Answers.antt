-- Proofs of `advance`, src/control.rt.
use Rattle.std.proofs.Common.{rules, ◌≡◌, ◌∙◌, ◌+◌, ◌++◌, ◌∷◌, [], ℤ, pos, ◌+ℤ◌, ap, reverse, to_z, of_z, w64}
use Rattle.algorithm_meaning.specs.Arithmetic.{wrapped}
use Rattle.algorithm_meaning.specs.Statements.{with_new_integer}
use Rattle.algorithm_meaning.specs.declared.state.LoopCounter.{LoopCounter}
use Rattle.algorithm_meaning.specs.Loop.{next_of}
use Rattle.plans.specs.Machine.{At}
use Rattle.runner.proofs.Stepping.{loop_goes_on, stands}
use Rattle.runner.proofs.memory.Memory.advance.Goals as goal

pub returns-in-Ok-clause-done : goal.returns-in-Ok-clause-done
returns-in-Ok-clause-done c p g name index =
    let run = c.args.self.now in
    let x = c.in-Some.counter in
    let following : LoopCounter = record { next = to_z w64 (of_z w64 c.arithmetic_of-following.result); end = to_z w64 (of_z w64 x.end) } in
    let value : to_z w64 (of_z w64 x.next) ≡ x.next = search rules in
    let bound : to_z w64 (of_z w64 x.end) ≡ x.end = search rules in
    let given : to_z w64 (of_z w64 c.arithmetic_of-following.result) ≡ c.arithmetic_of-following.result = search rules in
    let number : c.arithmetic_of-following.result ≡ wrapped (x.next +ℤ pos 1) = c.arithmetic_of-following.ensures ∙ ap (λ (n : ℤ). wrapped (n +ℤ pos 1)) value in
    let same : following ≡ next_of x = λ i. record { next = (given ∙ number) i; end = bound i } in
    let pushed : c.push_reserved.new.self.items ≡ c.pop.new.self.items ++ next_of x ∷ [] =
    c.push_reserved.ensures.items ∙ ap (λ (y : LoopCounter). c.pop.new.self.items ++ y ∷ []) same in
    stands (index + 1) (reverse c.push_reserved.new.self.items) run.state c.declare_two.new.self _ c.in-Ok.ensures.ok
    ∙ (ap (λ (y : LoopCounter). At (index + 1) (reverse c.push_reserved.new.self.items) (with_new_integer (with_new_integer run.state.state y.next) y.end)) same
    ∙ loop_goes_on (index + 1) c.pop.new.self.items run.loops.items c.push_reserved.new.self.items x run.state.state c.in-Some.ensures.items pushed)
