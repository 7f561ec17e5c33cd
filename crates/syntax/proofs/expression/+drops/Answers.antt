-- Proofs of the mutually recursive functions of src/expression.rt.
use Rattle.std.proofs.Common.{ℕ, ◌+◌, ◌*◌, ◌≤◌, List, [], ◌∷◌, arith, rules}
use denote.Param.Weighed.{most}
use Rattle.syntax.specs.declared.operators.Addition.{Addition}
use Rattle.syntax.specs.declared.expression.Term.{Term}
use Rattle.syntax.specs.declared.expression.Expression.TheShapes as shapes
use Rattle.syntax.specs.declared.expression.Expression.TheDeep.{deep-Term, size-Term}
use Rattle.syntax.proofs.expression.+drops.Goals as goal

-- the deepest summand
abbrev deep : Addition × Term → ℕ
deep m = (shapes.weighed-Sum-more-at-2).weight Term deep-Term m

abbrev measure : Addition × Term → ℕ
measure m = (shapes.weighed-Sum-more-at-2).weight Term size-Term m

-- the summands are measured by the deepest of them
summands : (items : List (Addition × Term)) → most measure items ≤ 7 * most deep items + 3
summands [] = omega arith
summands (m ∷ items) =
    let h : most measure items ≤ 7 * most deep items + 3 = summands items in
    omega arith

pub Sum::drop-drop-self-requires-2 : goal.Sum::drop-drop-self-requires-2
Sum::drop-drop-self-requires-2 t c κs =
    let h : most measure c.args.self.more.items ≤ 7 * most deep c.args.self.more.items + 3 = summands c.args.self.more.items in
    ((omega arith, tt), search rules)
