-- Proofs of `instructions_of`, src/plan.rt.
use Rattle.std.proofs.Common.{rules, ◌≡◌, ◌++◌, ◌∷◌, [], List, ℕ, false, length, ap, ◌∙◌, subst}
use Rattle.typed_tree.specs.declared.statement.MainStatement.{MainStatement}
use Rattle.typed_tree.specs.BlockTree.{block_tree}
use Rattle.typed_tree.specs.ProgramTree.{program_tree}
use Rattle.plans.specs.Instruction.{End}
use Rattle.plans.specs.Plan.{depth_after_all, main_depth, plain, plan_all}
use Rattle.lowering.specs.inside.Putting.{Puts}
use Rattle.lowering.specs.Text.{IsWritten}
use Rattle.lowering.specs.inside.Visible.{depth_of}
use Rattle.lowering.proofs.Statements.{whole_plan}
use Rattle.lowering.proofs.plan.instructions_of.Goals as goal

pub returns : goal.returns
returns c =
    let p = program_tree c.args.program.now in
    let s = c.args.schedule.now in
    let a = c.new-code.result.items in
    let b = c.put_all.new.code.items in
    let d = depth_of c.in_ok-visible.visible in
    let at : d ≡ main_depth p = c.in_ok-visible.ensures ∙ ap (λ (ls : List ℕ). record { integers = 0; conditions = 0; sets = length ls }) c.deref.ensures.value in
    let puts = subst (λ (ls : List MainStatement). Puts p a b (plan_all p s (length a) d false (block_tree ls))) c.deref-2.ensures.value c.in_ok-put_all.ensures.code in
    let behind : c.depth.result ≡ depth_after_all p.main (main_depth p) =
    c.depth.ensures ∙ c.in_ok-put_all.ensures.visible ∙ ap (λ (ls : List MainStatement). depth_after_all (block_tree ls) d) c.deref-2.ensures.value ∙ ap (λ x. depth_after_all p.main x) at in
    let pushed : c.push.new.self.items ≡ b ++ c.plain.result ∷ [] = search rules in
    let end : IsWritten p c.plain.result (plain 0 c.depth.result End) = search rules in
    whole_plan p s a b c.push.new.self.items d c.plain.result c.new-code.ensures.items at puts pushed
    (subst (λ x. IsWritten p c.plain.result (plain 0 x End)) behind end)
