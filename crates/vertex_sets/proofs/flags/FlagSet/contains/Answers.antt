-- Proofs of `contains`, src/flags.rt.
use Rattle.std.proofs.Common.{◌≡◌, false, get_or, sym, ◌∙◌, rules}
use Rattle.vertex_sets.proofs.FlagMembers.{flag_members_has}
use Rattle.vertex_sets.proofs.flags.FlagSet.contains.Goals as goal

pub returns-in-Some : goal.returns-in-Some
returns-in-Some c =
    let is : get_or c.args.self.now.flags.items c.args.vertex false ≡ c.in-Some.flag.now = search rules in
    let has = flag_members_has c.args.self.now.flags.items c.args.vertex in
    (λ on. has.1 (is ∙ on), λ member. sym is ∙ has.0 member)

pub returns-in-None : goal.returns-in-None
returns-in-None c =
    let is : get_or c.args.self.now.flags.items c.args.vertex false ≡ false = search rules in
    let has = flag_members_has c.args.self.now.flags.items c.args.vertex in
    (λ on. has.1 (is ∙ on), λ member. sym is ∙ has.0 member)
