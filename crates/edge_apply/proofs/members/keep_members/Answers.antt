-- Proofs of `keep_members`, src/members.rt.
use Rattle.std.proofs.Common.{◌≡◌, Option, Bor, ℕ, List, take, sym, subst}
use Rattle.std.specs.List.{filter}
use Rattle.edge_apply.specs.Words.{passes_words}
use Rattle.edge_apply.proofs.Filtered.{all_pass}
use Rattle.edge_apply.proofs.members.keep_members.Goals as goal

pub returns-in-None-clause-kept : goal.returns-in-None-clause-kept
returns-in-None-clause-kept c =
    let first = take c.args.count c.args.block.now in
    subst (λ (words : Option (Bor (List ℕ))). first ≡ filter (passes_words words) first) (sym c.in-None.is) (sym (all_pass first))
