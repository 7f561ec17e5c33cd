-- Proofs of `keep_members_weighted`, src/weighted_members.rt.
use Rattle.std.proofs.Common.{◌≡◌, Option, Bor, ℕ, List, take, sym, subst}
use Rattle.std.specs.List.{filter}
use Rattle.edge_fold.specs.Contributions.{weighted_entries}
use Rattle.edge_apply.specs.Words.{passes_words}
use Rattle.edge_apply.proofs.Filtered.{all_pass}
use Rattle.edge_apply.proofs.weighted_members.keep_members_weighted.Goals as goal

pub returns-in-None-clause-kept : goal.returns-in-None-clause-kept
returns-in-None-clause-kept c =
    let first = weighted_entries (take c.args.count c.args.block.now) (take c.args.count c.args.weights.now) in
    subst (λ (words : Option (Bor (List ℕ))). first ≡ filter (λ e. passes_words words e.0) first) (sym c.in-None.is) (sym (all_pass first))
