-- Proofs of `push`, src/reductions.rt.
use Rattle.std.proofs.Common.{ap, ◌∙◌, ◌++◌, ◌∷◌, [], nat_eq}
use Rattle.std.specs.Map.{lookup}
use Rattle.indexmap.proofs.CallerLemmas.{insert_entry-new}
use Rattle.initializer_types.proofs.reductions.Reductions.push.Goals as goal

pub returns-clause-ok : goal.returns-clause-ok
returns-clause-ok c =
    c.in_ok-insert.ensures.entries ∙ insert_entry-new _ c.self.inside.entries c.args.vector c.args.reduction (ap (lookup (nat_eq c.args.vector)) c.self.view_is ∙ c.requires)
    ∙ ap (λ es. es ++ (c.args.vector, c.args.reduction) ∷ []) c.self.view_is
