-- Proofs of `put`, src/site.rt.
use Rattle.std.proofs.Common.{ap, sym, ◌∙◌, ◌++◌, ◌∷◌, [], nat_eq}
use Rattle.std.specs.Map.{lookup}
use Rattle.indexmap.proofs.CallerLemmas.{insert_entry-new}
use Rattle.schedule.proofs.Indices.{site_last}
use Rattle.schedule.proofs.site.Sites.put.Goals as goal

pub returns-in_ok-insert-in-None : goal.returns-in_ok-insert-in-None
returns-in_ok-insert-in-None c = λ other rest.
    let absent = sym c.get.ensures ∙ c.in-None.is in
    let put = c.in_ok-insert-in-None.ensures.entries ∙ (insert_entry-new _ c.self.inside.entries c.args.label c.args.site (ap (lookup (nat_eq c.args.label)) c.self.view_is ∙ absent)
    ∙ ap (λ es. es ++ (c.args.label, c.args.site) ∷ []) c.self.view_is) in
    rw put (site_last c.args.self.now c.args.label c.args.site other rest)
