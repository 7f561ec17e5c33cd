-- Proofs of `push`, src/names.rt.
use Rattle.std.proofs.Common.{◌≡◌, ap, sym, ◌∙◌, subst, [], ◌∷◌, ◌++◌, None}
use Rattle.std.specs.Str.{bytes_eq}
use Rattle.std.specs.Map.{lookup}
use Rattle.indexmap.proofs.CallerLemmas.{insert_entry-new}
use Rattle.expression_types.specs.ScopeTree.{found}
use Rattle.expression_types.specs.inside.Names.{shown}
use Rattle.expression_types.proofs.NamesLaws.{found-shown, shown-append}
use Rattle.expression_types.proofs.names.Names.push.Goals as goal

pub returns-clause-ok : goal.returns-clause-ok
returns-clause-ok g c =
    let es = c.self.inside.entries.entries in
    let name = c.in_ok-name.name in
    let none = found-shown c.args.name.now es ∙ ap (found c.args.name.now) c.self.view_is ∙ c.requires in
    let absent = subst (λ bytes. lookup (λ k. bytes_eq bytes k.items) es ≡ None) (sym c.in_ok-name.ensures.items) none in
    ap shown (c.in_ok-insert.ensures.entries ∙ insert_entry-new _ c.self.inside.entries name c.args.item absent)
    ∙ shown-append es name c.args.item
    ∙ (λ i. c.self.view_is i ++ (c.in_ok-name.ensures.items i, c.args.item) ∷ [])
