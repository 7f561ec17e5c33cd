use Rattle.std.proofs.Common.{◌≡◌, ◌∷◌, ◌++◌, drop, map}
use Rattle.syntax.specs.SourceViews.{text_of}
use Rattle.initializer_types.specs.Checker.{without_ends}
use Rattle.types.proofs.schedule.call_of.Given as goal

abbrev pub invariant-texts : goal.invariant-texts
invariant-texts l =
    l.arguments.items ++ map without_ends (map text_of (drop l.text-index l.call.more.items))
    ≡ map without_ends (text_of l.call.first ∷ map text_of l.call.more.items)
