use Rattle.std.proofs.Common.{◌≡◌, ℕ, drop, nat_eq}
use Rattle.std.specs.Map.{lookup}
use Rattle.schedule.specs.inside.Putting.{first_of}
use Rattle.schedule.proofs.site.Sites.of.Given as goal

-- what a label stands before is there, or comes first of those to come
abbrev pub invariant-sites : goal.invariant-sites
invariant-sites l =
    (label : ℕ) → first_of (lookup (nat_eq label) l.sites) (lookup (nat_eq label) (drop l.site-index l.site-items)) ≡ lookup (nat_eq label) l.site-items
