use Rattle.std.proofs.Common.{◌≡◌, ◌++◌, drop}
use Rattle.typed_tree.specs.BlockTree.{block_tree}
use Rattle.schedule.specs.Schedule.{sites_of}
use Rattle.schedule.proofs.site.+sites.Given as goal

-- the labels so far were put after, and those of the others are to come
abbrev pub invariant-push_sites-statements : goal.invariant-push_sites-statements
invariant-push_sites-statements l = record {
  index : l.behind ≡ l.statement-index;
  sites : l.sites.items ++ sites_of (block_tree (drop l.statement-index l.statements)) ≡ l.initial.sites.items ++ sites_of (block_tree l.statements);
}
