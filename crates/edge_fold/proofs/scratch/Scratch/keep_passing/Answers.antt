-- Proofs of `keep_passing`, src/apply_changes.rt.
use Rattle.edge_fold.proofs.scratch.Scratch.keep_passing.Goals as goal

pub returns-in_err-keep_passing-clause-folded : goal.returns-in_err-keep_passing-clause-folded
returns-in_err-keep_passing-clause-folded c f m steps edges has x r by = let was = has x r by in record { entries = was.entries; reduction = was.reduction }

pub returns-clause-folded : goal.returns-clause-folded
returns-clause-folded c f m steps edges has x r by = let was = has x r by in record { entries = was.entries; reduction = was.reduction }
