use Rattle.std.proofs.Common.{map, drop}
use Rattle.driver.specs.Reading.{tree_of}
use Rattle.driver.proofs.Compiling.{Compiles}
use Rattle.driver.proofs.serving.compiled_files.Given as goal

-- the files so far were compiled
abbrev pub invariant-names : goal.invariant-names
invariant-names g l =
    Compiles (g.F.Files.may_hold l.files) (g.F.Files.may_fail l.files) (map (λ n. n.now) l.names) (map (λ n. n.now) (drop l.name-index l.names)) (map tree_of l.compiled.items)
