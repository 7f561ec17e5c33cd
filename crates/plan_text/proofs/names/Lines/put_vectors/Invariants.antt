use Rattle.std.proofs.Common.{◌≡◌, ◌++◌, drop, map}
use Rattle.typed_tree.specs.ProgramTree.{program_tree}
use Rattle.plan_text.specs.Expressions.{vector_name_at, spaced}
use Rattle.plan_text.proofs.names.Lines.put_vectors.Given as goal

-- with what is left to put it is what was to be put
abbrev pub invariant-vectors : goal.invariant-vectors
invariant-vectors l =
    l.out.items ++ spaced (map (vector_name_at (program_tree l.self.program.now)) (drop l.vector-index l.vectors))
    ≡ l.fn.out.items ++ spaced (map (vector_name_at (program_tree l.self.program.now)) l.vectors)
