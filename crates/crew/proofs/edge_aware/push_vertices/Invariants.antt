use Rattle.crew.specs.inside.Cuts.{CutsOn}
use Rattle.crew.proofs.edge_aware.push_vertices.Given as goal

-- the vertices so far
abbrev pub invariant-vertices : goal.invariant-vertices
invariant-vertices g l = CutsOn l.limit (g.D.DegreeList.degrees l.degrees) l.fn.reached l.start l.fn.ends.items l.reached l.index l.ends.items
