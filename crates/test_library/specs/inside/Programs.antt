-- A program for tests of scripts.
use Rattle.std.specs.Prelude.{[], None}
use Rattle.algorithm_meaning.specs.BlockTree.{Empty}
use Rattle.algorithm_meaning.specs.ProgramTree.{ProgramTree}

-- the program that declares nothing and does nothing
pub empty_program : ProgramTree
empty_program = record {
  names = [];
  labels = [];
  edges = None;
  vectors = [];
  sets = [];
  edge_functions = [];
  vertex_functions = [];
  filters = [];
  main = Empty;
  schedule = [];
}
