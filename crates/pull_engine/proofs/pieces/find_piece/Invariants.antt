use Rattle.std.proofs.Common.{Contains, drop}
use Rattle.crew.specs.Pieces.{pieces_of}
use Rattle.pull_engine.proofs.pieces.find_piece.Given as goal

-- a piece that is there is among those that are left
abbrev pub invariant-found : goal.invariant-found
invariant-found l = Contains (pieces_of l.found) l.piece → Contains (pieces_of (drop l.one-index l.found)) l.piece
