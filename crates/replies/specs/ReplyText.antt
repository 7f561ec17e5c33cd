-- The lines of replies, and the text of the outcome of a run.
use Rattle.std.specs.Prelude.{ℕ, ℤ, List, [], ◌∷◌, ◌++◌, length, codes, decimal, if◌then◌else◌, Bool, true, false}
use Rattle.std.specs.Fmt.{signed_decimal}
use Rattle.std.specs.List.{flat_map}
use Rattle.weighted_edges.specs.Edge.{Edge, unit_weight}
use Rattle.algorithm_meaning.specs.Arithmetic.{int_equal}
use Rattle.algorithm_meaning.specs.declared.outcome.End.{End}
use Rattle.algorithm_meaning.specs.declared.outcome.End.TheVariants.{Fault, Finished, TurnsOver}
use Rattle.algorithm_meaning.specs.declared.outcome.NamedVector.{NamedVector}
use Rattle.algorithm_meaning.specs.declared.outcome.NamedSet.{NamedSet}
use Rattle.algorithm_meaning.specs.declared.outcome.Outcome.{Outcome}
use Rattle.replies.specs.declared.line_reply.LineReply.{LineReply}
use Rattle.replies.specs.declared.line_reply.LineReply.TheVariants.{Open, Version, Ticket, Released, Edges, Refused}

-- a word and a number
abbrev pub word_line : List ℕ → ℕ → List ℕ
word_line word n = word ++ (32 ∷ (decimal n ++ 10 ∷ []))

-- a ticket's number, and that of its version
abbrev pub ticket_line : ℕ → ℕ → List ℕ
ticket_line ticket version = codes "ticket" ++ (32 ∷ (decimal ticket ++ 32 ∷ word_line (codes "version") version))

-- a weight after a space, where it is not 1
abbrev pub weight_text : ℤ → List ℕ
weight_text w = if int_equal w unit_weight then [] else 32 ∷ signed_decimal w

-- an edge's source and destination, and its weight where that is not 1
abbrev pub edge_line : Edge → List ℕ
edge_line e = decimal e.0 ++ (32 ∷ (decimal e.1 ++ (weight_text e.2 ++ 10 ∷ [])))

-- how many edges there are, and a line for each
abbrev pub edges_text : List Edge → List ℕ
edges_text edges = word_line (codes "edges") (length edges) ++ flat_map edge_line edges

-- the text of a reply of one line
abbrev pub line_text : LineReply → List ℕ
line_text (Open vertices) = word_line (codes "open") vertices
line_text (Version number) = word_line (codes "version") number
line_text (Ticket ticket version) = ticket_line ticket version
line_text (Released ticket) = word_line (codes "released") ticket
line_text (Edges count) = word_line (codes "edges") count
line_text (Refused number) = word_line (codes "refused") number

-- whether the run ended by a fault
abbrev pub is_fault : End → Bool
is_fault (Fault number statement) = true
is_fault _ = false

-- a number after what it is
abbrev pub labelled : List ℕ → ℕ → List ℕ
labelled label number = label ++ decimal number

-- a fault's number, and that of its statement
abbrev pub fault_text : ℕ → ℕ → List ℕ
fault_text number statement = labelled (codes "fault ") number ++ labelled (codes " statement ") statement

-- how a run ended
abbrev pub end_text : End → List ℕ
end_text Finished = codes "finished"
end_text TurnsOver = codes "turns-over"
end_text (Fault number statement) = fault_text number statement

-- the line of how a run ended, and how many turns it used
abbrev pub end_line : End → ℕ → List ℕ
end_line end turns = codes "end " ++ (end_text end ++ (labelled (codes " turns ") turns ++ 10 ∷ []))

-- a name, and numbers after a space each
abbrev pub integers_line : List ℕ → List ℤ → List ℕ
integers_line name entries = name ++ (58 ∷ (flat_map (λ n. 32 ∷ signed_decimal n) entries ++ 10 ∷ []))

-- a name, and members after a space each
abbrev pub members_line : List ℕ → List ℕ → List ℕ
members_line name members = name ++ (58 ∷ (flat_map (λ n. 32 ∷ decimal n) members ++ 10 ∷ []))

-- a vector's line
abbrev pub vector_line : NamedVector → List ℕ
vector_line v = codes "vector " ++ integers_line v.name v.entries

-- a set's line
abbrev pub set_line : NamedSet → List ℕ
set_line s = codes "set " ++ members_line s.name s.members

-- what was printed, how the run ended, and a line for each vector and each set
abbrev pub outcome_text : Outcome → List ℕ
outcome_text o = o.text ++ (end_line o.end o.turns ++ (flat_map vector_line o.vectors ++ flat_map set_line o.sets))
