-- Contributions of edges to vertices, and entries reduced with them.
use Rattle.std.specs.Prelude.{[], ◌≡◌, ℕ, ℤ, ◌==◌, if◌then◌else◌, List, ◌∷◌, ◌++◌, map}
use Rattle.apply_options.specs.declared.reduction.Reduction.{Reduction}
use Rattle.weighted_edges.specs.Edge.{Edge, unit_weight}
use Rattle.typed_tree.specs.FunctionStatementTree.{FunctionStatementsTree}
use Rattle.algorithm_meaning.specs.Arithmetic.{reduced}
use Rattle.algorithm_meaning.specs.State.{StateValue}
use Rattle.kernels.specs.Meaning.{given_in}

-- a number reduced with all that is given to a vertex; what is given is a vertex and a number each
abbrev pub reduced_at : Reduction → (v : ℕ) → ℤ → List (ℕ × ℤ) → ℤ
reduced_at r v x [] = x
reduced_at r v x (g ∷ gs) = reduced_at r v (if g.0 == v then reduced r x g.1 else x) gs

-- of what a vertex is given, a vector, a reduction and a number each, that for one vector
abbrev pub numbers_for_vector : (vector : ℕ) → (vertex : ℕ) → List (ℕ × Reduction × ℤ) → List (ℕ × ℤ)
numbers_for_vector x d [] = []
numbers_for_vector x d (g ∷ gs) = if g.0 == x then (d, g.2) ∷ numbers_for_vector x d gs else numbers_for_vector x d gs

-- what is given for a vector on these edges
abbrev pub given_on : (vector : ℕ) → (Edge → List (ℕ × Reduction × ℤ)) → List Edge → List (ℕ × ℤ)
given_on x gives [] = []
given_on x gives (edge ∷ edges) = numbers_for_vector x edge.1 (gives edge) ++ given_on x gives edges

-- the edges from a source to neighbours; an entry is a neighbour and a weight
abbrev pub row : ℕ → List (ℕ × ℤ) → List Edge
row source entries = map (λ e. (source, e.0, e.1)) entries

-- the edges from neighbours to a destination
abbrev pub column : ℕ → List (ℕ × ℤ) → List Edge
column destination entries = map (λ e. (e.0, destination, e.1)) entries

-- the entries of neighbours with the weights of the first of them; that of each other one is 1
abbrev pub weighted_entries : (neighbours : List ℕ) → (weights : List ℤ) → List (ℕ × ℤ)
weighted_entries [] ws = []
weighted_entries (k ∷ ks) [] = (k, unit_weight) ∷ weighted_entries ks []
weighted_entries (k ∷ ks) (w ∷ ws) = (k, w) ∷ weighted_entries ks ws

-- what several functions give on an edge, over the vectors of a state
abbrev pub all_given : StateValue → List FunctionStatementsTree → Edge → List (ℕ × Reduction × ℤ)
all_given m [] edge = []
all_given m (steps ∷ more) edge = given_in m steps edge ++ all_given m more edge

-- what is given for the vector is given by this reduction
abbrev pub IsBy : Reduction → (vector : ℕ) → List (ℕ × Reduction × ℤ) → Type 0
IsBy r x [] = Unit {0}
IsBy r x (g ∷ gs) = (g.0 ≡ x → g.1 ≡ r) × IsBy r x gs

-- so it is on every edge
abbrev pub IsReducedBy : Reduction → (vector : ℕ) → StateValue → List FunctionStatementsTree → Type 0
IsReducedBy r x m steps = (edge : Edge) → IsBy r x (all_given m steps edge)

-- the edges from sources to destinations, pair by pair, with the weights of the first of them; that of each other one is 1
abbrev pub pairs : (sources destinations : List ℕ) → (weights : List ℤ) → List Edge
pairs [] ds ws = []
pairs (s ∷ ss) [] ws = []
pairs (s ∷ ss) (d ∷ ds) [] = (s, d, unit_weight) ∷ pairs ss ds []
pairs (s ∷ ss) (d ∷ ds) (w ∷ ws) = (s, d, w) ∷ pairs ss ds ws
