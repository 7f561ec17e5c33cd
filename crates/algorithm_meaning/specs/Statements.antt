-- Statements on variables and entries, and `print`.
use Rattle.std.specs.Prelude.{[], ℤ, ◌∷◌, ◌++◌, Bool, ℕ, slice_set, pos, slice_index_or, take, length, List, true, false}
use Rattle.std.specs.Fmt.{signed_decimal}
use Rattle.apply_options.specs.declared.reduction.Reduction.{Reduction}
use Rattle.typed_tree.specs.IntExpressionTree.{IntExpressionTree}
use Rattle.typed_tree.specs.BoolExpressionTree.{BoolExpressionTree}
use Rattle.algorithm_meaning.specs.State.{ScopeValue, StateValue}
use Rattle.algorithm_meaning.specs.Arithmetic.{reduced}
use Rattle.algorithm_meaning.specs.Stand.{Stand, Live, int_value_in, with_value, bool_value_in, vertex_in}
use Rattle.algorithm_meaning.specs.Value.{with_entry, reduce_at}

-- the visible variables with one more
abbrev pub new_integer : ScopeValue → ℤ → ScopeValue
new_integer scope n = record scope { integers = scope.integers ++ n ∷ [] }

abbrev pub new_condition : ScopeValue → Bool → ScopeValue
new_condition scope b = record scope { conditions = scope.conditions ++ b ∷ [] }

-- the visible variables with another value of one
abbrev pub set_int : ScopeValue → ℕ → ℤ → ScopeValue
set_int scope index n = record scope { integers = slice_set scope.integers index n }

abbrev pub set_bool : ScopeValue → ℕ → Bool → ScopeValue
set_bool scope index b = record scope { conditions = slice_set scope.conditions index b }

-- the variable at an index reduced with a number
abbrev pub reduce_int : ScopeValue → ℕ → Reduction → ℤ → ScopeValue
reduce_int scope index reduction n = set_int scope index (reduced reduction (slice_index_or scope.integers index (pos 0)) n)

-- the variables of the second that were visible in the first already
abbrev pub forget_new : ScopeValue → ScopeValue → ScopeValue
forget_new old scope = record scope {
  integers = take (length old.integers) scope.integers;
  conditions = take (length old.conditions) scope.conditions;
}

abbrev pub with_scope : StateValue → ScopeValue → StateValue
with_scope s scope = record s { scope = scope }

abbrev pub with_new_integer : StateValue → ℤ → StateValue
with_new_integer s n = with_scope s (new_integer s.scope n)

abbrev pub after_declare_int : (vertices number : ℕ) → IntExpressionTree → StateValue → Stand
after_declare_int vertices number e s = with_value (int_value_in vertices e s) number s (λ n. Live (with_new_integer s n))

abbrev pub after_declare_bool : (vertices number : ℕ) → BoolExpressionTree → StateValue → Stand
after_declare_bool vertices number c s =
    with_value (bool_value_in vertices c s) number s (λ b. Live (with_scope s (new_condition s.scope b)))

abbrev pub after_set_int : (vertices number index : ℕ) → IntExpressionTree → StateValue → Stand
after_set_int vertices number index e s =
    with_value (int_value_in vertices e s) number s (λ n. Live (with_scope s (set_int s.scope index n)))

abbrev pub after_set_bool : (vertices number index : ℕ) → BoolExpressionTree → StateValue → Stand
after_set_bool vertices number index c s =
    with_value (bool_value_in vertices c s) number s (λ b. Live (with_scope s (set_bool s.scope index b)))

abbrev pub after_reduce_int : (vertices number index : ℕ) → Reduction → IntExpressionTree → StateValue → Stand
after_reduce_int vertices number index reduction e s =
    with_value (int_value_in vertices e s) number s (λ n. Live (with_scope s (reduce_int s.scope index reduction n)))

abbrev pub with_vectors : StateValue → List (List ℤ) → StateValue
with_vectors s vectors = record s { vectors = vectors }

-- a vector gets an entry at an index, which must be a vertex
abbrev pub after_set_entry : (vertices number vector : ℕ) → (index e : IntExpressionTree) → StateValue → Stand
after_set_entry vertices number vector index e s =
    with_value (vertex_in vertices index s) number s (λ v.
    with_value (int_value_in vertices e s) number s (λ n.
    Live (with_vectors s (with_entry s.vectors vector v n))))

-- the entry at an index is reduced with a number
abbrev pub after_reduce_entry : (vertices number vector : ℕ) → (index : IntExpressionTree) → Reduction → (e : IntExpressionTree) → StateValue → Stand
after_reduce_entry vertices number vector index reduction e s =
    with_value (vertex_in vertices index s) number s (λ v.
    with_value (int_value_in vertices e s) number s (λ n.
    Live (with_vectors s (reduce_at s.vectors vector v reduction n))))

abbrev pub with_text : StateValue → List ℕ → StateValue
with_text s line = record s { text = s.text ++ line }

-- a line of text is its bytes and a line feed
abbrev pub integer_line : ℤ → List ℕ
integer_line n = signed_decimal n ++ 10 ∷ []

abbrev pub condition_line : Bool → List ℕ
condition_line true = 116 ∷ 114 ∷ 117 ∷ 101 ∷ 10 ∷ []
condition_line false = 102 ∷ 97 ∷ 108 ∷ 115 ∷ 101 ∷ 10 ∷ []

-- `print` of a number, and of a truth value
abbrev pub after_print_int : (vertices number : ℕ) → IntExpressionTree → StateValue → Stand
after_print_int vertices number e s = with_value (int_value_in vertices e s) number s (λ n. Live (with_text s (integer_line n)))

abbrev pub after_print_bool : (vertices number : ℕ) → BoolExpressionTree → StateValue → Stand
after_print_bool vertices number c s = with_value (bool_value_in vertices c s) number s (λ b. Live (with_text s (condition_line b)))
