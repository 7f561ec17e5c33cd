-- The text of a plan is cut into its lines and words again.
use Rattle.std.proofs.Common.{◌≡◌, ℕ, ◌+◌, ◌<◌, ◌==◌, ◌&&◌, not, Bool, true, false, List, [], ◌∷◌, ◌++◌, length, map, Option, Some, None, codes, decimal, slice_get, refl, sym, ap, ◌∙◌, subst, arith}
use Rattle.std.proofs.Common.{append_assoc}
use Rattle.std.specs.List.{AllByRecursion}
use Rattle.std.proofs.lemmas.Bool.{false≢true}
use Rattle.apply_options.specs.ScheduleTree.{ScheduleTree}
use Rattle.apply_options.specs.declared.apply_schedule.ApplySchedule.{ApplySchedule}
use Rattle.typed_tree.specs.declared.expression.VarRef.{VarRef}
use Rattle.typed_tree.specs.declared.statement.ApplyEnds.{ApplyEnds}
use Rattle.typed_tree.specs.declared.statement.SetValue.{SetValue}
use Rattle.typed_tree.specs.declared.statement.SetValue.TheVariants as set
use Rattle.typed_tree.specs.declared.statement.VertexFilter.{VertexFilter}
use Rattle.typed_tree.specs.declared.statement.VertexFilter.TheVariants as end
use Rattle.typed_tree.specs.IntExpressionTree.{IntExpressionTree}
use Rattle.typed_tree.specs.BlockTree as action
use Rattle.typed_tree.specs.BlockTree.{SimpleStatementTree}
use Rattle.typed_tree.specs.ProgramTree.{ProgramTree}
use Rattle.plans.specs.Instruction as operation
use Rattle.plans.specs.Instruction.{InstructionTree, OperationTree}
use Rattle.plans.specs.Plan.{plan_of}
use Rattle.plan_text.specs.declared.applied_function.AppliedFunction.{AppliedFunction}
use Rattle.plan_text.specs.declared.applied_function.ChangedSet.{ChangedSet}
use Rattle.plan_text.specs.Expressions.{bracketed, spaced_words, condition_words, integer_words, program_name_at, vector_name_at}
use Rattle.plan_text.specs.Lines.{changed_words, dense_word, direction_word, edges_words, end_name, end_word, function_at, group_words, one_part, parallelization_word, part_words, put_words}
use Rattle.plan_text.specs.Lines.{reducing_word, reduction_word, second_function_words, second_words, set_instruction_words, set_words, statement_words, vertices_words}
use Rattle.lowering.specs.Text.{group_lines, instruction_lines, line_of, operation_words, shown_part, target_words, text_of}
use Rattle.plan_laws.specs.Brackets.{put_byte}
use Rattle.plan_laws.specs.Kinds.{instruction_words}
use Rattle.plan_laws.specs.Lines.{HasBareNames, IsBare, inside_after, is_bare, lines_in, numbered_words, words_of_line, words_of_lines, words_of_plan}
use Rattle.plan_laws.proofs.Bare.{AreBare, bare, bare_and, condition_bare, decimal_is_bare, dense_is_bare, direction_is_bare, function_is_bare, integer_bare, marked_is_bare, name_is_bare}
use Rattle.plan_laws.proofs.Bare.{parallelization_is_bare, reducing_is_bare, reduction_is_bare, vector_is_bare}
use Rattle.plan_laws.proofs.CutWords.{all_both}

-- no cut is in the word, and it ends outside brackets
abbrev IsUncut : (inside : Bool) → List ℕ → Type 0
IsUncut inside [] = inside ≡ false
IsUncut inside (b ∷ bytes) = (b == 32 && not inside ≡ false) × IsUncut (inside_after inside b) bytes

cut_alone : (word : List ℕ) (inside : Bool) → IsUncut inside word → words_of_line inside word ≡ word ∷ []
cut_alone [] inside is = refl
cut_alone (b ∷ word) inside is = rw (is.0) (ap (put_byte b) (cut_alone word (inside_after inside b) is.1))

cut_more : (word rest : List ℕ) (inside : Bool) → IsUncut inside word → words_of_line inside (word ++ 32 ∷ rest) ≡ word ∷ words_of_line false rest
cut_more [] rest inside is = ap (λ (i : Bool). words_of_line i (32 ∷ rest)) is
cut_more (b ∷ word) rest inside is = rw (is.0) (ap (put_byte b) (cut_more word rest (inside_after inside b) is.1))

-- a word without spaces and brackets, and one in brackets
tests : (x y z w : Bool) → not x && not y && not z && not w ≡ true → (x ≡ false) × (y ≡ false) × (z ≡ false) × (w ≡ false)
tests true y z w is = absurd (false≢true is)
tests false true z w is = absurd (false≢true is)
tests false false true w is = absurd (false≢true is)
tests false false false true is = absurd (false≢true is)
tests false false false false is = (refl, refl, refl, refl)

bare_tests : (b : ℕ) → is_bare b ≡ true → (b == 32 ≡ false) × (b == 10 ≡ false) × (b == 91 ≡ false) × (b == 93 ≡ false)
bare_tests b is = tests (b == 32) (b == 10) (b == 91) (b == 93) is

uncut_bare : (word : List ℕ) → IsBare word → IsUncut false word
uncut_bare [] is = refl
uncut_bare (b ∷ word) is =
    let no = bare_tests b is.0 in
    let space : b == 32 ≡ false = no.0 in
    let opens : b == 91 ≡ false = no.2 in
    let closes : b == 93 ≡ false = no.3 in
    let stays : inside_after false b ≡ false = rw (opens, closes) refl in
    (rw (space) refl, subst (λ (i : Bool). IsUncut i word) (sym stays) (uncut_bare word is.1))

-- no bracket stands in the text
abbrev IsClosed : List ℕ → Type 0
IsClosed text = AllByRecursion (λ b. (b == 91 ≡ false) × (b == 93 ≡ false)) text

closed_bare : (word : List ℕ) → IsBare word → IsClosed word
closed_bare [] is = tt
closed_bare (b ∷ word) is = let no = bare_tests b is.0 in ((no.2, no.3), closed_bare word is.1)

closed_joined : (words : List (List ℕ)) → AreBare words → IsClosed (spaced_words words)
closed_joined [] are = tt
closed_joined (word ∷ []) are = closed_bare word are.0
closed_joined (word ∷ next ∷ words) are =
    all_both (λ b. (b == 91 ≡ false) × (b == 93 ≡ false)) word (32 ∷ spaced_words (next ∷ words)) (closed_bare word are.0) ((refl, refl), closed_joined (next ∷ words) are.1)

no_cut : (x : Bool) → x && not true ≡ false
no_cut true = refl
no_cut false = refl

uncut_inside : (text : List ℕ) → IsClosed text → IsUncut true (text ++ 93 ∷ [])
uncut_inside [] is = (refl, refl)
uncut_inside (b ∷ text) is =
    let opens : b == 91 ≡ false = is.0.0 in
    let closes : b == 93 ≡ false = is.0.1 in
    let stays : inside_after true b ≡ true = rw (opens, closes) refl in
    (no_cut (b == 32), subst (λ (i : Bool). IsUncut i (text ++ 93 ∷ [])) (sym stays) (uncut_inside text is.1))

-- no line feed stands in the text
abbrev HasNoFeed : List ℕ → Type 0
HasNoFeed text = AllByRecursion (λ b. b == 10 ≡ false) text

no_feed_bare : (word : List ℕ) → IsBare word → HasNoFeed word
no_feed_bare [] is = tt
no_feed_bare (b ∷ word) is = ((bare_tests b is.0).1, no_feed_bare word is.1)

-- words of lines
record IsLineWord (word : List ℕ) : Type 0 where
  uncut : IsUncut false word
  no_feed : HasNoFeed word

abbrev AreLineWords : List (List ℕ) → Type 0
AreLineWords words = AllByRecursion IsLineWord words

no_feed_joined : (words : List (List ℕ)) → AreLineWords words → HasNoFeed (spaced_words words)
no_feed_joined [] are = tt
no_feed_joined (word ∷ []) are = are.0.no_feed
no_feed_joined (word ∷ next ∷ words) are =
    all_both (λ b. b == 10 ≡ false) word (32 ∷ spaced_words (next ∷ words)) are.0.no_feed (refl, no_feed_joined (next ∷ words) are.1)

plain_word : (word : List ℕ) → IsBare word → IsLineWord word
plain_word word is = record { uncut = uncut_bare word is; no_feed = no_feed_bare word is }

plain_words : (words : List (List ℕ)) → AreBare words → AreLineWords words
plain_words [] are = tt
plain_words (word ∷ words) are = (plain_word word are.0, plain_words words are.1)

in_brackets : (words : List (List ℕ)) → AreBare words → IsLineWord (bracketed words)
in_brackets words are = record {
  uncut = (refl, uncut_inside (spaced_words words) (closed_joined words are));
  no_feed = (refl, all_both (λ b. b == 10 ≡ false) (spaced_words words) (93 ∷ []) (no_feed_joined words (plain_words words are)) (refl, tt));
}

-- those of instructions
set_are : (target : List ℕ) (words : List (List ℕ)) → IsBare target → AreBare words → AreLineWords (set_words target words)
set_are target words is are = (plain_word (codes "set") (bare (codes "set") refl), (plain_word target is, (in_brackets words are, tt)))

put_are : (p : ProgramTree) (vector : ℕ) (index : IntExpressionTree) (word : List ℕ) (value : IntExpressionTree) → HasBareNames p → IsBare word → AreLineWords (put_words p vector index word value)
put_are p vector index word value are is = (
  plain_word (codes "put") (bare (codes "put") refl),
  (
    plain_word (vector_name_at p vector) (vector_is_bare p vector are),
    (in_brackets (integer_words p index) (integer_bare p index are), (plain_word word is, (in_brackets (integer_words p value) (integer_bare p value are), tt))),
  ),
)

end_is_bare : (p : ProgramTree) (o : Option VertexFilter) → HasBareNames p → IsBare (end_word p o)
end_is_bare p None are = bare (codes "-") refl
end_is_bare p (Some (end.Members slot)) are = name_is_bare p slot.name are
end_is_bare p (Some (end.Function function)) are = function_is_bare p (slice_get p.filters function) are

changed_bare : (p : ProgramTree) (o : Option ChangedSet) → HasBareNames p → AreBare (changed_words p o)
changed_bare p None are = tt
changed_bare p (Some c) are = (bare (codes "->") refl, (name_is_bare p c.name are, (vector_is_bare p c.vector are, tt)))

part_bare : (p : ProgramTree) (part : AppliedFunction) → HasBareNames p → AreBare (part_words p part)
part_bare p part are = (function_is_bare p (slice_get p.edge_functions part.function) are, changed_bare p part.changed are)

second_bare : (p : ProgramTree) (o : Option AppliedFunction) → HasBareNames p → AreBare (second_words p o)
second_bare p None are = tt
second_bare p (Some part) are = part_bare p part are

edges_bare : (p : ProgramTree) (ends : ApplyEnds) (first : AppliedFunction) (second : Option AppliedFunction) (apply_schedule : ApplySchedule) → HasBareNames p
    → AreBare (edges_words p ends first second apply_schedule)
edges_bare p ends first second apply_schedule are =
    let last : AreBare (codes ":" ∷ direction_word apply_schedule.direction ∷ parallelization_word apply_schedule.parallelization ∷ dense_word apply_schedule.dense_vertex_set ∷ []) =
    (bare (codes ":") refl, (direction_is_bare apply_schedule.direction, (parallelization_is_bare apply_schedule.parallelization, (dense_is_bare apply_schedule.dense_vertex_set, tt)))) in (
      bare (codes "eapply") refl,
      (
        end_is_bare p ends.from are,
        (
          end_is_bare p ends.to are,
          all_both IsBare (part_words p first)
              (second_words p second ++ codes ":" ∷ direction_word apply_schedule.direction ∷ parallelization_word apply_schedule.parallelization ∷ dense_word apply_schedule.dense_vertex_set ∷ [])
              (part_bare p first are) (all_both IsBare (second_words p second) _ (second_bare p second are) last),
        ),
      ),
    )

edges_are : (p : ProgramTree) (ends : ApplyEnds) (first : AppliedFunction) (second : Option AppliedFunction) (apply_schedule : ApplySchedule) → HasBareNames p
    → AreLineWords (edges_words p ends first second apply_schedule)
edges_are p ends first second apply_schedule are = plain_words (edges_words p ends first second apply_schedule) (edges_bare p ends first second apply_schedule are)

vertex_function_bare : (p : ProgramTree) (o : Option ℕ) → HasBareNames p → AreBare (second_function_words p o)
vertex_function_bare p None are = tt
vertex_function_bare p (Some function) are = (function_is_bare p (slice_get p.vertex_functions function) are, tt)

vertices_are : (p : ProgramTree) (slot : VarRef) (first : ℕ) (second : Option ℕ) → HasBareNames p → AreLineWords (vertices_words p slot first second)
vertices_are p slot first second are = plain_words (vertices_words p slot first second)
    (bare (codes "vapply") refl, (name_is_bare p slot.name are, (function_is_bare p (slice_get p.vertex_functions first) are, vertex_function_bare p second are)))

set_line_are : (p : ProgramTree) (name : ℕ) (value : SetValue) (apply_schedule : ApplySchedule) → HasBareNames p → AreLineWords (set_instruction_words p name value apply_schedule)
set_line_are p name set.Empty apply_schedule are = plain_words (codes "newset" ∷ program_name_at p name ∷ []) (bare (codes "newset") refl, (name_is_bare p name are, tt))
set_line_are p name set.All apply_schedule are = plain_words (codes "allset" ∷ program_name_at p name ∷ []) (bare (codes "allset") refl, (name_is_bare p name are, tt))
set_line_are p name (set.Copy slot) apply_schedule are =
    plain_words (codes "copyset" ∷ program_name_at p name ∷ program_name_at p slot.name ∷ []) (bare (codes "copyset") refl, (name_is_bare p name are, (name_is_bare p slot.name are, tt)))
set_line_are p name (set.Filter slot function) apply_schedule are =
    plain_words (codes "filter" ∷ program_name_at p name ∷ program_name_at p slot.name ∷ function_at p p.filters function ∷ [])
    (bare (codes "filter") refl, (name_is_bare p name are, (name_is_bare p slot.name are, (function_is_bare p (slice_get p.filters function) are, tt))))
set_line_are p name (set.Modified ends function vector) apply_schedule are =
    edges_are p ends (one_part function (Some (record { name = name; vector = vector }))) None apply_schedule are

word_and_brackets : (word : List ℕ) (words : List (List ℕ)) → IsBare word → AreBare words → AreLineWords (word ∷ bracketed words ∷ [])
word_and_brackets word words is are = (plain_word word is, (in_brackets words are, tt))

statement_are : (p : ProgramTree) (action : SimpleStatementTree) (apply_schedule : ApplySchedule) → HasBareNames p → AreLineWords (statement_words p action apply_schedule)
statement_are p (action.DeclareInt name e) apply_schedule are = set_are (program_name_at p name) (integer_words p e) (name_is_bare p name are) (integer_bare p e are)
statement_are p (action.DeclareBool name c) apply_schedule are = set_are (program_name_at p name) (condition_words p c) (name_is_bare p name are) (condition_bare p c are)
statement_are p (action.SetInt slot e) apply_schedule are = set_are (program_name_at p slot.name) (integer_words p e) (name_is_bare p slot.name are) (integer_bare p e are)
statement_are p (action.SetBool slot c) apply_schedule are = set_are (program_name_at p slot.name) (condition_words p c) (name_is_bare p slot.name are) (condition_bare p c are)
statement_are p (action.ReduceInt slot reduction e) apply_schedule are =
    set_are (program_name_at p slot.name) (program_name_at p slot.name ∷ integer_words p e ++ reducing_word reduction ∷ []) (name_is_bare p slot.name are)
    (name_is_bare p slot.name are, bare_and (integer_words p e) (reducing_word reduction) (integer_bare p e are) (reducing_is_bare reduction))
statement_are p (action.SetEntry vector index e) apply_schedule are = put_are p vector index (codes "=") e are (bare (codes "=") refl)
statement_are p (action.ReduceEntry vector index reduction e) apply_schedule are = put_are p vector index (reduction_word reduction) e are (reduction_is_bare reduction)
statement_are p (action.DeclareSet name value) apply_schedule are = set_line_are p name value apply_schedule are
statement_are p (action.AssignSet slot value) apply_schedule are = set_line_are p slot.name value apply_schedule are
statement_are p (action.AddVertex slot e) apply_schedule are =
    (plain_word (codes "addvertex") (bare (codes "addvertex") refl), word_and_brackets (program_name_at p slot.name) (integer_words p e) (name_is_bare p slot.name are) (integer_bare p e are))
statement_are p (action.PrintInt e) apply_schedule are = word_and_brackets (codes "print") (integer_words p e) (bare (codes "print") refl) (integer_bare p e are)
statement_are p (action.PrintBool c) apply_schedule are = word_and_brackets (codes "print") (condition_words p c) (bare (codes "print") refl) (condition_bare p c are)
statement_are p (action.ApplyVertex slot function) apply_schedule are = vertices_are p slot function None are
statement_are p (action.ApplyEdges ends function) apply_schedule are = edges_are p ends (one_part function None) None apply_schedule are

end_name_bare : (p : ProgramTree) (name : ℕ) → HasBareNames p → IsBare (end_name p name)
end_name_bare p name are = marked_is_bare (program_name_at p name) (codes ".end") (name_is_bare p name are) (bare (codes ".end") refl)

operation_are : (p : ProgramTree) (apply_schedule : ApplySchedule) (o : OperationTree) → HasBareNames p → AreLineWords (operation_words p apply_schedule o)
operation_are p apply_schedule (operation.Do action) are = statement_are p action apply_schedule are
operation_are p apply_schedule (operation.ApplyEdgesTogether ends first second) are = edges_are p ends (shown_part first) (Some (shown_part second)) apply_schedule are
operation_are p apply_schedule (operation.ApplyVerticesTogether slot first second) are = vertices_are p slot first (Some second) are
operation_are p apply_schedule (operation.Unless c to) are = word_and_brackets (codes "unless") (condition_words p c) (bare (codes "unless") refl) (condition_bare p c are)
operation_are p apply_schedule (operation.Enter name e) are = set_are (end_name p name) (integer_words p e) (end_name_bare p name are) (integer_bare p e are)
operation_are p apply_schedule (operation.UnlessBelow name to) are =
    word_and_brackets (codes "unless") (program_name_at p name ∷ end_name p name ∷ codes "<" ∷ []) (bare (codes "unless") refl)
    (name_is_bare p name are, (end_name_bare p name are, (bare (codes "<") refl, tt)))
operation_are p apply_schedule (operation.Advance name) are =
    set_are (program_name_at p name) (program_name_at p name ∷ codes "1" ∷ codes "+" ∷ []) (name_is_bare p name are)
    (name_is_bare p name are, (bare (codes "1") refl, (bare (codes "+") refl, tt)))
operation_are p apply_schedule operation.Turn are = (plain_word (codes "turn") (bare (codes "turn") refl), tt)
operation_are p apply_schedule (operation.Jump to) are = (plain_word (codes "jump") (bare (codes "jump") refl), tt)
operation_are p apply_schedule operation.End are = (plain_word (codes "end") (bare (codes "end") refl), tt)

number_word : (n : ℕ) → IsLineWord (decimal n)
number_word n = plain_word (decimal n) (decimal_is_bare n)

target_are : (o : OperationTree) → AreLineWords (target_words o)
target_are (operation.Do action) = tt
target_are (operation.ApplyEdgesTogether ends first second) = tt
target_are (operation.ApplyVerticesTogether slot first second) = tt
target_are (operation.Unless c to) = (number_word to, tt)
target_are (operation.Enter name e) = tt
target_are (operation.UnlessBelow name to) = (number_word to, tt)
target_are (operation.Advance name) = tt
target_are operation.Turn = tt
target_are (operation.Jump to) = (number_word to, tt)
target_are operation.End = tt

instruction_are : (p : ProgramTree) (number : ℕ) (i : InstructionTree) → HasBareNames p → AreLineWords (decimal number ∷ instruction_words p i)
instruction_are p number i are =
    (number_word number, all_both IsLineWord (operation_words p i.apply_schedule i.operation) (target_words i.operation) (operation_are p i.apply_schedule i.operation are) (target_are i.operation))

-- a line
cut_line : (words : List (List ℕ)) → 0 < length words → AreLineWords words → words_of_line false (spaced_words words) ≡ words
cut_line [] some are = absurd (omega (arith, some))
cut_line (word ∷ []) some are = cut_alone word false are.0.uncut
cut_line (word ∷ next ∷ words) some are =
    cut_more word (spaced_words (next ∷ words)) false are.0.uncut ∙ ap (λ (l : List (List ℕ)). word ∷ l) (cut_line (next ∷ words) (omega arith) are.1)

pub line_is : (p : ProgramTree) (number : ℕ) (i : InstructionTree) → HasBareNames p
    → words_of_line false (spaced_words (decimal number ∷ instruction_words p i)) ≡ decimal number ∷ instruction_words p i
line_is p number i are = cut_line (decimal number ∷ instruction_words p i) (omega arith) (instruction_are p number i are)

-- lines
feed_cuts : (line rest : List ℕ) → HasNoFeed line → lines_in (line ++ 10 ∷ rest) ≡ line ∷ lines_in rest
feed_cuts [] rest none = refl
feed_cuts (b ∷ line) rest none = rw (none.0) (ap (put_byte b) (feed_cuts line rest none.1))

line_first : (words : List (List ℕ)) (rest : List ℕ) → 0 < length words → AreLineWords words → words_of_lines (line_of words ++ rest) ≡ words ∷ words_of_lines rest
line_first words rest some are =
    ap words_of_lines (append_assoc (spaced_words words) (10 ∷ []) rest)
    ∙ ap (map (words_of_line false)) (feed_cuts (spaced_words words) rest (no_feed_joined words are))
    ∙ ap (λ (l : List (List ℕ)). l ∷ words_of_lines rest) (cut_line words some are)

instructions_are : (p : ProgramTree) (number : ℕ) (is : List InstructionTree) → HasBareNames p → words_of_lines (instruction_lines p number is) ≡ numbered_words p number is
instructions_are p number [] are = refl
instructions_are p number (i ∷ is) are =
    line_first (decimal number ∷ instruction_words p i) (instruction_lines p (number + 1) is) (omega arith) (instruction_are p number i are)
    ∙ ap (λ (l : List (List (List ℕ))). (decimal number ∷ instruction_words p i) ∷ l) (instructions_are p (number + 1) is are)

vectors_are : (p : ProgramTree) (vectors : List ℕ) → HasBareNames p → AreLineWords (map (vector_name_at p) vectors)
vectors_are p [] are = tt
vectors_are p (vector ∷ vectors) are = (plain_word (vector_name_at p vector) (vector_is_bare p vector are), vectors_are p vectors are)

group_are : (p : ProgramTree) (group : List ℕ) → HasBareNames p → AreLineWords (group_words p group)
group_are p group are = (plain_word (codes "fields") (bare (codes "fields") refl), vectors_are p group are)

groups_are : (p : ProgramTree) (groups : List (List ℕ)) (rest : List ℕ) → HasBareNames p
    → words_of_lines (group_lines p groups ++ rest) ≡ map (λ group. codes "fields" ∷ map (vector_name_at p) group) groups ++ words_of_lines rest
groups_are p [] rest are = refl
groups_are p (group ∷ groups) rest are =
    ap words_of_lines (append_assoc (line_of (group_words p group)) (group_lines p groups) rest)
    ∙ line_first (group_words p group) (group_lines p groups ++ rest) (omega arith) (group_are p group are)
    ∙ ap (λ (l : List (List (List ℕ))). group_words p group ∷ l) (groups_are p groups rest are)

pub text_is : (p : ProgramTree) (s : ScheduleTree) → HasBareNames p → words_of_lines (text_of p s) ≡ words_of_plan p s
text_is p s are =
    groups_are p s.groups (instruction_lines p 0 (plan_of p s)) are
    ∙ ap (λ (l : List (List (List ℕ))). map (λ group. codes "fields" ∷ map (vector_name_at p) group) s.groups ++ l) (instructions_are p 0 (plan_of p s) are)
