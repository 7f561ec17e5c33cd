-- Lines of the text of a plan, and the words of a line.
use Rattle.std.specs.Prelude.{◌≡◌, ℕ, ◌+◌, ◌==◌, ◌&&◌, Bool, true, false, not, if◌then◌else◌, List, [], ◌∷◌, ◌++◌, codes, decimal, map}
use Rattle.std.specs.List.{AllByRecursion}
use Rattle.typed_tree.specs.ProgramTree.{ProgramTree}
use Rattle.apply_options.specs.ScheduleTree.{ScheduleTree}
use Rattle.plans.specs.Instruction.{InstructionTree}
use Rattle.plans.specs.Plan.{plan_of}
use Rattle.plan_text.specs.Expressions.{vector_name_at}
use Rattle.plan_laws.specs.Brackets.{put_byte}
use Rattle.plan_laws.specs.Kinds.{instruction_words}

-- the lines, of which each ends with a line feed, the byte 10
abbrev pub lines_in : List ℕ → List (List ℕ)
lines_in [] = []
lines_in (b ∷ bytes) = if b == 10 then [] ∷ lines_in bytes else put_byte b (lines_in bytes)

-- whether what comes after a byte is in brackets, which are the bytes 91 and 93
abbrev pub inside_after : (inside : Bool) → ℕ → Bool
inside_after inside b = if b == 91 then true else if b == 93 then false else inside

-- the words of a line, which is cut at each space (32) that is in no brackets
abbrev pub words_of_line : (inside : Bool) → List ℕ → List (List ℕ)
words_of_line inside [] = [] ∷ []
words_of_line inside (b ∷ bytes) =
    if b == 32 && not inside then [] ∷ words_of_line inside bytes else put_byte b (words_of_line (inside_after inside b) bytes)

-- the words of each line
abbrev pub words_of_lines : List ℕ → List (List (List ℕ))
words_of_lines text = map (words_of_line false) (lines_in text)

-- of each instruction its number, from this one on, and its words
abbrev pub numbered_words : ProgramTree → (number : ℕ) → List InstructionTree → List (List (List ℕ))
numbered_words p number [] = []
numbered_words p number (i ∷ is) = (decimal number ∷ instruction_words p i) ∷ numbered_words p (number + 1) is

-- of each group of vectors `fields` and their names, and then the words of the instructions
abbrev pub words_of_plan : ProgramTree → ScheduleTree → List (List (List ℕ))
words_of_plan p s = map (λ group. codes "fields" ∷ map (vector_name_at p) group) s.groups ++ numbered_words p 0 (plan_of p s)

-- a byte is no space, no line feed and no bracket, and so are those of each name
abbrev pub is_bare : ℕ → Bool
is_bare b = not (b == 32) && not (b == 10) && not (b == 91) && not (b == 93)

abbrev pub IsBare : List ℕ → Type 0
IsBare word = AllByRecursion (λ b. is_bare b ≡ true) word

abbrev pub HasBareNames : ProgramTree → Type 0
HasBareNames p = AllByRecursion IsBare p.names
