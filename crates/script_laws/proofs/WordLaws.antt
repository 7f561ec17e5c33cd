-- Words that are read as a command are its name and what spells its numbers.
use Rattle.std.proofs.Common.{◌≡◌, ◌⊎◌, ◌↔◌, ℕ, ℤ, ◌<◌, ◌^◌, Bool, true, false, List, [], ◌∷◌, Option, Some, None, codes, decimal, is_some, if◌then◌else◌, inl, inr, refl, sym, ap, ◌∙◌, subst, arith}
use Rattle.std.specs.Fmt.{signed_decimal}
use Rattle.std.specs.Option.{option_and_then, option_map}
use Rattle.std.specs.Str.{bytes_eq}
use lib.Pointwise.{bytes_decides}
use Rattle.std.proofs.lemmas.Bool.{false≢true}
use Rattle.weighted_edges.specs.Edge.{unit_weight}
use Rattle.decimal.specs.Numbers.{number_of}
use Rattle.decimal.proofs.NumberLaws.{integer-read_back}
use Rattle.scripts.specs.declared.commands.Command.{Command}
use Rattle.scripts.specs.declared.commands.Command.TheVariants.{Vertices, Add, Remove, Grow, Commit, Hold, Release, Edges, Run}
use Rattle.scripts.specs.Commands.{add_of, alone, command_of_words, grow_of, hold_of, one_number, remove_of, run_of, ticket_of, vertices_of, weight_of, with_numbers}
use Rattle.script_laws.specs.Spelling.{AreArguments, AreAt, AreEdge, AreLong, AreShort, HasWords, IsInRange, IsNumber, command_name, spelling_of}
use Rattle.script_laws.proofs.DigitLaws.{integer_is, number_is}
use Rattle.script_laws.proofs.Options.{and_some, map_some}

-- numbers of both lengths
short : (n : ℕ) (word : List ℕ) → number_of (2 ^ 32) word ≡ Some n → IsNumber (2 ^ 32) n word
short n word is = (number_is (2 ^ 32) n word (omega arith)).0 is

long : (n : ℕ) (word : List ℕ) → number_of (2 ^ 64) word ≡ Some n → IsNumber (2 ^ 64) n word
long n word is = (number_is (2 ^ 64) n word (omega arith)).0 is

of_short : (n : ℕ) (word : List ℕ) → IsNumber (2 ^ 32) n word → number_of (2 ^ 32) word ≡ Some n
of_short n word is = (number_is (2 ^ 32) n word (omega arith)).1 is

of_long : (n : ℕ) (word : List ℕ) → IsNumber (2 ^ 64) n word → number_of (2 ^ 64) word ≡ Some n
of_long n word is = (number_is (2 ^ 64) n word (omega arith)).1 is

-- nothing was read
not_none : {A : Type 0} {B : Type 0} (c : A) → None ≡ Some c → B
not_none c is = absurd (false≢true (ap is_some is))

-- the command has this name, and the words are its arguments
abbrev Says : (name : List ℕ) → List (List ℕ) → Command → Type 0
Says name words c = (name ≡ command_name c) × AreArguments c words

two_read : (make : ℕ → ℕ → Command) (a b : List ℕ) (c : Command) → with_numbers make a b ≡ Some c → (m : ℕ) × (n : ℕ) × AreShort (m ∷ n ∷ []) (a ∷ b ∷ []) × (make m n ≡ c)
two_read make a b c is =
    let first = and_some (λ (m : ℕ). option_map (make m) (number_of (2 ^ 32) b)) (number_of (2 ^ 32) a) c is in
    let second = map_some (make first.0) (number_of (2 ^ 32) b) c first.2 in
    (first.0, second.0, (short first.0 a first.1, (short second.0 b second.1, tt)), second.2)

two_spelled : (make : ℕ → ℕ → Command) (m n : ℕ) (a b : List ℕ) → AreShort (m ∷ n ∷ []) (a ∷ b ∷ []) → with_numbers make a b ≡ Some (make m n)
two_spelled make m n a b are =
    ap (option_and_then (λ (k : ℕ). option_map (make k) (number_of (2 ^ 32) b))) (of_short m a are.0) ∙ ap (option_map (make m)) (of_short n b are.1.0)

vertices_read : (words : List (List ℕ)) (c : Command) → vertices_of words ≡ Some c → Says (codes "vertices") words c
vertices_read [] c is = not_none c is
vertices_read (a ∷ []) c is =
    let one = map_some (λ (n : ℕ). Vertices n 64) (number_of (2 ^ 32) a) c is in
    subst (Says (codes "vertices") (a ∷ [])) one.2 (refl, inl ((short one.0 a one.1, tt), refl))
vertices_read (a ∷ b ∷ []) c is =
    let two = two_read Vertices a b c is in
    subst (Says (codes "vertices") (a ∷ b ∷ [])) two.3 (refl, inr two.2)
vertices_read (a ∷ b ∷ x ∷ rest) c is = not_none c is

edge_read : (u v : ℕ) (w : ℤ) (a b : List ℕ) (words : List (List ℕ)) → AreShort (u ∷ v ∷ []) (a ∷ b ∷ []) → weight_of words ≡ Some w → AreEdge u v w (a ∷ b ∷ words)
edge_read u v w a b [] are is = let same : unit_weight ≡ w = cc in (are, sym same)
edge_read u v w a b (word ∷ []) are is = (are, (integer_is w word).0 is)
edge_read u v w a b (x ∷ y ∷ rest) are is = not_none w is

add_read : (words : List (List ℕ)) (c : Command) → add_of words ≡ Some c → Says (codes "add") words c
add_read [] c is = not_none c is
add_read (a ∷ []) c is = not_none c is
add_read (a ∷ b ∷ words) c is =
    let u = and_some (λ (u : ℕ). option_and_then (λ (v : ℕ). option_map (Add u v) (weight_of words)) (number_of (2 ^ 32) b)) (number_of (2 ^ 32) a) c is in
    let v = and_some (λ (v : ℕ). option_map (Add u.0 v) (weight_of words)) (number_of (2 ^ 32) b) c u.2 in
    let w = map_some (Add u.0 v.0) (weight_of words) c v.2 in
    subst (Says (codes "add") (a ∷ b ∷ words)) w.2 (refl, edge_read u.0 v.0 w.0 a b words (short u.0 a u.1, (short v.0 b v.1, tt)) w.1)

remove_read : (words : List (List ℕ)) (c : Command) → remove_of words ≡ Some c → Says (codes "del") words c
remove_read [] c is = not_none c is
remove_read (a ∷ []) c is = not_none c is
remove_read (a ∷ b ∷ []) c is =
    let two = two_read Remove a b c is in
    subst (Says (codes "del") (a ∷ b ∷ [])) two.3 (refl, two.2)
remove_read (a ∷ b ∷ x ∷ rest) c is = not_none c is

grow_read : (words : List (List ℕ)) (c : Command) → grow_of words ≡ Some c → Says (codes "grow") words c
grow_read [] c is = not_none c is
grow_read (a ∷ []) c is =
    let one = map_some Grow (number_of (2 ^ 32) a) c is in
    subst (Says (codes "grow") (a ∷ [])) one.2 (refl, (short one.0 a one.1, tt))
grow_read (a ∷ b ∷ rest) c is = not_none c is

commit_read : (words : List (List ℕ)) (c : Command) → alone Commit words ≡ Some c → Says (codes "commit") words c
commit_read [] c is = let same : Commit ≡ c = cc in subst (Says (codes "commit") []) same (refl, refl)
commit_read (a ∷ rest) c is = not_none c is

one_read : (words : List (List ℕ)) (n : ℕ) → one_number words ≡ Some n → AreLong (n ∷ []) words
one_read [] n is = not_none n is
one_read (a ∷ []) n is = (long n a is, tt)
one_read (a ∷ b ∷ rest) n is = not_none n is

-- one of two ways
choice : {A : Type 0} (b : Bool) (x y : Option A) (c : A) → (if b then x else y) ≡ Some c → ((b ≡ true) × (x ≡ Some c)) ⊎ ((b ≡ false) × (y ≡ Some c))
choice true x y c is = inl (refl, is)
choice false x y c is = inr (refl, is)

hold_read : (words : List (List ℕ)) (c : Command) → hold_of words ≡ Some c → Says (codes "hold") words c
hold_read [] c is = let same : Hold None ≡ c = cc in subst (Says (codes "hold") []) same (refl, refl)
hold_read (word ∷ words) c is = elim (choice (bytes_eq word (codes "at")) (option_map (λ (k : ℕ). Hold (Some k)) (one_number words)) None c is) [
  | inl here ↦
      let one = map_some (λ (k : ℕ). Hold (Some k)) (one_number words) c here.1 in
      subst (Says (codes "hold") (word ∷ words)) one.2 (refl, ((bytes_decides word (codes "at")).0 here.0, one_read words one.0 one.1))
  | inr other ↦ not_none c other.1
]

release_read : (words : List (List ℕ)) (c : Command) → option_map Release (one_number words) ≡ Some c → Says (codes "release") words c
release_read words c is =
    let one = map_some Release (one_number words) c is in
    subst (Says (codes "release") words) one.2 (refl, one_read words one.0 one.1)

edges_read : (words : List (List ℕ)) (c : Command) → option_map Edges (ticket_of words) ≡ Some c → Says (codes "edges") words c
edges_read [] c is = let same : Edges None ≡ c = cc in subst (Says (codes "edges") []) same (refl, refl)
edges_read (word ∷ words) c is =
    let ticket = map_some Edges (ticket_of (word ∷ words)) c is in
    let one = map_some Some (one_number (word ∷ words)) ticket.0 ticket.1 in
    subst (Says (codes "edges") (word ∷ words)) (ap Edges one.2 ∙ ticket.2) (refl, one_read (word ∷ words) one.0 one.1)

ticket_read : (p t w : ℕ) (k : Option ℕ) (a b d : List ℕ) (words : List (List ℕ)) → IsNumber (2 ^ 64) p a → IsNumber (2 ^ 64) t b → IsNumber (2 ^ 64) w d → ticket_of words ≡ Some k
    → AreArguments (Run p t w k) (a ∷ b ∷ d ∷ words)
ticket_read p t w k a b d [] first second third is =
    let same : None ≡ k = cc in
    subst (λ (o : Option ℕ). AreArguments (Run p t w o) (a ∷ b ∷ d ∷ [])) same (first, (second, (third, tt)))
ticket_read p t w k a b d (word ∷ words) first second third is =
    let one = map_some Some (one_number (word ∷ words)) k is in
    subst (λ (o : Option ℕ). AreArguments (Run p t w o) (a ∷ b ∷ d ∷ word ∷ words)) one.2 (first, (second, (third, one_read (word ∷ words) one.0 one.1)))

run_from : (p t w : ℕ) (k : Option ℕ) (a b d : List ℕ) (words : List (List ℕ)) (c : Command) → IsNumber (2 ^ 64) p a → IsNumber (2 ^ 64) t b → IsNumber (2 ^ 64) w d → ticket_of words ≡ Some k
    → Run p t w k ≡ c → Says (codes "run") (a ∷ b ∷ d ∷ words) c
run_from p t w k a b d words c first second third is same = subst (Says (codes "run") (a ∷ b ∷ d ∷ words)) same (refl, ticket_read p t w k a b d words first second third is)

run_read : (words : List (List ℕ)) (c : Command) → run_of words ≡ Some c → Says (codes "run") words c
run_read [] c is = not_none c is
run_read (a ∷ []) c is = not_none c is
run_read (a ∷ b ∷ []) c is = not_none c is
run_read (a ∷ b ∷ d ∷ words) c is =
    let p = and_some (λ (p : ℕ). option_and_then (λ (t : ℕ). option_and_then (λ (w : ℕ). option_map (Run p t w) (ticket_of words)) (number_of (2 ^ 64) d)) (number_of (2 ^ 64) b))
    (number_of (2 ^ 64) a) c is in
    let t = and_some (λ (t : ℕ). option_and_then (λ (w : ℕ). option_map (Run p.0 t w) (ticket_of words)) (number_of (2 ^ 64) d)) (number_of (2 ^ 64) b) c p.2 in
    let w = and_some (λ (w : ℕ). option_map (Run p.0 t.0 w) (ticket_of words)) (number_of (2 ^ 64) d) c t.2 in
    let k = map_some (Run p.0 t.0 w.0) (ticket_of words) c w.2 in
    run_from p.0 t.0 w.0 k.0 a b d words c (long p.0 a p.1) (long t.0 b t.1) (long w.0 d w.1) k.1 k.2

named : (spelling name : List ℕ) (words : List (List ℕ)) (c : Command) → bytes_eq name spelling ≡ true → Says spelling words c → HasWords c (name ∷ words)
named spelling name words c here says = ((bytes_decides name spelling).0 here ∙ says.0, says.1)

command_read : (words : List (List ℕ)) (c : Command) → command_of_words words ≡ Some c → HasWords c words
command_read [] c is = not_none c is
command_read (name ∷ words) c is = elim (choice (bytes_eq name (codes "vertices")) (vertices_of words) _ c is) [
  | inl here ↦ named (codes "vertices") name words c here.0 (vertices_read words c here.1)
  | inr a ↦ elim (choice (bytes_eq name (codes "add")) (add_of words) _ c a.1) [
    | inl here ↦ named (codes "add") name words c here.0 (add_read words c here.1)
    | inr b ↦ elim (choice (bytes_eq name (codes "del")) (remove_of words) _ c b.1) [
      | inl here ↦ named (codes "del") name words c here.0 (remove_read words c here.1)
      | inr d ↦ elim (choice (bytes_eq name (codes "grow")) (grow_of words) _ c d.1) [
        | inl here ↦ named (codes "grow") name words c here.0 (grow_read words c here.1)
        | inr e ↦ elim (choice (bytes_eq name (codes "commit")) (alone Commit words) _ c e.1) [
          | inl here ↦ named (codes "commit") name words c here.0 (commit_read words c here.1)
          | inr f ↦ elim (choice (bytes_eq name (codes "hold")) (hold_of words) _ c f.1) [
            | inl here ↦ named (codes "hold") name words c here.0 (hold_read words c here.1)
            | inr g ↦ elim (choice (bytes_eq name (codes "release")) (option_map Release (one_number words)) _ c g.1) [
              | inl here ↦ named (codes "release") name words c here.0 (release_read words c here.1)
              | inr h ↦ elim (choice (bytes_eq name (codes "edges")) (option_map Edges (ticket_of words)) _ c h.1) [
                | inl here ↦ named (codes "edges") name words c here.0 (edges_read words c here.1)
                | inr i ↦ elim (choice (bytes_eq name (codes "run")) (run_of words) _ c i.1) [
                  | inl here ↦ named (codes "run") name words c here.0 (run_read words c here.1)
                  | inr none ↦ not_none c none.1
                ]
              ]
            ]
          ]
        ]
      ]
    ]
  ]
]

-- and the other way round
one_spelled : (words : List (List ℕ)) (n : ℕ) → AreLong (n ∷ []) words → one_number words ≡ Some n
one_spelled [] n are = absurd are
one_spelled (a ∷ []) n are = of_long n a are.0
one_spelled (a ∷ b ∷ rest) n are = absurd are.1

alone_spelled : (n : ℕ) (words : List (List ℕ)) → AreShort (n ∷ []) words → vertices_of words ≡ Some (Vertices n 64)
alone_spelled n [] are = absurd are
alone_spelled n (a ∷ []) are = ap (option_map (λ (k : ℕ). Vertices k 64)) (of_short n a are.0)
alone_spelled n (a ∷ b ∷ rest) are = absurd are.1

both_spelled : (n b : ℕ) (words : List (List ℕ)) → AreShort (n ∷ b ∷ []) words → vertices_of words ≡ Some (Vertices n b)
both_spelled n b [] are = absurd are
both_spelled n b (x ∷ []) are = absurd are.1
both_spelled n b (x ∷ y ∷ []) are = two_spelled Vertices n b x y are
both_spelled n b (x ∷ y ∷ z ∷ rest) are = absurd are.1.1

weighted_spelled : (u v : ℕ) (w : ℤ) (a b : List ℕ) (words : List (List ℕ)) → AreShort (u ∷ v ∷ []) (a ∷ b ∷ []) → weight_of words ≡ Some w → add_of (a ∷ b ∷ words) ≡ Some (Add u v w)
weighted_spelled u v w a b words are is =
    ap (option_and_then (λ (m : ℕ). option_and_then (λ (n : ℕ). option_map (Add m n) (weight_of words)) (number_of (2 ^ 32) b))) (of_short u a are.0)
    ∙ ap (option_and_then (λ (n : ℕ). option_map (Add u n) (weight_of words))) (of_short v b are.1.0) ∙ ap (option_map (Add u v)) is

edge_spelled : (u v : ℕ) (w : ℤ) (words : List (List ℕ)) → AreEdge u v w words → add_of words ≡ Some (Add u v w)
edge_spelled u v w [] are = absurd are
edge_spelled u v w (a ∷ []) are = absurd are
edge_spelled u v w (a ∷ b ∷ []) are = weighted_spelled u v w a b [] are.0 (ap Some (sym are.1))
edge_spelled u v w (a ∷ b ∷ d ∷ []) are = weighted_spelled u v w a b (d ∷ []) are.0 ((integer_is w d).1 are.1)
edge_spelled u v w (a ∷ b ∷ d ∷ e ∷ rest) are = absurd are

remove_spelled : (u v : ℕ) (words : List (List ℕ)) → AreShort (u ∷ v ∷ []) words → remove_of words ≡ Some (Remove u v)
remove_spelled u v [] are = absurd are
remove_spelled u v (x ∷ []) are = absurd are.1
remove_spelled u v (x ∷ y ∷ []) are = two_spelled Remove u v x y are
remove_spelled u v (x ∷ y ∷ z ∷ rest) are = absurd are.1.1

grow_spelled : (n : ℕ) (words : List (List ℕ)) → AreShort (n ∷ []) words → grow_of words ≡ Some (Grow n)
grow_spelled n [] are = absurd are
grow_spelled n (a ∷ []) are = ap (option_map Grow) (of_short n a are.0)
grow_spelled n (a ∷ b ∷ rest) are = absurd are.1

at_spelled : (k : ℕ) (words : List (List ℕ)) → AreAt k words → hold_of words ≡ Some (Hold (Some k))
at_spelled k [] are = absurd are
at_spelled k (word ∷ words) are = ap (λ (w : List ℕ). hold_of (w ∷ words)) are.0 ∙ ap (option_map (λ (n : ℕ). Hold (Some n))) (one_spelled words k are.1)

edges_spelled : (k : ℕ) (words : List (List ℕ)) → AreLong (k ∷ []) words → option_map Edges (ticket_of words) ≡ Some (Edges (Some k))
edges_spelled k [] are = absurd are
edges_spelled k (word ∷ words) are = ap (λ (o : Option ℕ). option_map Edges (option_map Some o)) (one_spelled (word ∷ words) k are)

ran_spelled : (p t w : ℕ) (k : Option ℕ) (a b d : List ℕ) (words : List (List ℕ)) → IsNumber (2 ^ 64) p a → IsNumber (2 ^ 64) t b → IsNumber (2 ^ 64) w d → ticket_of words ≡ Some k
    → run_of (a ∷ b ∷ d ∷ words) ≡ Some (Run p t w k)
ran_spelled p t w k a b d words first second third is =
    ap (option_and_then (λ (x : ℕ). option_and_then (λ (y : ℕ). option_and_then (λ (z : ℕ). option_map (Run x y z) (ticket_of words)) (number_of (2 ^ 64) d)) (number_of (2 ^ 64) b)))
    (of_long p a first)
    ∙ ap (option_and_then (λ (y : ℕ). option_and_then (λ (z : ℕ). option_map (Run p y z) (ticket_of words)) (number_of (2 ^ 64) d))) (of_long t b second)
    ∙ ap (option_and_then (λ (z : ℕ). option_map (Run p t z) (ticket_of words))) (of_long w d third) ∙ ap (option_map (Run p t w)) is

newest_spelled : (p t w : ℕ) (words : List (List ℕ)) → AreLong (p ∷ t ∷ w ∷ []) words → run_of words ≡ Some (Run p t w None)
newest_spelled p t w [] are = absurd are
newest_spelled p t w (a ∷ []) are = absurd are.1
newest_spelled p t w (a ∷ b ∷ []) are = absurd are.1.1
newest_spelled p t w (a ∷ b ∷ d ∷ []) are = ran_spelled p t w None a b d [] are.0 are.1.0 are.1.1.0 refl
newest_spelled p t w (a ∷ b ∷ d ∷ e ∷ rest) are = absurd are.1.1.1

held_spelled : (p t w k : ℕ) (words : List (List ℕ)) → AreLong (p ∷ t ∷ w ∷ k ∷ []) words → run_of words ≡ Some (Run p t w (Some k))
held_spelled p t w k [] are = absurd are
held_spelled p t w k (a ∷ []) are = absurd are.1
held_spelled p t w k (a ∷ b ∷ []) are = absurd are.1.1
held_spelled p t w k (a ∷ b ∷ d ∷ []) are = absurd are.1.1.1
held_spelled p t w k (a ∷ b ∷ d ∷ e ∷ rest) are =
    ran_spelled p t w (Some k) a b d (e ∷ rest) are.0 are.1.0 are.1.1.0 (ap (option_map Some) (one_spelled (e ∷ rest) k are.1.1.1))

arguments_spelled : (c : Command) (words : List (List ℕ)) → AreArguments c words → command_of_words (command_name c ∷ words) ≡ Some c
arguments_spelled (Vertices n b) words (inl are) = alone_spelled n words are.0 ∙ ap (λ (k : ℕ). Some (Vertices n k)) (sym are.1)
arguments_spelled (Vertices n b) words (inr are) = both_spelled n b words are
arguments_spelled (Add u v w) words are = edge_spelled u v w words are
arguments_spelled (Remove u v) words are = remove_spelled u v words are
arguments_spelled (Grow n) words are = grow_spelled n words are
arguments_spelled Commit words are = ap (alone Commit) are
arguments_spelled (Hold None) words are = ap hold_of are
arguments_spelled (Hold (Some k)) words are = at_spelled k words are
arguments_spelled (Release k) words are = ap (option_map Release) (one_spelled words k are)
arguments_spelled (Edges None) words are = ap (λ (ws : List (List ℕ)). option_map Edges (ticket_of ws)) are
arguments_spelled (Edges (Some k)) words are = edges_spelled k words are
arguments_spelled (Run p t w None) words are = newest_spelled p t w words are
arguments_spelled (Run p t w (Some k)) words are = held_spelled p t w k words are

command_spelled : (words : List (List ℕ)) (c : Command) → HasWords c words → command_of_words words ≡ Some c
command_spelled [] c is = absurd is
command_spelled (name ∷ words) c is = ap (λ (n : List ℕ). command_of_words (n ∷ words)) is.0 ∙ arguments_spelled c words is.1

pub command_is : (words : List (List ℕ)) (c : Command) → (command_of_words words ≡ Some c) ↔ HasWords c words
command_is words c = (command_read words c, command_spelled words c)

-- the decimal digits of a number spell it
short_digits : (n : ℕ) → n < 2 ^ 32 → IsNumber (2 ^ 32) n (decimal n)
short_digits n below = record { below = below; zeros = 0; digits = refl }

long_digits : (n : ℕ) → n < 2 ^ 64 → IsNumber (2 ^ 64) n (decimal n)
long_digits n below = record { below = below; zeros = 0; digits = refl }

pub spelling_is : (c : Command) → IsInRange c → command_of_words (spelling_of c) ≡ Some c
spelling_is (Vertices n b) are = both_spelled n b (decimal n ∷ decimal b ∷ []) (short_digits n are.0, (short_digits b are.1, tt))
spelling_is (Add u v w) are = weighted_spelled u v w (decimal u) (decimal v) (signed_decimal w ∷ []) (short_digits u are.0, (short_digits v are.1, tt)) (integer-read_back w are.2)
spelling_is (Remove u v) are = remove_spelled u v (decimal u ∷ decimal v ∷ []) (short_digits u are.0, (short_digits v are.1, tt))
spelling_is (Grow n) are = grow_spelled n (decimal n ∷ []) (short_digits n are, tt)
spelling_is Commit are = refl
spelling_is (Hold None) are = refl
spelling_is (Hold (Some k)) are = at_spelled k (codes "at" ∷ decimal k ∷ []) (refl, (long_digits k are, tt))
spelling_is (Release k) are = ap (option_map Release) (one_spelled (decimal k ∷ []) k (long_digits k are, tt))
spelling_is (Edges None) are = refl
spelling_is (Edges (Some k)) are = edges_spelled k (decimal k ∷ []) (long_digits k are, tt)
spelling_is (Run p t w None) are = newest_spelled p t w (decimal p ∷ decimal t ∷ decimal w ∷ []) (long_digits p are.0, (long_digits t are.1, (long_digits w are.2, tt)))
spelling_is (Run p t w (Some k)) are = held_spelled p t w k (decimal p ∷ decimal t ∷ decimal w ∷ decimal k ∷ [])
    (long_digits p are.0, (long_digits t are.1, (long_digits w are.2, (long_digits k are.3, tt))))
