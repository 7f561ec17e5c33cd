-- Laws of writing terminals one after the other.
use Rattle.std.proofs.Common.{◌≡◌, ℕ, ◌+◌, ◌<◌, ◌≤◌, List, [], ◌∷◌, ◌++◌, map, length, get_or, drop, suc, refl, sym, ◌∙◌, ap, subst, append_assoc, drop-cons, add-one, append-nil}
use Rattle.std.proofs.lemmas.List.{drop_all}
use Rattle.syntax.specs.Terminals.{Terminal}
use Rattle.syntax.specs.declared.statement.Statement.{Statement}
use Rattle.syntax.specs.SourceSpelling.{each_before, label_terminals, action_before, block_before}
use Rattle.syntax.specs.SourceViews.{statement_kind_tree, block_tree}
use Rattle.source_text.specs.Text.{terminal_bytes, gap_after, text_of}
use Rattle.source_text.specs.inside.Written.{Completes, Puts, PutsUpTo}

-- the bytes of a terminal and what stands after it
pub put_terminal : (w : Terminal) (bytes : List ℕ) (gap : ℕ) (old new : List ℕ) → bytes ≡ terminal_bytes w → gap ≡ gap_after w → new ≡ old ++ (bytes ++ gap ∷ [])
    → Puts (λ rest. w ∷ rest) old new
unfolding Completes
put_terminal w bytes gap old new spelled behind is rest whole h =
    ap (λ n. n ++ text_of rest) is
    ∙ append_assoc old (bytes ++ gap ∷ []) (text_of rest)
    ∙ ap (λ t. old ++ t) (append_assoc bytes (gap ∷ []) (text_of rest))
    ∙ ap (λ b. old ++ (b ++ gap ∷ text_of rest)) spelled
    ∙ ap (λ g. old ++ (terminal_bytes w ++ g ∷ text_of rest)) behind
    ∙ h

-- other names for the same terminals
pub completes_same : (bytes whole : List ℕ) (terminals others : List Terminal) → terminals ≡ others → Completes bytes terminals whole → Completes bytes others whole
completes_same bytes whole terminals others same h = subst (λ w. Completes bytes w whole) same h

-- items one after the other
pub up_to_none : {A : Type 0} (before : List Terminal → List Terminal) (step : A → List Terminal → List Terminal) (items : List A) (old : List ℕ)
    → ((rest : List Terminal) → before rest ≡ each_before step items rest) → PutsUpTo before step items 0 old old
unfolding PutsUpTo
up_to_none before step items old same rest whole h = completes_same old whole (before rest) (each_before step items rest) (same rest) h

pub up_to_first : {A : Type 0} (before first : List Terminal → List Terminal) (step : A → List Terminal → List Terminal) (items : List A) (old new : List ℕ)
    → ((rest : List Terminal) → before rest ≡ first (each_before step items rest)) → Puts first old new → PutsUpTo before step items 0 old new
unfolding PutsUpTo
up_to_first before first step items old new same puts rest whole h =
    puts (each_before step items rest) whole (completes_same old whole (before rest) (first (each_before step items rest)) (same rest) h)

pub up_to_more : {A : Type 0} (before : List Terminal → List Terminal) (step : A → List Terminal → List Terminal) (items : List A) (i : ℕ) (d x : A) (old mid new : List ℕ)
    → PutsUpTo before step items i old mid → i < length items → x ≡ get_or items i d → Puts (step x) mid new → PutsUpTo before step items (i + 1) old new
unfolding PutsUpTo
up_to_more before step items i d x old mid new so_far inside is puts rest whole h =
    let cut : drop i items ≡ x ∷ drop (i + 1) items =
    drop-cons items i d inside ∙ ap (λ y. y ∷ drop (suc i) items) (sym is) ∙ ap (λ n. x ∷ drop n items) (sym (add-one i)) in
    puts (each_before step (drop (i + 1) items) rest) whole
    (completes_same mid whole _ _ (ap (λ xs. each_before step xs rest) cut) (so_far rest whole h))

pub up_to_all : {A : Type 0} (before : List Terminal → List Terminal) (step : A → List Terminal → List Terminal) (items : List A) (i : ℕ) (old new : List ℕ)
    → PutsUpTo before step items i old new → length items ≤ i → Puts before old new
unfolding PutsUpTo
up_to_all before step items i old new so_far past rest whole h =
    completes_same new whole _ _ (ap (λ xs. each_before step xs rest) (drop_all i items past)) (so_far rest whole h)

-- each of the trees that items are
pub each_before-map : {A B : Type 0} (f : A → B) (step : B → List Terminal → List Terminal) (items : List A) (rest : List Terminal)
    → each_before step (map f items) rest ≡ each_before (λ x. step (f x)) items rest
each_before-map f step [] rest = refl
each_before-map f step (x ∷ items) rest = ap (step (f x)) (each_before-map f step items rest)

-- nothing is left
pub written_whole : (terminals : List Terminal) (new : List ℕ) → ((whole : List ℕ) → Completes [] terminals whole → Completes new [] whole) → new ≡ text_of terminals
unfolding Completes
written_whole terminals new goes = sym (append-nil new) ∙ goes (text_of terminals) refl

pub completes_from : (bytes others whole : List ℕ) (terminals : List Terminal) → bytes ≡ others → Completes others terminals whole → Completes bytes terminals whole
completes_from bytes others whole terminals same h = subst (λ b. Completes b terminals whole) (sym same) h

-- statements one after the other
abbrev pub statement_before : Statement → List Terminal → List Terminal
statement_before s rest = label_terminals s.label ++ action_before (statement_kind_tree s.action) rest

pub block_before-each : (items : List Statement) (rest : List Terminal) → block_before (block_tree items) rest ≡ each_before statement_before items rest
block_before-each [] rest = refl
block_before-each (s ∷ items) rest = ap (λ r. label_terminals s.label ++ action_before (statement_kind_tree s.action) r) (block_before-each items rest)

-- what stands before a last terminal is put down
pub puts_all_but : (terminals : List Terminal) (last : Terminal) (old new : List ℕ) → Puts (λ rest. terminals ++ rest) old new
    → (rest : List Terminal) (whole : List ℕ) → Completes old ((terminals ++ last ∷ []) ++ rest) whole → Completes new (last ∷ rest) whole
puts_all_but terminals last old new puts rest whole h =
    puts (last ∷ rest) whole (completes_same old whole _ _ (append_assoc terminals (last ∷ []) rest) h)
