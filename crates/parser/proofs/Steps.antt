-- Steps of a reader that are taken together, and one by one.
use Rattle.std.proofs.Common.{◌≡◌, refl, sym, ap, ◌∙◌, List, [], ◌∷◌, ◌++◌, Option, Some, None}
use Rattle.syntax.specs.Terminals.{Terminal}
use Rattle.syntax.specs.Nesting.{◌>>=◌}
use Rattle.syntax.specs.SourceReading.{after_terminal, after_terminals, closed_by}
use Rattle.syntax.proofs.TerminalLaws.{bind_some}

-- a step of two steps, and the next one
pub bind_bind : {A B C : Type 0} (read : Option A) (step : A → Option B) (next : B → Option C) (both : A → Option C)
    → ((a : A) → (step a >>= next) ≡ both a) → ((read >>= step) >>= next) ≡ (read >>= both)
bind_bind None step next both is = refl
bind_bind (Some a) step next both is = is a

-- a step, and two next ones that come to the same
pub bind_same : {A B : Type 0} (read : Option A) (next other : A → Option B) → ((a : A) → next a ≡ other a) → (read >>= next) ≡ (read >>= other)
bind_same None next other is = refl
bind_same (Some a) next other is = is a

-- terminals and a last one
pub after_terminals-append : {A : Type 0} (front : List Terminal) (last : Terminal) (ws : List Terminal) (next : List Terminal → Option A)
    → (after_terminals (front ++ last ∷ []) ws >>= next) ≡ (after_terminals front ws >>= λ rest. after_terminal last rest >>= next)
after_terminals-append [] last ws next = bind_bind (after_terminal last ws) (after_terminals []) next next (λ rest. refl)
after_terminals-append (terminal ∷ front) last ws next =
    bind_bind (after_terminal terminal ws) (after_terminals (front ++ last ∷ [])) next (λ a. after_terminals (front ++ last ∷ []) a >>= next) (λ a. refl)
    ∙ bind_same (after_terminal terminal ws) (λ a. after_terminals (front ++ last ∷ []) a >>= next) (λ a. after_terminals front a >>= λ rest. after_terminal last rest >>= next)
    (λ a. after_terminals-append front last a next)
    ∙ sym (bind_bind (after_terminal terminal ws) (after_terminals front) (λ rest. after_terminal last rest >>= next) (λ a. after_terminals front a >>= λ rest. after_terminal last rest >>= next)
    (λ a. refl))

-- terminals after those that were found
after_terminals-found : (front back ws rest : List Terminal) → after_terminals front ws ≡ Some rest → after_terminals (front ++ back) ws ≡ after_terminals back rest
after_terminals-found [] back ws rest is = ap (after_terminals back) (same_rest ws rest is)
  where
    same_rest : (ws rest : List Terminal) → ◌≡◌ {A = Option (List Terminal)} (Some ws) (Some rest) → ws ≡ rest
    same_rest ws rest is = cc is
after_terminals-found (terminal ∷ front) back ws rest is =
    let found = bind_some (after_terminal terminal ws) (after_terminals front) rest is in
    ap (λ r. r >>= after_terminals (front ++ back)) found.1 ∙ after_terminals-found front back found.0 rest found.2

pub closed-found : {A : Type 0} (front back : List Terminal) (tree : A) (ws rest : List Terminal) → after_terminals front ws ≡ Some rest
    → closed_by (front ++ back) (tree, ws) ≡ closed_by back (tree, rest)
closed-found front back tree ws rest is = ap (λ r. r >>= λ behind. Some (tree, behind)) (after_terminals-found front back ws rest is)
