-- The ends that batches name, entry by entry and batch by batch.
use Rattle.std.proofs.Common.{◌≡◌, ℕ, ◌+◌, ◌<◌, Option, option_to_list, List, [], ◌∷◌, ◌++◌, length, take, get_or, sym, ap, ◌∙◌, append_assoc}
use Rattle.std.proofs.lemmas.List.{append-nil, take_more}
use Rattle.tree_batch.specs.declared.batch.Entry.{Entry}
use Rattle.tree_batch.specs.Edge.{Ends, named_by}
use Rattle.edge_differences.specs.Named.{named_in, named_in_all}

named_pushed : (xs : List Entry) (x : Entry) → named_in (xs ++ x ∷ []) ≡ named_in xs ++ option_to_list (named_by x)
named_pushed [] x = append-nil (option_to_list (named_by x))
named_pushed (y ∷ xs) x =
    ap (λ (ps : List Ends). option_to_list (named_by y) ++ ps) (named_pushed xs x) ∙ sym (append_assoc (option_to_list (named_by y)) (named_in xs) (option_to_list (named_by x)))

-- one more entry
pub named_more : (xs : List Entry) (i : ℕ) (d : Entry) (o : Option Ends) (was before now : List Ends) → i < length xs → o ≡ named_by (get_or xs i d) → before ≡ was ++ named_in (take i xs)
    → now ≡ before ++ option_to_list o → now ≡ was ++ named_in (take (i + 1) xs)
named_more xs i d o was before now l is so more =
    more
    ∙ ap (λ (ps : List Ends). ps ++ option_to_list o) so
    ∙ append_assoc was (named_in (take i xs)) (option_to_list o)
    ∙ ap (λ (ps : List Ends). was ++ (named_in (take i xs) ++ ps)) (ap option_to_list is)
    ∙ ap (λ (ps : List Ends). was ++ ps) (sym (ap named_in (take_more xs i d l) ∙ named_pushed (take i xs) (get_or xs i d)))

all_pushed : (bs : List (List Entry)) (b : List Entry) → named_in_all (bs ++ b ∷ []) ≡ named_in_all bs ++ named_in b
all_pushed [] b = append-nil (named_in b)
all_pushed (c ∷ bs) b = ap (λ (ps : List Ends). named_in c ++ ps) (all_pushed bs b) ∙ sym (append_assoc (named_in c) (named_in_all bs) (named_in b))

-- one more batch
pub all_more : (bs : List (List Entry)) (i : ℕ) (b : List Entry) (before now : List Ends) → i < length bs → b ≡ get_or bs i b → before ≡ named_in_all (take i bs) → now ≡ before ++ named_in b
    → now ≡ named_in_all (take (i + 1) bs)
all_more bs i b before now l is so more =
    more
    ∙ ap (λ (ps : List Ends). ps ++ named_in b) so
    ∙ sym (ap named_in_all (take_more bs i b l) ∙ ap (λ (c : List Entry). named_in_all (take i bs ++ c ∷ [])) (sym is) ∙ all_pushed (take i bs) b)

pub none_more : (before : List Ends) → before ≡ before ++ []
none_more before = sym (append-nil before)
