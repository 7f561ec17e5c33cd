-- A loop that reads trees one after the other into a vector.
use Rattle.std.proofs.Common.{◌≡◌, sym, ◌∙◌, ap, subst, map, ℕ, ◌<◌, arith, length, List, [], ◌∷◌, ◌++◌, Option, Some, None}
use Rattle.std.proofs.lemmas.List.{map-append}
use Rattle.syntax.specs.Terminals.{Terminal}
use Rattle.syntax.proofs.Loops.{Goes, goes_start, goes_step, goes_end, goes_fails}
use Rattle.syntax.specs.SourceReading.{each_at}
use Rattle.parser.specs.inside.Declarations.{with_first}

module _ {L T : Type 0} {link : List Terminal → Option (Option (L × List Terminal))} (view : T → L) where
  pub list_start : (none : List T) (start : List Terminal) → none ≡ [] → Goes link start (map view none) start
  list_start none start empty = subst (λ xs. Goes link start xs start) (sym (ap (map view) empty)) (goes_start start)

  pub list_step : {start left : List Terminal} (old new : List T) (x : T) (rest : List Terminal) → new ≡ old ++ x ∷ [] → Goes link start (map view old) left
      → link left ≡ Some (Some (view x, rest)) → length rest < length left → Goes link start (map view new) rest
  list_step {start = start} old new x rest pushed goes is less =
      subst (λ xs. Goes link start xs rest) (sym (ap (map view) pushed ∙ map-append view old (x ∷ []))) (goes_step (view x) rest goes is less)

-- the trees are the first one and others that were read one after the other from the start on; left is after them
pub record Follow {L : Type 0} (link : List Terminal → Option (Option (L × List Terminal))) (first : L) (start : List Terminal) (all : List L) (left : List Terminal) : Type 0 where
  pub others : List L
  pub all_are : all ≡ first ∷ others
  pub goes : Goes link start others left

module _ {L T : Type 0} {link : List Terminal → Option (Option (L × List Terminal))} (view : T → L) where
  pub follow_start : (none new : List T) (x : T) (start : List Terminal) → none ≡ [] → new ≡ none ++ x ∷ [] → Follow link (view x) start (map view new) start
  follow_start none new x start empty pushed = record {
    others = [];
    all_are = ap (map view) (pushed ∙ ap (λ xs. xs ++ x ∷ []) empty);
    goes = goes_start start;
  }

  pub follow_step : {start left : List Terminal} {first : L} (old new : List T) (x : T) (rest : List Terminal) → new ≡ old ++ x ∷ [] → Follow link first start (map view old) left
      → link left ≡ Some (Some (view x, rest)) → length rest < length left → Follow link first start (map view new) rest
  follow_step {first = first} old new x rest pushed follow is less = record {
    others = follow.others ++ view x ∷ [];
    all_are = ap (map view) pushed ∙ map-append view old (x ∷ []) ∙ ap (λ xs. xs ++ view x ∷ []) follow.all_are;
    goes = goes_step (view x) rest follow.goes is less;
  }

module _ {L : Type 0} {link : List Terminal → Option (Option (L × List Terminal))} {first : L} {start left : List Terminal} {all : List L} where
  pub follow_end : Follow link first start all left → link left ≡ None
      → with_first first (each_at link start) ≡ Some (all, left)
  follow_end follow is =
      ap (with_first first) (goes_end follow.goes is)
      ∙ ap (λ xs. Some (xs, left)) (sym follow.all_are)

  pub follow_fails : Follow link first start all left → link left ≡ Some None
      → with_first first (each_at link start) ≡ None
  follow_fails follow is = ap (with_first first) (goes_fails follow.goes is)

pub below_strictly : (a b c : ℕ) → a < b → b < c → a < c
below_strictly a b c first second = omega arith
