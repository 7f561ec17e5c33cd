-- What is found of the parts of a race.
use Rattle.std.proofs.Common.{◌≡◌, ◌++◌, Bool, true, false, List, [], ◌∷◌, Option, Some, None, refl, sym, ap, subst, if◌then◌else◌}
use Rattle.std.proofs.lemmas.Slice.Eq.{bytes_eq-Decides}
use Rattle.std.specs.Prelude.{find}
use Rattle.std.specs.Str.{bytes_eq}
use Rattle.clap.specs.Words.{Row, Text}
use Rattle.clap.specs.Walk.{has_row, more_values, stronger, with_values, without}
use Rattle.clap.specs.declared.builder.value_parser.Reading.TheVariants.{AsWritten}
use Rattle.clap.specs.declared.parser.matches.ValueSource.TheVariants.{CommandLine}

-- the row of an id
abbrev pub look : Text → List Row → Option Row
look id rows = find (λ r. bytes_eq r.id id) rows

-- the row of these values
abbrev pub found_row : Text → List Text → Row
found_row id values = record { id = id; values = values; count = None; source = Some CommandLine; reading = AsWritten }

-- rows with values that words give
abbrev pub given : Text → List Text → List Row → List Row
given id values rows = with_values id AsWritten CommandLine values rows

-- other rows stay
pub look_kept : (id other : Text) (values : List Text) → bytes_eq id other ≡ false → (rows : List Row) → look other (given id values rows) ≡ look other rows
look_kept id other values apart [] = rw apart refl
look_kept id other values apart (r ∷ rows) = go (look_kept id other values apart rows) (bytes_eq r.id id) refl
  where
    go : look other (given id values rows) ≡ look other rows → (b : Bool) → bytes_eq r.id id ≡ b
        → look other (if b then more_values CommandLine values r ++ rows else r ∷ given id values rows) ≡ look other (r ∷ rows)
    go rest true is =
        let same : r.id ≡ id = (bytes_eq-Decides r.id id).0 is in
        let skip : bytes_eq r.id other ≡ false = subst (λ (t : Text). bytes_eq t other ≡ false) (sym same) apart in
        rw skip refl
    go rest false is = ap (λ (o : Option Row). if bytes_eq r.id other then Some r else o) rest

-- a new row
pub look_new : (id : Text) (values : List Text) → bytes_eq id id ≡ true → (rows : List Row) → look id rows ≡ None → look id (given id values rows) ≡ Some (found_row id values)
look_new id values self [] none = rw self refl
look_new id values self (r ∷ rows) none = go (look_new id values self rows) (bytes_eq r.id id) refl none
  where
    go : (look id rows ≡ None → look id (given id values rows) ≡ Some (found_row id values)) → (b : Bool) → bytes_eq r.id id ≡ b → (if b then Some r else look id rows) ≡ None
        → look id (if b then more_values CommandLine values r ++ rows else r ∷ given id values rows) ≡ Some (found_row id values)
    go rest true is none = cc
    go rest false is none = rw is (rest none)

-- a row that is there gets more values
pub look_more : (id : Text) (old values : List Text) (rows : List Row) → look id rows ≡ Some (found_row id old) → look id (given id values rows) ≡ Some (found_row id (old ++ values))
look_more id old values [] is = cc
look_more id old values (r ∷ rows) is = go (look_more id old values rows) (bytes_eq r.id id) refl is
  where
    go : (look id rows ≡ Some (found_row id old) → look id (given id values rows) ≡ Some (found_row id (old ++ values))) → (b : Bool) → bytes_eq r.id id ≡ b
        → (if b then Some r else look id rows) ≡ Some (found_row id old)
        → look id (if b then more_values CommandLine values r ++ rows else r ∷ given id values rows) ≡ Some (found_row id (old ++ values))
    go rest true at is =
        let same : r ≡ found_row id old = cc in
        rw at (ap (λ (x : Row). Some (record x { values = x.values ++ values; source = Some (stronger x.source CommandLine) })) same)
    go rest false at is = rw at (rest is)

-- nothing of this id is there to take out
pub without_none : (id : Text) (rows : List Row) → look id rows ≡ None → without id rows ≡ rows
without_none id [] none = refl
without_none id (r ∷ rows) none = go (without_none id rows) (bytes_eq r.id id) refl none
  where
    go : (look id rows ≡ None → without id rows ≡ rows) → (b : Bool) → bytes_eq r.id id ≡ b → (if b then Some r else look id rows) ≡ None
        → (if b then rows else r ∷ without id rows) ≡ r ∷ rows
    go rest true is none = cc
    go rest false is none = ap (λ (rs : List Row). r ∷ rs) (rest none)

pub no_row : (id : Text) (rows : List Row) → look id rows ≡ None → has_row id rows ≡ false
no_row id [] none = refl
no_row id (r ∷ rows) none = go (no_row id rows) (bytes_eq r.id id) refl none
  where
    go : (look id rows ≡ None → has_row id rows ≡ false) → (b : Bool) → bytes_eq r.id id ≡ b → (if b then Some r else look id rows) ≡ None → has_row id (r ∷ rows) ≡ false
    go rest true is none = cc
    go rest false is none = rw is (rest none)
