-- Races whose parts come in any order.
use Rattle.std.proofs.Common.{◌≡◌, ◌∙◌, ◌++◌, ◌+◌, ◌<◌, ◌≤◌, ◌==◌, ◌||◌, ℕ, Bool, true, false, List, [], ◌∷◌, length, length-append, refl, sym, ap, subst, codes, arith, append_assoc, append-nil}
use Rattle.std.specs.Prelude.{fold, if◌then◌else◌}
use Rattle.std.specs.List.{AllByRecursion}
use Rattle.std.specs.Str.{bytes_eq}
use Rattle.clap.proofs.FaultLemmas.{stopped_fault}
use Rattle.clap.specs.Lexer.{usize_max}
use Rattle.clap.specs.ValueTests.{accepts}
use Rattle.clap.specs.Words.{Row, Rule, Text, fault_of}
use Rattle.clap.specs.Faults.{check_fault, default_fault, defaults_fault, given_default_fault, level_fault, walk_fault}
use Rattle.clap.specs.Walk.{Walk, default_rows, has_row, nothing_held, reading_by, rows_after, walked, with_default}
use Rattle.requests.specs.Asked.{Asks, a_race, race_of, request_of, command_line}
use Rattle.requests.specs.Forms.{HasNoHyphen, IsTaken, NumberOption, RacePart, a_file, apart, files_in, joined, number_given, numbers_in, numbers_of, option_word, the_turns, the_workers}
use Rattle.requests.specs.Forms.{words_of_parts}
use Rattle.requests.proofs.RaceParts.{AreRows, Follows, Pending, a_number, a_script, all_used, nothing, pending_files, pending_numbers, position_after, settled_at, some_programs, turns_used}
use Rattle.requests.proofs.RaceParts.{use_quiet, walk_at, workers_used}
use Rattle.requests.proofs.RaceWalk.{IsQuiet, Turn, first_after_turns, first_after_workers, first_file, next_after_script, next_after_turns, next_after_workers, next_file, number_has_no_hyphen}
use Rattle.requests.proofs.RaceWalk.{number_met, one_more_program, turns_joined, turns_named, waits_at, workers_joined, workers_named}
use Rattle.requests.proofs.Operands.{at_start, gathers, names, top, walk_from_command, walked_to_race}
use Rattle.requests.proofs.RaceWords.{race}

module _ (all_files all_workers all_turns : List Text) (w : IsTaken the_workers all_workers) (t : IsTaken the_turns all_turns) where
  -- the walk stands before these parts, after these files and numbers
  pub record IsAt (position : ℕ) (files workers turns : List Text) (rows : List Row) (pending : Pending) (parts : List RacePart) : Type 0 where
    pub found : AreRows files workers turns rows
    pub follows : Follows files workers turns pending
    pub files_are : files ++ (pending_files pending ++ files_in parts) ≡ all_files
    pub workers_are : workers ++ (pending_numbers the_workers pending ++ numbers_in the_workers parts) ≡ all_workers
    pub turns_are : turns ++ (pending_numbers the_turns pending ++ numbers_in the_turns parts) ≡ all_turns
    pub room : length files + length (pending_files pending) + length parts ≤ usize_max
    pub index : position ≡ position_after (files ++ pending_files pending)

  -- what is pending is used, and this is found then
  record Settles (files workers turns : List Text) (rows : List Row) (pending : Pending) (parts : List RacePart) : Type 0 where
    pub quiet : IsQuiet rows pending
    pub found : AreRows (files ++ pending_files pending) (workers ++ pending_numbers the_workers pending) (turns ++ pending_numbers the_turns pending) (settled_at rows pending)
    pub files_are : (files ++ pending_files pending) ++ files_in parts ≡ all_files
    pub workers_are : (workers ++ pending_numbers the_workers pending) ++ numbers_in the_workers parts ≡ all_workers
    pub turns_are : (turns ++ pending_numbers the_turns pending) ++ numbers_in the_turns parts ≡ all_turns
    pub room : length (files ++ pending_files pending) + length parts ≤ usize_max

  settles : (position : ℕ) (files workers turns : List Text) (rows : List Row) (pending : Pending) (parts : List RacePart) → IsAt position files workers turns rows pending parts
      → Settles files workers turns rows pending parts
  settles position files workers turns rows pending parts at = let r = at.room in let l = length-append files (pending_files pending) in record {
    quiet = use_quiet files workers turns rows pending at.found at.follows (omega (arith, r));
    found = all_used files workers turns rows pending at.found at.follows;
    files_are = append_assoc files (pending_files pending) (files_in parts) ∙ at.files_are;
    workers_are = append_assoc workers (pending_numbers the_workers pending) (numbers_in the_workers parts) ∙ at.workers_are;
    turns_are = append_assoc turns (pending_numbers the_turns pending) (numbers_in the_turns parts) ∙ at.turns_are;
    room = omega (arith, r, l);
  }

  -- a word leads to the next part
  record Next (from : Walk) (word : Text) (parts : List RacePart) : Type 0 where
    pub position : ℕ
    pub files : List Text
    pub workers : List Text
    pub turns : List Text
    pub rows : List Row
    pub pending : Pending
    pub turn : Turn from word (walk_at position rows pending)
    pub at : IsAt position files workers turns rows pending parts

  -- ---- files

  -- the first file is the script
  script_next : (from : Walk) (files workers turns : List Text) (rows : List Row) (pending : Pending) (file : Text) (parts : List RacePart) → files ++ pending_files pending ≡ []
      → Settles files workers turns rows pending (a_file file ∷ parts) → Turn from file (walk_at 2 (settled_at rows pending) (a_script file)) → Next from file parts
  script_next from files workers turns rows pending file parts none s turn = let r = s.room in record {
    position = 2;
    files = [];
    workers = workers ++ pending_numbers the_workers pending;
    turns = turns ++ pending_numbers the_turns pending;
    rows = settled_at rows pending;
    pending = a_script file;
    turn = turn;
    at = record {
      found = subst (λ (fs : List Text). AreRows fs (workers ++ pending_numbers the_workers pending) (turns ++ pending_numbers the_turns pending) (settled_at rows pending)) none s.found;
      follows = refl;
      files_are = subst (λ (fs : List Text). fs ++ file ∷ files_in parts ≡ all_files) none s.files_are;
      workers_are = s.workers_are;
      turns_are = s.turns_are;
      room = omega (arith, r);
      index = refl;
    };
  }

  position_some : (before : List Text) (file : Text) (more : List Text) → position_after (before ++ file ∷ more) ≡ 2
  position_some [] file more = refl
  position_some (b ∷ before) file more = refl

  -- the second file is a program
  program_next : (from : Walk) (position : ℕ) (files workers turns : List Text) (rows : List Row) (pending : Pending) (file : Text) (parts : List RacePart)
      → 0 < length (files ++ pending_files pending)
      → Settles files workers turns rows pending (a_file file ∷ parts) → Turn from file (walk_at 2 (settled_at rows pending) (some_programs file [])) → Next from file parts
  program_next from position files workers turns rows pending file parts some s turn = let r = s.room in record {
    position = 2;
    files = files ++ pending_files pending;
    workers = workers ++ pending_numbers the_workers pending;
    turns = turns ++ pending_numbers the_turns pending;
    rows = settled_at rows pending;
    pending = some_programs file [];
    turn = turn;
    at = record {
      found = s.found;
      follows = some;
      files_are = s.files_are;
      workers_are = s.workers_are;
      turns_are = s.turns_are;
      room = omega (arith, r);
      index = sym (position_some (files ++ pending_files pending) file []);
    };
  }

  file_next : (position : ℕ) (files workers turns : List Text) (rows : List Row) (pending : Pending) (file : Text) (parts : List RacePart) → HasNoHyphen file
      → IsAt position files workers turns rows pending (a_file file ∷ parts) → Next (walk_at position rows pending) file parts
  file_next position [] workers turns rows nothing file parts h at =
      let s = settles position [] workers turns rows nothing (a_file file ∷ parts) at in
      script_next (walk_at position rows nothing) [] workers turns rows nothing file parts refl s
      (subst (λ (k : ℕ). Turn (walk_at k rows nothing) file (walk_at 2 rows (a_script file))) (sym at.index) (first_file rows file h))
  file_next position [] workers turns rows (a_number the_workers number) file parts h at =
      let s = settles position [] workers turns rows (a_number the_workers number) (a_file file ∷ parts) at in
      script_next (walk_at position rows (a_number the_workers number)) [] workers turns rows (a_number the_workers number) file parts refl s
      (subst (λ (k : ℕ). Turn (walk_at k rows (a_number the_workers number)) file (walk_at 2 (settled_at rows (a_number the_workers number)) (a_script file))) (sym at.index)
      (first_after_workers rows number file h s.quiet))
  file_next position [] workers turns rows (a_number the_turns number) file parts h at =
      let s = settles position [] workers turns rows (a_number the_turns number) (a_file file ∷ parts) at in
      script_next (walk_at position rows (a_number the_turns number)) [] workers turns rows (a_number the_turns number) file parts refl s
      (subst (λ (k : ℕ). Turn (walk_at k rows (a_number the_turns number)) file (walk_at 2 (settled_at rows (a_number the_turns number)) (a_script file))) (sym at.index)
      (first_after_turns rows number file h s.quiet))
  file_next position files workers turns rows (a_script script) file parts h at =
      let s = settles position files workers turns rows (a_script script) (a_file file ∷ parts) at in
      let l = length-append files (script ∷ []) in
      program_next (walk_at position rows (a_script script)) position files workers turns rows (a_script script) file parts (omega (arith, l)) s
      (subst (λ (k : ℕ). Turn (walk_at k rows (a_script script)) file (walk_at 2 (settled_at rows (a_script script)) (some_programs file []))) (sym (at.index ∙ position_some files script []))
      (next_after_script rows script file h s.quiet))
  file_next position (f ∷ fs) workers turns rows nothing file parts h at =
      let s = settles position (f ∷ fs) workers turns rows nothing (a_file file ∷ parts) at in
      program_next (walk_at position rows nothing) position (f ∷ fs) workers turns rows nothing file parts (omega arith) s
      (subst (λ (k : ℕ). Turn (walk_at k rows nothing) file (walk_at 2 rows (some_programs file []))) (sym at.index) (next_file rows file h))
  file_next position (f ∷ fs) workers turns rows (a_number the_workers number) file parts h at =
      let s = settles position (f ∷ fs) workers turns rows (a_number the_workers number) (a_file file ∷ parts) at in
      program_next (walk_at position rows (a_number the_workers number)) position (f ∷ fs) workers turns rows (a_number the_workers number) file parts (omega arith) s
      (subst (λ (k : ℕ). Turn (walk_at k rows (a_number the_workers number)) file (walk_at 2 (settled_at rows (a_number the_workers number)) (some_programs file []))) (sym at.index)
      (next_after_workers rows number file h s.quiet))
  file_next position (f ∷ fs) workers turns rows (a_number the_turns number) file parts h at =
      let s = settles position (f ∷ fs) workers turns rows (a_number the_turns number) (a_file file ∷ parts) at in
      program_next (walk_at position rows (a_number the_turns number)) position (f ∷ fs) workers turns rows (a_number the_turns number) file parts (omega arith) s
      (subst (λ (k : ℕ). Turn (walk_at k rows (a_number the_turns number)) file (walk_at 2 (settled_at rows (a_number the_turns number)) (some_programs file []))) (sym at.index)
      (next_after_turns rows number file h s.quiet))
  file_next position files workers turns rows (some_programs program programs) file parts h at =
      let r = at.room in let l = length-append programs (file ∷ []) in record {
        position = 2;
        files = files;
        workers = workers;
        turns = turns;
        rows = rows;
        pending = some_programs program (programs ++ file ∷ []);
        turn = subst (λ (k : ℕ). Turn (walk_at k rows (some_programs program programs)) file (walk_at 2 rows (some_programs program (programs ++ file ∷ []))))
            (sym (at.index ∙ position_some files program programs))
            (one_more_program rows program programs file h);
        at = record {
          found = at.found;
          follows = at.follows;
          files_are = ap (λ (fs : List Text). files ++ program ∷ fs) (append_assoc programs (file ∷ []) (files_in parts)) ∙ at.files_are;
          workers_are = at.workers_are;
          turns_are = at.turns_are;
          room = omega (arith, r, l);
          index = sym (position_some files program (programs ++ file ∷ []));
        };
      }

  -- ---- options

  -- an option that is taken stands once
  taken_once : (o : NumberOption) (before : List Text) (number : Text) (after : List Text) → IsTaken o (before ++ number ∷ after) → (before ≡ []) × (accepts false (numbers_of o) number ≡ true)
  taken_once o [] number [] taken = (refl, taken)
  taken_once o [] number (a ∷ after) taken = absurd taken
  taken_once o (b ∷ []) number after taken = absurd taken
  taken_once o (b ∷ c ∷ before) number after taken = absurd taken

  same_index : (position : ℕ) (files more : List Text) → position ≡ position_after (files ++ more) → position ≡ position_after ((files ++ more) ++ [])
  same_index position files more at = at ∙ ap position_after (sym (append-nil (files ++ more)))

  workers_next : (position : ℕ) (files workers turns : List Text) (rows : List Row) (pending : Pending) (number : Text) (parts : List RacePart)
      → IsAt position files workers turns rows pending (joined the_workers number ∷ parts) → Next (walk_at position rows pending) (option_word the_workers ++ 61 ∷ number) parts
  workers_next position files workers turns rows pending number parts at =
      let s = settles position files workers turns rows pending (joined the_workers number ∷ parts) at in
      let r = s.room in
      let once = taken_once the_workers (workers ++ pending_numbers the_workers pending) number (numbers_in the_workers parts) (subst (IsTaken the_workers) (sym s.workers_are) w) in
      let none = subst (λ (ws : List Text). AreRows (files ++ pending_files pending) ws (turns ++ pending_numbers the_turns pending) (settled_at rows pending)) once.0 s.found in record {
        position = position;
        files = files ++ pending_files pending;
        workers = number ∷ [];
        turns = turns ++ pending_numbers the_turns pending;
        rows = settled_at (settled_at rows pending) (a_number the_workers number);
        pending = nothing;
        turn = workers_joined position rows pending number s.quiet
            (use_quiet (files ++ pending_files pending) [] (turns ++ pending_numbers the_turns pending) (settled_at rows pending) (a_number the_workers number) none (refl, once.1) (omega arith));
        at = record {
          found = workers_used (files ++ pending_files pending) (turns ++ pending_numbers the_turns pending) (settled_at rows pending) number none;
          follows = tt;
          files_are = s.files_are;
          workers_are = subst (λ (ws : List Text). ws ++ number ∷ numbers_in the_workers parts ≡ all_workers) once.0 s.workers_are;
          turns_are = s.turns_are;
          room = omega (arith, r);
          index = same_index position files (pending_files pending) at.index;
        };
      }

  turns_next : (position : ℕ) (files workers turns : List Text) (rows : List Row) (pending : Pending) (number : Text) (parts : List RacePart)
      → IsAt position files workers turns rows pending (joined the_turns number ∷ parts) → Next (walk_at position rows pending) (option_word the_turns ++ 61 ∷ number) parts
  turns_next position files workers turns rows pending number parts at =
      let s = settles position files workers turns rows pending (joined the_turns number ∷ parts) at in
      let r = s.room in
      let once = taken_once the_turns (turns ++ pending_numbers the_turns pending) number (numbers_in the_turns parts) (subst (IsTaken the_turns) (sym s.turns_are) t) in
      let none = subst (λ (ts : List Text). AreRows (files ++ pending_files pending) (workers ++ pending_numbers the_workers pending) ts (settled_at rows pending)) once.0 s.found in record {
        position = position;
        files = files ++ pending_files pending;
        workers = workers ++ pending_numbers the_workers pending;
        turns = number ∷ [];
        rows = settled_at (settled_at rows pending) (a_number the_turns number);
        pending = nothing;
        turn = turns_joined position rows pending number s.quiet
            (use_quiet (files ++ pending_files pending) (workers ++ pending_numbers the_workers pending) [] (settled_at rows pending) (a_number the_turns number) none (refl, once.1) (omega arith));
        at = record {
          found = turns_used (files ++ pending_files pending) (workers ++ pending_numbers the_workers pending) (settled_at rows pending) number none;
          follows = tt;
          files_are = s.files_are;
          workers_are = s.workers_are;
          turns_are = subst (λ (ts : List Text). ts ++ number ∷ numbers_in the_turns parts ≡ all_turns) once.0 s.turns_are;
          room = omega (arith, r);
          index = same_index position files (pending_files pending) at.index;
        };
      }

  -- the name of an option and its number lead to the next part
  record NextApart (from : Walk) (name number : Text) (parts : List RacePart) : Type 0 where
    pub between : Walk
    pub named : Turn from name between
    pub next : Next between number parts

  workers_apart : (position : ℕ) (files workers turns : List Text) (rows : List Row) (pending : Pending) (number : Text) (parts : List RacePart)
      → IsAt position files workers turns rows pending (apart the_workers number ∷ parts) → NextApart (walk_at position rows pending) (option_word the_workers) number parts
  workers_apart position files workers turns rows pending number parts at =
      let s = settles position files workers turns rows pending (apart the_workers number ∷ parts) at in
      let r = s.room in
      let once = taken_once the_workers (workers ++ pending_numbers the_workers pending) number (numbers_in the_workers parts) (subst (IsTaken the_workers) (sym s.workers_are) w) in record {
        between = waits_at position (settled_at rows pending) the_workers;
        named = workers_named position rows pending s.quiet;
        next = record {
          position = position;
          files = files ++ pending_files pending;
          workers = workers ++ pending_numbers the_workers pending;
          turns = turns ++ pending_numbers the_turns pending;
          rows = settled_at rows pending;
          pending = a_number the_workers number;
          turn = number_met the_workers position (settled_at rows pending) number (number_has_no_hyphen the_workers number once.1);
          at = record {
            found = s.found;
            follows = once;
            files_are = s.files_are;
            workers_are = s.workers_are;
            turns_are = s.turns_are;
            room = omega (arith, r);
            index = same_index position files (pending_files pending) at.index;
          };
        };
      }

  turns_apart : (position : ℕ) (files workers turns : List Text) (rows : List Row) (pending : Pending) (number : Text) (parts : List RacePart)
      → IsAt position files workers turns rows pending (apart the_turns number ∷ parts) → NextApart (walk_at position rows pending) (option_word the_turns) number parts
  turns_apart position files workers turns rows pending number parts at =
      let s = settles position files workers turns rows pending (apart the_turns number ∷ parts) at in
      let r = s.room in
      let once = taken_once the_turns (turns ++ pending_numbers the_turns pending) number (numbers_in the_turns parts) (subst (IsTaken the_turns) (sym s.turns_are) t) in record {
        between = waits_at position (settled_at rows pending) the_turns;
        named = turns_named position rows pending s.quiet;
        next = record {
          position = position;
          files = files ++ pending_files pending;
          workers = workers ++ pending_numbers the_workers pending;
          turns = turns ++ pending_numbers the_turns pending;
          rows = settled_at rows pending;
          pending = a_number the_turns number;
          turn = number_met the_turns position (settled_at rows pending) number (number_has_no_hyphen the_turns number once.1);
          at = record {
            found = s.found;
            follows = once;
            files_are = s.files_are;
            workers_are = s.workers_are;
            turns_are = s.turns_are;
            room = omega (arith, r);
            index = same_index position files (pending_files pending) at.index;
          };
        };
      }

  -- ---- all parts

  -- the walk ends where all is gathered, without a fault
  pub record Ends (from : Walk) (words : List Text) : Type 0 where
    pub position : ℕ
    pub files : List Text
    pub workers : List Text
    pub turns : List Text
    pub rows : List Row
    pub pending : Pending
    pub at : IsAt position files workers turns rows pending []
    pub is : fold (walked race.rules []) from words ≡ walk_at position rows pending
    pub quiet : walk_fault race [] from words ≡ []

  one_word : (from to : Walk) (word : Text) (words : List Text) → Turn from word to → Ends to words → Ends from (word ∷ words)
  unfolding walk_fault
  one_word from to word words turn rest = record {
    position = rest.position;
    files = rest.files;
    workers = rest.workers;
    turns = rest.turns;
    rows = rest.rows;
    pending = rest.pending;
    at = rest.at;
    is = ap (λ (x : Walk). fold (walked race.rules []) x words) turn.is ∙ rest.is;
    quiet = rw (turn.quiet, turn.is) rest.quiet;
  }

  nothing_left : (position : ℕ) (files workers turns : List Text) (rows : List Row) (pending : Pending) → IsAt position files workers turns rows pending [] → Ends (walk_at position rows pending) []
  unfolding walk_fault
  nothing_left position files workers turns rows pending at = record {
    position = position;
    files = files;
    workers = workers;
    turns = turns;
    rows = rows;
    pending = pending;
    at = at;
    is = refl;
    quiet = refl;
  }

  pub all_parts : (parts : List RacePart) (position : ℕ) (files workers turns : List Text) (rows : List Row) (pending : Pending) → AllByRecursion HasNoHyphen (files_in parts)
      → IsAt position files workers turns rows pending parts → Ends (walk_at position rows pending) (words_of_parts parts)
  all_parts [] position files workers turns rows pending h at = nothing_left position files workers turns rows pending at
  all_parts (a_file file ∷ parts) position files workers turns rows pending h at =
      let n = file_next position files workers turns rows pending file parts h.0 at in
      one_word (walk_at position rows pending) (walk_at n.position n.rows n.pending) file (words_of_parts parts) n.turn (all_parts parts n.position n.files n.workers n.turns n.rows n.pending h.1 n.at)
  all_parts (joined the_workers number ∷ parts) position files workers turns rows pending h at =
      let n = workers_next position files workers turns rows pending number parts at in
      one_word (walk_at position rows pending) (walk_at n.position n.rows n.pending) (option_word the_workers ++ 61 ∷ number) (words_of_parts parts) n.turn
      (all_parts parts n.position n.files n.workers n.turns n.rows n.pending h n.at)
  all_parts (joined the_turns number ∷ parts) position files workers turns rows pending h at =
      let n = turns_next position files workers turns rows pending number parts at in
      one_word (walk_at position rows pending) (walk_at n.position n.rows n.pending) (option_word the_turns ++ 61 ∷ number) (words_of_parts parts) n.turn
      (all_parts parts n.position n.files n.workers n.turns n.rows n.pending h n.at)
  all_parts (apart the_workers number ∷ parts) position files workers turns rows pending h at =
      let b = workers_apart position files workers turns rows pending number parts at in
      let n = b.next in
      one_word (walk_at position rows pending) b.between (option_word the_workers) (number ∷ words_of_parts parts) b.named
      (one_word b.between (walk_at n.position n.rows n.pending) number (words_of_parts parts) n.turn (all_parts parts n.position n.files n.workers n.turns n.rows n.pending h n.at))
  all_parts (apart the_turns number ∷ parts) position files workers turns rows pending h at =
      let b = turns_apart position files workers turns rows pending number parts at in
      let n = b.next in
      one_word (walk_at position rows pending) b.between (option_word the_turns) (number ∷ words_of_parts parts) b.named
      (one_word b.between (walk_at n.position n.rows n.pending) number (words_of_parts parts) n.turn (all_parts parts n.position n.files n.workers n.turns n.rows n.pending h n.at))

-- ---- after the walk

-- no option has a default of clap's
abbrev HasNoDefault : Rule → Type 0
HasNoDefault a = a.defaults ≡ []

kept : (a : Rule) (rows : List Row) → HasNoDefault a → with_default rows a ≡ rows
kept a rows none = go (has_row a.id rows)
  where
    go : (b : Bool) → (if b then rows else default_rows a.id (reading_by a) a.defaults rows) ≡ rows
    go true = refl
    go false = rw none refl

no_default_fault : (a : Rule) (rows : List Row) → HasNoDefault a → default_fault rows a ≡ []
no_default_fault a rows none = go (has_row a.id rows)
  where
    go : (b : Bool) → (if b || (length a.defaults == 0) then [] else given_default_fault a a.defaults) ≡ []
    go true = refl
    go false = rw none refl

all_kept : (rules : List Rule) (rows : List Row) → AllByRecursion HasNoDefault rules → fold with_default rows rules ≡ rows
all_kept [] rows all = refl
all_kept (a ∷ rules) rows all = ap (λ (rs : List Row). fold with_default rs rules) (kept a rows all.0) ∙ all_kept rules rows all.1

no_default_faults : (rules : List Rule) (rows : List Row) → AllByRecursion HasNoDefault rules → defaults_fault rows rules ≡ []
unfolding defaults_fault
no_default_faults [] rows all = refl
no_default_faults (a ∷ rules) rows all = rw (no_default_fault a rows all.0, kept a rows all.0) (no_default_faults rules rows all.1)

race_has_none : AllByRecursion HasNoDefault race.rules
race_has_none = (refl, (refl, (refl, (refl, (refl, tt)))))

-- the script and a program are there
checked : (script program : Text) (programs workers turns : List Text) (rows : List Row) → AreRows (script ∷ program ∷ programs) workers turns rows → check_fault race rows false ≡ []
checked script program programs workers turns rows are = rw (are.script, are.programs) refl

-- what the rows ask for
race_read : (script program : Text) (programs workers turns : List Text) (rows : List Row) → IsTaken the_workers workers → IsTaken the_turns turns
    → AreRows (script ∷ program ∷ programs) workers turns rows
    → race_of rows ≡ a_race script (program ∷ programs) (number_given 2 workers) (number_given 1000000 turns)
race_read script program programs [] [] rows w t are = rw (are.script, are.programs, are.workers_are, are.turns_are) refl
race_read script program programs (number ∷ []) [] rows w t are = rw (are.script, are.programs, are.workers_are, are.turns_are, w) refl
race_read script program programs [] (number ∷ []) rows w t are = rw (are.script, are.programs, are.workers_are, are.turns_are, t) refl
race_read script program programs (number ∷ []) (bound ∷ []) rows w t are = rw (are.script, are.programs, are.workers_are, are.turns_are, w, t) refl
race_read script program programs (number ∷ other ∷ more) turns rows w t are = absurd w
race_read script program programs workers (bound ∷ other ∷ more) rows w t are = absurd t

-- a first word `race` asks for what the rows after it ask for
race_first : (word : Text) (words : List Text) → bytes_eq (codes "check") word ≡ false → bytes_eq (codes "plan") word ≡ false → bytes_eq (codes "script") word ≡ false
    → bytes_eq (codes "race") word ≡ true → request_of (word ∷ words) ≡ race_of (rows_after race.rules [] words)
race_first word words no_check no_plan no_script is = rw (walk_from_command (codes "race") word words (walked_to_race word no_check no_plan no_script is)) refl

module _ (parts : List RacePart) (script program : Text) (programs : List Text) (files : files_in parts ≡ script ∷ program ∷ programs) (h : AllByRecursion HasNoHyphen (files_in parts))
    (w : IsTaken the_workers (numbers_in the_workers parts)) (t : IsTaken the_turns (numbers_in the_turns parts)) (few : length parts ≤ usize_max) where
  end : Ends (files_in parts) (numbers_in the_workers parts) (numbers_in the_turns parts) w t (walk_at 1 [] nothing) (words_of_parts parts)
  end = all_parts (files_in parts) (numbers_in the_workers parts) (numbers_in the_turns parts) w t parts 1 [] [] [] [] nothing h (record {
    found = record { script = refl; programs = refl; workers_are = refl; turns_are = refl };
    follows = tt;
    files_are = refl;
    workers_are = refl;
    turns_are = refl;
    room = omega (arith, few);
    index = refl;
  })

  -- the rows at the end
  abbrev rows : List Row
  rows = settled_at end.rows end.pending

  found : AreRows (script ∷ program ∷ programs) (numbers_in the_workers parts) (numbers_in the_turns parts) rows
  found =
      let used = all_used end.files end.workers end.turns end.rows end.pending end.at.found end.at.follows in
      let fs = ap (λ (x : List Text). end.files ++ x) (sym (append-nil (pending_files end.pending))) ∙ end.at.files_are ∙ files in
      let ws = ap (λ (x : List Text). end.workers ++ x) (sym (append-nil (pending_numbers the_workers end.pending))) ∙ end.at.workers_are in
      let ts = ap (λ (x : List Text). end.turns ++ x) (sym (append-nil (pending_numbers the_turns end.pending))) ∙ end.at.turns_are in
      subst (λ (x : List Text). AreRows (script ∷ program ∷ programs) (numbers_in the_workers parts) x rows) ts
      (subst (λ (x : List Text). AreRows (script ∷ program ∷ programs) x (end.turns ++ pending_numbers the_turns end.pending) rows) ws
      (subst (λ (x : List Text). AreRows x (end.workers ++ pending_numbers the_workers end.pending) (end.turns ++ pending_numbers the_turns end.pending) rows) fs used))

  settle_quiet : IsQuiet end.rows end.pending
  settle_quiet = let r = end.at.room in use_quiet end.files end.workers end.turns end.rows end.pending end.at.found end.at.follows (omega (arith, r))

  rows_kept : fold with_default rows race.rules ≡ rows
  rows_kept = all_kept race.rules rows race_has_none

  level_quiet : level_fault race [] nothing_held (words_of_parts parts) false [] ≡ []
  level_quiet =
      rw (end.quiet, end.is, settle_quiet, no_default_faults race.rules rows race_has_none, rows_kept)
      (checked script program programs (numbers_in the_workers parts) (numbers_in the_turns parts) rows found)

  rows_read : race_of (rows_after race.rules [] (words_of_parts parts)) ≡ a_race script (program ∷ programs) (number_given 2 (numbers_in the_workers parts))
      (number_given 1000000 (numbers_in the_turns parts))
  rows_read = rw (end.is, rows_kept) (race_read script program programs (numbers_in the_workers parts) (numbers_in the_turns parts) rows w t found)

  asked : request_of (codes "race" ∷ words_of_parts parts) ≡ a_race script (program ∷ programs) (number_given 2 (numbers_in the_workers parts)) (number_given 1000000 (numbers_in the_turns parts))
  asked = race_first (codes "race") (words_of_parts parts) refl refl refl refl ∙ rows_read

  quiet : fault_of command_line (codes "race" ∷ words_of_parts parts) ≡ []
  unfolding walk_fault walked defaults_fault
  quiet = rw (gathers top.rules names (at_start false) (codes "race") [] (words_of_parts parts), stopped_fault top names (at_start false) (codes "race", []) (words_of_parts parts), level_quiet) refl

  pub race_asked : Asks (codes "race" ∷ words_of_parts parts) (a_race script (program ∷ programs) (number_given 2 (numbers_in the_workers parts)) (number_given 1000000 (numbers_in the_turns parts)))
  race_asked = (quiet, asked)
