-- What the code gets from what clap found.
use Rattle.std.proofs.Common.{if◌then◌else◌, ◌∷◌, ◌≡◌, ◌∙◌, Bool, true, false, List, [], Option, Some, None, Result, Ok, Err, refl, sym, ap, inl, inr, codes, arith}
use Rattle.std.proofs.lemmas.Bool.{true≢false}
use Rattle.std.specs.Borrow.{Bor}
use Rattle.std.specs.Box.{box_value}
use Rattle.std.specs.Prelude.{IsErrAnd, map, option_map, unwrap_or}
use Rattle.std.specs.Str.{bytes_eq}
use Rattle.clap.specs.Kinds.{HasKind, Kinds}
use Rattle.clap.specs.Matches.{subcommand_name_of}
use Rattle.clap.specs.Words.{Row, Text, fault_of, kind_of, subcommand_of, subcommand_rows, subcommand_rows_of}
use Rattle.clap.specs.declared.error.Error.{Error as Fault}
use Rattle.clap.specs.declared.error.kind.ErrorKind.{ErrorKind as FaultKind}
use Rattle.clap.specs.declared.error.kind.ErrorKind.TheVariants.{OutOfMemory}
use Rattle.clap.specs.declared.parser.matches.ArgMatches.{ArgMatches}
use Rattle.clap.specs.declared.parser.matches.ArgMatches.TheViews.{out-ArgMatches, out-SubCommand}
use Rattle.requests.specs.Asked.{Answers, HasFewWorkers, IsFaultAmong, command_named, found_request, race_of, request_of, script_with, files_of, command_line}
use Rattle.requests.specs.Refusal.{of_fault}
use Rattle.requests.specs.declared.asked.Request.{Request}
use Rattle.requests.specs.declared.asked.RequestError.{RequestError}
use Rattle.requests.specs.declared.asked.RequestError.TheVariants as error
use Rattle.requests.proofs.Numbers.{number_is_in}

-- a text or another one
pub text_or : (o : Option (Bor Text)) (d : Bor Text) (t : Option Text) → option_map (λ s. s.now) o ≡ t → (unwrap_or o d).now ≡ unwrap_or t d.now
text_or None d t e = rw (← e) refl
text_or (Some s) d t e = rw (← e) refl

-- texts or other ones
pub texts_or : (o : Option (Bor (List (Bor Text)))) (d : Bor (List (Bor Text))) (t : Option (List Text)) → option_map (λ s. map (λ v. v.now) s.now) o ≡ t
    → map (λ v. v.now) (unwrap_or o d).now ≡ unwrap_or t (map (λ v. v.now) d.now)
texts_or None d t e = rw (← e) refl
texts_or (Some s) d t e = rw (← e) refl

pub name-rows : (m : ArgMatches) → subcommand_name_of m ≡ option_map (λ q. q.0) (subcommand_rows_of m)
name-rows m =
    elim ((out-ArgMatches m).subcommand) as (λ s. option_map (λ b. (out-SubCommand (box_value b)).name.now) s ≡ option_map (λ q. q.0) (subcommand_rows s))
    [ None ↦ refl | Some b ↦ refl ]

-- a command that was met
pub met_command : (p : Option (Text × List Row)) (name : Text) (rows : List Row) → Some name ≡ option_map (λ q. q.0) p → Some rows ≡ option_map (λ q. q.1) p
    → command_named name rows ≡ found_request p
met_command None name rows named found = cc
met_command (Some q) name rows named found =
    let n : name ≡ q.0 = ap (λ (o : Option Text). unwrap_or o name) named in
    let r : rows ≡ q.1 = ap (λ (o : Option (List Row)). unwrap_or o rows) found in
    rw (n, r) refl

-- no command was met
pub met_none : (p : Option (Text × List Row)) → None ≡ option_map (λ q. q.0) p → found_request None ≡ found_request p
met_none None e = refl
met_none (Some q) e = cc

-- ---- faults

abbrev is_memory : FaultKind → Bool
is_memory OutOfMemory = true
is_memory _ = false

by_test : (k : FaultKind) (f : Fault) → of_fault k f ≡ (if is_memory k then error.NoMemory else error.Fault f)
by_test OutOfMemory f = refl
by_test _ f = refl

-- a fault is told as such, where it is not that memory ran out
fault_told : (kinds : Kinds) (f : Fault) → HasKind kinds f → IsFaultAmong kinds (of_fault (kind_of f) f)
fault_told kinds f has = rw (by_test (kind_of f) f) (go (is_memory (kind_of f)) refl has)
  where
    go : (b : Bool) → is_memory (kind_of f) ≡ b → HasKind kinds f → IsFaultAmong kinds (if b then error.NoMemory else error.Fault f)
    go true is has = tt
    go false fails (inl out) = absurd (true≢false (sym (ap is_memory out) ∙ fails))
    go false fails (inr among) = ((λ out. true≢false (sym (ap is_memory out) ∙ fails)), among)

pub told : (words : List Text) (r : Result Request RequestError) (f : Fault) → HasKind (fault_of command_line words) f → IsErrAnd r (λ x. x ≡ of_fault (kind_of f) f) → Answers words r
told words (Ok r) f has is = absurd is
told words (Err x) f has is = rw is (fault_told (fault_of command_line words) f has)

-- memory ran out
pub told_memory : (words : List Text) (r : Result Request RequestError) → IsErrAnd r (λ x. x ≡ error.NoMemory) → Answers words r
told_memory words (Ok r) is = absurd is
told_memory words (Err x) is = rw is tt

-- ---- few workers

race_has_few : (rows : List Row) → HasFewWorkers (race_of rows)
race_has_few rows = let n = number_is_in 1 64 2 (codes "workers") rows (omega arith) (omega arith) in (omega (arith, n.0), n.1)

script_has_few : (files : List Text) → HasFewWorkers (script_with files)
script_has_few [] = tt
script_has_few (f ∷ fs) = tt

command_has_few : (name : Text) (rows : List Row) → HasFewWorkers (command_named name rows)
command_has_few name rows = go (bytes_eq name (codes "check")) (bytes_eq name (codes "plan")) (bytes_eq name (codes "race")) refl refl refl
  where
    go : (c p r : Bool) → bytes_eq name (codes "check") ≡ c → bytes_eq name (codes "plan") ≡ p → bytes_eq name (codes "race") ≡ r → HasFewWorkers (command_named name rows)
    go true p r is _ _ = rw is tt
    go false true r fails is _ = rw (fails, is) tt
    go false false true fails nor is = rw (fails, nor, is) (race_has_few rows)
    go false false false fails nor none = rw (fails, nor, none) (script_has_few (files_of (codes "FILE") rows))

pub few_workers : (words : List Text) → HasFewWorkers (request_of words)
few_workers words = go (subcommand_of command_line words)
  where
    go : (p : Option (Text × List Row)) → HasFewWorkers (found_request p)
    go None = tt
    go (Some p) = command_has_few p.0 p.1
