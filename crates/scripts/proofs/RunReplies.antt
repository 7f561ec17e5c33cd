-- How a run is answered.
use Rattle.std.proofs.Common.{◌≡◌, ℕ, ◌<◌, ◌≤◌, ◌⊎◌, ◌||◌, Bool, true, false, Option, Some, None, Result, Ok, Err, sym, ap, ◌∙◌, if◌then◌else◌, arith}
use Rattle.std.specs.Result.{OnOk}
use Rattle.tree_batch.specs.Digraph.{Digraph}
use Rattle.algorithm_meaning.specs.ProgramTree.{ProgramTree}
use Rattle.scripts.specs.Replies.{OpenState, is_worker_count, meaning_on, ran, refused, running}

-- the version is not there
pub runs_nowhere : (o : OpenState) (turns workers : ℕ) (found : Option ProgramTree) (p : ProgramTree) (g : Option Digraph) → found ≡ Some p → g ≡ None → running o turns workers found g ≡ refused o 122
runs_nowhere o turns workers found p g there is = ap (λ (f : Option ProgramTree). running o turns workers f g) there ∙ ap (running o turns workers (Some p)) is

-- on a version that is there, by n workers as there may be, or not
runs_by : (o : OpenState) (turns workers : ℕ) (found : Option ProgramTree) (p : ProgramTree) (g : Option Digraph) (graph : Digraph) (may : Bool) → found ≡ Some p → g ≡ Some graph
    → is_worker_count workers ≡ may
    → running o turns workers found g ≡ (if may then ran o (meaning_on graph p turns) else refused o 411)
runs_by o turns workers found p g graph may there is count =
    ap (λ (f : Option ProgramTree). running o turns workers f g) there ∙ ap (running o turns workers (Some p)) is
    ∙ ap (λ (b : Bool). if b then ran o (meaning_on graph p turns) else refused o 411) count

too_many : (workers : ℕ) → (workers ≡ 0) ⊎ (64 < workers) → is_worker_count workers ≡ false
too_many workers is = grind arith

pub runs_by_too_many : (o : OpenState) (turns workers : ℕ) (found : Option ProgramTree) (p : ProgramTree) (g : Option Digraph) (graph : Digraph) → found ≡ Some p → g ≡ Some graph → (workers ≡ 0)
    ⊎ (64 < workers)
    → running o turns workers found g ≡ refused o 411
runs_by_too_many o turns workers found p g graph there is many = runs_by o turns workers found p g graph false there is (too_many workers many)

pub enough : (workers : ℕ) → (workers ≡ 0 → ⊥) → workers ≤ 64 → is_worker_count workers ≡ true
enough workers some few = grind arith

pub runs : (o : OpenState) (turns workers : ℕ) (found : Option ProgramTree) (p : ProgramTree) (g : Option Digraph) (graph : Digraph) → found ≡ Some p → g ≡ Some graph → (workers ≡ 0 → ⊥)
    → workers ≤ 64
    → running o turns workers found g ≡ ran o (meaning_on graph p turns)
runs o turns workers found p g graph there is some few = runs_by o turns workers found p g graph true there is (enough workers some few)

-- what is so whatever a call answers
pub on_ok_where : {T E P : Type 0} (r : Result T E) → P → OnOk r P
on_ok_where (Ok x) p = p
on_ok_where (Err e) p = tt

-- what holds of one of two holds of both together
pub either_first : (now a b : Bool) → now ≡ a → a ≡ true → now ≡ a || b
either_first now a b is holds = is ∙ holds ∙ sym (ap (λ (x : Bool). x || b) holds)

pub either_second : (now a c b : Bool) → now ≡ c → c ≡ b → a ≡ false → now ≡ a || b
either_second now a c b is same fails = is ∙ same ∙ sym (ap (λ (x : Bool). x || b) fails)
