-- Proofs of `depth`, src/ctree.rt.
use Rattle.std.proofs.Common.{◌≡◌, ℕ, [], ◌∷◌, length, sym, ap, ◌∙◌, arith, refl, length-append}
use Rattle.c_tree.specs.Chunks.{HeadValue}
use Rattle.shared_tree.specs.Balanced.{Balanced, IsFork}
use Rattle.c_tree.proofs.Chunking.{one_chunks}
use Rattle.c_tree.proofs.ctree.CTree.depth.Goals as goal

-- a tree with a root has an entry
not_empty : (t l : Balanced HeadValue) (k : ℕ) (v : HeadValue) (r : Balanced HeadValue) → IsFork t l k v r → t.entries ≡ [] → ⊥
not_empty t l k v r f e = omega (arith, ap length (sym f.entries ∙ e), length-append l.entries ((k, v) ∷ r.entries))

pub returns-in-None-clause-none : goal.returns-in-None-clause-none
returns-in-None-clause-none c =
    let s = c.args.self.now in
    let cut = one_chunks s.chunk_size s.entries _ _ c.parts.ensures.chunked in
    (λ _. sym cut ∙ ap (λ (d : Balanced HeadValue). d.entries) c.in-None.ensures, λ _. refl)

pub returns-in-Some-clause-shallow : goal.returns-in-Some-clause-shallow
returns-in-Some-clause-shallow c =
    let s = c.args.self.now in
    let cut = one_chunks s.chunk_size s.entries _ _ c.parts.ensures.chunked in
    rw (← cut) c.depth.ensures.shallow

pub returns-in-Some-clause-none : goal.returns-in-Some-clause-none
returns-in-Some-clause-none c =
    let s = c.args.self.now in
    let cut = one_chunks s.chunk_size s.entries _ _ c.parts.ensures.chunked in
    let root = c.in-Some.ensures in
    (λ none. absurd (omega (arith, c.depth.ensures.depth, root.depth)), λ none. absurd (not_empty _ _ _ _ _ root (cut ∙ none)))

pub returns-in-None-clause-room : goal.returns-in-None-clause-room
returns-in-None-clause-room c =
    let s = c.args.self.now in
    let cut = one_chunks s.chunk_size s.entries _ _ c.parts.ensures.chunked in
    rw (← cut, ap (λ (d : Balanced HeadValue). d.entries) c.in-None.ensures) (omega arith)

pub returns-in-Some-clause-room : goal.returns-in-Some-clause-room
returns-in-Some-clause-room c =
    let s = c.args.self.now in
    let cut = one_chunks s.chunk_size s.entries _ _ c.parts.ensures.chunked in
    rw (← cut) c.depth.ensures.room
