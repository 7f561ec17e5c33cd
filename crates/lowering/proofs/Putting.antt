-- Laws of what is put after instructions.
use Rattle.std.proofs.Common.{◌≡◌, ℕ, suc, ◌+◌, List, [], ◌∷◌, ◌++◌, length, slice_set, refl, sym, ap, ◌∙◌, subst, append_assoc, length-append}
use Rattle.std.proofs.lemmas.List.{append-nil}
use Rattle.typed_tree.specs.ProgramTree.{ProgramTree}
use Rattle.plans.specs.Instruction.{InstructionTree}
use Rattle.plans.specs.declared.instruction.Instruction.{Instruction}
use Rattle.plans.proofs.Pairwise.{pairwise_append}
use Rattle.lowering.specs.inside.Putting.{Fills, KeepsIndex, Puts}
use Rattle.lowering.specs.Text.{AreWritten, IsWritten}

pub puts_nothing : (p : ProgramTree) (a : List Instruction) → Puts p a a []
puts_nothing p a = record { more = []; is = sym (append-nil a); are = tt }

pub puts_one : (p : ProgramTree) (a b : List Instruction) (i : Instruction) (t : InstructionTree) → b ≡ a ++ i ∷ [] → IsWritten p i t → Puts p a b (t ∷ [])
puts_one p a b i t e is = record { more = i ∷ []; is = e; are = (is, tt) }

pub puts_both : (p : ProgramTree) (a b c : List Instruction) (ts us : List InstructionTree) → Puts p a b ts → Puts p b c us → Puts p a c (ts ++ us)
puts_both p a b c ts us x y = record {
  more = x.more ++ y.more;
  is = y.is ∙ ap (λ xs. xs ++ y.more) x.is ∙ append_assoc a x.more y.more;
  are = pairwise_append (IsWritten p) x.more ts y.more us x.are y.are;
}

pub pairwise_length : (p : ProgramTree) (xs : List Instruction) (ts : List InstructionTree) → AreWritten p xs ts → length xs ≡ length ts
pairwise_length p [] [] all = refl
pairwise_length p [] (t ∷ ts) all = absurd all
pairwise_length p (x ∷ xs) [] all = absurd all
pairwise_length p (x ∷ xs) (t ∷ ts) all = ap suc (pairwise_length p xs ts all.1)

pub puts_length : (p : ProgramTree) (a b : List Instruction) (ts : List InstructionTree) → Puts p a b ts → length b ≡ length a + length ts
puts_length p a b ts x = ap length x.is ∙ length-append a x.more ∙ ap (λ n. length a + n) (pairwise_length p x.more ts x.are)

set_behind : (a : List Instruction) (x i : Instruction) (more : List Instruction) → slice_set (a ++ x ∷ more) (length a) i ≡ a ++ i ∷ more
set_behind [] x i more = refl
set_behind (y ∷ a) x i more = ap (λ xs. y ∷ xs) (set_behind a x i more)

-- an instruction that is put in the place of the first of them
pub puts_patched : (p : ProgramTree) (a b c : List Instruction) (x i : Instruction) (t : InstructionTree) (ts : List InstructionTree) (n : ℕ)
    → b ≡ a ++ x ∷ [] → Puts p b c ts → n ≡ length a → IsWritten p i t → Puts p a (slice_set c n i) (t ∷ ts)
puts_patched p a b c x i t ts n e puts at is = record {
  more = i ∷ puts.more;
  is = ap (λ m. slice_set c m i) at
      ∙ ap (λ xs. slice_set xs (length a) i) (puts.is ∙ ap (λ xs. xs ++ puts.more) e ∙ append_assoc a (x ∷ []) puts.more)
      ∙ set_behind a x i puts.more;
  are = (is, puts.are);
}

-- an instruction that fills the index that was kept before them
pub puts_filled : (p : ProgramTree) (a b c e : List Instruction) (n : ℕ) (t : InstructionTree) (ts : List InstructionTree)
    → KeepsIndex a b n → Puts p b c ts → Fills p c e n t → Puts p a e (t ∷ ts)
puts_filled p a b c e n t ts keeps puts fills =
    subst (λ xs. Puts p a xs (t ∷ ts)) (sym fills.is) (puts_patched p a b c keeps.kept fills.instruction t ts n keeps.is puts keeps.at fills.written)

pub index_length : (a b : List Instruction) (n : ℕ) → KeepsIndex a b n → length b ≡ length a + 1
index_length a b n keeps = ap length keeps.is ∙ length-append a (keeps.kept ∷ [])
