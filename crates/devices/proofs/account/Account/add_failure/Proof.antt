-- An empty body. The borrow is opened and closed at other ghost values: there is one failure more.
use Rattle.std.proofs.Common.{ℕ, ◌+◌, List, [], ◌∷◌, refl, MutBor}
use seplogic.Ra.Ura.{Ura}
use mir.Syntax.{named}
use mir.Val.{Val, vunit, vptr}
use base.Logic.{SProp, ent, sep, emp, via, fst∗, id⊢}
use base.Fml.{GName, Lft, Share, ftrue, flft, fobs, fbor}
use prog.Memory.{Memory}
use prog.Routine.{Routine}
use prog.Wp.{Calls, Loops, WpFn, Tables}
use types.Logic.{Logic}
use contract.Monad.{Fun}
use contract.Running.{tables, tables_of}
use types.Kit.{‵, ◌⊛◌, ◌$◌, ◌∵◌, !, qed, by, move, keep, drop, use1, split, join, fsplit, fsplit3, fjoin, fjoin3, feq_i, suffices, frame, done}
use types.Run.{unit_lit, of_opd, returns, enter}
use types.SemTy.{Body}
use types.ByLocal.{alloc_all, pass_all, free_all, look_at, sets}
use sound.WpLaws.{WpFn-mono}
use denote.RattleType.{owns}
use denote.Memory.{mem}
use denote.Ref.{MutRef, mut_vals, mut_Tells}
use denote.Signature.{plain}
use denote.Steps.{nothing, opens, closes}
use denote.Triple.Entry.{on_entry}
use denote.Triple.Spec.{Meets, triple_of}
use denote.Triple.Table.{entered}
use denote.Triple.Walked.{Stays, stay_ref, walk_of, AllGo, Goes-ref, Walks, ends_at, walked, walk_Meets}
use Rattle.devices.proofs.Walks.{says_both}
use Rattle.devices.specs.declared.account.Account.{Account}
use Rattle.devices.specs.contracts.account.Account as account
use Rattle.devices.specs.contracts.account.Account.add_failure as f
use Rattle.devices.specs.contracts.account.Account.add_failure.Key.{name as key}
use Rattle.devices.proofs.account.Account.add_failure.Statement as stated
use Rattle.devices.proofs.account.Account.add_failure.Code as code

abbrev Arg : Type 0
Arg = MutBor Account × Unit {0}

abbrev stayed : Stays (f.ended).signature.params (f.ended).kept
stayed = (stay_ref (0 ∷ []) tt (plain (λ _. account.the_row)), tt)

module _ {M : Type 1} {𝓤 : Ura M} (𝓛 : Logic 𝓤) (at_mem : Memory → SProp 𝓤) (run : Routine → Fun 𝓤) (κ : Lft) (q : Share) (b o : ℕ) (γ : GName) (old : Account) where
  open 𝓛 use {H, A}

  abbrev x : Arg
  x = (record { ref_ptr = (b, o); ghost_name = γ; now = old }, tt)

  abbrev new : Account
  new = record old { failures = old.failures + 1 }

  abbrev at : List Val × Unit {0}
  at = (vptr b o ∷ [], tt)

  abbrev Post : Val → SProp 𝓤
  Post = (walk_of 𝓛 f.ended stayed (f.clauses 𝓛 at_mem run)).post (((κ, tt), (q, tt), tt, x, at), tt)

  exits : ent 𝓤 (sep 𝓤 (A.obs γ (account.the_row.coded.code new)) (sep 𝓤 (A.bor κ (Body (mem account.the_row) b o γ)) (A.lft κ q))) (Post vunit)
  exits =
      qed 𝓛 (‵ (fobs γ (account.the_row.coded.code new)) ∷ ‵ (fbor κ (Body (mem account.the_row) b o γ)) ∷ ‵ (flft κ q) ∷ []) ∵
      suffices ! _ (ends_at 𝓛 f.ended stayed (f.clauses 𝓛 at_mem run) (((κ, tt), (q, tt), tt, x, at), tt) vunit tt (new, tt) (tt, tt)) $ says_both ! refl refl $
      nothing ! $ move ! (3 ∷ 0 ∷ []) $ join ! $
      frame ! $ feq_i ! (List Val) (vptr b o ∷ []) (vptr b o ∷ []) refl $ fjoin3 ! $ nothing ! $ move ! (1 ∷ 0 ∷ []) $ fjoin ! $
      feq_i ! (List Val) (vunit ∷ []) (vunit ∷ []) refl $ move ! (1 ∷ 0 ∷ []) $ done !

  module _ (C : Calls 𝓤 H) (Λ : Loops 𝓤 H) where
    walk : ent 𝓤 (on_entry 𝓛 f.signature (κ, tt) (q, tt) x at) (WpFn 𝓤 H C Λ code.function (vptr b o ∷ []) Post)
    walk =
        qed 𝓛 ((‵ (flft κ q) ⊛ ‵ ftrue) ∷ ‵ (owns (MutRef (named 0) κ account.the_row ∷ []) x at) ∷ []) ∵ split ! $ move ! (2 ∷ []) $ fsplit ! $ fsplit3 ! $ drop ! $ move ! (0 ∷ 1 ∷ 3 ∷ []) $
        enter ! C Λ code.function (vptr b o ∷ []) _ $
        alloc_all ! (λ l. pass_all ! refl ((tt, tt), tt) $
        move ! (0 ∷ 1 ∷ 2 ∷ []) $ opens ! tt account.the_row {h = old} b o (λ vs.
        sets ! (of_opd ! (unit_lit !)) refl (tt, tt) $
        move ! (1 ∷ []) $ use1 𝓛 (‵ (account.the_row.own_val new vs)) (id⊢ 𝓤 _) $ move ! (1 ∷ 0 ∷ []) $ closes ! tt account.the_row new vs b o $
        returns ! (look_at ! 0 refl) $ free_all ! refl $
        keep ! (0 ∷ 1 ∷ 2 ∷ []) $ by ! exits))

module _ {M : Type 1} {𝓤 : Ura M} (𝓛 : Logic 𝓤) (at_mem : Memory → SProp 𝓤) (run : Routine → Fun 𝓤) where
  open 𝓛 use {H}

  walks : (C : Calls 𝓤 H) (Λ : Loops 𝓤 H) → Walks 𝓛 f.ended stayed (WpFn 𝓤 H C Λ code.function) (f.clauses 𝓛 at_mem run)
  walks C Λ = walked 𝓛 f.ended stayed (f.clauses 𝓛 at_mem run) (WpFn 𝓤 H C Λ code.function) (λ κs. (mut_vals, tt)) (λ κs. (mut_Tells (named 0) κs.0 account.the_row, tt))
      (λ κs qs bounds a _ are. via 𝓤 _ (fst∗ 𝓤 _ (emp 𝓤)) (walk 𝓛 at_mem run κs.0 qs.0 a.0.ref_ptr.0 a.0.ref_ptr.1 a.0.ghost_name a.0.now C Λ))

  goes : AllGo 𝓛 1 (f.signature).params (f.ended).kept stayed
  goes = (Goes-ref 𝓛 1 0 tt (plain (λ _. account.the_row)), tt)

meets : {M : Type 1} {𝓤 : Ura M} (𝓛 : Logic 𝓤) → (at_mem : Memory → SProp 𝓤) (run : Routine → Fun 𝓤) (𝓣 : Tables 𝓤 𝓛.H)
    → Meets 𝓛 f.signature (WpFn 𝓤 𝓛.H 𝓣.C 𝓣.Λ code.function) (f.spec 𝓛 at_mem run)
meets {𝓤 = 𝓤} 𝓛 at_mem run 𝓣 = walk_Meets 𝓛 f.ended stayed (goes 𝓛 at_mem run) (f.clauses 𝓛 at_mem run) (WpFn 𝓤 𝓛.H 𝓣.C 𝓣.Λ code.function) (WpFn-mono 𝓤 𝓛.H 𝓛.laws 𝓣 code.function)
    (walks 𝓛 at_mem run 𝓣.C 𝓣.Λ)

pub add_failure_spec : {M : Type 1} → stated.statement M
unfolding tables_of
add_failure_spec 𝓤 𝓛 𝓜 𝓡 wired =
    entered 𝓤 𝓛.H (triple_of 𝓛 f.signature (f.spec 𝓛 𝓜.mem 𝓡.returns))
    (tables 𝓤 𝓛.H 𝓜 𝓡 𝓡.env).C (tables 𝓤 𝓛.H 𝓜 𝓡 𝓡.env).Λ key code.function (code.unfolded 𝓤 𝓛.H 𝓜 𝓡 wired)
    (meets 𝓛 𝓜.mem 𝓡.returns (tables_of 𝓤 𝓛.H 𝓜 (tables 𝓤 𝓛.H 𝓜 𝓡 𝓡.env)))
