-- Proofs of `claim_all`, src/claimed.rt.
use Rattle.std.proofs.Common.{IfOk}
use Rattle.std.proofs.lemmas.Result.{IfOk-weaker}
use Rattle.crew.specs.inside.Workers.{HasClaimed}
use Rattle.crew.proofs.Findings.{all_given}
use Rattle.crew.proofs.claimed.claim_all.Goals as goal

pub returns : goal.returns
returns g c =
    let Claimed = HasClaimed (g.W.Work.keeps c.args.run.now.work.now) (g.W.Work.answers c.args.run.now.work.now) c.args.word.now.table_id c.args.run.now.pieces in
    all_given (λ r. IfOk r Claimed) c.args.jobs c.map_vec.result c.map_vec.ensures.len
    (IfOk-weaker c.map_vec.result _ _ (λ v each i d below. (each i d below).1.call.met) c.map_vec.ensures.each)
