use Rattle.std.proofs.Common.{◌≡◌, Err, rules}
use Rattle.calculus.specs.Who.{asker_of}
use Rattle.net_core.specs.declared.fault.WorkFault.TheVariants as faults
use Rattle.net_session.proofs.Serving.{ran_all, ran_none}
use Rattle.net_session.proofs.session.run_stages.Goals as goal

pub returns-in_err-net : goal.returns-in_err-net
returns-in_err-net g c =
    let is : c.from_residual.result ≡ Err faults.OutOfMemory = search rules in
    rw is (ran_none (asker_of c.args.user) c.args.number _)

pub returns : goal.returns
returns g c = ran_all (asker_of c.args.user) c.args.number _ _ _ _ _ _ _ _ c.run_rounds.result c.in_ok-net.ensures.start c.in_ok-net.ensures.heard c.in_ok-net.ensures.capacity c.in_ok-net.ensures.serve c.run_rounds.ensures.done
