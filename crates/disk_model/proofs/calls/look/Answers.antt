use Rattle.std.proofs.Common.{◌∙◌, ◌-◌, take, arith}
use Rattle.disk_model.specs.Calls.{seen_from}
use Rattle.disk_model.proofs.Scanning.{look_step, said_some}
use Rattle.disk_model.proofs.calls.look.Goals as goal

pub returns-in-Some : goal.returns-in-Some
returns-in-Some c = λ m.
    look_step m c.args.calls.now (c.loop-n.n - 1) c.loop-n.n _ c.args.a (omega arith) c.loop-n.invariant.size (c.loop-n.invariant.same m)
    ∙ c.in-Some.ensures (seen_from m (take (c.loop-n.n - 1) c.args.calls.now)) ∙ said_some c.in-Some.found c.says.new.out (seen_from m (take (c.loop-n.n - 1) c.args.calls.now) c.args.a) (m c.args.a)

pub loop-n-preserved : goal.loop-n-preserved
loop-n-preserved c = record {
  size = omega arith;
  same = λ m. look_step m c.args.calls.now (c.loop-n.n - 1) c.loop-n.n _ c.args.a (omega arith) c.loop-n.invariant.size (c.loop-n.invariant.same m)
      ∙ c.in_default.ensures (seen_from m (take (c.loop-n.n - 1) c.args.calls.now));
}
