use Rattle.std.proofs.Common.{ap, List}
use Rattle.std.proofs.lemmas.Result.{IfOk-weaker}
use Rattle.frame_codec.specs.declared.frame.Frame.{Frame}
use Rattle.monitor.specs.Standing.{standing}
use Rattle.monitor.proofs.Arriving.{given_first, has_frames}
use Rattle.monitor.proofs.Erring.{on_err}
use Rattle.monitor.proofs.first.MonitorStage.give.Goals as goal

pub give-requires : goal.give-requires
give-requires c = has_frames c.args.self.now.reader c.args.self.now.at c.args.self.now.got c.args.self.now.out c.requires

pub returns-clause-given : goal.returns-clause-given
returns-clause-given c = IfOk-weaker c.give.result _ _ (λ frame e. given_first c.args.self.now.reader c.args.self.now.at c.args.self.now.got c.args.self.now.out c.give.new.self frame e) c.give.ensures.given

pub returns-clause-kept : goal.returns-clause-kept
returns-clause-kept c = on_err c.give.result (λ e. ap (λ (out : List Frame). standing c.args.self.now.reader c.args.self.now.at c.args.self.now.got out) e) c.give.ensures.err
