use Rattle.stage_parse.proofs.AtWork.{on_ok_both}
use Rattle.stage_parse.proofs.Steps.{ended_so}
use Rattle.stage_parse.proofs.parser.Parser.end.Goals as goal

pub returns-clause-parsed : goal.returns-clause-parsed
returns-clause-parsed g c = λ who.
    on_ok_both c.give_end.result
    (ended_so who c.args.self.now.ranges c.args.self.now.at c.give_end.new.at c.args.self.now.walk c.give_end.new.walk c.args.self.now.got_left c.args.self.now.got_right c.args.self.now.out_left c.give_end.new.out c.args.self.now.out_right (g.B.Base.database c.args.base.now) c.requires.parsing c.requires.over)
    c.give_end.ensures.at c.give_end.ensures.out
