use Rattle.stage_parse.proofs.AtWork.{work_may_come}
use Rattle.stage_parse.proofs.Places.{is_parsing}
use Rattle.stage_parse.proofs.parser.Parser.parse_on.Goals as goal

pub parse-requires : goal.parse-requires
parse-requires g c = is_parsing c.args.self.now.ranges c.args.self.now.at c.args.self.now.walk c.args.self.now.got_left c.args.self.now.got_right c.args.self.now.out_left c.args.self.now.out_right c.requires

pub returns-in-Err-clause-cause : goal.returns-in-Err-clause-cause
returns-in-Err-clause-cause g c = work_may_come (g.B.Base.database c.args.base.now) (g.B.Base.faults c.args.base.now) (g.B.Base.faults c.parse.new.base) c.in-Err.fault c.of_base.result c.of_base.ensures c.in-Err.ensures.cause.caused
