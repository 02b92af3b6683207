use Rattle.stage_parse.proofs.Places.{not_ended, not_parsing, wants_left, wants_right}
use Rattle.stage_parse.proofs.parser.ParserStage.take.Goals as goal

pub take_left-requires : goal.take_left-requires
take_left-requires c = wants_left c.args.self.now.ranges c.args.self.now.at c.args.self.now.walk c.args.self.now.got_left c.args.self.now.got_right c.args.self.now.out_left c.args.self.now.out_right c.in-Idle.is c.requires

pub take_right-requires-clause-wants : goal.take_right-requires-clause-wants
take_right-requires-clause-wants c = wants_right c.args.self.now.ranges c.args.self.now.at c.in-Passing.line c.args.self.now.walk c.args.self.now.got_left c.args.self.now.got_right c.args.self.now.out_left c.args.self.now.out_right c.in-Passing.is c.requires

pub unreachable-requires : goal.unreachable-requires
unreachable-requires c = not_parsing c.args.self.now.ranges c.args.self.now.at c.args.self.now.walk c.args.self.now.got_left c.args.self.now.got_right c.args.self.now.out_left c.args.self.now.out_right c.requires c.in-Parsing.is

pub unreachable-requires-in-Ended : goal.unreachable-requires-in-Ended
unreachable-requires-in-Ended c = not_ended c.args.self.now.ranges c.args.self.now.at c.args.self.now.walk c.args.self.now.got_left c.args.self.now.got_right c.args.self.now.out_left c.args.self.now.out_right c.requires c.in-Ended.is
