use Rattle.stage_parse.proofs.Meanings.{if_ok_to}
use Rattle.stage_parse.proofs.Places.{given_left, given_right, right_some}
use Rattle.stage_parse.proofs.parser.ParserStage.give.Goals as goal

pub give-requires : goal.give-requires
give-requires c = right_some c.args.self.now.ranges c.args.self.now.at c.args.self.now.walk c.args.self.now.got_left c.args.self.now.got_right c.args.self.now.out_left c.args.self.now.out_right (c.is_empty.ensures.0 c.if-is_empty.true) c.requires

pub returns-then-is_empty-clause-given : goal.returns-then-is_empty-clause-given
returns-then-is_empty-clause-given c =
    if_ok_to c.give.result (λ frame e. given_right c.args.self.now.ranges c.args.self.now.at c.args.self.now.walk c.args.self.now.got_left c.args.self.now.got_right c.args.self.now.out_left c.args.self.now.out_right c.give.new.self frame (c.is_empty.ensures.0 c.if-is_empty.true) e) c.give.ensures.given

pub returns-else-is_empty-clause-given : goal.returns-else-is_empty-clause-given
returns-else-is_empty-clause-given c =
    if_ok_to c.give-else-is_empty.result (λ frame e. given_left c.args.self.now.ranges c.args.self.now.at c.args.self.now.walk c.args.self.now.got_left c.args.self.now.got_right c.args.self.now.out_left c.give-else-is_empty.new.self c.args.self.now.out_right frame e) c.give-else-is_empty.ensures.given
