use Rattle.stage_parse.proofs.Arrivals.{bad_right, part_right}
use Rattle.stage_parse.proofs.parser.Parser.take_right.Goals as goal

pub returns-in_ok-push-in-Part-clause-taken : goal.returns-in_ok-push-in-Part-clause-taken
returns-in_ok-push-in-Part-clause-taken c = λ who.
    part_right who c.args.self.now.ranges c.args.self.now.at c.args.line c.args.self.now.walk c.args.self.now.got_left c.args.self.now.got_right c.push.new.self c.args.self.now.out_left c.args.self.now.out_right c.args.frame c.requires.line c.requires.wants
    (rw c.in-Part.is at c.in_ok-came.ensures) c.in_ok-push-in-Part.ensures.ok

pub take_reply-requires-clause-came : goal.take_reply-requires-clause-came
take_reply-requires-clause-came c = record { message = c.in-Whole.message; come = rw c.in-Whole.is at c.in_ok-came.ensures; is = c.from_right-reply.ensures }

pub returns-in-Unlawful-clause-unlawful : goal.returns-in-Unlawful-clause-unlawful
returns-in-Unlawful-clause-unlawful c = λ who wrong.
    bad_right who c.args.self.now.ranges c.args.self.now.at c.args.line c.args.self.now.walk c.args.self.now.got_left c.args.self.now.got_right c.args.self.now.out_left c.args.self.now.out_right c.args.frame c.requires.line c.requires.wants
    (rw c.in-Unlawful.is at c.in_ok-came.ensures)
