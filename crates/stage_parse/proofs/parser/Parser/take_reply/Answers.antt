use Rattle.std.proofs.Common.{subst}
use Rattle.stage_parse.specs.declared.arriving.FromRight.{FromRight}
use Rattle.stage_parse.specs.Arriving.{CameAs}
use Rattle.message_codec.specs.MessageLaws.{by_only}
use Rattle.stage_parse.proofs.Arrivals.{done_right, end_right, kind_known, not_right, number_known, refused_right, shown_right}
use Rattle.stage_parse.proofs.parser.Parser.take_reply.Goals as goal

pub pass-requires : goal.pass-requires
pass-requires c = kind_known c.args.self.now.got_right c.args.frame c.args.reply c.requires.came

pub returns-in_ok-pass-in-Shown-clause-taken : goal.returns-in_ok-pass-in-Shown-clause-taken
returns-in_ok-pass-in-Shown-clause-taken c = λ who.
    shown_right who c.args.self.now.ranges c.args.self.now.at c.args.line c.args.self.now.walk c.args.self.now.got_left c.args.self.now.got_right c.args.self.now.out_left c.args.self.now.out_right c.args.frame c.requires.line c.requires.wants
    c.pass.new.got c.pass.new.out (subst (λ (x : FromRight). CameAs c.args.self.now.got_right c.args.frame x) c.in-Shown.is c.requires.came) c.in_ok-pass-in-Shown.ensures.got c.in_ok-pass-in-Shown.ensures.out

pub pass-requires-in-Done : goal.pass-requires-in-Done
pass-requires-in-Done c = kind_known c.args.self.now.got_right c.args.frame c.args.reply c.requires.came

pub returns-in_ok-pass-in-Done-clause-taken : goal.returns-in_ok-pass-in-Done-clause-taken
returns-in_ok-pass-in-Done-clause-taken c = λ who.
    done_right who c.args.self.now.ranges c.args.self.now.at c.args.line c.args.self.now.walk c.args.self.now.got_left c.args.self.now.got_right c.args.self.now.out_left c.args.self.now.out_right c.args.frame c.requires.line c.requires.wants
    c.pass-in-Done.new.got c.pass-in-Done.new.out (subst (λ (x : FromRight). CameAs c.args.self.now.got_right c.args.frame x) c.in-Done.is c.requires.came) c.in_ok-pass-in-Done.ensures.got c.in_ok-pass-in-Done.ensures.out

pub message_for-requires : goal.message_for-requires
message_for-requires c = number_known c.args.self.now.got_right c.args.frame c.in-Refused.refusal (subst (λ (x : FromRight). CameAs c.args.self.now.got_right c.args.frame x) c.in-Refused.is c.requires.came)

pub put-requires : goal.put-requires
put-requires c = (by_only _ _ _ c.in_ok-message-in-Refused.ensures).is_kind

pub returns-in_ok-put-in-Refused-clause-taken : goal.returns-in_ok-put-in-Refused-clause-taken
returns-in_ok-put-in-Refused-clause-taken c = λ who.
    refused_right who c.args.self.now.ranges c.args.self.now.at c.args.line c.args.self.now.walk c.args.self.now.got_left c.args.self.now.got_right c.args.self.now.out_left c.args.self.now.out_right c.args.frame c.requires.line c.requires.wants
    c.in-Refused.refusal c.clear.new.self c.put.new.self (subst (λ (x : FromRight). CameAs c.args.self.now.got_right c.args.frame x) c.in-Refused.is c.requires.came) c.clear.ensures
    (record { kind = _; bytes = _; spells = c.in_ok-message-in-Refused.ensures; behind = c.in_ok-put-in-Refused.ensures.ok })

pub returns-in-End-clause-taken : goal.returns-in-End-clause-taken
returns-in-End-clause-taken c = λ who.
    end_right who c.args.self.now.ranges c.args.self.now.at c.args.line c.args.self.now.walk c.args.self.now.got_left c.args.self.now.got_right c.args.self.now.out_left c.args.self.now.out_right c.args.frame c.requires.line c.requires.wants
    c.clear-in-End.new.self (subst (λ (x : FromRight). CameAs c.args.self.now.got_right c.args.frame x) c.in-End.is c.requires.came) c.clear-in-End.ensures

pub returns-in-Strange-clause-unlawful : goal.returns-in-Strange-clause-unlawful
returns-in-Strange-clause-unlawful c = λ who wrong.
    not_right who c.args.self.now.ranges c.args.self.now.at c.args.line c.args.self.now.walk c.args.self.now.got_left c.args.self.now.got_right c.args.self.now.out_left c.args.self.now.out_right c.args.frame c.requires.line c.requires.wants
    (subst (λ (x : FromRight). CameAs c.args.self.now.got_right c.args.frame x) c.in-Strange.is c.requires.came)
