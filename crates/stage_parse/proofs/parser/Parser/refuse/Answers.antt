use Rattle.message_codec.specs.MessageLaws.{by_only}
use Rattle.stage_parse.proofs.AtWork.{on_ok_both}
use Rattle.stage_parse.proofs.Steps.{refused_so}
use Rattle.stage_parse.proofs.parser.Parser.refuse.Goals as goal

pub put-requires : goal.put-requires
put-requires g c = (by_only _ _ _ c.in_ok-message.ensures).is_kind

pub returns-clause-parsed : goal.returns-clause-parsed
returns-clause-parsed g c = λ who.
    on_ok_both c.give_end.result
    (λ idle gives. refused_so who c.args.self.now.ranges c.args.self.now.at c.give_end.new.at c.args.self.now.walk c.give_end.new.walk c.args.self.now.got_left c.args.self.now.got_right c.args.self.now.out_left c.put.new.self c.give_end.new.out c.args.self.now.out_right c.args.line (g.B.Base.database c.args.base.now)
    c.requires.parsing c.requires.bad idle (record { kind = _; bytes = _; spells = c.in_ok-message.ensures; behind = c.in_ok-put.ensures.ok }) gives)
    c.give_end.ensures.at c.give_end.ensures.out
