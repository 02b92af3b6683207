use Rattle.std.proofs.Common.{◌∙◌, ap}
use Rattle.quel_grammar.specs.Next.{line_at}
use Rattle.stage_parse.proofs.Steps.{settled_so}
use Rattle.stage_parse.proofs.parser.Parser.settle.Goals as goal

pub judge-requires : goal.judge-requires
judge-requires g c = record { text = c.args.self.now.walk.text; from = c.args.self.now.walk.from; end = c.args.end; is = c.requires.read }

pub returns-clause-parsed : goal.returns-clause-parsed
returns-clause-parsed g c = λ who asker.
    settled_so who c.args.self.now.user c.args.self.now.ranges c.judge.new.ranges c.args.self.now.at c.give_judged.new.at c.args.self.now.walk c.go_on.new.self c.args.s.now c.line-line.result c.args.end
    c.args.self.now.got_left c.args.self.now.got_right c.args.self.now.out_left c.give_judged.new.left c.args.self.now.out_right c.give_judged.new.right c.in_ok-judged.judged (g.B.Base.database c.args.base.now)
    asker c.requires.parsing c.requires.read (c.line-line.ensures ∙ ap (line_at c.args.self.now.walk.text) c.requires.place)
    c.in_ok-judged.ensures.shaped c.in_ok-judged.ensures.ranges c.in_ok-judged.ensures.known
    c.in_ok-give_judged.ensures.at c.go_on.ensures c.in_ok-give_judged.ensures.left c.in_ok-give_judged.ensures.right
