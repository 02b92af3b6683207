use Rattle.std.proofs.Common.{◌≡◌, rules, true, false}
use Rattle.message_codec.specs.Coming.{HasCome}
use Rattle.message_codec.specs.declared.gathered.Came.TheVariants as came
use Rattle.monitor.specs.Taking.{comes_due}
use Rattle.monitor.proofs.Arriving.{due_taking, not_due, not_lawful, taken_part, taken_whole}
use Rattle.monitor.proofs.first.MonitorStage.take.Goals as goal

pub returns-in_ok-push-in-Part-clause-taken : goal.returns-in_ok-push-in-Part-clause-taken
returns-in_ok-push-in-Part-clause-taken c = λ user due.
    let part : HasCome c.args.self.now.got c.args.frame came.Part = rw c.in-Part.is at c.in_ok-came.ensures in
    taken_part user c.args.self.now.reader c.args.self.now.at c.args.self.now.got c.push.new.self c.args.self.now.out c.args.frame c.requires part c.in_ok-push-in-Part.ensures.ok

pub returns-in-Unlawful-clause-unlawful : goal.returns-in-Unlawful-clause-unlawful
returns-in-Unlawful-clause-unlawful c = λ user due e.
    let unlawful : HasCome c.args.self.now.got c.args.frame came.Unlawful = rw c.in-Unlawful.is at c.in_ok-came.ensures in
    not_lawful user c.args.self.now.reader c.args.self.now.at c.args.self.now.got c.args.self.now.out c.args.frame c.requires unlawful

pub returns-then-not-is_due-clause-unlawful : goal.returns-then-not-is_due-clause-unlawful
returns-then-not-is_due-clause-unlawful c = λ user due e.
    let whole : HasCome c.args.self.now.got c.args.frame (came.Whole c.in-Whole.said) = rw c.in-Whole.is at c.in_ok-came.ensures in
    let undue : comes_due c.args.self.now.at c.in-Whole.said ≡ false = search rules in
    not_due user c.args.self.now.reader c.args.self.now.at c.args.self.now.got c.args.self.now.out c.args.frame c.in-Whole.said c.requires whole undue

pub returns-else-not-is_due-clause-taken : goal.returns-else-not-is_due-clause-taken
returns-else-not-is_due-clause-taken c = λ user due.
    let whole : HasCome c.args.self.now.got c.args.frame (came.Whole c.in-Whole.said) = rw c.in-Whole.is at c.in_ok-came.ensures in
    let comes : comes_due c.args.self.now.at c.in-Whole.said ≡ true = search rules in
    taken_whole user c.args.self.now.reader c.args.self.now.at c.takes.new.self c.args.self.now.got c.clear.new.self c.args.self.now.out c.args.frame c.in-Whole.said c.requires whole comes c.takes.ensures c.clear.ensures

pub returns-else-not-is_due-clause-serves : goal.returns-else-not-is_due-clause-serves
returns-else-not-is_due-clause-serves c = λ user due.
    let comes : comes_due c.args.self.now.at c.in-Whole.said ≡ true = search rules in
    due_taking c.args.self.now.at c.takes.new.self c.in-Whole.said comes c.takes.ensures
