use Rattle.std.proofs.Common.{◌≡◌, ◌∷◌}
use Rattle.std.proofs.lemmas.Result.{IfOk-weaker}
use Rattle.network_meaning.specs.Calls.{Given}
use Rattle.stage_proc.specs.Standing.{standing}
use Rattle.stage_proc.proofs.Giving.{gives_left, gives_right, has_right}
use Rattle.stage_proc.proofs.processor.ProcessorStage.give.Goals as goal

pub give-requires : goal.give-requires
give-requires c = has_right c.args.self.now.at c.args.self.now.got c.args.self.now.left c.args.self.now.right c.requires (c.is_empty.ensures.0 c.if-is_empty.true)

pub returns-then-is_empty-clause-given : goal.returns-then-is_empty-clause-given
returns-then-is_empty-clause-given c =
    IfOk-weaker c.give.result (λ frame. c.args.self.now.right ≡ frame ∷ c.give.new.self)
    (λ frame. Given (standing c.args.self.now.at c.args.self.now.got c.args.self.now.left c.args.self.now.right) frame (standing c.args.self.now.at c.args.self.now.got c.args.self.now.left c.give.new.self))
    (λ frame e. gives_right c.args.self.now.at c.args.self.now.got c.args.self.now.left c.args.self.now.right c.give.new.self frame (c.is_empty.ensures.0 c.if-is_empty.true) e) c.give.ensures.given

pub returns-clause-given : goal.returns-clause-given
returns-clause-given c =
    IfOk-weaker c.give-2.result (λ frame. c.args.self.now.left ≡ frame ∷ c.give-2.new.self)
    (λ frame. Given (standing c.args.self.now.at c.args.self.now.got c.args.self.now.left c.args.self.now.right) frame (standing c.args.self.now.at c.args.self.now.got c.give-2.new.self c.args.self.now.right))
    (λ frame e. gives_left c.args.self.now.at c.args.self.now.got c.args.self.now.left c.give-2.new.self c.args.self.now.right frame e) c.give-2.ensures.given
