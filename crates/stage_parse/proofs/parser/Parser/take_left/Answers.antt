use Rattle.std.proofs.Common.{◌≡◌, ◌∙◌, ℕ, List, ap}
use Rattle.quel_network.specs.Sorts.{Batch}
use Rattle.stage_parse.proofs.Arrivals.{bad_left, not_left, part_left, quit_left, text_left}
use Rattle.stage_parse.proofs.parser.Parser.take_left.Goals as goal

begun : (text other : List ℕ) → text ≡ other → ◌≡◌ {A = Batch} (record { text = text; from = 0 }) (record { text = other; from = 0 })
begun text other e = ap (λ (x : List ℕ). record { text = x; from = 0 }) e

pub returns-in-Part-clause-taken : goal.returns-in-Part-clause-taken
returns-in-Part-clause-taken c = λ who.
    part_left who c.args.self.now.ranges c.args.self.now.at c.args.self.now.walk c.args.self.now.got_left c.push.new.self c.args.self.now.got_right c.args.self.now.out_left c.args.self.now.out_right c.args.frame c.requires
    (rw c.in-Part.is at c.in_ok-came.ensures) c.in_ok-push-in-Part.ensures.ok

pub returns-in-Text-clause-taken : goal.returns-in-Text-clause-taken
returns-in-Text-clause-taken c = λ who.
    text_left who c.args.self.now.ranges c.args.self.now.at c.args.self.now.walk c.start.result c.args.self.now.got_left c.clear.new.self c.args.self.now.got_right c.args.self.now.out_left c.args.self.now.out_right c.args.frame c.in-Whole.message c.in-Text.text c.requires
    (rw c.in-Whole.is at c.in_ok-came.ensures) c.in-Text.ensures (c.start.ensures ∙ begun _ _ c.into_items.ensures) c.clear.ensures

pub returns-in-Quit-clause-taken : goal.returns-in-Quit-clause-taken
returns-in-Quit-clause-taken c = λ who.
    quit_left who c.args.self.now.ranges c.args.self.now.at c.args.self.now.walk c.args.self.now.got_left c.clear-in-Quit.new.self c.args.self.now.got_right c.args.self.now.out_left c.args.self.now.out_right c.put.new.self c.args.frame c.in-Whole.message c.requires
    (rw c.in-Whole.is at c.in_ok-came.ensures) c.in-Quit.ensures
    (record { kind = c.quit_message.result.kind; bytes = c.quit_message.result.bytes; spells = c.quit_message.ensures.is; behind = c.in_ok-put-in-Quit.ensures.ok }) c.clear-in-Quit.ensures

pub returns-in-Whole-clause-unlawful : goal.returns-in-Whole-clause-unlawful
returns-in-Whole-clause-unlawful c = λ who wrong.
    not_left who c.args.self.now.ranges c.args.self.now.at c.args.self.now.walk c.args.self.now.got_left c.args.self.now.got_right c.args.self.now.out_left c.args.self.now.out_right c.args.frame c.in-Whole.message c.requires
    (rw c.in-Whole.is at c.in_ok-came.ensures) c.in-Strange.ensures

pub returns-clause-unlawful : goal.returns-clause-unlawful
returns-clause-unlawful c = λ who wrong.
    bad_left who c.args.self.now.ranges c.args.self.now.at c.args.self.now.walk c.args.self.now.got_left c.args.self.now.got_right c.args.self.now.out_left c.args.self.now.out_right c.args.frame c.requires
    (rw c.in-Unlawful.is at c.in_ok-came.ensures)
