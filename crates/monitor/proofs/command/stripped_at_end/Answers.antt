use Rattle.std.proofs.Common.{◌≡◌, sym, ◌∙◌, true, false, rules}
use Rattle.quel_grammar.specs.Lexer.{is_white}
use Rattle.monitor.proofs.Stripped.{stripped_front, stripped_whole}
use Rattle.monitor.proofs.command.stripped_at_end.Goals as goal

pub loop-last-preserved : goal.loop-last-preserved
loop-last-preserved c =
    let white : is_white c.in-Some.last.now ≡ true = search rules in
    sym (stripped_front _ _ _ c.in-Some.ensures.cases.0 white) ∙ c.loop-last.invariant

pub returns-then-not-is_white : goal.returns-then-not-is_white
returns-then-not-is_white c =
    let other : is_white c.in-Some.last.now ≡ false = search rules in
    stripped_whole _ _ _ c.in-Some.ensures.cases.0 other ∙ c.loop-last.invariant
