use Rattle.std.proofs.Common.{◌≡◌, ◌-◌, ◌≤◌, length}
use Rattle.quel_grammar.specs.Lexer.{comment_len}
use Rattle.quel_lexer.proofs.Passed.{passed}
use Rattle.quel_lexer.proofs.front.comment_len.Given as goal

abbrev pub invariant-loop-rest : goal.invariant-loop-rest
invariant-loop-rest l = (passed (length l.text - length l.rest) (comment_len l.rest) ≡ comment_len l.text) × (length l.rest ≤ length l.text)

abbrev pub decreases-loop-rest : goal.decreases-loop-rest
decreases-loop-rest l = length l.rest
