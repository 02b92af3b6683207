use Rattle.std.proofs.Common.{◌≡◌, ◌-◌, ◌≤◌, length, false}
use Rattle.quel_grammar.specs.Lexer.{quoted_len}
use Rattle.quel_lexer.proofs.Passed.{passed}
use Rattle.quel_lexer.proofs.front.quoted_len.Given as goal

abbrev pub invariant-loop-rest : goal.invariant-loop-rest
invariant-loop-rest l = (passed (length l.text - length l.rest) (quoted_len l.taken l.rest) ≡ quoted_len false l.text) × (length l.rest ≤ length l.text)

abbrev pub decreases-loop-rest : goal.decreases-loop-rest
decreases-loop-rest l = length l.rest
