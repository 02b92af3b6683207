use Rattle.std.proofs.Common.{◌+◌, ◌≤◌, ◌-◌, ◌^◌, length}
use Rattle.quel_grammar.specs.Pieces.{pieces_from}
use Rattle.quel_lexer.proofs.Cutting.{Cut}
use Rattle.quel_lexer.proofs.lexed.cut.Given as goal

abbrev pub invariant-loop-rest : goal.invariant-loop-rest
invariant-loop-rest l = Cut (pieces_from l.text l.from) l.tokens.items l.spans.items l.at l.rest × (l.at + length l.rest ≤ 2 ^ 64 - 1) × (length l.tokens.items ≤ l.most)

abbrev pub decreases-loop-rest : goal.decreases-loop-rest
decreases-loop-rest l = length l.rest
