use Rattle.std.proofs.Common.{◌≡◌, ◌≤◌, drop}
use Rattle.quel_grammar.specs.Bounds.{past_behind, first_past}
use Rattle.quel_parse.proofs.bounds.first_past.Given as goal

abbrev pub invariant-loop-token : goal.invariant-loop-token
invariant-loop-token l = (past_behind l.keyed (record { tokens = l.number; open_ = l.opened; commas = l.commas }) (drop l.token-index l.tokens) ≡ first_past l.tokens)
    × (l.number ≡ l.token-index) × (l.opened ≤ l.number) × (l.commas ≤ l.number)
