use Rattle.plain_base.proofs.ChangeAt.{IsFirst}
use Rattle.plain_base.proofs.one_relation.place_under.Given as goal

abbrev pub invariant-loop-i : goal.invariant-loop-i
invariant-loop-i l = IsFirst l.key l.relations l.i
