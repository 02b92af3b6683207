use Rattle.std.proofs.Common.{◌≡◌, Some, map, drop}
use Rattle.calculus.specs.Database.{Db}
use Rattle.quel_check.specs.Seen.{seen}
use Rattle.quel_meaning.specs.Naming.{first_number, mention_refusal}
use Rattle.quel_names.specs.Asking.{scope_of}
use Rattle.quel_names.proofs.mentioned.first_refusal.Given as goal

abbrev pub invariant-loop-mention : goal.invariant-loop-mention
invariant-loop-mention g l = record {
  known : (db : Db) → g.B.Base.schema l.fn.base ≡ Some db
      → first_number (map (mention_refusal (scope_of db l.user l.ranges)) (map seen (drop l.mention-index l.mentions)))
      ≡ first_number (map (mention_refusal (scope_of db l.user l.ranges)) (map seen l.mentions));
  kept : g.B.Base.database l.base ≡ g.B.Base.database l.fn.base;
  stays : (s : Db) → g.B.Base.schema l.fn.base ≡ Some s → g.B.Base.schema l.base ≡ Some s;
  asked : (b : _) → g.B.Base.asked b l.fn.base → g.B.Base.asked b l.base;
  faults : g.B.Base.faults l.base ≡ g.B.Base.faults l.fn.base;
}
