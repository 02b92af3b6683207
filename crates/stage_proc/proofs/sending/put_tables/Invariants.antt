use Rattle.std.proofs.Common.{◌≡◌, ◌++◌, map}
use Rattle.quel_meaning.proofs.Each.{Each}
use Rattle.quel_network.specs.TableFits.{TableStands}
use Rattle.quel_network.specs.Trees.{sent_table}
use Rattle.stage_proc.specs.Sending.{tables_frames}
use Rattle.stage_proc.proofs.sending.put_tables.Given as goal

abbrev pub invariant-tables : goal.invariant-tables
invariant-tables l = record {
  stand : Each TableStands (map sent_table l.table-iterator.rest.items);
  sent : l.out ++ tables_frames l.table-iterator.rest.items ≡ l.fn.out ++ tables_frames l.fn.tables;
}
