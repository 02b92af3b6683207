-- Each change of a database.
use Rattle.calculus.specs.declared.change.DbChange.{DbChange}
use Rattle.calculus.specs.declared.change.DbChange.TheVariants as change
use Rattle.stored_database.specs.ChangeLaws.{ChangesTheCatalogue, ChangesRows}
use Rattle.stored_database.proofs.ChangeRows.{rows}
use Rattle.stored_database.proofs.Create.{create}
use Rattle.stored_database.proofs.Destroy.{destroy}
use Rattle.stored_database.proofs.MakeIndex.{index}
use Rattle.stored_database.proofs.MakeView.{view}
use Rattle.stored_database.proofs.Modify.{modify}
use Rattle.stored_database.proofs.Permits.{permit, permits_dropped}
use Rattle.stored_database.proofs.Rules.{rule, rules_dropped}
use Rattle.stored_database.proofs.Unmoved.{Moves, its_catalogue, its_rows}

-- what goes and comes with it
every_move : (made : DbChange) → Moves made
every_move (change.Rows rel remove add) = rows rel remove add
every_move (change.Create info made) = create info made
every_move (change.Destroy rels) = destroy rels
every_move (change.Modify rel to keys) = modify rel to keys
every_move (change.Index base name keys) = index base name keys
every_move (change.View info query) = view info query
every_move (change.Permit rel made) = permit rel made
every_move (change.Rule rel made) = rule rel made
every_move (change.DropPermits rel numbers) = permits_dropped rel numbers
every_move (change.DropRules rel numbers) = rules_dropped rel numbers

pub every_change : (made : DbChange) → ChangesTheCatalogue made
every_change made db f after is lawful differ differ_after agree = its_catalogue made (every_move made) db f after is lawful differ differ_after agree

pub every_row : (made : DbChange) → ChangesRows made
every_row made db f after is lawful differ differ_after agree = its_rows made (every_move made) db f after is lawful differ differ_after agree
