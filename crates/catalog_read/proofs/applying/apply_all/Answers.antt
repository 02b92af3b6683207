use Rattle.std.proofs.Common.{rules, ◌≡◌, length}
use Rattle.plain_base.specs.Shown.{database_of}
use Rattle.catalog_read.proofs.Known.{all_laid}
use Rattle.catalog_read.proofs.applying.apply_all.Goals as goal

pub returns-then-len-before-clause-stuck : goal.returns-then-len-before-clause-stuck
returns-then-len-before-clause-stuck c not_done dba parts db left made is =
    let same : length c.in_ok-left.left.items ≡ length c.rounds.left.items = search rules in
    let some : length c.rounds.left.items ≡ 0 → ⊥ = search rules in
    c.in_ok-left.ensures.stuck same some dba parts db (c.rounds.invariant dba parts left) made is

pub rounds-preserved : goal.rounds-preserved
rounds-preserved c dba parts left = c.in_ok-left.ensures.left dba parts (c.rounds.invariant dba parts left)

pub returns-clause-built : goal.returns-clause-built
returns-clause-built c done dba parts left =
    let none : length c.rounds.left.items ≡ 0 = search rules in
    all_laid dba parts c.rounds.left.items (database_of c.rounds.plain) none (c.rounds.invariant dba parts left)
