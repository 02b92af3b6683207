use Rattle.std.proofs.Common.{sym, ◌∙◌}
use Rattle.quel_names.specs.Asking.{scope_of}
use Rattle.quel_resolve.proofs.Passing.{few_enough, more_than, too_many}
use Rattle.quel_resolve.proofs.queries.query_within.Goals as goal

pub returns-then-are_too_many-clause-known : goal.returns-then-are_too_many-clause-known
returns-then-are_too_many-clause-known g c = λ db user h names w a mine inside.
    too_many (scope_of db user c.args.ranges.now) c.args.s.now w a
    (more_than c.args.vars.now c.args.inner.now c.args.s.now mine inside (sym c.are_too_many.ensures ∙ c.if-are_too_many.true))

pub returns-clause-known : goal.returns-clause-known
returns-clause-known g c = λ db user h names w a mine inside.
    c.query_over.ensures.known db user h names a mine inside (few_enough c.args.vars.now c.args.inner.now (sym c.are_too_many.ensures ∙ c.if-are_too_many.false))
