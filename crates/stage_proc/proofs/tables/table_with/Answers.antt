use Rattle.std.proofs.Common.{ap, ◌∙◌, map}
use Rattle.ovqp.proofs.Parts.{targets_is}
use Rattle.quel_meaning.specs.Tables.{column_of, sorted}
use Rattle.stage_proc.proofs.Tabling.{made_table}
use Rattle.stage_proc.proofs.tables.table_with.Goals as goal

pub returns-in-Ok-clause-columns : goal.returns-in-Ok-clause-columns
returns-in-Ok-clause-columns c = c.of.ensures ∙ c.in-Ok.ensures ∙ ap (map column_of) (c.items.ensures ∙ targets_is c.args.asked.now.query)

pub returns-in-Ok-clause-known : goal.returns-in-Ok-clause-known
returns-in-Ok-clause-known c = λ db is.
    let asked = c.args.asked.now in
    made_table db asked c.of.result c.of-in-Ok.result
    (c.of.ensures ∙ c.in-Ok.ensures ∙ ap (map column_of) (c.items.ensures ∙ targets_is asked.query))
    (c.of-in-Ok.ensures ∙ c.sorted.ensures ∙ ap (λ keys. sorted keys c.into_rows.result.items) c.items-in-Ok.ensures ∙ ap (sorted asked.sort) (c.into_rows.ensures.rows ∙ is))
