use Rattle.std.proofs.Common.{ap, sym, ◌∙◌, slice_index, Some, None}
use Rattle.stored_database.specs.Columns.{Column}
use Rattle.catalog_rows.proofs.Joins.{column_at_name, column_at_no_name}
use Rattle.catalog_rows.proofs.columns.column_at.Goals as goal

pub returns-in_default : goal.returns-in_default
returns-in_default c = column_at_no_name c.args.bytes.now (sym c.in_ok-name.ensures ∙ c.in_default.is)

pub returns-in_default-kind_in : goal.returns-in_default-kind_in
returns-in_default-kind_in c = column_at_name c.args.bytes.now c.in-Some.name None (sym c.in_ok-name.ensures ∙ c.in-Some.is) (sym c.in_default-kind_in.is ∙ c.kind_in.ensures)

pub returns : goal.returns
returns c =
    ap (λ (x : Column). Some x) (λ i. record { file = c.number_at.ensures i; place = slice_index c.args.bytes.now 4; attr = record { name = c.in-Some.name; kind = c.in-Some-kind_in.kind } })
    ∙ column_at_name c.args.bytes.now c.in-Some.name (Some c.in-Some-kind_in.kind) (sym c.in_ok-name.ensures ∙ c.in-Some.is) (sym c.in-Some-kind_in.is ∙ c.kind_in.ensures)
