use Rattle.std.proofs.Common.{[], ◌∷◌}
use Rattle.calculus.specs.IsDatabase.{kind_bytes}
use Rattle.stored_database.specs.Columns.{column_bytes, kind_number}
use Rattle.stored_database.specs.Names.{bytes32, name_bytes}
use Rattle.catalog_rows.proofs.Behind.{behind_each_other, pushed}
use Rattle.catalog_rows.proofs.columns.add_column.Goals as goal

pub returns-clause-bytes : goal.returns-clause-bytes
unfolding column_bytes
returns-clause-bytes c =
    let a = c.args.attr.now in
    behind_each_other c.args.row.now.items _ _ _ _ _ (bytes32 c.args.file) (c.args.place ∷ []) (name_bytes a.name) (kind_number a.kind ∷ []) (kind_bytes a.kind ∷ [])
    c.in_ok-add_number.ensures c.in_ok-push.ensures.items c.in_ok-add_name.ensures.bytes (pushed c.add_name.new.row.items c.push-2.new.self.items _ (kind_number a.kind) c.in_ok-push-2.ensures.items c.kind_number.ensures)
    (pushed c.push-2.new.self.items c.push-3.new.self.items _ (kind_bytes a.kind) c.in_ok-push-3.ensures.items c.kind_bytes.ensures)

pub returns-clause-named : goal.returns-clause-named
returns-clause-named c = c.in_ok-add_name.ensures.named
