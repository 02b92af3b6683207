use Rattle.std.proofs.Common.{◌≡◌, ◌∙◌, sym, ap, ◌==◌, List, [], length}
use Rattle.calculus.specs.declared.change.DbChange.{DbChange}
use Rattle.calculus.specs.Change.{laid}
use Rattle.calculus.specs.Rows.{Row}
use Rattle.db_disk.proofs.Changes.{no_items, nothing_laid}
use Rattle.db_disk.proofs.applying.names_nothing.Goals as goal

pub returns-then-is_empty : goal.returns-then-is_empty
returns-then-is_empty c = λ e db.
    let none : c.in-Rows.remove ≡ [] = no_items c.in-Rows.remove (ap (λ (rows : List Row). length rows == 0) (sym c.items.ensures) ∙ sym c.is_empty.ensures ∙ c.if-is_empty.true) in
    let no_more : c.in-Rows.add ≡ [] = no_items c.in-Rows.add (ap (λ (rows : List Row). length rows == 0) (sym c.items-then-is_empty.ensures) ∙ sym c.is_empty-then-is_empty.ensures ∙ e) in
    ap (λ (made : DbChange). laid db made) c.in-Rows.is ∙ nothing_laid c.in-Rows.rel c.in-Rows.remove c.in-Rows.add db none no_more
