use Rattle.std.proofs.Common.{◌==◌, ◌∙◌, ap, map, filter, subst, sym}
use Rattle.std.specs.List.Sorted.{IsStrictlySortedBy}
use Rattle.std.specs.Ordering.{is_eq}
use Rattle.stored_database.specs.Entries.{Entry, entry_cmp}
use Rattle.stored_database.specs.Spelled.{entry_at}
use Rattle.catalog_rows.specs.Shown.{entry_in}
use Rattle.catalog_read.specs.Read.{catalogue_shown}
use Rattle.catalog_read.specs.Rows.{entry_side}
use Rattle.catalog_read.proofs.Sides.{first_of, filter_alike, at_entry}
use Rattle.catalog_read.proofs.finding.entry_at.Goals as goal

pub belonging-requires : goal.belonging-requires
unfolding catalogue_shown
belonging-requires c = subst (λ l. IsStrictlySortedBy entry_cmp (map entry_in l)) (sym c.items.ensures) c.requires.entries_ascend

pub returns : goal.returns
unfolding catalogue_shown entry_at
returns c =
    let file = c.args.file in
    let alike = filter_alike (λ e. is_eq (entry_side file e)) (λ (e : Entry). e.file == file) (at_entry file) in
    first_of entry_in (λ (e : Entry). e.file == file) (map entry_in c.args.rows.now.entries) c.belonging.result.now c.first.result c.first.ensures.value
    (c.belonging.ensures ∙ alike (map entry_in c.items.result.now) ∙ ap (λ l. filter (λ (e : Entry). e.file == file) (map entry_in l)) c.items.ensures)
