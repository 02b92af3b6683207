-- The three files of a catalogue, where rows of each went and others came.
use Rattle.std.proofs.Common.{◌≡◌, sym, ap, subst, ◌∙◌, ◌≤◌, List, Option, Some, arith}
use Rattle.disk_model.specs.Disk.{Image}
use Rattle.page_chain.specs.Lists.{◌>>=◌}
use Rattle.page_chain.specs.Pages.{pages_of}
use Rattle.stored_database.specs.Catalogue.{Catalogue, IsCatalogue, catalogue_in, listed}
use Rattle.stored_database.specs.Columns.{Column, column_cmp, column_of, column_bytes, is_column}
use Rattle.stored_database.specs.Entries.{Entry, entry_cmp, entry_of, entry_bytes, is_entry}
use Rattle.stored_database.specs.Parts.{Part, part_cmp, part_of, part_bytes, is_part}
use Rattle.stored_database.proofs.ColumnBytes.{columns_are_their_bytes}
use Rattle.stored_database.proofs.EntryBytes.{entries_are_their_bytes}
use Rattle.stored_database.proofs.PartBytes.{parts_are_their_bytes}
use Rattle.stored_database.proofs.Listing.{what_is_listed}
use Rattle.stored_database.proofs.Orders.{entry_total, column_total, part_total}
use Rattle.stored_database.proofs.Reading.{bind_some}
use Rattle.std.proofs.lemmas.Option.{same_Some}
use Rattle.stored_database.specs.After.{AreChanges, changed, after_change}
use Rattle.catalog_moves.specs.Moves.{AreMoves}
use Rattle.catalog_moves.specs.declared.rows.Moves.{Moves}
use Rattle.catalog_pages.specs.Ends.{AreEnds, EndsAt, Written}
use Rattle.catalog_pages.specs.Rewritten.{IsRewritten}
use Rattle.catalog_pages.specs.declared.writing.Ends.{Ends}
use Rattle.catalog_pages.proofs.Files.{lists_then, same_pages}

-- The sets of a catalogue, file by file.
pub record SetsIn (m : Image) (cat : Catalogue) : Type 0 where
  pub entries : listed entry_of entry_cmp (pages_of m 5) ≡ Some cat.entries
  pub columns : listed column_of column_cmp (pages_of m 6) ≡ Some cat.columns
  pub parts : listed part_of part_cmp (pages_of m 7) ≡ Some cat.parts

-- a catalogue is its sets
pub sets_in : (m : Image) (cat : Catalogue) → catalogue_in (pages_of m) ≡ Some cat → SetsIn m cat
unfolding catalogue_in
sets_in m cat e =
    let a = bind_some (listed entry_of entry_cmp (pages_of m 5)) _ cat e in
    let b = bind_some (listed column_of column_cmp (pages_of m 6)) _ cat a.2 in
    let c = bind_some (listed part_of part_cmp (pages_of m 7)) _ cat b.2 in
    let same : record { entries = a.0; columns = b.0; parts = c.0 } ≡ cat = same_Some _ cat c.2 in
    record {
      entries = a.1 ∙ ap (λ (l : Catalogue). Some l.entries) same;
      columns = b.1 ∙ ap (λ (l : Catalogue). Some l.columns) same;
      parts = c.1 ∙ ap (λ (l : Catalogue). Some l.parts) same;
    }

-- and the sets are a catalogue
pub of_sets : (m : Image) (entries : List Entry) (columns : List Column) (parts : List Part) → listed entry_of entry_cmp (pages_of m 5) ≡ Some entries → listed column_of column_cmp (pages_of m 6) ≡ Some columns
    → listed part_of part_cmp (pages_of m 7) ≡ Some parts → catalogue_in (pages_of m) ≡ Some (record { entries = entries; columns = columns; parts = parts })
unfolding catalogue_in
of_sets m entries columns parts e f g = λ i. e i >>= (λ entries. f i >>= (λ columns. g i >>= (λ parts. Some (record { entries = entries; columns = columns; parts = parts }))))

-- Three files are written one after the other.
pub record ThreeWritten (ends now : Ends) (moves : Moves) (before : Image) (known : Option Image) : Type 0 where
  pub first : Option Image
  pub second : Option Image
  pub entries : IsRewritten 5 ends.entries now.entries moves.entries.going moves.entries.coming before first
  pub columns : IsRewritten 6 ends.columns now.columns moves.columns.going moves.columns.coming entries.image second
  pub parts : IsRewritten 7 ends.parts now.parts moves.parts.going moves.parts.coming columns.image known
  pub entries_behind : ends.entries ≤ now.entries
  pub columns_behind : ends.columns ≤ now.columns
  pub parts_behind : ends.parts ≤ now.parts

pub all_written : (ends now : Ends) (moves : Moves) (before : Image) (known : Option Image) (cat going coming : Catalogue) → ThreeWritten ends now moves before known → AreEnds before ends
    → catalogue_in (pages_of before) ≡ Some cat → AreChanges going coming cat → IsCatalogue (changed going coming cat) → AreMoves going coming moves
    → Written before known now (changed going coming cat)
unfolding changed
all_written ends now moves before known cat going coming its there is changes stands are =
    let sets = sets_in before cat is in
    let a = its.entries in
    let b = its.columns in
    let c = its.parts in
    let to_six : pages_of a.image 6 ≡ pages_of before 6 = same_pages 5 6 before a.image a.elsewhere (λ e. omega (arith, e)) in
    let to_seven : pages_of b.image 7 ≡ pages_of before 7 =
    same_pages 6 7 a.image b.image b.elsewhere (λ e. omega (arith, e)) ∙ same_pages 5 7 before a.image a.elsewhere (λ e. omega (arith, e)) in
    let from_five : pages_of c.image 5 ≡ pages_of a.image 5 =
    same_pages 7 5 b.image c.image c.elsewhere (λ e. omega (arith, e)) ∙ same_pages 6 5 a.image b.image b.elsewhere (λ e. omega (arith, e)) in
    let from_six : pages_of c.image 6 ≡ pages_of b.image 6 = same_pages 7 6 b.image c.image c.elsewhere (λ e. omega (arith, e)) in
    let one = lists_then entry_total is_entry entry_bytes entry_of entries_are_their_bytes what_is_listed.entries 5 ends.entries now.entries moves.entries.going moves.entries.coming before its.first
    cat.entries going.entries coming.entries a its.entries_behind there.entries sets.entries changes.entries are.entries_go are.entries_come stands.are_entries in
    let two = lists_then column_total is_column column_bytes column_of columns_are_their_bytes what_is_listed.columns 6 ends.columns now.columns moves.columns.going moves.columns.coming a.image its.second
    cat.columns going.columns coming.columns b its.columns_behind (subst (λ pages. EndsAt pages ends.columns) (sym to_six) there.columns)
    (subst (λ pages. listed column_of column_cmp pages ≡ Some cat.columns) (sym to_six) sets.columns) changes.columns are.columns_go are.columns_come stands.are_columns in
    let three = lists_then part_total is_part part_bytes part_of parts_are_their_bytes what_is_listed.parts 7 ends.parts now.parts moves.parts.going moves.parts.coming b.image known
    cat.parts going.parts coming.parts c its.parts_behind (subst (λ pages. EndsAt pages ends.parts) (sym to_seven) there.parts)
    (subst (λ pages. listed part_of part_cmp pages ≡ Some cat.parts) (sym to_seven) sets.parts) changes.parts are.parts_go are.parts_come stands.are_parts in
    record {
      image = c.image;
      still_known = c.still_known;
      holds = of_sets c.image (after_change entry_cmp going.entries coming.entries cat.entries) (after_change column_cmp going.columns coming.columns cat.columns)
          (after_change part_cmp going.parts coming.parts cat.parts)
          (subst (λ pages. listed entry_of entry_cmp pages ≡ Some (after_change entry_cmp going.entries coming.entries cat.entries)) (sym from_five) one.are)
          (subst (λ pages. listed column_of column_cmp pages ≡ Some (after_change column_cmp going.columns coming.columns cat.columns)) (sym from_six) two.are) three.are;
      ends_there = record {
        entries = subst (λ pages. EndsAt pages now.entries) (sym from_five) one.ends;
        columns = subst (λ pages. EndsAt pages now.columns) (sym from_six) two.ends;
        parts = three.ends;
      };
      others = λ b' not_five not_six not_seven. c.elsewhere b' not_seven ∙ b.elsewhere b' not_six ∙ a.elsewhere b' not_five;
    }
