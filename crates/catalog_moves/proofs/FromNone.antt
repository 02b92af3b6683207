-- Rows that come where there were none.
use Rattle.std.proofs.Common.{◌≡◌, sym, subst, List, ℕ, [], map}
use Rattle.std.specs.Prelude.{Result, Ok, Err, OnOk}
use Rattle.std.specs.List.{AllByRecursion}
use Rattle.page_chain.specs.Lying.{IsShort}
use Rattle.stored_database.specs.Catalogue.{Catalogue}
use Rattle.stored_database.specs.Columns.{column_bytes}
use Rattle.stored_database.specs.Entries.{Entry, entry_bytes}
use Rattle.stored_database.specs.Parts.{Part}
use Rattle.catalog_moves.specs.declared.rows.SomeRows.{SomeRows}
use Rattle.catalog_moves.specs.Moves.{Came, CameParts, AreRows}
use Rattle.catalog_moves.proofs.Coming.{are_rows, only_entries, only_parts, parts_none}
use Rattle.catalog_moves.proofs.GoneParts.{on_ok}

-- what follows from two where it went well
pub both_ok : {A E : Type 0} {P Q R : Type 0} (r : Result A E) → (P → Q → R) → OnOk r P → OnOk r Q → OnOk r R
both_ok (Ok x) f h k = f h k
both_ok (Err e) f h k = tt

-- what holds holds where it went well
pub ok_too : {A E : Type 0} {P : Type 0} (r : Result A E) → P → OnOk r P
ok_too (Ok x) h = h
ok_too (Err e) h = tt

-- only entries came
pub entries_alone : {A E : Type 0} (r : Result A E) (old rows : SomeRows) (es : List Entry) → AreRows (record { entries = []; columns = []; parts = [] }) old → rows.columns ≡ old.columns → rows.parts ≡ old.parts
    → OnOk r (Came old.entries.items rows.entries.items (map entry_bytes es)) → OnOk r (AreRows (record { entries = es; columns = []; parts = [] }) rows)
entries_alone r old rows es none columns parts came =
    on_ok r (only_entries rows es old.entries.items none.entries (subst (λ v. v.items ≡ []) (sym columns) none.columns) (subst (λ v. v.items ≡ []) (sym parts) none.parts)) came

-- only parts came
pub parts_alone : {A E : Type 0} (r : Result A E) (old rows : SomeRows) (ps : List Part) → AreRows (record { entries = []; columns = []; parts = [] }) old → rows.entries ≡ old.entries → rows.columns ≡ old.columns
    → OnOk r (CameParts old.parts.items rows.parts.items ps) → OnOk r (AreRows (record { entries = []; columns = []; parts = ps }) rows)
parts_alone r old rows ps none entries columns came =
    on_ok r (only_parts rows ps old.parts.items (subst (λ v. v.items ≡ []) (sym entries) none.entries) (subst (λ v. v.items ≡ []) (sym columns) none.columns) none.parts) came

-- entries and attributes came
pub all_known : {A E : Type 0} (r : Result A E) (old rows : SomeRows) (cat : Catalogue) → cat.parts ≡ [] → AreRows (record { entries = []; columns = []; parts = [] }) old → rows.parts.items ≡ old.parts.items
    → OnOk r (Came old.entries.items rows.entries.items (map entry_bytes cat.entries)) → OnOk r (Came old.columns.items rows.columns.items (map column_bytes cat.columns)) → OnOk r (AreRows cat rows)
all_known r old rows cat e none parts =
    both_ok r (λ entries columns. are_rows rows cat old.entries.items old.columns.items old.parts.items none.entries none.columns none.parts entries columns (subst (CameParts old.parts.items rows.parts.items) (sym e) (parts_none old.parts.items rows.parts.items parts)))

-- all three came
pub all_came : {A E : Type 0} (r : Result A E) (old rows : SomeRows) (cat : Catalogue) (mid : List (List ℕ)) → AreRows (record { entries = []; columns = []; parts = [] }) old → mid ≡ old.parts.items
    → Came old.entries.items rows.entries.items (map entry_bytes cat.entries) → Came old.columns.items rows.columns.items (map column_bytes cat.columns) → OnOk r (CameParts mid rows.parts.items cat.parts) → OnOk r (AreRows cat rows)
all_came r old rows cat mid none same entries columns came =
    on_ok r (are_rows rows cat old.entries.items old.columns.items mid none.entries none.columns (subst (λ l. l ≡ []) (sym same) none.parts) entries columns) came

-- entries that are there came where there were none
pub came_from : (cat : Catalogue) (rows : SomeRows) → AreRows cat rows → Came [] rows.entries.items (map entry_bytes cat.entries)
came_from cat rows are = record { rows = are.entries; short = subst (AllByRecursion (λ row. IsShort row)) are.entries are.short_entries }
