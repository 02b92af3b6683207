-- Worked values: copies from files and into them, computed.
use Rattle.std.proofs.Common.{refl}
use Rattle.std.specs.Fmt.{digits}
use Rattle.std.specs.Prelude.{◌≡◌, ℕ, pos, negsuc, Bool, true, false, List, [], ◌∷◌, ◌++◌, codes, Ok, Err}
use Rattle.calculus.specs.declared.value.Value.TheVariants.{Int, Text}
use Rattle.calculus.specs.declared.value.Domain.TheVariants.{I2, I4, C}
use Rattle.calculus.specs.declared.value.Kind.{Kind}
use Rattle.calculus.specs.declared.value.Kind.TheVariants.{Of}
use Rattle.calculus.specs.declared.query.QTerm as term
use Rattle.calculus.specs.declared.query.QQual.{Cmp, Like}
use Rattle.calculus.specs.declared.operator.CmpOp.TheVariants.{Gt}
use Rattle.calculus.specs.declared.request.CopyCol.{CopyCol}
use Rattle.calculus.specs.declared.request.CopyForm.{CopyForm}
use Rattle.calculus.specs.declared.request.CopyForm.TheVariants.{Bin, Fixed, Until}
use Rattle.calculus.specs.declared.request.Checked.{Checked}
use Rattle.calculus.specs.declared.request.Checked.TheVariants.{Answer, Utility}
use Rattle.calculus.specs.declared.request.Utility.TheVariants as utility
use Rattle.calculus.specs.declared.reply.Reply.TheVariants.{Done, Refused, Tables}
use Rattle.calculus.specs.declared.change.DbChange.TheVariants as change
use Rattle.calculus.specs.Aggregate.{aggregates}
use Rattle.calculus.specs.Answer.{answer, lacks}
use Rattle.calculus.specs.Assignments.{assigned}
use Rattle.calculus.specs.Catalogue.{catalogue_at}
use Rattle.calculus.specs.Change.{laid}
use Rattle.calculus.specs.Chars.{is_chars}
use Rattle.calculus.specs.Constant.{constant_text, unescaped}
use Rattle.calculus.specs.Database.{Db}
use Rattle.calculus.specs.Kinds.{is_text_kind}
use Rattle.calculus.specs.Pattern.{matches, items, fits_items}
use Rattle.calculus.specs.Rights.{may, covers}
use Rattle.calculus.specs.Stored.{range_at, info_at}
use Rattle.calculus.specs.Targets.{rows_given, some_lacks}
use Rattle.calculus.specs.Term.{val, holds, attribute_value, compared_values, matched_value}
use Rattle.calculus.specs.Text.{text_of}
use Rattle.calculus.specs.Tree.{query, both}
use Rattle.calculus.specs.VariableRows.{rows_of}
use Rattle.quel_meaning.proofs.Small.{ann, key, attr, target, column, heap, one_relation, effects}
use Rattle.quel_meaning.specs.Copying.{rows_in_file, file_of_rows, copied_from, copied_into, refusal, bad_row}
use Rattle.quel_meaning.specs.Meaning.{tree_meaning, utility_effect}
use Rattle.quel_meaning.specs.Planned.{planned, plan_refusals, plan_change}
use Rattle.fault_io.specs.Files.{fetched, stored}
use Rattle.quel_meaning.specs.Tables.{table_of, some_query_lacks, sorted, rows_order}

-- a column of a file
abbrev col : ℕ → CopyForm → CopyCol
col place form = record { attr = place; form = form }

-- p (a = i2) holds 7
abbrev db : Db
db = one_relation (heap (codes "p") (attr (codes "a") (Of I2) ∷ []) ((Int (pos 7) ∷ []) ∷ []))

-- copy p (a = c0nl) from or into the file
abbrev lines : Bool → List ℕ → Checked
lines from file = Utility (utility.Copy (key (codes "p")) (col 0 (Until 10) ∷ []) from file)

-- help p
abbrev help : Checked
help = Answer ((record {
  query = query (key (codes "attribute") ∷ [])
      (target (codes "attid") (Of I2) 2 ∷ target (codes "attname") (Of (C 12)) 3 ∷ target (codes "attfrmt") (Of (C 4)) 4 ∷ [])
      (both (Like (term.Attr 0 0) (codes "p") true) (Like (term.Attr 0 1) ann true));
  sort = [];
}) ∷ [])

-- the line 7 is stored, the bad second line of a file is refused, and p stays
stored_and_refused : effects db ((codes "in", codes "8\nx\n") ∷ []) (lines false (codes "out") ∷ help ∷ lines true (codes "in") ∷ [])
    ≡ record { db = db; shelf = (codes "in", codes "8\nx\n") ∷ (codes "out", codes "7\n") ∷ []; reply = Done }
    ∷ record {
      db = db;
      shelf = (codes "in", codes "8\nx\n") ∷ (codes "out", codes "7\n") ∷ [];
      reply = Tables ((record {
        columns = column (codes "attid") (Of I2) ∷ column (codes "attname") (Of (C 12)) ∷ column (codes "attfrmt") (Of (C 4)) ∷ [];
        rows = (Int (pos 1) ∷ Text (codes "a") ∷ Text (codes "i2") ∷ []) ∷ [];
      }) ∷ []);
    }
    ∷ record { db = db; shelf = (codes "in", codes "8\nx\n") ∷ (codes "out", codes "7\n") ∷ []; reply = Refused (bad_row 2) }
    ∷ []
unfolding tree_meaning utility_effect copied_from copied_into rows_in_file file_of_rows fetched stored planned plan_refusals plan_change laid table_of some_query_lacks sorted rows_order answer lacks rows_given some_lacks assigned rows_of aggregates range_at info_at catalogue_at may covers val holds attribute_value compared_values matched_value constant_text unescaped matches items fits_items text_of is_chars is_text_kind digits
stored_and_refused = refl

-- a number and a text
abbrev kinds : List Kind
kinds = Of I4 ∷ Of (C 4) ∷ []

-- a number of two bytes, the lowest first, and a text filled with blanks
binary_record : rows_in_file kinds (col 0 (Bin 2) ∷ col 1 (Fixed 3) ∷ []) (254 ∷ 255 ∷ codes "ab " ++ 1 ∷ 1 ∷ codes "   ")
    ≡ Ok ((Int (negsuc 1) ∷ Text (codes "ab") ∷ []) ∷ (Int (pos 257) ∷ Text [] ∷ []) ∷ [])
unfolding rows_in_file text_of is_text_kind
binary_record = refl

-- the attribute that isn't listed is empty, or 0
not_listed : rows_in_file kinds (col 0 (Fixed 4) ∷ []) (codes " -5 0007") ≡ Ok ((Int (negsuc 4) ∷ Text [] ∷ []) ∷ (Int (pos 7) ∷ Text [] ∷ []) ∷ [])
unfolding rows_in_file text_of is_text_kind
not_listed = refl

-- the file's end ends a record's last column, also where no byte of it is left, and a text is then empty
ended_by_the_file : rows_in_file kinds (col 0 (Until 9) ∷ col 1 (Until 10) ∷ []) (codes "1\tx\n2\t")
    ≡ Ok ((Int (pos 1) ∷ Text (codes "x") ∷ []) ∷ (Int (pos 2) ∷ Text [] ∷ []) ∷ [])
unfolding rows_in_file text_of is_text_kind
ended_by_the_file = refl

-- but no number is
no_number : rows_in_file kinds (col 1 (Until 9) ∷ col 0 (Until 10) ∷ []) (codes "x\t1\ny\t") ≡ Err 2
unfolding rows_in_file text_of is_text_kind
no_number = refl

-- the file's end ends no column but the last
ended_too_early : rows_in_file kinds (col 0 (Until 9) ∷ col 1 (Until 10) ∷ []) (codes "1") ≡ Err 1
unfolding rows_in_file text_of is_text_kind
ended_too_early = refl

-- a text that is longer than its width without the blanks at its end is bad, and so is one with a byte outside 32 to 126
too_long : rows_in_file kinds (col 1 (Until 44) ∷ []) (codes "abcd  ,abcde,") ≡ Err 2
unfolding rows_in_file text_of is_text_kind
too_long = refl

a_tab_in_a_text : rows_in_file kinds (col 1 (Until 10) ∷ []) (codes "a\tb\n") ≡ Err 1
unfolding rows_in_file text_of is_text_kind
a_tab_in_a_text = refl

-- a number stands right in its bytes, a text left
printed_fields : file_of_rows (col 0 (Fixed 4) ∷ col 1 (Fixed 4) ∷ col 0 (Bin 2) ∷ []) ((Int (negsuc 6) ∷ Text (codes "ab") ∷ []) ∷ [])
    ≡ Ok (codes "  -7ab  " ++ 249 ∷ 255 ∷ [])
unfolding file_of_rows digits
printed_fields = refl

-- a text that holds the byte that ends its column is bad, and a number that doesn't fit its bytes
holds_its_end : file_of_rows (col 1 (Until 32) ∷ []) ((Int (pos 1) ∷ Text (codes "ab") ∷ []) ∷ (Int (pos 1) ∷ Text (codes "a b") ∷ []) ∷ []) ≡ Err 2
unfolding file_of_rows
holds_its_end = refl

too_great : file_of_rows (col 0 (Bin 1) ∷ []) ((Int (negsuc 127) ∷ []) ∷ (Int (pos 128) ∷ []) ∷ []) ≡ Err 2
unfolding file_of_rows
too_great = refl

-- each attribute of p is above 4
abbrev ruled_db : Db
ruled_db = record db { rules = (key (codes "p"), record { number = 1; qual = Cmp Gt (term.Attr 0 0) (term.Int (pos 4)) }) ∷ [] }

-- a row that breaks a rule is left out, and one that is there is not put again; the file has the name with escapes removed and blanks kept
left_out : copied_from ruled_db ((codes "a\"b ", codes "3\n9\n7\n9\n") ∷ []) ann (key (codes "p")) (col 0 (Until 10) ∷ []) (codes "a\\\"b ")
    ≡ Ok (change.Rows (key (codes "p")) [] ((Int (pos 9) ∷ []) ∷ []))
unfolding copied_from rows_in_file fetched range_at info_at catalogue_at val holds attribute_value compared_values unescaped text_of is_text_kind
left_out = refl

no_such_file : copied_from db [] ann (key (codes "p")) (col 0 (Until 10) ∷ []) (codes "in") ≡ Err (refusal 32)
unfolding copied_from fetched unescaped
no_such_file = refl

-- another user is refused before the file is looked for
not_the_owner : copied_from db [] (codes "bob") (key (codes "p")) (col 0 (Until 10) ∷ []) (codes "in") ≡ Err (refusal 24)
unfolding copied_from fetched unescaped
not_the_owner = refl
