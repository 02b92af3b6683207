-- The bytes that a reply is printed as: nothing, an acknowledgement, a refusal, or tables.
use Rattle.std.specs.Prelude.{ℕ, ◌-◌, ◌==◌, max, if◌then◌else◌, List, [], ◌∷◌, ◌++◌, length, replicate, map, zip, find, flat_map, codes, decimal, option_map, unwrap_or}
use Rattle.std.specs.Fmt.{signed_decimal}
use Rattle.calculus.specs.declared.value.Domain.TheVariants.{I1, I2, I4, C}
use Rattle.calculus.specs.declared.value.Kind.{Kind}
use Rattle.calculus.specs.declared.value.Kind.TheVariants.{Of, Wide}
use Rattle.calculus.specs.declared.value.Value.{Value}
use Rattle.calculus.specs.declared.value.Value.TheVariants.{Int, Text}
use Rattle.calculus.specs.declared.reply.Column.{Column}
use Rattle.calculus.specs.declared.reply.Table.{Table}
use Rattle.calculus.specs.declared.reply.Refusal.{Refusal}
use Rattle.calculus.specs.declared.reply.Reply.{Reply}
use Rattle.calculus.specs.declared.reply.Reply.TheVariants.{Nothing, Done, Refused, Tables}
use Rattle.calculus.specs.Rows.{Row}

-- the text and a newline
abbrev pub line : List ℕ → List ℕ
line text = text ++ 10 ∷ []

-- ---- tables

-- the width in which the values of a kind are printed
abbrev pub kind_width : Kind → ℕ
kind_width (Of I1) = 4
kind_width (Of I2) = 6
kind_width (Of I4) = 11
kind_width (Of (C n)) = n
kind_width Wide = 20

-- the width of a column: that of its kind, or of its title where this is longer
abbrev pub column_width : Column → ℕ
column_width column = max (length column.name) (kind_width column.kind)

-- the text at the left of so many bytes, with blanks behind it
abbrev pub at_left : ℕ → List ℕ → List ℕ
at_left width text = text ++ replicate (width - length text) 32

-- the text at the right of so many bytes, with blanks before it
abbrev pub at_right : ℕ → List ℕ → List ℕ
at_right width text = replicate (width - length text) 32 ++ text

-- a value in its column: a number in decimal at the right, a text at the left
abbrev pub cell_text : Column → Value → List ℕ
cell_text column (Int n) = at_right (column_width column) (signed_decimal n)
cell_text column (Text bytes) = at_left (column_width column) bytes

-- the line of these cells: a bar before the first, and one behind each
abbrev pub barred : List (List ℕ) → List ℕ
barred cells = line (124 ∷ flat_map (λ cell. cell ++ 124 ∷ []) cells)

-- the line of the titles, each at the left of its column
abbrev pub title_line : List Column → List ℕ
title_line columns = barred (map (λ c. at_left (column_width c) c.name) columns)

-- the rule line: dashes in place of each title
unfoldable pub rule_bytes : List Column → List ℕ
rule_bytes columns = barred (map (λ c. replicate (column_width c) 45) columns)

-- how a table begins: the line of the titles, and the rule line
unfoldable pub head_bytes : List Column → List ℕ
head_bytes columns = title_line columns ++ rule_bytes columns

-- the line of a row, each value in its column
unfoldable pub row_line : List Column → Row → List ℕ
row_line columns row = barred (map (λ p. cell_text p.0 p.1) (zip columns row))

-- the table: its head, the lines of its rows in order, and the rule line again
unfoldable pub table_bytes : Table → List ℕ
table_bytes table = head_bytes table.columns ++ flat_map (row_line table.columns) table.rows ++ rule_bytes table.columns

-- ---- refusals

-- what each number of a refusal says, but for 31, which names a row
abbrev pub refusal_texts : List (ℕ × List ℕ)
refusal_texts =
    (1, codes "syntax") ∷ (2, codes "monitor command") ∷ (3, codes "include limit") ∷ (9, codes "not built")
    ∷ (10, codes "unknown relation") ∷ (11, codes "unknown variable") ∷ (12, codes "unknown attribute") ∷ (13, codes "types differ")
    ∷ (14, codes "limit") ∷ (15, codes "name in use") ∷ (16, codes "too wide") ∷ (17, codes "domain named twice")
    ∷ (18, codes "aggregate") ∷ (19, codes "no such number") ∷ (20, codes "no value") ∷ (21, codes "does not fit")
    ∷ (22, codes "two values for one row") ∷ (23, codes "no permit") ∷ (24, codes "not the owner") ∷ (25, codes "in use")
    ∷ (26, codes "view") ∷ (27, codes "rule does not hold") ∷ (28, codes "catalogue") ∷ (29, codes "too many rows")
    ∷ (32, codes "no such file") ∷ []

-- what a refusal says; nothing where no refusal has its number
abbrev pub refusal_text : Refusal → List ℕ
refusal_text r =
    if r.code == 31 then codes "bad row " ++ decimal r.row
    else unwrap_or (option_map (λ t. t.1) (find (λ t. t.0 == r.code) refusal_texts)) []

-- the line of a refusal: its number, its line, and what it says
unfoldable pub refusal_bytes : Refusal → List ℕ
refusal_bytes r = line (codes "refused " ++ decimal r.code ++ codes " line " ++ decimal r.line ++ codes ": " ++ refusal_text r)

-- ---- replies

-- the acknowledgement
abbrev pub done_bytes : List ℕ
done_bytes = line (codes "done")

-- what a reply is printed as: tables stand one after the other
unfoldable pub reply_bytes : Reply → List ℕ
reply_bytes Nothing = []
reply_bytes Done = done_bytes
reply_bytes (Refused r) = refusal_bytes r
reply_bytes (Tables tables) = flat_map table_bytes tables
