-- Worked examples of printed bytes, computed.
use Rattle.std.proofs.Common.{◌≡◌, refl, ℕ, pos, negsuc, List, [], ◌∷◌, ◌++◌}
use Rattle.std.specs.Prelude.{codes}
use Rattle.std.specs.Fmt.{digits}
use Rattle.calculus.specs.declared.value.Domain.TheVariants.{I1, I2, I4, C}
use Rattle.calculus.specs.declared.value.Kind.{Kind}
use Rattle.calculus.specs.declared.value.Kind.TheVariants.{Of, Wide}
use Rattle.calculus.specs.declared.value.Value.TheVariants.{Int, Text}
use Rattle.calculus.specs.declared.reply.Column.{Column}
use Rattle.calculus.specs.declared.reply.Table.{Table}
use Rattle.calculus.specs.declared.reply.Reply.{Reply}
use Rattle.calculus.specs.declared.reply.Reply.TheVariants.{Nothing, Done, Refused, Tables}
use Rattle.calculus.specs.Rows.{Row}
use Rattle.quel_meaning.specs.Printed.{line, head_bytes, rule_bytes, row_line, table_bytes, refusal_bytes, reply_bytes}

abbrev column : List ℕ → Kind → Column
column name kind = record { name = name; kind = kind }

abbrev table : List Column → List Row → Table
table columns rows = record { columns = columns; rows = rows }

abbrev refusal : ℕ → ℕ → ℕ → Reply
refusal code l row = Refused (record { code = code; line = l; row = row })

-- numbers of 64 bits are 20 wide, whether there is a row or not, and tables stand one after the other
a_row_and_none : reply_bytes (Tables (table (column (codes "x") Wide ∷ []) ((Int (pos 3) ∷ []) ∷ []) ∷ table (column (codes "x") Wide ∷ []) [] ∷ []))
    ≡ line (codes "|x                   |") ++ line (codes "|--------------------|") ++ line (codes "|                   3|") ++ line (codes "|--------------------|")
    ++ line (codes "|x                   |") ++ line (codes "|--------------------|") ++ line (codes "|--------------------|")
unfolding digits reply_bytes table_bytes head_bytes rule_bytes row_line
a_row_and_none = refl

-- each column has its own width
two_columns : reply_bytes (Tables (table (column (codes "d") (Of I2) ∷ column (codes "n") Wide ∷ [])
    ((Int (pos 1) ∷ Int (pos 0) ∷ []) ∷ (Int (pos 2) ∷ Int (pos 50) ∷ []) ∷ []) ∷ []))
    ≡ line (codes "|d     |n                   |") ++ line (codes "|------|--------------------|") ++ line (codes "|     1|                   0|")
    ++ line (codes "|     2|                  50|") ++ line (codes "|------|--------------------|")
unfolding digits reply_bytes table_bytes head_bytes rule_bytes row_line
two_columns = refl

-- a number of 16 bits may fill its column
least_number : reply_bytes (Tables (table (column (codes "a") (Of I2) ∷ []) ((Int (negsuc 32767) ∷ []) ∷ []) ∷ []))
    ≡ line (codes "|a     |") ++ line (codes "|------|") ++ line (codes "|-32768|") ++ line (codes "|------|")
unfolding digits reply_bytes table_bytes head_bytes rule_bytes row_line
least_number = refl

-- texts stand left, and a title makes its column wider
texts_and_titles : reply_bytes (Tables (table (column (codes "attid") (Of I1) ∷ column (codes "t") (Of (C 3)) ∷ column (codes "k") (Of I4) ∷ column (codes "name") (Of (C 1)) ∷ [])
    ((Int (pos 7) ∷ Text (codes "ab") ∷ Int (negsuc 0) ∷ Text [] ∷ []) ∷ []) ∷ []))
    ≡ line (codes "|attid|t  |k          |name|") ++ line (codes "|-----|---|-----------|----|") ++ line (codes "|    7|ab |         -1|    |") ++ line (codes "|-----|---|-----------|----|")
unfolding digits reply_bytes table_bytes head_bytes rule_bytes row_line
texts_and_titles = refl

-- an acknowledgement, and what prints nothing
done : reply_bytes Done ≡ line (codes "done")
unfolding reply_bytes
done = refl

nothing : reply_bytes Nothing ≡ []
unfolding reply_bytes
nothing = refl

-- refusals: at a line, of a command, and of a row of a file
at_a_line : reply_bytes (refusal 22 6 0) ≡ line (codes "refused 22 line 6: two values for one row")
unfolding digits reply_bytes refusal_bytes
at_a_line = refl

of_a_command : reply_bytes (refusal 32 0 0) ≡ line (codes "refused 32 line 0: no such file")
unfolding digits reply_bytes refusal_bytes
of_a_command = refl

of_a_row : reply_bytes (refusal 31 1 2) ≡ line (codes "refused 31 line 1: bad row 2")
unfolding digits reply_bytes refusal_bytes
of_a_row = refl
