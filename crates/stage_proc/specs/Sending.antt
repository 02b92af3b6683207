-- What is sent of tables and of refusals, and which rows may stand behind a head.
use Rattle.std.specs.Prelude.{ℕ, Bool, true, false, ◌&&◌, List, [], ◌∷◌, ◌++◌}
use Rattle.std.specs.List.{list_all}
use Rattle.calculus.specs.declared.reply.Column.{Column}
use Rattle.calculus.specs.declared.reply.Table.{Table as Printed}
use Rattle.calculus.specs.declared.value.Kind.{Kind}
use Rattle.calculus.specs.declared.value.Kind.TheVariants.{Of, Wide}
use Rattle.calculus.specs.declared.value.Value.{Value}
use Rattle.calculus.specs.declared.value.Value.TheVariants.{Int, Text}
use Rattle.calculus.specs.IsDatabase.{value_fits}
use Rattle.calculus.specs.Number.{has_64_bits}
use Rattle.calculus.specs.Rows.{Row}
use Rattle.frame_codec.specs.declared.frame.Frame.{Frame}
use Rattle.frame_codec.specs.Messages.{message_frames}
use Rattle.quel_meaning.specs.Copying.{refusal}
use Rattle.quel_network.specs.Spelling.{refusal_codec}
use Rattle.quel_tree.specs.Relations.{columns as columns_codec}
use Rattle.quel_tree.specs.Values.{row as row_codec}

-- ---- frames

-- the frames of rows
abbrev pub rows_frames : List Row → List Frame
rows_frames [] = []
rows_frames (row ∷ rows) = message_frames 4 (row_codec.write row) ++ rows_frames rows

-- the frames of a table: its head, and its rows
abbrev pub table_frames : Printed → List Frame
table_frames t = message_frames 3 (columns_codec.write t.columns) ++ rows_frames t.rows

-- the frames of tables
abbrev pub tables_frames : List Printed → List Frame
tables_frames [] = []
tables_frames (t ∷ ts) = table_frames t ++ tables_frames ts

-- the frames of an answer: tables, and the end
abbrev pub answer_frames : List Printed → List Frame
answer_frames ts = tables_frames ts ++ message_frames 6 []

-- the frame of a refusal with this number
abbrev pub refusal_frames : ℕ → List Frame
refusal_frames number = message_frames 7 (refusal_codec.write (refusal number))

-- ---- rows behind a head

-- the value is of the kind, and has the bits of one or is a text in the language's sense
abbrev pub value_stands : Kind → Value → Bool
value_stands Wide (Int n) = has_64_bits n
value_stands Wide (Text bytes) = false
value_stands (Of domain) v = value_fits v (Of domain)

-- the row has one such value for each column
abbrev pub row_stands : List Column → Row → Bool
row_stands [] [] = true
row_stands [] (v ∷ vs) = false
row_stands (c ∷ cs) [] = false
row_stands (c ∷ cs) (v ∷ vs) = value_stands c.kind v && row_stands cs vs

-- so has each row of a table
abbrev pub table_stands : Printed → Bool
table_stands t = list_all (row_stands t.columns) t.rows

-- and each row of all tables
abbrev pub tables_stand : List Printed → Bool
tables_stand ts = list_all table_stands ts
