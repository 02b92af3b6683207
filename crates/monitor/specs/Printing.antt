-- What the first stage prints of what came back.
use Rattle.std.specs.Prelude.{ℕ, List, [], ◌++◌, Some, None}
use Rattle.std.specs.declared.option.Option.{Option}
use Rattle.calculus.specs.declared.reply.Column.{Column}
use Rattle.calculus.specs.Rows.{Row}
use Rattle.message_codec.specs.declared.messages.StageMessage.{StageMessage}
use Rattle.message_codec.specs.declared.messages.StageMessage.TheVariants as stage
use Rattle.quel_meaning.specs.Printed.{head_bytes, row_line, rule_bytes, done_bytes, refusal_bytes}

-- the closing line of a table that is begun
abbrev pub closing_of : Option (List Column) → List ℕ
closing_of None = []
closing_of (Some columns) = rule_bytes columns

-- the line of a row of the table that is begun
abbrev pub row_of : Option (List Column) → Row → List ℕ
row_of None values = []
row_of (Some columns) values = row_line columns values

-- what a message is printed as, behind a table that is begun or none; one that can't be due is printed as nothing
abbrev pub printed_as : Option (List Column) → StageMessage → List ℕ
printed_as begun (stage.Head columns) = closing_of begun ++ head_bytes columns
printed_as begun (stage.Row values) = row_of begun values
printed_as begun stage.Done = closing_of begun ++ done_bytes
printed_as begun (stage.Refused r) = closing_of begun ++ refusal_bytes r
printed_as begun stage.End = closing_of begun
printed_as begun (stage.Text t) = []
printed_as begun (stage.Tree t) = []
printed_as begun (stage.Change c) = []
printed_as begun stage.Quit = []
