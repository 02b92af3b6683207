-- Worked examples of sessions, computed.
use Rattle.std.proofs.Common.{◌≡◌, refl, ℕ, true, false, List, [], ◌∷◌, ◌++◌}
use Rattle.std.specs.Prelude.{codes}
use Rattle.std.specs.Fmt.{digits}
use Rattle.fault_io.specs.Files.{fetched, stored}
use Rattle.quel_meaning.specs.Printed.{line, refusal_bytes, reply_bytes}
use Rattle.quel_meaning.specs.Lines.{lines_of}
use Rattle.quel_meaning.specs.Monitor.{file_name, command_of, parts_from}
use Rattle.quel_meaning.specs.Buffer.{with_piece, buffer_after}
use Rattle.calculus.specs.Chars.{is_chars}
use Rattle.calculus.specs.Name.{is_name}
use Rattle.quel_grammar.specs.Words.{fixed_of, symbol_at}
use Rattle.quel_grammar.specs.Lexer.{piece_at, word_at, int_at, text_at, token_at}
use Rattle.quel_grammar.specs.Pieces.{pieces_from, pieces_behind}
use Rattle.quel_grammar.specs.Next.{first_offset, line_at}
use Rattle.quel_meaning.specs.Batch.{read_within, batch_from}
use Rattle.quel_meaning.specs.Happening.{over}
use Rattle.quel_meaning.specs.Running.{after_statement, after_batch, carried_out, after_command, after_part, after_line, after_lines, files_within}
use Rattle.quel_meaning.specs.Session.{Session, session_of, session_of_lines, printed, output, ended, ends, databases}
use Rattle.quel_meaning.proofs.Toy.{toy, of_ann, named}

-- the session of a script, where no file is there
abbrev of : List ℕ → Session
of script = session_of toy (of_ann []) script

-- the session of a script, where these bytes are the file `f`
abbrev with_file : List ℕ → List ℕ → Session
with_file bytes script = session_of toy (of_ann ((codes "f", bytes) ∷ [])) script

-- an acknowledgement
abbrev done : List ℕ
done = line (codes "done")

-- the refusal of the statement that is refused, at the line of this digit
abbrev unknown : ℕ → List ℕ
unknown digit = line (codes "refused 10 line " ++ digit ∷ codes ": unknown relation")

-- what sessions of the small language are
record Examples : Type 0 where
  -- the buffer is printed and emptied; an unknown command and a file that isn't there are refused; and an empty buffer is sent
  commands : output (of (codes "retrieve (x = 1)\n\\p\n\\r\n\\zz\n\\i none\n\\g\n"))
      ≡ line (codes "retrieve (x = 1)") ++ line (codes "refused 2 line 0: monitor command") ++ line (codes "refused 32 line 0: no such file")
  -- statements run in order, each with its line; a syntax refusal drops the rest of its batch, and nothing else does
  in_order : output (of (codes "h\np h ? h\n\\g\n"))
      ≡ done ++ unknown 50 ++ done ++ line (codes "refused 1 line 2: syntax")
  -- the database before, and that after each statement
  databases_in_order : databases (named (codes "ann")) (of (codes "h r p ? h\\g"))
      ≡ named (codes "ann") ∷ named (codes "!ann") ∷ named (codes "!ann") ∷ named (codes "!ann") ∷ []
  -- replies end behind what was printed before them; one may be empty
  places : ends (of (codes "h r h\\p\\g")) ≡ 11 ∷ 11 ∷ 16 ∷ []
  -- the number of the last statement whose reply was taken whole
  none_taken : ended (of (codes "h r h\\p\\g")) 10 ≡ 0
  first_taken : ended (of (codes "h r h\\p\\g")) 11 ≡ 1
  first_still : ended (of (codes "h r h\\p\\g")) 15 ≡ 1
  last_taken : ended (of (codes "h r h\\p\\g")) 16 ≡ 3
  more_taken : ended (of (codes "h r h\\p\\g")) 17 ≡ 3
  -- what was sent is dropped by the next piece, but not by one of white space alone, nor behind a command to append
  sent_is_dropped : output (of (codes "h\n\\g\n \n\\g\np\\g\n\\a\np\\g\n"))
      ≡ done ++ done ++ unknown 49 ++ unknown 49 ++ unknown 50
  -- what is in the buffer at the end is not run
  left_in_the_buffer : output (of (codes "h\n")) ≡ []
  -- a file is read where it is included, and what it leaves in the buffer stays
  included : output (with_file (codes "h\n\\g\np") (codes "\\i f\nh\n\\g\n"))
      ≡ done ++ unknown 49 ++ done
  -- files are included within each other at most eight deep, also where each is on the last line of the one before it
  within_itself : output (with_file (codes "h\\g\\i f") (codes "\\i f"))
      ≡ done ++ done ++ done ++ done ++ done ++ done ++ done ++ done ++ line (codes "refused 3 line 0: include limit")
  -- a command in a file ends the session
  ended_in_a_file : output (with_file (codes "\\q\\p") (codes "h\n\\i f\n\\g")) ≡ []
  -- and it is said that it did
  quits : (with_file (codes "\\q\\p") (codes "h\n\\i f\n\\g")).quit ≡ true
  -- at the end of the script it did not
  stays : (of (codes "h")).quit ≡ false
  -- the buffer is stored, and read again
  written : output (of (codes "h\n\\w f\n\\r\\p\\i f\n\\p\\g")) ≡ codes "h\n" ++ done
  -- a file without a name
  without_a_name : output (of (codes "\\i\n\\w  \n")) ≡ line (codes "refused 2 line 0: monitor command") ++ line (codes "refused 2 line 0: monitor command")

examples : Examples
unfolding digits fetched stored refusal_bytes reply_bytes lines_of file_name command_of parts_from with_piece buffer_after first_offset line_at pieces_from pieces_behind piece_at word_at int_at text_at token_at fixed_of symbol_at is_name is_chars read_within batch_from over after_statement after_batch carried_out after_command after_part after_line after_lines files_within session_of session_of_lines printed ended
examples = record {
  commands = refl;
  in_order = refl;
  databases_in_order = refl;
  places = refl;
  none_taken = refl;
  first_taken = refl;
  first_still = refl;
  last_taken = refl;
  more_taken = refl;
  sent_is_dropped = refl;
  left_in_the_buffer = refl;
  included = refl;
  within_itself = refl;
  ended_in_a_file = refl;
  quits = refl;
  stays = refl;
  written = refl;
  without_a_name = refl;
}
