-- A script of which nothing was read.
use Rattle.std.proofs.Common.{◌≡◌, ◌∙◌, sym, ℕ, false, List, [], Some, None, append-nil, refl, arith}
use Rattle.std.proofs.KnownBytes.{Appends-nil}
use Rattle.std.specs.declared.option.Option.{Option}
use Rattle.fault_io.specs.Files.{Files}
use Rattle.ingres_top.specs.Top.{IsKeptUp}
use Rattle.ingres_top.specs.Top.{within as lines_within}
use Rattle.quel_meaning.specs.Happening.{over}
use Rattle.quel_meaning.specs.Lines.{lines_of}
use Rattle.quel_meaning.specs.Running.{after_lines}
use Rattle.quel_meaning.specs.Session.{session_of_lines, output, printed}

-- of a script of which nothing is read nothing is heard
no_lines : (user : List ℕ) (files : Files) (script : List ℕ) → output (lines_within 0 user files script) ≡ []
unfolding session_of_lines after_lines over lines_of printed
no_lines user files script = refl

none_quits : (user : List ℕ) (files : Files) (script : List ℕ) → (lines_within 0 user files script).quit ≡ false
unfolding session_of_lines after_lines over lines_of
none_quits user files script = refl

pub nothing_read : (user : List ℕ) (files : Files) (left written : Option (List ℕ)) → IsKeptUp user files left left written written
nothing_read user files None written = tt
nothing_read user files (Some script) written = record {
  heard = 0;
  piece = 0;
  small = omega arith;
  read = refl;
  goes_on = none_quits user files script;
  printed = ([], Appends-nil written, ([], sym (append-nil (output (lines_within 0 user files script)) ∙ no_lines user files script)));
}
