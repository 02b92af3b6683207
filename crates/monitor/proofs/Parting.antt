-- What is read of each part of a line.
use Rattle.std.proofs.Common.{◌≡◌, refl, ℕ, List, [], ◌∷◌, ◌++◌, length, arith}
use Rattle.fault_io.specs.Files.{Files, fetched}
use Rattle.quel_meaning.specs.Buffer.{with_piece}
use Rattle.quel_meaning.specs.Monitor.{Include, Order, Piece, Write}
use Rattle.quel_meaning.specs.Printed.{refusal_bytes}
use Rattle.quel_network.specs.Reading.{Standing, includes, ordered, read_parts, refuses}
use Rattle.quel_network.specs.Sorts.{Monitor}
use Rattle.monitor.specs.declared.event.Event.TheVariants as came
use Rattle.monitor.specs.Reading.{reads_part, reads_rest, standing_of, was_read}

pub include_empty : (s : Standing) (name : List ℕ) → length name ≡ 0 → ordered s (Include name) ≡ refuses s 2
unfolding ordered
include_empty s [] e = refl
include_empty s (b ∷ bs) e = absurd (omega (arith, e))

pub include_some : (s : Standing) (name : List ℕ) → (length name ≡ 0 → ⊥) → ordered s (Include name) ≡ includes s (fetched s.shelf name)
unfolding ordered
include_some s [] some = absurd (some refl)
include_some s (b ∷ bs) some = refl

-- behind an included file nothing is left of the line
pub include_reads : (m : Monitor) (m' : Monitor) (known : Files) (bytes bytes' name script : List ℕ) → ordered (standing_of m known bytes) (Include name) ≡ standing_of m' known bytes'
    → reads_part (Order (Include name)) m known bytes script ≡ was_read came.GoesOn (record m' { parts = [] }) known bytes' script
unfolding read_parts
include_reads m m' known bytes bytes' name script e = rw e refl

pub write_empty : (m : Monitor) (known : Files) (bytes name script : List ℕ) → length name ≡ 0
    → reads_part (Order (Write name)) m known bytes script ≡ was_read came.GoesOn (record m { parts = [] }) known (bytes ++ refusal_bytes (record { code = 2; line = 0; row = 0 })) script
unfolding read_parts ordered
write_empty m known bytes [] script e = refl
write_empty m known bytes (b ∷ bs) script e = absurd (omega (arith, e))

pub write_some : (m : Monitor) (known : Files) (bytes name script : List ℕ) → (length name ≡ 0 → ⊥)
    → reads_part (Order (Write name)) m known bytes script ≡ was_read (came.Stores name) (record m { parts = [] }) known bytes script
unfolding read_parts ordered
write_some m known bytes [] script some = absurd (some refl)
write_some m known bytes (b ∷ bs) script some = refl

pub piece_reads : (m : Monitor) (known : Files) (bytes piece script : List ℕ) → reads_part (Piece piece) m known bytes script ≡ reads_rest (record m { buffer = with_piece m.buffer piece }) known bytes script
unfolding read_parts
piece_reads m known bytes piece script = refl

pub end_reads : (m : Monitor) (known : Files) (bytes script : List ℕ) → m.parts ≡ [] → reads_rest m known bytes script ≡ was_read came.GoesOn m known bytes script
unfolding read_parts
end_reads m known bytes script e = rw e refl
