-- Parts of trees and their bytes.
use Rattle.std.proofs.Common.{◌≡◌, ap, ◌∙◌, nat_le, true, [], Some}
use Rattle.stored_database.specs.Laws.{PartsAreTheirBytes}
use Rattle.stored_database.specs.Names.{is_number32}
use Rattle.stored_database.specs.Parts.{Part, of_permit, is_part, part_bytes, part_in, part_of}
use Rattle.stored_database.proofs.Reading.{both, strictly, read_again, number_again, number16_again}

part_again : (p : Part) → is_part p ≡ true → part_in (part_bytes p) ≡ p
unfolding is_part part_in part_bytes
part_again p h =
    let a = both (is_number32 p.file) _ h in
    let b = both (nat_le p.sort of_permit) _ a.1 in
    let c = both (is_number32 p.number) _ b.1 in
    λ i. record {
      file = number_again p.file [] a.0 i;
      sort = p.sort;
      number = number_again p.number [] c.0 i;
      place = number16_again p.place [] c.1 i;
      bytes = p.bytes;
    }

pub parts_are_their_bytes : PartsAreTheirBytes
unfolding part_of
parts_are_their_bytes bytes p = (
  strictly (Some (part_in bytes)) is_part part_bytes bytes p,
  λ h. read_again (Some (part_in bytes)) is_part part_bytes bytes p (ap Some (ap part_in h.1 ∙ part_again p h.0)) h.0 h.1,
)
