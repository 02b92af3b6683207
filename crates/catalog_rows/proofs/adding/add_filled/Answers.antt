use Rattle.std.proofs.Common.{◌∙◌, ◌++◌, length, append_assoc, arith}
use Rattle.stored_database.specs.Names.{name_bytes}
use Rattle.catalog_rows.proofs.Joins.{blanks_behind}
use Rattle.catalog_rows.proofs.adding.add_filled.Goals as goal

pub returns : goal.returns
unfolding name_bytes
returns c =
    let bytes = c.args.bytes.now in
    c.in_ok-extend_from_slice-2.ensures.items
    ∙ (λ i. c.in_ok-extend_from_slice.ensures.items i ++ blanks_behind (length bytes) (omega (arith, c.requires)) i)
    ∙ simp append_assoc
