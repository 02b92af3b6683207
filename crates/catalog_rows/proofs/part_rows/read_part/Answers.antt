use Rattle.std.proofs.Common.{ap, sym, ◌∙◌, slice_index, Some, arith}
use Rattle.stored_database.specs.Parts.{Part, part_in}
use Rattle.catalog_rows.proofs.Fields.{part_where_sort_is}
use Rattle.catalog_rows.proofs.part_rows.read_part.Goals as goal

pub returns : goal.returns
unfolding part_in
returns c =
    ap (λ (x : Part). Some x) (λ i. record {
      file = c.number_at.ensures i;
      sort = slice_index c.args.bytes.now 4;
      number = c.number_at-2.ensures i;
      place = c.place_at.ensures i;
      bytes = (c.of.ensures ∙ c.in_ok-behind.ensures.items ∙ c.split_at.ensures.back) i;
    })
    ∙ sym (part_where_sort_is c.args.bytes.now (λ i. omega (arith, c.type_inv.bytes i)) (omega (arith, c.if-bytes-lt-PART_BYTES.false)) (omega (arith, c.if-bytes-gt-LAST_SORT.false)))
