use Rattle.std.proofs.Common.{◌∙◌, drop, length-drop, slice_index, arith}
use Rattle.catalog_rows.proofs.Fields.{six_taken}
use Rattle.catalog_rows.proofs.entries.keys_at.Goals as goal

pub returns-clause-keys : goal.returns-clause-keys
returns-clause-keys c =
    let bytes = c.args.bytes.now in
    c.of.ensures ∙ c.in_ok-keys.ensures.items ∙ six_taken (slice_index bytes 45) c.min-count.result (drop 46 bytes) c.min-count.ensures (omega (arith, length-drop 46 bytes, c.requires))
