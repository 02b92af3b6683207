use Rattle.std.proofs.Common.{◌∙◌, arith}
use Rattle.stored_database.specs.Entries.{fields_in}
use Rattle.catalog_rows.proofs.Fields.{behind_names, keys_behind}
use Rattle.catalog_rows.proofs.entries.entry_with.Goals as goal

pub returns-clause-entry : goal.returns-clause-entry
unfolding fields_in
returns-clause-entry c =
    let bytes = c.args.bytes.now in
    λ i. record {
      file = c.number_at.ensures i;
      key = c.args.key;
      spec = c.args.spec;
      base = (c.number_at-2.ensures ∙ behind_names 1 bytes (omega (arith, c.requires))) i;
      primary = (c.number_at-3.ensures ∙ behind_names 5 bytes (omega (arith, c.requires))) i;
      directory = (c.number_at-4.ensures ∙ behind_names 9 bytes (omega (arith, c.requires))) i;
      used = (c.number_at-5.ensures ∙ behind_names 13 bytes (omega (arith, c.requires))) i;
      keys = (c.in_ok-keys.ensures.keys ∙ keys_behind bytes) i;
    }
