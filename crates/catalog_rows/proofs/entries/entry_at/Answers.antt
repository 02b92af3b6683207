use Rattle.std.proofs.Common.{◌∙◌, sym, ap, Some, None}
use Rattle.catalog_rows.proofs.Tests.{entry_at_key, entry_at_no_key}
use Rattle.catalog_rows.proofs.entries.entry_at.Goals as goal

pub returns-in_default-clause-entry : goal.returns-in_default-clause-entry
returns-in_default-clause-entry c = entry_at_no_key c.args.bytes.now (sym c.in_ok-key.ensures ∙ c.in_default.is)

pub returns-in_default-spec_of-clause-entry : goal.returns-in_default-spec_of-clause-entry
returns-in_default-spec_of-clause-entry c = entry_at_key c.args.bytes.now c.in-Some.key None (sym c.in_ok-key.ensures ∙ c.in-Some.is) c.in_default-spec_of.ensures

pub returns-clause-entry : goal.returns-clause-entry
returns-clause-entry c =
    ap Some c.in_ok-entry.ensures.entry
    ∙ entry_at_key c.args.bytes.now c.in-Some.key (Some c.in-Some-spec_of.spec) (sym c.in_ok-key.ensures ∙ c.in-Some.is) c.in-Some-spec_of.ensures
