use Rattle.std.proofs.Common.{◌≡◌, ◌∙◌, sym, ap, true, false, rules}
use Rattle.stage_proc.specs.declared.processed.Processed.TheVariants.{Shows}
use Rattle.stage_proc.specs.Sending.{tables_stand}
use Rattle.stage_proc.proofs.Sendable.{all_pass, all_stand}
use Rattle.stage_proc.proofs.processing.show.Goals as goal

pub answer_out-requires : goal.answer_out-requires
answer_out-requires c = all_stand c.args.tables c.requires (sym (c.tables_stand-stand.ensures ∙ ap tables_stand c.items.ensures) ∙ search rules)

pub returns-in-Ok-clause-shown : goal.returns-in-Ok-clause-shown
returns-in-Ok-clause-shown c = (all_stand c.args.tables c.requires (sym (c.tables_stand-stand.ensures ∙ ap tables_stand c.items.ensures) ∙ search rules), ap Shows c.in-Ok.ensures)

pub returns-then-not-stand-clause-unlawful : goal.returns-then-not-stand-clause-unlawful
returns-then-not-stand-clause-unlawful c = λ wrong stand.
    let fails : c.tables_stand-stand.result ≡ false = search rules in
    let no : true ≡ false = sym (c.tables_stand-stand.ensures ∙ ap tables_stand c.items.ensures ∙ all_pass c.args.tables stand) ∙ fails in
    cc no
