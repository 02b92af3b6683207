use Rattle.std.proofs.Common.{◌∙◌, ap, cond, Some, None}
use Rattle.quel_names.proofs.Entries.{entry_if}
use Rattle.quel_names.proofs.entry.entry_refusal.Goals as goal

pub returns-clause-known : goal.returns-clause-known
returns-clause-known g c = λ db ranges h.
    c.refused.ensures ∙ ap (λ b. cond b None (Some 10)) (c.in_ok-known.ensures.known db h) ∙ entry_if db c.args.user.now ranges c.args.name.now
