use Rattle.std.proofs.Common.{◌≡◌, ap, ◌∙◌, subst, IfOk}
use Rattle.std.specs.List.{list_any}
use Rattle.update_change.specs.Replacements.{is_both}
use Rattle.update_change.proofs.Joined.{old_joined, new_joined}
use Rattle.update_change.proofs.apart.uncontended.Goals as goal

pub returns-in-Ok-clause-old : goal.returns-in-Ok-clause-old
returns-in-Ok-clause-old c = λ ps parted.
    subst (λ rows. IfOk c.joined.result (λ sets. sets.0 ≡ rows))
    (old_joined ps c.args.parts.old_rows.items c.in_order-both.result.items parted.old
    (λ b. c.in_order-both.ensures.same b ∙ ap (list_any (is_both b)) parted.both))
    c.joined.ensures.old

pub returns-in-Ok-clause-new : goal.returns-in-Ok-clause-new
returns-in-Ok-clause-new c = λ ps parted.
    subst (λ rows. IfOk c.joined.result (λ sets. sets.1 ≡ rows))
    (new_joined ps c.args.parts.new_rows.items c.in_order-both.result.items parted.new
    (λ b. c.in_order-both.ensures.same b ∙ ap (list_any (is_both b)) parted.both))
    c.joined.ensures.new
