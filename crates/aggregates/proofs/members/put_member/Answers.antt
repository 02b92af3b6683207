use Rattle.std.proofs.Common.{◌≡◌, ◌++◌, [], sym, subst, ◌∙◌, ap, OnOk}
use Rattle.std.specs.List.{cons_option}
use Rattle.calculus.specs.Term.{values_of}
use Rattle.aggregates.proofs.Held.{not_held, held}
use Rattle.aggregates.proofs.members.put_member.Goals as goal

pub returns-then-not-branch : goal.returns-then-not-branch
returns-then-not-branch c = λ row e. not_held c.args.agg.now row c.args.at.now c.in_ok-holds.field-0 c.args.members.now.items e c.in_ok-holds.ensures c.if-not-branch.true

pub returns-in-Some : goal.returns-in-Some
returns-in-Some c = λ row e.
    subst (λ m. OnOk c.put_with.result (c.put_with.new.members.items ≡ c.args.members.now.items ++ cons_option m []))
    (sym (held c.args.agg.now row c.args.at.now c.in_ok-holds.field-0 c.in-Some.by e c.in_ok-holds.ensures c.if-not-branch.false
    (sym c.in-Some.is ∙ c.in_ok-by.ensures ∙ ap (λ ts. values_of ts c.args.at.now) c.items.ensures))) c.put_with.ensures
