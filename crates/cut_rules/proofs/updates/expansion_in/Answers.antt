use Rattle.std.proofs.Common.{◌≡◌, subst, IfOk, option_map}
use Rattle.view_expand.specs.Asking.{right_of, who_of}
use Rattle.cut_rules.proofs.Fitting.{changed_expansion_is, read_expansion_is, small_stays}
use Rattle.cut_rules.proofs.updates.expansion_in.Goals as goal

pub read_expansion-requires-clause-small : goal.read_expansion-requires-clause-small
read_expansion-requires-clause-small g c = λ db h. small_stays db c.args.u.now c.args.place c.args.key.now c.in-None.ensures (c.requires.small db h)

pub returns-in-Some-clause-known : goal.returns-in-Some-clause-known
returns-in-Some-clause-known g c = λ db h.
    subst (λ x. IfOk c.changed_at.result (λ expansion. expansion ≡ x)) (changed_expansion_is db (who_of (option_map (λ n. n.now) c.args.who)) c.args.u.now c.args.place c.args.key.now (right_of c.in-Some.right) c.in-Some.ensures) (c.changed_at.ensures.known db h)

pub returns-in-None-clause-known : goal.returns-in-None-clause-known
returns-in-None-clause-known g c = λ db h.
    subst (λ x. IfOk c.read_expansion.result (λ expansion. expansion ≡ x)) (read_expansion_is db (who_of (option_map (λ n. n.now) c.args.who)) c.args.u.now c.args.place c.args.key.now c.in-None.ensures) (c.read_expansion.ensures.known db h)
