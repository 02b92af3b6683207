use Rattle.std.proofs.Common.{sym, ap, ◌∙◌, is_some}
use Rattle.quel_names.proofs.KnownAs.{known_as, none_if}
use Rattle.quel_names.proofs.Wholes.{head_is, tail_is}
use Rattle.quel_names.specs.Asking.{scope_of}
use Rattle.quel_names.proofs.refusal.name_refusal.Goals as goal

pub returns-then-is_some-clause-known : goal.returns-then-is_some-clause-known
returns-then-is_some-clause-known g c = λ db h.
    c.in_ok-refusal.ensures.known db h
    ∙ head_is (scope_of db c.args.user.now c.args.ranges.now) c.args.s.now
    (sym (ap is_some (c.in_ok-refusal.ensures.known db h)) ∙ sym c.is_some.ensures ∙ c.if-is_some.true)

pub returns-clause-known : goal.returns-clause-known
returns-clause-known g c = λ db h.
    known_as c.tail_refusal.result _ _
    (tail_is (scope_of db c.args.user.now c.args.ranges.now) c.args.s.now
    (sym (c.in_ok-refusal.ensures.known db h) ∙ none_if c.in_ok-refusal.refusal (sym c.is_some.ensures ∙ c.if-is_some.false)))
    (c.tail_refusal.ensures.known db (c.in_ok-refusal.ensures.stays _ h))
