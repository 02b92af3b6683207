use Rattle.std.proofs.Common.{sym, ap, ◌∙◌, arith}
use Rattle.std.proofs.lemmas.List.{get_or_default}
use Rattle.calculus.specs.Database.{Relation}
use Rattle.calculus.specs.Keys.{same_key}
use Rattle.plain_base.proofs.ChangeAt.{one_changed, none_first}
use Rattle.plain_base.proofs.one_relation.place_under.Goals as goal

pub returns-then-is_same-clause-changed : goal.returns-then-is_same-clause-changed
returns-then-is_same-clause-changed c f d =
    one_changed c.args.key.now f c.args.relations.now d c.requires c.loop-i.i c.loop-i-test.true c.loop-i.invariant
    (ap (λ (r : Relation). same_key r.info.key c.args.key.now)
    (get_or_default c.args.relations.now c.loop-i.i d _ c.loop-i-test.true ∙ sym c.index-relations-i.is ∙ sym c.relation.view_is)
    ∙ sym c.is_same.ensures ∙ c.if-is_same.true)

pub returns-clause-changed : goal.returns-clause-changed
returns-clause-changed c f =
    none_first c.args.key.now f c.args.relations.now (λ k d h. c.loop-i.invariant k d (omega (arith, h, c.loop-i-test.false)))
