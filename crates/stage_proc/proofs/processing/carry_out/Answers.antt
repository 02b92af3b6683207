use Rattle.std.proofs.Common.{◌≡◌, sym, subst, true, List}
use Rattle.std.proofs.lemmas.Result.{IfOk-weaker}
use Rattle.calculus.specs.declared.request.Asked.{Asked}
use Rattle.calculus.specs.declared.request.Checked.{Checked}
use Rattle.quel_meaning.specs.Fit.{is_fit}
use Rattle.stage_proc.specs.Comes.{Answers, ComesTo, Updates}
use Rattle.stage_proc.specs.declared.processed.Processed.TheVariants as processed
use Rattle.stage_proc.specs.Plans.{AreDoable}
use Rattle.stage_proc.proofs.Made.{answer_made, can_be_shown, heads_spelled, update_made}
use Rattle.stage_proc.proofs.Planned.{answer_doable, update_doable}
use Rattle.stage_proc.proofs.processing.carry_out.Goals as goal

pub answer_queries-requires-clause-doable : goal.answer_queries-requires-clause-doable
answer_queries-requires-clause-doable g c = λ db e.
    subst (λ (xs : List Asked). AreDoable db xs) (sym c.items.ensures)
    (answer_doable db c.args.user.now c.in-Answer.asked (subst (λ (t : Checked). is_fit db c.args.user.now t ≡ true) c.in-Answer.is (c.requires.fit db e)))

pub answer_queries-requires-clause-heads : goal.answer_queries-requires-clause-heads
answer_queries-requires-clause-heads g c = heads_spelled c.args.tree.now c.in-Answer.asked c.items.result.now c.requires.spelled c.in-Answer.is c.items.ensures

pub returns-in-Answer-clause-made : goal.returns-in-Answer-clause-made
returns-in-Answer-clause-made g c =
    IfOk-weaker c.answer_queries.result (Answers c.items.result.now (g.B.Base.database c.args.base.now)) (ComesTo c.args.tree.now (g.B.Base.database c.args.base.now))
    (λ made. answer_made c.args.tree.now c.in-Answer.asked c.items.result.now (g.B.Base.database c.args.base.now) made c.in-Answer.is c.items.ensures) c.answer_queries.ensures.made

pub returns-in-Answer-clause-unlawful : goal.returns-in-Answer-clause-unlawful
returns-in-Answer-clause-unlawful g c = λ wrong.
    can_be_shown c.args.user.now c.args.tree.now (g.B.Base.database c.args.base.now) c.in-Answer.asked c.items.result.now c.in-Answer.is c.items.ensures (c.answer_queries.ensures.unlawful wrong)

pub make_change-requires : goal.make_change-requires
make_change-requires g c = λ db e. update_doable db c.args.user.now c.in-Update.u (subst (λ (t : Checked). is_fit db c.args.user.now t ≡ true) c.in-Update.is (c.requires.fit db e))

pub returns-in-Update-clause-made : goal.returns-in-Update-clause-made
returns-in-Update-clause-made g c =
    IfOk-weaker c.make_change.result (Updates c.in-Update.u (g.B.Base.database c.args.base.now)) (ComesTo c.args.tree.now (g.B.Base.database c.args.base.now))
    (λ made. update_made c.args.tree.now c.in-Update.u (g.B.Base.database c.args.base.now) made c.in-Update.is) c.make_change.ensures.made

pub returns-in-Update-clause-unlawful : goal.returns-in-Update-clause-unlawful
returns-in-Update-clause-unlawful g c = λ wrong db e fit. c.make_change.ensures.unlawful wrong db e

pub returns-in-Utility-clause-made : goal.returns-in-Utility-clause-made
returns-in-Utility-clause-made g c = subst (λ (t : Checked). ComesTo t (g.B.Base.database c.args.base.now) processed.HandsOn) (sym c.in-Utility.is) tt
