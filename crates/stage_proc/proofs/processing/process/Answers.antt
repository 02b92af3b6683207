use Rattle.std.proofs.Common.{◌≡◌, ◌∙◌, sym, subst, true, false, rules}
use Rattle.std.proofs.lemmas.Result.{IfOk-weaker}
use Rattle.std.specs.declared.option.Option.{Option}
use Rattle.calculus.specs.Database.{Db}
use Rattle.stage_proc.specs.Comes.{Comes, ComesTo, IsUnfit}
use Rattle.stage_proc.proofs.Made.{cause_later, comes}
use Rattle.stage_proc.proofs.processing.process.Goals as goal

pub carry_out-requires-clause-fit : goal.carry_out-requires-clause-fit
carry_out-requires-clause-fit g c = λ db e.
    let yes : c.in_ok-fit.fit ≡ true = search rules in
    sym (c.in_ok-fit.ensures.known db (sym c.judge.ensures.kept ∙ e)) ∙ yes

pub returns-clause-made : goal.returns-clause-made
returns-clause-made g c =
    let yes : c.in_ok-fit.fit ≡ true = search rules in
    IfOk-weaker c.carry_out.result (ComesTo c.args.tree.now (g.B.Base.database c.judge.new.base)) (Comes c.args.user.now c.args.tree.now (g.B.Base.database c.args.base.now))
    (λ made. comes c.args.user.now c.args.tree.now (g.B.Base.database c.args.base.now) (g.B.Base.database c.judge.new.base) made c.judge.ensures.kept (λ db e. sym (c.in_ok-fit.ensures.known db e) ∙ yes)) c.carry_out.ensures.made

pub returns-clause-unlawful : goal.returns-clause-unlawful
returns-clause-unlawful g c = λ wrong. subst (λ (o : Option Db). IsUnfit c.args.user.now c.args.tree.now o) c.judge.ensures.kept (c.carry_out.ensures.unlawful wrong)

pub returns-clause-cause : goal.returns-clause-cause
returns-clause-cause g c =
    cause_later (g.B.Base.database c.args.base.now) (g.B.Base.database c.judge.new.base) _ _ _ c.carry_out.result c.judge.ensures.kept c.in_ok-fit.ensures.cause.caused c.carry_out.ensures.cause

pub returns-then-not-fit-clause-unlawful : goal.returns-then-not-fit-clause-unlawful
returns-then-not-fit-clause-unlawful g c = λ wrong db e fit.
    let no : c.in_ok-fit.fit ≡ false = search rules in
    let both : true ≡ false = sym fit.fit ∙ sym (c.in_ok-fit.ensures.known db e) ∙ no in
    cc both

pub returns-then-not-fit-clause-cause : goal.returns-then-not-fit-clause-cause
returns-then-not-fit-clause-cause g c = record { later = c.in_ok-fit.ensures.cause.later; caused = c.in_ok-fit.ensures.cause.caused }
