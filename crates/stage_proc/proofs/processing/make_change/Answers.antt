use Rattle.std.proofs.lemmas.Result.{IfOk-weaker}
use Rattle.spelling_laws.proofs.Changes.{lawful_spelled}
use Rattle.stage_proc.specs.Comes.{IsHanded, IsRefused, Updates}
use Rattle.stage_proc.proofs.Made.{handed_updates, never_unlawful, refused_cause, refused_updates, sent_cause}
use Rattle.stage_proc.proofs.processing.make_change.Goals as goal

pub returns-in-Ok-clause-made : goal.returns-in-Ok-clause-made
returns-in-Ok-clause-made g c =
    IfOk-weaker c.hand.result (IsHanded c.in-Ok.change) (Updates c.args.u.now (g.B.Base.database c.args.base.now))
    (λ made. handed_updates c.args.u.now (g.B.Base.database c.args.base.now) c.in-Ok.change made (λ db e. g.B.Base.lawful c.args.base.now db (g.B.Base.own c.args.base.now db e)) c.in-Ok.ensures.known) c.hand.ensures.handed

pub returns-in-Ok-clause-unlawful : goal.returns-in-Ok-clause-unlawful
returns-in-Ok-clause-unlawful g c = λ wrong db e.
    c.hand.ensures.unlawful wrong (lawful_spelled db c.in-Ok.change (g.B.Base.lawful c.args.base.now db (g.B.Base.own c.args.base.now db e)) (c.in-Ok.ensures.known db e).1)

pub returns-in-Ok-clause-cause : goal.returns-in-Ok-clause-cause
returns-in-Ok-clause-cause g c = record {
  later = c.in-Ok.ensures.cause.later;
  caused = sent_cause (g.B.Base.database c.args.base.now) _ _ c.hand.result c.in-Ok.ensures.cause.caused c.hand.ensures.cause;
}

pub returns-in-Err-clause-made : goal.returns-in-Err-clause-made
returns-in-Err-clause-made g c =
    IfOk-weaker c.refuse.result (IsRefused c.in-Err.stopped) (Updates c.args.u.now (g.B.Base.database c.args.base.now))
    (λ made. refused_updates c.args.u.now (g.B.Base.database c.args.base.now) c.in-Err.stopped made c.in-Err.ensures.refusing c.in-Err.ensures.known) c.refuse.ensures.refused

pub returns-in-Err-clause-unlawful : goal.returns-in-Err-clause-unlawful
returns-in-Err-clause-unlawful g c = λ wrong db e. never_unlawful c.in-Err.stopped c.refuse.result c.refuse.ensures.fault wrong

pub returns-in-Err-clause-cause : goal.returns-in-Err-clause-cause
returns-in-Err-clause-cause g c = record {
  later = c.in-Err.ensures.cause.later;
  caused = refused_cause (g.B.Base.database c.args.base.now) _ _ c.in-Err.stopped c.refuse.result c.in-Err.ensures.cause.caused c.refuse.ensures.refused c.refuse.ensures.fault;
}
