use Rattle.std.proofs.Common.{◌≡◌, sym, subst, map, List}
use Rattle.std.proofs.lemmas.Result.{IfOk-weaker}
use Rattle.calculus.specs.declared.reply.Reply.TheVariants as reply
use Rattle.calculus.specs.declared.reply.Table.{Table as Printed}
use Rattle.calculus.specs.Who.{Unrestricted}
use Rattle.quel_meaning.proofs.Each.{Each}
use Rattle.quel_meaning.specs.Copying.{refusal}
use Rattle.quel_meaning.specs.Meaning.{answer_reply}
use Rattle.quel_network.specs.TableFits.{TableStands}
use Rattle.quel_network.specs.Trees.{sent_table}
use Rattle.stage_proc.specs.Comes.{Answers, IsRefused}
use Rattle.stage_proc.specs.declared.processed.Processed.TheVariants.{Shows}
use Rattle.stage_proc.specs.Sending.{answer_frames}
use Rattle.stage_proc.specs.Stopping.{IsRefusing, StopsBy}
use Rattle.stage_proc.proofs.Made.{heads_have, never_unlawful, refused_answers, refused_cause, sent_cause, shown_answers}
use Rattle.stage_proc.proofs.Outcomes.{RefusedBy, query_caused, query_refuses, query_stops}
use Rattle.stage_proc.proofs.processing.answer_queries.Goals as goal

pub tables_of-requires : goal.tables_of-requires
tables_of-requires g c = c.requires.doable

pub show-requires : goal.show-requires
show-requires g c = heads_have c.in-Ok.tables c.args.asked.now c.in-Ok.ensures.columns c.requires.heads

pub returns-in-Ok-clause-made : goal.returns-in-Ok-clause-made
returns-in-Ok-clause-made g c =
    IfOk-weaker c.show.result (λ made. Each TableStands (map sent_table c.in-Ok.tables) × (made ≡ Shows (answer_frames c.in-Ok.tables))) (Answers c.args.asked.now (g.B.Base.database c.args.base.now))
    (λ made. shown_answers c.args.asked.now (g.B.Base.database c.args.base.now) c.in-Ok.tables made c.in-Ok.ensures.columns c.in-Ok.ensures.none_lacks c.in-Ok.ensures.known) c.show.ensures.shown

pub returns-in-Ok-clause-unlawful : goal.returns-in-Ok-clause-unlawful
returns-in-Ok-clause-unlawful g c = λ wrong db e. (
  c.in-Ok.ensures.none_lacks db e,
  λ stand. c.show.ensures.unlawful wrong (subst (λ (ts : List Printed). Each TableStands (map sent_table ts)) (sym (c.in-Ok.ensures.known db e)) stand),
)

pub returns-in-Ok-clause-cause : goal.returns-in-Ok-clause-cause
returns-in-Ok-clause-cause g c = record {
  later = c.in-Ok.ensures.cause.later;
  caused = sent_cause (g.B.Base.database c.args.base.now) _ _ c.show.result c.in-Ok.ensures.cause.caused c.show.ensures.cause;
}

pub refuse-requires : goal.refuse-requires
refuse-requires g c = subst IsRefusing (sym c.from.ensures) (query_refuses c.in-Err.fault)

pub returns-in-Err-clause-made : goal.returns-in-Err-clause-made
returns-in-Err-clause-made g c =
    IfOk-weaker c.refuse.result (IsRefused c.from.result) (Answers c.args.asked.now (g.B.Base.database c.args.base.now))
    (λ made. refused_answers c.args.asked.now (g.B.Base.database c.args.base.now) c.from.result made (subst IsRefusing (sym c.from.ensures) (query_refuses c.in-Err.fault))
    (λ db e. subst (RefusedBy (λ number. answer_reply db Unrestricted c.args.asked.now ≡ reply.Refused (refusal number))) (sym c.from.ensures)
    (query_stops db c.args.asked.now (g.B.Base.database c.args.base.now) _ _ c.in-Err.fault e c.in-Err.ensures.cause.caused))) c.refuse.ensures.refused

pub returns-in-Err-clause-unlawful : goal.returns-in-Err-clause-unlawful
returns-in-Err-clause-unlawful g c = λ wrong db e. absurd (never_unlawful c.from.result c.refuse.result c.refuse.ensures.fault wrong)

pub returns-in-Err-clause-cause : goal.returns-in-Err-clause-cause
returns-in-Err-clause-cause g c = record {
  later = c.in-Err.ensures.cause.later;
  caused = refused_cause (g.B.Base.database c.args.base.now) _ _ c.from.result c.refuse.result
      (subst (StopsBy (g.B.Base.database c.args.base.now) _ _) (sym c.from.ensures) (query_caused c.args.asked.now (g.B.Base.database c.args.base.now) _ _ c.in-Err.fault c.in-Err.ensures.cause.caused))
      c.refuse.ensures.refused c.refuse.ensures.fault;
}
