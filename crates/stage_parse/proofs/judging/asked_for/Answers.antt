use Rattle.stage_parse.proofs.Meanings.{number_of, refusal_shaped, refused_means, sent_means, was_written}
use Rattle.stage_parse.proofs.judging.asked_for.Goals as goal

pub checked-requires : goal.checked-requires
checked-requires g c = was_written c.args.s.now c.requires.read

pub returns-in_ok-sent-in-Ok-clause-known : goal.returns-in_ok-sent-in-Ok-clause-known
returns-in_ok-sent-in-Ok-clause-known g c = λ db h.
    sent_means db c.args.user.now c.args.ranges.now c.args.s.now c.args.line c.in-Ok.tree _ (g.B.Base.lawful c.args.base.now db (g.B.Base.own c.args.base.now db h)) c.bytes.ensures.name c.requires.read c.requires.other
    (c.in-Ok.ensures.known db h) c.in_ok-sent-in-Ok.ensures.sends

pub returns-in_ok-refused-in-Err-No-clause-known : goal.returns-in_ok-refused-in-Err-No-clause-known
returns-in_ok-refused-in-Err-No-clause-known g c = λ db h.
    refused_means db c.args.user.now c.args.ranges.now c.args.s.now c.in-Err-No.number c.requires.other (number_of db c.args.user.now c.args.ranges.now c.args.s.now c.in-Err-No.number c.in-Err-No.field-0 c.in-Err-No.field-0-is (c.in-Err-No.ensures.known db h)) c.args.line _ c.in_ok-refused-in-Err-No.ensures.known

pub returns-in_ok-refused-in-Err-No-clause-shaped : goal.returns-in_ok-refused-in-Err-No-clause-shaped
returns-in_ok-refused-in-Err-No-clause-shaped g c =
    let some = c.in_ok-refused-in-Err-No.ensures.some in
    refusal_shaped some.0 c.args.line _ some.1
