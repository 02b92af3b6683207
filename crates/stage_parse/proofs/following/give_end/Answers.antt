use Rattle.message_codec.specs.MessageLaws.{by_only}
use Rattle.stage_parse.proofs.following.give_end.Goals as goal

pub put-requires : goal.put-requires
put-requires g c = (by_only _ _ _ c.end_message.ensures.is).is_kind

pub returns-clause-out : goal.returns-clause-out
returns-clause-out g c = record { kind = c.end_message.result.kind; bytes = c.end_message.result.bytes; spells = c.end_message.ensures.is; behind = c.in_ok-put.ensures.ok }
