use Rattle.std.proofs.Common.{ap, ◌∙◌}
use Rattle.frame_codec.specs.Messages.{is_message_kind}
use Rattle.stage_parse.proofs.following.pass.Goals as goal

pub put-requires : goal.put-requires
put-requires c = ap is_message_kind c.in_ok-message.ensures.kind ∙ c.requires
