use Rattle.message_codec.specs.MessageLaws.{by_only, by_spelled, spell_alone, spell_behind, whole_behind}
use Rattle.message_codec.proofs.laws.messages_are_their_bytes.Goals as goal

pub returns-clause-only : goal.returns-clause-only
returns-clause-only c = by_only

pub returns-clause-spelled : goal.returns-clause-spelled
returns-clause-spelled c = by_spelled

pub returns-clause-alone : goal.returns-clause-alone
returns-clause-alone c = spell_alone

pub returns-clause-behind : goal.returns-clause-behind
returns-clause-behind c = spell_behind

pub returns-clause-whole : goal.returns-clause-whole
returns-clause-whole c = whole_behind
