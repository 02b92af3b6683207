use Rattle.std.proofs.Common.{refl}
use Rattle.message_codec.specs.TakingLaws.{left_no_part, left_no_whole, left_part, left_unlawful, left_whole, right_no_part, right_no_whole, right_part, right_unlawful, right_whole}
use Rattle.message_codec.proofs.laws.frames_are_taken_as_messages.Goals as goal

pub returns-clause-part : goal.returns-clause-part
returns-clause-part c user s f w goes h = left_part user s _ f w goes h refl

pub returns-clause-whole : goal.returns-clause-whole
returns-clause-whole c user s f m act w h e = left_whole user s _ f m act w h e refl

pub returns-clause-unlawful : goal.returns-clause-unlawful
returns-clause-unlawful c user s after f w h t = left_unlawful user s f w h after t

pub returns-clause-no_part : goal.returns-clause-no_part
returns-clause-no_part c user s after f w stops h t = left_no_part user s f w stops h after t

pub returns-clause-no_whole : goal.returns-clause-no_whole
returns-clause-no_whole c user s after f m w h none t = left_no_whole user s f m w h none after t

pub returns-clause-right_part : goal.returns-clause-right_part
returns-clause-right_part c user s f w goes h = right_part user s _ f w goes h refl

pub returns-clause-right_whole : goal.returns-clause-right_whole
returns-clause-right_whole c user s f m act w h e = right_whole user s _ f m act w h e refl

pub returns-clause-right_unlawful : goal.returns-clause-right_unlawful
returns-clause-right_unlawful c user s after f w h t = right_unlawful user s f w h after t

pub returns-clause-right_no_part : goal.returns-clause-right_no_part
returns-clause-right_no_part c user s after f w stops h t = right_no_part user s f w stops h after t

pub returns-clause-right_no_whole : goal.returns-clause-right_no_whole
returns-clause-right_no_whole c user s after f m w h none t = right_no_whole user s f m w h none after t
