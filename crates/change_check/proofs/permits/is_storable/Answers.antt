use Rattle.std.proofs.Common.{◌∙◌}
use Rattle.change_check.proofs.Numbered.{small_and_spelled}
use Rattle.change_check.proofs.permits.is_storable.Goals as goal

pub returns : goal.returns
returns c = λ none. c.qual_is_small.ensures ∙ small_and_spelled c.args.qual.now none c.qual_is_spelled.ensures
