use Rattle.std.proofs.Common.{◌∙◌, [], ◌∷◌}
use Rattle.ovqp.specs.Parts.{alone}
use Rattle.ovqp.proofs.Assigning.{once_rows, once_given}
use Rattle.ovqp.proofs.answering.given_once.Goals as goal

pub returns-clause-rows : goal.returns-clause-rows
returns-clause-rows c = λ q asks gives.
    c.of_rows.ensures
    ∙ once_rows q c.give_of.new.given.items (alone [] ∷ [])
    (once_given q c.of.result c.new-given.result.items c.give_of.new.given.items (c.of.ensures ∙ c.new.ensures.items) c.new-given.ensures.items (c.in_ok-give_of.ensures.given q asks gives))
