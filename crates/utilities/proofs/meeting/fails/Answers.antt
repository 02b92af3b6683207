use Rattle.std.proofs.Common.{ap, ◌∙◌, ◌++◌, ◌∷◌, [], not}
use Rattle.calculus.specs.Table.{tabled}
use Rattle.calculus.specs.Term.{holds}
use Rattle.utilities.proofs.Breaking.{untabled}
use Rattle.utilities.proofs.meeting.fails.Goals as goal

pub returns-in-Ok-clause-fails : goal.returns-in-Ok-clause-fails
returns-in-Ok-clause-fails c =
    ap not (c.in-Ok.ensures ∙ ap (holds (tabled []) c.args.qual.now) (c.in_ok-push.ensures.pushed ∙ ap (λ rows. rows ++ c.args.row ∷ []) c.requires.none)
    ∙ untabled c.args.qual.now (c.args.row ∷ []))
