use Rattle.std.proofs.Common.{rules, tests, ◌∙◌, Some, slice_get}
use Rattle.std.proofs.lemmas.Iterator.{YieldsList-from_slice, YieldsList-from_zip}
use Rattle.std.proofs.lemmas.Iterator.Search.{all_from_yields_List}
use Rattle.calculus.specs.Kinds.{comparable}
use Rattle.quel_refusals.proofs.Fits.{all_paired}
use Rattle.quel_refusals.proofs.fitting.assignments_fit.Goals as goal

pub returns : goal.returns
returns c =
    all_from_yields_List (λ p. comparable (Some p.0.kind) (slice_get c.args.kinds.now p.1)) c.all.new.self _ c.all.result c.all.ensures.ran
    (YieldsList-from_zip (YieldsList-from_slice c.args.targets.now cc) (YieldsList-from_slice c.args.places.now cc)) (λ x b q k. search (rules, tests))
    ∙ all_paired (λ p. comparable (Some p.0.kind) p.1) (slice_get c.args.kinds.now) c.args.targets.now c.args.places.now
