use Rattle.std.proofs.Common.{sym, ap, ◌∙◌}
use Rattle.quel_meaning.specs.WrittenParts.{once}
use Rattle.quel_check.proofs.OnceMore.{comes, one_taken}
use Rattle.quel_check.proofs.names.push_once.Goals as goal

pub loop-name-preserved : goal.loop-name-preserved
loop-name-preserved c =
    c.in_ok-push_new.ensures ∙ comes _ _ _ c.loop-name.invariant
    ∙ ap once (sym (one_taken (λ n. n.now) c.args.names.now c.loop-name.name-index c.name-item.result c.loop-name-test.true c.name-item.is))
