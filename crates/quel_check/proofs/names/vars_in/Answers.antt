use Rattle.std.proofs.Common.{◌≡◌, ap, ◌∙◌, subst, map, IfOk}
use Rattle.quel_meaning.specs.WrittenParts.{vars_in, once}
use Rattle.quel_check.proofs.names.vars_in.Goals as goal

pub returns-in-Ok : goal.returns-in-Ok
unfolding vars_in
returns-in-Ok c =
    subst (λ vs. IfOk c.once.result (λ found. found ≡ vs)) (ap once (ap (map (λ n. n.now)) c.deref.ensures.value ∙ c.in-Ok.ensures))
    c.once.ensures
