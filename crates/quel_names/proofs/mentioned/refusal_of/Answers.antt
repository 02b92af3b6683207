use Rattle.std.proofs.Common.{◌≡◌, map, ap, subst, ◌∙◌, IfOk}
use Rattle.quel_check.specs.Seen.{seen}
use Rattle.quel_meaning.specs.Naming.{first_number, mention_refusal}
use Rattle.quel_names.proofs.KnownAs.{known_as}
use Rattle.quel_names.specs.Asking.{scope_of}
use Rattle.quel_names.proofs.mentioned.refusal_of.Goals as goal

pub returns-clause-known : goal.returns-clause-known
returns-clause-known g c = λ db names h k.
    known_as c.first_refusal.result _ _
    (ap (λ ms. first_number (map (mention_refusal (scope_of db c.args.user.now c.args.ranges.now)) ms))
    (ap (map seen) c.deref.ensures.value ∙ subst (λ r. IfOk r (λ found. map seen found.items ≡ names)) c.in_ok-mentions.was k))
    (c.first_refusal.ensures.known db h)
