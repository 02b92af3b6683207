use Rattle.std.proofs.Common.{◌≡◌, ◌∙◌, ap, sym, subst, is_some, IfOk}
use Rattle.base_trait.specs.Known.{known_at}
use Rattle.quel_refusals.proofs.Entries.{taken_where_known}
use Rattle.quel_refusals.proofs.places.is_taken.Goals as goal

pub returns-clause-known : goal.returns-clause-known
returns-clause-known g c = λ db h.
    subst (λ b. IfOk c.is_known-known.result (λ taken. taken ≡ b))
    (ap (λ k. is_some (known_at db k)) c.in_ok-key.ensures ∙ taken_where_known db c.args.user.now c.args.name.now (sym c.is_catalogue_name.ensures ∙ c.if-is_catalogue_name.false))
    (c.is_known-known.ensures.known db h)
