use Rattle.std.proofs.Common.{sym, ap, ◌∙◌}
use Rattle.std.specs.Option.{option_map}
use Rattle.std.proofs.lemmas.Result.{IfOk-weaker}
use Rattle.base_trait.specs.Known.{known_at}
use Rattle.calculus.specs.Keys.{key_of}
use Rattle.utility_trees.proofs.Meant.{own_entry, other_entry}
use Rattle.utility_trees.proofs.finding.entry_key.Goals as goal

pub returns-in-Some-clause-known : goal.returns-in-Some-clause-known
returns-in-Some-clause-known g c = λ db ranges h d.
    own_entry db c.args.user.now ranges c.args.name.now c.in-Some.key (sym (c.in_ok-key.ensures.known db h) ∙ c.in-Some.is)

pub returns-in-None-clause-known : goal.returns-in-None-clause-known
returns-in-None-clause-known g c = λ db ranges h d.
    IfOk-weaker c.key_under-in-None.result _ _
    (λ key e. e ∙ ap (λ owner. option_map (λ i. i.key) (known_at db (key_of owner c.args.name.now))) d ∙ other_entry db c.args.user.now ranges c.args.name.now (sym (c.in_ok-key.ensures.known db h) ∙ c.in-None.is))
    (c.key_under-in-None.ensures.known db (c.in_ok-key.ensures.stays _ h))
