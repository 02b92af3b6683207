use Rattle.std.proofs.Common.{◌∙◌, ◌++◌, ap}
use Rattle.std.proofs.lemmas.Result.{on_ok_weaker}
use Rattle.quel_meaning.specs.WrittenQuery.{attr_targets}
use Rattle.quel_resolve.proofs.Putting.{puts_all}
use Rattle.quel_resolve.proofs.targets.push_all.Goals as goal

pub returns : goal.returns
returns c = λ db slot.
    on_ok_weaker c.push_attrs.result
    (λ h. puts_all db _ _ _ _ slot _ c.var_place-place.result _ _
    (λ s k. (
      c.var_place-place.ensures k.few_vars,
      h (c.attrs_at.ensures.few k.few_attrs) ∙ ap (λ attrs. c.args.targets.now.items ++ attr_targets c.var_place-place.result attrs) c.attrs_at.ensures.attrs,
    )))
    c.push_attrs.ensures
