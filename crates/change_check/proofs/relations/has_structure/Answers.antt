use Rattle.std.proofs.Common.{◌∙◌}
use Rattle.calculus.specs.IsDatabase.{valid_structure}
use Rattle.change_check.proofs.relations.has_structure.Goals as goal

pub returns : goal.returns
returns c =
    let info = c.args.info.now in
    c.valid_structure.ensures info.key ∙ (λ i. valid_structure (record { key = info.key; spec = info.spec; attrs = c.items.ensures i; keys = c.items-2.ensures i }))
