use Rattle.std.proofs.Common.{sym, ◌∙◌}
use Rattle.base_trait.proofs.Known.{known_before}
use Rattle.cut_rules.proofs.Answered.{expand_behind}
use Rattle.cut_rules.proofs.expanding.expand.Goals as goal

pub expand_fixed-made-requires : goal.expand_fixed-made-requires
expand_fixed-made-requires g c = λ db h. c.requires db (sym c.in_ok-_entries.ensures.kept ∙ h)

pub returns-clause-few_by_schema : goal.returns-clause-few_by_schema
returns-clause-few_by_schema g c = λ fixes s h. c.expand_fixed-made.ensures.few_by_schema s (known_before _ _ (c.in_ok-_entries.ensures.fixed fixes) c.expand_fixed-made.ensures.stays s h)

pub returns-clause-many_by_schema : goal.returns-clause-many_by_schema
returns-clause-many_by_schema g c = λ fixes s h. c.expand_fixed-made.ensures.many_by_schema s (known_before _ _ (c.in_ok-_entries.ensures.fixed fixes) c.expand_fixed-made.ensures.stays s h)

pub returns-clause-cause : goal.returns-clause-cause
returns-clause-cause g c = expand_behind _ _ _ _ _ _ _ c.expand_fixed-made.ensures.cause c.in_ok-_entries.ensures.kept c.in_ok-_entries.ensures.cause.caused
