use Rattle.std.proofs.Common.{◌∙◌}
use Rattle.ovqp.proofs.Parts.{qual_is, targets_is}
use Rattle.view_sizes.proofs.Measuring.{few_held, measured_so}
use Rattle.view_sizes.proofs.measures.measured.Goals as goal

pub returns : goal.returns
returns c = λ known few h.
    let short = few_held known c.args.query.now c.args.vars.now h few in
    measured_so known c.args.query.now c.args.vars.now (record { variables = c.used_variables-variables.result; attrs = c.in_ok-attrs.attrs; qual = c.saturating_add-qual.result }) c.items.result.now _ c.qual_size-own.result c.used_quals-below.result
    (c.items.ensures ∙ targets_is c.args.query.now) (qual_is c.args.query.now) h (c.used_variables-variables.ensures short) c.in_ok-attrs.ensures c.qual_size-own.ensures (c.used_quals-below.ensures short)
    c.saturating_add-qual.ensures
