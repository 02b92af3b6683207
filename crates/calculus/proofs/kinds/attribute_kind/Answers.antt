use Rattle.std.proofs.Common.{sym, ap, ◌∙◌, vec_items, slice_get}
use Rattle.std.proofs.lemmas.Option.{slice_get_past}
use Rattle.calculus.proofs.Constants.{kind_absent, kind_present, found_at}
use Rattle.calculus.proofs.kinds.attribute_kind.Goals as goal

pub returns-in-None : goal.returns-in-None
returns-in-None c = sym (kind_absent vec_items _ _ c.args.attr (slice_get_past _ _ c.in-None.ensures.lookup.3))

pub returns-in-None-get : goal.returns-in-None-get
returns-in-None-get c =
    let h = c.in-Some.ensures.lookup in
    sym (kind_present vec_items _ _ c.args.attr c.in-Some.kinds.now (found_at _ _ _ h.3.0 h.1)
    ∙ ap (λ ks. slice_get ks c.args.attr) (sym c.deref.ensures.value)
    ∙ slice_get_past _ _ c.in-None-get.ensures.lookup.3)

pub returns-in-Some-get : goal.returns-in-Some-get
returns-in-Some-get c =
    let h = c.in-Some.ensures.lookup in
    let k = c.in-Some-get.ensures.lookup in
    sym (kind_present vec_items _ _ c.args.attr c.in-Some.kinds.now (found_at _ _ _ h.3.0 h.1)
    ∙ ap (λ ks. slice_get ks c.args.attr) (sym c.deref.ensures.value)
    ∙ found_at _ _ _ k.3.0 k.1)
