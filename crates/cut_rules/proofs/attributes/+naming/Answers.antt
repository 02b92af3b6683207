use Rattle.std.proofs.Common.{sym, ap, ◌∙◌, ◌++◌, flat_map}
use Rattle.std.proofs.lemmas.List.{append-nil, take_all}
use Rattle.ovqp.specs.Naming.{named}
use Rattle.ovqp.proofs.Gathered.{parts_next}
use Rattle.cut_rules.proofs.attributes.+naming.Goals as goal

pub put_all_named-loop-term-preserved : goal.put_all_named-loop-term-preserved
put_all_named-loop-term-preserved t c =
    parts_next (named 0) c.args.terms.now c.loop-term.term-index c.term-item.result c.args.attrs.now.items c.loop-term.attrs.items c.put_named.new.attrs.items
    c.loop-term-test.true c.term-item.is c.loop-term.invariant c.in_ok-put_named.ensures

pub put_all_named-loop-term-init : goal.put_all_named-loop-term-init
put_all_named-loop-term-init t c = sym (append-nil c.args.attrs.now.items)

pub put_all_named-returns : goal.put_all_named-returns
put_all_named-returns t c =
    c.loop-term.invariant ∙ ap (λ ts. c.args.attrs.now.items ++ flat_map (named 0) ts) (take_all c.loop-term.term-index c.args.terms.now c.loop-term-test.false)
