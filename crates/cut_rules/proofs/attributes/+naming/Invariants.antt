use Rattle.std.proofs.Common.{◌≡◌, ◌++◌, take}
use Rattle.std.specs.List.{flat_map}
use Rattle.ovqp.specs.Naming.{named}
use Rattle.cut_rules.proofs.attributes.+naming.Given as goal

abbrev pub invariant-put_all_named-loop-term : goal.invariant-put_all_named-loop-term
invariant-put_all_named-loop-term l = l.attrs.items ≡ l.initial.attrs.items ++ flat_map (named 0) (take l.term-index l.terms)
