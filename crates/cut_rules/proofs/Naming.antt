-- What an aggregate names of its source's row.
use Rattle.std.proofs.Common.{◌≡◌, ◌++◌, flat_map, append_assoc}
use Rattle.calculus.specs.declared.query.QAgg.{QAgg}
use Rattle.calculus.specs.Used.{used, used_in_aggregate, used_in_qual}
use Rattle.ovqp.specs.Naming.{named, named_in_qual}

pub named_by_aggregate : (g : QAgg) → (named 0 g.arg ++ flat_map (named 0) g.by) ++ named_in_qual 0 g.qual ≡ used_in_aggregate g
unfolding named named_in_qual
named_by_aggregate g = append_assoc (used 0 g.arg) (flat_map (used 0) g.by) (used_in_qual 0 g.qual)
