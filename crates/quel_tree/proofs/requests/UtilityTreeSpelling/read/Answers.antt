use Rattle.std.proofs.Common.{refl}
use Rattle.quel_tree.specs.Requests.{utility}
use Rattle.quel_tree.proofs.requests.UtilityTreeSpelling.read.Goals as goal

pub returns-in_ok-rel-in-0 : goal.returns-in_ok-rel-in-0
unfolding utility
returns-in_ok-rel-in-0 c = rw (c.in_ok-byte.ensures.0, c.in-0.is) (rw c.in_ok-rel-in-0.ensures refl)

pub returns-in_ok-rels-in-1 : goal.returns-in_ok-rels-in-1
unfolding utility
returns-in_ok-rels-in-1 c = rw (c.in_ok-byte.ensures.0, c.in-1.is) (rw c.in_ok-rels-in-1.ensures refl)

pub returns-in_ok-rel-in-2 : goal.returns-in_ok-rel-in-2
unfolding utility
returns-in_ok-rel-in-2 c = rw (c.in_ok-byte.ensures.0, c.in-2.is) (rw c.in_ok-rel-in-2.ensures refl)

pub returns-in_ok-base-in-3 : goal.returns-in_ok-base-in-3
unfolding utility
returns-in_ok-base-in-3 c = rw (c.in_ok-byte.ensures.0, c.in-3.is) (rw c.in_ok-base-in-3.ensures refl)

pub returns-in_ok-rel-in-4 : goal.returns-in_ok-rel-in-4
unfolding utility
returns-in_ok-rel-in-4 c = rw (c.in_ok-byte.ensures.0, c.in-4.is) (rw c.in_ok-rel-in-4.ensures refl)

pub returns-in_ok-rel-in-5 : goal.returns-in_ok-rel-in-5
unfolding utility
returns-in_ok-rel-in-5 c = rw (c.in_ok-byte.ensures.0, c.in-5.is) (rw c.in_ok-rel-in-5.ensures refl)

pub returns-in_ok-rel-in-6 : goal.returns-in_ok-rel-in-6
unfolding utility
returns-in_ok-rel-in-6 c = rw (c.in_ok-byte.ensures.0, c.in-6.is) (rw c.in_ok-rel-in-6.ensures refl)

pub returns-in_ok-rel-in-7 : goal.returns-in_ok-rel-in-7
unfolding utility
returns-in_ok-rel-in-7 c = rw (c.in_ok-byte.ensures.0, c.in-7.is) (rw c.in_ok-rel-in-7.ensures refl)

pub returns-in_ok-rel-in-8 : goal.returns-in_ok-rel-in-8
unfolding utility
returns-in_ok-rel-in-8 c = rw (c.in_ok-byte.ensures.0, c.in-8.is) (rw c.in_ok-rel-in-8.ensures refl)

pub returns-in_ok-rel-in-9 : goal.returns-in_ok-rel-in-9
unfolding utility
returns-in_ok-rel-in-9 c = rw (c.in_ok-byte.ensures.0, c.in-9.is) (rw c.in_ok-rel-in-9.ensures refl)
