use Rattle.calculus.proofs.Placing.{IsPlace-behind, IsPlace-search}
use Rattle.calculus.proofs.row_set.place_of.Goals as goal

pub returns-then-is_behind-clause-there : goal.returns-then-is_behind-clause-there
returns-then-is_behind-clause-there c = (IsPlace-behind _ _ c.requires (c.is_behind.ensures c.if-is_behind.true)).there

pub returns-then-is_behind-clause-place : goal.returns-then-is_behind-clause-place
returns-then-is_behind-clause-place c = (IsPlace-behind _ _ c.requires (c.is_behind.ensures c.if-is_behind.true)).place

pub returns-clause-there : goal.returns-clause-there
returns-clause-there c =
    (IsPlace-search _ _ c.requires _ c.binary_search.ensures.bound c.binary_search.ensures.position).there

pub returns-clause-place : goal.returns-clause-place
returns-clause-place c =
    (IsPlace-search _ _ c.requires _ c.binary_search.ensures.bound c.binary_search.ensures.position).place
