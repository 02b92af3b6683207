use Rattle.calculus.proofs.Placing.{IsPlace-search}
use Rattle.plain_base.proofs.RowLists.{removed_found}
use Rattle.plain_base.proofs.rows.place_of.Goals as goal

pub returns-clause-there : goal.returns-clause-there
returns-clause-there c =
    (IsPlace-search _ _ c.requires _ c.binary_search.ensures.bound c.binary_search.ensures.position).there

pub returns-clause-place : goal.returns-clause-place
returns-clause-place c =
    (IsPlace-search _ _ c.requires _ c.binary_search.ensures.bound c.binary_search.ensures.position).place

pub returns-clause-gone : goal.returns-clause-gone
returns-clause-gone c = removed_found _ _ c.requires _ c.binary_search.ensures.bound c.binary_search.ensures.position
