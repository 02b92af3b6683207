use Rattle.std.proofs.Common.{◌≡◌, take}
use Rattle.page_cells.specs.Page.{IsPage, next_page}
use Rattle.page_chain.specs.Filled.{IsFilled}
use Rattle.page_chain.proofs.filling.fill.Given as goal

abbrev pub invariant-rows : goal.invariant-rows
invariant-rows l = record {
  page : IsPage l.page;
  filled : IsFilled l.initial.page (take l.count l.rows) l.page;
  still : l.count ≡ 0 → l.page ≡ l.initial.page;
  next : next_page l.page ≡ next_page l.initial.page;
}
