use Rattle.std.proofs.Common.{◌≡◌, ◌+◌, take, sum_by}
use Rattle.page_cells.specs.Page.{IsPage, next_page, low, slots, row_length}
use Rattle.page_cells.proofs.putting.pack.Given as goal

abbrev pub invariant-lines : goal.invariant-lines
invariant-lines l = record {
  page : IsPage l.out;
  copied : slots l.out ≡ take l.line (slots l.page);
  following : next_page l.out ≡ next_page l.page;
  used : low l.out + sum_by row_length (take l.line (slots l.page)) ≡ 1024;
}
