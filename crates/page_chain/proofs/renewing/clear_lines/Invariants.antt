use Rattle.std.proofs.Common.{◌≡◌, ◌+◌, ◌<◌, ◌≤◌, ℕ, Some, None, length, map, get_or}
use Rattle.page_cells.specs.Page.{IsPage, next_page, slots}
use Rattle.page_chain.specs.Going.{unless_going}
use Rattle.page_chain.specs.Lying.{lying_on}
use Rattle.page_chain.proofs.renewing.clear_lines.Given as goal

abbrev pub invariant-lines : goal.invariant-lines
invariant-lines l = record {
  page : IsPage l.page;
  next : next_page l.page ≡ next_page l.initial.page;
  alike : map (unless_going l.going) (slots l.page) ≡ map (unless_going l.going) (slots l.initial.page);
  left : (k : ℕ) → k < l.line → unless_going l.going (get_or (slots l.page) k None) ≡ get_or (slots l.page) k None;
  gone : (n : ℕ) → l.gone + length (lying_on n (Some l.page)) ≡ length (lying_on n (Some l.initial.page));
  most : l.gone ≤ l.line;
  none : l.gone ≡ 0 → l.page ≡ l.initial.page;
}
