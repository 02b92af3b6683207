use Rattle.std.proofs.Common.{◌≡◌, sym, subst, ◌+◌, [], ◌∷◌, ◌++◌, arith}
use Rattle.page_cells.specs.Page.{slots}
use Rattle.page_chain.specs.Lying.{place_of}
use Rattle.page_chain.specs.Rows.{reader}
use Rattle.heap_am.specs.Met.{placed_from, on_page}
use Rattle.heap_am.proofs.Standing.{one_read, lines_read}
use Rattle.heap_am.proofs.Whole.{line_skipped, line_found, lines_over}
use Rattle.heap_am.proofs.heap.Heap.lines.Goals as goal
use Rattle.heap_am.proofs.heap.Heap.lines.Goals.{in-Some+in_ok-add-in-Some, in-None}

pub lines-preserved : goal.lines-preserved
lines-preserved c = record {
  known = λ m rows e is.
      elim c.match-branch-2.branch [
        | in-Some+in_ok-add-in-Some w ↦
            let new : c.match-branch-2.found.items ≡ c.lines.found.items ++ (c.lines.line, w.in-Some.row) ∷ [] = cc (w.found-is, w.in_ok-add-in-Some.ensures) in
            line_found c.args.self.now.file m rows c.args.number c.lines.line c.args.page.now c.lines.found.items c.match-branch-2.found.items c.in_ok-row.field-0 w.in-Some.row w.in-Some.is new c.requires.below e is (c.in_ok-row.ensures.known m rows e is) (c.lines.invariant.known m rows e is)
        | in-None w ↦
            let same : c.match-branch-2.found.items ≡ c.lines.found.items = cc w.found-is in
            line_skipped c.args.self.now.file m rows c.args.number c.lines.line c.args.page.now c.lines.found.items c.match-branch-2.found.items c.in_ok-row.field-0 w.in-None.is same c.requires.below e is (c.in_ok-row.ensures.known m rows e is) (c.lines.invariant.known m rows e is)
      ];
  read = one_read (reader c.args.self.now.file.domains) c.lines.line (slots c.args.page.now) c.lines.invariant.read c.in_ok-row.ensures.read;
}

pub returns-clause-known : goal.returns-clause-known
returns-clause-known c m rows e is =
    subst (λ found. placed_from rows (place_of c.args.number 0) ≡ on_page c.args.number found ++ placed_from rows (place_of (c.args.number + 1) 0)) (sym c.of.ensures)
    (lines_over c.args.self.now.file m rows c.args.number c.lines.line c.args.page.now c.lines.found.items c.requires.below e is (omega arith) (c.lines.invariant.known m rows e is))

pub returns-clause-read : goal.returns-clause-read
returns-clause-read c = lines_read (reader c.args.self.now.file.domains) c.args.number c.lines.line c.args.page.now (omega arith) c.lines.invariant.read
