use Rattle.std.proofs.Common.{All, List, ℕ, subst, sym, ◌∙◌}
use Rattle.page_chain.specs.Lying.{IsShort}
use Rattle.catalog_moves.proofs.Coming.{are_short, as_they_are, none_rows}
use Rattle.catalog_moves.proofs.moving.moves.Goals as goal

pub returns-clause-moves : goal.returns-clause-moves
returns-clause-moves c bases =
    let come = c.in_ok-put_moves.ensures.come (none_rows c.new-entering.result c.new-entering.ensures.entries c.new-entering.ensures.columns c.new-entering.ensures.parts) in
    let go = c.in_ok-put_moves.ensures.go (none_rows c.new-leaving.result c.new-leaving.ensures.entries c.new-leaving.ensures.columns c.new-leaving.ensures.parts) bases in
    record {
      entries_go = as_they_are _ _ (c.moves_of.ensures.entries_go ∙ go.entries);
      entries_come = as_they_are _ _ (c.moves_of.ensures.entries_come ∙ come.entries);
      columns_go = as_they_are _ _ (c.moves_of.ensures.columns_go ∙ go.columns);
      columns_come = as_they_are _ _ (c.moves_of.ensures.columns_come ∙ come.columns);
      parts_go = as_they_are _ _ (c.moves_of.ensures.parts_go ∙ go.parts);
      parts_come = as_they_are _ _ (c.moves_of.ensures.parts_come ∙ come.parts);
    }

pub returns-clause-short : goal.returns-clause-short
returns-clause-short c =
    let come = c.in_ok-put_moves.ensures.come (none_rows c.new-entering.result c.new-entering.ensures.entries c.new-entering.ensures.columns c.new-entering.ensures.parts) in
    record {
      entries = subst (λ (l : List (List ℕ)). All (λ row. IsShort row) l) (sym c.moves_of.ensures.entries_come) (are_short _ come.short_entries);
      columns = subst (λ (l : List (List ℕ)). All (λ row. IsShort row) l) (sym c.moves_of.ensures.columns_come) (are_short _ come.short_columns);
      parts = subst (λ (l : List (List ℕ)). All (λ row. IsShort row) l) (sym c.moves_of.ensures.parts_come) (are_short _ come.short_parts);
    }

pub returns-clause-places : goal.returns-clause-places
returns-clause-places c = (c.in_ok-put_moves.ensures.come (none_rows c.new-entering.result c.new-entering.ensures.entries c.new-entering.ensures.columns c.new-entering.ensures.parts)).placed
