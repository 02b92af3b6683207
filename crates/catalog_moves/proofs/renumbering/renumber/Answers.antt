use Rattle.std.proofs.Common.{All, List, ℕ, subst, sym, ◌∙◌}
use Rattle.page_chain.specs.Lying.{IsShort}
use Rattle.plain_base.specs.Shown.{database_of}
use Rattle.catalog_moves.proofs.Coming.{are_short, as_they_are, none_fit, none_rows}
use Rattle.catalog_moves.proofs.RenumberedBases.{files_new, renumbered_bases}
use Rattle.catalog_moves.proofs.renumbering.renumber.Goals as goal

pub returns-clause-files : goal.returns-clause-files
returns-clause-files c bases here = files_new c.args.files.now (database_of c.args.plain.now) c.args.plain.now.is bases c.put_renumbered.new.files c.args.key.now c.args.file c.args.used here c.in_ok-put_renumbered.ensures.table

pub returns-clause-bases : goal.returns-clause-bases
returns-clause-bases c bases here may = renumbered_bases c.args.files.now (database_of c.args.plain.now) c.args.plain.now.is bases c.put_renumbered.new.files c.args.key.now c.args.file c.args.used here c.in_ok-put_renumbered.ensures.table may

pub returns-clause-moves : goal.returns-clause-moves
returns-clause-moves c bases here may =
    let come = c.in_ok-put_renumbered.ensures.come (none_rows c.new-entering.result c.new-entering.ensures.entries c.new-entering.ensures.columns c.new-entering.ensures.parts) bases here may in
    let go = c.in_ok-put_renumbered.ensures.go (none_rows c.new-leaving.result c.new-leaving.ensures.entries c.new-leaving.ensures.columns c.new-leaving.ensures.parts) bases in
    record {
      entries_go = as_they_are _ _ (c.moves_of.ensures.entries_go ∙ go.entries);
      entries_come = as_they_are _ _ (c.moves_of.ensures.entries_come ∙ come.entries);
      columns_go = as_they_are _ _ (c.moves_of.ensures.columns_go ∙ go.columns);
      columns_come = as_they_are _ _ (c.moves_of.ensures.columns_come ∙ come.columns);
      parts_go = as_they_are _ _ (c.moves_of.ensures.parts_go ∙ go.parts);
      parts_come = as_they_are _ _ (c.moves_of.ensures.parts_come ∙ come.parts);
    }

pub returns-clause-short : goal.returns-clause-short
returns-clause-short c =
    let fit = c.in_ok-put_renumbered.ensures.short (none_fit c.new-entering.result c.new-entering.ensures.entries c.new-entering.ensures.columns c.new-entering.ensures.parts) in
    record {
      entries = subst (λ (l : List (List ℕ)). All (λ row. IsShort row) l) (sym c.moves_of.ensures.entries_come) (are_short _ fit.entries);
      columns = subst (λ (l : List (List ℕ)). All (λ row. IsShort row) l) (sym c.moves_of.ensures.columns_come) (are_short _ fit.columns);
      parts = subst (λ (l : List (List ℕ)). All (λ row. IsShort row) l) (sym c.moves_of.ensures.parts_come) (are_short _ fit.parts);
    }

pub returns-clause-places : goal.returns-clause-places
returns-clause-places c bases here may =
    (c.in_ok-put_renumbered.ensures.come (none_rows c.new-entering.result c.new-entering.ensures.entries c.new-entering.ensures.columns c.new-entering.ensures.parts) bases here may).placed
