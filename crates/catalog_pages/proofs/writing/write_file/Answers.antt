use Rattle.std.proofs.Common.{length, sym, ◌∙◌}
use Rattle.std.proofs.lemmas.Bool.{eqb-true}
use Rattle.std.proofs.lemmas.List.{nil_from_length}
use Rattle.catalog_pages.proofs.Files.{rewritten_nothing}
use Rattle.catalog_pages.proofs.writing.write_file.Goals as goal

pub returns-then-is_empty-2-clause-rewritten : goal.returns-then-is_empty-2-clause-rewritten
returns-then-is_empty-2-clause-rewritten g c m is =
    let none = nil_from_length c.items-going.result.now (eqb-true (length c.items-going.result.now) 0 (sym c.is_empty.ensures ∙ c.if-is_empty.true)) in
    let no_more = nil_from_length c.items-coming.result.now (eqb-true (length c.items-coming.result.now) 0 (sym c.is_empty-then-is_empty.ensures ∙ c.if-is_empty-2.true)) in
    rewritten_nothing c.args.file c.args.last c.args.moves.now.going c.args.moves.now.coming m (g.S.PageStore.pages c.args.store.now) (sym c.items-going.ensures ∙ none) (sym c.items-coming.ensures ∙ no_more) is

pub returns-clause-came : goal.returns-clause-came
returns-clause-came g c = c.replace.ensures.came

pub returns-in_err-done-clause-came : goal.returns-in_err-done-clause-came
returns-in_err-done-clause-came g c = c.replace.ensures.came
