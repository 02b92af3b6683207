use Rattle.std.proofs.Common.{◌≡◌, ◌∙◌, ◌<◌, ◌==◌, ◌++◌, false, sym, ap, subst, length, List, ℕ, arith}
use Rattle.std.proofs.lemmas.Bool.Decides.{nat_tests}
use Rattle.std.proofs.lemmas.List.{append-nil}
use Rattle.std.proofs.lemmas.List.Elements.{All-push}
use Rattle.std.specs.Prelude.{All}
use Rattle.page_chain.specs.Lying.{IsShort}
use Rattle.stored_database.proofs.Reading.{same_number}
use Rattle.catalog_rows.proofs.Cuts.{rows_of_none, rows_step}
use Rattle.catalog_rows.proofs.trees.add_parts.Goals as goal

positive : (n : ℕ) → (n == 0) ≡ false → 0 < n
positive n h = grind (arith, nat_tests)

pub parts-preserved : goal.parts-preserved
parts-preserved c =
    let some = positive (length c.parts.rest.now) (sym c.is_empty.ensures ∙ c.parts-test.true) in
    record {
      rows = rows_step c.args.file c.args.sort c.args.number c.parts.place c.min.result c.parts.rest.now c.split_at.result.0.now c.split_at.result.1.now c.in_ok-row.row c.parts.rows.items _ _
          some c.min.ensures c.split_at.ensures.front c.split_at.ensures.back c.in_ok-row.ensures.bytes c.in_ok-push.ensures.items c.parts.invariant.rows;
      short = subst (λ (l : List (List ℕ)). All (λ row. IsShort row) l) (sym c.in_ok-push.ensures.items) (All-push (λ row. IsShort row) c.parts.rows.items c.in_ok-row.row c.parts.invariant.short c.in_ok-row.ensures.short);
      left = λ more. omega (arith, c.parts.invariant.left some, c.split_at.ensures.back_len, c.min.ensures, more);
    }

pub returns-clause-rows : goal.returns-clause-rows
returns-clause-rows c =
    let none = same_number (length c.parts.rest.now) 0 (sym c.is_empty.ensures ∙ c.parts-test.false) in
    sym (append-nil c.parts.rows.items)
    ∙ ap (λ l. c.parts.rows.items ++ l) (sym (rows_of_none c.args.file c.args.sort c.args.number c.parts.place c.parts.rest.now none))
    ∙ c.parts.invariant.rows
