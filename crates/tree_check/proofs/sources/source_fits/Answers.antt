use Rattle.std.proofs.Common.{◌≡◌, sym, ap, ◌∙◌, subst, Bool, ◌&&◌, nat_le, length}
use Rattle.std.specs.Prelude.{IfOk}
use Rattle.std.specs.List.{list_all}
use Rattle.calculus.specs.IsDatabase.{valid_query}
use Rattle.calculus.specs.QueryParts.{vars_of}
use Rattle.quel_meaning.specs.FitQueries.{has_few_targets, is_kept, kept_alone, source_fits}
use Rattle.tree_check.proofs.SourceParts.{source_rows}
use Rattle.tree_check.proofs.sources.source_fits.Goals as goal

pub returns-in-Rows-clause-known : goal.returns-in-Rows-clause-known
returns-in-Rows-clause-known g c = λ db h.
    subst (λ (b : Bool). IfOk c.rows_fit.result (λ fit. fit ≡ b))
    (ap (λ q. nat_le (length (vars_of q)) 1 && (has_few_targets q && (list_all (is_kept db) (vars_of q) && valid_query db q))) c.get.ensures
    ∙ sym (source_rows db c.in-Rows.q) ∙ sym (ap (source_fits (kept_alone db) db) c.in-Rows.is))
    (c.rows_fit.ensures.known db h)
