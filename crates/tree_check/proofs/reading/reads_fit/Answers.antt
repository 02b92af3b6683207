use Rattle.std.proofs.Common.{◌≡◌, refl, sym, ◌∙◌, subst, Bool, true, false}
use Rattle.std.specs.Prelude.{IfOk}
use Rattle.std.specs.List.{list_all}
use Rattle.calculus.specs.QueryParts.{vars_of}
use Rattle.quel_meaning.specs.FitQueries.{is_kept}
use Rattle.tree_check.proofs.Parts.{stops, goes_on}
use Rattle.tree_check.proofs.ReadParts.{read}
use Rattle.tree_check.proofs.reading.reads_fit.Goals as goal

pub returns-then-not-is_short-clause-known : goal.returns-then-not-is_short-clause-known
returns-then-not-is_short-clause-known g c = λ db h.
    let no : c.is_short.result ≡ false = cc (c.if-not-is_short.true) in
    stops _ _ false (sym c.is_short.ensures ∙ no) refl ∙ read db c.args.q.now

pub returns-then-not-branch-clause-known : goal.returns-then-not-branch-clause-known
returns-then-not-branch-clause-known g c = λ db h.
    let short : c.is_short.result ≡ true = cc (c.if-not-is_short.false) in
    let no : list_all (is_kept db) (vars_of c.args.q.now) ≡ false = cc (c.in_ok-vars_are_kept.ensures.known db h, c.if-not-branch.true) in
    goes_on _ _ false (sym c.is_short.ensures ∙ short) (stops _ _ false no refl) ∙ read db c.args.q.now

pub returns-clause-known : goal.returns-clause-known
returns-clause-known g c = λ db h.
    let short : c.is_short.result ≡ true = cc (c.if-not-is_short.false) in
    let yes : list_all (is_kept db) (vars_of c.args.q.now) ≡ true = cc (c.in_ok-vars_are_kept.ensures.known db h, c.if-not-branch.false) in
    subst (λ (b : Bool). IfOk c.aggregates_fit.result (λ fit. fit ≡ b))
    (goes_on _ _ _ (sym c.is_short.ensures ∙ short) (goes_on _ _ _ yes refl) ∙ read db c.args.q.now)
    (c.aggregates_fit.ensures.known db (c.in_ok-vars_are_kept.ensures.stays db h))
