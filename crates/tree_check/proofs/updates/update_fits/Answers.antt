use Rattle.std.proofs.Common.{◌≡◌, refl, ◌∙◌, subst, Bool, true, false, nat_le}
use Rattle.std.specs.Prelude.{IfOk}
use Rattle.calculus.specs.Sizes.{update_expanded_variables}
use Rattle.quel_meaning.specs.Fit.{update_kinds_fit}
use Rattle.quel_meaning.specs.FitQueries.{kept_alone, reads_fit}
use Rattle.tree_check.proofs.Parts.{stops, goes_on}
use Rattle.tree_check.proofs.ReadParts.{changed, few_listed, few_in_sources}
use Rattle.tree_check.proofs.updates.update_fits.Goals as goal

pub returns-then-not-branch-clause-known : goal.returns-then-not-branch-clause-known
returns-then-not-branch-clause-known g c = λ db h.
    let no : reads_fit (kept_alone db) db c.args.u.now.query ≡ false = cc (c.in_ok-reads_fit.ensures.known db h, c.if-not-branch.true) in
    stops _ _ false no refl ∙ changed db c.args.u.now

pub returns-then-not-branch-2-clause-known : goal.returns-then-not-branch-2-clause-known
returns-then-not-branch-2-clause-known g c = λ db h.
    let reads : reads_fit (kept_alone db) db c.args.u.now.query ≡ true = cc (c.in_ok-reads_fit.ensures.known db h, c.if-not-branch.false) in
    let no : update_kinds_fit db c.args.u.now.query ≡ false = cc (c.in_ok-update_kinds_fit.ensures.known db (c.in_ok-reads_fit.ensures.stays db h), c.if-not-branch-2.true) in
    goes_on _ _ false reads (stops _ _ false no refl) ∙ changed db c.args.u.now

pub returns-then-not-branch-3-clause-known : goal.returns-then-not-branch-3-clause-known
returns-then-not-branch-3-clause-known g c = λ db h.
    let u = c.args.u.now in
    let reads : reads_fit (kept_alone db) db u.query ≡ true = cc (c.in_ok-reads_fit.ensures.known db h, c.if-not-branch.false) in
    let fits : update_kinds_fit db u.query ≡ true = cc (c.in_ok-update_kinds_fit.ensures.known db (c.in_ok-reads_fit.ensures.stays db h), c.if-not-branch-2.false) in
    let little = c.in_ok-expands_little.ensures.known db (c.in_ok-update_kinds_fit.ensures.stays db (c.in_ok-reads_fit.ensures.stays db h)) (few_listed db u.query reads) (few_in_sources db u.query reads) in
    let no : nat_le (update_expanded_variables db u) 50 ≡ false = cc (little, c.if-not-branch-3.true) in
    goes_on _ _ false reads (goes_on _ _ false fits (stops _ _ false no refl)) ∙ changed db u

pub returns-clause-known : goal.returns-clause-known
returns-clause-known g c = λ db h.
    let u = c.args.u.now in
    let reads : reads_fit (kept_alone db) db u.query ≡ true = cc (c.in_ok-reads_fit.ensures.known db h, c.if-not-branch.false) in
    let fits : update_kinds_fit db u.query ≡ true = cc (c.in_ok-update_kinds_fit.ensures.known db (c.in_ok-reads_fit.ensures.stays db h), c.if-not-branch-2.false) in
    let little = c.in_ok-expands_little.ensures.known db (c.in_ok-update_kinds_fit.ensures.stays db (c.in_ok-reads_fit.ensures.stays db h)) (few_listed db u.query reads) (few_in_sources db u.query reads) in
    let few : nat_le (update_expanded_variables db u) 50 ≡ true = cc (little, c.if-not-branch-3.false) in
    subst (λ (b : Bool). IfOk c.change_fits.result (λ fit. fit ≡ b)) (goes_on _ _ _ reads (goes_on _ _ _ fits (goes_on _ _ _ few refl)) ∙ changed db u)
    (c.change_fits.ensures.known db (c.in_ok-expands_little.ensures.stays db (c.in_ok-update_kinds_fit.ensures.stays db (c.in_ok-reads_fit.ensures.stays db h))))
