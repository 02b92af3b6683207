use Rattle.std.proofs.Common.{◌≡◌, refl, ◌∙◌, true, false, nat_le}
use Rattle.calculus.specs.Sizes.{expanded_variables}
use Rattle.quel_meaning.specs.FitQueries.{asked_fits, kept_alone, reads_fit}
use Rattle.quel_meaning.specs.KindsInQueries.{query_fits}
use Rattle.tree_check.proofs.Parts.{stops, goes_on}
use Rattle.tree_check.proofs.ReadParts.{few_listed, few_in_sources}
use Rattle.tree_check.proofs.asking.asked_fits.Goals as goal

pub returns-then-not-branch-clause-known : goal.returns-then-not-branch-clause-known
unfolding asked_fits
returns-then-not-branch-clause-known g c = λ db h.
    let no : reads_fit (kept_alone db) db c.args.asked.now.query ≡ false = cc (c.in_ok-reads_fit.ensures.known db h, c.if-not-branch.true) in
    stops (reads_fit (kept_alone db) db c.args.asked.now.query) _ false no refl

pub returns-then-not-branch-2-clause-known : goal.returns-then-not-branch-2-clause-known
unfolding asked_fits
returns-then-not-branch-2-clause-known g c = λ db h.
    let reads : reads_fit (kept_alone db) db c.args.asked.now.query ≡ true = cc (c.in_ok-reads_fit.ensures.known db h, c.if-not-branch.false) in
    let no : query_fits db c.args.asked.now.query ≡ false = cc (c.in_ok-query_fits.ensures.known db (c.in_ok-reads_fit.ensures.stays db h), c.if-not-branch-2.true) in
    goes_on (reads_fit (kept_alone db) db c.args.asked.now.query) _ false reads (stops (query_fits db c.args.asked.now.query) _ false no refl)

pub returns-then-not-branch-3-clause-known : goal.returns-then-not-branch-3-clause-known
unfolding asked_fits
returns-then-not-branch-3-clause-known g c = λ db h.
    let q = c.args.asked.now.query in
    let reads : reads_fit (kept_alone db) db q ≡ true = cc (c.in_ok-reads_fit.ensures.known db h, c.if-not-branch.false) in
    let fits : query_fits db q ≡ true = cc (c.in_ok-query_fits.ensures.known db (c.in_ok-reads_fit.ensures.stays db h), c.if-not-branch-2.false) in
    let little = c.in_ok-expands_little.ensures.known db (c.in_ok-query_fits.ensures.stays db (c.in_ok-reads_fit.ensures.stays db h)) (few_listed db q reads) (few_in_sources db q reads) in
    let no : nat_le (expanded_variables db q) 50 ≡ false = cc (little, c.if-not-branch-3.true) in
    goes_on (reads_fit (kept_alone db) db q) _ false reads (goes_on (query_fits db q) _ false fits (stops (nat_le (expanded_variables db q) 50) _ false no refl))

pub returns-clause-known : goal.returns-clause-known
unfolding asked_fits
returns-clause-known g c = λ db h.
    let q = c.args.asked.now.query in
    let reads : reads_fit (kept_alone db) db q ≡ true = cc (c.in_ok-reads_fit.ensures.known db h, c.if-not-branch.false) in
    let fits : query_fits db q ≡ true = cc (c.in_ok-query_fits.ensures.known db (c.in_ok-reads_fit.ensures.stays db h), c.if-not-branch-2.false) in
    let little = c.in_ok-expands_little.ensures.known db (c.in_ok-query_fits.ensures.stays db (c.in_ok-reads_fit.ensures.stays db h)) (few_listed db q reads) (few_in_sources db q reads) in
    let few : nat_le (expanded_variables db q) 50 ≡ true = cc (little, c.if-not-branch-3.false) in
    goes_on (reads_fit (kept_alone db) db q) _ _ reads (goes_on (query_fits db q) _ _ fits (goes_on (nat_le (expanded_variables db q) 50) _ _ few c.sort_is_in_range.ensures))
