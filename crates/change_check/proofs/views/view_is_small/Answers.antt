use Rattle.std.proofs.Common.{◌≡◌, refl, sym, ◌∙◌, ◌≤◌, arith, nat_le, true, false, length}
use Rattle.std.proofs.lemmas.Bool.{leb-true}
use Rattle.calculus.specs.QueryParts.{vars_of}
use Rattle.calculus.specs.Sizes.{variables}
use Rattle.calculus.specs.Storable.{query_is_storable}
use Rattle.change_check.proofs.ViewParts.{lists_many, uses_many, then_small}
use Rattle.change_check.proofs.views.view_is_small.Goals as goal

pub returns-then-not-lists_few-clause-known : goal.returns-then-not-lists_few-clause-known
returns-then-not-lists_few-clause-known g c = λ db h none.
    let many : nat_le (length (vars_of c.args.query.now)) 50 ≡ false = cc (c.lists_few.ensures, c.if-not-lists_few.true) in
    lists_many db c.args.query.now many

pub returns-then-not-uses_few-clause-known : goal.returns-then-not-uses_few-clause-known
returns-then-not-uses_few-clause-known g c = λ db h none.
    let few : nat_le (length (vars_of c.args.query.now)) 50 ≡ true = cc (c.lists_few.ensures, c.if-not-lists_few.false) in
    let listed : length (vars_of c.args.query.now) ≤ 50 = leb-true _ _ few in
    let used = c.uses_few.ensures (omega (arith, listed)) none in
    let many : nat_le (variables c.args.query.now) 10 ≡ false = cc (used, c.if-not-uses_few.true) in
    uses_many db c.args.query.now few many

pub returns-then-fits-clause-known : goal.returns-then-fits-clause-known
returns-then-fits-clause-known g c = λ db h none.
    let few : nat_le (length (vars_of c.args.query.now)) 50 ≡ true = cc (c.lists_few.ensures, c.if-not-lists_few.false) in
    let listed : length (vars_of c.args.query.now) ≤ 50 = leb-true _ _ few in
    let used = c.uses_few.ensures (omega (arith, listed)) none in
    let little : nat_le (variables c.args.query.now) 10 ≡ true = cc (used, c.if-not-uses_few.false) in
    then_small db c.args.query.now true c.can_be_stored.result few little (sym c.if-fits.true ∙ c.in_ok-fits.ensures.known db h (omega (arith, listed)) none) (c.can_be_stored.ensures none)

pub returns-else-fits-clause-known : goal.returns-else-fits-clause-known
returns-else-fits-clause-known g c = λ db h none.
    let few : nat_le (length (vars_of c.args.query.now)) 50 ≡ true = cc (c.lists_few.ensures, c.if-not-lists_few.false) in
    let listed : length (vars_of c.args.query.now) ≤ 50 = leb-true _ _ few in
    let used = c.uses_few.ensures (omega (arith, listed)) none in
    let little : nat_le (variables c.args.query.now) 10 ≡ true = cc (used, c.if-not-uses_few.false) in
    c.if-fits.false
    ∙ then_small db c.args.query.now false (query_is_storable c.args.query.now) few little (sym c.if-fits.false ∙ c.in_ok-fits.ensures.known db h (omega (arith, listed)) none) refl
