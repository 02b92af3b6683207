use Rattle.std.proofs.Common.{◌≡◌, ◌||◌, ◌≤◌, ◌∙◌, ap, false, length, nat_lt, not, subst, sym}
use Rattle.std.proofs.lemmas.Bool.{le-ltb}
use Rattle.calculus.specs.QueryParts.{qual_of, vars_of}
use Rattle.calculus.specs.Storable.{row_qual_is_small}
use Rattle.ovqp.proofs.Parts.{qual_is}
use Rattle.view_sizes.proofs.Counting.{vars_is}
use Rattle.quel_refusals.proofs.Stored.{small_of}
use Rattle.quel_refusals.proofs.restricted.is_past_row.Goals as goal

pub returns-else-items-gt1 : goal.returns-else-items-gt1
returns-else-items-gt1 c = λ none.
    let few : length (vars_of c.args.q.now) ≤ 1 = subst (λ vs. length vs ≤ 1) (c.items.ensures ∙ vars_is c.args.q.now) c.if-items-gt1.false in
    let one : nat_lt 1 (length (vars_of c.args.q.now)) ≡ false = le-ltb _ _ few in
    ap not (small_of c.args.q.now c.qual_is_small.result _ (qual_is c.args.q.now) none c.qual_is_small.ensures) ∙ ap (λ b. b || not (row_qual_is_small (qual_of c.args.q.now))) (sym one)
