use Rattle.std.proofs.Common.{◌≡◌, ◌∙◌, ap, sym, true, ◌&&◌}
use Rattle.calculus.specs.IsDatabase.{valid_row_qual}
use Rattle.calculus.specs.Storable.{row_qual_is_storable}
use Rattle.change_check.proofs.Numbered.{qual_none}
use Rattle.change_check.proofs.permits.row_qual_is_fit.Goals as goal

pub returns-clause-known : goal.returns-clause-known
returns-clause-known g c = λ db h.
    let stands : valid_row_qual db c.args.rel.now c.args.qual.now ≡ true =
    cc (c.in_ok-valid_row_qual.ensures.known db h, c.if-not-branch.false) in
    c.is_storable.ensures (qual_none db c.args.rel.now c.args.qual.now stands) ∙ ap (λ b. b && row_qual_is_storable c.args.qual.now) (sym stands)
