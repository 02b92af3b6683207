use Rattle.std.proofs.Common.{◌≡◌, refl, ◌∙◌, subst, Bool, true, false, IfOk}
use Rattle.change_check.proofs.BySchema.{always}
use Rattle.change_check.proofs.RowsFit.{moves, stand, not_moved, not_standing, by_number}
use Rattle.change_check.proofs.rows.rows_have_parts.Goals as goal

pub returns-then-not-branch-clause-known : goal.returns-then-not-branch-clause-known
returns-then-not-branch-clause-known g c = λ db e there attrs.
    let moved : moves db c.args.rel.now c.args.remove.now c.args.add.now ≡ false = cc (c.in_ok-rows_move.ensures.known db e, c.if-not-branch.true) in
    not_moved db c.args.rel.now c.args.remove.now c.args.add.now there moved

pub returns-then-not-branch-2-clause-known : goal.returns-then-not-branch-2-clause-known
returns-then-not-branch-2-clause-known g c = λ db e there attrs.
    let moved : moves db c.args.rel.now c.args.remove.now c.args.add.now ≡ true = cc (c.in_ok-rows_move.ensures.known db e, c.if-not-branch.false) in
    let stands : stand c.args.attrs.now c.args.remove.now c.args.add.now ≡ false = cc (c.in_ok-lists_stand.ensures, c.if-not-branch-2.true) in
    not_standing db c.args.rel.now _ c.args.remove.now c.args.add.now there moved attrs stands

pub returns-clause-known : goal.returns-clause-known
returns-clause-known g c = λ db e there attrs.
    let moved : moves db c.args.rel.now c.args.remove.now c.args.add.now ≡ true = cc (c.in_ok-rows_move.ensures.known db e, c.if-not-branch.false) in
    let stands : stand c.args.attrs.now c.args.remove.now c.args.add.now ≡ true = cc (c.in_ok-lists_stand.ensures, c.if-not-branch-2.false) in
    subst (λ (b : Bool). IfOk c.few_stay.result (λ fit. fit ≡ b)) (by_number db c.args.rel.now _ c.args.remove.now c.args.add.now _ there moved attrs stands refl)
    (c.few_stay.ensures.known db (c.rows_move.ensures.kept ∙ e))

pub returns-clause-stand : goal.returns-clause-stand
returns-clause-stand g c =
    let stands : stand c.args.attrs.now c.args.remove.now c.args.add.now ≡ true = cc (c.in_ok-lists_stand.ensures, c.if-not-branch-2.false) in
    always c.few_stay.result stands
