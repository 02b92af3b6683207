use Rattle.std.proofs.Common.{◌≡◌, ◌∙◌, ap, sym, subst, true, false, ◌&&◌, nat_lt, length, Bool, List, ℕ}
use Rattle.std.specs.Prelude.{IfOk}
use Rattle.std.specs.List.{list_all}
use Rattle.calculus.specs.Database.{Db}
use Rattle.calculus.specs.declared.query.RelKey.{RelKey}
use Rattle.calculus.specs.IsDatabase.{valid_row_qual}
use Rattle.calculus.specs.Storable.{row_qual_is_storable}
use Rattle.calculus.specs.Stored.{kinds_at}
use Rattle.change_check.proofs.permits.permit_covers.Goals as goal

abbrev listed : Db → RelKey → List ℕ → Bool
listed db rel attrs = list_all (λ a. nat_lt a (length (kinds_at db rel))) attrs

pub returns-then-not-branch-clause-known : goal.returns-then-not-branch-clause-known
returns-then-not-branch-clause-known g c = λ db h.
    let no : c.in_ok-attrs_are_places.field-0 ≡ false = cc (c.if-not-branch.true) in
    let none : false ≡ listed db c.args.rel.now c.args.permit.now.attrs =
    sym no ∙ c.in_ok-attrs_are_places.ensures.known db h ∙ ap (listed db c.args.rel.now) c.items.ensures in
    ap (λ b. b && (valid_row_qual db c.args.rel.now c.args.permit.now.qual && row_qual_is_storable c.args.permit.now.qual)) none

pub returns-clause-known : goal.returns-clause-known
returns-clause-known g c = λ db h.
    let yes : c.in_ok-attrs_are_places.field-0 ≡ true = cc (c.if-not-branch.false) in
    let all : true ≡ listed db c.args.rel.now c.args.permit.now.attrs =
    sym yes ∙ c.in_ok-attrs_are_places.ensures.known db h ∙ ap (listed db c.args.rel.now) c.items.ensures in
    subst (λ (b : Bool). IfOk c.row_qual_is_fit.result (λ fit. fit ≡ b))
    (ap (λ b. b && (valid_row_qual db c.args.rel.now c.args.permit.now.qual && row_qual_is_storable c.args.permit.now.qual)) all)
    (c.row_qual_is_fit.ensures.known db (c.in_ok-attrs_are_places.ensures.stays db h))
