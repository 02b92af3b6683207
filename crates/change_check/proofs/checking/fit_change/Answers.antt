use Rattle.std.proofs.Common.{◌≡◌, sym, ◌∙◌, subst, Bool, true}
use Rattle.std.specs.Prelude.{◌↔◌}
use Rattle.calculus.specs.Change.{IsLawful}
use Rattle.change_laws.proofs.Exactly.{fits_exactly}
use Rattle.change_check.proofs.BySchema.{known_before}
use Rattle.change_check.proofs.checking.fit_change.Goals as goal

pub returns-clause-known : goal.returns-clause-known
returns-clause-known g c = λ db e.
    subst (λ (b : Bool). (b ≡ true) ↔ IsLawful db c.args.change.now) (sym (c.in_ok-fit.ensures.known db (c.in_ok-_entries.ensures.kept ∙ e)))
    (fits_exactly db c.args.change.now (g.B.Base.lawful c.args.base.now db (g.B.Base.own c.args.base.now db e)))

pub returns-clause-by_schema : goal.returns-clause-by_schema
returns-clause-by_schema g c = λ fixes s h no.
    let known = known_before _ _ (c.in_ok-_entries.ensures.fixed fixes) c.in_ok-fit.ensures.stays s h in
    subst (λ (b : Bool). (b ≡ true) ↔ IsLawful s c.args.change.now) (sym (c.in_ok-fit.ensures.by_schema s known no))
    (fits_exactly s c.args.change.now (g.B.Base.lawful _ s h))

pub returns-clause-rows_by_schema : goal.returns-clause-rows_by_schema
returns-clause-rows_by_schema g c = λ fixes s h.
    c.in_ok-fit.ensures.rows_by_schema s (known_before _ _ (c.in_ok-_entries.ensures.fixed fixes) c.in_ok-fit.ensures.stays s h)
