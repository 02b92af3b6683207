use Rattle.std.proofs.Common.{◌≡◌, refl, sym, ◌∙◌, subst, Bool, true, false, map, vec_items}
use Rattle.std.specs.Prelude.{IfOk}
use Rattle.ovqp.proofs.Parts.{qual_is, targets_is}
use Rattle.quel_refusals.proofs.Fits.{fitted, goes_on, stops}
use Rattle.quel_refusals.proofs.fitting.fits_over.Goals as goal

pub returns-then-not-fit-clause-known : goal.returns-then-not-fit-clause-known
returns-then-not-fit-clause-known g c = λ db h k.
    let no : c.in_ok-fit.fit ≡ false = cc (c.if-not-fit.true) in
    stops _ _ false (sym (c.in_ok-fit.ensures.known db h) ∙ no) refl
    ∙ fitted db c.args.q.now (map vec_items c.args.vars.now) c.items.result.now _ (c.items.ensures ∙ targets_is c.args.q.now) (qual_is c.args.q.now) k

pub returns-clause-known : goal.returns-clause-known
returns-clause-known g c = λ db h k.
    let yes : c.in_ok-fit.fit ≡ true = cc (c.if-not-fit.false) in
    subst (λ (b : Bool). IfOk c.kinds_fit_in_query.result (λ fit. fit ≡ b))
    (goes_on _ _ _ (sym (c.in_ok-fit.ensures.known db h) ∙ yes) refl
    ∙ fitted db c.args.q.now (map vec_items c.args.vars.now) c.items.result.now _ (c.items.ensures ∙ targets_is c.args.q.now) (qual_is c.args.q.now) k)
    (c.kinds_fit_in_query.ensures.known db (c.in_ok-fit.ensures.stays _ h))
