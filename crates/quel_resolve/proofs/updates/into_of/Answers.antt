use Rattle.std.proofs.Common.{◌≤◌, ℕ, length, map, sym, ap, ◌∙◌, subst, []}
use Rattle.std.specs.List.{enumerate_from}
use Rattle.std.proofs.lemmas.Result.{IfOk-at_ok}
use Rattle.calculus.specs.Keys.{key_of}
use Rattle.calculus.specs.declared.query.QQual.{True}
use Rattle.calculus.specs.declared.query.Target.{Target}
use Rattle.calculus.specs.declared.request.UpdateOp.TheVariants as op
use Rattle.quel_meaning.specs.StatementUpdate.{into_of}
use Rattle.quel_resolve.proofs.Updating.{targets_is}
use Rattle.quel_resolve.proofs.updates.into_of.Goals as goal

pub returns : goal.returns
unfolding into_of
returns c = λ scope user few.
    let parts = c.in_ok-rel.ensures.0 in
    let rel = IfOk-at_ok _ (IfOk-at_ok _ parts c.both-parts.ensures.first) c.key_of.ensures ∙ ap (λ owner. key_of owner c.args.name.now) (sym user) in
    let found = IfOk-at_ok _ (IfOk-at_ok _ parts c.both-parts.ensures.second) c.places_in_order-places.ensures in
    let are = c.items.ensures ∙ targets_is c.args.q in
    let places =
    found (subst (λ ts. length ts ≤ 256) (sym are) few)
    ∙ ap (λ ts. map (λ (p : ℕ × Target). p.0) (enumerate_from 0 ts)) are in
    c.update.ensures ∙ (λ i. record { op = op.Into; rel = rel i; old = 255; places = places i; query = sym c.in_ok-rel.ensures.1 i; checks = []; new_cut = True })
