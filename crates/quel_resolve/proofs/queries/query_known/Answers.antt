use Rattle.std.proofs.Common.{◌≡◌, Some, sym, ap, ◌∙◌, subst, map, true, false, Vec, Global, arith}
use Rattle.std.specs.Option.{option_map}
use Rattle.calculus.specs.declared.schema.RelInfo.{RelInfo}
use Rattle.quel_meaning.specs.Scope.{ranged}
use Rattle.quel_names.proofs.Inner.{inner_vars_range}
use Rattle.quel_names.specs.Asking.{scope_of}
use Rattle.quel_names.specs.Ranging.{AreOver, each_ranges}
use Rattle.quel_resolve.proofs.Overs.{knows}
use Rattle.quel_resolve.proofs.queries.query_known.Goals as goal

pub returns-in_ok-query-in-Some-clause-known : goal.returns-in_ok-query-in-Some-clause-known
returns-in_ok-query-in-Some-clause-known g c = λ db user h names a mine inside few over.
    let within : map (ranged (scope_of db user c.args.ranges.now)) c.args.inner.now ≡ map (λ info. Some info) c.in-Some.inner_infos.items =
    subst (λ o. AreOver (scope_of db user c.args.ranges.now) c.args.inner.now (option_map (λ (v : Vec RelInfo Global). v.items) o)) c.in-Some.is (c.in_ok-inner_infos.ensures.known db user h) in
    c.in_ok-query-in-Some.ensures.known (scope_of db user c.args.ranges.now) (c.in_ok-inner_infos.ensures.stays _ h) mine inside
    (knows (scope_of db user c.args.ranges.now) (g.B.Base.lawful c.args.base.now db h) c.args.vars.now c.args.infos.now over (omega (arith, few)))
    (knows (scope_of db user c.args.ranges.now) (g.B.Base.lawful c.args.base.now db h) c.args.inner.now c.deref.result.now (within ∙ ap (map (λ info. Some info)) (sym c.deref.ensures.value)) (omega (arith, few)))
    a

pub returns-in-None-clause-known : goal.returns-in-None-clause-known
returns-in-None-clause-known g c = λ db user h names a mine inside few over.
    let lost : each_ranges (scope_of db user c.args.ranges.now) c.args.inner.now ≡ false =
    subst (λ o. AreOver (scope_of db user c.args.ranges.now) c.args.inner.now (option_map (λ (v : Vec RelInfo Global). v.items) o)) c.in-None.is (c.in_ok-inner_infos.ensures.known db user h) in
    let all : each_ranges (scope_of db user c.args.ranges.now) c.args.inner.now ≡ true =
    ap (each_ranges (scope_of db user c.args.ranges.now)) inside ∙ inner_vars_range (scope_of db user c.args.ranges.now) c.args.s.now names in
    absurd (cc (lost, all))
