use Rattle.std.proofs.Common.{◌≡◌, Some, sym, ap, ◌∙◌, subst, map, true, false, Vec, Global}
use Rattle.std.specs.Option.{option_map}
use Rattle.calculus.specs.declared.schema.RelInfo.{RelInfo}
use Rattle.quel_meaning.specs.Scope.{ranged}
use Rattle.quel_names.proofs.Overs.{named_vars_range}
use Rattle.quel_names.specs.Asking.{scope_of}
use Rattle.quel_names.specs.Ranging.{AreOver, each_ranges}
use Rattle.quel_resolve.proofs.queries.query_over.Goals as goal

pub returns-in-Some-clause-known : goal.returns-in-Some-clause-known
returns-in-Some-clause-known g c = λ db user h names a mine inside few.
    let over : map (ranged (scope_of db user c.args.ranges.now)) c.args.vars.now ≡ map (λ info. Some info) c.in-Some.infos.items =
    subst (λ o. AreOver (scope_of db user c.args.ranges.now) c.args.vars.now (option_map (λ (v : Vec RelInfo Global). v.items) o)) c.in-Some.is (c.in_ok-infos.ensures.known db user h) in
    c.query_known-query.ensures.known db user (c.in_ok-infos.ensures.stays _ h) names a mine inside few (over ∙ ap (map (λ info. Some info)) (sym c.deref.ensures.value))

pub returns-in-None-clause-known : goal.returns-in-None-clause-known
returns-in-None-clause-known g c = λ db user h names a mine inside few.
    let lost : each_ranges (scope_of db user c.args.ranges.now) c.args.vars.now ≡ false =
    subst (λ o. AreOver (scope_of db user c.args.ranges.now) c.args.vars.now (option_map (λ (v : Vec RelInfo Global). v.items) o)) c.in-None.is (c.in_ok-infos.ensures.known db user h) in
    let all : each_ranges (scope_of db user c.args.ranges.now) c.args.vars.now ≡ true =
    ap (each_ranges (scope_of db user c.args.ranges.now)) mine ∙ named_vars_range (scope_of db user c.args.ranges.now) c.args.s.now names in
    absurd (cc (lost, all))
