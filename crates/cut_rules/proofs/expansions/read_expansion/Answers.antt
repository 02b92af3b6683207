use Rattle.std.proofs.Common.{refl, option_map}
use Rattle.calculus.specs.Lists.{is_any}
use Rattle.calculus.specs.Permission.{permitted_within, readable}
use Rattle.calculus.specs.Used.{used_in_query}
use Rattle.view_expand.specs.Asking.{who_of}
use Rattle.view_text.specs.ExpansionOf.{expansion_of}
use Rattle.cut_rules.proofs.Causing.{failed_as}
use Rattle.cut_rules.proofs.Fitting.{small_there}
use Rattle.cut_rules.proofs.Refusing.{passed, used_refused}
use Rattle.cut_rules.proofs.expansions.read_expansion.Goals as goal

pub expansion_at-requires-clause-few : goal.expansion_at-requires-clause-few
expansion_at-requires-clause-few g c = λ db h used. small_there db c.args.query.now c.args.place c.args.key.now (c.requires.small db h) used

pub returns-in-Ok-clause-known : goal.returns-in-Ok-clause-known
unfolding expansion_of
returns-in-Ok-clause-known g c = λ db h. c.in-Ok.ensures.known db h

pub returns-in-Ok-clause-permitted : goal.returns-in-Ok-clause-permitted
unfolding readable
returns-in-Ok-clause-permitted g c = λ db h.
    passed (is_any (used_in_query c.args.place c.args.query.now)) (permitted_within 16 db (who_of (option_map (λ n. n.now) c.args.who)) c.args.key.now (used_in_query c.args.place c.args.query.now)) (c.in-Ok.ensures.permitted db h)

pub returns-in-Err-clause-cause : goal.returns-in-Err-clause-cause
unfolding readable
returns-in-Err-clause-cause g c =
    failed_as _ _ _ _ _ _ _ _ c.in-Err.ensures.cause c.fault_at.ensures (λ db h r.
    (refl, used_refused (is_any (used_in_query c.args.place c.args.query.now)) (permitted_within 16 db (who_of (option_map (λ n. n.now) c.args.who)) c.args.key.now (used_in_query c.args.place c.args.query.now)) r.0 r.1))
