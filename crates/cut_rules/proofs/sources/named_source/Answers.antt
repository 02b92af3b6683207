use Rattle.std.proofs.Common.{◌≡◌, sym, ◌∙◌, subst, true, false, IfOk, OnOk, option_map}
use Rattle.std.specs.Option.{option_to_list}
use Rattle.calculus.specs.Permission.{permitted_within, readable, vars_permitted}
use Rattle.calculus.specs.Rights.{Retrieve, permitted}
use Rattle.calculus.specs.Used.{used_vars}
use Rattle.view_expand.specs.Asking.{who_of}
use Rattle.view_expand.proofs.Causing.{caused_behind}
use Rattle.view_expand.proofs.Viewing.{few_listed}
use Rattle.cut_rules.proofs.Ranging.{restriction_of_kept, restriction_of_view, few_of_view, readable_of_kept, readable_of_view, source_of_kept, source_of_view}
use Rattle.cut_rules.proofs.sources.named_source.Goals as goal

pub rows_source-made-requires-clause-listed : goal.rows_source-made-requires-clause-listed
rows_source-made-requires-clause-listed g c = λ db h.
    let k = sym c.in_ok-query.ensures.kept ∙ h in
    few_listed db (g.B.Base.lawful c.args.base.now db (g.B.Base.own c.args.base.now db k)) c.args.key.now c.in-Some.query (sym c.in-Some.is ∙ c.in_ok-query.ensures.known db (g.B.Base.own c.args.base.now db k))

pub rows_source-made-requires-clause-expanded : goal.rows_source-made-requires-clause-expanded
rows_source-made-requires-clause-expanded g c = λ db h.
    let k = sym c.in_ok-query.ensures.kept ∙ h in
    few_of_view db (g.B.Base.lawful c.args.base.now db (g.B.Base.own c.args.base.now db k)) c.args.key.now c.in-Some.query (sym c.in-Some.is ∙ c.in_ok-query.ensures.known db (g.B.Base.own c.args.base.now db k)) (c.requires.few db k)

pub returns-in-Some-clause-known : goal.returns-in-Some-clause-known
returns-in-Some-clause-known g c = λ db h.
    let e = source_of_view db (g.B.Base.lawful c.args.base.now db (g.B.Base.own c.args.base.now db h)) (who_of (option_map (λ n. n.now) c.args.who)) c.args.key.now c.in-Some.query (sym c.in-Some.is ∙ c.in_ok-query.ensures.known db (g.B.Base.own c.args.base.now db h)) in
    subst (λ x. IfOk c.rows_source-made.result (λ made. made.0 ≡ x)) e (c.rows_source-made.ensures.known db (c.in_ok-query.ensures.kept ∙ h))

pub returns-in-Some-clause-cuts : goal.returns-in-Some-clause-cuts
returns-in-Some-clause-cuts g c = λ db h.
    let e = restriction_of_view db (g.B.Base.lawful c.args.base.now db (g.B.Base.own c.args.base.now db h)) (who_of (option_map (λ n. n.now) c.args.who)) c.args.attrs.now c.args.key.now c.in-Some.query (sym c.in-Some.is ∙ c.in_ok-query.ensures.known db (g.B.Base.own c.args.base.now db h)) in
    subst (λ x. IfOk c.rows_source-made.result (λ made. option_to_list made.1 ≡ x)) e c.rows_source-made.ensures.unrestricted

pub returns-in-Some-clause-permitted : goal.returns-in-Some-clause-permitted
returns-in-Some-clause-permitted g c = λ db h.
    let e = readable_of_view db (g.B.Base.lawful c.args.base.now db (g.B.Base.own c.args.base.now db h)) (who_of (option_map (λ n. n.now) c.args.who)) c.args.key.now c.args.attrs.now c.in-Some.query (sym c.in-Some.is ∙ c.in_ok-query.ensures.known db (g.B.Base.own c.args.base.now db h)) in
    subst (λ b. OnOk c.rows_source-made.result (b ≡ true)) e (c.rows_source-made.ensures.permitted db (c.in_ok-query.ensures.kept ∙ h))

pub returns-in-Some-clause-cause : goal.returns-in-Some-clause-cause
returns-in-Some-clause-cause g c =
    caused_behind (λ db. vars_permitted (permitted_within 15 db (who_of (option_map (λ n. n.now) c.args.who))) c.in-Some.query (used_vars c.in-Some.query) ≡ false)
    (λ db. readable db (who_of (option_map (λ n. n.now) c.args.who)) c.args.key.now c.args.attrs.now ≡ false)
    (g.B.Base.database c.args.base.now) (g.B.Base.database c.view.new.self) (g.B.Base.faults c.args.base.now) (g.B.Base.faults c.view.new.self) (g.B.Base.faults c.rows_source-made.new.base) c.rows_source-made.result
    c.in_ok-query.ensures.kept c.in_ok-query.ensures.cause.caused
    (λ db h e. sym (readable_of_view db (g.B.Base.lawful c.args.base.now db (g.B.Base.own c.args.base.now db h)) (who_of (option_map (λ n. n.now) c.args.who)) c.args.key.now c.args.attrs.now c.in-Some.query (sym c.in-Some.is ∙ c.in_ok-query.ensures.known db (g.B.Base.own c.args.base.now db h))) ∙ e)
    c.rows_source-made.ensures.cause

pub returns-in-None-clause-known : goal.returns-in-None-clause-known
returns-in-None-clause-known g c = λ db h.
    let e = source_of_kept db (who_of (option_map (λ n. n.now) c.args.who)) c.args.key.now (sym c.in-None.is ∙ c.in_ok-query.ensures.known db (g.B.Base.own c.args.base.now db h)) in
    subst (λ x. IfOk c.kept_source.result (λ made. made.0 ≡ x)) e c.kept_source.ensures.named

pub returns-in-None-clause-cuts : goal.returns-in-None-clause-cuts
returns-in-None-clause-cuts g c = λ db h.
    let e = restriction_of_kept db (who_of (option_map (λ n. n.now) c.args.who)) c.args.attrs.now c.args.key.now (sym c.in-None.is ∙ c.in_ok-query.ensures.known db (g.B.Base.own c.args.base.now db h)) in
    subst (λ x. IfOk c.kept_source.result (λ made. option_to_list made.1 ≡ x)) e (c.kept_source.ensures.known db (c.in_ok-query.ensures.kept ∙ h))

pub returns-in-None-clause-permitted : goal.returns-in-None-clause-permitted
returns-in-None-clause-permitted g c = λ db h.
    let e = readable_of_kept db (who_of (option_map (λ n. n.now) c.args.who)) c.args.key.now c.args.attrs.now (sym c.in-None.is ∙ c.in_ok-query.ensures.known db (g.B.Base.own c.args.base.now db h)) in
    subst (λ b. OnOk c.kept_source.result (b ≡ true)) e (c.kept_source.ensures.permitted db (c.in_ok-query.ensures.kept ∙ h))

pub returns-in-None-clause-cause : goal.returns-in-None-clause-cause
returns-in-None-clause-cause g c =
    caused_behind (λ db. permitted db (who_of (option_map (λ n. n.now) c.args.who)) Retrieve c.args.attrs.now c.args.key.now ≡ false)
    (λ db. readable db (who_of (option_map (λ n. n.now) c.args.who)) c.args.key.now c.args.attrs.now ≡ false)
    (g.B.Base.database c.args.base.now) (g.B.Base.database c.view.new.self) (g.B.Base.faults c.args.base.now) (g.B.Base.faults c.view.new.self) (g.B.Base.faults c.kept_source.new.base) c.kept_source.result
    c.in_ok-query.ensures.kept c.in_ok-query.ensures.cause.caused
    (λ db h e. sym (readable_of_kept db (who_of (option_map (λ n. n.now) c.args.who)) c.args.key.now c.args.attrs.now (sym c.in-None.is ∙ c.in_ok-query.ensures.known db (g.B.Base.own c.args.base.now db h))) ∙ e)
    c.kept_source.ensures.cause
