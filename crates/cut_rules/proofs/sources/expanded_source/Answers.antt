use Rattle.std.proofs.Common.{◌≡◌, refl, sym, ap, ◌∙◌, subst, ◌≤◌, true, false, length, IfOk, OnOk, option_map}
use Rattle.std.specs.Option.{option_to_list}
use Rattle.calculus.specs.Permission.{permitted_within, readable, source_permitted, vars_permitted}
use Rattle.calculus.specs.QueryParts.{vars_of}
use Rattle.calculus.specs.Sizes.{measure_within, query_measure}
use Rattle.calculus.specs.Used.{used_vars}
use Rattle.quel_meaning.specs.FitQueries.{kept_or_viewed, source_fits}
use Rattle.view_expand.specs.Asking.{who_of}
use Rattle.view_expand.specs.Causes.{HasCause}
use Rattle.view_expand.proofs.Causing.{caused_behind}
use Rattle.cut_rules.proofs.Ranging.{named_few, rows_restriction, rows_few, rows_listed, rows_put, rows_readable}
use Rattle.cut_rules.proofs.sources.expanded_source.Goals as goal

pub named_source-requires-clause-few : goal.named_source-requires-clause-few
named_source-requires-clause-few g c = λ db h. named_few db c.in-Named.key (sym (ap (source_fits (kept_or_viewed db) db) c.in-Named.is) ∙ c.requires.fits db h)

pub rows_source-requires-clause-listed : goal.rows_source-requires-clause-listed
rows_source-requires-clause-listed g c = λ db h.
    subst (λ q. length (vars_of q) ≤ 256) (sym c.get.ensures) (rows_listed db c.in-Rows.query (sym (ap (source_fits (kept_or_viewed db) db) c.in-Rows.is) ∙ c.requires.fits db h))

pub rows_source-requires-clause-expanded : goal.rows_source-requires-clause-expanded
rows_source-requires-clause-expanded g c = λ db h.
    subst (λ q. (query_measure (measure_within 16 db) q).variables ≤ 256) (sym c.get.ensures) (rows_few db c.in-Rows.query (sym (ap (source_fits (kept_or_viewed db) db) c.in-Rows.is) ∙ c.requires.fits db h))

pub returns-in-Named-clause-permitted : goal.returns-in-Named-clause-permitted
returns-in-Named-clause-permitted g c = λ db h.
    subst (λ source. OnOk c.named_source.result (source_permitted (readable db (who_of (option_map (λ n. n.now) c.args.who))) c.args.attrs.now source ≡ true)) (sym c.in-Named.is) (c.named_source.ensures.permitted db h)

pub returns-in-Named-clause-cause : goal.returns-in-Named-clause-cause
returns-in-Named-clause-cause g c =
    subst (λ source. HasCause (λ db. source_permitted (readable db (who_of (option_map (λ n. n.now) c.args.who))) c.args.attrs.now source ≡ false)
    (g.B.Base.database c.args.base.now) (g.B.Base.faults c.args.base.now) (g.B.Base.faults c.named_source.new.base) c.named_source.result)
    (sym c.in-Named.is) c.named_source.ensures.cause

pub returns-in-Rows-clause-known : goal.returns-in-Rows-clause-known
returns-in-Rows-clause-known g c = λ db h.
    subst (λ x. IfOk c.rows_source.result (λ made. made.0 ≡ x))
    (rows_put db (who_of (option_map (λ n. n.now) c.args.who)) c.args.source.now c.in-Rows.query c.get.result.now c.in-Rows.is c.get.ensures) (c.rows_source.ensures.known db h)

pub returns-in-Rows-clause-cuts : goal.returns-in-Rows-clause-cuts
returns-in-Rows-clause-cuts g c = λ db h.
    subst (λ x. IfOk c.rows_source.result (λ made. option_to_list made.1 ≡ x))
    (rows_restriction db (who_of (option_map (λ n. n.now) c.args.who)) c.args.attrs.now c.args.source.now c.in-Rows.query c.in-Rows.is) c.rows_source.ensures.unrestricted

pub returns-in-Rows-clause-permitted : goal.returns-in-Rows-clause-permitted
returns-in-Rows-clause-permitted g c = λ db h.
    subst (λ b. OnOk c.rows_source.result (b ≡ true))
    (rows_readable db (who_of (option_map (λ n. n.now) c.args.who)) c.args.attrs.now c.args.source.now c.in-Rows.query c.get.result.now c.in-Rows.is c.get.ensures) (c.rows_source.ensures.permitted db h)

pub returns-in-Rows-clause-cause : goal.returns-in-Rows-clause-cause
returns-in-Rows-clause-cause g c =
    caused_behind (λ db. vars_permitted (permitted_within 16 db (who_of (option_map (λ n. n.now) c.args.who))) c.get.result.now (used_vars c.get.result.now) ≡ false)
    (λ db. source_permitted (readable db (who_of (option_map (λ n. n.now) c.args.who))) c.args.attrs.now c.args.source.now ≡ false)
    (g.B.Base.database c.args.base.now) (g.B.Base.database c.args.base.now) (g.B.Base.faults c.args.base.now) (g.B.Base.faults c.args.base.now) (g.B.Base.faults c.rows_source.new.base) c.rows_source.result
    refl refl
    (λ db h e. sym (rows_readable db (who_of (option_map (λ n. n.now) c.args.who)) c.args.attrs.now c.args.source.now c.in-Rows.query c.get.result.now c.in-Rows.is c.get.ensures) ∙ e)
    c.rows_source.ensures.cause
