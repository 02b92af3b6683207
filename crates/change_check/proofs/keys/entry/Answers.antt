use Rattle.std.proofs.Common.{◌≡◌, ◌∙◌, sym, subst, Option}
use Rattle.std.specs.Prelude.{IfOk}
use Rattle.calculus.specs.declared.schema.RelInfo.{RelInfo}
use Rattle.change_check.proofs.Entries.{entry_known, entry_none}
use Rattle.change_check.proofs.keys.entry.Goals as goal

pub returns-then-is_catalogue_name-clause-known : goal.returns-then-is_catalogue_name-clause-known
returns-then-is_catalogue_name-clause-known g c = λ db h.
    entry_none db (g.B.Base.lawful c.args.base.now db h) c.args.key.now (sym c.is_catalogue_name.ensures ∙ c.if-is_catalogue_name.true)

pub returns-clause-known : goal.returns-clause-known
returns-clause-known g c = λ db h.
    subst (λ (o : Option RelInfo). IfOk c.info.result (λ info. info ≡ o)) (entry_known db c.args.key.now (sym c.is_catalogue_name.ensures ∙ c.if-is_catalogue_name.false))
    (c.info.ensures.known db h)
