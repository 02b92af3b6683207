use Rattle.std.proofs.Common.{◌∙◌, sym, ap}
use Rattle.std.specs.Option.{option_map}
use Rattle.catalog_read.specs.Read.{catalogue_of, catalogue_shown}
use Rattle.catalog.proofs.LiesLoaded.{dba_made, lies_made, none_made_so}
use Rattle.catalog.proofs.ReadRows.{known_made, none_read, rows_are_a_catalogue}
use Rattle.catalog.proofs.loading.made.Goals as goal

pub catalog_of-requires : goal.catalog_of-requires
catalog_of-requires c = rows_are_a_catalogue _ _ _ (catalogue_shown c.in-Some.rows) (sym c.in_ok-rows.ensures ∙ ap (option_map catalogue_shown) c.in-Some.is)

pub returns-in-Some-clause-known : goal.returns-in-Some-clause-known
returns-in-Some-clause-known c m db found h =
    known_made c.args.dba m db c.args.chains.now (catalogue_shown c.in-Some.rows) c.catalog_of.result (sym (λ i. catalogue_of (c.items.ensures i) (c.items-2.ensures i) (c.items-3.ensures i)) ∙ sym c.in_ok-rows.ensures ∙ ap (option_map catalogue_shown) c.in-Some.is) found h c.catalog_of.ensures.made c.catalog_of.ensures.refused

pub returns-in-None-clause-known : goal.returns-in-None-clause-known
returns-in-None-clause-known c m db found h = none_read c.args.dba m db c.args.chains.now found h (sym (λ i. catalogue_of (c.items.ensures i) (c.items-2.ensures i) (c.items-3.ensures i)) ∙ sym c.in_ok-rows.ensures ∙ ap (option_map catalogue_shown) c.in-None.is)

pub returns-in-Some-clause-lies : goal.returns-in-Some-clause-lies
returns-in-Some-clause-lies c m found =
    lies_made c.args.dba m c.args.chains.now (catalogue_shown c.in-Some.rows) c.catalog_of.result found (sym (λ i. catalogue_of (c.items.ensures i) (c.items-2.ensures i) (c.items-3.ensures i)) ∙ sym c.in_ok-rows.ensures ∙ ap (option_map catalogue_shown) c.in-Some.is) c.catalog_of.ensures.made

pub returns-in-Some-clause-dba : goal.returns-in-Some-clause-dba
returns-in-Some-clause-dba c = dba_made c.args.dba c.args.chains.now (catalogue_shown c.in-Some.rows) c.catalog_of.result c.catalog_of.ensures.made

pub returns-in-None-clause-lies : goal.returns-in-None-clause-lies
returns-in-None-clause-lies c m found = none_made_so _

pub returns-in-None-clause-dba : goal.returns-in-None-clause-dba
returns-in-None-clause-dba c = none_made_so _
