use Rattle.catalog_read.proofs.SpellsSchema.{spells_its_schema}
use Rattle.catalog_read.specs.Read.{catalogue_shown}
use Rattle.catalog.proofs.LiesLoaded.{of_parts}
use Rattle.catalog.proofs.ReadRows.{no_schema, schema_built, schema_refused}
use Rattle.catalog.proofs.loading.schema_in.Goals as goal

pub returns-in-Some-clause-built : goal.returns-in-Some-clause-built
returns-in-Some-clause-built c =
    schema_built spells_its_schema c.args.dba (catalogue_shown c.args.rows.now) c.in_ok-parts.field-0 c.in_ok-parts.ensures c.in-Some.parts c.build_schema.result c.in-Some.is c.build_schema.ensures.built

pub returns-in-Some-clause-refused : goal.returns-in-Some-clause-refused
returns-in-Some-clause-refused c =
    schema_refused spells_its_schema c.args.dba (catalogue_shown c.args.rows.now) c.in_ok-parts.field-0 c.in_ok-parts.ensures c.in-Some.parts c.build_schema.result c.in-Some.is c.build_schema.ensures.refused

pub returns-in-None-clause-refused : goal.returns-in-None-clause-refused
returns-in-None-clause-refused c = λ n. no_schema spells_its_schema c.args.dba (catalogue_shown c.args.rows.now) c.in_ok-parts.field-0 c.in_ok-parts.ensures c.in-None.is

pub returns-in-Some-clause-of_parts : goal.returns-in-Some-clause-of_parts
returns-in-Some-clause-of_parts c =
    of_parts c.args.dba (catalogue_shown c.args.rows.now) c.in_ok-parts.field-0 c.in-Some.parts c.build_schema.result c.in_ok-parts.ensures c.in-Some.is c.build_schema.ensures.built c.build_schema.ensures.owners
