use Rattle.std.proofs.Common.{◌∙◌, sym}
use Rattle.std.proofs.lemmas.Result.{IfOk-weaker}
use Rattle.catalog_read.specs.Read.{catalogue_shown}
use Rattle.catalog_read.proofs.Makes.{stands, falls}
use Rattle.catalog_read.proofs.spelling.schema_parts.Goals as goal

pub returns-then-branch : goal.returns-then-branch
returns-then-branch c =
    IfOk-weaker c.parts_made.result _ _ (λ parts is. is ∙ stands (catalogue_shown c.args.rows.now) (sym c.if-branch.true ∙ c.in_ok-stand.ensures)) c.parts_made.ensures

pub returns-else-branch : goal.returns-else-branch
returns-else-branch c = falls (catalogue_shown c.args.rows.now) (sym c.if-branch.false ∙ c.in_ok-stand.ensures)
