use Rattle.std.proofs.Common.{◌∷◌, map, sym, ap, ◌∙◌}
use Rattle.std.proofs.lemmas.Result.{IfOk-weaker}
use Rattle.quel_meaning.specs.Naming.{AttrIn, Relation}
use Rattle.quel_names.specs.Parts.{head}
use Rattle.quel_names.proofs.head.head.Goals as goal

pub returns-in-Copy : goal.returns-in-Copy
returns-in-Copy c =
    IfOk-weaker c.with_columns.result _ _
    (λ found h. h ∙ ap (λ columns. Relation c.in-Copy.rel ∷ map (λ column. AttrIn c.in-Copy.rel column.0) columns) c.items-in-Copy.ensures ∙ ap head (sym c.in-Copy.is)) c.with_columns.ensures
