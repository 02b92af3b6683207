use Rattle.std.proofs.Common.{sym, ap, ◌∙◌, [], ◌∷◌, ◌++◌, map, append_assoc}
use Rattle.std.proofs.lemmas.List.{map-append}
use Rattle.relation_rows.proofs.reading.put_behind.Goals as goal

pub found-preserved : goal.found-preserved
found-preserved c =
    c.in_ok-push.ensures.items ∙ ap (λ items. items ++ c.in-Some.row ∷ []) c.found.invariant ∙ append_assoc c.args.rows.now.items (map (λ f. f.1) c.found.yielded) (c.in-Some.row ∷ [])
    ∙ ap (λ more. c.args.rows.now.items ++ more) (sym (map-append (λ f. f.1) c.found.yielded ((c.in-Some._line, c.in-Some.row) ∷ [])))
