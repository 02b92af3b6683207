use Rattle.std.proofs.Common.{◌∙◌, ◌∷◌, ◌++◌, [], ap, map, vec_items}
use Rattle.std.proofs.lemmas.Result.{IfOk-at_ok}
use Rattle.quel_resolve.proofs.Putting.{puts_term, made}
use Rattle.quel_resolve.proofs.targets.push_term.Goals as goal

pub returns-clause-known : goal.returns-clause-known
returns-clause-known g c = λ db h.
    let named = IfOk-at_ok _ c.in_ok-term.ensures.second c.copy.ensures in
    puts_term db _ _ _ _ _ _ _ _ _ _ _ c.requires (IfOk-at_ok _ c.in_ok-term.ensures.first c.term_tree_from-term.ensures)
    (c.in_ok-push.ensures.behind
    ∙ ap (λ t. c.args.targets.now.items ++ t ∷ []) (c.in_ok-target.ensures.known db h ∙ ap (λ name. made db name c.in_ok-term.term (map vec_items c.args.kinds.now)) named))
