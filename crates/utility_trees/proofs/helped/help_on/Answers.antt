use Rattle.std.proofs.Common.{◌≡◌, Some, ◌∙◌, ◌∷◌, [], sym, ap, codes}
use Rattle.std.proofs.lemmas.Result.{IfOk-at_ok, IfOk-weaker}
use Rattle.calculus.specs.declared.request.Checked.TheVariants.{Answer}
use Rattle.calculus.specs.Keys.{key_of}
use Rattle.calculus.specs.Tree.{query}
use Rattle.quel_meaning.specs.Resolved.{help_on, unsorted}
use Rattle.quel_meaning.specs.Scope.{Scope}
use Rattle.utility_trees.proofs.helped.help_on.Goals as goal

pub returns : goal.returns
returns c =
    let parts = c.in_ok-vars.ensures.first in
    let vars = IfOk-at_ok _ (IfOk-at_ok _ parts c.both-parts.ensures.first) c.catalogue.ensures in
    let targets = IfOk-at_ok _ (IfOk-at_ok _ parts c.both-parts.ensures.second) c.attribute_targets.ensures in
    let qual = IfOk-at_ok _ c.in_ok-vars.ensures.second c.is_of_entry.ensures in
    let same : (s : Scope) → s.db.dba ≡ c.args.dba.now → c.unsorted.result ≡ help_on s (Some c.args.info.now) = λ s d.
    c.unsorted.ensures ∙ (λ i. unsorted (query ((vars ∙ ap (λ o. key_of o (codes "attribute") ∷ []) (sym d)) i) (targets i) (qual i))) in
    IfOk-weaker c.answer.result _ (λ tree. (s : Scope) → s.db.dba ≡ c.args.dba.now → tree ≡ Answer (help_on s (Some c.args.info.now) ∷ [])) (λ tree is s d. is ∙ ap (λ a. Answer (a ∷ [])) (same s d)) c.answer.ensures
