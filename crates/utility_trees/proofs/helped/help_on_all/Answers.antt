use Rattle.std.proofs.Common.{◌≡◌, ◌∙◌, ◌∷◌, [], sym, ap, codes}
use Rattle.std.proofs.lemmas.Result.{IfOk-at_ok, IfOk-weaker}
use Rattle.calculus.specs.declared.request.Checked.TheVariants.{Answer}
use Rattle.calculus.specs.Keys.{key_of}
use Rattle.calculus.specs.Tree.{either, query}
use Rattle.quel_meaning.specs.Resolved.{help_on_all, is_name_at, unsorted}
use Rattle.quel_meaning.specs.Scope.{Scope}
use Rattle.utility_trees.proofs.helped.help_on_all.Goals as goal

pub returns : goal.returns
returns c =
    let parts = c.in_ok-vars.ensures.first in
    let vars = IfOk-at_ok _ (IfOk-at_ok _ parts c.both-parts.ensures.first) c.catalogue.ensures in
    let targets = IfOk-at_ok _ (IfOk-at_ok _ parts c.both-parts.ensures.second) c.entry_targets.ensures in
    let qual = IfOk-at_ok _ c.in_ok-vars.ensures.second c.is_of_either.ensures in
    let same : (s : Scope) → s.user ≡ c.args.user.now → s.db.dba ≡ c.args.dba.now → c.unsorted.result ≡ help_on_all s = λ s u d.
    c.unsorted.ensures
    ∙ (λ i. unsorted (query ((vars ∙ ap (λ o. key_of o (codes "relation") ∷ []) (sym d)) i) (targets i) ((qual ∙ (λ j. either (is_name_at 1 (sym u j)) (is_name_at 1 (sym d j)))) i))) in
    IfOk-weaker c.answer.result _ (λ tree. (s : Scope) → s.user ≡ c.args.user.now → s.db.dba ≡ c.args.dba.now → tree ≡ Answer (help_on_all s ∷ [])) (λ tree is s u d. is ∙ ap (λ a. Answer (a ∷ [])) (same s u d)) c.answer.ensures
