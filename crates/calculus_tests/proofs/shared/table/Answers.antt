use Rattle.std.proofs.Common.{rules, sym, ap, ◌∙◌, subst, [], ◌∷◌, ◌++◌, true, ◌≡◌}
use Rattle.std.specs.Prelude.{if◌then◌else◌, is_ok}
use Rattle.calculus.specs.Groups.{GroupsAscend}
use Rattle.calculus.proofs.Sets.{Ascends-cons, Ascends-nil}
use Rattle.calculus_tests.proofs.shared.table.Goals as goal

pub of-requires : goal.of-requires
of-requires g c =
    let ok : is_ok c.push.result ≡ true = search rules in
    subst GroupsAscend (sym (c.push.ensures.items
    ∙ ap (λ b. if b then c.new-groups.result.items ++ c.group.result ∷ [] else c.new-groups.result.items) ok
    ∙ ap (λ gs. gs ++ c.group.result ∷ []) c.new-groups.ensures.items)) (Ascends-cons _ [] tt Ascends-nil)
