use Rattle.std.proofs.Common.{◌≡◌, ◌≤◌, length, subst, sym, ap, ◌∙◌, is_some}
use Rattle.std.specs.Prelude.{option_copied}
use Rattle.std.specs.Option.{IfSome}
use Rattle.calculus.specs.declared.request.Checked.{Checked}
use Rattle.calculus.specs.QueryParts.{targets_of}
use Rattle.quel_refusals.specs.CheckedStatements.{update_of}
use Rattle.quel_meaning.specs.Resolved.{tree_by, tree_of}
use Rattle.quel_resolve.specs.Changed.{Suits}
use Rattle.quel_resolve.proofs.Changes.{few_known, few_targets}
use Rattle.quel_resolve.proofs.trees.asked.Goals as goal

pub returns-in-Some-clause-known : goal.returns-in-Some-clause-known
unfolding tree_of
returns-in-Some-clause-known c = λ scope is u q up ch has w r n.
    let few : length (targets_of c.args.q) ≤ 256 =
    subst (λ p. length (targets_of p) ≤ 256) (sym q) (few_targets scope c.args.s.now w r (up ∙ ap (update_of scope c.args.s.now) q) n) in
    let suits : Suits scope c.args.user.now c.args.s.now c.args.q (option_copied c.args.on) =
    record { user_is = u; target_is = ch; few_attrs = few_known scope is c.args.s.now (option_copied c.args.on) ch; few_targets = few } in
    let tree : c.in-Some.tree ≡ tree_by scope c.args.q c.args.s.now =
    subst (λ o. IfSome o (λ (checked : Checked). checked ≡ tree_by scope c.args.q c.args.s.now)) c.in-Some.is (c.in_ok-tree.ensures.tree scope suits) in
    (tree ∙ ap (λ p. tree_by scope p c.args.s.now) q, n)

pub returns-in-None-clause-known : goal.returns-in-None-clause-known
returns-in-None-clause-known c = λ scope is u q up ch has w r n.
    absurd (cc (sym (ap is_some c.in-None.is) ∙ c.in_ok-tree.ensures.built ∙ has))
