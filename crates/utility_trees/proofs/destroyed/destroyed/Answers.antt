use Rattle.std.proofs.Common.{◌≡◌, ◌∙◌, sym, ap, filter_map, arith}
use Rattle.calculus.specs.declared.request.Checked.TheVariants.{Utility}
use Rattle.calculus.specs.declared.request.Utility.TheVariants as utility
use Rattle.calculus.specs.Keys.{same_key}
use Rattle.calculus.specs.Lists.{differ_by}
use Rattle.quel_meaning.specs.Scope.{entry_named}
use Rattle.quel_names.specs.Asking.{scope_of}
use Rattle.utility_trees.proofs.Resolving.{destroy_number, destroy_tree}
use Rattle.utility_trees.proofs.Saying.{says}
use Rattle.utility_trees.proofs.destroyed.destroyed.Goals as goal

pub returns-clause-known : goal.returns-clause-known
returns-clause-known g c = λ db ranges h names.
    let keys : c.in_ok-keys.field-0.items ≡ filter_map (entry_named (scope_of db c.args.user.now ranges)) c.args.names.now =
    c.in_ok-keys.ensures.known db ranges (c.in_ok-dba.ensures.stays _ h) (c.in_ok-dba.ensures.known db h) in
    says c.destruction.result _ _ _ _
    (λ tree k. destroy_tree db c.args.user.now ranges c.args.names.now tree names (ap (differ_by same_key) (sym keys) ∙ k.0) (k.1 ∙ ap (λ ks. Utility (utility.Destroy ks)) keys))
    (λ n k. destroy_number db c.args.user.now ranges c.args.names.now n names (ap (differ_by same_key) (sym keys) ∙ k.0) k.1) c.destruction.ensures.said

pub returns-clause-cause : goal.returns-clause-cause
returns-clause-cause g c = record { later = omega (arith, c.in_ok-dba.ensures.cause.later, c.in_ok-keys.ensures.cause.later); caused = c.destruction.ensures.no_fault _ _ _ (c.in_ok-keys.ensures.cause.caused ∙ c.in_ok-dba.ensures.cause.caused) }
