use Rattle.std.proofs.Common.{◌≡◌, ap, ◌∙◌, false, ◌++◌, append_assoc, option_map}
use Rattle.calculus.specs.Permission.{change_permitted}
use Rattle.view_expand.specs.Asking.{right_of, who_of}
use Rattle.view_expand.proofs.Causing.{caused_behind}
use Rattle.view_text.specs.Expanded.{read_restriction}
use Rattle.view_text.specs.ExpansionOf.{restriction}
use Rattle.cut_rules.specs.Placed.{read_permitted}
use Rattle.cut_rules.proofs.Causing.{on_ok}
use Rattle.cut_rules.proofs.Refusing.{change_true, change_false}
use Rattle.cut_rules.proofs.changed_variable.put_cuts.Goals as goal

pub returns-in-Ok-clause-known : goal.returns-in-Ok-clause-known
returns-in-Ok-clause-known g c = λ db h.
    let who = (who_of (option_map (λ n. n.now) c.args.who)) in
    let read = read_restriction db who c.args.read.now c.args.key.now in
    on_ok c.put_read_restriction.result _ _
    (λ e. e ∙ ap (λ qs. qs ++ read) (c.in-Ok.ensures.known db h) ∙ append_assoc c.args.conditions.now.items (restriction db who (right_of c.args.right) c.args.places.now c.args.key.now) read)
    (c.put_read_restriction.ensures.known db (c.in-Ok.ensures.kept ∙ h))

pub returns-in-Ok-clause-permitted : goal.returns-in-Ok-clause-permitted
returns-in-Ok-clause-permitted g c = λ db h.
    let who = (who_of (option_map (λ n. n.now) c.args.who)) in
    on_ok c.put_read_restriction.result _ _ (λ r. change_true db who (right_of c.args.right) c.args.places.now c.args.key.now c.args.read.now (c.in-Ok.ensures.permitted db h) r) (c.put_read_restriction.ensures.permitted db (c.in-Ok.ensures.kept ∙ h))

pub returns-in-Ok-clause-cause : goal.returns-in-Ok-clause-cause
returns-in-Ok-clause-cause g c =
    caused_behind (λ db. read_permitted db (who_of (option_map (λ n. n.now) c.args.who)) c.args.read.now c.args.key.now ≡ false)
    (λ db. change_permitted db (who_of (option_map (λ n. n.now) c.args.who)) (right_of c.args.right) c.args.places.now c.args.key.now c.args.read.now ≡ false)
    _ _ _ _ _ c.put_read_restriction.result c.in-Ok.ensures.kept c.in-Ok.ensures.cause.caused
    (λ db h r. change_false db (who_of (option_map (λ n. n.now) c.args.who)) (right_of c.args.right) c.args.places.now c.args.key.now c.args.read.now r) c.put_read_restriction.ensures.cause
