use Rattle.std.proofs.Common.{◌++◌, flat_map, map, ap, ◌∙◌}
use Rattle.quel_meaning.specs.WrittenParts.{outer_vars_in_item, outer_vars_in_qual, first_vars, where_of}
use Rattle.quel_check.proofs.VarForms.{thrice}
use Rattle.quel_check.proofs.names.push_vars_of_statement.Goals as goal

pub returns : goal.returns
returns c =
    thrice _ _ _ _ (first_vars c.args.s.now) (flat_map outer_vars_in_item c.items_of.result.now) (outer_vars_in_qual (where_of c.args.s.now)) (ap (map (λ n. n.now)) c.requires)
    c.in_ok-push_first_var.ensures c.in_ok-push_vars_of_items.ensures c.in_ok-push_vars_of_where.ensures
    ∙ ap (λ items. first_vars c.args.s.now ++ (flat_map outer_vars_in_item items ++ outer_vars_in_qual (where_of c.args.s.now))) c.items_of.ensures
