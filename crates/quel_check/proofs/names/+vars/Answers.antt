use Rattle.std.proofs.Common.{◌++◌, sym, ap, ◌∙◌, map, take, get_or}
use Rattle.std.specs.List.{flat_map}
use Rattle.std.proofs.lemmas.List.{take_all, take_more, flat_map_more}
use Rattle.std.proofs.lemmas.Result.{on_ok_weaker}
use Rattle.quel_meaning.specs.WrittenParts.{outer_vars}
use Rattle.quel_check.proofs.VarForms.{vars_pair, behind}
use Rattle.quel_check.proofs.names.+vars.Goals as goal

pub push_vars-returns-in_ok-push_vars-in-Arith : goal.push_vars-returns-in_ok-push_vars-in-Arith
push_vars-returns-in_ok-push_vars-in-Arith t c =
    on_ok_weaker c.push_vars-in-Arith.result
    (λ h. behind _ _ _ _ _ c.in_ok-push_vars-in-Arith.ensures h
    ∙ ap (λ vs. map (λ n. n.now) c.args.names.now.items ++ vs) ((λ i. outer_vars (c.get-in-Arith.ensures i) ++ outer_vars (c.get-in-Arith-2.ensures i)) ∙ sym (vars_pair c.args.t.now c.in-Arith.left c.in-Arith.right c.in-Arith.is)))
    c.push_vars-in-Arith.ensures

pub push_vars_of_terms-loop-term-preserved : goal.push_vars_of_terms-loop-term-preserved
push_vars_of_terms-loop-term-preserved t c =
    c.in_ok-push_vars.ensures ∙ (λ i. c.loop-term.invariant i ++ outer_vars (c.term-item.is i))
    ∙ flat_map_more outer_vars (map (λ n. n.now) c.args.names.now.items) (take c.loop-term.term-index c.args.terms.now) (get_or c.args.terms.now c.loop-term.term-index c.term-item.result)
    ∙ ap (λ ys. map (λ n. n.now) c.args.names.now.items ++ flat_map outer_vars ys) (sym (take_more c.args.terms.now c.loop-term.term-index c.term-item.result c.loop-term-test.true))

pub push_vars_of_terms-returns : goal.push_vars_of_terms-returns
push_vars_of_terms-returns t c =
    c.loop-term.invariant
    ∙ ap (λ ys. map (λ n. n.now) c.args.names.now.items ++ flat_map outer_vars ys) (take_all c.loop-term.term-index c.args.terms.now c.loop-term-test.false)
