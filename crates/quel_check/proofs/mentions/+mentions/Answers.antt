use Rattle.std.proofs.Common.{◌++◌, sym, ap, ◌∙◌, map, flat_map, take, get_or, append_assoc, []}
use Rattle.std.proofs.lemmas.List.{take_all, take_more, flat_map_more}
use Rattle.std.proofs.lemmas.Result.{on_ok_weaker}
use Rattle.quel_check.specs.Seen.{seen}
use Rattle.quel_meaning.specs.Naming.{dotted}
use Rattle.quel_meaning.specs.WrittenParts.{attributes, attributes_in_qual}
use Rattle.quel_check.proofs.MentionForms.{dotted_both, in_pair, in_quals}
use Rattle.quel_check.proofs.VarForms.{behind}
use Rattle.quel_check.proofs.mentions.+mentions.Goals as goal

pub push_term-returns-in_ok-push_term-in-Arith : goal.push_term-returns-in_ok-push_term-in-Arith
push_term-returns-in_ok-push_term-in-Arith t c =
    on_ok_weaker c.push_term-in-Arith.result
    (λ h. behind _ _ _ _ _ c.in_ok-push_term-in-Arith.ensures h
    ∙ ap (λ ms. map seen c.args.mentions.now.items ++ ms) ((λ i. dotted (attributes (c.get-in-Arith.ensures i)) ++ dotted (attributes (c.get-in-Arith-2.ensures i))) ∙ sym (in_pair c.args.t.now c.in-Arith.left c.in-Arith.right c.in-Arith.is)))
    c.push_term-in-Arith.ensures

pub push_qual-returns-in_ok-push_qual-in-And : goal.push_qual-returns-in_ok-push_qual-in-And
push_qual-returns-in_ok-push_qual-in-And t c =
    on_ok_weaker c.push_qual-in-And-2.result
    (λ h. behind _ _ _ _ _ c.in_ok-push_qual-in-And.ensures h
    ∙ ap (λ ms. map seen c.args.mentions.now.items ++ ms) ((λ i. dotted (attributes_in_qual (c.get-in-And.ensures i)) ++ dotted (attributes_in_qual (c.get-in-And-2.ensures i))) ∙ sym (in_quals c.args.q.now c.in-And.left c.in-And.right c.in-And.is)))
    c.push_qual-in-And-2.ensures

pub push_terms-loop-term-preserved : goal.push_terms-loop-term-preserved
push_terms-loop-term-preserved t c =
    c.in_ok-push_term.ensures ∙ (λ i. c.loop-term.invariant i ++ dotted (attributes (c.term-item.is i)))
    ∙ append_assoc (map seen c.args.mentions.now.items) (dotted (flat_map attributes (take c.loop-term.term-index c.args.terms.now))) (dotted (attributes (get_or c.args.terms.now c.loop-term.term-index c.term-item.result)))
    ∙ ap (λ ms. map seen c.args.mentions.now.items ++ ms) (sym (dotted_both (flat_map attributes (take c.loop-term.term-index c.args.terms.now)) (attributes (get_or c.args.terms.now c.loop-term.term-index c.term-item.result))))
    ∙ ap (λ ds. map seen c.args.mentions.now.items ++ dotted ds)
    (flat_map_more attributes [] (take c.loop-term.term-index c.args.terms.now) (get_or c.args.terms.now c.loop-term.term-index c.term-item.result)
    ∙ ap (flat_map attributes) (sym (take_more c.args.terms.now c.loop-term.term-index c.term-item.result c.loop-term-test.true)))

pub push_terms-returns : goal.push_terms-returns
push_terms-returns t c = c.loop-term.invariant ∙ ap (λ ys. map seen c.args.mentions.now.items ++ dotted (flat_map attributes ys)) (take_all c.loop-term.term-index c.args.terms.now c.loop-term-test.false)
