use Rattle.std.proofs.Common.{arith, ℕ, ◌%◌, ◌++◌, length, ap, ◌∙◌}
use Rattle.std.proofs.lemmas.List.{take_all}
use Rattle.calculus.specs.declared.query.Query.{out-Query}
use Rattle.calculus.specs.declared.query.AggSource.TheVariants as sources
use Rattle.tree_words.proofs.Variants.{wrote_variant}
use Rattle.std.proofs.lemmas.Result.{on_ok_weaker}
use Rattle.tree_words.proofs.Items.{written_one_more, written_list, small_count16}
use Rattle.tree_words.specs.Ways.{flag}
use Rattle.tree_words.specs.Words.{both, items_write, list, number16}
use Rattle.quel_tree.specs.Names.{chars, name}
use Rattle.quel_tree.specs.Operators.{agg_op, arith_op, cmp_op}
use Rattle.quel_tree.specs.Queries.{agg, qual, query, source, target, term}
use Rattle.quel_tree.specs.Relations.{rel_key}
use Rattle.quel_tree.specs.Values.{kind}
use Rattle.quel_tree.proofs.Written.{int_is, chars_is, attr_is, neg_is, abs_is, operation_is, operands, concat_is, two_terms, aggregate_is, true_is, comparison_is, compared, match_is, matched, and_is, or_is, not_is, two_quals, rows_is, wrote_agg, wrote_query, wrote_both, wrote_below}
use Rattle.quel_tree.proofs.queries.writing.+writing.Goals as goal

-- ---- terms

pub write_term-variant1-requires : goal.write_term-variant1-requires
write_term-variant1-requires t c = rw c.in-Int.is (int_is _)

pub write_term-variant1-requires-in-Chars : goal.write_term-variant1-requires-in-Chars
write_term-variant1-requires-in-Chars t c = rw c.in-Chars.is (chars_is _)

pub write_term-variant2-requires : goal.write_term-variant2-requires
write_term-variant2-requires t c = rw c.in-Attr.is (attr_is _ _)

pub write_term-returns-in_ok-push-in-Neg : goal.write_term-returns-in_ok-push-in-Neg
write_term-returns-in_ok-push-in-Neg t c = rw (c.in-Neg.is, ← c.get.ensures) (on_ok_weaker c.write_term.result (wrote_below term _ 3 term c.get.result.now c.args.out.now.items c.push.new.self.items c.write_term.new.out.items (neg_is c.get.result.now) c.in_ok-push-in-Neg.ensures.items) c.write_term.ensures)

pub write_term-returns-in_ok-push-in-Abs : goal.write_term-returns-in_ok-push-in-Abs
write_term-returns-in_ok-push-in-Abs t c = rw (c.in-Abs.is, ← c.get-in-Abs.ensures) (on_ok_weaker c.write_term-in-Abs.result (wrote_below term _ 4 term c.get-in-Abs.result.now c.args.out.now.items c.push-in-Abs.new.self.items c.write_term-in-Abs.new.out.items (abs_is c.get-in-Abs.result.now) c.in_ok-push-in-Abs.ensures.items) c.write_term-in-Abs.ensures)

pub write_term-returns-in_ok-write_term-in-Arith :
    goal.write_term-returns-in_ok-write_term-in-Arith
write_term-returns-in_ok-write_term-in-Arith t c = rw (c.in-Arith.is, ← c.get-in-Arith.ensures, ← c.get-in-Arith-2.ensures) (on_ok_weaker c.write_term-in-Arith-2.result
    (λ w. wrote_below term _ 5 operands (c.in-Arith.op, (c.get-in-Arith.result.now, c.get-in-Arith-2.result.now)) c.args.out.now.items c.push-in-Arith.new.self.items c.write_term-in-Arith-2.new.out.items (operation_is c.in-Arith.op c.get-in-Arith.result.now c.get-in-Arith-2.result.now) c.in_ok-push-in-Arith.ensures.items
    (wrote_both (λ _. arith_op) two_terms c.in-Arith.op (c.get-in-Arith.result.now, c.get-in-Arith-2.result.now) c.push-in-Arith.new.self.items c.write.new.out.items c.write_term-in-Arith-2.new.out.items c.in_ok-write-in-Arith.ensures
    (wrote_both term term c.get-in-Arith.result.now c.get-in-Arith-2.result.now c.write.new.out.items c.write_term-in-Arith.new.out.items c.write_term-in-Arith-2.new.out.items c.in_ok-write_term-in-Arith.ensures w)))
    c.write_term-in-Arith-2.ensures)

pub write_term-returns-in_ok-write_term-in-Concat :
    goal.write_term-returns-in_ok-write_term-in-Concat
write_term-returns-in_ok-write_term-in-Concat t c = rw (c.in-Concat.is, ← c.get-in-Concat.ensures, ← c.get-in-Concat-2.ensures) (on_ok_weaker c.write_term-in-Concat-2.result
    (λ w. wrote_below term _ 6 two_terms (c.get-in-Concat.result.now, c.get-in-Concat-2.result.now) c.args.out.now.items c.push-in-Concat.new.self.items c.write_term-in-Concat-2.new.out.items (concat_is c.get-in-Concat.result.now c.get-in-Concat-2.result.now) c.in_ok-push-in-Concat.ensures.items
    (wrote_both term term c.get-in-Concat.result.now c.get-in-Concat-2.result.now c.push-in-Concat.new.self.items c.write_term-in-Concat.new.out.items c.write_term-in-Concat-2.new.out.items c.in_ok-write_term-in-Concat.ensures w))
    c.write_term-in-Concat-2.ensures)

pub write_term-returns-in_ok-push-in-Agg : goal.write_term-returns-in_ok-push-in-Agg
write_term-returns-in_ok-push-in-Agg t c = rw (c.in-Agg.is, ← c.get-in-Agg.ensures) (on_ok_weaker c.write_agg.result (wrote_below term _ 7 agg c.get-in-Agg.result.now c.args.out.now.items c.push-in-Agg.new.self.items c.write_agg.new.out.items (aggregate_is c.get-in-Agg.result.now) c.in_ok-push-in-Agg.ensures.items) c.write_agg.ensures)

pub write_term_items-loop-item-preserved : goal.write_term_items-loop-item-preserved
write_term_items-loop-item-preserved t c = written_one_more term c.args.items.now c.loop-item.item-index c.item-item.result c.item-item.result c.args.out.now.items c.loop-item.out.items c.write_term.new.out.items (omega arith) c.item-item.is c.loop-item.invariant c.in_ok-write_term.ensures

pub write_terms-returns : goal.write_terms-returns
write_terms-returns t c = on_ok_weaker c.write_term_items.result (written_list number16 term c.args.terms.now (length c.args.terms.now % 65536) c.args.out.now.items c.write.new.out.items c.write_term_items.new.out.items (small_count16 (length c.args.terms.now)) c.in_ok-write.ensures) c.write_term_items.ensures

-- ---- qualifications

pub write_qual-variant0-requires : goal.write_qual-variant0-requires
write_qual-variant0-requires t c = rw c.in-True.is true_is

pub write_qual-returns-in_ok-write_term-in-Cmp : goal.write_qual-returns-in_ok-write_term-in-Cmp
write_qual-returns-in_ok-write_term-in-Cmp t c = rw c.in-Cmp.is (on_ok_weaker c.write_term-in-Cmp.result
    (λ w. wrote_below qual _ 1 compared (c.in-Cmp.op, (c.in-Cmp.left, c.in-Cmp.right)) c.args.out.now.items c.push.new.self.items c.write_term-in-Cmp.new.out.items (comparison_is c.in-Cmp.op c.in-Cmp.left c.in-Cmp.right) c.in_ok-push-in-Cmp.ensures.items
    (wrote_both (λ _. cmp_op) two_terms c.in-Cmp.op (c.in-Cmp.left, c.in-Cmp.right) c.push.new.self.items c.write.new.out.items c.write_term-in-Cmp.new.out.items c.in_ok-write-in-Cmp.ensures
    (wrote_both term term c.in-Cmp.left c.in-Cmp.right c.write.new.out.items c.write_term.new.out.items c.write_term-in-Cmp.new.out.items c.in_ok-write_term-in-Cmp.ensures w)))
    c.write_term-in-Cmp.ensures)

pub write_qual-returns-in_ok-write_term-in-Like : goal.write_qual-returns-in_ok-write_term-in-Like
write_qual-returns-in_ok-write_term-in-Like t c = rw c.in-Like.is (on_ok_weaker c.fields2.result
    (λ w. wrote_below qual _ 2 matched (c.in-Like.term, (c.in-Like.pattern, c.in-Like.same)) c.args.out.now.items c.push-in-Like.new.self.items c.fields2.new.out.items (match_is c.in-Like.term c.in-Like.pattern c.in-Like.same) c.in_ok-push-in-Like.ensures.items
    (wrote_both term (λ _. both chars flag) c.in-Like.term (c.in-Like.pattern, c.in-Like.same) c.push-in-Like.new.self.items c.write_term-in-Like.new.out.items c.fields2.new.out.items c.in_ok-write_term-in-Like.ensures w))
    c.fields2.ensures)

pub write_qual-returns-in_ok-write_qual-in-And : goal.write_qual-returns-in_ok-write_qual-in-And
write_qual-returns-in_ok-write_qual-in-And t c = rw (c.in-And.is, ← c.get.ensures, ← c.get-in-And.ensures) (on_ok_weaker c.write_qual-in-And.result
    (λ w. wrote_below qual _ 3 two_quals (c.get.result.now, c.get-in-And.result.now) c.args.out.now.items c.push-in-And.new.self.items c.write_qual-in-And.new.out.items (and_is c.get.result.now c.get-in-And.result.now) c.in_ok-push-in-And.ensures.items
    (wrote_both qual qual c.get.result.now c.get-in-And.result.now c.push-in-And.new.self.items c.write_qual.new.out.items c.write_qual-in-And.new.out.items c.in_ok-write_qual-in-And.ensures w))
    c.write_qual-in-And.ensures)

pub write_qual-returns-in_ok-write_qual-in-Or : goal.write_qual-returns-in_ok-write_qual-in-Or
write_qual-returns-in_ok-write_qual-in-Or t c = rw (c.in-Or.is, ← c.get-in-Or.ensures, ← c.get-in-Or-2.ensures) (on_ok_weaker c.write_qual-in-Or-2.result
    (λ w. wrote_below qual _ 4 two_quals (c.get-in-Or.result.now, c.get-in-Or-2.result.now) c.args.out.now.items c.push-in-Or.new.self.items c.write_qual-in-Or-2.new.out.items (or_is c.get-in-Or.result.now c.get-in-Or-2.result.now) c.in_ok-push-in-Or.ensures.items
    (wrote_both qual qual c.get-in-Or.result.now c.get-in-Or-2.result.now c.push-in-Or.new.self.items c.write_qual-in-Or.new.out.items c.write_qual-in-Or-2.new.out.items c.in_ok-write_qual-in-Or.ensures w))
    c.write_qual-in-Or-2.ensures)

pub write_qual-returns-in_ok-push-in-Not : goal.write_qual-returns-in_ok-push-in-Not
write_qual-returns-in_ok-push-in-Not t c = rw (c.in-Not.is, ← c.get-in-Not.ensures) (on_ok_weaker c.write_qual-in-Not.result (wrote_below qual _ 5 qual c.get-in-Not.result.now c.args.out.now.items c.push-in-Not.new.self.items c.write_qual-in-Not.new.out.items (not_is c.get-in-Not.result.now) c.in_ok-push-in-Not.ensures.items) c.write_qual-in-Not.ensures)

-- ---- sources, aggregates and queries

pub write_source-returns-in_ok-push-in-Rows : goal.write_source-returns-in_ok-push-in-Rows
write_source-returns-in_ok-push-in-Rows t c = rw (c.in-Rows.is, ← c.get.ensures) (on_ok_weaker c.write_query.result (wrote_variant source (sources.Rows c.get.result.now) 1 query c.get.result.now c.args.out.now.items c.push.new.self.items c.write_query.new.out.items (rows_is c.get.result.now) c.in_ok-push-in-Rows.ensures.items) c.write_query.ensures)

pub write_agg-returns : goal.write_agg-returns
write_agg-returns t c = let g = c.args.value.now in let terms = λ (n : ℕ). list number16 (term n) in on_ok_weaker c.write_qual.result
    (λ w. wrote_agg g c.args.out.now.items c.write_qual.new.out.items
    (wrote_both (λ _. number16) (λ n. both agg_op (both (source n) (both (term n) (both (terms n) (both (terms n) (qual n)))))) g.slot (g.op, (g.source, (g.arg, (g.by, (g.link, g.qual))))) c.args.out.now.items c.write.new.out.items c.write_qual.new.out.items c.in_ok-write.ensures
    (wrote_both (λ _. agg_op) (λ n. both (source n) (both (term n) (both (terms n) (both (terms n) (qual n))))) g.op (g.source, (g.arg, (g.by, (g.link, g.qual)))) c.write.new.out.items c.write-2.new.out.items c.write_qual.new.out.items c.in_ok-write-2.ensures
    (wrote_both source (λ n. both (term n) (both (terms n) (both (terms n) (qual n)))) g.source (g.arg, (g.by, (g.link, g.qual))) c.write-2.new.out.items c.write_source.new.out.items c.write_qual.new.out.items c.in_ok-write_source.ensures
    (wrote_both term (λ n. both (terms n) (both (terms n) (qual n))) g.arg (g.by, (g.link, g.qual)) c.write_source.new.out.items c.write_term.new.out.items c.write_qual.new.out.items c.in_ok-write_term.ensures
    (wrote_both terms (λ n. both (terms n) (qual n)) g.by (g.link, g.qual) c.write_term.new.out.items c.write_terms.new.out.items c.write_qual.new.out.items (rw (← c.items.ensures) c.in_ok-write_terms.ensures)
    (wrote_both terms qual g.link g.qual c.write_terms.new.out.items c.write_terms-2.new.out.items c.write_qual.new.out.items (rw (← c.items-2.ensures) c.in_ok-write_terms-2.ensures) w)))))))
    c.write_qual.ensures

pub write_target-returns : goal.write_target-returns
write_target-returns t c = let g = c.args.value.now in on_ok_weaker c.write_term.result
    (λ w. wrote_both (λ _. name) (λ n. both kind (term n)) g.name (g.kind, g.term) c.args.out.now.items c.write.new.out.items c.write_term.new.out.items c.in_ok-write.ensures
    (wrote_both (λ _. kind) term g.kind g.term c.write.new.out.items c.write-2.new.out.items c.write_term.new.out.items c.in_ok-write-2.ensures w))
    c.write_term.ensures

pub write_target_items-loop-item-preserved : goal.write_target_items-loop-item-preserved
write_target_items-loop-item-preserved t c = written_one_more target c.args.items.now c.loop-item.item-index c.item-item.result c.item-item.result c.args.out.now.items c.loop-item.out.items c.write_target.new.out.items (omega arith) c.item-item.is c.loop-item.invariant c.in_ok-write_target.ensures

pub write_target_items-returns : goal.write_target_items-returns
write_target_items-returns t c = λ n f. c.loop-item.invariant n f ∙ ap (λ items. c.args.out.now.items ++ items_write (target n) items) (take_all c.loop-item.item-index c.args.items.now (omega arith))

pub write_targets-returns : goal.write_targets-returns
write_targets-returns t c = on_ok_weaker c.write_target_items.result (written_list number16 target c.args.targets.now (length c.args.targets.now % 65536) c.args.out.now.items c.write.new.out.items c.write_target_items.new.out.items (small_count16 (length c.args.targets.now)) c.in_ok-write.ensures) c.write_target_items.ensures

pub write_query-returns : goal.write_query-returns
write_query-returns t c = let q = out-Query c.args.value.now in on_ok_weaker c.write_qual.result
    (λ w. wrote_query c.args.value.now c.args.out.now.items c.write_qual.new.out.items
    (wrote_both (λ _. list number16 rel_key) (λ n. both (list number16 (target n)) (qual n)) q.vars (q.targets, q.qual) c.args.out.now.items c.write.new.out.items c.write_qual.new.out.items c.in_ok-write.ensures
    (wrote_both (λ n. list number16 (target n)) qual q.targets q.qual c.write.new.out.items c.write_targets.new.out.items c.write_qual.new.out.items (rw (← c.items.ensures) c.in_ok-write_targets.ensures) w)))
    c.write_qual.ensures
