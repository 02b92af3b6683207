-- How many bytes trees and changes have at most.
use Rattle.std.specs.Prelude.{◌≤◌, ◌&&◌, ℕ, zero, suc, IsTrue, nat_le, List, length}
use Rattle.std.specs.List.{list_all}
use Rattle.std.proofs.lemmas.Bool.{and_parts, leb-true}
use Rattle.calculus.specs.declared.query.QAgg.{QAgg}
use Rattle.calculus.specs.declared.query.QQual.{QQual}
use Rattle.calculus.specs.declared.query.QTerm.{QTerm}
use Rattle.calculus.specs.declared.query.Query.{Query}
use Rattle.calculus.specs.Chars.{is_chars, is_printable}
use Rattle.calculus.specs.Name.{is_name, is_name_byte, starts_name}
use Rattle.calculus.specs.Text.{is_text, ends_without_blank}
use Rattle.tree_words.specs.Codec.{Codec}
use Rattle.tree_words.specs.Words.{byte, number32}
use Rattle.quel_tree.specs.Changes.{change}
use Rattle.quel_tree.specs.Copies.{copy_form, copy_col}
use Rattle.quel_tree.specs.Names.{name, chars, text}
use Rattle.quel_tree.specs.Operators.{arith_op, cmp_op, agg_op, update_op}
use Rattle.quel_tree.specs.Permits.{permit, rule}
use Rattle.quel_tree.specs.Queries.{term_over, qual_over, source_over, agg_over, target_over, query_over, Trees, trees, qual}
use Rattle.quel_tree.specs.Relations.{spec, rel_key, attr, sort_key, rel_info}
use Rattle.quel_tree.specs.Requests.{asked, update, utility, checked}
use Rattle.quel_tree.specs.Values.{domain, kind, value, row}
use Rattle.quel_network.specs.Bounded.{Bounded, byte_bounded, byte_if_bounded, nothing_bounded, nowhere_bounded, both_bounded, mapped_bounded, number16_bounded, number32_bounded, number64_bounded, list16_bounded, list32_bounded, short_bounded, tagged_bounded, last_bounded, last_if_bounded, or_bounded, gated_bounded, flag_bounded, option_bounded}

-- ---- names and texts

few_in_name : (bs : List ℕ) → IsTrue (is_name bs) → length bs ≤ 12
unfolding is_name
few_in_name bs f =
    let p = and_parts (starts_name bs && nat_le (length bs) 12) (list_all is_name_byte bs) f in
    leb-true (length bs) 12 (and_parts (starts_name bs) (nat_le (length bs) 12) p.0).1

few_in_chars : (bs : List ℕ) → IsTrue (is_chars bs) → length bs ≤ 255
unfolding is_chars
few_in_chars bs f = leb-true (length bs) 255 (and_parts (nat_le (length bs) 255) (list_all is_printable bs) f).0

few_in_text : (bs : List ℕ) → IsTrue (is_text bs) → length bs ≤ 255
unfolding is_text
few_in_text bs f = few_in_chars bs (and_parts (is_chars bs) (ends_without_blank bs) f).0

name_bounded : Bounded name
unfolding name
name_bounded = short_bounded _ _ _ 12 few_in_name

chars_bounded : Bounded chars
unfolding chars
chars_bounded = short_bounded _ _ _ 255 few_in_chars

text_bounded : Bounded text
unfolding text
text_bounded = short_bounded _ _ _ 255 few_in_text

-- ---- operators

arith_op_bounded : Bounded arith_op
unfolding arith_op
arith_op_bounded = mapped_bounded _ _ _ (tagged_bounded _ (or_bounded _ _ nothing_bounded (or_bounded _ _ nothing_bounded (or_bounded _ _ nothing_bounded (or_bounded _ _ nothing_bounded (or_bounded _ _ nothing_bounded (last_bounded _ nothing_bounded)))))))

cmp_op_bounded : Bounded cmp_op
unfolding cmp_op
cmp_op_bounded = mapped_bounded _ _ _ (tagged_bounded _ (or_bounded _ _ nothing_bounded (or_bounded _ _ nothing_bounded (or_bounded _ _ nothing_bounded (or_bounded _ _ nothing_bounded (or_bounded _ _ nothing_bounded (last_bounded _ nothing_bounded)))))))

agg_op_bounded : Bounded agg_op
unfolding agg_op
agg_op_bounded = mapped_bounded _ _ _ (tagged_bounded _ (or_bounded _ _ nothing_bounded (or_bounded _ _ nothing_bounded (or_bounded _ _ nothing_bounded (or_bounded _ _ nothing_bounded (or_bounded _ _ nothing_bounded (or_bounded _ _ nothing_bounded (or_bounded _ _ nothing_bounded (or_bounded _ _ nothing_bounded (last_bounded _ nothing_bounded))))))))))

update_op_bounded : Bounded update_op
unfolding update_op
update_op_bounded = mapped_bounded _ _ _ (tagged_bounded _ (or_bounded _ _ nothing_bounded (or_bounded _ _ nothing_bounded (or_bounded _ _ nothing_bounded (last_bounded _ nothing_bounded)))))

-- ---- domains, kinds, values and rows

domain_bounded : Bounded domain
unfolding domain
domain_bounded = mapped_bounded _ _ _ (tagged_bounded _ (or_bounded _ _ nothing_bounded (or_bounded _ _ nothing_bounded (or_bounded _ _ nothing_bounded (last_bounded _ (byte_if_bounded _))))))

kind_bounded : Bounded kind
unfolding kind
kind_bounded = mapped_bounded _ _ _ (tagged_bounded _ (or_bounded _ _ domain_bounded (last_bounded _ nothing_bounded)))

value_bounded : Bounded value
unfolding value
value_bounded = mapped_bounded _ _ _ (tagged_bounded _ (or_bounded _ _ number64_bounded (last_bounded _ text_bounded)))

row_bounded : Bounded row
unfolding row
row_bounded = list16_bounded value value_bounded

-- ---- what is known of relations

spec_bounded : Bounded spec
unfolding spec
spec_bounded = mapped_bounded _ _ _ (tagged_bounded _ (or_bounded _ _ nothing_bounded (or_bounded _ _ nothing_bounded (or_bounded _ _ nothing_bounded (or_bounded _ _ nothing_bounded (last_bounded _ nothing_bounded))))))

rel_key_bounded : Bounded rel_key
unfolding rel_key
rel_key_bounded = mapped_bounded _ _ _ (both_bounded _ _ name_bounded name_bounded)

attr_bounded : Bounded attr
unfolding attr
attr_bounded = mapped_bounded _ _ _ (both_bounded _ _ name_bounded kind_bounded)

sort_key_bounded : Bounded sort_key
unfolding sort_key
sort_key_bounded = mapped_bounded _ _ _ (both_bounded _ _ number16_bounded flag_bounded)

rel_info_bounded : Bounded rel_info
unfolding rel_info
rel_info_bounded = mapped_bounded _ _ _ (both_bounded _ _ rel_key_bounded (both_bounded _ _ spec_bounded (both_bounded _ _ (list16_bounded attr attr_bounded) (list16_bounded byte byte_bounded))))

copy_form_bounded : Bounded copy_form
unfolding copy_form
copy_form_bounded = mapped_bounded _ _ _ (tagged_bounded _ (or_bounded _ _ (byte_if_bounded _) (or_bounded _ _ (byte_if_bounded _) (last_bounded _ (byte_if_bounded _)))))

copy_col_bounded : Bounded copy_col
unfolding copy_col
copy_col_bounded = mapped_bounded _ _ _ (both_bounded _ _ byte_bounded copy_form_bounded)

-- ---- terms, qualifications, aggregates and queries, by levels

term_over_bounded : (n : ℕ) (t : Codec QTerm) (g : Codec QAgg) → Bounded t → Bounded g → Bounded (term_over n t g)
term_over_bounded n t g tb gb = mapped_bounded _ _ _
    (tagged_bounded _ (or_bounded _ _ number64_bounded (or_bounded _ _ chars_bounded (or_bounded _ _ (both_bounded _ _ byte_bounded byte_bounded)
    (gated_bounded _ _ _ tb (gated_bounded _ _ _ tb (gated_bounded _ _ _ (both_bounded _ _ arith_op_bounded (both_bounded _ _ tb tb))
    (gated_bounded _ _ _ (both_bounded _ _ tb tb) (last_if_bounded _ _ gb)))))))))

qual_over_bounded : (n : ℕ) (t : Codec QTerm) (q : Codec QQual) → Bounded t → Bounded q → Bounded (qual_over n t q)
qual_over_bounded n t q tb qb = mapped_bounded _ _ _
    (tagged_bounded _ (or_bounded _ _ nothing_bounded (gated_bounded _ _ _ (both_bounded _ _ cmp_op_bounded (both_bounded _ _ tb tb))
    (gated_bounded _ _ _ (both_bounded _ _ tb (both_bounded _ _ chars_bounded flag_bounded))
    (gated_bounded _ _ _ (both_bounded _ _ qb qb) (gated_bounded _ _ _ (both_bounded _ _ qb qb) (last_if_bounded _ _ qb)))))))

source_over_bounded : (n : ℕ) (r : Codec Query) → Bounded r → Bounded (source_over n r)
source_over_bounded n r rb = mapped_bounded _ _ _ (tagged_bounded _ (or_bounded _ _ rel_key_bounded (last_if_bounded _ _ rb)))

agg_over_bounded : (n : ℕ) (t : Codec QTerm) (q : Codec QQual) (r : Codec Query) → Bounded t → Bounded q → Bounded r → Bounded (agg_over n t q r)
agg_over_bounded n t q r tb qb rb = mapped_bounded _ (λ g. (g.slot, (g.op, (g.source, (g.arg, (g.by, (g.link, g.qual))))))) _
    (both_bounded _ _ number16_bounded (both_bounded _ _ agg_op_bounded (both_bounded _ _ (source_over_bounded n r rb) (both_bounded _ _ tb
    (both_bounded _ _ (list16_bounded t tb) (both_bounded _ _ (list16_bounded t tb) qb))))))

target_over_bounded : (t : Codec QTerm) → Bounded t → Bounded (target_over t)
target_over_bounded t tb = mapped_bounded _ _ _ (both_bounded _ _ name_bounded (both_bounded _ _ kind_bounded tb))

query_over_bounded : (t : Codec QTerm) (q : Codec QQual) → Bounded t → Bounded q → Bounded (query_over t q)
query_over_bounded t q tb qb = mapped_bounded _ _ _
    (both_bounded _ _ (list16_bounded rel_key rel_key_bounded) (both_bounded _ _ (list16_bounded (target_over t) (target_over_bounded t tb)) qb))

-- terms, qualifications, aggregates and queries have so many bytes at most
record BoundedTrees (t : Trees) : Type 0 where
  term : Bounded t.term
  qual : Bounded t.qual
  agg : Bounded t.agg
  query : Bounded t.query

trees_bounded : (n : ℕ) → BoundedTrees (trees n)
unfolding trees
trees_bounded zero = record { term = nowhere_bounded; qual = nowhere_bounded; agg = nowhere_bounded; query = nowhere_bounded }
trees_bounded (suc n) = let b = trees_bounded n in record {
  term = term_over_bounded n _ _ b.term b.agg;
  qual = qual_over_bounded n _ _ b.term b.qual;
  agg = agg_over_bounded n _ _ _ b.term b.qual b.query;
  query = query_over_bounded _ _ b.term b.qual;
}

-- ---- permits and rules

permit_bounded : (n : ℕ) → Bounded (permit n)
unfolding permit
permit_bounded n = mapped_bounded _ _ _ (both_bounded _ _ number32_bounded (both_bounded _ _ byte_bounded (both_bounded _ _ (list16_bounded byte byte_bounded) (both_bounded _ _ (option_bounded name name_bounded) (trees_bounded n).qual))))

rule_bounded : (n : ℕ) → Bounded (rule n)
unfolding rule
rule_bounded n = mapped_bounded _ _ _ (both_bounded _ _ number32_bounded (trees_bounded n).qual)

-- ---- trees

asked_bounded : (n : ℕ) → Bounded (asked n)
unfolding asked
asked_bounded n = mapped_bounded _ _ _ (both_bounded _ _ (trees_bounded n).query (list16_bounded sort_key sort_key_bounded))

update_bounded : (n : ℕ) → Bounded (update n)
unfolding update
update_bounded n = mapped_bounded _ _ _ (both_bounded _ _ update_op_bounded (both_bounded _ _ rel_key_bounded (both_bounded _ _ byte_bounded (both_bounded _ _ (list16_bounded byte byte_bounded)
    (both_bounded _ _ (trees_bounded n).query (both_bounded _ _ (list16_bounded (qual n) (trees_bounded n).qual) (trees_bounded n).qual))))))

utility_bounded : (n : ℕ) → Bounded (utility n)
unfolding utility
utility_bounded n = mapped_bounded _ _ _ (tagged_bounded _
    (or_bounded _ _ (both_bounded _ _ rel_key_bounded (list16_bounded attr attr_bounded))
    (or_bounded _ _ (list16_bounded rel_key rel_key_bounded)
    (or_bounded _ _ (both_bounded _ _ rel_key_bounded (both_bounded _ _ spec_bounded (list16_bounded byte byte_bounded)))
    (or_bounded _ _ (both_bounded _ _ rel_key_bounded (both_bounded _ _ name_bounded (list16_bounded byte byte_bounded)))
    (or_bounded _ _ (both_bounded _ _ rel_key_bounded (both_bounded _ _ (list16_bounded copy_col copy_col_bounded) (both_bounded _ _ flag_bounded chars_bounded)))
    (or_bounded _ _ (both_bounded _ _ rel_key_bounded (trees_bounded n).query)
    (or_bounded _ _ (both_bounded _ _ rel_key_bounded (permit_bounded n))
    (or_bounded _ _ (both_bounded _ _ rel_key_bounded (rule_bounded n))
    (or_bounded _ _ (both_bounded _ _ rel_key_bounded (list16_bounded number32 number32_bounded))
    (last_bounded _ (both_bounded _ _ rel_key_bounded (list16_bounded number32 number32_bounded)))))))))))))

pub checked_bounded : (n : ℕ) → Bounded (checked n)
unfolding checked
checked_bounded n = mapped_bounded _ _ _ (tagged_bounded _ (or_bounded _ _ (list16_bounded (asked n) (asked_bounded n)) (or_bounded _ _ (update_bounded n) (last_bounded _ (utility_bounded n)))))

-- ---- changes

pub change_bounded : (n : ℕ) → Bounded (change n)
unfolding change
change_bounded n = mapped_bounded _ _ _ (tagged_bounded _
    (or_bounded _ _ (both_bounded _ _ rel_key_bounded (both_bounded _ _ (list32_bounded row row_bounded) (list32_bounded row row_bounded)))
    (or_bounded _ _ (both_bounded _ _ rel_info_bounded (list32_bounded row row_bounded))
    (or_bounded _ _ (list16_bounded rel_key rel_key_bounded)
    (or_bounded _ _ (both_bounded _ _ rel_key_bounded (both_bounded _ _ spec_bounded (list16_bounded byte byte_bounded)))
    (or_bounded _ _ (both_bounded _ _ rel_key_bounded (both_bounded _ _ name_bounded (list16_bounded byte byte_bounded)))
    (or_bounded _ _ (both_bounded _ _ rel_info_bounded (trees_bounded n).query)
    (or_bounded _ _ (both_bounded _ _ rel_key_bounded (permit_bounded n))
    (or_bounded _ _ (both_bounded _ _ rel_key_bounded (rule_bounded n))
    (or_bounded _ _ (both_bounded _ _ rel_key_bounded (list16_bounded number32 number32_bounded))
    (last_bounded _ (both_bounded _ _ rel_key_bounded (list16_bounded number32 number32_bounded)))))))))))))
