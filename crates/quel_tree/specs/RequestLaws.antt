-- What the query processor and the utilities are asked for, as bytes: the laws.
use Rattle.std.specs.Prelude.{ℕ, ◌≤◌}
use Rattle.std.proofs.Common.{inl, inr, refl, arith}
use Rattle.quel_tree.specs.Copies.{copy_col}
use Rattle.quel_tree.specs.CopyLaws.{copy_col_exact}
use Rattle.quel_tree.specs.NameLaws.{chars_exact, name_exact}
use Rattle.quel_tree.specs.OperatorLaws.{update_op_exact}
use Rattle.quel_tree.specs.PermitLaws.{permit_exact, rule_exact}
use Rattle.quel_tree.specs.Queries.{qual}
use Rattle.quel_tree.specs.QueryLaws.{qual_exact, query_exact}
use Rattle.quel_tree.specs.RelationLaws.{attr_exact, rel_key_exact, sort_key_exact, spec_exact}
use Rattle.quel_tree.specs.Relations.{attr, rel_key, sort_key}
use Rattle.quel_tree.specs.Requests.{asked, checked, update, utility}
use Rattle.tree_words.specs.ChoiceLaws.{flag_exact}
use Rattle.tree_words.specs.Exact.{Exact}
use Rattle.tree_words.specs.FormLaws.{mapped_exact}
use Rattle.tree_words.specs.LetterLaws.{byte_exact}
use Rattle.tree_words.specs.ListLaws.{list_exact}
use Rattle.tree_words.specs.NumberLaws.{number16_exact, number32_exact}
use Rattle.tree_words.specs.PairLaws.{both_exact}
use Rattle.tree_words.specs.WayLaws.{last_exact, or_exact, tagged_exact}
use Rattle.tree_words.specs.Words.{byte, number16, number32}
use Rattle.calculus.specs.declared.request.Checked.TheVariants as requests
use Rattle.calculus.specs.declared.request.Utility.TheVariants as utilities

pub asked_exact : (n : ℕ) → 2 ≤ n → Exact (asked n)
unfolding asked
asked_exact n h = mapped_exact _ _ _ (λ p f. refl) (λ x f. refl) (both_exact _ _ (query_exact n h) (list_exact number16 sort_key number16_exact sort_key_exact))

pub update_exact : (n : ℕ) → 2 ≤ n → Exact (update n)
unfolding update
update_exact n h = mapped_exact _ _ _ (λ p f. refl) (λ x f. refl) (both_exact _ _ update_op_exact (both_exact _ _ rel_key_exact (both_exact _ _ byte_exact (both_exact _ _ (list_exact number16 byte number16_exact byte_exact) (both_exact _ _ (query_exact n h) (both_exact _ _ (list_exact number16 (qual n) number16_exact (qual_exact n (omega arith))) (qual_exact n (omega arith))))))))

pub utility_exact : (n : ℕ) → 2 ≤ n → Exact (utility n)
unfolding utility
utility_exact n h = mapped_exact _ _ _
    (elim [ inl p ↦ λ f. refl | inr (inl p) ↦ λ f. refl | inr (inr (inl p)) ↦ λ f. refl | inr (inr (inr (inl p))) ↦ λ f. refl | inr (inr (inr (inr (inl p)))) ↦ λ f. refl | inr (inr (inr (inr (inr (inl p))))) ↦ λ f. refl | inr (inr (inr (inr (inr (inr (inl p)))))) ↦ λ f. refl | inr (inr (inr (inr (inr (inr (inr (inl p))))))) ↦ λ f. refl | inr (inr (inr (inr (inr (inr (inr (inr (inl p)))))))) ↦ λ f. refl | inr (inr (inr (inr (inr (inr (inr (inr (inr p)))))))) ↦ λ f. refl ])
    (elim [ utilities.Create rel attrs ↦ λ h. refl | utilities.Destroy rels ↦ λ h. refl | utilities.Modify rel to keys ↦ λ h. refl | utilities.Index base name keys ↦ λ h. refl | utilities.Copy rel columns from file ↦ λ h. refl | utilities.View rel query ↦ λ h. refl | utilities.Permit rel permit ↦ λ h. refl | utilities.Rule rel rule ↦ λ h. refl | utilities.DropPermits rel numbers ↦ λ h. refl | utilities.DropRules rel numbers ↦ λ h. refl ])
    (tagged_exact _ (inr (inl (list_exact number16 rel_key number16_exact rel_key_exact).example)) (list_exact number16 rel_key number16_exact rel_key_exact).lawful (or_exact _ _ (both_exact _ _ rel_key_exact (list_exact number16 attr number16_exact attr_exact)) (or_exact _ _ (list_exact number16 rel_key number16_exact rel_key_exact) (or_exact _ _ (both_exact _ _ rel_key_exact (both_exact _ _ spec_exact (list_exact number16 byte number16_exact byte_exact))) (or_exact _ _ (both_exact _ _ rel_key_exact (both_exact _ _ name_exact (list_exact number16 byte number16_exact byte_exact))) (or_exact _ _ (both_exact _ _ rel_key_exact (both_exact _ _ (list_exact number16 copy_col number16_exact copy_col_exact) (both_exact _ _ flag_exact chars_exact))) (or_exact _ _ (both_exact _ _ rel_key_exact (query_exact n h)) (or_exact _ _ (both_exact _ _ rel_key_exact (permit_exact n (omega arith))) (or_exact _ _ (both_exact _ _ rel_key_exact (rule_exact n (omega arith))) (or_exact _ _ (both_exact _ _ rel_key_exact (list_exact number16 number32 number16_exact number32_exact)) (last_exact _ (both_exact _ _ rel_key_exact (list_exact number16 number32 number16_exact number32_exact)))))))))))))

pub checked_exact : (n : ℕ) → 2 ≤ n → Exact (checked n)
unfolding checked
checked_exact n h = mapped_exact _ _ _
    (elim [ inl p ↦ λ f. refl | inr (inl p) ↦ λ f. refl | inr (inr p) ↦ λ f. refl ])
    (elim [ requests.Answer x ↦ λ h. refl | requests.Update x ↦ λ h. refl | requests.Utility x ↦ λ h. refl ])
    (tagged_exact _ (inl (list_exact number16 (asked n) number16_exact (asked_exact n h)).example) (list_exact number16 (asked n) number16_exact (asked_exact n h)).lawful (or_exact _ _ (list_exact number16 (asked n) number16_exact (asked_exact n h)) (or_exact _ _ (update_exact n h) (last_exact _ (utility_exact n h)))))
