-- Changes of a database as bytes: the laws.
use Rattle.std.specs.Prelude.{ℕ, ◌≤◌}
use Rattle.std.proofs.Common.{inl, inr, refl, arith}
use Rattle.quel_tree.specs.Changes.{change}
use Rattle.quel_tree.specs.NameLaws.{name_exact}
use Rattle.quel_tree.specs.PermitLaws.{permit_exact, rule_exact}
use Rattle.quel_tree.specs.QueryLaws.{query_exact}
use Rattle.quel_tree.specs.RelationLaws.{rel_info_exact, rel_key_exact, spec_exact}
use Rattle.quel_tree.specs.Relations.{rel_key}
use Rattle.quel_tree.specs.ValueLaws.{row_exact}
use Rattle.quel_tree.specs.Values.{row}
use Rattle.tree_words.specs.Exact.{Exact}
use Rattle.tree_words.specs.FormLaws.{mapped_exact}
use Rattle.tree_words.specs.LetterLaws.{byte_exact}
use Rattle.tree_words.specs.ListLaws.{list_exact}
use Rattle.tree_words.specs.NumberLaws.{number16_exact, number32_exact}
use Rattle.tree_words.specs.PairLaws.{both_exact}
use Rattle.tree_words.specs.WayLaws.{last_exact, or_exact, tagged_exact}
use Rattle.tree_words.specs.Words.{byte, number16, number32}
use Rattle.calculus.specs.declared.change.DbChange.TheVariants as changes

pub change_exact : (n : ℕ) → 2 ≤ n → Exact (change n)
unfolding change
change_exact n h = mapped_exact _ _ _
    (elim [ inl p ↦ λ f. refl | inr (inl p) ↦ λ f. refl | inr (inr (inl p)) ↦ λ f. refl | inr (inr (inr (inl p))) ↦ λ f. refl | inr (inr (inr (inr (inl p)))) ↦ λ f. refl | inr (inr (inr (inr (inr (inl p))))) ↦ λ f. refl | inr (inr (inr (inr (inr (inr (inl p)))))) ↦ λ f. refl | inr (inr (inr (inr (inr (inr (inr (inl p))))))) ↦ λ f. refl | inr (inr (inr (inr (inr (inr (inr (inr (inl p)))))))) ↦ λ f. refl | inr (inr (inr (inr (inr (inr (inr (inr (inr p)))))))) ↦ λ f. refl ])
    (elim [ changes.Rows rel remove add ↦ λ h. refl | changes.Create info rows ↦ λ h. refl | changes.Destroy rels ↦ λ h. refl | changes.Modify rel to keys ↦ λ h. refl | changes.Index base name keys ↦ λ h. refl | changes.View info query ↦ λ h. refl | changes.Permit rel permit ↦ λ h. refl | changes.Rule rel rule ↦ λ h. refl | changes.DropPermits rel numbers ↦ λ h. refl | changes.DropRules rel numbers ↦ λ h. refl ])
    (tagged_exact _ (inr (inr (inl (list_exact number16 rel_key number16_exact rel_key_exact).example))) (list_exact number16 rel_key number16_exact rel_key_exact).lawful (or_exact _ _ (both_exact _ _ rel_key_exact (both_exact _ _ (list_exact number32 row number32_exact row_exact) (list_exact number32 row number32_exact row_exact))) (or_exact _ _ (both_exact _ _ rel_info_exact (list_exact number32 row number32_exact row_exact)) (or_exact _ _ (list_exact number16 rel_key number16_exact rel_key_exact) (or_exact _ _ (both_exact _ _ rel_key_exact (both_exact _ _ spec_exact (list_exact number16 byte number16_exact byte_exact))) (or_exact _ _ (both_exact _ _ rel_key_exact (both_exact _ _ name_exact (list_exact number16 byte number16_exact byte_exact))) (or_exact _ _ (both_exact _ _ rel_info_exact (query_exact n h)) (or_exact _ _ (both_exact _ _ rel_key_exact (permit_exact n (omega arith))) (or_exact _ _ (both_exact _ _ rel_key_exact (rule_exact n (omega arith))) (or_exact _ _ (both_exact _ _ rel_key_exact (list_exact number16 number32 number16_exact number32_exact)) (last_exact _ (both_exact _ _ rel_key_exact (list_exact number16 number32 number16_exact number32_exact)))))))))))))
