-- What is known of relations, and the keys of an order, as bytes: the laws.
use Rattle.std.proofs.Common.{inl, inr, refl}
use Rattle.tree_words.specs.ChoiceLaws.{flag_exact}
use Rattle.tree_words.specs.Exact.{Exact}
use Rattle.tree_words.specs.FormLaws.{mapped_exact}
use Rattle.tree_words.specs.LetterLaws.{byte_exact, nothing_exact}
use Rattle.tree_words.specs.ListLaws.{list_exact}
use Rattle.tree_words.specs.NumberLaws.{number16_exact}
use Rattle.tree_words.specs.Words.{byte, number16}
use Rattle.tree_words.specs.PairLaws.{both_exact}
use Rattle.tree_words.specs.WayLaws.{tagged_exact, or_exact, last_exact}
use Rattle.calculus.specs.declared.schema.Spec.TheVariants as forms
use Rattle.quel_tree.specs.NameLaws.{name_exact}
use Rattle.quel_tree.specs.ValueLaws.{kind_exact}
use Rattle.quel_tree.specs.Relations.{attr, column, columns, rel_info, rel_key, sort_key, spec}

pub spec_exact : Exact spec
unfolding spec
spec_exact = mapped_exact _ _ _
    (elim [ inl _ ↦ λ f. refl | inr (inl _) ↦ λ f. refl | inr (inr (inl _)) ↦ λ f. refl | inr (inr (inr (inl _))) ↦ λ f. refl | inr (inr (inr (inr _))) ↦ λ f. refl ])
    (elim [ forms.Heap ↦ λ f. refl | forms.Hash ↦ λ f. refl | forms.Isam ↦ λ f. refl | forms.View ↦ λ f. refl | forms.Index ↦ λ f. refl ])
    (tagged_exact _ (inl tt) tt (or_exact _ _ nothing_exact (or_exact _ _ nothing_exact (or_exact _ _ nothing_exact (or_exact _ _ nothing_exact (last_exact _ nothing_exact))))))

pub rel_key_exact : Exact rel_key
unfolding rel_key
rel_key_exact = mapped_exact _ _ _ (λ p f. refl) (λ x f. refl) (both_exact _ _ name_exact name_exact)

pub attr_exact : Exact attr
unfolding attr
attr_exact = mapped_exact _ _ _ (λ p f. refl) (λ x f. refl) (both_exact _ _ name_exact kind_exact)

pub sort_key_exact : Exact sort_key
unfolding sort_key
sort_key_exact = mapped_exact _ _ _ (λ p f. refl) (λ x f. refl) (both_exact _ _ number16_exact flag_exact)

pub column_exact : Exact column
unfolding column
column_exact = mapped_exact _ _ _ (λ p f. refl) (λ x f. refl) (both_exact _ _ name_exact kind_exact)

pub columns_exact : Exact columns
unfolding columns
columns_exact = list_exact number16 column number16_exact column_exact

pub rel_info_exact : Exact rel_info
unfolding rel_info
rel_info_exact = mapped_exact _ _ _ (λ p f. refl) (λ x f. refl) (both_exact _ _ rel_key_exact (both_exact _ _ spec_exact (both_exact _ _ (list_exact number16 attr number16_exact attr_exact) (list_exact number16 byte number16_exact byte_exact))))
