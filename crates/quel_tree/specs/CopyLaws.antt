-- The columns of files that are copied, as bytes: the laws.
use Rattle.std.specs.Prelude.{◌<◌}
use Rattle.std.proofs.Common.{inl, inr, refl, arith}
use Rattle.tree_words.specs.Exact.{Exact}
use Rattle.tree_words.specs.FormLaws.{mapped_exact}
use Rattle.tree_words.specs.LetterLaws.{byte_exact, byte_if_exact}
use Rattle.tree_words.specs.PairLaws.{both_exact}
use Rattle.tree_words.specs.WayLaws.{tagged_exact, or_exact, last_exact}
use Rattle.calculus.specs.declared.request.CopyForm.TheVariants as forms
use Rattle.quel_tree.specs.Copies.{copy_col, copy_form, is_mark, is_number_size}
use Rattle.quel_tree.specs.Values.{is_width}

pub nine_is : 9 < 256
nine_is = omega arith

pub copy_form_exact : Exact copy_form
unfolding copy_form
copy_form_exact = mapped_exact _ _ _
    (elim [ inl x ↦ λ f. refl | inr (inl x) ↦ λ f. refl | inr (inr x) ↦ λ f. refl ])
    (elim [ forms.Bin x ↦ λ f. refl | forms.Fixed x ↦ λ f. refl | forms.Until x ↦ λ f. refl ])
    (tagged_exact _ (inl 1) (omega arith, refl) (or_exact _ _ (byte_if_exact is_number_size 1 (omega arith) refl) (or_exact _ _ (byte_if_exact is_width 1 (omega arith) refl) (last_exact _ (byte_if_exact is_mark 9 (omega arith) refl)))))

pub copy_col_exact : Exact copy_col
unfolding copy_col
copy_col_exact = mapped_exact _ _ _ (λ p f. refl) (λ x f. refl) (both_exact _ _ byte_exact copy_form_exact)
