-- The columns of files that are copied, as bytes.
use Rattle.std.specs.Prelude.{ℕ, Bool, ◌||◌, ◌==◌, ◌⊎◌}
use Rattle.std.proofs.Common.{inl, inr}
use Rattle.tree_words.specs.Codec.{Codec}
use Rattle.tree_words.specs.Words.{both, byte, byte_if, mapped}
use Rattle.tree_words.specs.Ways.{tagged, ◌or◌, last}
use Rattle.calculus.specs.declared.request.CopyCol.{CopyCol}
use Rattle.calculus.specs.declared.request.CopyForm.{CopyForm}
use Rattle.calculus.specs.declared.request.CopyForm.TheVariants as forms
use Rattle.quel_tree.specs.Values.{is_width}

-- how many bytes a number may have in a file: 1, 2 or 4
abbrev pub is_number_size : ℕ → Bool
is_number_size n = n == 1 || n == 2 || n == 4

-- a byte that may end a column: a tab, a newline, a blank, a comma or a colon
abbrev pub is_mark : ℕ → Bool
is_mark b = b == 9 || b == 10 || b == 32 || b == 44 || b == 58

abbrev pub copy_form_of : ℕ ⊎ (ℕ ⊎ ℕ) → CopyForm
copy_form_of (inl x) = forms.Bin x
copy_form_of (inr (inl x)) = forms.Fixed x
copy_form_of (inr (inr x)) = forms.Until x

abbrev pub copy_form_way : CopyForm → ℕ ⊎ (ℕ ⊎ ℕ)
copy_form_way (forms.Bin x) = inl x
copy_form_way (forms.Fixed x) = inr (inl x)
copy_form_way (forms.Until x) = inr (inr x)

-- the form of a column: 0 and how many bytes its numbers have, 1 and how many bytes its texts have, or 2 and the byte that ends it
unfoldable pub copy_form : Codec CopyForm
copy_form = mapped copy_form_of copy_form_way (tagged ((byte_if is_number_size) or (byte_if is_width) or last (byte_if is_mark)))

-- a column: the place of its attribute and its form
unfoldable pub copy_col : Codec CopyCol
copy_col = mapped (λ p. record { attr = p.0; form = p.1 }) (λ c. (c.attr, c.form)) (both byte copy_form)
