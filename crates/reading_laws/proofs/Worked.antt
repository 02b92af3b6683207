-- A file of two rows, of which the end of the file ends the second, taken apart.
use Rattle.std.proofs.Common.{refl, inl, inr}
use Rattle.std.specs.Prelude.{◌≡◌, pos, List, [], ◌∷◌, codes, Ok}
use Rattle.calculus.specs.declared.value.Value.TheVariants.{Int, Text}
use Rattle.calculus.specs.declared.value.Domain.TheVariants.{I4, C}
use Rattle.calculus.specs.declared.value.Kind.{Kind}
use Rattle.calculus.specs.declared.value.Kind.TheVariants.{Of}
use Rattle.calculus.specs.declared.request.CopyCol.{CopyCol}
use Rattle.calculus.specs.declared.request.CopyForm.TheVariants.{Bin, Fixed, Until}
use Rattle.calculus.specs.Kinds.{is_text_kind}
use Rattle.calculus.specs.Text.{text_of}
use Rattle.quel_meaning.specs.Copying.{rows_in_file}
use Rattle.reading_laws.specs.Records.{IsRecord, IsEndedRecord, IsFileOf}

-- a number and a text
abbrev kinds : List Kind
kinds = Of I4 ∷ Of (C 4) ∷ []

-- the number up to a tab, the text up to a newline
abbrev columns : List CopyCol
columns = record { attr = 0; form = Until 9 } ∷ record { attr = 1; form = Until 10 } ∷ []

first_record : IsRecord kinds columns (codes "1\tx\n") (Int (pos 1) ∷ Text (codes "x") ∷ [])
unfolding text_of is_text_kind
first_record = (codes "1", codes "1\t", codes "x\n", refl, (refl, refl), (refl, refl), (codes "x", codes "x\n", [], refl, (refl, refl), (refl, refl), refl))

-- no newline stands behind the empty text
second_record : IsEndedRecord kinds columns (codes "2\t") (Int (pos 2) ∷ Text [] ∷ [])
unfolding text_of is_text_kind
second_record = inr (codes "2", codes "2\t", [], refl, (refl, refl), (refl, refl), inl (refl, refl, refl, (refl, refl)))

two_rows : IsFileOf kinds columns (codes "1\tx\n2\t") ((Int (pos 1) ∷ Text (codes "x") ∷ []) ∷ (Int (pos 2) ∷ Text [] ∷ []) ∷ [])
two_rows =
    inl (
      Int (pos 1) ∷ Text (codes "x") ∷ [],
      codes "1\tx\n",
      codes "2\t",
      refl,
      first_record,
      refl,
      inr (Int (pos 2) ∷ Text [] ∷ [], refl, second_record, refl, refl),
    )

-- and these are read
are_read : rows_in_file kinds columns (codes "1\tx\n2\t") ≡ Ok ((Int (pos 1) ∷ Text (codes "x") ∷ []) ∷ (Int (pos 2) ∷ Text [] ∷ []) ∷ [])
unfolding rows_in_file text_of is_text_kind
are_read = refl

-- a number of two bytes, the lowest first, and a text filled with blanks
wide_record : IsRecord kinds (record { attr = 0; form = Bin 2 } ∷ record { attr = 1; form = Fixed 3 } ∷ []) (1 ∷ 1 ∷ codes "ab ") (Int (pos 257) ∷ Text (codes "ab") ∷ [])
unfolding text_of is_text_kind
wide_record = (1 ∷ 1 ∷ [], 1 ∷ 1 ∷ [], codes "ab ", refl, (refl, refl), (refl, refl), (codes "ab ", codes "ab ", [], refl, (refl, refl), (refl, refl), refl))
