-- Values, constants and rights that stand, and some that don't.
use Rattle.std.proofs.Common.{◌≡◌, refl, ℕ, true, false, [], ◌∷◌}
use Rattle.std.specs.Prelude.{codes, pos, negsuc, None}
use Rattle.calculus.specs.declared.operator.AggOp.TheVariants.{Min}
use Rattle.calculus.specs.declared.query.AggSource.TheVariants.{Named}
use Rattle.calculus.specs.declared.query.QAgg.{QAgg}
use Rattle.calculus.specs.declared.query.QQual.{True}
use Rattle.calculus.specs.declared.query.QTerm.{QTerm, Int, Chars, Attr}
use Rattle.calculus.specs.declared.request.Checked.{Checked}
use Rattle.calculus.specs.declared.request.Checked.TheVariants as checked
use Rattle.calculus.specs.declared.request.Utility.TheVariants as utility
use Rattle.calculus.specs.declared.value.Value.TheVariants as value
use Rattle.calculus.specs.Chars.{is_chars}
use Rattle.calculus.specs.Keys.{key_of}
use Rattle.calculus.specs.Spelled.{term_is_spelled}
use Rattle.calculus.specs.Text.{is_text}
use Rattle.calculus.specs.Tree.{aggregate, concat}
use Rattle.update_laws.specs.Proper.{is_proper}
use Rattle.update_laws.specs.Walked.{names_rights}

-- a text doesn't end with a blank, and a number is always such a value
blank_at_the_end : is_proper (value.Text (codes "ann ")) ≡ false
unfolding is_text is_chars
blank_at_the_end = refl

number : is_proper (value.Int (pos 300)) ≡ true
number = refl

-- a constant may end with one, and its text is without it
constant : term_is_spelled (concat (Chars (codes "ann ")) (Chars (codes "b*"))) ≡ true
unfolding is_chars
constant = refl

-- a byte outside 32 to 126
bell : term_is_spelled (concat (Chars (codes "ann")) (Chars (7 ∷ []))) ≡ false
unfolding is_chars
bell = refl

-- the least number, and one that has more than 64 bits
least : term_is_spelled (Int (negsuc 9223372036854775807)) ≡ true
least = refl

too_great : term_is_spelled (Int (pos 9223372036854775808)) ≡ false
too_great = refl

-- the least value of one attribute, grouped by this term
abbrev least_by : QTerm → QAgg
least_by t = record { slot = 0; op = Min; source = Named (key_of (codes "ann") (codes "p")); arg = Attr 0 0; by = t ∷ []; link = Attr 0 1 ∷ []; qual = True }

-- of an aggregate the terms that group the rows count
inside : term_is_spelled (aggregate (least_by (Chars (7 ∷ [])))) ≡ false
unfolding is_chars
inside = refl

inside_too : term_is_spelled (aggregate (least_by (Chars (codes "a")))) ≡ true
unfolding is_chars
inside_too = refl

-- a permit of this sum of rights
abbrev permit_of : ℕ → Checked
permit_of ops = checked.Utility (utility.Permit (key_of (codes "ann") (codes "p")) (record { number = 0; ops = ops; attrs = []; user = None; qual = True }))

all_rights : names_rights (permit_of 15) ≡ true
all_rights = refl

no_right : names_rights (permit_of 16) ≡ false
no_right = refl
