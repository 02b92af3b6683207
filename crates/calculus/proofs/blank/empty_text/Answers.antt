use Rattle.std.proofs.Common.{◌≡◌, refl, sym, ap, ◌∙◌, [], Some}
use Rattle.calculus.specs.Text.{text_of}
use Rattle.calculus.specs.declared.value.Value.TheVariants.{Text as TextValue}
use Rattle.std.proofs.lemmas.Option.{none-some, same_Some}
use Rattle.calculus.proofs.blank.empty_text.Goals as goal

empty_is : text_of [] ≡ Some []
unfolding text_of
empty_is = refl

pub returns-in-Some : goal.returns-in-Some
returns-in-Some c = ap TextValue (same_Some c.in-Some.text [] (sym c.in-Some.is ∙ c.in_ok-text.ensures ∙ empty_is))

pub returns-in-None : goal.returns-in-None
returns-in-None c = absurd (none-some [] (sym c.in-None.is ∙ c.in_ok-text.ensures ∙ empty_is))
