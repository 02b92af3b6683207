use Rattle.std.proofs.Common.{◌++◌, sym, ◌∙◌}
use Rattle.scalar_eval.proofs.Texts.{joined_is, joined_is_none}
use Rattle.scalar_eval.proofs.values.joined_text.Goals as goal

pub returns-in-Some : goal.returns-in-Some
returns-in-Some c =
    joined_is _ _ c.deref.result.now c.in-Some.text c.bytes.ensures.text c.bytes-2.ensures.text
    (c.deref.ensures.value ∙ c.in_ok-extend_from_slice.ensures.items ∙ (λ i. (c.in_ok-bytes.ensures.items ∙ c.bytes.ensures.bytes) i ++ c.bytes-2.ensures.bytes i))
    (sym c.in-Some.is ∙ c.in_ok-text.ensures)

pub returns : goal.returns
returns c =
    joined_is_none _ _ c.deref.result.now c.bytes.ensures.text c.bytes-2.ensures.text
    (c.deref.ensures.value ∙ c.in_ok-extend_from_slice.ensures.items ∙ (λ i. (c.in_ok-bytes.ensures.items ∙ c.bytes.ensures.bytes) i ++ c.bytes-2.ensures.bytes i))
    (sym c.in-None.is ∙ c.in_ok-text.ensures)
