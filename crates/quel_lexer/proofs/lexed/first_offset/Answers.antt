use Rattle.std.proofs.Common.{◌∙◌, sym, ap, refl}
use Rattle.quel_grammar.specs.Next.{first_offset}
use Rattle.quel_grammar.specs.Pieces.{pieces_from}
use Rattle.quel_lexer.specs.Lexed.{first_begin}
use Rattle.quel_lexer.proofs.Cutting.{offset, offset_or}
use Rattle.quel_lexer.proofs.lexed.first_offset.Goals as goal

pub returns-in-Some : goal.returns-in-Some
unfolding first_offset
returns-in-Some c =
    sym (ap (offset_or c.args.at c.in_ok-lexed.lexed.stop) (ap first_begin (sym c.deref.ensures.value) ∙ sym c.first_begin.ensures ∙ c.in-Some.is))
    ∙ offset (pieces_from c.args.text.now c.args.at) c.in_ok-lexed.lexed c.args.at c.in_ok-lexed.ensures.front (c.in_ok-lexed.ensures.all refl)

pub returns : goal.returns
unfolding first_offset
returns c =
    c.bad_or.ensures ∙ sym (ap (offset_or c.args.at c.in_ok-lexed.lexed.stop) (ap first_begin (sym c.deref.ensures.value) ∙ sym c.first_begin.ensures ∙ c.in-None.is))
    ∙ offset (pieces_from c.args.text.now c.args.at) c.in_ok-lexed.lexed c.args.at c.in_ok-lexed.ensures.front (c.in_ok-lexed.ensures.all refl)
