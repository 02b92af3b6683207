use Rattle.std.proofs.Common.{sym, ap, ◌∙◌, rules, arith}
use Rattle.calculus.specs.Constant.{constant_text}
use Rattle.calculus.proofs.Constants.{kept_with, text_step, no_text, blank_read, byte_read}
use Rattle.calculus.proofs.kinds.constant_length.Goals as goal

pub bytes-preserved-then-unescaped_byte-ne32 : goal.bytes-preserved-then-unescaped_byte-ne32
bytes-preserved-then-unescaped_byte-ne32 c = record {
  counted = byte_read c.in-Some.unescaped_byte.byte (search rules) c.bytes.read c.bytes.kept (constant_text c.in-Some.behind.now)
      ∙ ap (kept_with c.bytes.read c.bytes.kept) (sym (text_step _ _ _ c.in-Some.ensures.first))
      ∙ c.bytes.invariant.counted;
  within = omega (arith, c.in-Some.ensures.shorter, c.bytes.invariant.within);
  below = search rules;
}

pub bytes-preserved : goal.bytes-preserved
bytes-preserved c = record {
  counted = blank_read c.in-Some.unescaped_byte.byte c.if-unescaped_byte-ne32.false c.bytes.read c.bytes.kept (constant_text c.in-Some.behind.now)
      ∙ ap (kept_with c.bytes.read c.bytes.kept) (sym (text_step _ _ _ c.in-Some.ensures.first))
      ∙ c.bytes.invariant.counted;
  within = omega (arith, c.in-Some.ensures.shorter, c.bytes.invariant.within);
  below = omega (arith, c.bytes.invariant.below);
}

pub returns-clause-counted : goal.returns-clause-counted
returns-clause-counted c =
    ap (kept_with c.bytes.read c.bytes.kept) (sym no_text ∙ ap constant_text (sym (search rules)))
    ∙ c.bytes.invariant.counted
