use Rattle.std.proofs.Common.{◌≡◌, ◌||◌, [], ◌∷◌, sym, ap, ◌∙◌, arith}
use Rattle.calculus.specs.Pattern.{fits_items, some_rest}
use Rattle.scalar_eval.specs.Walk.{written_items}
use Rattle.scalar_eval.proofs.Walking.{later, star_step, star_hidden, byte_step, byte_hidden, refused, again_step, at_end, end_written}
use Rattle.scalar_eval.proofs.pattern.fits_written.Goals as goal

pub walk-preserved-in-Some : goal.walk-preserved-in-Some
walk-preserved-in-Some c = record {
  answer = star_step _ _ c.walk.rest.now _ _ c.in-Some.ensures.first c.walk.invariant.answer c.walk.invariant.hidden;
  hidden = star_hidden _ c.walk.rest.now;
  within = omega (arith, c.in-Some.ensures.shorter, c.walk.invariant.within);
  again_within = omega (arith, c.in-Some.ensures.shorter, c.walk.invariant.within);
  none_closes = c.in-Some.ensures.none_closes _ c.walk.invariant.none_closes;
  again_none_closes = c.in-Some.ensures.none_closes _ c.walk.invariant.none_closes;
}

pub returns-in_default-front : goal.returns-in_default-front
returns-in_default-front c =
    let e : c.walk.rest.now ≡ [] = c.in_default-front.ensures in
    c.is_empty.ensures ∙ sym (end_written c.walk.items.now c.in_default.ensures.first)
    ∙ at_end (written_items c.walk.items.now) (later (written_items c.walk.again_items.now) c.walk.again_rest.now) _
    (ap (λ xs. fits_items (written_items c.walk.items.now) xs || later (written_items c.walk.again_items.now) c.walk.again_rest.now) (sym e) ∙ c.walk.invariant.answer)
    (λ t. ap (some_rest (fits_items (written_items c.walk.items.now))) (sym e) ∙ c.walk.invariant.hidden t)

pub walk-preserved-in-Some-behind_byte : goal.walk-preserved-in-Some-behind_byte
walk-preserved-in-Some-behind_byte c =
    let e = c.in-Some-front.ensures in
    record {
      answer = byte_step (written_items c.walk.items.now) _ _ c.in-Some-front.more.now _ _ c.in_default.ensures.first c.in-Some-behind_byte.ensures.first
          (ap (λ xs. fits_items (written_items c.walk.items.now) xs || later (written_items c.walk.again_items.now) c.walk.again_rest.now) (sym e) ∙ c.walk.invariant.answer);
      hidden = byte_hidden (written_items c.walk.items.now) _ c.in-Some-front.byte c.in-Some-front.more.now _ c.in_default.ensures.first c.in-Some-behind_byte.ensures.first
          (λ t. ap (some_rest (fits_items (written_items c.walk.items.now))) (sym e) ∙ c.walk.invariant.hidden t);
      within = omega (arith, c.in-Some-behind_byte.ensures.shorter, c.walk.invariant.within);
      again_within = c.walk.invariant.again_within;
      none_closes = c.in-Some-behind_byte.ensures.none_closes;
      again_none_closes = c.walk.invariant.again_none_closes;
    }

pub returns-in_default-front-2 : goal.returns-in_default-front-2
returns-in_default-front-2 c =
    let e = c.in-Some-front.ensures in
    let none : c.walk.again_rest.now ≡ [] = c.in_default-front-2.ensures in
    ap (later (written_items c.walk.again_items.now)) (sym none)
    ∙ refused (written_items c.walk.items.now) c.in-Some-front.byte c.in-Some-front.more.now (later (written_items c.walk.again_items.now) c.walk.again_rest.now) _
    c.in_default.ensures.first c.in-None.ensures.first
    (ap (λ xs. fits_items (written_items c.walk.items.now) xs || later (written_items c.walk.again_items.now) c.walk.again_rest.now) (sym e) ∙ c.walk.invariant.answer)

pub walk-preserved : goal.walk-preserved
walk-preserved c =
    let e = c.in-Some-front.ensures in
    let f = c.in-Some-front-2.ensures in
    record {
      answer = again_step (written_items c.walk.items.now) (written_items c.walk.again_items.now) c.in-Some-front.byte c.in-Some-front.more.now c.in-Some-front-2.later.now c.in-Some-front-2.field-0-0 _
          c.in_default.ensures.first c.in-None.ensures.first
          (ap (λ xs. fits_items (written_items c.walk.items.now) xs || later (written_items c.walk.again_items.now) (c.in-Some-front-2.field-0-0 ∷ c.in-Some-front-2.later.now)) (sym e)
          ∙ ap (λ ys. fits_items (written_items c.walk.items.now) c.walk.rest.now || later (written_items c.walk.again_items.now) ys) (sym f)
          ∙ c.walk.invariant.answer);
      hidden = star_hidden _ c.in-Some-front-2.later.now;
      within = c.walk.invariant.again_within;
      again_within = c.walk.invariant.again_within;
      none_closes = c.walk.invariant.again_none_closes;
      again_none_closes = c.walk.invariant.again_none_closes;
    }
