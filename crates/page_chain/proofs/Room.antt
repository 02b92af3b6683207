-- A page that had no room for a row.
use Rattle.std.proofs.Common.{◌≡◌, refl, sym, ap, ◌∙◌, ℕ, zero, suc, ◌<◌, ◌≤◌, true, false, List, [], Option, Some, None, arith}
use Rattle.std.specs.Prelude.{IfNone}
use Rattle.std.specs.Option.{is_some}
use Rattle.std.proofs.lemmas.Bool.{false≢true}
use Rattle.page_cells.specs.Page.{slots, line_for}
use Rattle.page_chain.proofs.Coming.{fresh_has_room}

-- it is as it was
pub page_as_was : (o : Option ℕ) (p q : List ℕ) → is_some o ≡ false → IfNone o (q ≡ p) → q ≡ p
page_as_was None p q none same = same
page_as_was (Some line) p q none same = cc

-- it isn't a fresh one
pub some_came : (p q : List ℕ) (count : ℕ) (o : Option ℕ) (long : ℕ) → is_some o ≡ false → (count ≡ 0 → q ≡ p) → slots p ≡ [] → long ≤ 1012 → o ≡ line_for (slots q) long → 0 < count
some_came p q (suc count) o long none still fresh le is = omega arith
some_came p q zero o long none still fresh le is =
    let placed : is_some o ≡ true = ap is_some (is ∙ ap (λ s. line_for s long) (ap slots (still refl) ∙ fresh) ∙ fresh_has_room long le) in
    absurd (false≢true (sym none ∙ placed))
