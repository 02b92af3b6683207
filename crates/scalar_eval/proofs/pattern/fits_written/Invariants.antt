use Rattle.std.proofs.Common.{◌≡◌, ◌+◌, ◌*◌, ◌≤◌, max, length, true, ◌||◌}
use Rattle.calculus.specs.Constant.{unescaped}
use Rattle.calculus.specs.Pattern.{fits_items, some_rest}
use Rattle.scalar_eval.specs.Walk.{NoneCloses, written_items}
use Rattle.scalar_eval.proofs.Walking.{later}
use Rattle.scalar_eval.proofs.pattern.fits_written.Given as goal

abbrev pub invariant-walk : goal.invariant-walk
invariant-walk l = record {
  answer : (fits_items (written_items l.items) l.rest || later (written_items l.again_items) l.again_rest) ≡ fits_items (written_items l.pattern) l.text;
  hidden : later (written_items l.again_items) l.again_rest ≡ true → some_rest (fits_items (written_items l.items)) l.rest ≡ true;
  within : length l.items ≤ length l.pattern;
  again_within : length l.again_items ≤ length l.pattern;
  none_closes : NoneCloses l.unclosed (unescaped l.items);
  again_none_closes : NoneCloses l.unclosed (unescaped l.again_items);
}

abbrev pub decreases-walk : goal.decreases-walk
decreases-walk l = max (length l.again_rest) (length l.rest) * (length l.pattern + 1) + length l.items
