use Rattle.std.proofs.Common.{◌≡◌, ◌⊎◌, ℕ, ◌<◌, ◌≤◌, true, false, get_or}
use Rattle.page_cells.proofs.check.flag_bytes.Given as goal

abbrev pub invariant-bytes : goal.invariant-bytes
invariant-bytes l = record {
  free : (k : ℕ) → l.from ≤ k → k < l.i → get_or l.fn.flags k false ≡ false;
  flagged : (k : ℕ) → l.from ≤ k → k < l.i → get_or l.flags k false ≡ true;
  others : (k : ℕ) → (k < l.from) ⊎ (l.i ≤ k) → get_or l.flags k false ≡ get_or l.fn.flags k false;
}
