-- Terms and qualifications whose variables stand further on.
use Rattle.std.proofs.Common.{◌≡◌, ap, ℕ, ◌+◌, ◌-◌, ◌≤◌, true, min, arith}
use Rattle.calculus.specs.declared.query.QTerm.{QTerm, Attr}
use Rattle.calculus.specs.declared.query.QQual.{QQual}
use Rattle.view_text.specs.Replaced.{replaced, replaced_in_qual, no_aggregate, further, shifted, shifted_qual}
use Rattle.view_text.specs.Further.{further_at_most}
use Rattle.view_text.specs.Scoped.{is_within, is_qual_within}
use Rattle.view_text.proofs.Within.{SamePut, within_more, qual_within_more, replaced_same, replaced_qual_same}

same_further : (n : ℕ) → SamePut (256 - n) (further_at_most n) (further n)
same_further n var attr h = let e : min (n + var) 255 ≡ n + var = omega arith in ap (λ v. Attr v attr) e

pub shifted_at_most : (n : ℕ) (t : QTerm) → is_within (256 - n) t ≡ true → replaced no_aggregate (further_at_most n) t ≡ shifted n t
shifted_at_most n t w = replaced_same (256 - n) (further_at_most n) (further n) (same_further n) t w

pub shifted_qual_at_most : (n : ℕ) (q : QQual) → is_qual_within (256 - n) q ≡ true → replaced_in_qual no_aggregate (further_at_most n) q ≡ shifted_qual n q
shifted_qual_at_most n q w = replaced_qual_same (256 - n) (further_at_most n) (further n) (same_further n) q w

-- a term within so many variables may be shifted as far as places are left
pub term_fits : (n k : ℕ) → n + k ≤ 256 → (t : QTerm) → is_within k t ≡ true → is_within (256 - n) t ≡ true
term_fits n k h t w = within_more k (256 - n) (omega arith) t w

pub qual_fits : (n k : ℕ) → n + k ≤ 256 → (q : QQual) → is_qual_within k q ≡ true → is_qual_within (256 - n) q ≡ true
qual_fits n k h q w = qual_within_more k (256 - n) (omega arith) q w
