-- Texts of one variable.
use Rattle.std.proofs.Common.{◌≡◌, refl, true, List, [], ◌∷◌, length, None, subst, sym}
use Rattle.calculus.specs.declared.query.RelKey.{RelKey}
use Rattle.calculus.specs.declared.query.QQual.{QQual}
use Rattle.view_text.specs.Scoped.{is_scoped, is_qual_within}
use Rattle.view_text.proofs.Within.{both_true}
use Rattle.std.specs.List.{list_all}

-- with one condition, which names that variable alone
pub scoped_of_one : (vars : List RelKey) (condition : QQual) (conditions : List QQual) → length vars ≡ 1 → conditions ≡ condition ∷ [] → is_qual_within 1 condition ≡ true
    → is_scoped (record { vars = vars; terms = None; conditions = conditions }) ≡ true
scoped_of_one (v ∷ []) q conditions e f h =
    subst (λ qs. list_all (is_qual_within 1) qs ≡ true) (sym f) (both_true (is_qual_within 1 q) true h refl)
scoped_of_one [] q conditions e f h = cc e
scoped_of_one (v ∷ w ∷ more) q conditions e f h = cc e
