-- Aggregates at their slots.
use Rattle.std.proofs.Common.{◌≡◌, refl, ap, ◌∙◌, ℕ, zero, suc, List, [], ◌∷◌, Some, None}
use Rattle.std.specs.List.{slice_get}
use Rattle.calculus.specs.declared.query.QTerm.TheVariants.{Agg}
use Rattle.calculus.specs.declared.query.QAgg.{QAgg}
use Rattle.calculus.specs.Tree.{aggregate}
use Rattle.calculus.proofs.Forms.{agg_is}
use Rattle.view_text.specs.Replaced.{aggregate_at, without_value}

pub aggregate_there : (gs : List QAgg) (slot : ℕ) (g : QAgg) → slice_get gs slot ≡ Some g → Agg g ≡ aggregate_at gs slot
aggregate_there [] slot g e = cc e
aggregate_there (h ∷ gs) zero g e = let same : g ≡ h = cc e in agg_is g ∙ ap aggregate same
aggregate_there (h ∷ gs) (suc slot) g e = aggregate_there gs slot g e

pub aggregate_missing : (gs : List QAgg) (slot : ℕ) → slice_get gs slot ≡ None → aggregate_at gs slot ≡ without_value
aggregate_missing [] slot e = refl
aggregate_missing (h ∷ gs) zero e = cc e
aggregate_missing (h ∷ gs) (suc slot) e = aggregate_missing gs slot e
