-- Aggregates by their parts.
use Rattle.std.proofs.Common.{◌≡◌, refl, sym, ap, ◌∙◌, suc, arith, Bool, true, false, ◌&&◌, List, [], ◌∷◌, length}
use Rattle.std.specs.List.{list_all, zip}
use Rattle.calculus.specs.declared.value.Kind.{Kind}
use Rattle.calculus.specs.declared.query.QAgg.{QAgg}
use Rattle.calculus.specs.declared.query.QTerm.{QTerm}
use Rattle.calculus.specs.Aggregate.{source_kinds}
use Rattle.calculus.specs.Database.{Db}
use Rattle.calculus.specs.Kinds.{comparable, kind_of, kinds_fit}
use Rattle.quel_meaning.specs.KindsInQueries.{aggregate_kind, fitting_kind, links_fit}

abbrev Vars : Type 0
Vars = List (List Kind)

-- as many terms fit item by item
pub linked : (inner vars : Vars) (ts us : List QTerm) → length ts ≡ length us
    → list_all (λ (p : QTerm × QTerm). comparable (kind_of p.0 inner) (kind_of p.1 vars)) (zip ts us) ≡ links_fit inner ts vars us
linked inner vars [] [] h = refl
linked inner vars [] (u ∷ us) h = absurd (omega (arith, h))
linked inner vars (t ∷ ts) [] h = absurd (omega (arith, h))
linked inner vars (t ∷ ts) (u ∷ us) h = ap (λ b. comparable (kind_of t inner) (kind_of u vars) && b) (linked inner vars ts us (omega (arith, h)))

and_false : (b : Bool) → false ≡ (b && false)
and_false true = refl
and_false false = refl

-- those that aren't as many don't
pub unlinked : (inner vars : Vars) (ts us : List QTerm) → (length ts ≡ length us → ⊥) → false ≡ links_fit inner ts vars us
unlinked inner vars [] [] h = absurd (h refl)
unlinked inner vars [] (u ∷ us) h = refl
unlinked inner vars (t ∷ ts) [] h = refl
unlinked inner vars (t ∷ ts) (u ∷ us) h =
    and_false (comparable (kind_of t inner) (kind_of u vars)) ∙ ap (λ b. comparable (kind_of t inner) (kind_of u vars) && b) (unlinked inner vars ts us (λ e. h (ap suc e)))

-- the kind of an aggregate whose source has attributes of these kinds
pub kind_over : (db : Db) (g : QAgg) (inner vars : Vars) → inner ≡ source_kinds db g.source ∷ []
    → fitting_kind (links_fit inner g.by vars g.link && kinds_fit g.qual inner) g.op (kind_of g.arg inner) ≡ aggregate_kind db g vars
unfolding aggregate_kind
kind_over db g inner vars e = ap (λ (inner : Vars). fitting_kind (links_fit inner g.by vars g.link && kinds_fit g.qual inner) g.op (kind_of g.arg inner)) e
