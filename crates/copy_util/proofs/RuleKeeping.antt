-- Rows that keep all rules.
use Rattle.std.proofs.Common.{◌≡◌, refl, sym, ap, ◌∙◌, ℕ, ◌+◌, ◌<◌, ◌≤◌, List, [], Bool, true, false, ◌&&◌, IsTrue, length, take, get_or}
use Rattle.std.specs.List.{list_all}
use Rattle.std.proofs.lemmas.List.{take_all}
use Rattle.std.proofs.lemmas.List.Folds.{list_all_at, list_all_more}
use Rattle.calculus.specs.declared.query.QQual.{QQual}
use Rattle.calculus.specs.declared.schema.Rule.{Rule}
use Rattle.calculus.specs.Table.{tabled}
use Rattle.calculus.specs.Term.{Env, holds, no_aggs}

-- a qualification without tables
pub untabled : (q : QQual) (e : Env) → holds (tabled []) q e ≡ holds no_aggs q e
unfolding tabled
untabled q e = refl

-- the rule is kept
abbrev pub is_kept : Env → Rule → Bool
is_kept e r = holds no_aggs r.qual e

-- one that isn't decides
pub one_broken : (e : Env) (rules : List Rule) (i : ℕ) (rule : Rule) → i < length rules → rule ≡ get_or rules i rule → holds (tabled []) rule.qual e ≡ false → false ≡ list_all (is_kept e) rules
one_broken e rules i rule less is broken = sym (list_all_at (is_kept e) rules i rule less (ap (is_kept e) (sym is) ∙ sym (untabled rule.qual e) ∙ broken))

-- one more is kept
pub one_more_kept : (e : Env) (rules : List Rule) (i : ℕ) (rule : Rule) → i < length rules → rule ≡ get_or rules i rule → holds (tabled []) rule.qual e ≡ true
    → IsTrue (list_all (is_kept e) (take i rules)) → IsTrue (list_all (is_kept e) (take (i + 1) rules))
one_more_kept e rules i rule less is kept so_far =
    list_all_more (is_kept e) rules i rule less ∙ (λ j. so_far j && (ap (is_kept e) (sym is) ∙ sym (untabled rule.qual e) ∙ kept) j)

pub all_kept : (e : Env) (rules : List Rule) (i : ℕ) → length rules ≤ i → IsTrue (list_all (is_kept e) (take i rules)) → true ≡ list_all (is_kept e) rules
all_kept e rules i end so_far = sym (ap (list_all (is_kept e)) (sym (take_all i rules end)) ∙ so_far)
