-- Where nothing is asked of new rows, each pair stands.
use Rattle.std.proofs.Common.{◌≡◌, refl, sym, ap, ◌∙◌, true, ◌&&◌, if◌then◌else◌, cond, [], ◌∷◌, filter, Bool, Option, Some, None}
use Rattle.std.specs.List.{list_all}
use Rattle.calculus.specs.declared.change.Pair.{Pair}
use Rattle.calculus.specs.declared.request.Update.{Update}
use Rattle.calculus.specs.Pairs.{is_append}
use Rattle.calculus.specs.Rows.{Row}
use Rattle.calculus.specs.Term.{Env, holds, no_aggs}
use Rattle.stage_proc.specs.Given.{new_row_allowed, pair_allowed}

pub each_stands : (u : Update) → u.checks ≡ [] → ((e : Env) → (if is_append u.op then holds no_aggs u.new_cut e else true) ≡ true)
    → (p : Pair) → pair_allowed u p ≡ true
each_stands u none cut p = go p.new
  where
    go : (new : Option Row) → new_row_allowed u new ≡ true
    go None = refl
    go (Some row) = ap (λ checks. list_all (λ q. holds no_aggs q (row ∷ [])) checks && (if is_append u.op then holds no_aggs u.new_cut (row ∷ []) else true)) none ∙ cut (row ∷ [])

pub kept_one : (test : Pair → Bool) (p : Pair) → test p ≡ true → p ∷ [] ≡ filter test (p ∷ [])
kept_one test p h = ap (λ b. cond b (p ∷ []) []) (sym h)
