-- What is planned is lawful, and what is fit can be carried out.
use Rattle.std.proofs.Common.{◌≡◌, ap, subst, ℕ, nat_eq, nat_le, true, List, [], ◌∷◌, Result, Ok, Err}
use Rattle.std.specs.List.{list_all}
use Rattle.std.proofs.lemmas.List.Elements.{All-nil, All-cons}
use Rattle.calculus.specs.declared.change.DbChange.{DbChange}
use Rattle.calculus.specs.declared.query.Query.{Query}
use Rattle.calculus.specs.declared.request.Asked.{Asked}
use Rattle.calculus.specs.declared.request.Checked.TheVariants as checked
use Rattle.calculus.specs.declared.request.Update.{Update}
use Rattle.calculus.specs.declared.request.UpdateOp.TheVariants as op
use Rattle.calculus.specs.Change.{IsLawful}
use Rattle.calculus.specs.Database.{Db}
use Rattle.calculus.specs.IsDatabase.{IsDatabase}
use Rattle.calculus.specs.Limits.{most_expanded_variables}
use Rattle.calculus.specs.QueryParts.{vars_of}
use Rattle.calculus.specs.Replacement.{updated}
use Rattle.calculus.specs.Sizes.{update_expanded_variables}
use Rattle.calculus.specs.Stored.{kept_rows}
use Rattle.calculus.specs.Who.{Unrestricted}
use Rattle.plan_laws.proofs.Created.{nothing_ranges}
use Rattle.plan_laws.proofs.FitUtilities.{new_is_free}
use Rattle.quel_meaning.proofs.Each.{left, right}
use Rattle.quel_meaning.specs.Fit.{checks_fit, fits, is_fit, is_new, places_fit, relation_fits, suits, update_fits, update_kinds_fit}
use Rattle.quel_meaning.specs.FitQueries.{asked_fits, is_kept, kept_alone, reads_fit, sources_fit}
use Rattle.quel_meaning.specs.KindsInQueries.{assignments_fit}
use Rattle.quel_meaning.specs.SpelledTree.{made_key_is_spelled, tree_is_spelled, update_is_spelled}
use Rattle.stage_proc.specs.declared.stopped.Stopped.{Stopped}
use Rattle.stage_proc.specs.declared.stopped.Stopped.TheVariants.{No, Base, OutOfMemory}
use Rattle.stage_proc.specs.Plans.{AreDoable, IsDoableUpdate, Plans}
use Rattle.stage_proc.specs.TableCauses.{CanBeAnswered}
use Rattle.update_change.specs.Changes.{MakesNew}
use Rattle.update_laws.proofs.Fitted.{fitting_update_lawful}

-- ---- a fit tree can be carried out

can_be_answered : (db : Db) (q : Query) → reads_fit (kept_alone db) db q ≡ true → CanBeAnswered db q
unfolding reads_fit
can_be_answered db q h = record {
  read = left _ _ h;
  fit = left _ _ (right (list_all (is_kept db) (vars_of q)) _ h);
  numbered = left _ _ (right (sources_fit (kept_alone db) db q) _ (right (list_all (is_kept db) (vars_of q)) _ h));
}

module _ (db : Db) (user : List ℕ) where
  one_answered : (a : Asked) → asked_fits (kept_alone db) db a ≡ true → CanBeAnswered db a.query
  unfolding asked_fits
  one_answered a h = can_be_answered db a.query (left _ _ h)

  all_answered : (asked : List Asked) → list_all (asked_fits (kept_alone db) db) asked ≡ true → AreDoable db asked
  all_answered [] h = All-nil _
  all_answered (a ∷ asked) h =
      All-cons (λ (x : Asked). CanBeAnswered db x.query) a asked (one_answered a (left _ _ h)) (all_answered asked (right (asked_fits (kept_alone db) db a) _ h))

  pub answer_doable : (asked : List Asked) → is_fit db user (checked.Answer asked) ≡ true → AreDoable db asked
  unfolding fits suits tree_is_spelled
  answer_doable asked h = all_answered asked (right (tree_is_spelled (checked.Answer asked)) _ h)

  pub update_doable : (u : Update) → is_fit db user (checked.Update u) ≡ true → IsDoableUpdate db u
  unfolding fits suits tree_is_spelled
  update_doable u h = record { spelled = left _ _ h; fits = right (tree_is_spelled (checked.Update u)) _ h }

-- ---- updates

module _ (db : Db) (u : Update) where
  relation_of : update_fits (kept_alone db) db u ≡ true → relation_fits db u ≡ true
  unfolding update_fits
  relation_of h =
      right (checks_fit db u) _ (right (places_fit db u) _
      (right (nat_le (update_expanded_variables db u) most_expanded_variables) _
      (right (assignments_fit db u) _ (right (update_kinds_fit db u.query) _ (right (reads_fit (kept_alone db) db u.query) _ h)))))

  pub makes_new : IsDoableUpdate db u → MakesNew db u
  unfolding update_is_spelled
  makes_new doable into =
      let fits : relation_fits db (record u { op = op.Into }) ≡ true = subst (λ does. relation_fits db (record u { op = does }) ≡ true) into (relation_of doable.fits) in
      let named : made_key_is_spelled (record u { op = op.Into }) ≡ true = subst (λ does. made_key_is_spelled (record u { op = does }) ≡ true) into (left (made_key_is_spelled u) _ doable.spelled) in
      let f = new_is_free db u.rel named (left (is_new db u.rel.owner u.rel.name) _ (right (nat_eq u.old 255) _ fits)) in
      ap kept_rows (nothing_ranges db u.rel f.named f.unused)

  pub update_answered : IsDoableUpdate db u → CanBeAnswered db u.query
  unfolding update_fits
  update_answered doable = can_be_answered db u.query (left _ _ doable.fits)

  pub update_lawful : IsDatabase db → IsDoableUpdate db u → (result : Result DbChange Stopped)
      → Plans (λ change. updated db Unrestricted u ≡ Ok change) (λ number. updated db Unrestricted u ≡ Err number) result
      → Plans (λ change. (updated db Unrestricted u ≡ Ok change) × IsLawful db change) (λ number. updated db Unrestricted u ≡ Err number) result
  update_lawful is doable (Ok change) h = (h, fitting_update_lawful (kept_alone db) db Unrestricted u change is doable.spelled doable.fits h)
  update_lawful is doable (Err (No number)) h = h
  update_lawful is doable (Err (Base fault)) h = tt
  update_lawful is doable (Err OutOfMemory) h = tt
