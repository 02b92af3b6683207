use Rattle.std.proofs.Common.{◌≡◌, sym, ap, ◌∙◌, subst, true, IfOk}
use Rattle.calculus.specs.Replacement.{first_refusal}
use Rattle.quel_meaning.specs.Causes.{refusals_by, delete_refusals}
use Rattle.quel_meaning.specs.StatementUpdate.{delete_of}
use Rattle.view_sizes.specs.Listing.{sources_list_few}
use Rattle.quel_refusals.proofs.Standing.{deleted, delete_query, updated}
use Rattle.quel_refusals.proofs.refusing.changed_refusal.Goals as goal

pub returns-in-Delete-clause-known : goal.returns-in-Delete-clause-known
returns-in-Delete-clause-known g c = λ scope q h k e.
    let var = c.in-Delete.var in
    let is : c.args.u.now ≡ delete_of scope var q = deleted scope c.args.s.now q c.args.u.now var c.in-Delete.qual c.in-Delete.is e in
    subst (λ cs. IfOk c.delete_refusal.result (λ n. n ≡ first_refusal cs)) (ap (delete_refusals scope true) is ∙ sym (ap (refusals_by scope true q) c.in-Delete.is))
    (c.delete_refusal.ensures.known scope h (ap (λ u. sources_list_few u.query) is ∙ ap sources_list_few (delete_query scope var q) ∙ k))

pub returns-in_default : goal.returns-in_default
returns-in_default g c = record {
  known = λ scope q h k e.
      let is = updated scope c.args.s.now q c.args.u.now c.in_default.not-Delete e in
      subst (λ cs. IfOk c.update_refusal.result (λ n. n ≡ first_refusal cs)) is.are (c.update_refusal.ensures.known scope h (ap sources_list_few is.query ∙ k) is.wants);
  kept = c.update_refusal.ensures.kept;
  stays = c.update_refusal.ensures.stays;
  asked = c.update_refusal.ensures.asked;
  cause = c.update_refusal.ensures.cause;
}
