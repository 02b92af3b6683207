use Rattle.std.proofs.Common.{◌≡◌, sym, ◌∙◌, subst, Err, option_map, rules}
use Rattle.view_expand.specs.Asking.{who_of}
use Rattle.cut_rules.specs.Causes.{HasCause}
use Rattle.cut_rules.specs.Placed.{IsRefusedAt, is_small, may_be_read, read_expansion}
use Rattle.cut_rules.proofs.Causing.{failed_behind}
use Rattle.cut_rules.proofs.Listing.{next_known, here_all, later_all, next_all, next_keys, here_key, next_length}
use Rattle.cut_rules.proofs.Refusing.{refused_at}
use Rattle.cut_rules.proofs.expansions.put_each.Goals as goal

pub read_expansion-requires-clause-small : goal.read_expansion-requires-clause-small
read_expansion-requires-clause-small g c = λ db h.
    here_all (is_small db c.args.query.now) c.keys.place c.in-Some.key.now c.keys.rest.now c.in-Some.others.now c.in-Some.ensures.cases.0 (c.keys.invariant.small db (sym c.keys.invariant.kept ∙ h))

pub returns-in_err-more-clause-cause : goal.returns-in_err-more-clause-cause
returns-in_err-more-clause-cause g c =
    let is : c.from_residual.result ≡ Err c.in_err-more.field-0.0 = search rules in
    subst (λ r. HasCause (λ db var. IsRefusedAt (may_be_read db (who_of (option_map (λ n. n.now) c.args.who)) c.args.query.now) c.args.keys.now var) (g.B.Base.database c.args.base.now) (g.B.Base.faults c.args.base.now) (g.B.Base.faults c.read_expansion.new.base) r) (sym is)
    (failed_behind _ _ _ _ _ _ _ _ c.in_err-more.ensures.cause c.keys.invariant.kept c.keys.invariant.faults
    (λ db h var r. refused_at (may_be_read db (who_of (option_map (λ n. n.now) c.args.who)) c.args.query.now) c.args.keys.now c.keys.place c.in-Some.key.now var
    (here_key c.keys.place c.in-Some.key.now c.keys.rest.now c.in-Some.others.now c.args.keys.now c.in-Some.ensures.cases.0 c.keys.invariant.same_keys) r.0 r.1))

pub keys-preserved : goal.keys-preserved
keys-preserved g c = record {
  place = next_length c.keys.place _ c.in-Some.key.now c.keys.rest.now c.in-Some.others.now c.in-Some.ensures.cases.0 c.keys.invariant.place;
  same_keys = next_keys c.keys.place c.in-Some.key.now c.keys.rest.now c.in-Some.others.now c.args.keys.now c.in-Some.ensures.cases.0 c.keys.invariant.same_keys;
  known = λ db h.
      let who = (who_of (option_map (λ n. n.now) c.args.who)) in
      next_known (read_expansion db who c.args.query.now) c.keys.place c.in-Some.key.now c.keys.rest.now c.in-Some.others.now c.keys.expansions.items _ c.put_behind.new.expansions.items c.in_ok-more.more c.in-Some.ensures.cases.0
      (c.in_ok-more.ensures.known db (c.keys.invariant.kept ∙ h)) c.in_ok-put_behind.ensures.expansions (c.keys.invariant.known db h);
  permitted = λ db h.
      let who = (who_of (option_map (λ n. n.now) c.args.who)) in
      next_all (may_be_read db who c.args.query.now) c.keys.place c.in-Some.key.now c.keys.rest.now c.in-Some.others.now _ c.in-Some.ensures.cases.0 (c.in_ok-more.ensures.permitted db (c.keys.invariant.kept ∙ h)) (c.keys.invariant.permitted db h);
  small = λ db h. later_all (is_small db c.args.query.now) c.keys.place c.in-Some.key.now c.keys.rest.now c.in-Some.others.now c.in-Some.ensures.cases.0 (c.keys.invariant.small db h);
  scoped = λ h. c.in_ok-put_behind.ensures.scoped (c.keys.invariant.scoped h);
  found = λ db h. c.in_ok-more.ensures.found db (c.keys.invariant.kept ∙ h);
  kept = c.in_ok-more.ensures.kept ∙ c.keys.invariant.kept;
  stays = λ s h. c.in_ok-more.ensures.stays s (c.keys.invariant.stays s h);
  asked = λ b was. c.in_ok-more.ensures.asked b (c.keys.invariant.asked b was);
  faults = c.in_ok-more.ensures.cause.caused ∙ c.keys.invariant.faults;
}
