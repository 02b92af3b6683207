-- How the calls of a store go on from what was done before.
use Rattle.std.proofs.Common.{◌≡◌, ◌≢◌, ◌⊎◌, inl, inr, ⊎_elim, Some, Bool, true, false, IsTrue, ℕ, refl, sym, ◌∙◌, ap}
use Rattle.disk_model.specs.Disk.{Image, Changes, LeavesOnly}
use Rattle.disk_model.specs.declared.disk.Addr.{Addr}
use Rattle.disk_model.specs.declared.disk.Disk.{Ghosts}
use Rattle.disk_model.proofs.Moments.{started, reads_on, weaker, image_settled}
use Rattle.batch_file.specs.Layout.{Entries, gate, is_place}
use Rattle.batch_file.specs.OnDisk.{InBatch, SameOutside, BeforeOrAfter, SameRedone, IsClosed}
use Rattle.batch_file.specs.Redone.{IsShut, kept, laid, latest, redone}
use Rattle.batch_file.proofs.Applies.{Among, kept_by, kept_not_batch, redone_shut}
use Rattle.batch_file.proofs.Finishing.{gate_stays}
use Rattle.batch_file.proofs.Opening.{redone_outside}
use Rattle.batch_file.proofs.Outside.{apart_joins, gives_up, then_run}
use Rattle.batch_store.specs.Recovered.{IsOneOf}
use Rattle.batch_store.specs.Run.{Ran, HasOnlyNow}

module _ {D : Type 0} (g : Ghosts D) where
  -- pages that were put after what was done before
  pub ran_stages : (was now : Bool) (old between new : D) → Ran g was old now between → now ≡ false → (IsTrue g.is_known → Changes InBatch g.seen g.touched between new)
      → (IsTrue g.is_known → LeavesOnly g.clock g.left_since between new (SameOutside (g.seen between) (g.touched between))) → Ran g was old now new
  ran_stages was now old between new so_far calm change run = record {
    still = so_far.still;
    apart = λ known only. apart_joins g.seen g.touched g.clock g.left_since old between new (so_far.apart known only) (change known) (run known);
    reads = λ known due. let e : true ≡ false = sym due ∙ sym so_far.still ∙ calm in cc e;
  }

  bool_cases : (t : Bool) → (t ≡ true) ⊎ (t ≡ false)
  bool_cases true = inl refl
  bool_cases false = inr refl

  module _ (was now : Bool) (old between : D) (so_far : Ran g was old now between) (known : IsTrue g.is_known) (only : HasOnlyNow g old) (shut : was ≡ false → IsShut (g.seen old) (g.touched old)) where
    -- where nothing is applied, a crash leaves the pages of then
    pub nothing_laid : (cs : Entries) → LeavesOnly g.clock g.left_since old between (BeforeOrAfter (g.seen old) (g.touched old) cs)
    nothing_laid cs = elim (bool_cases was) [
      | inl due ↦ reads_on g.seen g.touched g.clock g.left_since old old between _ (started g.seen g.touched g.clock g.left_since old _ (λ m left. (m, only m left, inl refl))) (so_far.reads known due)
      | inr calm ↦ gives_up g.seen g.touched g.clock g.left_since old between cs (shut calm) (so_far.apart known only)
    ]

    -- and each image left has the redone of one of then
    pub given_up : LeavesOnly g.clock g.left_since old between (SameRedone (g.seen old) (g.touched old))
    given_up = elim (bool_cases was) [
      | inl due ↦ reads_on g.seen g.touched g.clock g.left_since old old between _ (started g.seen g.touched g.clock g.left_since old _ (λ m left. (m, only m left, refl))) (so_far.reads known due)
      | inr calm ↦
          let apart = so_far.apart known only in
          weaker g.seen g.touched g.clock g.left_since old between _ _ apart.run (λ m from. (from.0, from.1, redone_outside m from.0 (shut calm from.0 from.1) from.2))
    ]

    -- and where changes are applied then, those or these with the changes laid over them
    pub then_finished : (cs : Entries) → now ≡ false → ((b : Addr) → Among cs b → is_place b ≡ true) → (new : D) → LeavesOnly g.clock g.left_since between new (BeforeOrAfter (g.seen between) (g.touched between) cs)
        → LeavesOnly g.clock g.left_since old new (BeforeOrAfter (g.seen old) (g.touched old) cs)
    then_finished cs calm places new run =
        then_run g.seen g.touched g.clock g.left_since old between cs (shut (sym so_far.still ∙ calm)) places (so_far.apart known only) new run

    -- and where nothing was touched then, each image left has the pages of then, or those that were known
    pub one_of_two : (cs : Entries) → ((b : Addr) → Among cs b → is_place b ≡ true) → IsClosed (g.seen old) (g.touched old) → (pages : Image) → kept (laid cs (g.seen between)) ≡ pages
        → (new : D) → LeavesOnly g.clock g.left_since old new (BeforeOrAfter (g.seen old) (g.touched old) cs) → LeavesOnly g.clock g.left_since old new (IsOneOf (kept (g.seen old)) pages)
    one_of_two cs places closed pages are new run =
        let apart = so_far.apart known only in
        let gate_shut : gate (laid cs (g.seen old)) ≢ 1 = λ e. closed.shut (sym (gate_stays cs (g.seen old) places) ∙ e) in
        let laid_same : kept (laid cs (g.seen old)) ≡ kept (laid cs (g.seen between)) = kept_by _ _ (λ b k. ap (latest cs b) (sym (apart.change.elsewhere b (kept_not_batch b k)))) in
        weaker g.seen g.touched g.clock g.left_since old new _ _ run (λ m from.
        let same = image_settled g.seen g.touched g.clock g.left_since old closed.settled from.0 from.1 in
        ⊎_elim (λ e. inl (e ∙ ap redone same ∙ redone_shut (g.seen old) closed.shut))
        (λ e. inr (e ∙ ap (λ (x : Image). redone (laid cs x)) same ∙ redone_shut (laid cs (g.seen old)) gate_shut ∙ ap Some (laid_same ∙ are))) from.2)

-- where a restore is due, nothing was put
pub calm_of : (due : Bool) (size : ℕ) → (due ≡ true → size ≡ 0) → (size ≡ 0 → ⊥) → due ≡ false
calm_of true size empty some = absurd (some (empty refl))
calm_of false size empty some = refl
