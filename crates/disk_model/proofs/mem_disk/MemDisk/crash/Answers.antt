use Rattle.std.proofs.Common.{◌≡◌, ◌∙◌, List, ◌++◌, map, take, ap, sym, subst}
use Rattle.disk_model.specs.declared.calls.Call.{Call}
use Rattle.disk_model.specs.declared.mem_disk.Left.{Left}
use Rattle.disk_model.specs.Calls.{seen_of}
use Rattle.disk_model.specs.Walks.{filled_call}
use Rattle.disk_model.specs.MemoryDisk.{State, state, Leaves, seen_now}
use Rattle.disk_model.proofs.Crashing.{leaves_old, leaves_new, leaves_filled}
use Rattle.disk_model.proofs.mem_disk.MemDisk.crash.Goals as goal
use Rattle.disk_model.proofs.mem_disk.MemDisk.crash.Goals.{in-Old, in-New+in_ok-extend_from_slice-in-New, in-Filled+in_ok-fill_all-in-Filled}

pub returns-clause-leaves : goal.returns-clause-leaves
returns-clause-leaves c =
    let d = state c.args.self in
    let cs = c.as_slice-calls.result.now in
    let n = c.synced.result in
    let known = c.synced.ensures in
    let some : c.extend_from_slice.new.self.items ≡ d.first ++ take n cs =
    c.in_ok-extend_from_slice.ensures.items ∙ ap (λ (l : List Call). d.first ++ l) c.split_at.ensures.front in
    let left : Leaves c.args.left d (seen_of c.match-left.first.items) =
    elim c.match-left.branch [
      | in-Old w ↦
          subst (λ (k : Left). Leaves k d (seen_of c.match-left.first.items)) (sym w.in-Old.is)
          (leaves_old d cs c.as_slice-calls.ensures.value n known.quiet known.settled known.stood c.match-left.first.items (ap (λ v. v.items) w.first-is ∙ some))
      | in-New+in_ok-extend_from_slice-in-New w ↦
          subst (λ (k : Left). Leaves k d (seen_of c.match-left.first.items)) (sym w.in-New.is)
          (leaves_new d cs c.as_slice-calls.ensures.value n known.quiet known.settled known.stood c.extend_from_slice.new.self.items c.match-left.first.items some
          (ap (λ v. v.items) w.first-is ∙ w.in_ok-extend_from_slice-in-New.ensures.items ∙ ap (λ (l : List Call). c.extend_from_slice.new.self.items ++ l) c.split_at.ensures.back))
      | in-Filled+in_ok-fill_all-in-Filled w ↦
          subst (λ (k : Left). Leaves k d (seen_of c.match-left.first.items)) (sym w.in-Filled.is)
          (leaves_filled d cs c.as_slice-calls.ensures.value n known.quiet known.settled known.stood w.in-Filled.byte c.extend_from_slice.new.self.items c.match-left.first.items some
          (ap (λ v. v.items) w.first-is ∙ w.in_ok-fill_all-in-Filled.ensures ∙ ap (λ (l : List Call). c.extend_from_slice.new.self.items ++ map (filled_call w.in-Filled.byte) l) c.split_at.ensures.back))
    ] in
    subst (λ (e : State). Leaves c.args.left d (seen_now e)) (sym c.begun.ensures) left
