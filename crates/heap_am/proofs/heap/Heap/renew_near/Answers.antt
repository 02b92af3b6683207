use Rattle.std.proofs.Common.{◌≡◌, ℕ, ◌+◌, List, Option, ap, sym, subst, length, ◌∙◌}
use Rattle.disk_model.specs.Disk.{Image}
use Rattle.page_chain.specs.Lying.{lying, staying}
use Rattle.page_chain.specs.Pages.{pages_of}
use Rattle.heap_am.specs.Heap.{HeapFault}
use Rattle.heap_am.specs.Near.{IsRising, IsDoneOn, IsDoneNear}
use Rattle.heap_am.proofs.Faults.{cause_later}
use Rattle.heap_am.proofs.Outcomes.{handed_on}
use Rattle.std.proofs.Math.Nat.{le_trans}
use Rattle.heap_am.proofs.Rooms.{cause_same}
use Rattle.heap_am.proofs.heap.Heap.renew_near.Goals as goal

pub returns-in_err-put-clause-cause : goal.returns-in_err-put-clause-cause
returns-in_err-put-clause-cause g c =
    cause_later (g.S.PageStore.pages c.args.store.now) (g.S.PageStore.pages c.count_near.new.store) (HeapFault c.args.self.now.file) (g.S.PageStore.faults c.args.store.now) (g.S.PageStore.faults c.count_near.new.store) (g.S.PageStore.faults c.renew_all.new.store)
    c.from_residual-in_err-put.result c.in_err-put.field-0.0
    c.count_near.ensures.same c.in_ok-count.ensures.cause.caused c.in_err-put.ensures.cause (handed_on c.from_residual-in_err-put.result c.in_err-put.field-0.0 c.from_residual-in_err-put.ensures.1)

pub returns-clause-came : goal.returns-clause-came
returns-clause-came g c = λ s came. c.renew_all.ensures.came s (c.count_near.ensures.came s came)

pub returns-in_err-put-clause-came : goal.returns-in_err-put-clause-came
returns-in_err-put-clause-came g c = λ s came. c.renew_all.ensures.came s (c.count_near.ensures.came s came)

pub returns-clause-put : goal.returns-clause-put
returns-clause-put g c = c.in_ok-put.ensures.put

done_near : (file used : ℕ) (numbers items later : List ℕ) (rows going came : List (List ℕ)) (count long : ℕ) (m : Image) (known : Option Image)
    → IsRising 0 used numbers → items ≡ numbers → later ≡ numbers → rows ≡ going
    → count + length (staying rows (lying (pages_of m file) items)) ≡ length (lying (pages_of m file) items) → count ≡ long → long ≡ length rows
    → IsDoneOn file used later rows came m known → IsDoneNear file used going came m known
done_near file used numbers items later rows going came count long m known rising first second same counted is are done =
    subst (λ gone. IsDoneNear file used gone came m known) same (record {
      numbers = later;
      rising = subst (IsRising 0 used) (sym second) rising;
      all = subst (λ ns. length rows + length (staying rows (lying (pages_of m file) ns)) ≡ length (lying (pages_of m file) ns)) (first ∙ sym second)
          (ap (λ k. k + length (staying rows (lying (pages_of m file) items))) (sym (is ∙ are)) ∙ counted);
      done = done;
    })

pub returns-clause-done : goal.returns-clause-done
returns-clause-done g c m is =
    done_near c.args.self.now.file.file c.args.self.now.file.used c.in_ok-numbers.numbers c.items.result.now c.items-2.result.now c.in_ok-rows.rows c.args.going.now _ c.in_ok-count.count c.len.result m (g.S.PageStore.pages c.renew_all.new.store)
    c.in_ok-numbers.ensures c.items.ensures c.items-2.ensures c.in_ok-rows.ensures (c.in_ok-count.ensures.count m is) c.if-count-len.false c.len.ensures
    (c.in_ok-put.ensures.done m (c.count_near.ensures.same ∙ is))

pub returns-in_err-count-clause-came : goal.returns-in_err-count-clause-came
returns-in_err-count-clause-came g c = c.count_near.ensures.came

pub returns-in_err-count-clause-cause : goal.returns-in_err-count-clause-cause
returns-in_err-count-clause-cause g c =
    cause_same (g.S.PageStore.pages c.args.store.now) (HeapFault c.args.self.now.file) (g.S.PageStore.faults c.args.store.now) (g.S.PageStore.faults c.count_near.new.store)
    c.from_residual-in_err-count.result c.in_err-count.field-0.0 c.in_err-count.ensures.cause c.from_residual-in_err-count.ensures.1

pub returns-then-count-len-clause-none : goal.returns-then-count-len-clause-none
returns-then-count-len-clause-none g c = λ none. c.count_near.ensures.same

pub returns-then-count-len-clause-came : goal.returns-then-count-len-clause-came
returns-then-count-len-clause-came g c = c.count_near.ensures.came

pub returns-then-count-len-clause-cause : goal.returns-then-count-len-clause-cause
returns-then-count-len-clause-cause g c = record { later = c.count_near.ensures.cause.later; caused = c.in_ok-count.ensures.cause.caused }

pub returns-clause-cause : goal.returns-clause-cause
returns-clause-cause g c = record { later = le_trans c.count_near.ensures.cause.later c.renew_all.ensures.cause.later; caused = c.in_ok-put.ensures.cause.caused ∙ c.in_ok-count.ensures.cause.caused }

pub renew_all-requires-clause-rising : goal.renew_all-requires-clause-rising
renew_all-requires-clause-rising g c = subst (IsRising 0 c.args.self.now.file.used) (sym c.items-2.ensures) c.in_ok-numbers.ensures
