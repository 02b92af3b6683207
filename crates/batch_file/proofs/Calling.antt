-- Calls behind calls, and what they leave on whatever disk.
use Rattle.std.proofs.Common.{◌≡◌, ◌≢◌, ℕ, ◌+◌, ◌/◌, ◌%◌, ◌&&◌, Bool, true, false, List, [], ◌∷◌, ◌++◌, length-append, Option, Some, None, IsTrue, if◌then◌else◌, refl, sym, ◌∙◌, ap, subst, append_assoc, append-nil}
use Rattle.std.specs.List.{list_all}
use Rattle.disk_model.specs.Calls.{seen_after, seen_from}
use Rattle.disk_model.specs.Disk.{Image}
use Rattle.disk_model.specs.History.{Came, CameSo}
use Rattle.disk_model.specs.declared.calls.Call.{Call}
use Rattle.disk_model.specs.declared.calls.Call.TheVariants.{Write, Sync}
use Rattle.disk_model.specs.declared.disk.Addr.{Addr}
use Rattle.disk_model.proofs.Addresses.{is_at_self, off_at}
use Rattle.batch_file.specs.declared.fault.Restored.TheVariants.{Nothing, Redone}
use Rattle.batch_file.specs.declared.stage.Batch.{Batch}
use Rattle.batch_file.specs.Layout.{Entries, addr, address_in, entries, first_byte, is_head, is_place, number_at}
use Rattle.batch_file.specs.Order.{is_own, is_placing, IsBatch, Adds, Writes, Completes, Heads, Places, Shuts, Applies, Opens, Restores}
use Rattle.batch_file.specs.Staged.{completed, staged, Holds}
use Rattle.batch_file.proofs.Adding.{is_next, staged_more, holds_more, all_staged, all_whole, IsNext}
use Rattle.batch_file.proofs.Form.{no_damage_from, same_entries}

abbrev KnownCalls : Type 0
KnownCalls = Option (List Call)

pub came_none : (a b : KnownCalls) → b ≡ a → Came a b []
came_none None b same = tt
came_none (Some calls) b same = same ∙ ap Some (sym (append-nil calls))

pub came_then : (a b c : KnownCalls) (xs ys : List Call) → Came a b xs → Came b c ys → Came a c (xs ++ ys)
came_then None b c xs ys first then_ = tt
came_then (Some calls) b c xs ys first then_ =
    let behind : Came (Some (calls ++ xs)) c ys = subst (λ (o : KnownCalls). Came o c ys) first then_ in
    behind ∙ ap Some (append_assoc calls xs ys)

pub came_reads : (a b c : KnownCalls) (xs : List Call) → Came a b xs → c ≡ b → Came a c xs
came_reads a b c xs came same = subst (λ (o : KnownCalls). Came a o xs) (sym same) came

pub reads_came : (a b c : KnownCalls) (xs : List Call) → b ≡ a → Came b c xs → Came a c xs
reads_came a b c xs same came = subst (λ (o : KnownCalls). Came o c xs) same came

pub seen_behind : (m : Image) (xs ys : List Call) → seen_from m (xs ++ ys) ≡ seen_from (seen_from m xs) ys
seen_behind m [] ys = refl
seen_behind m (x ∷ xs) ys = seen_behind (seen_after x m) xs ys

pub all_behind : (test : Call → Bool) (xs ys : List Call) → list_all test xs ≡ true → list_all test ys ≡ true → list_all test (xs ++ ys) ≡ true
all_behind test [] ys one two = two
all_behind test (x ∷ xs) ys one two = at (test x) (list_all test xs) one (λ h. all_behind test xs ys h two)
  where
    at : (t u : Bool) {v : Bool} → (t && u) ≡ true → (u ≡ true → v ≡ true) → (t && v) ≡ true
    at true u h f = f h
    at false u h f = h

-- the write of a page, where it is due
abbrev pub written : Bool → Addr → List ℕ → List Call
written due a page = if due then Write a page ∷ [] else []

-- an image is written, and the page of addresses where it is due
module _ (batch more : Batch) (a : Addr) (page : List ℕ) (size : more.count ≡ batch.count + 1) where
  abbrev calls : Bool → List Call
  calls due = Write (addr 4 batch.count) page ∷ [] ++ written due (addr 3 (batch.count / 128)) more.addresses

  off_both : (due : Bool) (m : Image) (b : Addr) → b ≢ addr 4 batch.count → b ≢ addr 3 (batch.count / 128) → seen_from m (calls due) b ≡ m b
  off_both true m b off_image off_page =
      ap (λ t. if t then Some more.addresses else seen_from m (Write (addr 4 batch.count) page ∷ []) b) (off_at b (addr 3 (batch.count / 128)) off_page)
      ∙ ap (λ t. if t then Some page else m b) (off_at b (addr 4 batch.count) off_image)
  off_both false m b off_image off_page = ap (λ t. if t then Some page else m b) (off_at b (addr 4 batch.count) off_image)

  image_there : (due : Bool) (m : Image) → seen_from m (calls due) (addr 4 batch.count) ≡ Some page
  image_there true m = ap (λ t. if t then Some page else m (addr 4 batch.count)) (is_at_self (addr 4 batch.count))
  image_there false m = ap (λ t. if t then Some page else m (addr 4 batch.count)) (is_at_self (addr 4 batch.count))

  page_there : (due : Bool) (m : Image) → IsTrue due → seen_from m (calls due) (addr 3 (batch.count / 128)) ≡ Some more.addresses
  page_there true m is = ap (λ t. if t then Some more.addresses else seen_from m (Write (addr 4 batch.count) page ∷ []) (addr 3 (batch.count / 128))) (is_at_self (addr 3 (batch.count / 128)))
  page_there false m is = absurd (cc is)

  own_calls : (due : Bool) → list_all is_own (calls due) ≡ true
  own_calls true = refl
  own_calls false = refl

  pub adds : (due : Bool) → (batch.count % 128 ≡ 127 → IsTrue due) → address_in more.addresses batch.count ≡ a
      → ((j : ℕ) → j % 128 ≢ batch.count % 128 → address_in more.addresses j ≡ address_in batch.addresses j) → is_place a ≡ true → Adds batch more ((a, page) ∷ []) (calls due)
  adds due full there others place = record {
    own = own_calls due;
    held = λ m held. holds_more m (seen_from m (calls due)) batch more a page size (next m) held place;
    added = λ m held. staged_more m (seen_from m (calls due)) batch more a page size (next m);
  }
    where
      next : (m : Image) → IsNext (completed m batch) (completed (seen_from m (calls due)) more) batch.count batch.addresses more.addresses a page
      next m = is_next m (seen_from m (calls due)) batch more a page size there others (off_both due m) (image_there due m) (λ f. page_there due m (full f))

-- the rest of the addresses is written where it is due, and the head
module _ (batch : Batch) (head : List ℕ) (form : is_head (Some head) ≡ true) (size : number_at head 8 ≡ batch.count) where
  headed : (m0 m1 : Image) → ((b : Addr) → b ≢ addr 3 (batch.count / 128) → m1 b ≡ m0 b) → (batch.count % 128 ≢ 0 → m1 (addr 3 (batch.count / 128)) ≡ Some batch.addresses)
      → Holds m0 batch → IsBatch (staged m0 batch) (seen_from m1 (Write (addr 2 0) head ∷ []))
  headed m0 m1 off rest held =
      let m2 = seen_from m1 (Write (addr 2 0) head ∷ []) in
      let whole = all_whole m0 m1 batch off rest held in
      let same = same_entries m2 m1 (λ k. refl) (λ k. refl) in
      record {
        sound = no_damage_from m2 batch.count form size (λ k lt. same.lawful k ∙ whole.addresses k lt) (λ k lt. same.has k ∙ whole.images k lt);
        listed = ap (entries m2) size ∙ same.listed batch.count ∙ all_staged m0 m1 batch off rest;
      }

  off_page : (due : Bool) (m : Image) (b : Addr) → b ≢ addr 3 (batch.count / 128) → seen_from m (written due (addr 3 (batch.count / 128)) batch.addresses) b ≡ m b
  off_page true m b off = ap (λ t. if t then Some batch.addresses else m b) (off_at b (addr 3 (batch.count / 128)) off)
  off_page false m b off = refl

  at_page : (due : Bool) (m : Image) → IsTrue due → seen_from m (written due (addr 3 (batch.count / 128)) batch.addresses) (addr 3 (batch.count / 128)) ≡ Some batch.addresses
  at_page true m is = ap (λ t. if t then Some batch.addresses else m (addr 3 (batch.count / 128))) (is_at_self (addr 3 (batch.count / 128)))
  at_page false m is = absurd (cc is)

  own_rest : (due : Bool) → list_all is_own (written due (addr 3 (batch.count / 128)) batch.addresses ++ Write (addr 2 0) head ∷ []) ≡ true
  own_rest true = refl
  own_rest false = refl

  pub completes : (due : Bool) → (batch.count % 128 ≢ 0 → IsTrue due) → Completes batch (written due (addr 3 (batch.count / 128)) batch.addresses ++ Write (addr 2 0) head ∷ [])
  completes due rest = record {
    own = own_rest due;
    whole = λ m held.
        let first = written due (addr 3 (batch.count / 128)) batch.addresses in
        subst (IsBatch (staged m batch)) (sym (seen_behind m first (Write (addr 2 0) head ∷ [])))
        (headed m (seen_from m first) (off_page due m) (λ r. at_page due m (rest r)) held);
  }

-- the head, a sync, the gate, a sync
pub opens : (h0 h1 h2 h3 h4 : KnownCalls) (head gate : List ℕ) (n : ℕ) → Came h0 h1 (Write (addr 2 0) head ∷ []) → Came h1 h2 (Sync ∷ []) → Came h2 h3 (Write (addr 1 0) gate ∷ []) → Came h3 h4 (Sync ∷ [])
    → is_head (Some head) ≡ true → number_at head 8 ≡ n → first_byte (Some gate) ≡ 1 → CameSo h0 h4 (Opens (Heads n))
opens h0 h1 h2 h3 h4 head gate n one two three four form size is_open = (
  Write (addr 2 0) head ∷ Sync ∷ Write (addr 1 0) gate ∷ Sync ∷ [],
  came_then h0 h1 h4 (Write (addr 2 0) head ∷ []) (Sync ∷ Write (addr 1 0) gate ∷ Sync ∷ []) one
      (came_then h1 h2 h4 (Sync ∷ []) (Write (addr 1 0) gate ∷ Sync ∷ []) two (came_then h2 h3 h4 (Write (addr 1 0) gate ∷ []) (Sync ∷ []) three four)),
  record {
    own = Write (addr 2 0) head ∷ [];
    gate = gate;
    order = refl;
    written = record { head = head; call = refl; form = form; size = size };
    is_open = is_open;
  },
)

-- one page more, after calls that only read
pub places_more : (h0 h1 h2 h3 : KnownCalls) (n : ℕ) (a : Addr) (page : List ℕ) → CameSo h0 h1 (Places n) → h2 ≡ h1 → Came h2 h3 (Write a page ∷ []) → is_place a ≡ true → CameSo h0 h3 (Places (n + 1))
places_more h0 h1 h2 h3 n a page so_far same came place = (
  so_far.0 ++ Write a page ∷ [],
  came_then h0 h1 h3 so_far.0 (Write a page ∷ []) so_far.1 (reads_came h1 h2 h3 (Write a page ∷ []) same came),
  record {
    size = length-append so_far.0 (Write a page ∷ []) ∙ ap (λ k. k + 1) so_far.2.size;
    placing = all_behind is_placing so_far.0 (Write a page ∷ []) so_far.2.placing (ap (λ t. t && true) place);
  },
)

-- the pages, a sync, the gate, a sync
pub shuts : (h0 h1 h2 h3 h4 : KnownCalls) (gate : List ℕ) (n : ℕ) → CameSo h0 h1 (Places n) → Came h1 h2 (Sync ∷ []) → Came h2 h3 (Write (addr 1 0) gate ∷ []) → Came h3 h4 (Sync ∷ [])
    → first_byte (Some gate) ≢ 1 → CameSo h0 h4 (Shuts n)
shuts h0 h1 h2 h3 h4 gate n placed two three four is_shut = (
  placed.0 ++ Sync ∷ Write (addr 1 0) gate ∷ Sync ∷ [],
  came_then h0 h1 h4 placed.0 (Sync ∷ Write (addr 1 0) gate ∷ Sync ∷ []) placed.1
      (came_then h1 h2 h4 (Sync ∷ []) (Write (addr 1 0) gate ∷ Sync ∷ []) two (came_then h2 h3 h4 (Write (addr 1 0) gate ∷ []) (Sync ∷ []) three four)),
  record { places = placed.0; gate = gate; order = refl; placed = placed.2; is_shut = is_shut },
)

-- what opens the gate, and what shuts it
pub applies : (h0 h1 h2 : KnownCalls) (Own : List Call → Type 0) (n : ℕ) → CameSo h0 h1 (Opens Own) → CameSo h1 h2 (Shuts n) → CameSo h0 h2 (Applies Own n)
applies h0 h1 h2 Own n opened shut =
    let o = opened.2 in (
      opened.0 ++ shut.0,
      came_then h0 h1 h2 opened.0 shut.0 opened.1 shut.1,
      record {
        own = o.own;
        gate = o.gate;
        rest = shut.0;
        order = ap (λ (l : List Call). l ++ shut.0) o.order ∙ append_assoc o.own (Sync ∷ Write (addr 1 0) o.gate ∷ Sync ∷ []) shut.0;
        written = o.written;
        is_open = o.is_open;
        shuts = shut.2;
      },
    )

-- more calls before
pub applies_behind : (h0 h1 h2 : KnownCalls) (first : List Call) (Own More : List Call → Type 0) (n : ℕ) → Came h0 h1 first → CameSo h1 h2 (Applies Own n) → ((own : List Call) → Own own → More (first ++ own)) → CameSo h0 h2 (Applies More n)
applies_behind h0 h1 h2 first Own More n came laid into =
    let l = laid.2 in (
      first ++ laid.0,
      came_then h0 h1 h2 first laid.0 came laid.1,
      record {
        own = first ++ l.own;
        gate = l.gate;
        rest = l.rest;
        order = ap (λ (x : List Call). first ++ x) l.order ∙ sym (append_assoc first l.own (Sync ∷ Write (addr 1 0) l.gate ∷ Sync ∷ l.rest));
        written = into l.own l.written;
        is_open = l.is_open;
        shuts = l.shuts;
      },
    )

-- the whole of a batch that was begun
pub finishes : (h0 h1 h2 : KnownCalls) (batch : Batch) (due : Bool) → (batch.count % 128 ≢ 0 → IsTrue due) → Came h0 h1 (written due (addr 3 (batch.count / 128)) batch.addresses)
    → CameSo h1 h2 (Applies (Heads batch.count) batch.count) → CameSo h0 h2 (Applies (Completes batch) batch.count)
finishes h0 h1 h2 batch due rest came laid =
    applies_behind h0 h1 h2 (written due (addr 3 (batch.count / 128)) batch.addresses) (Heads batch.count) (Completes batch) batch.count came laid
    (λ own heads.
    subst (λ (l : List Call). Completes batch (written due (addr 3 (batch.count / 128)) batch.addresses ++ l)) (sym heads.call)
    (completes batch heads.head heads.form heads.size due rest))

-- The calls write pages of the batch's own files alone, and on whatever disk the batch then has these pages.
pub record Gathers (batch : Batch) (cs : Entries) (calls : List Call) : Type 0 where
  pub own : list_all is_own calls ≡ true
  pub held : (m : Image) → Holds (seen_from m calls) batch
  pub listed : (m : Image) → staged (seen_from m calls) batch ≡ cs

pub gathers_none : (h : KnownCalls) (batch : Batch) → ((m : Image) → Holds m batch) → ((m : Image) → staged m batch ≡ []) → CameSo h h (Gathers batch [])
gathers_none h batch held none = ([], came_none h h refl, record { own = refl; held = held; listed = none })

pub gathers_more : (h0 h1 h2 : KnownCalls) (batch after : Batch) (cs more new : Entries) → CameSo h0 h1 (Gathers batch cs) → CameSo h1 h2 (Adds batch after new) → more ≡ cs ++ new → CameSo h0 h2 (Gathers after more)
gathers_more h0 h1 h2 batch after cs more new so_far adds is =
    let g = so_far.2 in
    let a = adds.2 in (
      so_far.0 ++ adds.0,
      came_then h0 h1 h2 so_far.0 adds.0 so_far.1 adds.1,
      record {
        own = all_behind is_own so_far.0 adds.0 g.own a.own;
        held = λ m. subst (λ (s : Image). Holds s after) (sym (seen_behind m so_far.0 adds.0)) (a.held (seen_from m so_far.0) (g.held m));
        listed = λ m.
            ap (λ (s : Image). staged s after) (seen_behind m so_far.0 adds.0) ∙ a.added (seen_from m so_far.0) (g.held m)
            ∙ ap (λ (l : Entries). l ++ new) (g.listed m) ∙ sym is;
      },
    )

pub commits : (h0 h1 h2 : KnownCalls) (batch : Batch) (cs : Entries) (n : ℕ) → CameSo h0 h1 (Gathers batch cs) → CameSo h1 h2 (Applies (Completes batch) n) → CameSo h0 h2 (Applies (Writes cs) n)
commits h0 h1 h2 batch cs n gathered laid =
    let first = gathered.0 in
    let g = gathered.2 in
    applies_behind h0 h1 h2 first (Completes batch) (Writes cs) n gathered.1 laid
    (λ own ends. record {
      own = all_behind is_own first own g.own ends.own;
      whole = λ m.
          subst (IsBatch cs) (sym (seen_behind m first own))
          (subst (λ (l : Entries). IsBatch l (seen_from (seen_from m first) own)) (g.listed m) (ends.whole (seen_from m first) (g.held m)));
    })

-- a restore that found the gate shut
pub restores_none : (h0 h1 h2 : KnownCalls) → Came h0 h1 (Sync ∷ []) → h2 ≡ h1 → CameSo h0 h2 (Restores Nothing)
restores_none h0 h1 h2 came same = (Sync ∷ [], came_reads h0 h1 h2 (Sync ∷ []) came same, refl)

-- a restore that found it open
pub restores_all : (h0 h1 h2 h3 h4 : KnownCalls) (n : ℕ) → Came h0 h1 (Sync ∷ []) → h2 ≡ h1 → h3 ≡ h2 → CameSo h3 h4 (Shuts n) → CameSo h0 h4 (Restores (Redone n))
restores_all h0 h1 h2 h3 h4 n came one two shut = (
  Sync ∷ shut.0,
  came_then h0 h1 h4 (Sync ∷ []) shut.0 came (reads_came h1 h3 h4 shut.0 (two ∙ one) shut.1),
  (shut.0, refl, shut.2),
)
