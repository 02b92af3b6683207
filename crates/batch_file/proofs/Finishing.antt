-- The whole of a batch: opened, laid and closed.
use Rattle.std.proofs.Common.{◌≡◌, inl, inr, ℕ, Some, true, refl, sym, ◌∙◌, ap, arith}
use Rattle.disk_model.specs.declared.disk.Addr.{Addr}
use Rattle.disk_model.specs.Disk.{Image, IsImage, LeavesOnly}
use Rattle.disk_model.proofs.Moments.{started, joins}
use Rattle.batch_file.specs.Layout.{Entries, addr, gate, entries, first_byte, is_place}
use Rattle.batch_file.specs.Redone.{IsShut, laid, kept, redone}
use Rattle.batch_file.specs.OnDisk.{IsWhole, BeforeOrAfter}
use Rattle.batch_file.proofs.Applies.{Among, latest_off, redone_shut}
use Rattle.batch_file.proofs.Form.{named, place_off}

-- changes at places that a batch may name leave the gate as it is
pub gate_stays : (cs : Entries) (m : Image) → ((b : Addr) → Among cs b → is_place b ≡ true) → gate (laid cs m) ≡ gate m
gate_stays cs m places = ap first_byte (latest_off cs (addr 1 0) (m (addr 1 0)) (λ h. place_off (addr 1 0) (places (addr 1 0) h) (omega arith) (omega arith)))

some_same : (a b : Image) → Some a ≡ Some b → a ≡ b
some_same a b e = cc e

module _ {S : Type 0} (seen : S → Image) (touched : S → Addr → Type 0) (clock : S → ℕ) (left_since : S → ℕ → Image → Type 0) where
  -- no call at all
  pub nothing_run : (old : S) (cs : Entries) → ((m : Image) → left_since old (clock old) m → IsImage (seen old) (touched old) m) → LeavesOnly clock left_since old old (BeforeOrAfter (seen old) (touched old) cs)
  nothing_run old cs only_now = started seen touched clock left_since old _ (λ m left. (m, only_now m left, inl refl))

  -- the gate was opened, and what follows keeps the redone
  pub apply_run : (old mid new : S) (cs : Entries) → LeavesOnly clock left_since old mid (BeforeOrAfter (seen old) (touched old) cs) → redone (seen mid) ≡ redone (laid cs (seen old))
      → LeavesOnly clock left_since mid new (λ m. redone m ≡ redone (seen mid)) → LeavesOnly clock left_since old new (BeforeOrAfter (seen old) (touched old) cs)
  apply_run old mid new cs first is second =
      joins seen touched clock left_since old mid new _ _ first second (λ m same. (seen old, (λ b calm. refl), inr (same ∙ is)))

  pub apply_done : (old mid new : S) (n : ℕ) → IsShut (seen old) (touched old) → IsWhole (seen old) n → redone (seen mid) ≡ redone (laid (entries (seen old) n) (seen old))
      → redone (seen mid) ≡ Some (kept (seen new)) → kept (seen new) ≡ kept (laid (entries (seen old) n) (seen old))
  apply_done old mid new n shut whole is done =
      some_same _ _ (sym done ∙ is ∙ redone_shut (laid (entries (seen old) n) (seen old))
      (λ e. shut (seen old) (λ b calm. refl) (sym (gate_stays (entries (seen old) n) (seen old) (named (seen old) n whole.addresses)) ∙ e)))
