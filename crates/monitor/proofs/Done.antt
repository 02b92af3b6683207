-- What was done where the stage has read.
use Rattle.std.proofs.Common.{◌≡◌, inl, inr, refl, sym, ap, subst, ◌∙◌, ℕ, List, [], Some}
use Rattle.std.proofs.KnownBytes.{Appends-nil}
use Rattle.std.proofs.lemmas.List.{append-nil}
use Rattle.std.specs.Io.KnownBytes.{Appends}
use Rattle.std.specs.declared.option.Option.{Option}
use Rattle.fault_io.specs.Files.{Files, stored}
use Rattle.fault_io.specs.Known.{GrewBy, IsFront}
use Rattle.frame_codec.specs.declared.frame.Frame.{Frame}
use Rattle.net_core.specs.declared.fault.WorkFault.{WorkFault}
use Rattle.net_core.specs.declared.fault.WorkFault.TheVariants as faults
use Rattle.network_meaning.specs.Sorts.{Read}
use Rattle.quel_network.specs.Reading.{read}
use Rattle.quel_network.specs.Sorts.{Monitor, quel_sorts}
use Rattle.monitor.specs.declared.at.At.{At}
use Rattle.monitor.specs.declared.event.Event.{Event as Came}
use Rattle.monitor.specs.declared.event.Event.TheVariants as came
use Rattle.monitor.specs.Doing.{HasDone, LeavesStored, ReadPartly, SparesOut}
use Rattle.monitor.specs.Faults.{IsLater}
use Rattle.monitor.specs.Reading.{HasRead, MayRead, was_read}
use Rattle.monitor.specs.Settling.{MayBeStored, at_behind, files_behind, frames_behind}

was_bytes : (event : Came) (m : Monitor) (known : Files) (bytes script : List ℕ) → (was_read event m known bytes script).bytes ≡ bytes
was_bytes came.GoesOn m known bytes script = refl
was_bytes came.Sends m known bytes script = refl
was_bytes came.Leaves m known bytes script = refl
was_bytes (came.Stores name) m known bytes script = refl

read_bytes : (old : Monitor) (known : Files) (script : List ℕ) (event : Came) (new : Monitor) (bytes : List ℕ) (left : Option (List ℕ)) → HasRead old known script event new bytes left → bytes ≡ (read old script known).bytes
read_bytes old known script event new bytes left h = sym (ap (λ (r : Read quel_sorts). r.bytes) h.2 ∙ was_bytes event new known bytes h.0)

-- it was read, written and settled
pub has_done : (old new : Monitor) (event : Came) (here : At) (out : List Frame) (text bytes : List ℕ) (left left' : Option (List ℕ)) (files files' : Option Files) (written written' : Option (List ℕ))
    → text ≡ new.buffer.text → here ≡ at_behind event → out ≡ frames_behind event text → ((known : Files) → files ≡ Some known → files' ≡ Some (files_behind event known text))
    → ((known : Files) (script : List ℕ) → files ≡ Some known → left ≡ Some script → HasRead old known script event new bytes left') → Appends written written' bytes
    → HasDone old new here out left left' files files' written written'
has_done old new event here out text bytes left left' files files' written written' same stands gives kept did wrote = record {
  event = event;
  stands = stands;
  gives = gives ∙ ap (frames_behind event) same;
  exact = λ known script there is.
      let h = did known script there is in
      record { rest = h.0; bytes = bytes; left_so = h.1; files_so = kept known there ∙ ap (λ (t : List ℕ). Some (files_behind event known t)) same; wrote = wrote; is = h.2 };
}

-- nothing was written or stored
pub part_unwritten : (old : Monitor) (left : Option (List ℕ)) (files files' : Option Files) (written : Option (List ℕ)) → files' ≡ files → ReadPartly old left files files' written written
part_unwritten old left files files' written same = record {
  wrote = λ known script there is. ([], Appends-nil written, ((read old script known).bytes, refl));
  kept = λ known script there is. inl (same ∙ there);
  any = λ known there. ([], inl (same ∙ there));
}

-- it was read, and written in part
pub part_written : (old : Monitor) (event : Came) (new : Monitor) (bytes : List ℕ) (left left' : Option (List ℕ)) (files files' : Option Files) (written written' : Option (List ℕ))
    → ((known : Files) (script : List ℕ) → files ≡ Some known → left ≡ Some script → HasRead old known script event new bytes left') → files' ≡ files → GrewBy written written' (λ more. IsFront more bytes)
    → ReadPartly old left files files' written written'
part_written old event new bytes left left' files files' written written' did same wrote = record {
  wrote = λ known script there is. (wrote.0, wrote.1, subst (λ (bs : List ℕ). IsFront wrote.0 bs) (read_bytes old known script event new bytes left' (did known script there is)) wrote.2);
  kept = λ known script there is. inl (same ∙ there);
  any = λ known there. ([], inl (same ∙ there));
}

stored_so : (event : Came) (old new : Monitor) (known : Files) (script bytes text : List ℕ) (left : Option (List ℕ)) (files : Option Files) → HasRead old known script event new bytes left → text ≡ new.buffer.text → MayBeStored event known text files
    → LeavesStored old known script files
stored_so came.GoesOn old new known script bytes text left files h same may = inl may
stored_so came.Sends old new known script bytes text left files h same may = inl may
stored_so came.Leaves old new known script bytes text left files h same may = inl may
stored_so (came.Stores name) old new known script bytes text left files h same may =
    inr (name, text, ap (λ (r : Read quel_sorts). r.shelf) h.2 ∙ ap (λ (t : List ℕ). stored known name t) (sym same), may)

-- it was read and written, and stored in part
pub part_stored : (old : Monitor) (event : Came) (new : Monitor) (bytes text : List ℕ) (left left' : Option (List ℕ)) (files files' : Option Files) (written written' : Option (List ℕ))
    → ((known : Files) (script : List ℕ) → files ≡ Some known → left ≡ Some script → HasRead old known script event new bytes left') → ((known : Files) → files ≡ Some known → MayRead old known event new bytes) → text ≡ new.buffer.text
    → Appends written written' bytes → ((known : Files) → files ≡ Some known → MayBeStored event known text files') → ReadPartly old left files files' written written'
part_stored old event new bytes text left left' files files' written written' did may same wrote stores = record {
  wrote = λ known script there is. (bytes, wrote, subst (λ (bs : List ℕ). IsFront bytes bs) (read_bytes old known script event new bytes left' (did known script there is)) ([], sym (append-nil bytes)));
  kept = λ known script there is. stored_so event old new known script bytes text left' files' (did known script there is) same (stores known there);
  any = λ known there. let h = may known there in (h.0, stored_so event old new known h.0 bytes text h.1 files' h.2 same (stores known there));
}

-- ---- what a fault spares

pub spares_all : (f : WorkFault) (files files' : Option Files) (written : Option (List ℕ)) → files' ≡ files → SparesOut files files' written written f
spares_all faults.Source files files' written same = (refl, same)
spares_all faults.TooLong files files' written same = (refl, same)
spares_all _ files files' written same = tt

pub spares_later : (f : WorkFault) (files files' : Option Files) (written written' : Option (List ℕ)) → IsLater f → SparesOut files files' written written' f
spares_later faults.Source files files' written written' later = absurd later
spares_later faults.TooLong files files' written written' later = absurd later
spares_later _ files files' written written' later = tt
