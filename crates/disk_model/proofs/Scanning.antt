-- What stands at the end of a list of calls, read from its end.
use Rattle.std.proofs.Common.{◌≡◌, ℕ, ◌+◌, ◌≤◌, List, [], ◌∷◌, ◌++◌, length, take, drop, Option, Some, Bool, true, false, refl, sym, ◌∙◌, ap, subst, arith, get_or, take-append-drop}
use Rattle.std.proofs.lemmas.List.{take_more}
use Rattle.disk_model.specs.declared.disk.Addr.{Addr}
use Rattle.disk_model.specs.declared.calls.Call.{Call}
use Rattle.disk_model.specs.declared.calls.Call.TheVariants.{Write, FailedWrite, Cut, FailedCut, Sync, FailedSync, Fill}
use Rattle.disk_model.specs.Disk.{Image, IsSettled}
use Rattle.disk_model.specs.Calls.{seen_after, synced_after, seen_from, synced_from, touched_of}
use Rattle.disk_model.specs.Walks.{said, IsQuiet, IsQuietCall}
use Rattle.disk_model.proofs.Entries.{seen_push, touched_push}

-- the call at k decides what the first k + 1 left
pub look_step : (m : Image) (cs : List Call) (k n : ℕ) (d : Call) (a : Addr) → n ≡ k + 1 → n ≤ length cs → seen_from m cs a ≡ seen_from m (take n cs) a → seen_from m cs a ≡ seen_after (get_or cs k d) (seen_from m (take k cs)) a
look_step m cs k n d a is le same =
    same ∙ ap (λ l. seen_from m l a) (ap (λ j. take j cs) is ∙ take_more cs k d (omega arith)) ∙ ap (λ (f : Image). f a) (seen_push m (take k cs) (get_or cs k d))

pub said_some : (found : Bool) (page : List ℕ) (x y : Option (List ℕ)) → said (Some found) page x ≡ said (Some found) page y
said_some true page x y = refl
said_some false page x y = refl

quiet_synced_after : (c : Call) → IsQuietCall c → (stood now : Image) → synced_after c stood now ≡ stood
quiet_synced_after (Write a page) q stood now = refl
quiet_synced_after (FailedWrite a) q stood now = refl
quiet_synced_after (Cut file) q stood now = refl
quiet_synced_after (FailedCut file) q stood now = refl
quiet_synced_after Sync q stood now = absurd q
quiet_synced_after FailedSync q stood now = refl
quiet_synced_after (Fill file byte) q stood now = refl

-- calls without a sync leave what stood at the last one
pub quiet_synced : (ys : List Call) → IsQuiet ys → (stood now : Image) → synced_from stood now ys ≡ stood
quiet_synced [] q stood now = refl
quiet_synced (c ∷ ys) q stood now = quiet_synced ys q.1 (synced_after c stood now) (seen_after c now) ∙ quiet_synced_after c q.0 stood now

synced_append : (stood now : Image) (xs ys : List Call) → synced_from stood now (xs ++ ys) ≡ synced_from (synced_from stood now xs) (seen_from now xs) ys
synced_append stood now [] ys = refl
synced_append stood now (c ∷ xs) ys = synced_append (synced_after c stood now) (seen_after c now) xs ys

-- calls up to a sync, and then some without one
pub synced_at : (m : Image) (cs : List Call) (k n : ℕ) (d : Call) → n ≡ k + 1 → n ≤ length cs → get_or cs k d ≡ Sync → IsQuiet (drop n cs) → synced_from m m cs ≡ seen_from m (take n cs)
synced_at m cs k n d is le sync quiet =
    let front : take n cs ≡ take k cs ++ Sync ∷ [] = ap (λ j. take j cs) is ∙ take_more cs k d (omega arith) ∙ ap (λ c. take k cs ++ c ∷ []) sync in
    let stood : synced_from m m (take n cs) ≡ seen_from m (take n cs) =
    ap (synced_from m m) front ∙ synced_append m m (take k cs) (Sync ∷ []) ∙ sym (seen_push m (take k cs) Sync) ∙ sym (ap (seen_from m) front) in
    ap (synced_from m m) (sym (take-append-drop n cs)) ∙ synced_append m m (take n cs) (drop n cs)
    ∙ quiet_synced (drop n cs) quiet (synced_from m m (take n cs)) (seen_from m (take n cs)) ∙ stood

pub settled_at : (cs : List Call) (k n : ℕ) (d : Call) → n ≡ k + 1 → n ≤ length cs → get_or cs k d ≡ Sync → IsSettled (touched_of (take n cs))
settled_at cs k n d is le sync =
    let front : take n cs ≡ take k cs ++ Sync ∷ [] = ap (λ j. take j cs) is ∙ take_more cs k d (omega arith) ∙ ap (λ c. take k cs ++ c ∷ []) sync in
    λ b t. touched_push (λ _. ⊥) (take k cs) Sync b (subst (λ l. touched_of l b) front t)

-- calls without a sync at all
pub none_synced : (n : ℕ) (cs : List Call) → n ≡ 0 → IsQuiet (drop n cs) → (m : Image) → synced_from m m cs ≡ m
none_synced n cs is quiet m = quiet_synced cs (subst (λ k. IsQuiet (drop k cs)) is quiet) m m
