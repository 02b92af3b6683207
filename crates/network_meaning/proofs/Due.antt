-- Each step keeps what comes to stage 1 lawful: the steps that add to it.
use Rattle.std.proofs.Common.{◌≡◌, List, [], ◌∷◌, ◌++◌, Some, None, map, refl, sym, ap, subst, ◌∙◌, append_assoc}
use Rattle.std.proofs.lemmas.List.{append-nil, map-append}
use Rattle.std.specs.declared.option.Option.{Option}
use Rattle.network_meaning.specs.Sorts.{Sorts, Said, Shown, Reply, Message, Table, Shown.row, Said.shown, Said.replied, Message.text, Message.cargo, Message.said, Message.end, Message.quit}
use Rattle.network_meaning.specs.Language.{Language}
use Rattle.network_meaning.specs.Laws.{RowsFit, TablesFit}
use Rattle.network_meaning.specs.LocalSteps.{open_after, all_shown}
use Rattle.network_meaning.specs.Held.{begun, kept}
use Rattle.network_meaning.specs.Due.{Due}
use Rattle.network_meaning.specs.Orderly.{Front, front_mode}

-- these messages may come whatever table is open
pub record Anywhere {S : Sorts} (L : Language S) (xs : List (Message S)) : Type 0 where
  pub due : (o : Option S.Head) → Due L o xs

pub due_more : {S : Sorts} (L : Language S) (o : Option S.Head) (ms xs : List (Message S)) → Due L o ms → Anywhere L xs → Due L o (ms ++ xs)
due_more L o [] xs h a = a.due o
due_more L o (said s ∷ ms) xs h a = (h.0, due_more L (open_after o s) ms xs h.1 a)
due_more L o (end ∷ ms) xs h a = due_more L None ms xs h a
due_more L o (text t ∷ ms) xs h a = due_more L o ms xs h a
due_more L o (cargo x ∷ ms) xs h a = due_more L o ms xs h a
due_more L o (quit ∷ ms) xs h a = due_more L o ms xs h a

pub reply_anywhere : {S : Sorts} (L : Language S) (r : Reply S) (xs : List (Message S)) → Due L None xs → Anywhere L (said (replied r) ∷ xs)
reply_anywhere L r xs h = record { due = λ o. (refl, h) }

rows_due : {S : Sorts} (L : Language S) (h : S.Head) (rs : List S.Row) (xs : List (Message S)) → RowsFit L h rs → Due L (Some h) xs → Due L (Some h) (map (λ s. said (shown s)) (map row rs) ++ xs)
rows_due L h [] xs f d = d
rows_due L h (r ∷ rs) xs f d = (f.0, rows_due L h rs xs f.1 d)

pub end_anywhere : {S : Sorts} (L : Language S) → Anywhere L (end ∷ [])
end_anywhere L = record { due = λ o. tt }

pub tables_anywhere : {S : Sorts} (L : Language S) (ts : List (Table S)) → TablesFit L ts → Anywhere L (map (λ s. said (shown s)) (all_shown ts) ++ end ∷ [])
tables_anywhere L [] f = record { due = λ o. tt }
tables_anywhere {S} L (t ∷ ts) f =
    let shows : Shown S → Message S = λ s. said (shown s) in
    let more : List (Message S) = map shows (all_shown ts) ++ end ∷ [] in
    let e : map shows (map row t.rows ++ all_shown ts) ++ end ∷ [] ≡ map shows (map row t.rows) ++ more =
    ap (λ (x : List (Message S)). x ++ end ∷ []) (map-append shows (map row t.rows) (all_shown ts)) ∙ append_assoc (map shows (map row t.rows)) (map shows (all_shown ts)) (end ∷ []) in
    let later : Anywhere L more = tables_anywhere L ts f.1 in
    let d : Due L (Some t.top) (map shows (map row t.rows ++ all_shown ts) ++ end ∷ []) = subst (Due L (Some t.top)) (sym e) (rows_due L t.top t.rows more f.0 (later.due (Some t.top))) in
    record { due = λ o. (refl, d) }

-- what stage 1 is to print and what comes behind that, where nothing is in E or D
abbrev pub FrontDue : {S : Sorts} → Language S → Front S → List (Message S) → Type 0
FrontDue L w xs = Due L (begun (front_mode w.monitor w.open_head w.prints)) (kept (front_mode w.monitor w.open_head w.prints) ++ xs)

-- what is said behind all that comes is due, too
pub said_due : {S : Sorts} (L : Language S) (w : Front S) (xs : List (Message S)) → FrontDue L w ((map said w.coming ++ []) ++ []) → Anywhere L xs → FrontDue L w (map said w.coming ++ xs)
said_due {S} L w xs d a =
    let ks : List (Message S) = kept (front_mode w.monitor w.open_head w.prints) in
    let e : ks ++ ((map said w.coming ++ []) ++ []) ≡ ks ++ map said w.coming = simp append-nil in
    rw (← append_assoc ks (map said w.coming) xs) (due_more L (begun (front_mode w.monitor w.open_head w.prints)) (ks ++ map said w.coming) xs (subst (Due L (begun (front_mode w.monitor w.open_head w.prints))) e d) a)

-- what comes before is due without what comes behind
pub due_before : {S : Sorts} (L : Language S) (o : Option S.Head) (ms xs : List (Message S)) → Due L o (ms ++ xs) → Due L o ms
due_before L o [] xs h = tt
due_before L o (said s ∷ ms) xs h = (h.0, due_before L (open_after o s) ms xs h.1)
due_before L o (end ∷ ms) xs h = due_before L None ms xs h
due_before L o (text t ∷ ms) xs h = due_before L o ms xs h
due_before L o (cargo x ∷ ms) xs h = due_before L o ms xs h
due_before L o (quit ∷ ms) xs h = due_before L o ms xs h

-- what stage 2 passes on was due in E
pub passed_due : {S : Sorts} (L : Language S) (w : Front S) (s : Said S) (ys : List (Message S)) → FrontDue L w ((map said w.coming ++ []) ++ said s ∷ ys) → FrontDue L w ((map said (w.coming ++ s ∷ []) ++ []) ++ ys)
passed_due L w s ys d = simp (append-nil, map-append, append_assoc) (simp append-nil at d)
