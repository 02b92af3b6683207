-- What is printed of messages that come one after another.
use Rattle.std.proofs.Common.{◌≡◌, ℕ, List, [], ◌∷◌, ◌++◌, Some, None, map, refl, sym, ap, ◌∙◌, append_assoc}
use Rattle.std.proofs.lemmas.List.{map-append}
use Rattle.std.specs.declared.option.Option.{Option}
use Rattle.network_meaning.specs.Sorts.{Sorts, Shown, Reply, Message, Table}
use Rattle.network_meaning.specs.Sorts.{Shown.row, Reply.done, Reply.refused, Said.shown, Said.replied, Message.text, Message.cargo, Message.said, Message.end, Message.quit}
use Rattle.network_meaning.specs.Language.{Language, tables_bytes, lines_of}
use Rattle.network_meaning.specs.LocalSteps.{closing, said_bytes, open_after, all_shown}
use Rattle.network_meaning.specs.Held.{printed, with_line}

-- these messages begin with no row
pub record Opens {S : Sorts} (L : Language S) (xs : List (Message S)) : Type 0 where
  pub closes : (o : Option S.Head) → printed L o xs ≡ closing L o ++ printed L None xs

pub opens_end : {S : Sorts} (L : Language S) → Opens L (end ∷ [])
opens_end L = record { closes = λ o. refl }

pub opens_reply : {S : Sorts} (L : Language S) (r : Reply S) (xs : List (Message S)) → Opens L (said (replied r) ∷ xs)
opens_reply L done xs = record { closes = λ o. append_assoc (closing L o) L.done_bytes (printed L None xs) }
opens_reply L (refused r) xs = record { closes = λ o. append_assoc (closing L o) (L.refusal_bytes r) (printed L None xs) }

pub opens_tables : {S : Sorts} (L : Language S) (ts : List (Table S)) → Opens L (map (λ s. said (shown s)) (all_shown ts) ++ end ∷ [])
opens_tables L [] = opens_end L
opens_tables L (t ∷ ts) = record { closes = λ o. append_assoc (closing L o) (L.head_bytes t.top) _ }

pub printed_more : {S : Sorts} (L : Language S) (o : Option S.Head) (ms xs : List (Message S)) → Opens L xs → printed L o (ms ++ xs) ≡ printed L o ms ++ printed L None xs
printed_more L o [] xs h = h.closes o
printed_more L o (said s ∷ ms) xs h = rw (printed_more L (open_after o s) ms xs h) (sym (append_assoc (said_bytes L o s) _ _))
printed_more L o (end ∷ ms) xs h = rw (printed_more L None ms xs h) (sym (append_assoc (closing L o) _ _))
printed_more L o (text t ∷ ms) xs h = printed_more L o ms xs h
printed_more L o (cargo t ∷ ms) xs h = printed_more L o ms xs h
printed_more L o (quit ∷ ms) xs h = printed_more L o ms xs h

-- what is said last is the beginning of the rest
pub say_more : {S : Sorts} (L : Language S) (out : List ℕ) (o : Option S.Head) (ks fs xs : List (Message S)) (rest : List ℕ) → Opens L xs →
    out ++ (printed L o (ks ++ (fs ++ xs)) ++ rest) ≡ out ++ (printed L o (ks ++ fs) ++ (printed L None xs ++ rest))
say_more L out o ks fs xs rest h = rw (← append_assoc ks fs xs, printed_more L o (ks ++ fs) xs h) (ap (λ r. out ++ r) (append_assoc (printed L o (ks ++ fs)) (printed L None xs) rest))

rows_printed : {S : Sorts} (L : Language S) (h : S.Head) (rs : List S.Row) (xs : List (Message S)) →
    printed L (Some h) (map (λ s. said (shown s)) (map row rs) ++ xs) ≡ lines_of L h rs ++ printed L (Some h) xs
rows_printed L h [] xs = refl
rows_printed L h (r ∷ rs) xs = rw (rows_printed L h rs xs) (sym (append_assoc (L.row_bytes h r) _ _))

-- head and rule, a line per row, and the closing rule
pub tables_printed : {S : Sorts} (L : Language S) (ts : List (Table S)) → printed L None (map (λ s. said (shown s)) (all_shown ts) ++ end ∷ []) ≡ tables_bytes L ts
tables_printed L [] = refl
tables_printed {S} L (t ∷ ts) =
    let shows : Shown S → Message S = λ s. said (shown s) in
    let more : List (Message S) = map shows (all_shown ts) ++ end ∷ [] in
    let e : map shows (map row t.rows ++ all_shown ts) ++ end ∷ [] ≡ map shows (map row t.rows) ++ more =
    ap (λ (x : List (Message S)). x ++ end ∷ []) (map-append shows (map row t.rows) (all_shown ts)) ∙ append_assoc (map shows (map row t.rows)) (map shows (all_shown ts)) (end ∷ []) in
    ap (λ (x : List ℕ). L.head_bytes t.top ++ x)
    (ap (printed L (Some t.top)) e ∙ rows_printed L t.top t.rows more
    ∙ ap (λ (x : List ℕ). lines_of L t.top t.rows ++ x) ((opens_tables L ts).closes (Some t.top) ∙ ap (λ (x : List ℕ). L.rule_bytes t.top ++ x) (tables_printed L ts)))

pub lines_kept : {S : Sorts} (L : Language S) (line : ℕ) (ss : List (Shown S)) (xs : List (Message S)) →
    map (with_line L line) (map (λ s. said (shown s)) ss ++ xs) ≡ map (λ s. said (shown s)) ss ++ map (with_line L line) xs
lines_kept L line [] xs = refl
lines_kept L line (s ∷ ss) xs = ap (λ r. said (shown s) ∷ r) (lines_kept L line ss xs)
