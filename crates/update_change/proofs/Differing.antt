-- Rows differ where two different ones are among them, however they stand.
use Rattle.std.proofs.Common.{◌≡◌, refl, sym, ap, ◌∙◌, Bool, true, false, not, ◌||◌, List, [], ◌∷◌}
use Rattle.std.proofs.lemmas.Cmp.{eq_by_cmp_equiv}
use Rattle.std.specs.List.{list_any}
use Rattle.std.specs.Ordering.{eq_by_cmp}
use Rattle.calculus.specs.Orders.{row_total}
use Rattle.calculus.specs.Rows.{Row, has}
use Rattle.calculus.specs.Replacement.{some_differ}
use Rattle.calculus.specs.Value.{row_cmp}
use Rattle.calculus.proofs.Sets.{same_exact}

-- the two rows are the same
abbrev pub same : Row → Row → Bool
same = eq_by_cmp row_cmp

pub same_itself : (q : Row) → same q q ≡ true
same_itself q = (eq_by_cmp_equiv row_total).refl q

pub later_true : (b c : Bool) → c ≡ true → (b || c) ≡ true
later_true true c h = refl
later_true false c h = h

-- rows of which none differs from this one are this one
all_same : (row : Row) (rows : List Row) (q : Row) → list_any (λ other. not (same row other)) rows ≡ false → has rows q ≡ true → row ≡ q
all_same row [] q h there = cc there
all_same row (first ∷ rest) q h there = go (same row first) refl (same q first) refl h there (all_same row rest q)
  where
    differs : Bool
    differs = list_any (λ other. not (same row other)) rest

    go : (a : Bool) → same row first ≡ a → (b : Bool) → same q first ≡ b → (not a || differs) ≡ false → (b || has rest q) ≡ true
        → (differs ≡ false → has rest q ≡ true → row ≡ q) → row ≡ q
    go true e true f h there later = same_exact row first e ∙ sym (same_exact q first f)
    go true e false f h there later = later h there
    go false e b f h there later = cc h

-- where two different rows are among them, some differ
pub differ-from_two : (rows : List Row) (x y : Row) → has rows x ≡ true → has rows y ≡ true → same x y ≡ false → some_differ rows ≡ true
differ-from_two [] x y x_there y_there apart = cc x_there
differ-from_two (row ∷ rows) x y x_there y_there apart = go (list_any (λ other. not (same row other)) rows) refl
  where
    one : list_any (λ other. not (same row other)) rows ≡ false → (q : Row) → (b : Bool) → same q row ≡ b → (b || has rows q) ≡ true → q ≡ row
    one e q true f there = same_exact q row f
    one e q false f there = sym (all_same row rows q e there)

    go : (b : Bool) → list_any (λ other. not (same row other)) rows ≡ b → b ≡ true
    go true e = refl
    go false e =
        let x_row : x ≡ row = one e x (same x row) refl x_there in
        let y_row : y ≡ row = one e y (same y row) refl y_there in
        let no : false ≡ true = sym apart ∙ (λ i. same (x_row i) (y_row i)) ∙ same_itself row in
        cc no

-- one of these rows differs from this one
abbrev Other : Row → List Row → Type 0
Other row rows = (y : Row) × (has rows y ≡ true) × (same row y ≡ false)

other_there : (row : Row) (rows : List Row) → list_any (λ other. not (same row other)) rows ≡ true → Other row rows
other_there row [] h = cc h
other_there row (first ∷ rest) h = go (same row first) refl h (other_there row rest)
  where
    differs : Bool
    differs = list_any (λ other. not (same row other)) rest

    go : (a : Bool) → same row first ≡ a → (not a || differs) ≡ true → (differs ≡ true → Other row rest) → Other row (first ∷ rest)
    go true e h later = let t = later h in (t.0, later_true (same t.0 first) (has rest t.0) t.1, t.2)
    go false e h later = (first, ap (λ b. b || has rest first) (same_itself first), e)

differ-moves : (rows others : List Row) → ((q : Row) → has rows q ≡ has others q) → some_differ rows ≡ true → some_differ others ≡ true
differ-moves [] others h d = cc d
differ-moves (row ∷ rows) others h d =
    let other = other_there row rows d in
    differ-from_two others row other.0 (sym (h row) ∙ ap (λ b. b || has rows row) (same_itself row))
    (sym (h other.0) ∙ later_true (same other.0 row) (has rows other.0) other.1) other.2

-- lists of the same rows differ both or neither
pub differ-same : (rows others : List Row) → ((q : Row) → has rows q ≡ has others q) → some_differ rows ≡ some_differ others
differ-same rows others h = equal_by (some_differ rows) (some_differ others) (differ-moves rows others h) (differ-moves others rows (λ q. sym (h q)))
  where
    equal_by : (b c : Bool) → (b ≡ true → c ≡ true) → (c ≡ true → b ≡ true) → b ≡ c
    equal_by true c to from = sym (to refl)
    equal_by false true to from = from refl
    equal_by false false to from = refl
