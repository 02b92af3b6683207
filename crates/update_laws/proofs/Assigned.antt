-- What holds of the rows of each variable holds in each assignment.
use Rattle.std.proofs.Common.{◌≡◌, refl, subst, ℕ, zero, suc, ◌+◌, IsTrue, List, [], ◌∷◌, Some, map, arith}
use Rattle.std.specs.Prelude.{slice_get}
use Rattle.std.specs.List.{enumerate_from}
use Rattle.calculus.specs.declared.query.RelKey.{RelKey}
use Rattle.calculus.specs.Rows.{Row}
use Rattle.calculus.specs.Term.{Env}
use Rattle.calculus.specs.Assignments.{choices}
use Rattle.quel_meaning.proofs.Each.{Each, in_map, in_flat_map, each_to}
use Rattle.update_laws.specs.Proper.{row_is_proper, rows_are_proper}
use Rattle.update_laws.proofs.Texts.{each}

-- what a row of a variable is, by the variable's place and what it ranges over
abbrev pub OfVariable : Type 1
OfVariable = ℕ → RelKey → Row → Type 0

-- the assignment has one row of each variable, of which it holds
abbrev pub Chosen : OfVariable → ℕ → List RelKey → Env → Type 0
Chosen P n [] [] = Unit {0}
Chosen P n [] (row ∷ e) = ⊥
Chosen P n (key ∷ keys) [] = ⊥
Chosen P n (key ∷ keys) (row ∷ e) = P n key row × Chosen P (n + 1) keys e

-- it holds of each row of each variable
abbrev pub OfRows : OfVariable → (ℕ → RelKey → List Row) → List (ℕ × RelKey) → Type 0
OfRows P rows vars = Each (λ p. Each (P p.0 p.1) (rows p.0 p.1)) vars

-- the row in front of each assignment of the other variables
abbrev in_front : List Env → Row → List Env
in_front others row = map (λ e. row ∷ e) others

row_in_front : (P : OfVariable) (n : ℕ) (key : RelKey) (keys : List RelKey) (others : List Env) → Each (Chosen P (n + 1) keys) others → (row : Row) → P n key row
    → Each (Chosen P n (key ∷ keys)) (in_front others row)
row_in_front P n key keys others h row p =
    in_map (Chosen P n (key ∷ keys)) (λ e. row ∷ e) others (each_to (Chosen P (n + 1) keys) (λ e. Chosen P n (key ∷ keys) (row ∷ e)) (λ e h. (p, h)) others h)

pub chosen : (P : OfVariable) (rows : ℕ → RelKey → List Row) (n : ℕ) (keys : List RelKey) → OfRows P rows (enumerate_from n keys)
    → Each (Chosen P n keys) (choices (map (λ p. rows p.0 p.1) (enumerate_from n keys)))
chosen P rows n [] h = (tt, tt)
chosen P rows n (key ∷ keys) h =
    let others = choices (map (λ p. rows p.0 p.1) (enumerate_from (n + 1) keys)) in
    in_flat_map (Chosen P n (key ∷ keys)) (in_front others) (rows n key)
    (each_to (P n key) (λ row. Each (Chosen P n (key ∷ keys)) (in_front others row)) (row_in_front P n key keys others (chosen P rows (n + 1) keys h.1)) (rows n key) h.0)

-- the row of the variable at a place
pub chosen_at : (P : OfVariable) (n i m : ℕ) → m ≡ n + i → (keys : List RelKey) (e : Env) → Chosen P n keys e → (key : RelKey) → slice_get keys i ≡ Some key
    → (row : Row) → slice_get e i ≡ Some row → P m key row
chosen_at P n i m same [] e c key k row r = cc k
chosen_at P n i m same (first ∷ keys) [] c key k row r = absurd c
chosen_at P n zero m same (first ∷ keys) (front ∷ e) c key k row r =
    let place : n ≡ m = omega (arith, same) in
    let one : first ≡ key = cc k in
    let other : front ≡ row = cc r in
    subst (λ m. P m key row) place (subst (λ key. P n key row) one (subst (P n first) other c.0))
chosen_at P n (suc i) m same (first ∷ keys) (front ∷ e) c key k row r =
    let place : m ≡ (n + 1) + i = omega (arith, same) in
    chosen_at P (n + 1) i m place keys e c.1 key k row r

-- all rows of an assignment are such where the rows of each variable are
pub all_proper : (P : OfVariable) → ((n : ℕ) (key : RelKey) (row : Row) → P n key row → IsTrue (row_is_proper row)) → (n : ℕ) (keys : List RelKey) (e : Env) → Chosen P n keys e
    → IsTrue (rows_are_proper e)
all_proper P f n [] [] c = refl
all_proper P f n [] (row ∷ e) c = absurd c
all_proper P f n (key ∷ keys) [] c = absurd c
all_proper P f n (key ∷ keys) (row ∷ e) c = each (row_is_proper row) (rows_are_proper e) (f n key row c.0) (all_proper P f (n + 1) keys e c.1)
