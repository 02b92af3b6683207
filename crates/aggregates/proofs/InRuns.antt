-- Runs of rows with the same by-values, and where a group is found.
use Rattle.std.proofs.Common.{◌≡◌, refl, sym, ap, ◌∙◌, subst, ℕ, suc, zero, ◌+◌, ◌<◌, ◌≤◌, Bool, true, false, List, [], ◌∷◌, ◌++◌, map, length, take, drop, cond, Option, Some, arith}
use Rattle.std.proofs.Common.{add-one, get_or, append_assoc}
use Rattle.std.proofs.Math.Seq.{drop-cons}
use Rattle.std.proofs.lemmas.List.{append-nil, drop_all}
use Rattle.std.specs.Prelude.{filter}
use Rattle.std.specs.List.{AllByRecursion}
use Rattle.std.specs.Ordering.{is_eq}
use Rattle.std.specs.declared.cmp.Ordering.TheVariants.{Less}
use Rattle.calculus.specs.declared.operator.AggOp.{AggOp}
use Rattle.calculus.specs.declared.value.Value.{Value}
use Rattle.calculus.specs.Rows.{Row, Ascends}
use Rattle.calculus.specs.Table.{in_groups}
use Rattle.calculus.specs.Value.{row_cmp}
use Rattle.calculus.proofs.Sets.{Ascends-cons, Ascends-nil}
use Rattle.aggregates.specs.Members.{Member}
use Rattle.aggregates.specs.Runs.{Run, in_front, runs, folded, group_of, groups_of, leading, Rises}
use Rattle.calculus.specs.Groups.{GroupsAscend}
use Rattle.aggregates.proofs.Order.{same_row, row_itself, either_way, later_are_above}

-- the rows with these by-values
abbrev pub with_by : Row → List Member → List Member
with_by by ms = filter (λ m. is_eq (row_cmp m.0 by)) ms

-- their arguments
abbrev pub args_with : Row → List Member → List (Option Value)
args_with by ms = map (λ m. m.1) (with_by by ms)

-- the arguments of the first run with these by-values; none where no run has them
abbrev pub args_in : List Run → Row → List (Option Value)
args_in [] by = []
args_in (g ∷ gs) by = elim (is_eq (row_cmp g.0 by)) [ true ↦ g.1 | false ↦ args_in gs by ]

-- ---- the first run

abbrev joined : Bool → Member → Run → List Run → List Run
joined true m g gs = (g.0, m.1 ∷ g.1) ∷ gs
joined false m g gs = (m.0, m.1 ∷ []) ∷ g ∷ gs

in_front-cons : (m : Member) (g : Run) (gs : List Run) (b : Bool) → is_eq (row_cmp m.0 g.0) ≡ b → in_front m (g ∷ gs) ≡ joined b m g gs
in_front-cons m g gs true e = rw (e, in_front) refl
in_front-cons m g gs false e = rw (e, in_front) refl

-- the by-values of the first run
abbrev first_by : List Run → Row → Row
first_by [] none = none
first_by (g ∷ gs) none = g.0

first_key-joined : (n : Member) (h : Run) (hs : List Run) (b : Bool) → is_eq (row_cmp n.0 h.0) ≡ b → first_by (joined b n h hs) n.0 ≡ n.0
first_key-joined n h hs true e = sym (same_row n.0 h.0 e)
first_key-joined n h hs false e = refl

first_key : (n : Member) (rs : List Run) → first_by (in_front n rs) n.0 ≡ n.0
first_key n [] = refl
first_key n (h ∷ hs) = ap (λ rs. first_by rs n.0) (in_front-cons n h hs _ refl) ∙ first_key-joined n h hs _ refl

-- the first run has the by-values of the first row
first_run : (n : Member) (ns : List Member) (g : Run) (gs : List Run) → runs (n ∷ ns) ≡ g ∷ gs → g.0 ≡ n.0
first_run n ns g gs e = sym (ap (λ rs. first_by rs n.0) e) ∙ first_key n (runs ns)

-- ---- where by-values are found

none_above : (by : Row) (ms : List Member) → AllByRecursion (λ other. row_cmp by other.0 ≡ Less) ms → with_by by ms ≡ []
none_above by [] all = refl
none_above by (m ∷ ms) all = rw (either_way m.0 by, all.0) (none_above by ms all.1)

other_above : (m : Member) (ms : List Member) (g : Run) (gs : List Run) → runs ms ≡ g ∷ gs → Rises (m ∷ ms) → is_eq (row_cmp m.0 g.0) ≡ false
    → AllByRecursion (λ other. row_cmp m.0 other.0 ≡ Less) ms
other_above m [] g gs e up other = absurd (cc e)
other_above m (n ∷ ns) g gs e up other = later_are_above m n ns up (subst (λ k. is_eq (row_cmp m.0 k) ≡ false) (first_run n ns g gs e) other)

alone_found : (m : Member) (w : List Member) (b : Bool) → [] ≡ map (λ m. m.1) w
    → elim b [ true ↦ m.1 ∷ [] | false ↦ [] ] ≡ map (λ m. m.1) (cond b (m ∷ w) w)
alone_found m w true ih = ap (λ xs. m.1 ∷ xs) ih
alone_found m w false ih = ih

joined_found : (m : Member) (w : List Member) (xs more : List (Option Value)) (b : Bool) → elim b [ true ↦ xs | false ↦ more ] ≡ map (λ m. m.1) w
    → elim b [ true ↦ m.1 ∷ xs | false ↦ more ] ≡ map (λ m. m.1) (cond b (m ∷ w) w)
joined_found m w xs more true ih = ap (λ xs. m.1 ∷ xs) ih
joined_found m w xs more false ih = ih

apart_found : (m : Member) (w : List Member) (more : List (Option Value)) (b : Bool) → (b ≡ true → w ≡ []) → more ≡ map (λ m. m.1) w
    → elim b [ true ↦ m.1 ∷ [] | false ↦ more ] ≡ map (λ m. m.1) (cond b (m ∷ w) w)
apart_found m w more true none ih = ap (λ w. m.1 ∷ map (λ (m : Member). m.1) w) (sym (none refl))
apart_found m w more false none ih = ih

found_joined : (m : Member) (ms : List Member) (g : Run) (gs : List Run) (by : Row) (b : Bool) → is_eq (row_cmp m.0 g.0) ≡ b → runs ms ≡ g ∷ gs → Rises (m ∷ ms)
    → args_in (g ∷ gs) by ≡ args_with by ms → args_in (joined b m g gs) by ≡ args_with by (m ∷ ms)
found_joined m ms g gs by true e is up ih =
    joined_found m (with_by by ms) g.1 (args_in gs by) (is_eq (row_cmp g.0 by)) ih
    ∙ ap (λ k. map (λ (m : Member). m.1) (cond (is_eq (row_cmp k by)) (m ∷ with_by by ms) (with_by by ms))) (sym (same_row m.0 g.0 e))
found_joined m ms g gs by false e is up ih =
    apart_found m (with_by by ms) (args_in (g ∷ gs) by) (is_eq (row_cmp m.0 by))
    (λ h. subst (λ k. with_by k ms ≡ []) (same_row m.0 by h) (none_above m.0 ms (other_above m ms g gs is up e))) ih

found_next : (m : Member) (ms : List Member) (rs : List Run) → runs ms ≡ rs → ((by : Row) → args_in rs by ≡ args_with by ms) → Rises (m ∷ ms) → (by : Row)
    → args_in (in_front m rs) by ≡ args_with by (m ∷ ms)
found_next m ms [] is ih up by = alone_found m (with_by by ms) (is_eq (row_cmp m.0 by)) (ih by)
found_next m ms (g ∷ gs) is ih up by = ap (λ rs. args_in rs by) (in_front-cons m g gs _ refl) ∙ found_joined m ms g gs by _ refl is up (ih by)

-- of rows that rise, the run with these by-values has the arguments of all rows with them
pub found_args : (ms : List Member) → Rises ms → (by : Row) → args_in (runs ms) by ≡ args_with by ms
found_args [] up by = refl
found_args (m ∷ ms) up by = found_next m ms (runs ms) refl (found_args ms up.1) up by

found_where : (op : AggOp) (none : Value) (xs ys : List (Option Value)) (found : Option Value) (b : Bool) → found ≡ folded op none ys
    → elim b [ true ↦ folded op none xs | false ↦ found ] ≡ folded op none (elim b [ true ↦ xs | false ↦ ys ])
found_where op none xs ys found true ih = refl
found_where op none xs ys found false ih = ih

found_in : (op : AggOp) (none empty : Value) → folded op none [] ≡ Some empty → (gs : List Run) (by : Row)
    → in_groups empty (map (group_of op none) gs) by ≡ folded op none (args_in gs by)
found_in op none empty e [] by = sym e
found_in op none empty e (g ∷ gs) by = found_where op none g.1 (args_in gs by) _ (is_eq (row_cmp g.0 by)) (found_in op none empty e gs by)

-- a group is found by its by-values, and what no rows give where there is none
pub found_group : (op : AggOp) (none empty : Value) (ms : List Member) → folded op none [] ≡ Some empty → Rises ms → (by : Row)
    → in_groups empty (groups_of op none ms) by ≡ folded op none (args_with by ms)
unfolding groups_of
found_group op none empty ms e up by = found_in op none empty e (runs ms) by ∙ ap (folded op none) (found_args ms up by)

-- ---- the groups ascend

abbrev keys : List Run → List Row
keys gs = map (λ g. g.0) gs

above_joined : (a : Row) (m : Member) (g : Run) (gs : List Run) (b : Bool) → row_cmp a m.0 ≡ Less → AllByRecursion (λ k. row_cmp a k ≡ Less) (keys (g ∷ gs))
    → AllByRecursion (λ k. row_cmp a k ≡ Less) (keys (joined b m g gs))
above_joined a m g gs true less all = all
above_joined a m g gs false less all = (less, all)

above_front : (a : Row) (m : Member) (rs : List Run) → row_cmp a m.0 ≡ Less → AllByRecursion (λ k. row_cmp a k ≡ Less) (keys rs)
    → AllByRecursion (λ k. row_cmp a k ≡ Less) (keys (in_front m rs))
above_front a m [] less all = (less, tt)
above_front a m (g ∷ gs) less all =
    subst (λ rs. AllByRecursion (λ k. row_cmp a k ≡ Less) (keys rs)) (sym (in_front-cons m g gs _ refl)) (above_joined a m g gs _ less all)

above_runs : (a : Row) (ms : List Member) → AllByRecursion (λ other. row_cmp a other.0 ≡ Less) ms → AllByRecursion (λ k. row_cmp a k ≡ Less) (keys (runs ms))
above_runs a [] all = tt
above_runs a (m ∷ ms) all = above_front a m (runs ms) all.0 (above_runs a ms all.1)

ascend_joined : (m : Member) (ms : List Member) (g : Run) (gs : List Run) (b : Bool) → is_eq (row_cmp m.0 g.0) ≡ b → runs ms ≡ g ∷ gs → Rises (m ∷ ms)
    → Ascends (keys (g ∷ gs)) → Ascends (keys (joined b m g gs))
ascend_joined m ms g gs true e is up ih = ih
ascend_joined m ms g gs false e is up ih =
    Ascends-cons m.0 (keys (g ∷ gs))
    (subst (λ rs. AllByRecursion (λ k. row_cmp m.0 k ≡ Less) (keys rs)) is (above_runs m.0 ms (other_above m ms g gs is up e))) ih

ascend_next : (m : Member) (ms : List Member) (rs : List Run) → runs ms ≡ rs → Rises (m ∷ ms) → Ascends (keys rs) → Ascends (keys (in_front m rs))
ascend_next m ms [] is up ih = Ascends-cons m.0 [] tt Ascends-nil
ascend_next m ms (g ∷ gs) is up ih = subst (λ rs. Ascends (keys rs)) (sym (in_front-cons m g gs _ refl)) (ascend_joined m ms g gs _ refl is up ih)

runs_ascend : (ms : List Member) → Rises ms → Ascends (keys (runs ms))
runs_ascend [] up = Ascends-nil
runs_ascend (m ∷ ms) up = ascend_next m ms (runs ms) refl up (runs_ascend ms up.1)

keys_stay : (op : AggOp) (none : Value) (gs : List Run) → map (λ g. g.0) (map (group_of op none) gs) ≡ keys gs
keys_stay op none [] = refl
keys_stay op none (g ∷ gs) = ap (λ ks. g.0 ∷ ks) (keys_stay op none gs)

pub groups_ascend : (op : AggOp) (none : Value) (ms : List Member) → Rises ms → GroupsAscend (groups_of op none ms)
unfolding groups_of
groups_ascend op none ms up = subst Ascends (sym (keys_stay op none (runs ms))) (runs_ascend ms up)

-- ---- the next run

starts : (by : Row) (m : Member) (ms : List Member) (n : ℕ) (b : Bool) → is_eq (row_cmp m.0 by) ≡ b → elim b [ true ↦ suc (leading by ms) | false ↦ 0 ] ≡ suc n
    → (m.0 ≡ by) × (leading by ms ≡ n)
starts by m ms n true e h = (same_row m.0 by e, omega (arith, h))
starts by m ms n false e h = absurd (omega (arith, h))

other_by : (by : Row) (m : Member) (ms : List Member) (b : Bool) → is_eq (row_cmp m.0 by) ≡ b → elim b [ true ↦ suc (leading by ms) | false ↦ 0 ] ≡ zero → b ≡ false
other_by by m ms true e h = absurd (omega (arith, h))
other_by by m ms false e h = refl

ends : (by : Row) (m : Member) (ms : List Member) (rs : List Run) → runs ms ≡ rs → m.0 ≡ by → leading by ms ≡ 0
    → in_front m rs ≡ (by, m.1 ∷ []) ∷ rs
ends by m ms [] is e none = ap (λ k. (k, m.1 ∷ []) ∷ []) e
ends by m [] (g ∷ gs) is e none = absurd (cc is)
ends by m (n ∷ ns) (g ∷ gs) is e none =
    let other : is_eq (row_cmp n.0 by) ≡ false = other_by by n ns _ refl none in
    let apart : is_eq (row_cmp m.0 g.0) ≡ false = (λ i. is_eq (row_cmp (e i) (first_run n ns g gs is i))) ∙ either_way by n.0 ∙ other in
    in_front-cons m g gs false apart ∙ ap (λ k. (k, m.1 ∷ []) ∷ g ∷ gs) e

goes_on : (by : Row) (m : Member) (args : List (Option Value)) (rs : List Run) → m.0 ≡ by → in_front m ((by, args) ∷ rs) ≡ (by, m.1 ∷ args) ∷ rs
goes_on by m args rs e = in_front-cons m (by, args) rs true (ap (λ k. is_eq (row_cmp k by)) e ∙ row_itself by)

run_next : (by : Row) (ms : List Member) (n : ℕ) → leading by ms ≡ suc n → runs ms ≡ (by, map (λ m. m.1) (take (suc n) ms)) ∷ runs (drop (suc n) ms)
run_next by [] n h = absurd (omega (arith, h))
run_next by (m ∷ ms) zero h =
    let s = starts by m ms zero _ refl h in ends by m ms (runs ms) refl s.0 s.1
run_next by (m ∷ ms) (suc n) h =
    let s = starts by m ms (suc n) _ refl h in
    ap (in_front m) (run_next by ms n s.1) ∙ goes_on by m _ _ s.0

pub leads : (m : Member) (ms : List Member) → leading m.0 (m ∷ ms) ≡ suc (leading m.0 ms)
leads m ms = rw (row_itself m.0, leading) refl

-- the group of the first rows, in front of the groups of the rows behind them
pub group_next : (op : AggOp) (none : Value) (m : Member) (ms : List Member) (n : ℕ) → n ≡ leading m.0 (m ∷ ms)
    → groups_of op none (m ∷ ms) ≡ (m.0, folded op none (map (λ m. m.1) (take n (m ∷ ms)))) ∷ groups_of op none (drop n (m ∷ ms))
unfolding groups_of
group_next op none m ms n e =
    ap (map (group_of op none)) (run_next m.0 (m ∷ ms) (leading m.0 ms) (leads m ms))
    ∙ ap (λ n. (m.0, folded op none (map (λ (m : Member). m.1) (take n (m ∷ ms)))) ∷ map (group_of op none) (runs (drop n (m ∷ ms)))) (sym (e ∙ leads m ms))

-- ---- how many lead

dropped : {X : Type 0} (xs : List X) (i : ℕ) (x : X) → i < length xs → x ≡ get_or xs i x → drop i xs ≡ x ∷ drop (i + 1) xs
dropped xs i x h e = drop-cons xs i x h ∙ (λ j. sym e j ∷ drop (sym (add-one i) j) xs)

pub leading_ends : (by : Row) (ms : List Member) (i n : ℕ) (m : Member) → i < length ms → m ≡ get_or ms i m → is_eq (row_cmp m.0 by) ≡ false
    → leading by ms ≡ n + leading by (drop i ms) → n ≡ leading by ms
leading_ends by ms i n m h is other so_far =
    let none : leading by (m ∷ drop (i + 1) ms) ≡ 0 = rw (other, leading) refl in
    omega (arith, so_far, ap (leading by) (dropped ms i m h is), none)

pub leading_goes_on : (by : Row) (ms : List Member) (i n : ℕ) (m : Member) → i < length ms → m ≡ get_or ms i m → is_eq (row_cmp m.0 by) ≡ true
    → leading by ms ≡ n + leading by (drop i ms) → leading by ms ≡ (n + 1) + leading by (drop (i + 1) ms)
leading_goes_on by ms i n m h is same so_far =
    let one : leading by (m ∷ drop (i + 1) ms) ≡ suc (leading by (drop (i + 1) ms)) = rw (same, leading) refl in
    omega (arith, so_far, ap (leading by) (dropped ms i m h is), one)

pub leading_all : (by : Row) (ms : List Member) (i n : ℕ) → length ms ≤ i → leading by ms ≡ n + leading by (drop i ms) → n ≡ leading by ms
leading_all by ms i n h so_far = omega (arith, so_far, ap (leading by) (drop_all i ms h))

-- ---- the loop

led : (rest : List Member) (m : Member) (ms : List Member) (many : ℕ) → rest ≡ m ∷ ms → many ≡ leading m.0 rest → many ≡ suc (leading m.0 ms)
led rest m ms many is e = e ∙ ap (leading m.0) is ∙ leads m ms

pub smaller_rest : (rest : List Member) (m : Member) (ms : List Member) (many : ℕ) (behind : List Member) → rest ≡ m ∷ ms → many ≡ leading m.0 rest
    → length behind + many ≡ length rest → length behind < length rest
smaller_rest rest m ms many behind is e whole = omega (arith, led rest m ms many is e, whole)

-- one group more
pub one_group : (op : AggOp) (none : Value) (rest : List Member) (m : Member) (ms : List Member) (many : ℕ) (run behind : List Member)
    (before after all : List (List Value × Option Value)) → rest ≡ m ∷ ms → many ≡ leading m.0 rest → run ≡ take many rest → behind ≡ drop many rest
    → before ++ groups_of op none rest ≡ all → after ≡ before ++ (m.0, folded op none (map (λ m. m.1) run)) ∷ [] → after ++ groups_of op none behind ≡ all
one_group op none rest m ms many run behind before after all is e front back so_far more =
    (λ i. more i ++ groups_of op none (back i)) ∙ append_assoc before _ (groups_of op none (drop many rest))
    ∙ ap (λ gs. before ++ gs)
    ((λ i. (m.0, folded op none (map (λ (m : Member). m.1) ((front ∙ ap (take many) is) i))) ∷ groups_of op none (drop many (is i)))
    ∙ sym (group_next op none m ms many (e ∙ ap (leading m.0) is)) ∙ ap (groups_of op none) (sym is))
    ∙ so_far

pub no_groups : (op : AggOp) (none : Value) (rest : List Member) (before all : List (List Value × Option Value)) → length rest ≡ 0 → before ++ groups_of op none rest ≡ all → before ≡ all
unfolding groups_of
no_groups op none [] before all is so_far = sym (append-nil before) ∙ so_far
no_groups op none (m ∷ ms) before all is so_far = absurd (omega (arith, is))

pub groups_begin : (op : AggOp) (none : Value) (ms : List Member) (groups : List (List Value × Option Value)) → groups ≡ [] → groups ++ groups_of op none ms ≡ groups_of op none ms
groups_begin op none ms groups e = ap (λ gs. gs ++ groups_of op none ms) e

-- ---- after the sort

pub found_sorted : (op : AggOp) (none empty : Value) (ms sorted : List Member) (groups : List (List Value × Option Value)) (link : Row) → folded op none [] ≡ Some empty
    → Rises sorted → filter (λ m. is_eq (row_cmp link m.0)) sorted ≡ filter (λ m. is_eq (row_cmp link m.0)) ms → groups ≡ groups_of op none sorted
    → in_groups empty groups link ≡ folded op none (map (λ m. m.1) (filter (λ m. is_eq (row_cmp link m.0)) ms))
found_sorted op none empty ms sorted groups link e up same made =
    ap (λ gs. in_groups empty gs link) made ∙ found_group op none empty sorted e up link
    ∙ ap (λ w. folded op none (map (λ (m : Member). m.1) w)) ((λ i. filter (λ (m : Member). either_way m.0 link i) sorted) ∙ same)
