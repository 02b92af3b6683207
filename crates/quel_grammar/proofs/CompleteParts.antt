-- Each part of a statement of the grammar is read, whatever follows that doesn't go on with it.
use Rattle.std.proofs.Common.{◌≡◌, ℕ, zero, suc, Bool, List, [], ◌∷◌, ◌++◌, Option, Some, None, Ok, refl, ap, ◌∙◌, append_assoc, append-nil, ◌≤◌, ◌<◌, length, length-append, arith}
use Rattle.std.specs.Prelude.{IsTrue}
use Rattle.calculus.specs.declared.request.CopyForm.{CopyForm}
use Rattle.calculus.specs.declared.schema.Spec.{Spec}
use Rattle.calculus.specs.declared.statement.Item.{Item}
use Rattle.calculus.specs.declared.statement.Qual.{Qual}
use Rattle.calculus.specs.declared.value.Domain.{Domain}
use Rattle.quel_grammar.specs.declared.token.Fixed.TheVariants as fixed
use Rattle.quel_grammar.specs.declared.token.Token.{Token}
use Rattle.quel_grammar.specs.declared.token.Token.TheVariants as tokens
use Rattle.quel_grammar.specs.Lexer.{number_of}
use Rattle.quel_grammar.specs.Grammar.{one, word, IsWhere, IsList, IsName}
use Rattle.quel_grammar.specs.Grammar.IsWhere.{unqualified, qualified}
use Rattle.quel_grammar.specs.Grammar.IsList.{last, next}
use Rattle.quel_grammar.specs.Grammar.IsName.{name}
use Rattle.quel_grammar.specs.Statements.{is_width, IsTarget, IsDirection, IsKey, IsSort, IsUnique, IsInto, IsTo, IsFormat, IsDeclared, IsCopyForm, IsColumn, IsNumber, IsNumbers, IsOn, IsStructure, IsOperation, IsCovered}
use Rattle.quel_grammar.specs.Statements.IsTarget.{set_target as set_, attribute_target, all_target as all_}
use Rattle.quel_grammar.specs.Statements.IsDirection.{undirected, up, up_in_full, down, down_in_full}
use Rattle.quel_grammar.specs.Statements.IsKey.{key}
use Rattle.quel_grammar.specs.Statements.IsSort.{unsorted, sorted}
use Rattle.quel_grammar.specs.Statements.IsUnique.{plain, unique}
use Rattle.quel_grammar.specs.Statements.IsInto.{shown, kept, kept_into}
use Rattle.quel_grammar.specs.Statements.IsTo.{without_to, with_to}
use Rattle.quel_grammar.specs.Statements.IsFormat.{i1, i2, i4, chars}
use Rattle.quel_grammar.specs.Statements.IsDeclared.{declared}
use Rattle.quel_grammar.specs.Statements.IsCopyForm.{bytes1, bytes2, bytes4, wide, to_tab, to_newline, to_blank, to_comma, to_colon}
use Rattle.quel_grammar.specs.Statements.IsColumn.{column}
use Rattle.quel_grammar.specs.Statements.IsNumber.{number}
use Rattle.quel_grammar.specs.Statements.IsNumbers.{all_numbers, listed}
use Rattle.quel_grammar.specs.Statements.IsOn.{without_keys, on_keys}
use Rattle.quel_grammar.specs.Statements.IsStructure.{heap, hash, isam}
use Rattle.quel_grammar.specs.Statements.IsOperation.{may_retrieve, may_append, may_replace, may_delete, may_all}
use Rattle.quel_grammar.specs.Statements.IsCovered.{whole, only}
use Rattle.quel_grammar.specs.Reading.{Reader, first, is_fixed, on_fixed, expect, name_at, look_up}
use Rattle.quel_grammar.specs.TermReaders.{Lower, level, mixed_by, qual_by}
use Rattle.quel_grammar.specs.TermReaders.Mixed.{Whole}
use Rattle.quel_grammar.specs.PartReaders.{list_by, maybe, closed, in_parens, names_at, all_target, dot_target, set_target, target_by, targets_by, where_by, direction_at, key_at, keys_by, sort_by, name_into, plain_into, into_at, width_of, format_or, format_of, copy_form_or, copy_form_of, named_at, parts_by, small_number, numbers_at, on_by, keyed_by, structure_by, operation_of, covered_names, covered_by}
use Rattle.quel_grammar.proofs.Ends.{TermEnds, QualEnds, close_ends, comma_ends, sort_ends, nothing_ends}
use Rattle.quel_grammar.proofs.Complete.{read_term, read_qual}

-- ---- qualifications

pub qual_step : (l : Lower) (q : Qual) (us vs : List Token) → mixed_by l us ≡ Ok (Whole q, vs) → qual_by l us ≡ Ok (q, vs)
unfolding qual_by
qual_step l q us vs e = rw e refl

pub read_outer_where : {ts : List Token} {q : Qual} → IsWhere ts q → (n : ℕ) → length ts ≤ n → (rest : List Token) → QualEnds rest → first (is_fixed fixed.Where) rest ≡ None
    → where_by (level n) (ts ++ rest) ≡ Ok (q, rest)
unfolding where_by
read_outer_where unqualified n le rest ends e = rw e refl
read_outer_where (qualified {ts = ts} p) n le rest ends e = qual_step (level n) _ _ _ (read_qual p n (omega arith) rest ends)

pub read_last_where : {ts : List Token} {q : Qual} → IsWhere ts q → (n : ℕ) → length ts ≤ n → where_by (level n) ts ≡ Ok (q, [])
read_last_where {ts = ts} p n le = let e = read_outer_where p n le [] nothing_ends refl in rw append-nil at e

-- ---- lists

module _ {A : Type 0} (Is : List Token → A → Type 0) (Ends : List Token → Type 0) (comma : (rest : List Token) → Ends (tokens.Fixed fixed.Comma ∷ rest))
    (r : Reader A) (k : ℕ) (item : (ts : List Token) (x : A) → Is ts x → length ts ≤ k → (rest : List Token) → Ends rest → r (ts ++ rest) ≡ Ok (x, rest)) where
  pub read_list : (n : ℕ) {us : List Token} {xs : List A} → IsList Is us xs → length us < n → length us ≤ k → (before : List A) (rest : List Token) → Ends rest
      → first (is_fixed fixed.Comma) rest ≡ None
      → list_by r n before (us ++ rest) ≡ Ok (before ++ xs, rest)
  unfolding list_by
  read_list zero l lt le before rest ends e = absurd (omega arith)
  read_list (suc n) (last p) lt le before rest ends e = rw (item _ _ p le rest ends, e) refl
  read_list (suc n) (next {ts = ts} {us = us} {x = x} {xs = xs} p q) lt le before rest ends e =
      let longer = length-append ts (tokens.Fixed fixed.Comma ∷ us) in
      rw (append_assoc ts (tokens.Fixed fixed.Comma ∷ us) rest, item ts x p (omega (arith, longer)) (tokens.Fixed fixed.Comma ∷ us ++ rest) (comma (us ++ rest)))
      (read_list n q (omega (arith, longer)) (omega (arith, longer)) (before ++ x ∷ []) rest ends e ∙ ap (λ ys. Ok (ys, rest)) (append_assoc before (x ∷ []) xs))

read_name : (ts : List Token) (x : List ℕ) → IsName ts x → (rest : List Token) → name_at (ts ++ rest) ≡ Ok (x, rest)
read_name ts x name rest = refl

pub read_names : (n : ℕ) {ts : List Token} {xs : List (List ℕ)} → IsList IsName ts xs → length ts < n → (rest : List Token) → first (is_fixed fixed.Comma) rest ≡ None
    → names_at n (ts ++ rest) ≡ Ok (xs, rest)
read_names n {ts = ts} l lt rest e = read_list IsName (λ rest. Unit {0}) (λ rest. tt) name_at (length ts) (λ us x p q rest e. read_name us x p rest) n l lt
    (omega arith) [] rest tt e

pub read_last_names : (n : ℕ) {ts : List Token} {xs : List (List ℕ)} → IsList IsName ts xs → length ts < n → names_at n ts ≡ Ok (xs, [])
read_last_names n {ts = ts} l lt = let e = read_names n l lt [] refl in rw append-nil at e

-- ---- targets

read_target : (n : ℕ) (ts : List Token) (x : Item) → IsTarget ts x → length ts ≤ n → (rest : List Token) → TermEnds rest → target_by (level n) (ts ++ rest) ≡ Ok (x, rest)
unfolding target_by set_target dot_target all_target
read_target n ts x (set_ p) le rest ends = rw (read_term p n (omega arith) rest ends) refl
read_target n ts x attribute_target le rest ends = refl
read_target n ts x all_ le rest ends = refl

pub read_targets : (n : ℕ) {ts : List Token} {xs : List Item} → IsList IsTarget ts xs → length ts < n → (rest : List Token)
    → targets_by n (level n) (tokens.Fixed fixed.Open ∷ ts ++ tokens.Fixed fixed.Close ∷ rest) ≡ Ok (xs, rest)
unfolding in_parens closed
read_targets n l lt rest = rw (read_list IsTarget TermEnds comma_ends (target_by (level n)) n (read_target n) n l lt (omega arith) [] (tokens.Fixed fixed.Close ∷ rest)
    (close_ends rest).conj.term refl) refl

-- ---- sort keys

read_direction : {ts : List Token} {b : Bool} → IsDirection ts b → (rest : List Token) → first (is_fixed fixed.Colon) rest ≡ None → direction_at (ts ++ rest) ≡ Ok (b, rest)
unfolding direction_at look_up
read_direction undirected rest e = rw e refl
read_direction up rest e = refl
read_direction up_in_full rest e = refl
read_direction down rest e = refl
read_direction down_in_full rest e = refl

read_key : (ts : List Token) (x : List ℕ × Bool) → IsKey ts x → (rest : List Token) → first (is_fixed fixed.Colon) rest ≡ None → key_at (ts ++ rest) ≡ Ok (x, rest)
unfolding key_at
read_key ts x (key p) rest e = rw (read_direction p rest e) refl

pub read_sort : {ts : List Token} {ks : List (List ℕ × Bool)} → IsSort ts ks → (n : ℕ) → length ts ≤ n → sort_by n ts ≡ Ok (ks, [])
unfolding sort_by keys_by
read_sort unsorted n le = refl
read_sort (sorted {ts = ts} l) n le =
    let e = read_list IsKey (λ rest. first (is_fixed fixed.Colon) rest ≡ None) (λ rest. refl) key_at n (λ us x p q rest e. read_key us x p rest e) n l (omega arith)
    (omega arith) [] [] refl refl in
    let f = rw append-nil at e in rw f refl

pub sort_front : {ts : List Token} {ks : List (List ℕ × Bool)} → IsSort ts ks → QualEnds ts × (first (is_fixed fixed.Where) ts ≡ None)
sort_front unsorted = (nothing_ends, refl)
sort_front (sorted l) = (sort_ends _, refl)

-- ---- what may stand there

pub read_into : {rs : List Token} {r : Option (List ℕ)} → IsInto rs r → (rest : List Token)
    → into_at (rs ++ tokens.Fixed fixed.Open ∷ rest) ≡ Ok (r, tokens.Fixed fixed.Open ∷ rest)
unfolding into_at plain_into name_into
read_into shown rest = refl
read_into kept rest = refl
read_into kept_into rest = refl

pub read_unique : {us rs : List Token} {r : Option (List ℕ)} → IsUnique us → IsInto rs r → (rest : List Token)
    → maybe fixed.Unique (us ++ (rs ++ tokens.Fixed fixed.Open ∷ rest)) ≡ Ok (tt, rs ++ tokens.Fixed fixed.Open ∷ rest)
unfolding maybe
read_unique plain shown rest = refl
read_unique plain kept rest = refl
read_unique plain kept_into rest = refl
read_unique unique q rest = refl

pub read_to : {us : List Token} → IsTo us → (r : List ℕ) (rest : List Token) → maybe fixed.To (us ++ tokens.Name r ∷ rest) ≡ Ok (tt, tokens.Name r ∷ rest)
unfolding maybe
read_to without_to r rest = refl
read_to with_to r rest = refl

-- ---- forms

-- a word that is something to f
pub record IsWord {X : Type 0} (f : List ℕ → Option X) (ts : List Token) (x : X) : Type 0 where
  pub said : List ℕ
  pub same : ts ≡ word said
  pub known : f said ≡ Some x

width_known : (digits : List ℕ) → IsTrue (is_width digits) → width_of (99 ∷ digits) ≡ Some (number_of digits)
width_known digits h = rw (width_of, h) refl

pub format_word : {ts : List Token} {d : Domain} → IsFormat ts d → IsWord format_of ts d
unfolding look_up
format_word i1 = record { said = _; same = refl; known = refl }
format_word i2 = record { said = _; same = refl; known = refl }
format_word i4 = record { said = _; same = refl; known = refl }
format_word (chars {digits = digits} h) = record { said = _; same = refl; known = ap (format_or (99 ∷ digits)) (width_known digits h) }

pub copy_form_word : {ts : List Token} {form : CopyForm} → IsCopyForm ts form → IsWord copy_form_of ts form
unfolding look_up
copy_form_word bytes1 = record { said = _; same = refl; known = refl }
copy_form_word bytes2 = record { said = _; same = refl; known = refl }
copy_form_word bytes4 = record { said = _; same = refl; known = refl }
copy_form_word (wide {digits = digits} h) = record { said = _; same = refl; known = ap (copy_form_or (99 ∷ digits)) (width_known digits h) }
copy_form_word to_tab = record { said = _; same = refl; known = refl }
copy_form_word to_newline = record { said = _; same = refl; known = refl }
copy_form_word to_blank = record { said = _; same = refl; known = refl }
copy_form_word to_comma = record { said = _; same = refl; known = refl }
copy_form_word to_colon = record { said = _; same = refl; known = refl }

-- a name, `=`, and a word that is something to f
pub record IsPart {X : Type 0} (f : List ℕ → Option X) (ts : List Token) (x : List ℕ × X) : Type 0 where
  pub said : List ℕ
  pub same : ts ≡ tokens.Name x.0 ∷ tokens.Fixed fixed.Equal ∷ word said
  pub known : f said ≡ Some x.1

read_part : {X : Type 0} (f : List ℕ → Option X) (ts : List Token) (x : List ℕ × X) → IsPart f ts x → (rest : List Token) → named_at f (ts ++ rest) ≡ Ok (x, rest)
unfolding named_at
read_part f ts x p rest = rw (p.same, p.known) refl

pub declared_part : (ts : List Token) (x : List ℕ × Domain) → IsDeclared ts x → IsPart format_of ts x
declared_part ts x (declared {n = n} p) = let w = format_word p in record { said = w.said; same = ap (λ us. tokens.Name n ∷ tokens.Fixed fixed.Equal ∷ us) w.same; known = w.known }

pub column_part : (ts : List Token) (x : List ℕ × CopyForm) → IsColumn ts x → IsPart copy_form_of ts x
column_part ts x (column {n = n} p) = let w = copy_form_word p in record { said = w.said; same = ap (λ us. tokens.Name n ∷ tokens.Fixed fixed.Equal ∷ us) w.same; known = w.known }

pub read_parts : {X : Type 0} (f : List ℕ → Option X) (Is : List Token → List ℕ × X → Type 0) → ((ts : List Token) (x : List ℕ × X) → Is ts x → IsPart f ts x)
    → (n : ℕ) {ts : List Token} {xs : List (List ℕ × X)}
    → IsList Is ts xs → length ts < n → (rest : List Token) → parts_by f n (tokens.Fixed fixed.Open ∷ ts ++ tokens.Fixed fixed.Close ∷ rest) ≡ Ok (xs, rest)
unfolding in_parens closed
read_parts f Is part n {ts = ts} l lt rest =
    rw (read_list Is (λ rest. Unit {0}) (λ rest. tt) (named_at f) (length ts) (λ us x p q rest e. read_part f us x (part us x p) rest) n l lt (omega arith) []
    (tokens.Fixed fixed.Close ∷ rest) tt refl) refl

-- ---- numbers, structures, permits

read_number : (ts : List Token) (x : ℕ) → IsNumber ts x → (rest : List Token) → expect small_number (ts ++ rest) ≡ Ok (x, rest)
read_number ts x (number h) rest = rw h refl

numbers_front : {ts : List Token} {ns : List ℕ} → IsList IsNumber ts ns → first (is_fixed fixed.All) ts ≡ None
numbers_front (last (number h)) = refl
numbers_front (next (number h) l) = refl

pub read_numbers : {ts : List Token} {ns : List ℕ} → IsNumbers ts ns → (n : ℕ) → length ts < n → numbers_at n ts ≡ Ok (ns, [])
unfolding numbers_at
read_numbers all_numbers n lt = refl
read_numbers {ts = ts} (listed l) n lt =
    let e = read_list IsNumber (λ rest. Unit {0}) (λ rest. tt) (expect small_number) (length ts) (λ us x p q rest e. read_number us x p rest) n l lt (omega arith) [] [] tt refl in
    let f = rw append-nil at e in rw (numbers_front l) f

read_on : {ts : List Token} {keys : List (List ℕ)} → IsOn ts keys → (n : ℕ) → length ts < n → on_by n ts ≡ Ok (keys, [])
unfolding on_by
read_on without_keys n lt = refl
read_on (on_keys l) n lt = read_last_names n l (omega arith)

pub read_structure : {ts : List Token} {structure : Spec} {keys : List (List ℕ)} → IsStructure ts structure keys → (n : ℕ) → length ts < n
    → structure_by n ts ≡ Ok ((structure, keys), [])
unfolding structure_by keyed_by look_up
read_structure heap n lt = refl
read_structure (hash p) n lt = rw (read_on p n (omega arith)) refl
read_structure (isam p) n lt = rw (read_on p n (omega arith)) refl

read_operation : (ts : List Token) (x : ℕ) → IsOperation ts x → (rest : List Token) → expect (on_fixed operation_of) (ts ++ rest) ≡ Ok (x, rest)
read_operation ts x may_retrieve rest = refl
read_operation ts x may_append rest = refl
read_operation ts x may_replace rest = refl
read_operation ts x may_delete rest = refl
read_operation ts x may_all rest = refl

pub read_operations : (n : ℕ) {ts : List Token} {sums : List ℕ} → IsList IsOperation ts sums → length ts < n → (rest : List Token) → first (is_fixed fixed.Comma) rest ≡ None
    → list_by (expect (on_fixed operation_of)) n [] (ts ++ rest) ≡ Ok (sums, rest)
read_operations n {ts = ts} l lt rest e = read_list IsOperation (λ rest. Unit {0}) (λ rest. tt) (expect (on_fixed operation_of)) (length ts)
    (λ us x p q rest e. read_operation us x p rest) n l lt (omega arith) [] rest tt e

pub read_names_inside : (n : ℕ) {ts : List Token} {names : List (List ℕ)} → IsList IsName ts names → length ts < n → (rest : List Token)
    → covered_names n (ts ++ tokens.Fixed fixed.Close ∷ rest) ≡ Ok (names, rest)
unfolding closed
read_names_inside n l lt rest = rw (read_names n l lt (tokens.Fixed fixed.Close ∷ rest) refl) refl

pub read_covered : {ts : List Token} {names : List (List ℕ)} → IsCovered ts names → (n : ℕ) → length ts ≤ n → (rest : List Token)
    → covered_by n (ts ++ tokens.Fixed fixed.To ∷ rest) ≡ Ok (names, tokens.Fixed fixed.To ∷ rest)
unfolding covered_by
read_covered whole n le rest = refl
read_covered (only {ts = ts} l) n le rest = rw (append_assoc ts (one fixed.Close) (tokens.Fixed fixed.To ∷ rest))
    (read_names_inside n l (omega (arith, length-append ts (one fixed.Close))) (tokens.Fixed fixed.To ∷ rest))
