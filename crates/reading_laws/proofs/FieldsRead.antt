-- A field is read, and the bytes behind it are left.
use Rattle.std.proofs.Common.{◌≡◌, ◌⊎◌, inl, inr, refl, sym, ap, subst, ◌∙◌, ℕ, zero, suc, ◌<◌, ◌≤◌, nat_lt, nat_eq, Bool, true, false, ◌&&◌, ◌||◌, cond, IsTrue, List, [], ◌∷◌, ◌++◌, Option, Some, None, length, take, drop, arith, append_assoc, length-append, if◌then◌else◌}
use Rattle.std.specs.Prelude.{option_map, option_and_then}
use Rattle.std.proofs.lemmas.Bool.Decides.{nat_tests, Decides-eqb}
use Rattle.std.proofs.lemmas.List.{take-append-drop, length-take-le}
use Rattle.std.proofs.Math.Seq.{take-append_seam, drop-append_seam}
use Rattle.calculus.specs.declared.value.Kind.{Kind}
use Rattle.calculus.specs.declared.value.Value.{Value}
use Rattle.calculus.specs.declared.request.CopyForm.{CopyForm}
use Rattle.calculus.specs.declared.request.CopyForm.TheVariants.{Bin, Fixed, Until}
use Rattle.calculus.specs.Lists.{has_number}
use Rattle.calculus.specs.Replacement.{is_of_kind}
use Rattle.quel_meaning.specs.Columns.{is_copy_form, cut_behind, cut_at, piece_of, piece_value, fitting, column_value}
use Rattle.reading_laws.specs.Records.{IsWrittenAs, IsUnended, IsValueOf}

-- where two pairs are the same, so are their parts
pub the_pair : {A B : Type 0} (a c : A) (b d : B) → ◌≡◌ {A = Option (A × B)} (Some (a, b)) (Some (c, d)) → (a ≡ c) × (b ≡ d)
the_pair {A} {B} a c b d h = let e : ◌≡◌ {A = A × B} (a, b) (c, d) = cc h in (ap (λ (p : A × B). p.0) e, ap (λ (p : A × B). p.1) e)

pub both : (a b : Bool) → IsTrue (a && b) → IsTrue a × IsTrue b
both true true t = (refl, refl)
both true false t = cc
both false b t = cc

-- ---- a field that stands in front is read

cut_behind_front : (front more : List ℕ) → cut_behind (length front) (front ++ more) ≡ Some (front, more)
cut_behind_front front more =
    let long : nat_lt (length (front ++ more)) (length front) ≡ false = grind (arith, nat_tests, length-append front more) in
    ap (λ b. cond b None (Some (take (length front) (front ++ more), drop (length front) (front ++ more)))) long
    ∙ (λ i. Some (take-append_seam front more i, drop-append_seam front more i))

cut_front : (n : ℕ) (bytes first others : List ℕ) → length bytes ≡ n → first ≡ bytes → cut_behind n (first ++ others) ≡ Some (bytes, others)
cut_front n bytes first others long is =
    ap (λ front. cut_behind n (front ++ others)) is ∙ subst (λ m. cut_behind m (bytes ++ others) ≡ Some (bytes, others)) long (cut_behind_front bytes others)

-- the byte in front of the bytes that are cut off
abbrev longer : ℕ → List ℕ × List ℕ → List ℕ × List ℕ
longer b cut = (b ∷ cut.0, cut.1)

cut-cons : (stop b : ℕ) (bytes : List ℕ) (t : Bool) → nat_eq b stop ≡ t
    → cut_at stop (b ∷ bytes) ≡ cond t (Some ([], bytes)) (option_map (longer b) (cut_at stop bytes))
cut-cons stop b bytes true e = rw (e, cut_at) refl
cut-cons stop b bytes false e = rw (e, cut_at) refl

neither : (a b : Bool) → (a || b) ≡ false → (a ≡ false) × (b ≡ false)
neither true b h = cc h
neither false b h = (refl, h)

cut_at_front : (stop : ℕ) (front more : List ℕ) → has_number front stop ≡ false → cut_at stop (front ++ stop ∷ more) ≡ Some (front, more)
cut_at_front stop [] more h = cut-cons stop stop more true ((Decides-eqb stop stop).1 refl)
cut_at_front stop (b ∷ front) more h =
    let parts = neither (nat_eq b stop) (has_number front stop) h in
    cut-cons stop b (front ++ stop ∷ more) false parts.0 ∙ ap (option_map (longer b)) (cut_at_front stop front more parts.1)

-- what goes up to a byte, where that is there
cut_piece : (last : Bool) (stop : ℕ) (file : List ℕ) (cut : List ℕ × List ℕ) → cut_at stop file ≡ Some cut → piece_of last (Until stop) file ≡ Some cut
cut_piece last stop file cut e = rw (e, piece_of) refl

piece_read : (last : Bool) (form : CopyForm) (bytes first others : List ℕ) → IsWrittenAs form bytes first → piece_of last form (first ++ others) ≡ Some (bytes, others)
piece_read last (Bin n) bytes first others w = cut_front n bytes first others w.0 w.1
piece_read last (Fixed n) bytes first others w = cut_front n bytes first others w.0 w.1
piece_read last (Until stop) bytes first others w =
    cut_piece last stop (first ++ others) (bytes, others)
    (ap (λ front. cut_at stop (front ++ others)) w.1 ∙ ap (cut_at stop) (append_assoc bytes (stop ∷ []) others) ∙ cut_at_front stop bytes others w.0)

column_read : (last : Bool) (form : CopyForm) (kind : Option Kind) (v : Value) (file bytes rest : List ℕ) → piece_of last form file ≡ Some (bytes, rest) → IsValueOf form kind bytes v
    → column_value last form kind file ≡ Some (v, rest)
column_read last form kind v file bytes rest piece is =
    ap (option_and_then (λ cut. option_map (λ v. (v, cut.1)) (option_and_then (fitting kind) (piece_value form kind cut.0)))) piece
    ∙ ap (λ o. option_map (λ v. (v, rest)) (option_and_then (fitting kind) o)) is.0
    ∙ ap (λ (b : Bool). option_map (λ v. (v, rest)) (if b then Some v else None)) is.1

pub field_read : (last : Bool) (form : CopyForm) (kind : Option Kind) (v : Value) (bytes first others : List ℕ) → IsWrittenAs form bytes first → IsValueOf form kind bytes v
    → column_value last form kind (first ++ others) ≡ Some (v, others)
field_read last form kind v bytes first others w is = column_read last form kind v (first ++ others) bytes others (piece_read last form bytes first others w) is

-- ---- the last field may go up to the end

not_cut : (stop : ℕ) (bytes : List ℕ) → has_number bytes stop ≡ false → cut_at stop bytes ≡ None
not_cut stop [] h = refl
not_cut stop (b ∷ bytes) h = go (nat_eq b stop) refl (not_cut stop bytes) h
  where
    go : (t : Bool) → nat_eq b stop ≡ t → (has_number bytes stop ≡ false → cut_at stop bytes ≡ None) → (t || has_number bytes stop) ≡ false
        → cut_at stop (b ∷ bytes) ≡ None
    go true e later h = cc h
    go false e later h = cut-cons stop b bytes false e ∙ ap (option_map (longer b)) (later h)

whole_piece : (stop : ℕ) (file : List ℕ) → cut_at stop file ≡ None → piece_of true (Until stop) file ≡ Some (file, [])
whole_piece stop file e = rw (e, piece_of) refl

unended_piece : (form : CopyForm) (file : List ℕ) → IsUnended form file → piece_of true form file ≡ Some (file, [])
unended_piece (Bin n) file h = absurd h
unended_piece (Fixed n) file h = absurd h
unended_piece (Until stop) file h = whole_piece stop file (not_cut stop file h)

pub unended_read : (form : CopyForm) (kind : Option Kind) (v : Value) (file : List ℕ) → IsUnended form file → IsValueOf form kind file v
    → column_value true form kind file ≡ Some (v, [])
unended_read form kind v file h is = column_read true form kind v file file [] (unended_piece form file h) is

-- ---- what is read is a field

-- the bytes that are cut off, and the value that they are
fitted : (kind : Option Kind) (w : Value) (b : Bool) → is_of_kind w kind ≡ b → (behind rest : List ℕ) (v : Value)
    → ◌≡◌ {A = Option (Value × List ℕ)} (option_map (λ v. (v, behind)) (cond b (Some w) None)) (Some (v, rest)) → (w ≡ v) × IsTrue (is_of_kind v kind) × (behind ≡ rest)
fitted kind w false e behind rest v h = cc h
fitted kind w true e behind rest v h =
    let (same, left) = the_pair w v behind rest h in
    (same, ap (λ v. is_of_kind v kind) (sym same) ∙ e, left)

valued : (form : CopyForm) (kind : Option Kind) (bytes behind rest : List ℕ) (v : Value)
    → ◌≡◌ {A = Option (Value × List ℕ)} (option_map (λ v. (v, behind)) (option_and_then (fitting kind) (piece_value form kind bytes))) (Some (v, rest)) → IsValueOf form kind bytes v × (behind ≡ rest)
valued form kind bytes behind rest v h = go (piece_value form kind bytes) refl h
  where
    go : (o : Option Value) → piece_value form kind bytes ≡ o
        → ◌≡◌ {A = Option (Value × List ℕ)} (option_map (λ v. (v, behind)) (option_and_then (fitting kind) o)) (Some (v, rest)) → IsValueOf form kind bytes v × (behind ≡ rest)
    go None e h = cc h
    go (Some w) e h = let (same, fits, left) = fitted kind w (is_of_kind w kind) refl behind rest v h in ((e ∙ ap Some same, fits), left)

column_parts : (last : Bool) (form : CopyForm) (kind : Option Kind) (file rest : List ℕ) (v : Value) → column_value last form kind file ≡ Some (v, rest)
    → (bytes : List ℕ) × (piece_of last form file ≡ Some (bytes, rest)) × IsValueOf form kind bytes v
column_parts last form kind file rest v h = go (piece_of last form file) refl h
  where
    go : (o : Option (List ℕ × List ℕ)) → piece_of last form file ≡ o
        → ◌≡◌ {A = Option (Value × List ℕ)} (option_and_then (λ (cut : List ℕ × List ℕ). option_map (λ v. (v, cut.1)) (option_and_then (fitting kind) (piece_value form kind cut.0))) o) (Some (v, rest))
        → (bytes : List ℕ) × (piece_of last form file ≡ Some (bytes, rest)) × IsValueOf form kind bytes v
    go None e h = cc h
    go (Some cut) e h = let (is, left) = valued form kind cut.0 cut.1 rest v h in (cut.0, e ∙ ap (λ behind. Some (cut.0, behind)) left, is)

-- so many bytes, and those behind them
cut_many : (n : ℕ) (file bytes rest : List ℕ) → cut_behind n file ≡ Some (bytes, rest) → (first : List ℕ) × (file ≡ first ++ rest) × (length bytes ≡ n) × (first ≡ bytes)
cut_many n file bytes rest h = go (nat_lt (length file) n) refl h
  where
    go : (b : Bool) → nat_lt (length file) n ≡ b → ◌≡◌ {A = Option (List ℕ × List ℕ)} (cond b None (Some (take n file, drop n file))) (Some (bytes, rest))
        → (first : List ℕ) × (file ≡ first ++ rest) × (length bytes ≡ n) × (first ≡ bytes)
    go true e h = cc h
    go false e h =
        let (first, behind) = the_pair (take n file) bytes (drop n file) rest h in
        let long : n ≤ length file = grind (arith, nat_tests, e) in
        (bytes, sym (take-append-drop n file) ∙ (λ i. first i ++ behind i), ap length (sym first) ∙ length-take-le n file long, refl)

abbrev CutUp : ℕ → List ℕ → List ℕ → List ℕ → Type 0
CutUp stop file bytes rest = (file ≡ bytes ++ stop ∷ rest) × (has_number bytes stop ≡ false)

cut_up : (stop : ℕ) (file bytes rest : List ℕ) → cut_at stop file ≡ Some (bytes, rest) → CutUp stop file bytes rest
cut_up stop [] bytes rest h = cc h
cut_up stop (b ∷ file) bytes rest h = go (nat_eq b stop) refl (cut_at stop file) refl (cut_up stop file) h
  where
    parts : (cut_bytes cut_rest : List ℕ) → ◌≡◌ {A = Option (List ℕ × List ℕ)} (Some (cut_bytes, cut_rest)) (Some (bytes, rest))
        → CutUp stop (b ∷ file) cut_bytes cut_rest → CutUp stop (b ∷ file) bytes rest
    parts cut_bytes cut_rest h up =
        let (same, left) = the_pair cut_bytes bytes cut_rest rest h in
        subst (λ bs. CutUp stop (b ∷ file) bs rest) same (subst (λ r. CutUp stop (b ∷ file) cut_bytes r) left up)

    go : (t : Bool) → nat_eq b stop ≡ t → (o : Option (List ℕ × List ℕ)) → cut_at stop file ≡ o
        → ((bytes rest : List ℕ) → cut_at stop file ≡ Some (bytes, rest) → CutUp stop file bytes rest)
        → cut_at stop (b ∷ file) ≡ Some (bytes, rest) → CutUp stop (b ∷ file) bytes rest
    go true e o f later h = parts [] file (sym (cut-cons stop b file true e) ∙ h) (ap (λ b. b ∷ file) ((Decides-eqb b stop).0 e), refl)
    go false e None f later h =
        let no : ◌≡◌ {A = Option (List ℕ × List ℕ)} None (Some (bytes, rest)) = sym (cut-cons stop b file false e ∙ ap (option_map (longer b)) f) ∙ h in cc no
    go false e (Some cut) f later h =
        let up = later cut.0 cut.1 f in
        parts (b ∷ cut.0) cut.1 (sym (cut-cons stop b file false e ∙ ap (option_map (longer b)) f) ∙ h)
        (ap (λ file. b ∷ file) up.0, ap (λ t. t || has_number cut.0 stop) e ∙ up.1)

none_stops : (stop : ℕ) (file : List ℕ) → cut_at stop file ≡ None → has_number file stop ≡ false
none_stops stop [] h = refl
none_stops stop (b ∷ file) h = go (nat_eq b stop) refl (cut_at stop file) refl (none_stops stop file) (sym (cut-cons stop b file (nat_eq b stop) refl) ∙ h)
  where
    go : (t : Bool) → nat_eq b stop ≡ t → (o : Option (List ℕ × List ℕ)) → cut_at stop file ≡ o → (cut_at stop file ≡ None → has_number file stop ≡ false)
        → ◌≡◌ {A = Option (List ℕ × List ℕ)} (cond t (Some ([], file)) (option_map (longer b) o)) None → (nat_eq b stop || has_number file stop) ≡ false
    go true e o f later h = cc h
    go false e None f later h = ap (λ t. t || has_number file stop) e ∙ later f
    go false e (Some cut) f later h = cc h

-- a field in front of the rest; or the whole, where it is the last field and goes up to the end
abbrev pub IsTaken : Bool → CopyForm → List ℕ → List ℕ → List ℕ → Type 0
IsTaken last form file bytes rest =
    ((first : List ℕ) × (file ≡ first ++ rest) × IsWrittenAs form bytes first) ⊎ ((last ≡ true) × (rest ≡ []) × (bytes ≡ file) × IsUnended form file)

piece_taken : (last : Bool) (form : CopyForm) (file bytes rest : List ℕ) → piece_of last form file ≡ Some (bytes, rest) → IsTaken last form file bytes rest
piece_taken last (Bin n) file bytes rest h = let (first, is, long, same) = cut_many n file bytes rest h in inl (first, is, (long, same))
piece_taken last (Fixed n) file bytes rest h = let (first, is, long, same) = cut_many n file bytes rest h in inl (first, is, (long, same))
piece_taken last (Until stop) file bytes rest h = go last (cut_at stop file) refl h
  where
    go : (last : Bool) (o : Option (List ℕ × List ℕ)) → cut_at stop file ≡ o
        → (elim o as (λ o. Option (List ℕ × List ℕ)) [ Some cut ↦ Some cut | None ↦ if last then Some (file, []) else None ]) ≡ Some (bytes, rest)
        → IsTaken last (Until stop) file bytes rest
    go last (Some cut) e h =
        let up = cut_up stop file bytes rest (e ∙ h) in
        inl (bytes ++ stop ∷ [], up.0 ∙ sym (append_assoc bytes (stop ∷ []) rest), (up.1, refl))
    go true None e h =
        let (whole, none) = the_pair file bytes [] rest h in
        inr (refl, sym none, sym whole, none_stops stop file e)
    go false None e h = cc h

pub field_taken : (last : Bool) (form : CopyForm) (kind : Option Kind) (file rest : List ℕ) (v : Value) → column_value last form kind file ≡ Some (v, rest)
    → (bytes : List ℕ) × IsTaken last form file bytes rest × IsValueOf form kind bytes v
field_taken last form kind file rest v h =
    let (bytes, piece, is) = column_parts last form kind file rest v h in
    (bytes, piece_taken last form file bytes rest piece, is)

-- ---- a field has a byte

binary_some : (n : ℕ) → IsTrue (is_copy_form (Bin n)) → 0 < n
binary_some zero t = cc t
binary_some (suc n) t = omega arith

fixed_some : (n : ℕ) → IsTrue (is_copy_form (Fixed n)) → 0 < n
fixed_some zero t = cc t
fixed_some (suc n) t = omega arith

pub field_some : (form : CopyForm) (bytes first : List ℕ) → IsTrue (is_copy_form form) → IsWrittenAs form bytes first → 0 < length first
field_some (Bin n) bytes first t w = let long : length first ≡ length bytes = ap length w.1 in omega (arith, long, w.0, binary_some n t)
field_some (Fixed n) bytes first t w = let long : length first ≡ length bytes = ap length w.1 in omega (arith, long, w.0, fixed_some n t)
field_some (Until stop) bytes first t w = let long : length first ≡ length (bytes ++ stop ∷ []) = ap length w.1 in omega (arith, long, length-append bytes (stop ∷ []))
