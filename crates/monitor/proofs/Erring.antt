-- What holds with an answer, and with an error.
use Rattle.std.proofs.Common.{◌≡◌, sym, ap, subst, IsErrAnd, IsErrOf, IfErr, OnErr, OnOk, Result, Ok, Err}

pub on_err : {A E : Type 0} (r : Result A E) {P Q : Type 0} → (P → Q) → OnErr r P → OnErr r Q
on_err (Ok x) f h = tt
on_err (Err e) f h = f h

pub on_ok : {A E : Type 0} (r : Result A E) {P Q : Type 0} → (P → Q) → OnOk r P → OnOk r Q
on_ok (Ok x) f h = f h
on_ok (Err e) f h = tt

pub on_ok_all : {A E : Type 0} (r : Result A E) {P Q R I : Type 0} {W : I → Type 0} → OnOk r P → OnOk r Q → ((i : I) → OnOk r (W i)) → (P → Q → ((i : I) → W i) → R) → OnOk r R
on_ok_all (Ok x) p q w f = f p q w
on_ok_all (Err e) p q w f = tt

pub on_err_any : {A E : Type 0} (r : Result A E) {P : Type 0} → P → OnErr r P
on_err_any (Ok x) h = tt
on_err_any (Err e) h = h

-- with an error this holds whatever it is said of
pub on_err_all : {A E I : Type 0} (r : Result A E) {W : I → Type 0} {Q : Type 0} → (((i : I) → W i) → Q) → ((i : I) → OnErr r (W i)) → OnErr r Q
on_err_all (Ok x) f h = tt
on_err_all (Err e) f h = f h

-- there was no answer
pub not_ok : {A E : Type 0} (r : Result A E) (e : E) (P : Type 0) → r ≡ Err e → OnOk r P
not_ok {A} {E} r e P is = subst (λ (x : Result A E). OnOk x P) (sym is) tt

-- the exit of a call hands its error on
pub handed_on : {A E : Type 0} (r : Result A E) (e : E) → IsErrAnd r (λ f. f ≡ e) → r ≡ Err e
handed_on (Ok x) e h = absurd h
handed_on (Err f) e h = ap Err h

-- what holds of the error
pub if_err : {A E : Type 0} (r : Result A E) (e : E) (P : E → Type 0) → r ≡ Err e → P e → IfErr r P
if_err {A} {E} r e P is h = subst (λ (x : Result A E). IfErr x P) (sym is) h

-- two errors are one, whatever the answers would be
pub same_err : {A B E : Type 0} (a b : E) → IsErrOf {T = A} (Err a) b → IsErrOf {T = B} (Err a) b
same_err a b h = let same : a ≡ b = cc h in ap Err same
