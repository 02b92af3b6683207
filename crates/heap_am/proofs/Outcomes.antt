-- What is known of an answer, or of a fault.
use Rattle.std.proofs.Common.{◌≡◌, ap, Result, Ok, Err, IfOk, IfErr}
use Rattle.std.specs.Result.{IsErrAnd}

pub if_ok : {T E : Type 0} {P Q : T → Type 0} (r : Result T E) → IfOk r P → ((x : T) → P x → Q x) → IfOk r Q
if_ok (Ok x) p f = f x p
if_ok (Err e) p f = p

pub both_ok : {T E : Type 0} {P Q R : T → Type 0} (r : Result T E) → IfOk r P → IfOk r Q → ((x : T) → P x → Q x → R x) → IfOk r R
both_ok (Ok x) p q f = f x p q
both_ok (Err e) p q f = p

pub if_err : {T E : Type 0} {P Q : E → Type 0} (r : Result T E) → IfErr r P → ((e : E) → P e → Q e) → IfErr r Q
if_err (Ok x) p f = p
if_err (Err e) p f = f e p

-- a fault that was handed on
pub handed_on : {T E : Type 0} (r : Result T E) (e : E) → IsErrAnd r (λ f. f ≡ e) → r ≡ Err e
handed_on (Ok x) e h = absurd h
handed_on (Err f) e h = ap Err h
