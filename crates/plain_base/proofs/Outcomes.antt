-- What holds after a call that did its work, or left all as it was.
use Rattle.std.proofs.Common.{◌≡◌, sym, subst, Result, Ok, Err, OnOk, OnErr}

pub either : {X E A : Type 0} (r : Result X E) (P : A → Type 0) (new old placed : A) → OnOk r (new ≡ placed) → OnErr r (new ≡ old) → P placed → P old → P new
either (Ok x) P new old placed ok err p q = subst P (sym ok) p
either (Err x) P new old placed ok err p q = subst P (sym err) q

pub where_ok : {X E : Type 0} (r : Result X E) (P Q : Type 0) → (P → Q) → OnOk r P → OnOk r Q
where_ok (Ok x) P Q f h = f h
where_ok (Err x) P Q f h = tt
