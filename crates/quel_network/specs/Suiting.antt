-- Values and rows that suit kinds: values of the domain where a kind is one, else numbers of 64 bits; and texts are such in the language's sense.
use Rattle.std.specs.Prelude.{ℕ, zero, suc, Bool, true, false, IsTrue, List, [], ◌∷◌, Option, Some, None, IfSome, slice_get}
use Rattle.calculus.specs.declared.value.Kind.{Kind}
use Rattle.calculus.specs.declared.value.Value.{Value}
use Rattle.calculus.specs.declared.value.Value.TheVariants.{Int, Text}
use Rattle.calculus.specs.declared.value.Kind.TheVariants.{Of, Wide}
use Rattle.calculus.specs.IsDatabase.{value_fits}
use Rattle.calculus.specs.Kinds.{attribute_kind}
use Rattle.calculus.specs.Number.{has_64_bits}
use Rattle.calculus.specs.Rows.{Row}
use Rattle.calculus.specs.Term.{Env, attribute_value}
use Rattle.calculus.specs.Text.{is_text}

-- a number of 64 bits where numbers are wanted, else a text in the language's sense
abbrev pub Suits : Bool → Value → Type 0
Suits true (Int n) = IsTrue (has_64_bits n)
Suits true (Text bytes) = ⊥
Suits false (Int n) = ⊥
Suits false (Text bytes) = IsTrue (is_text bytes)

-- the value, where there is one, suits
abbrev pub GivesBy : Bool → Option Value → Type 0
GivesBy number v = IfSome v (Suits number)

-- a number of 64 bits, or a value of the domain
abbrev pub SuitsKind : Kind → Value → Type 0
SuitsKind Wide v = Suits true v
SuitsKind (Of domain) v = IsTrue (value_fits v (Of domain))

-- the value, where there is one, suits the kind
abbrev pub GivesKind : Kind → Option Value → Type 0
GivesKind kind v = IfSome v (SuitsKind kind)

-- the same where there is a kind; nothing is said where there is none
abbrev pub Gives : Option Kind → Option Value → Type 0
Gives None v = Unit {0}
Gives (Some kind) v = GivesKind kind v

-- the row has one value for each kind, and it suits
abbrev pub RowFits : List Kind → Row → Type 0
RowFits [] [] = Unit {0}
RowFits [] (v ∷ vs) = ⊥
RowFits (k ∷ ks) [] = ⊥
RowFits (k ∷ ks) (v ∷ vs) = SuitsKind k v × RowFits ks vs

-- each value of the row suits the kind at its place, as far as both go
abbrev pub RowSuits : List Kind → Row → Type 0
RowSuits [] row = Unit {0}
RowSuits (k ∷ ks) [] = Unit {0}
RowSuits (k ∷ ks) (v ∷ vs) = SuitsKind k v × RowSuits ks vs

-- the row of each variable suits the kinds of its attributes, as far as both go
abbrev pub EnvSuits : List (List Kind) → Env → Type 0
EnvSuits [] e = Unit {0}
EnvSuits (ks ∷ vars) [] = Unit {0}
EnvSuits (ks ∷ vars) (row ∷ e) = RowSuits ks row × EnvSuits vars e

pub gives_none : (kind : Option Kind) → Gives kind None
gives_none None = tt
gives_none (Some kind) = tt

pub nothing_suits : (ks : List Kind) → RowSuits ks []
nothing_suits [] = tt
nothing_suits (k ∷ ks) = tt

pub fits_suits : (ks : List Kind) (row : Row) → RowFits ks row → RowSuits ks row
fits_suits [] row h = tt
fits_suits (k ∷ ks) [] h = tt
fits_suits (k ∷ ks) (v ∷ vs) h = (h.0, fits_suits ks vs h.1)

-- ---- attributes

in_row : (ks : List Kind) (row : Row) (i : ℕ) → RowSuits ks row → Gives (slice_get ks i) (slice_get row i)
in_row [] row i h = tt
in_row (k ∷ ks) [] zero h = tt
in_row (k ∷ ks) [] (suc i) h = gives_none (slice_get ks i)
in_row (k ∷ ks) (v ∷ vs) zero h = h.0
in_row (k ∷ ks) (v ∷ vs) (suc i) h = in_row ks vs i h.1

-- the value of an attribute suits its kind
pub attribute_suits : (vars : List (List Kind)) (e : Env) (var attr : ℕ) → EnvSuits vars e → Gives (attribute_kind vars var attr) (attribute_value e var attr)
unfolding attribute_kind attribute_value
attribute_suits [] e var attr h = tt
attribute_suits (ks ∷ vars) [] zero attr h = gives_none (slice_get ks attr)
attribute_suits (ks ∷ vars) [] (suc var) attr h = gives_none (attribute_kind vars var attr)
attribute_suits (ks ∷ vars) (row ∷ e) zero attr h = in_row ks row attr h.0
attribute_suits (ks ∷ vars) (row ∷ e) (suc var) attr h = attribute_suits vars e var attr h.1
