-- The rights of a permit that is read are rights, and its user is named.
use Rattle.std.proofs.Common.{◌≡◌, ℕ, ◌<◌, true, List, [], ◌∷◌, Option, refl, arith}
use Rattle.std.specs.Prelude.{fold, bit_or, ◌^◌}
use Rattle.std.proofs.lemmas.Bool.{le-leb}
use Rattle.std.proofs.lemmas.Nat.{or_lt}
use Rattle.calculus.specs.IsDatabase.{user_is_named}
use Rattle.calculus.specs.Rights.{are_rights}
use Rattle.quel_grammar.specs.declared.token.Token.{Token}
use Rattle.quel_grammar.specs.Grammar.{IsList}
use Rattle.quel_grammar.specs.Statements.{IsOperation, joined, IsUser}
use Rattle.quel_grammar.specs.Statements.IsOperation.{may_retrieve, may_append, may_replace, may_delete, may_all}
use Rattle.quel_grammar.specs.Statements.IsUser.{user, everyone}
use Rattle.quel_meaning.proofs.Each.{Each}
use Rattle.reading_laws.proofs.Spelled.{Spelled}
use Rattle.reading_laws.proofs.Items.{list_each}

-- a sum of rights has four bits
abbrev IsSmall : ℕ → Type 0
IsSmall n = n < 2 ^ 4

operation_small : (ts : List Token) (n : ℕ) → IsOperation ts n → Spelled ts → IsSmall n
operation_small _ _ may_retrieve h = omega arith
operation_small _ _ may_append h = omega arith
operation_small _ _ may_replace h = omega arith
operation_small _ _ may_delete h = omega arith
operation_small _ _ may_all h = omega arith

sum_small : (all : ℕ) (sums : List ℕ) → IsSmall all → Each IsSmall sums → IsSmall (fold (λ all sum. bit_or all sum) all sums)
sum_small all [] h k = h
sum_small all (sum ∷ sums) h k = sum_small (bit_or all sum) sums (or_lt 4 all sum h k.0) k.1

rights_are : (n : ℕ) → IsSmall n → are_rights n ≡ true
rights_are n h = le-leb n 15 (omega (arith, h))

pub rights_read : {ts : List Token} {sums : List ℕ} → IsList IsOperation ts sums → Spelled ts → are_rights (joined sums) ≡ true
rights_read {sums = sums} p h = rights_are (joined sums) (sum_small 0 sums (omega arith) (list_each IsSmall operation_small p h))

pub user_read : {ts : List Token} {name : Option (List ℕ)} → IsUser ts name → Spelled ts → user_is_named name ≡ true
user_read user h = h.0
user_read everyone h = refl
