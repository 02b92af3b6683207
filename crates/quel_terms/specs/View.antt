-- What a function of the parser returned, as a reading of tokens.
use Rattle.std.specs.Prelude.{◌≡◌, List, Result, Ok, Err}
use Rattle.quel_grammar.specs.declared.token.Token.{Token}
use Rattle.quel_grammar.specs.Reading.{Read}
use Rattle.quel_terms.specs.declared.halt.Halt.{Halt}
use Rattle.quel_terms.specs.declared.halt.Halt.TheVariants as halts

-- what stopped a function is what reading gives, unless memory ran out
abbrev pub Fails : {Y : Type 0} → Halt → Read Y → Type 0
Fails halts.Memory read = Unit {0}
Fails (halts.Stop rest) read = read ≡ Err rest.now

-- what a function returned, seen by view, is what reading gives, unless memory ran out
abbrev pub Gives : {X Y : Type 0} → (X → Y × List Token) → Result X Halt → Read Y → Type 0
Gives view (Ok x) read = read ≡ Ok (view x)
Gives view (Err e) read = Fails e read
