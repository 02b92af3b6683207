use Rattle.std.proofs.Common.{◌≡◌, min, take}
use Rattle.std.specs.Str.Parse.{digits_value}
use Rattle.copy_util.specs.Reading.{most_apart}
use Rattle.copy_util.proofs.numbers.digits_value.Given as goal

abbrev pub invariant-digits : goal.invariant-digits
invariant-digits l = l.number ≡ min most_apart (digits_value 10 (take l.digit-index l.digits))
