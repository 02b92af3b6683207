use Rattle.std.proofs.Common.{◌≡◌, true, take}
use Rattle.std.specs.List.{list_all, list_any}
use Rattle.std.specs.Str.{bytes_eq}
use Rattle.quel_refusals.proofs.repeated.all_among.Given as goal

abbrev pub invariant-loop-name : goal.invariant-loop-name
invariant-loop-name l = list_all (λ k. list_any (λ m. bytes_eq k.0 m.now) l.titles.keys) (take l.name-index l.sort) ≡ true
