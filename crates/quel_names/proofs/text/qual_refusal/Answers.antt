use Rattle.std.proofs.Common.{Bor, sym, ap, map}
use Rattle.std.specs.Option.{option_map, unwrap_or}
use Rattle.calculus.specs.declared.statement.Qual.{Qual}
use Rattle.calculus.specs.declared.statement.Qual.TheVariants.{True}
use Rattle.quel_meaning.specs.Naming.{dotted, first_number, mention_refusal}
use Rattle.quel_meaning.specs.WrittenParts.{attributes_in_qual}
use Rattle.quel_names.proofs.KnownAs.{known_as}
use Rattle.quel_names.specs.Asking.{scope_of}
use Rattle.quel_names.proofs.text.qual_refusal.Goals as goal

pub returns-in-Some-clause-known : goal.returns-in-Some-clause-known
returns-in-Some-clause-known g c = λ db h.
    known_as c.refusal_of.result _ _
    (ap (λ q. first_number (map (mention_refusal (scope_of db c.args.user.now c.args.ranges.now)) (dotted (attributes_in_qual (unwrap_or (option_map (λ (b : Bor Qual). b.now) q) True))))) (sym c.in-Some.is))
    (c.refusal_of.ensures.known db _ h c.mentions_in_qual.ensures)
