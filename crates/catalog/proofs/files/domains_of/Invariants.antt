use Rattle.std.proofs.Common.{◌≡◌, ◌++◌, length}
use Rattle.std.specs.Option.{option_map}
use Rattle.page_chain.specs.Lists.{each}
use Rattle.stored_database.specs.Spelled.{domain_of}
use Rattle.catalog.proofs.files.domains_of.Given as goal

abbrev pub invariant-attrs : goal.invariant-attrs
invariant-attrs l = each domain_of l.attrs ≡ option_map (λ more. l.domains.items ++ more) (each domain_of l.rest)

abbrev pub decreases-attrs : goal.decreases-attrs
decreases-attrs l = length l.rest
