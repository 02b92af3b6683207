use Rattle.plan_laws.proofs.Plans.{dropped_permits_planned, dropped_rules_planned}
use Rattle.plan_laws.proofs.permits.dropping_permits_and_rules_is_lawful.Goals as goal

pub returns : goal.returns
returns c = record { permits = dropped_permits_planned; rules = dropped_rules_planned }
