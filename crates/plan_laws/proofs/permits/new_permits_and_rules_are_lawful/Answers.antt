use Rattle.plan_laws.proofs.Plans.{permit_planned, rule_planned}
use Rattle.plan_laws.proofs.permits.new_permits_and_rules_are_lawful.Goals as goal

pub returns : goal.returns
returns c = record { permit = permit_planned; rule = rule_planned }
