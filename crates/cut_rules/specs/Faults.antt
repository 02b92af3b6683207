-- What a fault of a variable's text is for the tree.
use Rattle.std.specs.Prelude.{ℕ}
use Rattle.base_trait.specs.declared.fault.BaseFault.TheVariants as base
use Rattle.view_expand.specs.declared.fault.ExpansionFault.{ExpansionFault}
use Rattle.view_expand.specs.declared.fault.ExpansionFault.TheVariants as expansion
use Rattle.cut_rules.specs.declared.fault.CutFault.{CutFault}
use Rattle.cut_rules.specs.declared.fault.CutFault.TheVariants as cut
use Rattle.cut_rules.specs.declared.fault.ExpandFault.{ExpandFault}
use Rattle.cut_rules.specs.declared.fault.ExpandFault.TheVariants as expand

-- where nothing is permitted of the variable at this place; the rest as it is
abbrev pub fault_at : ℕ → ExpansionFault → CutFault
fault_at var expansion.NoPermit = cut.NoPermit var
fault_at var expansion.TooMany = cut.TooMany
fault_at var (expansion.Base fault) = cut.Base fault
fault_at var expansion.OutOfMemory = cut.OutOfMemory

-- why a query isn't expanded, where it isn't put in: nothing is refused where nobody is restricted and 50 variables have places, so a base that says else denotes no database
abbrev pub unexpanded : CutFault → ExpandFault
unexpanded (cut.NoPermit var) = expand.Base (base.Damaged 0 0)
unexpanded cut.TooMany = expand.Base (base.Damaged 0 0)
unexpanded (cut.Base fault) = expand.Base fault
unexpanded cut.OutOfMemory = expand.OutOfMemory
