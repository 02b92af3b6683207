mod Resolving
pub mod InOrder
mod Small
mod SmallTexts
mod WorkedUtilities
mod WorkedPermits
mod WorkedCopies
mod Parted
mod Printing
mod Sessions
mod Toy
mod Fitting
mod WorkedWritten
pub mod Accepted
pub mod Slots
pub mod Declared
mod Fields
mod ColumnsBack
pub mod RecordsBack
pub mod WholeRows
pub mod Kept
pub mod Numbers
pub mod Agreement
pub mod Cutting
pub mod LastDatabase
pub mod LineLaws
pub mod ReadWhole
pub mod Steps
pub mod Taken
mod WorkedStatements
pub mod Grammatical
pub mod Each
pub mod Keys
pub mod Found
pub mod Sources
pub mod LeftOpen
pub mod LeftOfBatch
pub mod Few
pub mod ReadsFit
pub mod FitAnswers
pub mod Pigeons
pub mod DatabaseFacts
pub mod Titles
pub mod FitUpdates
pub mod FitUtilities
pub mod FitKept
pub mod ConstantLengths
pub mod KindFacts
pub mod LawfulKinds
pub mod GoodTargets
pub mod FitMade
pub mod FewExpanded
mod Full
pub mod FitShown
pub mod NameChars
pub mod SpelledTerms
pub mod SpelledResolved
pub mod FitResolved
pub mod CheckedTrees
pub mod FitViews
pub mod UsedVars
pub mod VarPlaces
pub mod AllUsed
