-- The words that the examples are written with, passed on from one place. Declares nothing.
pub use Rattle.calculus.specs.declared.value.Domain.TheVariants.{I1, I2, I4, C}
pub use Rattle.calculus.specs.declared.value.Kind.TheVariants.{Of, Wide}
pub use Rattle.calculus.specs.declared.operator.ArithOp.TheVariants.{Add, Sub, Mul, Div, Pow, Mod}
pub use Rattle.calculus.specs.declared.operator.CmpOp.TheVariants.{Eq, Ne, Lt, Le, Gt, Ge}
pub use Rattle.calculus.specs.declared.operator.AggOp.TheVariants.{Count, Countu, Sum, Sumu, Avg, Avgu, Min, Max, Any}
pub use Rattle.calculus.specs.declared.query.AggSource.{Named}
pub use Rattle.calculus.specs.declared.query.QTerm.{QTerm, Int, Chars, Attr}
pub use Rattle.calculus.specs.declared.query.QQual.{QQual, True, Cmp, Like}
pub use Rattle.calculus.specs.declared.query.QAgg.{QAgg}
pub use Rattle.calculus.specs.declared.query.Query.{Query}
pub use Rattle.calculus.specs.declared.request.Update.{Update}
pub use Rattle.calculus.specs.declared.request.UpdateOp.TheVariants.{Append, Replace, Delete, Into}
pub use Rattle.calculus.specs.Tree.{neg, abs, operation, concat, both, either, negated, query, aggregate}
pub use Rattle.calculus.specs.Rows.{Row}
pub use Rattle.calculus.specs.Who.{Who, Unrestricted}
pub use Rattle.calculus.specs.Database.{Db, Relation, View}
