pub mod CheckedStatements
