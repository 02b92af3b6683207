-- What is printed is read.
use Rattle.stored_database.specs.Laws.{WhatIsPrintedIsRead}
use Rattle.stored_database.proofs.PrintedWhole.{printed_is_read}
use Rattle.stored_database.proofs.TreesFit.{trees_are_spelled}

pub what_is_printed_is_read : WhatIsPrintedIsRead
what_is_printed_is_read files f db d has = printed_is_read files f db d has (trees_are_spelled db d)
