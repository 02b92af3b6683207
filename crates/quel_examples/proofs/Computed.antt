-- What each session prints, computed.
use Rattle.std.proofs.Common.{refl}
use Rattle.calculus.specs.Aggregate as CAggregate
use Rattle.calculus.specs.Answer as CAnswer
use Rattle.calculus.specs.Assignments as CAssignments
use Rattle.calculus.specs.Catalogue as CCatalogue
use Rattle.calculus.specs.Change as CChange
use Rattle.calculus.specs.Chars as CChars
use Rattle.calculus.specs.Constant as CConstant
use Rattle.calculus.specs.Finding as CFinding
use Rattle.calculus.specs.Kinds as CKinds
use Rattle.calculus.specs.Name as CName
use Rattle.calculus.specs.Pairs as CPairs
use Rattle.calculus.specs.Pattern as CPattern
use Rattle.calculus.specs.Permission as CPermission
use Rattle.calculus.specs.QueryParts as CQueryParts
use Rattle.calculus.specs.Replacement as CReplacement
use Rattle.calculus.specs.Rights as CRights
use Rattle.calculus.specs.Sizes as CSizes
use Rattle.calculus.specs.Stored as CStored
use Rattle.calculus.specs.Table as CTable
use Rattle.calculus.specs.Targets as CTargets
use Rattle.calculus.specs.Term as CTerm
use Rattle.calculus.specs.Text as CText
use Rattle.calculus.specs.VariableRows as CVariableRows
use Rattle.quel_grammar.specs.Bounds as GBounds
use Rattle.quel_grammar.specs.Lexer as GLexer
use Rattle.quel_grammar.specs.Next as GNext
use Rattle.quel_grammar.specs.NextReader as GNextReader
use Rattle.quel_grammar.specs.PartReaders as GPartReaders
use Rattle.quel_grammar.specs.Pieces as GPieces
use Rattle.quel_grammar.specs.Reading as GReading
use Rattle.quel_grammar.specs.StatementReaders as GStatementReaders
use Rattle.quel_grammar.specs.TermReaders as GTermReaders
use Rattle.quel_grammar.specs.Words as GWords
use Rattle.quel_meaning.specs.Aggregates as MAggregates
use Rattle.quel_meaning.specs.Batch as MBatch
use Rattle.quel_meaning.specs.Buffer as MBuffer
use Rattle.quel_meaning.specs.Causes as MCauses
use Rattle.quel_meaning.specs.Copying as MCopying
use Rattle.quel_meaning.specs.Fit as MFit
use Rattle.quel_meaning.specs.FitQueries as MFitQueries
use Rattle.quel_meaning.specs.Happening as MHappening
use Rattle.quel_meaning.specs.IsWritten as MIsWritten
use Rattle.quel_meaning.specs.KindsInQueries as MKindsInQueries
use Rattle.quel_meaning.specs.Lines as MLines
use Rattle.quel_meaning.specs.Meaning as MMeaning
use Rattle.quel_meaning.specs.Monitor as MMonitor
use Rattle.quel_meaning.specs.Naming as MNaming
use Rattle.quel_meaning.specs.OpenFiles as MOpenFiles
use Rattle.quel_meaning.specs.Passing as MPassing
use Rattle.quel_meaning.specs.Planned as MPlanned
use Rattle.quel_meaning.specs.Printed as MPrinted
use Rattle.quel_meaning.specs.Purpose as MPurpose
use Rattle.quel_meaning.specs.Ranges as MRanges
use Rattle.quel_meaning.specs.Resolved as MResolved
use Rattle.quel_meaning.specs.Running as MRunning
use Rattle.quel_meaning.specs.Scope as MScope
use Rattle.quel_meaning.specs.Session as MSession
use Rattle.fault_io.specs.Files as MFiles
use Rattle.quel_meaning.specs.StatementUpdate as MStatementUpdate
use Rattle.quel_meaning.specs.Tables as MTables
use Rattle.quel_meaning.specs.WrittenParts as MWrittenParts
use Rattle.quel_meaning.specs.WrittenQuery as MWrittenQuery
use Rattle.calculus.specs.declared.statement.Qual.TheBlock.{shape-the_row-Qual-0, hidden-the_row-Qual-0, shape-the_row-Term-1, hidden-the_row-Term-1, shape-the_row-Term-2, hidden-the_row-Term-2, shape-the_row-AggTerm-3, hidden-the_row-AggTerm-3}
use denote.Hole.Carrier.{hidden}
use Rattle.std.specs.Fmt.{digits}
use Rattle.quel_grammar.specs.NextReader.{next_at}
use Rattle.quel_examples.specs.Retrieving.{Retrieving}
use Rattle.quel_examples.specs.Updating.{Updating}
use Rattle.quel_examples.specs.Viewing.{Viewing}
use Rattle.quel_examples.specs.Refusing.{Refusing}

pub retrieving : Retrieving next_at
unfolding hidden shape-the_row-Qual-0 hidden-the_row-Qual-0 shape-the_row-Term-1 hidden-the_row-Term-1 shape-the_row-Term-2 hidden-the_row-Term-2 shape-the_row-AggTerm-3 hidden-the_row-AggTerm-3 digits CAggregate.aggregates CAnswer.answer CAnswer.lacks CAssignments.assigned CAssignments.update_assigned CCatalogue.catalogue_at CChange.laid CChange.names_what_is_there CChange.adds_what_is_new CChange.lists_once CChars.is_chars CConstant.unescaped CConstant.constant_text CFinding.found CKinds.attribute_kind CKinds.constant_kind CKinds.number_kind CKinds.operated_kind CKinds.joined_kind CKinds.kind_of CKinds.comparable CKinds.is_text_kind CKinds.kinds_fit CName.is_name CPairs.pairs CPairs.ruled CPattern.items CPattern.fits_items CPattern.matches CPermission.readable CPermission.query_permitted CPermission.update_permitted CQueryParts.term_aggregates CQueryParts.qual_aggregates CReplacement.after CReplacement.contended CReplacement.updated CRights.covers CRights.permitted CRights.may CSizes.level_of CSizes.term_size CSizes.qual_size CSizes.measure_of CSizes.query_size CSizes.variables CSizes.expanded_variables CSizes.update_variables CSizes.update_expanded_variables CSizes.query_level CStored.range_at CStored.info_at CTable.said CTable.tabled CTargets.rows_given CTargets.some_lacks CTerm.attribute_value CTerm.opposite_value CTerm.value_without_sign CTerm.operated_values CTerm.joined_values CTerm.val CTerm.compared_values CTerm.matched_value CTerm.holds CTerm.values_of CText.is_text CText.text_of CVariableRows.rows_of GBounds.past_behind GBounds.first_past GLexer.word_at GLexer.int_at GLexer.text_at GLexer.token_at GLexer.piece_at GNext.first_offset GNext.line_at GNextReader.next_of_tokens GNextReader.next_at GPartReaders.list_by GPartReaders.maybe GPartReaders.closed GPartReaders.in_parens GPartReaders.all_target GPartReaders.dot_target GPartReaders.set_target GPartReaders.target_by GPartReaders.where_by GPartReaders.direction_at GPartReaders.key_at GPartReaders.keys_by GPartReaders.sort_by GPartReaders.name_into GPartReaders.plain_into GPartReaders.into_at GPartReaders.named_at GPartReaders.numbers_at GPartReaders.drop_by GPartReaders.on_by GPartReaders.keyed_by GPartReaders.structure_by GPartReaders.covered_by GPieces.pieces_behind GPieces.pieces_from GReading.look_up GStatementReaders.range_at GStatementReaders.retrieve_by GStatementReaders.changed_by GStatementReaders.append_by GStatementReaders.delete_by GStatementReaders.create_by GStatementReaders.destroy_names GStatementReaders.destroy_by GStatementReaders.modify_by GStatementReaders.index_by GStatementReaders.print_by GStatementReaders.help_at GStatementReaders.copy_by GStatementReaders.permit_by GStatementReaders.rule_by GStatementReaders.define_by GStatementReaders.statement_by GTermReaders.inside_by GTermReaders.abs_by GTermReaders.two_by GTermReaders.by_by GTermReaders.inner_qual_by GTermReaders.inner_where_by GTermReaders.aggregate_by GTermReaders.opened_by GTermReaders.attribute_of GTermReaders.named_by GTermReaders.prim_by GTermReaders.signed_by GTermReaders.unary_by GTermReaders.raised_by GTermReaders.power_by GTermReaders.pow_by GTermReaders.next_product_by GTermReaders.products_by GTermReaders.prod_by GTermReaders.next_sum_by GTermReaders.sums_by GTermReaders.term_by GTermReaders.terms_by GTermReaders.term_from GTermReaders.right_side_by GTermReaders.compare_by GTermReaders.grouped_by GTermReaders.compared_by GTermReaders.mixed_group_by GTermReaders.negated_by GTermReaders.plain_by GTermReaders.operand_by GTermReaders.neg_by GTermReaders.next_and_by GTermReaders.ands_by GTermReaders.conj_by GTermReaders.next_or_by GTermReaders.ors_by GTermReaders.mixed_from GTermReaders.mixed_by GTermReaders.qual_by GTermReaders.level GWords.fixed_of GWords.symbol_at MAggregates.aggregate_allowed MAggregates.aggregates_allowed MBatch.read_within MBatch.batch_from MBuffer.with_piece MBuffer.buffer_after MCauses.refusals MCopying.rows_in_file MCopying.copied_from MCopying.file_of_rows MCopying.copied_into MFit.update_fits MFit.view_fits MFit.utility_fits MFit.suits MFit.fits MFitQueries.source_fits MFitQueries.reads_fit MFitQueries.asked_fits MHappening.over MIsWritten.is_written MKindsInQueries.aggregate_kind MKindsInQueries.kind_in_query MKindsInQueries.kinds_fit_in_query MKindsInQueries.query_fits MKindsInQueries.assignments_fit MLines.lines_of MMeaning.utility_effect MMeaning.tree_meaning MMeaning.checked_permitted MMeaning.ruled_tree MMeaning.checked_tree_by MMeaning.meaning_by MMeaning.statements_run MMonitor.file_name MMonitor.command_of MMonitor.parts_from MNaming.mentions MNaming.name_refusal MOpenFiles.after_files MPassing.has_too_many MPassing.is_full MPassing.is_too_large MPassing.is_too_wide MPassing.is_taken MPlanned.plan_refusals MPlanned.plan_change MPlanned.planned MPrinted.rule_bytes MPrinted.head_bytes MPrinted.row_line MPrinted.table_bytes MPrinted.refusal_bytes MPrinted.reply_bytes MPurpose.purpose_of MPurpose.purpose MPurpose.refusal_numbers MRanges.range_of MRanges.declared MResolved.tree_of MResolved.resolved MRunning.after_statement MRunning.after_batch MRunning.carried_out MRunning.after_command MRunning.after_part MRunning.after_line MRunning.after_lines MRunning.files_within MScope.named MScope.ranged MScope.entry_named MSession.session_of_lines MSession.session_of MSession.session MSession.printed MSession.ended MFiles.fetched MFiles.stored MStatementUpdate.append_of MStatementUpdate.replace_of MStatementUpdate.delete_of MStatementUpdate.into_of MTables.rows_order MTables.sorted MTables.table_of MTables.some_query_lacks MWrittenParts.aggregate_vars MWrittenParts.aggregates_in MWrittenParts.aggregates_in_qual MWrittenParts.vars_in MWrittenQuery.where_tree MWrittenQuery.query_of
retrieving = record { a_first_table = refl; an_empty_script = refl; with_a_row_and_without = refl; values_of_terms = refl; no_sum = refl; no_power = refl; a_text_matches = refl; a_class_is_left = refl; parts_are_checked_together = refl; sorted = refl; in_groups = refl; folds = refl }

pub updating : Updating next_at
unfolding hidden shape-the_row-Qual-0 hidden-the_row-Qual-0 shape-the_row-Term-1 hidden-the_row-Term-1 shape-the_row-Term-2 hidden-the_row-Term-2 shape-the_row-AggTerm-3 hidden-the_row-AggTerm-3 digits CAggregate.aggregates CAnswer.answer CAnswer.lacks CAssignments.assigned CAssignments.update_assigned CCatalogue.catalogue_at CChange.laid CChange.names_what_is_there CChange.adds_what_is_new CChange.lists_once CChars.is_chars CConstant.unescaped CConstant.constant_text CFinding.found CKinds.attribute_kind CKinds.constant_kind CKinds.number_kind CKinds.operated_kind CKinds.joined_kind CKinds.kind_of CKinds.comparable CKinds.is_text_kind CKinds.kinds_fit CName.is_name CPairs.pairs CPairs.ruled CPattern.items CPattern.fits_items CPattern.matches CPermission.readable CPermission.query_permitted CPermission.update_permitted CQueryParts.term_aggregates CQueryParts.qual_aggregates CReplacement.after CReplacement.contended CReplacement.updated CRights.covers CRights.permitted CRights.may CSizes.level_of CSizes.term_size CSizes.qual_size CSizes.measure_of CSizes.query_size CSizes.variables CSizes.expanded_variables CSizes.update_variables CSizes.update_expanded_variables CSizes.query_level CStored.range_at CStored.info_at CTable.said CTable.tabled CTargets.rows_given CTargets.some_lacks CTerm.attribute_value CTerm.opposite_value CTerm.value_without_sign CTerm.operated_values CTerm.joined_values CTerm.val CTerm.compared_values CTerm.matched_value CTerm.holds CTerm.values_of CText.is_text CText.text_of CVariableRows.rows_of GBounds.past_behind GBounds.first_past GLexer.word_at GLexer.int_at GLexer.text_at GLexer.token_at GLexer.piece_at GNext.first_offset GNext.line_at GNextReader.next_of_tokens GNextReader.next_at GPartReaders.list_by GPartReaders.maybe GPartReaders.closed GPartReaders.in_parens GPartReaders.all_target GPartReaders.dot_target GPartReaders.set_target GPartReaders.target_by GPartReaders.where_by GPartReaders.direction_at GPartReaders.key_at GPartReaders.keys_by GPartReaders.sort_by GPartReaders.name_into GPartReaders.plain_into GPartReaders.into_at GPartReaders.named_at GPartReaders.numbers_at GPartReaders.drop_by GPartReaders.on_by GPartReaders.keyed_by GPartReaders.structure_by GPartReaders.covered_by GPieces.pieces_behind GPieces.pieces_from GReading.look_up GStatementReaders.range_at GStatementReaders.retrieve_by GStatementReaders.changed_by GStatementReaders.append_by GStatementReaders.delete_by GStatementReaders.create_by GStatementReaders.destroy_names GStatementReaders.destroy_by GStatementReaders.modify_by GStatementReaders.index_by GStatementReaders.print_by GStatementReaders.help_at GStatementReaders.copy_by GStatementReaders.permit_by GStatementReaders.rule_by GStatementReaders.define_by GStatementReaders.statement_by GTermReaders.inside_by GTermReaders.abs_by GTermReaders.two_by GTermReaders.by_by GTermReaders.inner_qual_by GTermReaders.inner_where_by GTermReaders.aggregate_by GTermReaders.opened_by GTermReaders.attribute_of GTermReaders.named_by GTermReaders.prim_by GTermReaders.signed_by GTermReaders.unary_by GTermReaders.raised_by GTermReaders.power_by GTermReaders.pow_by GTermReaders.next_product_by GTermReaders.products_by GTermReaders.prod_by GTermReaders.next_sum_by GTermReaders.sums_by GTermReaders.term_by GTermReaders.terms_by GTermReaders.term_from GTermReaders.right_side_by GTermReaders.compare_by GTermReaders.grouped_by GTermReaders.compared_by GTermReaders.mixed_group_by GTermReaders.negated_by GTermReaders.plain_by GTermReaders.operand_by GTermReaders.neg_by GTermReaders.next_and_by GTermReaders.ands_by GTermReaders.conj_by GTermReaders.next_or_by GTermReaders.ors_by GTermReaders.mixed_from GTermReaders.mixed_by GTermReaders.qual_by GTermReaders.level GWords.fixed_of GWords.symbol_at MAggregates.aggregate_allowed MAggregates.aggregates_allowed MBatch.read_within MBatch.batch_from MBuffer.with_piece MBuffer.buffer_after MCauses.refusals MCopying.rows_in_file MCopying.copied_from MCopying.file_of_rows MCopying.copied_into MFit.update_fits MFit.view_fits MFit.utility_fits MFit.suits MFit.fits MFitQueries.source_fits MFitQueries.reads_fit MFitQueries.asked_fits MHappening.over MIsWritten.is_written MKindsInQueries.aggregate_kind MKindsInQueries.kind_in_query MKindsInQueries.kinds_fit_in_query MKindsInQueries.query_fits MKindsInQueries.assignments_fit MLines.lines_of MMeaning.utility_effect MMeaning.tree_meaning MMeaning.checked_permitted MMeaning.ruled_tree MMeaning.checked_tree_by MMeaning.meaning_by MMeaning.statements_run MMonitor.file_name MMonitor.command_of MMonitor.parts_from MNaming.mentions MNaming.name_refusal MOpenFiles.after_files MPassing.has_too_many MPassing.is_full MPassing.is_too_large MPassing.is_too_wide MPassing.is_taken MPlanned.plan_refusals MPlanned.plan_change MPlanned.planned MPrinted.rule_bytes MPrinted.head_bytes MPrinted.row_line MPrinted.table_bytes MPrinted.refusal_bytes MPrinted.reply_bytes MPurpose.purpose_of MPurpose.purpose MPurpose.refusal_numbers MRanges.range_of MRanges.declared MResolved.tree_of MResolved.resolved MRunning.after_statement MRunning.after_batch MRunning.carried_out MRunning.after_command MRunning.after_part MRunning.after_line MRunning.after_lines MRunning.files_within MScope.named MScope.ranged MScope.entry_named MSession.session_of_lines MSession.session_of MSession.session MSession.printed MSession.ended MFiles.fetched MFiles.stored MStatementUpdate.append_of MStatementUpdate.replace_of MStatementUpdate.delete_of MStatementUpdate.into_of MTables.rows_order MTables.sorted MTables.table_of MTables.some_query_lacks MWrittenParts.aggregate_vars MWrittenParts.aggregates_in MWrittenParts.aggregates_in_qual MWrittenParts.vars_in MWrittenQuery.where_tree MWrittenQuery.query_of
updating = record { only_what_fits = refl; rows_are_a_set = refl; on_the_state_before = refl; swapped = refl; rules = refl }

pub viewing : Viewing next_at
unfolding hidden shape-the_row-Qual-0 hidden-the_row-Qual-0 shape-the_row-Term-1 hidden-the_row-Term-1 shape-the_row-Term-2 hidden-the_row-Term-2 shape-the_row-AggTerm-3 hidden-the_row-AggTerm-3 digits CAggregate.aggregates CAnswer.answer CAnswer.lacks CAssignments.assigned CAssignments.update_assigned CCatalogue.catalogue_at CChange.laid CChange.names_what_is_there CChange.adds_what_is_new CChange.lists_once CChars.is_chars CConstant.unescaped CConstant.constant_text CFinding.found CKinds.attribute_kind CKinds.constant_kind CKinds.number_kind CKinds.operated_kind CKinds.joined_kind CKinds.kind_of CKinds.comparable CKinds.is_text_kind CKinds.kinds_fit CName.is_name CPairs.pairs CPairs.ruled CPattern.items CPattern.fits_items CPattern.matches CPermission.readable CPermission.query_permitted CPermission.update_permitted CQueryParts.term_aggregates CQueryParts.qual_aggregates CReplacement.after CReplacement.contended CReplacement.updated CRights.covers CRights.permitted CRights.may CSizes.level_of CSizes.term_size CSizes.qual_size CSizes.measure_of CSizes.query_size CSizes.variables CSizes.expanded_variables CSizes.update_variables CSizes.update_expanded_variables CSizes.query_level CStored.range_at CStored.info_at CTable.said CTable.tabled CTargets.rows_given CTargets.some_lacks CTerm.attribute_value CTerm.opposite_value CTerm.value_without_sign CTerm.operated_values CTerm.joined_values CTerm.val CTerm.compared_values CTerm.matched_value CTerm.holds CTerm.values_of CText.is_text CText.text_of CVariableRows.rows_of GBounds.past_behind GBounds.first_past GLexer.word_at GLexer.int_at GLexer.text_at GLexer.token_at GLexer.piece_at GNext.first_offset GNext.line_at GNextReader.next_of_tokens GNextReader.next_at GPartReaders.list_by GPartReaders.maybe GPartReaders.closed GPartReaders.in_parens GPartReaders.all_target GPartReaders.dot_target GPartReaders.set_target GPartReaders.target_by GPartReaders.where_by GPartReaders.direction_at GPartReaders.key_at GPartReaders.keys_by GPartReaders.sort_by GPartReaders.name_into GPartReaders.plain_into GPartReaders.into_at GPartReaders.named_at GPartReaders.numbers_at GPartReaders.drop_by GPartReaders.on_by GPartReaders.keyed_by GPartReaders.structure_by GPartReaders.covered_by GPieces.pieces_behind GPieces.pieces_from GReading.look_up GStatementReaders.range_at GStatementReaders.retrieve_by GStatementReaders.changed_by GStatementReaders.append_by GStatementReaders.delete_by GStatementReaders.create_by GStatementReaders.destroy_names GStatementReaders.destroy_by GStatementReaders.modify_by GStatementReaders.index_by GStatementReaders.print_by GStatementReaders.help_at GStatementReaders.copy_by GStatementReaders.permit_by GStatementReaders.rule_by GStatementReaders.define_by GStatementReaders.statement_by GTermReaders.inside_by GTermReaders.abs_by GTermReaders.two_by GTermReaders.by_by GTermReaders.inner_qual_by GTermReaders.inner_where_by GTermReaders.aggregate_by GTermReaders.opened_by GTermReaders.attribute_of GTermReaders.named_by GTermReaders.prim_by GTermReaders.signed_by GTermReaders.unary_by GTermReaders.raised_by GTermReaders.power_by GTermReaders.pow_by GTermReaders.next_product_by GTermReaders.products_by GTermReaders.prod_by GTermReaders.next_sum_by GTermReaders.sums_by GTermReaders.term_by GTermReaders.terms_by GTermReaders.term_from GTermReaders.right_side_by GTermReaders.compare_by GTermReaders.grouped_by GTermReaders.compared_by GTermReaders.mixed_group_by GTermReaders.negated_by GTermReaders.plain_by GTermReaders.operand_by GTermReaders.neg_by GTermReaders.next_and_by GTermReaders.ands_by GTermReaders.conj_by GTermReaders.next_or_by GTermReaders.ors_by GTermReaders.mixed_from GTermReaders.mixed_by GTermReaders.qual_by GTermReaders.level GWords.fixed_of GWords.symbol_at MAggregates.aggregate_allowed MAggregates.aggregates_allowed MBatch.read_within MBatch.batch_from MBuffer.with_piece MBuffer.buffer_after MCauses.refusals MCopying.rows_in_file MCopying.copied_from MCopying.file_of_rows MCopying.copied_into MFit.update_fits MFit.view_fits MFit.utility_fits MFit.suits MFit.fits MFitQueries.source_fits MFitQueries.reads_fit MFitQueries.asked_fits MHappening.over MIsWritten.is_written MKindsInQueries.aggregate_kind MKindsInQueries.kind_in_query MKindsInQueries.kinds_fit_in_query MKindsInQueries.query_fits MKindsInQueries.assignments_fit MLines.lines_of MMeaning.utility_effect MMeaning.tree_meaning MMeaning.checked_permitted MMeaning.ruled_tree MMeaning.checked_tree_by MMeaning.meaning_by MMeaning.statements_run MMonitor.file_name MMonitor.command_of MMonitor.parts_from MNaming.mentions MNaming.name_refusal MOpenFiles.after_files MPassing.has_too_many MPassing.is_full MPassing.is_too_large MPassing.is_too_wide MPassing.is_taken MPlanned.plan_refusals MPlanned.plan_change MPlanned.planned MPrinted.rule_bytes MPrinted.head_bytes MPrinted.row_line MPrinted.table_bytes MPrinted.refusal_bytes MPrinted.reply_bytes MPurpose.purpose_of MPurpose.purpose MPurpose.refusal_numbers MRanges.range_of MRanges.declared MResolved.tree_of MResolved.resolved MRunning.after_statement MRunning.after_batch MRunning.carried_out MRunning.after_command MRunning.after_part MRunning.after_line MRunning.after_lines MRunning.files_within MScope.named MScope.ranged MScope.entry_named MSession.session_of_lines MSession.session_of MSession.session MSession.printed MSession.ended MFiles.fetched MFiles.stored MStatementUpdate.append_of MStatementUpdate.replace_of MStatementUpdate.delete_of MStatementUpdate.into_of MTables.rows_order MTables.sorted MTables.table_of MTables.some_query_lacks MWrittenParts.aggregate_vars MWrittenParts.aggregates_in MWrittenParts.aggregates_in_qual MWrittenParts.vars_in MWrittenQuery.where_tree MWrittenQuery.query_of
viewing = record { views = refl; a_view_twice = refl; numbers_of_permits = refl; structures = refl; permits_are_not_joined = refl; own_relations = refl }

pub refusing : Refusing next_at
unfolding hidden shape-the_row-Qual-0 hidden-the_row-Qual-0 shape-the_row-Term-1 hidden-the_row-Term-1 shape-the_row-Term-2 hidden-the_row-Term-2 shape-the_row-AggTerm-3 hidden-the_row-AggTerm-3 digits CAggregate.aggregates CAnswer.answer CAnswer.lacks CAssignments.assigned CAssignments.update_assigned CCatalogue.catalogue_at CChange.laid CChange.names_what_is_there CChange.adds_what_is_new CChange.lists_once CChars.is_chars CConstant.unescaped CConstant.constant_text CFinding.found CKinds.attribute_kind CKinds.constant_kind CKinds.number_kind CKinds.operated_kind CKinds.joined_kind CKinds.kind_of CKinds.comparable CKinds.is_text_kind CKinds.kinds_fit CName.is_name CPairs.pairs CPairs.ruled CPattern.items CPattern.fits_items CPattern.matches CPermission.readable CPermission.query_permitted CPermission.update_permitted CQueryParts.term_aggregates CQueryParts.qual_aggregates CReplacement.after CReplacement.contended CReplacement.updated CRights.covers CRights.permitted CRights.may CSizes.level_of CSizes.term_size CSizes.qual_size CSizes.measure_of CSizes.query_size CSizes.variables CSizes.expanded_variables CSizes.update_variables CSizes.update_expanded_variables CSizes.query_level CStored.range_at CStored.info_at CTable.said CTable.tabled CTargets.rows_given CTargets.some_lacks CTerm.attribute_value CTerm.opposite_value CTerm.value_without_sign CTerm.operated_values CTerm.joined_values CTerm.val CTerm.compared_values CTerm.matched_value CTerm.holds CTerm.values_of CText.is_text CText.text_of CVariableRows.rows_of GBounds.past_behind GBounds.first_past GLexer.word_at GLexer.int_at GLexer.text_at GLexer.token_at GLexer.piece_at GNext.first_offset GNext.line_at GNextReader.next_of_tokens GNextReader.next_at GPartReaders.list_by GPartReaders.maybe GPartReaders.closed GPartReaders.in_parens GPartReaders.all_target GPartReaders.dot_target GPartReaders.set_target GPartReaders.target_by GPartReaders.where_by GPartReaders.direction_at GPartReaders.key_at GPartReaders.keys_by GPartReaders.sort_by GPartReaders.name_into GPartReaders.plain_into GPartReaders.into_at GPartReaders.named_at GPartReaders.numbers_at GPartReaders.drop_by GPartReaders.on_by GPartReaders.keyed_by GPartReaders.structure_by GPartReaders.covered_by GPieces.pieces_behind GPieces.pieces_from GReading.look_up GStatementReaders.range_at GStatementReaders.retrieve_by GStatementReaders.changed_by GStatementReaders.append_by GStatementReaders.delete_by GStatementReaders.create_by GStatementReaders.destroy_names GStatementReaders.destroy_by GStatementReaders.modify_by GStatementReaders.index_by GStatementReaders.print_by GStatementReaders.help_at GStatementReaders.copy_by GStatementReaders.permit_by GStatementReaders.rule_by GStatementReaders.define_by GStatementReaders.statement_by GTermReaders.inside_by GTermReaders.abs_by GTermReaders.two_by GTermReaders.by_by GTermReaders.inner_qual_by GTermReaders.inner_where_by GTermReaders.aggregate_by GTermReaders.opened_by GTermReaders.attribute_of GTermReaders.named_by GTermReaders.prim_by GTermReaders.signed_by GTermReaders.unary_by GTermReaders.raised_by GTermReaders.power_by GTermReaders.pow_by GTermReaders.next_product_by GTermReaders.products_by GTermReaders.prod_by GTermReaders.next_sum_by GTermReaders.sums_by GTermReaders.term_by GTermReaders.terms_by GTermReaders.term_from GTermReaders.right_side_by GTermReaders.compare_by GTermReaders.grouped_by GTermReaders.compared_by GTermReaders.mixed_group_by GTermReaders.negated_by GTermReaders.plain_by GTermReaders.operand_by GTermReaders.neg_by GTermReaders.next_and_by GTermReaders.ands_by GTermReaders.conj_by GTermReaders.next_or_by GTermReaders.ors_by GTermReaders.mixed_from GTermReaders.mixed_by GTermReaders.qual_by GTermReaders.level GWords.fixed_of GWords.symbol_at MAggregates.aggregate_allowed MAggregates.aggregates_allowed MBatch.read_within MBatch.batch_from MBuffer.with_piece MBuffer.buffer_after MCauses.refusals MCopying.rows_in_file MCopying.copied_from MCopying.file_of_rows MCopying.copied_into MFit.update_fits MFit.view_fits MFit.utility_fits MFit.suits MFit.fits MFitQueries.source_fits MFitQueries.reads_fit MFitQueries.asked_fits MHappening.over MIsWritten.is_written MKindsInQueries.aggregate_kind MKindsInQueries.kind_in_query MKindsInQueries.kinds_fit_in_query MKindsInQueries.query_fits MKindsInQueries.assignments_fit MLines.lines_of MMeaning.utility_effect MMeaning.tree_meaning MMeaning.checked_permitted MMeaning.ruled_tree MMeaning.checked_tree_by MMeaning.meaning_by MMeaning.statements_run MMonitor.file_name MMonitor.command_of MMonitor.parts_from MNaming.mentions MNaming.name_refusal MOpenFiles.after_files MPassing.has_too_many MPassing.is_full MPassing.is_too_large MPassing.is_too_wide MPassing.is_taken MPlanned.plan_refusals MPlanned.plan_change MPlanned.planned MPrinted.rule_bytes MPrinted.head_bytes MPrinted.row_line MPrinted.table_bytes MPrinted.refusal_bytes MPrinted.reply_bytes MPurpose.purpose_of MPurpose.purpose MPurpose.refusal_numbers MRanges.range_of MRanges.declared MResolved.tree_of MResolved.resolved MRunning.after_statement MRunning.after_batch MRunning.carried_out MRunning.after_command MRunning.after_part MRunning.after_line MRunning.after_lines MRunning.files_within MScope.named MScope.ranged MScope.entry_named MSession.session_of_lines MSession.session_of MSession.session MSession.printed MSession.ended MFiles.fetched MFiles.stored MStatementUpdate.append_of MStatementUpdate.replace_of MStatementUpdate.delete_of MStatementUpdate.into_of MTables.rows_order MTables.sorted MTables.table_of MTables.some_query_lacks MWrittenParts.aggregate_vars MWrittenParts.aggregates_in MWrittenParts.aggregates_in_qual MWrittenParts.vars_in MWrittenQuery.where_tree MWrittenQuery.query_of
refusing = record { too_wide_or_too_long = refl; not_a_statement = refl; commands = refl; nothing_of_the_name = refl }
