use Rattle.machine_defs.proofs.TableLaws.{full_forms_unambiguous, compressed_forms_unambiguous, full_forms_have_words, compressed_forms_have_words}
use Rattle.machine_defs.proofs.table.table_laws.Goals as goal

pub returns-clause-full_forms_unambiguous : goal.returns-clause-full_forms_unambiguous
returns-clause-full_forms_unambiguous c = full_forms_unambiguous

pub returns-clause-compressed_forms_unambiguous : goal.returns-clause-compressed_forms_unambiguous
returns-clause-compressed_forms_unambiguous c = compressed_forms_unambiguous

pub returns-clause-full_forms_given : goal.returns-clause-full_forms_given
returns-clause-full_forms_given c = full_forms_have_words

pub returns-clause-compressed_forms_given : goal.returns-clause-compressed_forms_given
returns-clause-compressed_forms_given c = compressed_forms_have_words
