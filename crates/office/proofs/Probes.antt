-- The probes hold, by computation.
use mathlib.Core.List.{flat_map}
use mathlib.Core.Path.{refl}
use Rattle.lists.specs.Lists.{below, all, any, filter, times, member, range}
use Rattle.asp.specs.Program.{outside, holds}
use Rattle.asp.specs.LeastModel.{consequences, iterate, least_model}
use Rattle.asp.specs.StableModel.{definite, reduct, lawful, derived, is_stable}
use Rattle.asp.specs.Count.{empty, with, states, stable_models, count, verdict}
use Rattle.unfolding.specs.Graph.{edge, onward, reach, same_component, first, component}
use Rattle.unfolding.specs.Chain.{linked, extends, longer, chains_of, chains, found, passes}
use Rattle.unfolding.specs.Missing.{missing_chains, missing_chain}
use Rattle.unfolding.specs.Default.{members, block, default_sequence}
use Rattle.unfolding.specs.Unfolded.{last, latest_keeps, latest, usable, replaced, renamed, is_kept, kept_for, variable, copies_from, unfolded}
use Rattle.unfolding.specs.Clauses.{negated, literals, rule_clauses, rules_clauses, copy_clauses, copies_clauses, constraint_clause, clauses, variables, signed, clause_words, signed_words}
use Rattle.unfolding.specs.Faithful.{clauses_of, variables_of}
use Rattle.sheet.specs.Questions.{ask, ◌then◌, first_refusal}
use Rattle.sheet.specs.Format.{opens, measured, limited, complete, kind_fits, kind_passes, rising, list_fits, lists_fit, record_questions, records_questions, form_questions}
use Rattle.sheet.specs.Sequence.{sequence_fits}
use Rattle.sheet.specs.Sheet.{record_at, records_from, records, adding, unless, record_rules, next_fresh, rules_of, constraints_of, choices, program_of, program}
use Rattle.components.specs.Limit.{components_fit}
use Rattle.counting.specs.DecisionAtoms.{asks_for, decision_atoms}
use Rattle.operations.specs.Outcome.{outcome}
use Rattle.text.specs.Text.{digits, decimal}
use Rattle.lparse_format.specs.Program.{lparse_body, lparse_rule, symbol, lparse_program}
use Rattle.lparse_format.specs.Text.{field_text, line, body_numbers, rule_text, symbol_text, atom_text, lparse_text}
use Rattle.operations.specs.Outputs.{sequence_bytes, default_output, lparse_output, missing_output, clauses_output, clause_numbers}
use Rattle.operations.specs.Questions.{bytes_questions, graph_questions, sheet_questions}
use Rattle.operations.specs.Calls.{describe, input_questions, questions, outcome_of, left}
use Rattle.office.specs.Probes.{empty_sheet, no_entries, positive_loop, odd_loop, even_loop, empty_constraint, sheet_a, three_entries, four_entries, loop_entries, answer, table, ProbesHold}

pub probes : ProbesHold
unfolding table answer empty_sheet no_entries positive_loop odd_loop even_loop empty_constraint sheet_a three_entries four_entries loop_entries flat_map below all any filter times member range outside holds consequences iterate least_model definite reduct lawful derived is_stable empty with states stable_models count verdict edge onward reach same_component first component linked extends longer chains_of chains found passes missing_chains missing_chain members block default_sequence last latest_keeps latest usable replaced renamed is_kept kept_for variable copies_from unfolded negated literals rule_clauses rules_clauses copy_clauses copies_clauses constraint_clause clauses variables signed clause_words signed_words clauses_of variables_of ask ◌then◌ opens measured limited complete kind_fits kind_passes rising list_fits lists_fit sequence_fits record_at records_from records adding unless record_rules next_fresh rules_of constraints_of choices program_of program components_fit asks_for decision_atoms outcome digits decimal lparse_body lparse_rule symbol lparse_program field_text line body_numbers rule_text symbol_text atom_text lparse_text sequence_bytes default_output lparse_output missing_output clauses_output clause_numbers record_questions records_questions form_questions first_refusal bytes_questions graph_questions sheet_questions describe input_questions questions outcome_of left
probes = refl
