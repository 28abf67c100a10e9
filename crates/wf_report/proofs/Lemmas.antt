-- What the crates above may use of these proofs.
pub use Rattle.wf_report.proofs.BadLines.{not_fixed}
pub use Rattle.wf_report.proofs.Bodies.{map_cut, map_done, map_parts, map_unread, none_reads, search_read, steps_unread, steps_weaker, values_read}
pub use Rattle.wf_report.proofs.Chains.{can_on, gives_on, refused_as, then_reads}
pub use Rattle.wf_report.proofs.Fronts.{bad_ahead, line_first}
pub use Rattle.wf_report.proofs.InTurn.{HasSteps, last_step, no_steps, one_step, rest_read, rest_stop, steps_stop}
pub use Rattle.wf_report.proofs.ReadBackLemmas.{fixed_there, joined, number_found, read_written, spelt, text_by_words, then_ok, when_true, words_text}
pub use Rattle.wf_report.proofs.ReadLemmas.{fixed_is, last_piece, lines_cut, no_fixed, no_number, no_words, not_ended, not_false, not_true, number_at_is, number_step, one_word, same_ended, some_line, words_cut, words_ended}
pub use Rattle.wf_report.proofs.WrittenLemmas.{IsLine, is_line, number_read, number_there, words_are, written_read}
