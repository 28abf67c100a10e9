use Rattle.wf_board.proofs.Events.{start_is_shown, look_is_event, post_is_event, searched_is_event, cut_is_event, take_is_shown, end_is_shown}
use Rattle.wf_board.proofs.laws.calls_are_events.Goals as goal

pub returns : goal.returns
returns c = record { start = start_is_shown; look = look_is_event; post = post_is_event; searched = searched_is_event; cut = cut_is_event; take = take_is_shown; end = end_is_shown }
