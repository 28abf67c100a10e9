-- The table by which the executions of a task are told.
use Rattle.std.specs.Prelude.{◌≡◌, ◌<◌, ℕ, zero, suc, ◌+◌, All, List, [], ◌∷◌, map, length, take, codes, vec_items}
use Rattle.std.specs.List.{slice_index_or}
use Rattle.wf_model.specs.Lists.{below, lists_of}
use Rattle.wf_model.specs.Simplex.{Simplex}
use Rattle.wf_model.specs.Task.{Task, inputs, first_block}
use Rattle.wf_model.specs.Word.{Word, words}
use Rattle.wf_complex.specs.Layout.{turns}
use Rattle.wf_report_explain.specs.declared.words.executions.ExecutionRange.{ExecutionRange}
use Rattle.wf_report_explain.specs.Words.Text.{Names, words_text}
use Rattle.wf_report_explain.specs.declared.words.executions.LocatedExecution.{LocatedExecution}
use Rattle.wf_report_explain.specs.declared.words.executions.Members.{Members}
use Rattle.wf_report_explain.specs.declared.words.executions.Executions.TheInside.{Inside}

-- what a clause sees of it
pub record Table : Type 0 where
  pub spans : List ExecutionRange  -- of each input simplex, the first of its executions and how many there are
  pub words : List (List Word)  -- those of one participant, of two, of three and of four

-- the spans of these simplices, of which the first one's executions begin here
abbrev pub spans_of : ℕ → ℕ → ℕ → List Simplex → List ExecutionRange
spans_of m r first [] = []
spans_of m r first (s ∷ ss) = record { first = first; count = turns m (length s) r } ∷ spans_of m r (first + turns m (length s) r) ss

-- the words of one participant, of two and so on
unfoldable pub words_up_to : ℕ → ℕ → List (List Word)
words_up_to m size = map (λ k. words m (k + 1)) (below size)

-- the table of a task after r rounds
abbrev pub table_of : Task → ℕ → Table
table_of t r = record { spans = spans_of (first_block t) r 0 (inputs t); words = words_up_to (first_block t) 4 }

abbrev pub table_seen : Inside → Table
table_seen e = record { spans = e.spans.items; words = map vec_items e.words.items }

-- what stands between a round and the one before
abbrev pub break_text : ℕ → List ℕ
break_text zero = []
break_text (suc round) = codes " ; "

-- the participants that a list of at most four keeps
abbrev pub members_in : Members → Simplex
members_in m = take m.count m.members

-- how participants are told, by those who take part
abbrev pub Naming : Type 0
Naming = Simplex → Names

-- ---- an execution that was looked up

-- its place is one of those among the lists of words for its rounds, and each
-- word is one of its participants
pub record IsWhole (f : LocatedExecution) : Type 0 where
  pub count : f.count ≡ length (lists_of f.words.now f.rounds)
  pub place : f.place < f.count
  pub long : All (λ w. length w ≡ length f.simplex) f.words.now

abbrev pub words_found : LocatedExecution → List Word
words_found f = slice_index_or (lists_of f.words.now f.rounds) f.place []

abbrev pub text_of : Naming → LocatedExecution → List ℕ
text_of names f = words_text (names f.simplex) (words_found f)
