-- A run over two sources: a task, and the parts of the branches of its question one behind another,
-- which are put together to the report of the whole question.
use Rattle.std.specs.Prelude.{◌≡◌, ◌≢◌, ◌<◌, ◌≤◌, ◌-◌, ◌+◌, ◌^◌, ℕ, zero, suc, Bool, List, [], ◌∷◌, ◌++◌, length, take, drop, codes, Result, Ok, Err, if◌then◌else◌}
use Rattle.wf_model.specs.Task.{Task}
use Rattle.wf_model.specs.Problem.{problem_of}
use Rattle.wf_model.specs.Outline.{Item, boxes_left_out, filled, filled_up_to, outline}
use Rattle.wf_model.specs.Refutation.{Line}
use Rattle.wf_model.specs.Report.{Report, Body, a_map, none, least, line, report_about, same_text}
use Rattle.wf_model.specs.Check.{report_fault}
use Rattle.wf_sat_formula.specs.Branches.{branches}
use Rattle.wf_base.specs.Streams.Seen.{Reading, Writing}
use Rattle.wf_base.specs.Streams.Texts.{ReadsText}
use Rattle.wf_base.specs.declared.streams.source.ReadFault.{ReadFault}
use Rattle.wf_report_check.specs.Faults.{Fails}
use Rattle.wf_search.specs.Cover.{each_seen}
use Rattle.wf_report.specs.Reports.{AreNumbered, body_of}
use Rattle.wf_report.specs.declared.report.Body as code
use Rattle.wf_report.specs.declared.fault.CertFault.TheVariants as amiss
use Rattle.wf_run.specs.Run.{Judged, Next, Ran}
use Rattle.wf_run.specs.Sources.{AsksBoth}
use Rattle.wf_run.specs.Texts.{text_of_report}
use Rattle.wf_run_verify.specs.Verify.{IsFaultless}
use Rattle.wf_run.specs.declared.fault.PartFault.TheVariants as part
use Rattle.wf_run.specs.declared.fault.RunFault.{RunFault}
use Rattle.wf_run.specs.declared.fault.RunFault.TheVariants.{Cert, InPart, NoPart, NotInBranch, OtherPart, OutOfMemory, TooLong, TooManyParts}
use Rattle.wf_run_branches.specs.Verifying.{ChecksIn, IsPartOf}
use Rattle.wf_run_branches.specs.declared.joining.Gathered as found
use Rattle.wf_run_branches.specs.declared.joining.Gathered.TheVariants as kept

-- the parts of all branches have at most so many bytes together
abbrev pub most_parts_bytes : ℕ
most_parts_bytes = 2 ^ 32 - 1

-- ---- one part

-- the line `end`, behind another line
abbrev pub end_mark : List ℕ
end_mark = 10 ∷ line (codes "end") []

-- another line is over here, and the line `end` comes
abbrev pub ends_here : List ℕ → Bool
ends_here text = same_text (take 5 text) end_mark

-- how many bytes a text has up to its first line `end`, and with it; all of
-- them, where there is none
abbrev pub part_length : List ℕ → ℕ
part_length [] = 0
part_length (b ∷ bs) = if ends_here (b ∷ bs) then 5 else suc (part_length bs)

-- the part at the front of a text, and what comes behind it
abbrev pub next_part : List ℕ → List ℕ × List ℕ
next_part text = (take (part_length text) text, drop (part_length text) text)

-- a report that is accepted about branch i says this of it
abbrev pub AcceptsBody : ℕ → Task → ℕ → Report → Result Body RunFault → Type 0
AcceptsBody i t r report (Ok body) = ChecksIn i t r report (Ok tt) × (body ≡ report.body)
AcceptsBody i t r report (Err e) = ChecksIn i t r report (Err e)

-- what the text says of branch i, where it is a part about it that is accepted
abbrev pub IsBodyIn : ℕ → Task → ℕ → List ℕ → Result Body RunFault → Type 0
IsBodyIn i t r text result =
    (report : Result Report RunFault) × IsPartOf i (length (branches t r)) text report × Next (AcceptsBody i t r) report result

-- a refusal of the part about branch i, where it is one among others
abbrev pub in_part : ℕ → RunFault → RunFault
in_part i OtherPart = NoPart i
in_part i TooLong = InPart i (part.Report amiss.TooLong)
in_part i (Cert e) = InPart i (part.Report e)
in_part i NotInBranch = InPart i part.NotInBranch
in_part i e = e

abbrev pub among_parts : {X : Type 0} → ℕ → Result X RunFault → Result X RunFault
among_parts i (Ok x) = Ok x
among_parts i (Err e) = Err (in_part i e)

-- what the next part says of branch i, or why there is no such part
abbrev pub TakesPart : ℕ → Task → ℕ → List ℕ → Result Body RunFault → Type 0
TakesPart i t r text result = (alone : Result Body RunFault) × IsBodyIn i t r text alone × (result ≡ among_parts i alone)

-- ---- all parts

-- What the parts come to: the lines of each branch where none has a map; or the map of the first
-- branch that has one, in the least form with the lines of the branches up to it.
pub data Gathered : Type 0 where
  without_map : List (List Line) → Gathered
  with_map : List ℕ → Gathered
  with_least : List ℕ → List (List Line) → Gathered

-- the parts of all n branches are taken, and nothing is left behind them
abbrev pub EndsAll : ℕ → List (List Line) → List ℕ → Result Gathered RunFault → Type 0
EndsAll n lists text (Ok gathered) = (text ≡ []) × (gathered ≡ without_map lists)
EndsAll n lists text (Err (TooManyParts k)) = (text ≢ []) × (k ≡ n)
EndsAll n lists text (Err OutOfMemory) = Unit {0}
EndsAll n lists text (Err e) = ⊥

-- a map ends the going through the branches; lines of a refutation are kept,
-- and the next branch is to come
abbrev pub GoesOn : (List (List Line) → Result Gathered RunFault → Type 0) → List (List Line) → Body → Result Gathered RunFault → Type 0
GoesOn next lists (a_map m) result = result ≡ Ok (with_map m)
GoesOn next lists (none ls) result = next (lists ++ ls ∷ []) result
GoesOn next lists (least m ls) result = result ≡ Ok (with_least m (lists ++ ls ∷ []))

-- what the parts of a text come to, where so many branches are left, from branch i on, and these
-- are the lines of those before
abbrev pub Gathers : Task → ℕ → ℕ → ℕ → List (List Line) → List ℕ → Result Gathered RunFault → Type 0
Gathers t r zero i lists text result = EndsAll i lists text result
Gathers t r (suc left) i lists text result =
    (body : Result Body RunFault) × TakesPart i t r (next_part text).0 body
    × Next (GoesOn (λ lists. Gathers t r left (suc i) lists (next_part text).1) lists) body result

-- what the parts of a text come to
abbrev pub GathersAll : Task → ℕ → List ℕ → Result Gathered RunFault → Type 0
GathersAll t r text result = Gathers t r (length (branches t r)) 0 [] text result

-- ---- the whole question

-- what they say of the whole question: the lines with which the root is cut into branches, with
-- those of the branches in their places
abbrev pub joined_body : List Item → Gathered → Body
joined_body cover (without_map lists) = none (filled cover lists)
joined_body cover (with_map m) = a_map m
joined_body cover (with_least m lists) = least m (filled_up_to cover lists)

-- how many values and lines there are
abbrev pub lines_in : Body → ℕ
lines_in (a_map m) = length m
lines_in (none ls) = length ls
lines_in (least m ls) = length m + length ls

-- The report with this answer is about the whole question. The checker finds no fault in it, and
-- the text is its own; or it has one, or more lines than can be numbered.
abbrev pub AcceptsJoined : Task → ℕ → Body → Result (Unit {0} × List ℕ) RunFault → Type 0
AcceptsJoined t r body (Ok answer) =
    AreNumbered (lines_in body) × IsFaultless t (report_about t r body) × (answer.1 ≡ text_of_report t r body)
AcceptsJoined t r body (Err (Cert amiss.OutOfMemory)) = ⊥
AcceptsJoined t r body (Err (Cert e)) = AreNumbered (lines_in body) × Fails e (report_fault t r (report_about t r body))
AcceptsJoined t r body (Err TooLong) = AreNumbered (lines_in body) → ⊥
AcceptsJoined t r body (Err OutOfMemory) = Unit {0}
AcceptsJoined t r body (Err e) = ⊥

-- the parts of the text are put together to a report, and that is checked
abbrev pub JoinsText : Task → ℕ → List ℕ → Result (Unit {0} × List ℕ) RunFault → Type 0
JoinsText t r text result =
    (gathered : Result Gathered RunFault) × GathersAll t r text gathered
    × Next (λ g. AcceptsJoined t r (joined_body (outline (problem_of t r)) g)) gathered result

-- a source's text as such parts
abbrev pub ReadsParts : Task → ℕ → Reading → Reading → Result (Unit {0} × List ℕ) RunFault → Type 0
ReadsParts t r old new result =
    (text : Result (List ℕ) ReadFault) × ReadsText most_parts_bytes old new text × Judged (JoinsText t r) text result

-- The parts of a source about the branches of the question of another source's task after r rounds,
-- in the order of the branches, were put together, and the report of the whole question was
-- written. The task and its limits are judged before the parts are read.
abbrev pub Joins : ℕ → Reading → Reading → Reading → Reading → Writing → Writing → Result (Unit {0}) RunFault → Type 0
Joins r task task' parts parts' sink sink' result = Ran (AsksBoth ReadsParts r task task' parts parts') sink sink' result

-- ---- of the code

-- a body of the code, and what clauses see of it
abbrev pub body_seen : Result code.Body RunFault → Result Body RunFault
body_seen (Ok body) = Ok (body_of body)
body_seen (Err e) = Err e

-- what the parts come to in the code, and what clauses see of it
abbrev pub gathered_of : found.Gathered → Gathered
gathered_of (kept.WithoutMap lists) = without_map (each_seen lists.items)
gathered_of (kept.WithMap values) = with_map values.items
gathered_of (kept.WithLeast values lists) = with_least values.items (each_seen lists.items)

abbrev pub gathered_seen : Result found.Gathered RunFault → Result Gathered RunFault
gathered_seen (Ok gathered) = Ok (gathered_of gathered)
gathered_seen (Err e) = Err e

-- there is a list for each branch, or for each of the first ones
abbrev pub HasListsFor : List Item → found.Gathered → Type 0
HasListsFor cover (kept.WithoutMap lists) = length lists.items ≡ length (boxes_left_out cover)
HasListsFor cover (kept.WithMap values) = Unit {0}
HasListsFor cover (kept.WithLeast values lists) = (0 < length lists.items) × (length lists.items ≤ length (boxes_left_out cover))
