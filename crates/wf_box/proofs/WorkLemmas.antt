-- One part of a closing after another.
use Rattle.std.proofs.Common.{◌≡◌, ◌<◌, ◌∙◌, ℕ, List, length, Vec, Option, Some, None, Bool, true, false, arith, ap, refl, subst}
use Rattle.std.specs.Bool.{OnFalse, OnTrue}
use Rattle.std.specs.List.{slice_index_or}
use Rattle.wf_model.specs.Problem.{Constraint}
use Rattle.wf_base.specs.Set.Sets.{box_of}
use Rattle.wf_base.specs.declared.lines.line.Line.{Line}
use Rattle.wf_box.specs.Changes.{sets_in}
use Rattle.wf_box.specs.Closes.{EndsAt, IsEmptied, emptied_by}
use Rattle.wf_lane.specs.Table.{HasSupported}
use Rattle.wf_network.specs.Problems.{executions_in, rule_in, rule_of}
use Rattle.wf_network.specs.Revising.{AreKnown, answers_in, found_at, found_in}
use Rattle.wf_box.specs.Steps.{HasRoom, IsPaid, IsSpent, point_if}
use Rattle.wf_box.specs.Working.{Ends, IsWorking, Proceeds}
use Rattle.wf_box.specs.declared.closing.Closed.{Closed}
use Rattle.wf_box.specs.declared.closing.Closed.TheVariants.{Empty, Open}
use Rattle.wf_network.specs.declared.marks.Marks.{Marks}
use Rattle.wf_network.specs.declared.memo.SupportCache.{SupportCache}
use Rattle.wf_complex.specs.declared.packed.PackedExecution.{PackedExecution}
use Rattle.wf_network.specs.declared.problem.Network.{Network}
use Rattle.wf_box.specs.declared.tracked.Tracked.{Tracked}
use Rattle.wf_box.specs.declared.workspace.Workspace.{Workspace}
use Rattle.wf_box.proofs.ChangeLemmas.{grown_none, grown_then}
use Rattle.wf_network.proofs.Lemmas.{execution_is}

-- nothing was done yet
pub proceeds_none : {A : Type 0} {ks : List Constraint} (points executions : ℕ) (lines : Vec Line A) (w : Workspace) → IsWorking points executions ks lines w → Proceeds points executions ks lines w.tracked lines w None
proceeds_none points executions lines w working = record {
  kept = working.kept;
  long = working.long;
  marks_long = working.marks_long;
  grown = grown_none w.tracked.words.items w.tracked.trail.items;
  ends = (working.room, omega arith);
  known = working.known;
}

-- nothing was done yet but that other answers are kept
pub proceeds_known : {A : Type 0} {ks : List Constraint} (points executions : ℕ) (lines : Vec Line A) (w : Workspace) (memo : SupportCache) → AreKnown ks (answers_in memo) → IsWorking points executions ks lines w
    → Proceeds points executions ks lines w.tracked lines (record { tracked = w.tracked; marks = w.marks; memo = memo }) None
proceeds_known points executions lines w memo known working = record {
  kept = working.kept;
  long = working.long;
  marks_long = working.marks_long;
  grown = grown_none w.tracked.words.items w.tracked.trail.items;
  ends = (working.room, omega arith);
  known = known;
}

ends_then : {A : Type 0} (lines more most : Vec Line A) (w x y : Tracked) (emptied : Option ℕ) → IsPaid lines w more x → Ends more x most y emptied → Ends lines w most y emptied
ends_then lines more most w x y None first then = (then.0, omega (arith, first, then.1))
ends_then lines more most w x y (Some v) first then = then

-- one part, and then another one
pub proceeds_then : {A : Type 0} {ks : List Constraint} (points executions : ℕ) (lines more most : Vec Line A) (w : Tracked) (x y : Workspace) (emptied : Option ℕ) → Proceeds points executions ks lines w more x None → Proceeds points executions ks more x.tracked most y emptied → Proceeds points executions ks lines w most y emptied
proceeds_then points executions lines more most w x y emptied first then = record {
  kept = then.kept;
  long = then.long;
  marks_long = then.marks_long;
  grown = grown_then _ _ _ _ _ _ first.grown then.grown;
  ends = ends_then lines more most w x.tracked y.tracked emptied first.ends.1 then.ends;
  known = then.known;
}

-- other marks, as many
pub proceeds_marked : {A : Type 0} {ks : List Constraint} (points executions : ℕ) (lines more : Vec Line A) (w : Tracked) (x : Workspace) (marks : Marks) (emptied : Option ℕ) → length marks.words.items ≡ length x.marks.words.items → Proceeds points executions ks lines w more x emptied
    → Proceeds points executions ks lines w more (record { tracked = x.tracked; marks = marks; memo = x.memo }) emptied
proceeds_marked points executions lines more w x marks emptied long done = record {
  kept = done.kept;
  long = done.long;
  marks_long = omega (arith, done.marks_long, long);
  grown = done.grown;
  ends = done.ends;
  known = done.known;
}

-- where no point was emptied it can go on
pub still_working : {A : Type 0} {ks : List Constraint} (points executions : ℕ) (lines more : Vec Line A) (w : Tracked) (x : Workspace) → Proceeds points executions ks lines w more x None → IsWorking points executions ks more x
still_working points executions lines more w x done = record {
  kept = done.kept;
  long = done.long;
  marks_long = done.marks_long;
  room = done.ends.0;
  known = done.known;
}

-- whether a point was emptied
pub ends_if : {A : Type 0} (lines more : Vec Line A) (old new : Tracked) (before after : List (List ℕ)) (emptied : Bool) (v : ℕ) → before ≡ old.words.items → after ≡ new.words.items → OnTrue emptied (EndsAt more.items (box_of after) v) → OnFalse emptied (HasRoom more after) → OnFalse emptied (IsSpent lines before more after)
    → Ends lines old more new (point_if emptied v)
ends_if lines more old new before after true v was is ends room spent = subst (λ ws. EndsAt more.items (box_of ws) v) is ends
ends_if lines more old new before after false v was is ends room spent = (
  subst (HasRoom more) is room,
  subst (λ ws. IsSpent lines ws more new.words.items) was (subst (IsSpent lines before more) is spent),
)

-- where one was emptied, it ends so
pub emptied_so : {A : Type 0} (lines more : Vec Line A) (old new : Tracked) (closed : Closed) → Ends lines old more new (emptied_by closed) → IsEmptied more.items (sets_in new) closed
emptied_so lines more old new (Empty v) ends = ends
emptied_so lines more old new (Open n) ends = tt

-- ---- what is found at an execution

-- what is found at its points
pub found_is : (n : Network) (e : ℕ) (x : PackedExecution) (sets words : List (List ℕ)) → e < length (executions_in n) → x ≡ slice_index_or (executions_in n) e x → sets ≡ words → found_in n e sets ≡ found_at x words
found_is n e x sets words low here same = ap (λ (y : PackedExecution). found_at y sets) (execution_is n e x low here) ∙ ap (found_at x) same

-- the same, where what is found has a name
pub found_now : (n : Network) (e : ℕ) (x : PackedExecution) (words found : List (List ℕ)) → e < length (executions_in n) → x ≡ slice_index_or (executions_in n) e x → found ≡ found_in n e words → found ≡ found_at x words
found_now n e x words found low here is = is ∙ found_is n e x words words low here refl

pub supported_now : (n : Network) (e : ℕ) (x : PackedExecution) (words found supported : List (List ℕ)) → e < length (executions_in n) → x ≡ slice_index_or (executions_in n) e x → found ≡ found_in n e words
    → HasSupported supported (rule_in n e).table found → HasSupported supported (rule_of n.rules.items x).table found
supported_now n e x words found supported low here is right =
    subst (λ (y : PackedExecution). HasSupported supported (rule_of n.rules.items y).table found) (execution_is n e x low here) right
