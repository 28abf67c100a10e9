-- What an argument uses: marks, counts, and the words on points.
use Rattle.std.proofs.Common.{◌≡◌, ℕ, zero, suc, ◌+◌, ◌<◌, ◌≤◌, ◌||◌, ◌++◌, List, [], ◌∷◌, drop, map, flat_map, length, get_or, Bool, true, false, cond, Some, codes, append_assoc, refl, sym, ap, ◌∙◌, arith}
use Rattle.std.specs.List.{count_by, enumerate_from, filter, list_any, range_with_len, slice_get}
use Rattle.std.specs.Option.{unwrap_or}
use Rattle.std.proofs.lemmas.List.{drop_all, drop_more, length-map}
use Rattle.std.proofs.lemmas.List.Sums.{sum_by-cons}
use Rattle.wf_model.specs.Lists.{below, has}
use Rattle.wf_model.specs.Problem.{Problem, Constraint, Participant, no_constraint, problem_of}
use Rattle.wf_model.specs.Refutation as refutation
use Rattle.wf_model.specs.Refutation.{remove, empty, branch, found}
use Rattle.wf_model.specs.View.{View}
use Rattle.wf_model.specs.Task.{Task}
use Rattle.wf_model.specs.Points.{points as view_points}
use Rattle.wf_complex.specs.Protocol.{Built, IsProtocol}
use Rattle.wf_report_explain.specs.Words.Text.{named_executions}
use Rattle.wf_report_explain.specs.Argument.ArgumentState.{start}
use Rattle.wf_model.proofs.Lemmas.{or_none}
use Rattle.wf_base.specs.Lines.Lines.{line_of}
use Rattle.wf_base.specs.declared.lines.line.Line.{Line}
use Rattle.wf_report_explain.specs.Argument.Parts.{parts_of}
use Rattle.wf_report_explain.specs.Argument.Text.{argument_text, is_in, names, parts_text, point_text, steps_made, summary_of, summary_text, title_text, used_count, used_points}
use Rattle.wf_report_explain.specs.Argument.Used.{MarksEach, is_named, marked_scopes, marked_text, points_at, title_of, told_if}
use Rattle.wf_complex.proofs.Lemmas.{and_more}
use Rattle.wf_report_explain.proofs.OfArgument.Summaries.{scopes_are_used}

-- one element more
count_more : {X : Type 0} (p : X → Bool) (x : X) (xs : List X) → count_by p (x ∷ xs) ≡ cond (p x) 1 0 + count_by p xs
count_more p x xs = sum_by-cons (λ x. cond (p x) 1 0) x xs

-- ---- marks

pub marks_all : (marks : List Bool) (count : ℕ) (test : ℕ → refutation.Line → Bool) (ls : List Line) (i : ℕ) → length ls ≤ i → length marks ≡ count
    → ((k : ℕ) → k < count → (get_or marks k false || list_any (test k) (map line_of (drop i ls))) ≡ list_any (test k) (map line_of ls)) → MarksEach count marks (λ k. list_any (test k) (map line_of ls))
marks_all marks count test ls i past long each = record {
  long = long;
  each = λ k low. sym (or_none (get_or marks k false)) ∙ ap (λ xs. get_or marks k false || list_any (test k) (map line_of xs)) (sym (drop_all i ls past)) ∙ each k low;
}

counted_from : (marks : List Bool) (a : ℕ) (test : ℕ → Bool) → ((k : ℕ) → k < length marks → get_or marks k false ≡ test (a + k)) → count_by (λ is_marked. is_marked) marks ≡ count_by test (range_with_len a (length marks))
counted_from [] a test each = refl
counted_from (b ∷ marks) a test each =
    let here : b ≡ test a = each 0 (omega arith) ∙ ap test (omega arith) in
    let rest = counted_from marks (a + 1) test (λ k low. each (suc k) (omega (arith, low)) ∙ ap test (omega arith)) in
    count_more (λ is_marked. is_marked) b marks ∙ (λ i. cond (here i) 1 0 + rest i) ∙ sym (count_more test a (range_with_len (a + 1) (length marks)))

-- how many are marked
pub counted_marks : (marks : List Bool) (count : ℕ) (test : ℕ → Bool) → MarksEach count marks test → count_by (λ is_marked. is_marked) marks ≡ count_by test (below count)
counted_marks marks count test h = counted_from marks 0 test (λ k low. h.each k (omega (arith, low, h.long)) ∙ ap test (omega arith)) ∙ ap (λ n. count_by test (below n)) h.long

-- ---- the points

got_inside : {X Y : Type 0} (f : X → Y) (xs : List X) (i : ℕ) (d : X) → get_or (map f xs) i (f d) ≡ f (get_or xs i d)
got_inside f [] i d = refl
got_inside f (x ∷ xs) zero d = refl
got_inside f (x ∷ xs) (suc i) d = got_inside f xs i d

pub named_is : (p : Problem) (scopes : List (List Participant)) (v : ℕ) (l : refutation.Line) → scopes ≡ map (λ k. k.scope) p.constraints → is_named scopes v l ≡ names p v l
named_is p scopes v (remove e c a) are = ap (λ ss. has (points_at ss e) v) are ∙ ap (λ scope. has (map (λ (at : ℕ × ℕ). at.1) scope) v) (got_inside (λ (k : Constraint). k.scope) p.constraints e no_constraint)
named_is p scopes v (empty w) are = refl
named_is p scopes v (branch w) are = refl
named_is p scopes v found are = refl

any_named : (p : Problem) (scopes : List (List Participant)) (v : ℕ) (ls : List refutation.Line) → scopes ≡ map (λ k. k.scope) p.constraints → list_any (is_named scopes v) ls ≡ list_any (names p v) ls
any_named p scopes v [] are = refl
any_named p scopes v (l ∷ ls) are = λ i. named_is p scopes v l are i || any_named p scopes v ls are i

marked_from : (ranks : Bool) (marks : List Bool) (n : ℕ) (views : List View) (test : ℕ → Bool) → ((k : ℕ) → k < length views → get_or marks (n + k) false ≡ test (n + k)) → marked_text ranks marks n views ≡ flat_map (point_text ranks) (filter (λ at. test at.0) (enumerate_from n views))
marked_from ranks marks n [] test each = refl
marked_from ranks marks n (v ∷ views) test each =
    let zero_more : n ≡ n + 0 = omega arith in
    let here : get_or marks n false ≡ test n = ap (λ k. get_or marks k false) zero_more ∙ each 0 (omega arith) ∙ ap test (sym zero_more) in
    by (get_or marks n false) (test n) here
    (marked_from ranks marks (n + 1) views test (λ k low. let more : n + 1 + k ≡ n + suc k = omega arith in ap (λ k. get_or marks k false) more ∙ each (suc k) (omega (arith, low)) ∙ ap test (sym more)))
  where
    by : (a b : Bool) → a ≡ b → marked_text ranks marks (n + 1) views ≡ flat_map (point_text ranks) (filter (λ at. test at.0) (enumerate_from (n + 1) views))
        → flat_map (point_text ranks) (cond a ((n, v) ∷ filter (λ at. get_or marks at.0 false) (enumerate_from (n + 1) views)) (filter (λ at. get_or marks at.0 false) (enumerate_from (n + 1) views)))
        ≡ flat_map (point_text ranks) (cond b ((n, v) ∷ filter (λ at. test at.0) (enumerate_from (n + 1) views)) (filter (λ at. test at.0) (enumerate_from (n + 1) views)))
    by true true e rest = ap (λ xs. point_text ranks (n, v) ++ xs) rest
    by true false e rest = absurd (let bad : ⊥ = cc in bad)
    by false true e rest = absurd (let bad : ⊥ = cc in bad)
    by false false e rest = rest

-- the points that lines name
pub marked_named : (ranks : Bool) (p : Problem) (scopes : List (List Participant)) (marks : List Bool) (views : List View) (ls : List refutation.Line) → scopes ≡ map (λ k. k.scope) p.constraints → MarksEach (length views) marks (λ v. list_any (is_named scopes v) ls)
    → marked_text ranks marks 0 views ≡ flat_map (point_text ranks) (filter (λ at. list_any (names p at.0) ls) (enumerate_from 0 views))
marked_named ranks p scopes marks views ls are h =
    marked_from ranks marks 0 views (λ v. list_any (names p v) ls) (λ k low. ap (λ k. get_or marks k false) (omega arith) ∙ h.each k low ∙ any_named p scopes k ls are ∙ ap (λ v. list_any (names p v) ls) (omega arith))

-- one point more
pub one_point : (ranks : Bool) (marks : List Bool) (views : List View) (n : ℕ) (b : Bool) (d : View) (t t' whole : List ℕ) → n < length views → get_or marks n false ≡ b → t' ≡ t ++ told_if b (point_text ranks (n, get_or views n d))
    → t ++ marked_text ranks marks n (drop n views) ≡ whole → t' ++ marked_text ranks marks (n + 1) (drop (n + 1) views) ≡ whole
one_point ranks marks views n b d t t' whole inside is more told =
    let here = point_text ranks (n, get_or views n d) in
    let later = marked_text ranks marks (n + 1) (drop (n + 1) views) in
    ap (λ x. x ++ later) more ∙ append_assoc t (told_if b here) later ∙ ap (λ xs. t ++ xs) (by (n, get_or views n d) (enumerate_from (n + 1) (drop (n + 1) views)) b is) ∙ ap (λ vs. t ++ marked_text ranks marks n vs) (sym (drop_more views n d inside)) ∙ told
  where
    by : (at : ℕ × View) (ats : List (ℕ × View)) (b : Bool) → get_or marks n false ≡ b → told_if b (point_text ranks at) ++ flat_map (point_text ranks) (filter (λ at. get_or marks at.0 false) ats)
        ≡ flat_map (point_text ranks) (cond (get_or marks n false) (at ∷ filter (λ at. get_or marks at.0 false) ats) (filter (λ at. get_or marks at.0 false) ats))
    by at ats true is = sym (ap (λ b. flat_map (point_text ranks) (cond b (at ∷ filter (λ at. get_or marks at.0 false) ats) (filter (λ at. get_or marks at.0 false) ats))) is)
    by at ats false is = sym (ap (λ b. flat_map (point_text ranks) (cond b (at ∷ filter (λ at. get_or marks at.0 false) ats) (filter (λ at. get_or marks at.0 false) ats))) is)

got_by : {X : Type 0} (xs : List X) (n : ℕ) (d : X) → get_or xs n d ≡ unwrap_or (slice_get xs n) d
got_by [] n d = refl
got_by (x ∷ xs) zero d = refl
got_by (x ∷ xs) (suc n) d = got_by xs n d

-- one view in two lists
pub same_got : {X : Type 0} (xs ys : List X) (n m : ℕ) (d : X) → slice_get xs n ≡ slice_get ys m → get_or xs n d ≡ get_or ys m d
same_got xs ys n m d is = got_by xs n d ∙ ap (λ o. unwrap_or o d) is ∙ sym (got_by ys m d)

pub point_line : (t0 t1 t2 t3 v view : List ℕ) → t1 ≡ t0 ++ (codes "  v" ++ (v ++ codes " is ")) → t2 ≡ t1 ++ view → t3 ≡ t2 ++ codes "\n"
    → t3 ≡ t0 ++ (codes "  " ++ (((codes "v" ++ v) ++ (codes " is " ++ view)) ++ codes "\n"))
point_line t0 t1 t2 t3 v view first second third =
    third
    ∙ ap (λ x. x ++ codes "\n") (second ∙ ap (λ x. x ++ view) first ∙ append_assoc t0 (codes "  v" ++ (v ++ codes " is ")) view ∙ ap (λ y. t0 ++ (codes "  v" ++ y)) (append_assoc v (codes " is ") view))
    ∙ append_assoc t0 (codes "  v" ++ (v ++ (codes " is " ++ view))) (codes "\n")

-- ---- the whole

-- what is found of the lines
pub record IsUsed (t : Task) (b : Built) (ls : List refutation.Line) (executions points : List Bool) (steps used count : ℕ) : Type 0 where
  pub steps_are : steps ≡ steps_made (problem_of t b.rounds) (Some (start (problem_of t b.rounds))) (parts_of ls)
  pub used_are : used ≡ count_by (λ is_marked. is_marked) executions
  pub count_is : count ≡ length b.scopes
  pub executions_are : MarksEach (length b.scopes) executions (λ e. list_any (is_in e) ls)
  pub points_are : MarksEach (length b.points) points (λ v. list_any (is_named b.scopes v) ls)

used_is : (t : Task) (b : Built) (ls : List refutation.Line) (marks points : List Bool) (steps used count : ℕ) → IsProtocol t b.rounds b → IsUsed t b ls marks points steps used count → used ≡ used_count (problem_of t b.rounds) ls
used_is t b ls marks points steps used count built h =
    let p = problem_of t b.rounds in
    let many : length b.scopes ≡ length p.constraints = ap length built.scopes_are ∙ length-map p.constraints (λ k. k.scope) in
    h.used_are ∙ counted_marks marks (length b.scopes) (λ e. list_any (is_in e) ls) h.executions_are ∙ ap (λ n. count_by (λ e. list_any (is_in e) ls) (below n)) many

title_is : (t : Task) (b : Built) (ls : List refutation.Line) (marks points : List Bool) (steps used count : ℕ) → IsProtocol t b.rounds b → IsUsed t b ls marks points steps used count → title_of b.rounds steps used count ≡ title_text (problem_of t b.rounds) b.rounds ls
title_is t b ls marks points steps used count built h =
    let many : length b.scopes ≡ length (problem_of t b.rounds).constraints = ap length built.scopes_are ∙ length-map (problem_of t b.rounds).constraints (λ k. k.scope) in
    λ i. title_of b.rounds (h.steps_are i) (used_is t b ls marks points steps used count built h i) ((h.count_is ∙ many) i)

summary_is : (t : Task) (b : Built) (ls : List refutation.Line) (marks points : List Bool) (steps used count : ℕ) → IsProtocol t b.rounds b → IsUsed t b ls marks points steps used count
    → summary_of t.symmetric steps used (marked_scopes marks b.scopes) ≡ summary_text t.symmetric (problem_of t b.rounds) ls
summary_is t b ls marks points steps used count built h =
    λ i. summary_of t.symmetric (h.steps_are i) (used_is t b ls marks points steps used count built h i) (scopes_are_used (problem_of t b.rounds) b.scopes marks ls built.scopes_are h.executions_are i)

points_told : (t : Task) (b : Built) (ls : List refutation.Line) (marks points : List Bool) (steps used count : ℕ) → IsProtocol t b.rounds b → IsUsed t b ls marks points steps used count
    → marked_text t.symmetric points 0 b.points ≡ flat_map (point_text t.symmetric) (used_points (problem_of t b.rounds) ls (view_points t b.rounds))
points_told t b ls marks points steps used count built h =
    marked_named t.symmetric (problem_of t b.rounds) b.scopes points b.points ls built.scopes_are h.points_are
    ∙ ap (λ views. flat_map (point_text t.symmetric) (used_points (problem_of t b.rounds) ls views)) built.points_are

-- the title, the points, the parts and the summary
pub whole : (t : Task) (b : Built) (ls : List refutation.Line) (marks points : List Bool) (steps used count : ℕ) (parts t0 t1 t2 t3 t4 t5 t6 text : List ℕ) → IsProtocol t b.rounds b → IsUsed t b ls marks points steps used count
    → t0 ≡ [] → t1 ≡ t0 ++ title_of b.rounds steps used count → t2 ≡ t1 ++ codes "Points\n" → t3 ≡ t2 ++ marked_text t.symmetric points 0 b.points → t4 ≡ t3 ++ codes "Argument\n"
    → parts ≡ [] ++ parts_text (problem_of t b.rounds) (named_executions t b.rounds) (Some (start (problem_of t b.rounds))) (parts_of ls) → t5 ≡ t4 ++ parts
    → t6 ≡ t5 ++ summary_of t.symmetric steps used (marked_scopes marks b.scopes) → text ≡ t6 → text ≡ argument_text t b.rounds ls
whole t b ls marks points steps used count parts t0 t1 t2 t3 t4 t5 t6 text built h none first second third fourth told fifth sixth is =
    let title = title_of b.rounds steps used count in
    let points_text = marked_text t.symmetric points 0 b.points in
    let rest = parts_text (problem_of t b.rounds) (named_executions t b.rounds) (Some (start (problem_of t b.rounds))) (parts_of ls) in
    let summary = summary_of t.symmetric steps used (marked_scopes marks b.scopes) in
    is
    ∙ and_more t0 t1 t6 title (codes "Points\n" ++ (points_text ++ (codes "Argument\n" ++ (rest ++ summary)))) first
    (and_more t1 t2 t6 (codes "Points\n") (points_text ++ (codes "Argument\n" ++ (rest ++ summary))) second
    (and_more t2 t3 t6 points_text (codes "Argument\n" ++ (rest ++ summary)) third
    (and_more t3 t4 t6 (codes "Argument\n") (rest ++ summary) fourth
    (and_more t4 t5 t6 rest summary (fifth ∙ ap (λ xs. t4 ++ xs) told) sixth))))
    ∙ (λ i. none i ++ (title_is t b ls marks points steps used count built h i ++ (codes "Points\n" ++ (points_told t b ls marks points steps used count built h i ++ (codes "Argument\n" ++ (rest ++ summary_is t b ls marks points steps used count built h i))))))
