-- Part by part: what is told, and what is still to come.
use Rattle.std.proofs.Common.{◌≡◌, ℕ, ◌<◌, ◌+◌, ◌==◌, ◌&&◌, ◌++◌, List, [], ◌∷◌, drop, map, length, get_or, Bool, true, false, cond, Option, Some, None, append_assoc, refl, sym, ap, ◌∙◌, arith}
use Rattle.std.specs.Option.{is_some}
use Rattle.std.proofs.lemmas.Bool.{eqb-true, and_parts}
use Rattle.wf_complex.proofs.Lemmas.{and_more}
use Rattle.wf_model.specs.Problem.{Problem}
use Rattle.wf_model.specs.Refutation as refutation
use Rattle.wf_model.specs.Refutation.{remove, empty, branch, found}
use Rattle.wf_base.specs.Lines.Lines.{line_of}
use Rattle.wf_base.specs.declared.lines.line.Line.{Line}
use Rattle.wf_report_explain.specs.Words.Text.{NamedExecutions}
use Rattle.wf_report_explain.specs.Argument.Parts.{Part, takes, before_parts, parts_of}
use Rattle.wf_report_explain.specs.Argument.ArgumentState as state
use Rattle.wf_report_explain.specs.Argument.ArgumentState.{Case, after}
use Rattle.wf_report_explain.specs.Words.Subject.{executions_in, problem_in}
use Rattle.wf_report_explain.specs.Argument.Subject.{after_same, and_values, begun_text, now_if, one_if, or_lines, same_values, steps_to_come, to_come}
use Rattle.wf_report_explain.specs.Argument.Text.{case_text, part_steps, part_text, parts_text, steps_made}
use Rattle.wf_report_explain.specs.Argument.Trail.{begun, first_case}
use Rattle.wf_report_explain.specs.declared.argument.state.Case as trail
use Rattle.wf_report_explain.specs.declared.argument.state.ArgumentState.{ArgumentState}
use Rattle.wf_report_explain.specs.declared.words.subject.Subject.{Subject}

-- ---- lines that go together

-- lines that take values from one process in one execution are one part
pub one_run : (e c a : ℕ) (ls : List refutation.Line) → parts_of (remove e c a ∷ ls) ≡ takes e c (a ∷ same_values e c ls) ∷ parts_of (after_same e c ls)
one_run e c a [] = refl
one_run e c a (empty v ∷ ls) = refl
one_run e c a (branch v ∷ ls) = refl
one_run e c a (found ∷ ls) = refl
one_run e c a (remove f d b ∷ ls) = ap (before_parts e c a) (one_run f d b ls) ∙ by (one_run f d b ls) ((e == f) && (c == d)) refl
  where
    by : parts_of (remove f d b ∷ ls) ≡ takes f d (b ∷ same_values f d ls) ∷ parts_of (after_same f d ls) → (t : Bool) → ((e == f) && (c == d)) ≡ t → cond t (takes e c (a ∷ b ∷ same_values f d ls) ∷ parts_of (after_same f d ls)) (takes e c (a ∷ []) ∷ takes f d (b ∷ same_values f d ls) ∷ parts_of (after_same f d ls))
        ≡ takes e c (a ∷ and_values (cond t (Some b) None) (same_values e c ls)) ∷ parts_of (or_lines (cond t (Some b) None) (remove f d b ∷ ls) (after_same e c ls))
    by run true is = let es : e ≡ f = eqb-true e f (and_parts (e == f) (c == d) is).0 in let cs : c ≡ d = eqb-true c d (and_parts (e == f) (c == d) is).1 in
        λ i. takes e c (a ∷ b ∷ same_values (sym es i) (sym cs i) ls) ∷ parts_of (after_same (sym es i) (sym cs i) ls)
    by run false is = ap (λ parts. takes e c (a ∷ []) ∷ parts) (sym run)

-- the first line, and the others
pub first_line : (ls : List Line) (l d : Line) → 0 < length ls → get_or ls 0 d ≡ l → map line_of ls ≡ line_of l ∷ map line_of (drop 1 ls)
first_line [] l d some is = absurd (omega (arith, some))
first_line (x ∷ ls) l d some is = ap (λ x. line_of x ∷ map line_of ls) is

-- ---- what is told of a part

pub told_part : (p : Problem) (es : NamedExecutions) (s : state.ArgumentState) (next : Option state.ArgumentState) (part : Part) (parts later : List Part) (t0 t1 : List ℕ) → parts ≡ part ∷ later → t1 ≡ t0 ++ part_text p es s part → next ≡ after p s part
    → t1 ++ parts_text p es next later ≡ t0 ++ parts_text p es (Some s) parts
told_part p es s next part parts later t0 t1 are told is =
    (λ i. told i ++ parts_text p es (is i) later)
    ∙ append_assoc t0 (part_text p es s part) (parts_text p es (after p s part) later)
    ∙ ap (λ parts. t0 ++ parts_text p es (Some s) parts) (sym are)

-- how many steps a part makes, and those that follow
pub counted_part : (p : Problem) (s : state.ArgumentState) (next : Option state.ArgumentState) (part : Part) (parts later : List Part) (n n' : ℕ) → parts ≡ part ∷ later → n' ≡ n + part_steps p s part → next ≡ after p s part
    → n' + steps_made p next later ≡ n + steps_made p (Some s) parts
counted_part p s next part parts later n n' are more is =
    let after_it : steps_made p next later ≡ steps_made p (after p s part) later = ap (λ next. steps_made p next later) is in
    let whole : steps_made p (Some s) parts ≡ part_steps p s part + steps_made p (after p s part) later = ap (steps_made p (Some s)) are in
    omega (arith, more, after_it, whole)

-- what is to come after one line, if more is to be said
pub after_one : (x : Subject) (ls : List Line) (s : ArgumentState) (b : Bool) → to_come x ls s (one_if b) ≡ parts_text (problem_in x) (executions_in x) (now_if b s) (parts_of (map line_of (drop 1 ls)))
after_one x ls s true = refl
after_one x ls s false = refl

pub steps_after_one : (x : Subject) (ls : List Line) (s : ArgumentState) (b : Bool) → steps_to_come x ls s (one_if b) ≡ steps_made (problem_in x) (now_if b s) (parts_of (map line_of (drop 1 ls)))
steps_after_one x ls s true = refl
steps_after_one x ls s false = refl

-- ---- cases

pub begun_told : (later : List Case) → begun_text (first_case later) ≡ case_text later
begun_told [] = refl
begun_told (x ∷ later) = refl

-- a line, and the case that begins then
pub told_with_case : (t0 t1 t2 line : List ℕ) (case : Option trail.Case) (later : List Case) → t1 ≡ t0 ++ line → t2 ≡ t1 ++ begun_text case → case ≡ first_case later → t2 ≡ t0 ++ (line ++ case_text later)
told_with_case t0 t1 t2 line case later first second is = second ∙ (λ i. first i ++ begun_text (is i)) ∙ append_assoc t0 line (begun_text (first_case later)) ∙ ap (λ xs. t0 ++ (line ++ xs)) (begun_told later)

-- how far it is where a case has begun, or none
pub going_on : (case : Option trail.Case) (s : ArgumentState) (b : Bool) (next : Option state.ArgumentState) → b ≡ is_some case → begun case s ≡ next → now_if b s ≡ next
going_on None s b next is then = ap (λ b. now_if b s) is ∙ then
going_on (Some x) s b next is then = ap (λ b. now_if b s) is ∙ then

-- a line in words, of which two parts are told
pub one_line : (t0 t1 t2 m a b end : List ℕ) → t1 ≡ t0 ++ m → t2 ≡ t1 ++ (a ++ (b ++ end)) → t2 ≡ t0 ++ (m ++ ((a ++ b) ++ end))
one_line t0 t1 t2 m a b end first second = second ∙ ap (λ x. x ++ (a ++ (b ++ end))) first ∙ append_assoc t0 m (a ++ (b ++ end)) ∙ ap (λ xs. t0 ++ (m ++ xs)) (sym (append_assoc a b end))

-- a step in words, piece by piece
pub step_line : (t0 t1 t2 t3 t4 t5 t6 t7 m c e p g r n : List ℕ) → t1 ≡ t0 ++ m → t2 ≡ t1 ++ c → t3 ≡ t2 ++ e → t4 ≡ t3 ++ p → t5 ≡ t4 ++ g → t6 ≡ t5 ++ r → t7 ≡ t6 ++ n
    → t7 ≡ t0 ++ (m ++ ((c ++ (e ++ (p ++ (g ++ r)))) ++ n))
step_line t0 t1 t2 t3 t4 t5 t6 t7 m c e p g r n first second third fourth fifth sixth last =
    let whole = c ++ (e ++ (p ++ (g ++ r))) in
    and_more t0 t1 t7 m (whole ++ n) first
    (last
    ∙ ap (λ x. x ++ n) (and_more t1 t2 t6 c (e ++ (p ++ (g ++ r))) second (and_more t2 t3 t6 e (p ++ (g ++ r)) third (and_more t3 t4 t6 p (g ++ r) fourth (and_more t4 t5 t6 g r fifth sixth))))
    ∙ append_assoc t1 whole n)
