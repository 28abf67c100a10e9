-- A part ends where its report does.
use Rattle.std.proofs.Common.{◌≡◌, ◌≤◌, ◌<◌, ◌+◌, ◌==◌, ◌&&◌, ℕ, suc, Bool, true, false, List, [], ◌∷◌, ◌++◌, flat_map, append_assoc, length, length-append, take, drop, codes, refl, sym, ap, subst, ◌∙◌, arith, if◌then◌else◌, eqb-true}
use Rattle.std.proofs.lemmas.Bool.{and_parts}
use Rattle.std.proofs.Math.Seq.{drop-append_seam, take-append_seam}
use Rattle.std.specs.List.{AllByRecursion}
use Rattle.wf_model.specs.Limits.{most_number, most_value}
use Rattle.wf_model.specs.Refutation.{Line, remove, empty, branch, found}
use Rattle.wf_model.specs.Report.{Report, Body, a_map, none, least, answer_line, body_text, line, line_text, lines_of, onto_first, report_text, same_text, value_line}
use Rattle.wf_model.proofs.Lemmas.{weaker}
use Rattle.wf_report.specs.Grammar.{IsBodyWithin, IsInGrammar, IsLineWithin, IsStepWithin}
use Rattle.wf_report.specs.Reading.{lacks}
use Rattle.wf_report.proofs.Lemmas.{IsLine, is_line}
use Rattle.wf_run_branches.specs.Joining.{ends_here, next_part, part_length}
use Rattle.wf_run_branches.specs.Solving.{part_head}

abbrev end_line : List ℕ
end_line = line (codes "end") []

-- ---- one line

no_mark : (b : ℕ) (text : List ℕ) → (b == 10) ≡ false → ends_here (b ∷ text) ≡ false
no_mark b text other = ap (λ t. t && same_text (take 4 text) end_line) other

-- a text that isn't empty has a line
has_line : (text : List ℕ) → 0 < length text → lines_of text ≡ [] → ⊥
has_line [] some nil = absurd (omega (arith, some))
has_line (b ∷ bs) some nil = by_test (b == 10) nil
  where
    onto_some : (ls : List (List ℕ)) → onto_first b ls ≡ [] → ⊥
    onto_some [] e = absurd (let bad : ⊥ = cc in bad)
    onto_some (l ∷ ls) e = absurd (let bad : ⊥ = cc in bad)

    by_test : (t : Bool) → (if t then (b ∷ []) ∷ lines_of bs else onto_first b (lines_of bs)) ≡ [] → ⊥
    by_test true e = absurd (let bad : ⊥ = cc in bad)
    by_test false e = onto_some (lines_of bs) e

-- the rest of a line
onto_rest : (b : ℕ) (bs : List ℕ) (ls more : List (List ℕ)) → (more ≡ [] → ⊥) → onto_first b ls ≡ (b ∷ bs) ∷ more → ls ≡ bs ∷ more
onto_rest b bs [] more some e = absurd (some (let same : more ≡ [] = cc in same))
onto_rest b bs (l ∷ ls) more some e = cc

-- from within a line on
mid : (l rest : List ℕ) (n : ℕ) → lines_of (l ++ rest) ≡ l ∷ lines_of rest → 0 < length rest → part_length (10 ∷ rest) ≡ suc n → part_length (l ++ rest) ≡ length l + n
mid [] rest n e some h = absurd (let k : length (lines_of rest) ≡ suc (length (lines_of rest)) = ap length e in omega (arith, k))
mid (b ∷ bs) rest n e some h = by_test (b == 10) refl (λ next. mid bs rest n next some h) e
  where
    ended : b ≡ 10 → bs ≡ [] → part_length (b ∷ (bs ++ rest)) ≡ suc (length bs) + n
    ended first nil =
        let whole : part_length (b ∷ (bs ++ rest)) ≡ suc n = (λ i. part_length (first i ∷ (nil i ++ rest))) ∙ h in
        let short : length bs ≡ 0 = ap length nil in
        omega (arith, whole, short)

    by_test : (t : Bool) → (b == 10) ≡ t → (lines_of (bs ++ rest) ≡ bs ∷ lines_of rest → part_length (bs ++ rest) ≡ length bs + n) → (if t then (b ∷ []) ∷ lines_of (bs ++ rest) else onto_first b (lines_of (bs ++ rest))) ≡ (b ∷ bs) ∷ lines_of rest → part_length (b ∷ (bs ++ rest)) ≡ suc (length bs) + n
    by_test true is inner e = ended (eqb-true b 10 is) (let same : bs ≡ [] = cc in same)
    by_test false is inner e =
        let next : lines_of (bs ++ rest) ≡ bs ∷ lines_of rest = onto_rest b bs (lines_of (bs ++ rest)) (lines_of rest) (has_line rest some) e in
        let on : part_length (b ∷ (bs ++ rest)) ≡ suc (part_length (bs ++ rest)) = ap (λ t. if t then 5 else suc (part_length (bs ++ rest))) (no_mark b (bs ++ rest) is) in
        let more : part_length (bs ++ rest) ≡ length bs + n = inner next in
        omega (arith, on, more)

-- what a text begins with
same_front : (w text : List ℕ) → same_text (take (length w) text) w ≡ true → text ≡ w ++ drop (length w) text
same_front [] text h = refl
same_front (x ∷ w) [] h = absurd (let bad : ⊥ = cc in bad)
same_front (x ∷ w) (y ∷ text) h =
    let parts = and_parts (y == x) (same_text (take (length w) text) w) h in
    λ i. eqb-true y x parts.0 i ∷ same_front w text parts.1 i

-- at the beginning of a line that isn't the last
starts : (l rest : List ℕ) (n : ℕ) → lines_of (l ++ rest) ≡ l ∷ lines_of rest → same_text l end_line ≡ false → 0 < length rest → part_length (10 ∷ rest) ≡ suc n → part_length (10 ∷ (l ++ rest)) ≡ suc (length l + n)
starts l rest n e other some h = by_test (ends_here (10 ∷ (l ++ rest))) refl
  where
    never : same_text (take 4 (l ++ rest)) end_line ≡ true → ⊥
    never is =
        let begins : l ++ rest ≡ end_line ++ drop 4 (l ++ rest) = same_front end_line (l ++ rest) is in
        let both : l ∷ lines_of rest ≡ end_line ∷ lines_of (drop 4 (l ++ rest)) = sym e ∙ ap lines_of begins in
        let same : l ≡ end_line = cc in
        let bad : false ≡ true = sym other ∙ ap (λ x. same_text x end_line) same in
        absurd (let no : ⊥ = cc in no)

    by_test : (t : Bool) → ends_here (10 ∷ (l ++ rest)) ≡ t → (if t then 5 else suc (part_length (l ++ rest))) ≡ suc (length l + n)
    by_test true is = absurd (never is)
    by_test false is = ap suc (mid l rest n e some h)

-- ---- lines up to the last

-- a part ends with this text, where it comes behind a line
abbrev pub Closes : List ℕ → Type 0
Closes s = (0 < length s) × ((rest : List ℕ) → part_length (10 ∷ (s ++ rest)) ≡ suc (length s))

closes_last : Closes end_line
closes_last = (omega arith, λ rest. refl)

closes_more : (l s : List ℕ) → IsLine l → same_text l end_line ≡ false → Closes s → Closes (l ++ s)
closes_more l s is other closes = (
  let k = length-append l s in omega (arith, k, closes.0),
  λ rest.
      let long : 0 < length (s ++ rest) = let k = length-append s rest in omega (arith, k, closes.0) in
      let assoc : (l ++ s) ++ rest ≡ l ++ (s ++ rest) = append_assoc l s rest in
      ap (λ text. part_length (10 ∷ text)) assoc ∙ starts l (s ++ rest) (length s) (is (s ++ rest)) other long (closes.1 rest) ∙ ap suc (sym (length-append l s)),
)

-- a line with numbers
closes_line : (name ns s : List ℕ) → lacks 10 name ≡ true → AllByRecursion (λ n. n ≤ most_number) ns → same_text (line name ns) end_line ≡ false → Closes s → Closes (line name ns ++ s)
closes_line name ns s h all other closes = closes_more (line name ns) s (is_line name ns h all) other closes

closes_step : (l : Line) (s : List ℕ) → IsStepWithin l → Closes s → Closes (line_text l ++ s)
closes_step (remove e c a) s h closes =
    let process : c ≤ most_number = omega (arith, h.1) in
    let value : a ≤ most_number = omega (arith, h.2) in
    closes_line (codes "p") (e ∷ c ∷ a ∷ []) s refl (h.0, (process, (value, tt))) refl closes
closes_step (empty v) s h closes = closes_line (codes "z") (v ∷ []) s refl (h, tt) refl closes
closes_step (branch v) s h closes = closes_line (codes "b") (v ∷ []) s refl (h, tt) refl closes
closes_step found s h closes = closes_line (codes "f") [] s refl tt refl closes

closes_steps : (ls : List Line) (s : List ℕ) → AllByRecursion IsStepWithin ls → Closes s → Closes (flat_map line_text ls ++ s)
closes_steps [] s h closes = closes
closes_steps (l ∷ ls) s h closes =
    let assoc : (line_text l ++ flat_map line_text ls) ++ s ≡ line_text l ++ (flat_map line_text ls ++ s) = append_assoc (line_text l) (flat_map line_text ls) s in
    subst Closes (sym assoc) (closes_step l (flat_map line_text ls ++ s) h.0 (closes_steps ls s h.1 closes))

closes_values : (m : List ℕ) (s : List ℕ) → AllByRecursion (λ a. a ≤ most_value) m → Closes s → Closes (flat_map value_line m ++ s)
closes_values [] s h closes = closes
closes_values (a ∷ m) s h closes =
    let assoc : (value_line a ++ flat_map value_line m) ++ s ≡ value_line a ++ (flat_map value_line m ++ s) = append_assoc (value_line a) (flat_map value_line m) s in
    let value : a ≤ most_number = omega (arith, h.0) in
    subst Closes (sym assoc) (closes_line (codes "m") (a ∷ []) (flat_map value_line m ++ s) refl (value, tt) refl (closes_values m s h.1 closes))

pub step_of_line : (l : Line) → IsLineWithin l → IsStepWithin l
step_of_line (remove e c a) h = h
step_of_line (empty v) h = h
step_of_line (branch v) h = h
step_of_line found h = tt

-- ---- a report, and a part

closes_body : (body : Body) (s : List ℕ) → IsBodyWithin body → Closes s → Closes (body_text body ++ s)
closes_body (a_map m) s h closes = closes_values m s h closes
closes_body (none ls) s h closes = closes_steps ls s (weaker IsLineWithin IsStepWithin step_of_line ls h) closes
closes_body (least m ls) s h closes =
    let assoc : (flat_map value_line m ++ flat_map line_text ls) ++ s ≡ flat_map value_line m ++ (flat_map line_text ls ++ s) = append_assoc (flat_map value_line m) (flat_map line_text ls) s in
    subst Closes (sym assoc) (closes_values m (flat_map line_text ls ++ s) h.0 (closes_steps ls s h.1 closes))

closes_answer : (body : Body) (s : List ℕ) → Closes s → Closes (answer_line body ++ s)
closes_answer (a_map m) s closes = closes_line (codes "answer map") [] s refl tt refl closes
closes_answer (none ls) s closes = closes_line (codes "answer none") [] s refl tt refl closes
closes_answer (least m ls) s closes = closes_line (codes "answer least") [] s refl tt refl closes

closes_report : (r : Report) → IsInGrammar r → Closes (report_text r)
closes_report r h =
    let answer = answer_line r.body ++ (body_text r.body ++ end_line) in
    let executions = line (codes "executions") (r.executions ∷ []) ++ answer in
    let points = line (codes "points") (r.points ∷ []) ++ executions in
    let rounds = line (codes "rounds") (r.rounds ∷ []) ++ points in
    let processes = line (codes "processes") (r.processes ∷ []) ++ rounds in
    closes_line (codes "wfcheck report 1") [] processes refl tt refl
    (closes_line (codes "processes") (r.processes ∷ []) rounds refl (h.processes, tt) refl
    (closes_line (codes "rounds") (r.rounds ∷ []) points refl (h.rounds, tt) refl
    (closes_line (codes "points") (r.points ∷ []) executions refl (h.points, tt) refl
    (closes_line (codes "executions") (r.executions ∷ []) answer refl (h.executions, tt) refl
    (closes_answer r.body (body_text r.body ++ end_line) (closes_body r.body end_line h.body closes_last))))))

-- the part at the front of a text is the part with which it begins
pub part_ends : (i n : ℕ) (r : Report) (rest : List ℕ) → i ≤ most_number → n ≤ most_number → IsInGrammar r → part_length ((part_head i n ++ report_text r) ++ rest) ≡ length (part_head i n ++ report_text r)
part_ends i n r rest low few h =
    let first = line (codes "wfcheck part 1") [] in
    let second = line (codes "branch") (i ∷ []) in
    let third = line (codes "branches") (n ∷ []) in
    let behind = second ++ (third ++ report_text r) in
    let closes : Closes behind = closes_line (codes "branch") (i ∷ []) (third ++ report_text r) refl (low, tt) refl (closes_line (codes "branches") (n ∷ []) (report_text r) refl (few, tt) refl (closes_report r h)) in
    let shape : part_head i n ++ report_text r ≡ first ++ behind = append_assoc first (second ++ third) (report_text r) ∙ ap (λ x. first ++ x) (append_assoc second third (report_text r)) in
    let long : 0 < length (behind ++ rest) = let k = length-append behind rest in omega (arith, k, closes.0) in
    let whole : part_length (first ++ (behind ++ rest)) ≡ length first + length behind = mid first (behind ++ rest) (length behind) (is_line (codes "wfcheck part 1") [] refl tt (behind ++ rest)) long (closes.1 rest) in
    ap (λ x. part_length (x ++ rest)) shape ∙ ap part_length (append_assoc first behind rest) ∙ whole ∙ sym (length-append first behind) ∙ ap length (sym shape)

-- so it is cut off there
pub next_is : (i n : ℕ) (r : Report) (rest : List ℕ) → i ≤ most_number → n ≤ most_number → IsInGrammar r → next_part ((part_head i n ++ report_text r) ++ rest) ≡ (part_head i n ++ report_text r, rest)
next_is i n r rest low few h =
    let part = part_head i n ++ report_text r in
    let at : part_length (part ++ rest) ≡ length part = part_ends i n r rest low few h in
    (λ j. (take (at j) (part ++ rest), drop (at j) (part ++ rest))) ∙ (λ j. (take-append_seam part rest j, drop-append_seam part rest j))
