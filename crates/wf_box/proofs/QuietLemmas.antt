-- Executions without a mark.
use Rattle.std.proofs.Common.{◌≡◌, ◌≢◌, ℕ, zero, suc, ◌+◌, ◌-◌, ◌<◌, ◌≤◌, ◌/◌, ◌%◌, Bool, true, false, not, List, [], ◌∷◌, ◌++◌, map, zip, filter, flat_map, length, get_or, slice_index, drop, Option, Some, None, All, refl, sym, ap, ◌∙◌, subst, arith, inl, inr, ⊎_elim, length-append, length-drop, length-set, length-take}
use Rattle.std.specs.Bool.{OnTrue}
use Rattle.std.specs.List.{enumerate_from}
use Rattle.std.proofs.lemmas.Bool.{cases_eq, cases_lt, false≢true}
use Rattle.std.proofs.lemmas.List.{at_drop_more, drop_all, get_or-drop, get_or-set_other, get_or-map, get_or-take, length-map, nil_from_length}
use Rattle.std.proofs.lemmas.Nat.Bits.{bit_at-lt, bit_at-zero}
use Rattle.wf_box.specs.Changes.{taken_back, words_after}
use Rattle.wf_box.specs.declared.tracked.Change.{Change}
use Rattle.wf_model.specs.Problem.{Constraint, no_constraint}
use Rattle.wf_model.specs.Box.{Box, candidates, first_empty, is_supported, sets_of}
use Rattle.wf_model.specs.Closing.{Step, Loss, and_then, lost, lost_at, places, same_candidate, sweep_from, take_out_each, taken_out}
use Rattle.wf_model.specs.Lists.{distinct}
use Rattle.wf_base.specs.Set.Sets.{box_of, values_in}
use Rattle.wf_network.specs.Marks.{bit_of, IsMore, IsNext, MarksEach}
use Rattle.wf_network.specs.Problems.{IsWithin, constraint_seen}
use Rattle.wf_box.specs.Quiet.{IsQuiet, IsQuietBut, IsUntouched, IsUntouchedBut}
use Rattle.wf_network.specs.Users.{AreTold, HasBit, IsUser, no_execution, no_word, users_of}
use Rattle.wf_network.specs.declared.users.MarkMask.{MarkMask}
use Rattle.wf_box.specs.Steps.{reached}
use Rattle.wf_network.specs.declared.problem.Rule.{Rule}
use Rattle.wf_complex.specs.declared.packed.PackedExecution.{PackedExecution}
use Rattle.wf_network.specs.declared.users.Users.{Users}
use Rattle.wf_base.specs.Lines.Lines.{line_of}
use Rattle.wf_base.specs.declared.lines.line.Line.{Line}
use Rattle.wf_box.proofs.StepLemmas.{then_keeps, then_then}
use Rattle.std.specs.Prelude.{◌==◌}
use Rattle.std.proofs.lemmas.List.Elements.{All-from_recursion}
use Rattle.wf_model.proofs.Lemmas.{position_none, sweep_nothing}
use Rattle.wf_box.proofs.CloseLemmas.{empty_there, point_there}
use Rattle.wf_base.proofs.OfSet.Lemmas.{set_at}

-- a word with an execution is there
word_there : (ws : List MarkMask) (k e : ℕ) → HasBit (get_or ws k no_word) e → k < length ws
word_there [] k e has = absurd (let bad : ⊥ = omega (arith, has.1, bit_at-zero (e % 32)) in bad)
word_there (w ∷ ws) zero e has = omega arith
word_there (w ∷ ws) (suc k) e has = omega (arith, word_there ws k e has)

-- the executions of a point are marked
pub user_marked : (u : Users) (v e : ℕ) (ws : List MarkMask) (marks : List ℕ) → ws ≡ users_of u v → MarksEach marks ws → IsUser u v e → bit_of marks e ≡ 1
user_marked u v e ws marks is marked user =
    let from = slice_index u.starts.items v in
    let to = slice_index u.starts.items (v + 1) in
    let all = u.words.items in
    let k = user.0 in
    let back : from + (k - from) ≡ k = omega (arith, user.1) in
    let low : k - from < to - from = omega (arith, user.1, user.2) in
    let at : get_or ws (k - from) no_word ≡ get_or all k no_word = ap (λ xs. get_or xs (k - from) no_word) is ∙ get_or-take (to - from) (drop from all) (k - from) no_word low ∙ get_or-drop from all (k - from) no_word ∙ ap (λ n. get_or all n no_word) back in
    marked (k - from) (omega (arith, ap length is, length-take (to - from) (drop from all), length-drop from all, user.1, low, word_there all k e user.3)) e (subst (λ w. HasBit w e) (sym at) user.3)

pub marked_user : (u : Users) (v e : ℕ) (ws : List MarkMask) (marks : List ℕ) → ws ≡ users_of u v → MarksEach marks ws → bit_of marks e ≡ 0 → IsUser u v e → ⊥
marked_user u v e ws marks is marked none user = omega (arith, none, user_marked u v e ws marks is marked user)

-- ---- what is lost hangs on the candidates of the execution's points alone

same_at : (b c : Box) (ps vs : List ℕ) → ((i : ℕ) → i < length vs → candidates b (get_or vs i 0) ≡ candidates c (get_or vs i 0)) → map (λ (at : ℕ × ℕ). candidates b at.1) (zip ps vs) ≡ map (λ (at : ℕ × ℕ). candidates c at.1) (zip ps vs)
same_at b c [] vs same = refl
same_at b c (p ∷ ps) [] same = refl
same_at b c (p ∷ ps) (v ∷ vs) same = λ i. same 0 (omega arith) i ∷ same_at b c ps vs (λ k low. same (suc k) (omega (arith, low))) i

lost_one : (b c : Box) (k : Constraint) (at : ℕ × ℕ × ℕ) → sets_of b k ≡ sets_of c k → candidates b at.2 ≡ candidates c at.2 → lost_at b k at ≡ lost_at c k at
lost_one b c k at sets here = λ i. map (λ a. record { process = at.1; value = a; point = at.2 }) (filter (λ a. not (is_supported k.tuples (sets i) at.0 a)) (here i))

lost_from : (b c : Box) (k : Constraint) (n : ℕ) (ps vs : List ℕ) → sets_of b k ≡ sets_of c k → ((i : ℕ) → i < length vs → candidates b (get_or vs i 0) ≡ candidates c (get_or vs i 0))
    → flat_map (lost_at b k) (map {A = ℕ × (ℕ × ℕ)} {B = ℕ × ℕ × ℕ} (λ at. (at.0, at.1.0, at.1.1)) (enumerate_from n (zip ps vs))) ≡ flat_map (lost_at c k) (map {A = ℕ × (ℕ × ℕ)} {B = ℕ × ℕ × ℕ} (λ at. (at.0, at.1.0, at.1.1)) (enumerate_from n (zip ps vs)))
lost_from b c k n [] vs sets same = refl
lost_from b c k n (p ∷ ps) [] sets same = refl
lost_from b c k n (p ∷ ps) (v ∷ vs) sets same =
    λ i. lost_one b c k (n, p, v) sets (same 0 (omega arith)) i ++ lost_from b c k (n + 1) ps vs sets (λ j low. same (suc j) (omega (arith, low))) i

pub lost_same : (b c : Box) (k : Constraint) (ps vs : List ℕ) → k.scope ≡ zip ps vs → ((i : ℕ) → i < length vs → candidates b (get_or vs i 0) ≡ candidates c (get_or vs i 0)) → lost b k ≡ lost c k
lost_same b c k ps vs scope same =
    let sets : sets_of b k ≡ sets_of c k = ap (map (λ (at : ℕ × ℕ). candidates b at.1)) scope ∙ same_at b c ps vs same ∙ sym (ap (map (λ (at : ℕ × ℕ). candidates c at.1)) scope) in
    ap (distinct same_candidate) (ap (λ sc. flat_map (lost_at b k) (places sc)) scope ∙ lost_from b c k 0 ps vs sets same ∙ sym (ap (λ sc. flat_map (lost_at c k) (places sc)) scope))

-- ---- a step without a line

lines_some : (e : ℕ) (x : Loss) (box : Box) (set : List ℕ) (next : Box → Step) → (and_then (taken_out e x box set) next).lines ≡ [] → ⊥
lines_some e x box [] next none = cc
lines_some e x box (a ∷ set) next none = cc

pub none_lost : (e : ℕ) (xs : List Loss) (box : Box) → (take_out_each e xs box).lines ≡ [] → xs ≡ []
none_lost e [] box none = refl
none_lost e (x ∷ xs) box none = absurd (lines_some e x _ _ (take_out_each e xs) none)

-- ---- executions without a mark are passed over

pass_over : (n m : ℕ) (ks : List Constraint) (box : Box) → n + m ≤ length ks → ((e : ℕ) → n ≤ e → e < n + m → lost box (get_or ks e no_constraint) ≡ []) → sweep_from n (drop n ks) box ≡ sweep_from (n + m) (drop (n + m) ks) box
pass_over n zero ks box low quiet = let z : n ≡ n + 0 = omega arith in ap (λ e. sweep_from e (drop e ks) box) z
pass_over n (suc m) ks box low quiet =
    let z : suc n ≡ n + 1 = omega arith in
    let y : n + 1 + m ≡ n + suc m = omega arith in
    at_drop_more (λ xs. sweep_from n xs box) ks n no_constraint (omega (arith, low))
    ∙ ap (λ xs. and_then (take_out_each n xs box) (sweep_from (suc n) (drop (n + 1) ks))) (quiet n (omega arith) (omega arith))
    ∙ ap (λ e. sweep_from e (drop (n + 1) ks) box) z
    ∙ pass_over (n + 1) m ks box (omega (arith, low)) (λ e after before. quiet e (omega (arith, after)) (omega (arith, before)))
    ∙ ap (λ e. sweep_from e (drop e ks) box) y

-- those before the next one that is marked
pass_to : (ks : List Constraint) (marks : List ℕ) (next number : ℕ) (box : Box) → IsQuiet ks marks box → next ≤ number → number ≤ length ks → ((e : ℕ) → next ≤ e → e < number → bit_of marks e ≡ 0) → sweep_from next (drop next ks) box ≡ sweep_from number (drop number ks) box
pass_to ks marks next number box quiet after low none =
    let z : next + (number - next) ≡ number = omega (arith, after) in
    pass_over next (number - next) ks box (omega (arith, after, low)) (λ e later early. quiet e (omega (arith, early, after, low)) (none e later (omega (arith, early, after))))
    ∙ ap (λ e. sweep_from e (drop e ks) box) z

-- all that are left
pub pass_all : (ks : List Constraint) (lines : List Line) (words : List (List ℕ)) (marks : List ℕ) (next : ℕ) (all : Step) → IsQuiet ks marks (box_of words) → next ≤ length ks → ((e : ℕ) → next ≤ e → e < length ks → bit_of marks e ≡ 0)
    → and_then (reached lines None words) (sweep_from next (drop next ks)) ≡ all → reached lines None words ≡ all
pass_all ks lines words marks next all quiet low none is =
    sym (then_keeps (reached lines None words))
    ∙ ap (λ t. and_then (reached lines None words) (λ _. t)) (sym (pass_to ks marks next (length ks) (box_of words) quiet low (omega arith) none ∙ ap (λ xs. sweep_from (length ks) xs (box_of words)) (drop_all (length ks) ks (omega arith))))
    ∙ is

-- the next one that is marked is revised
pub next_turn : (rules : List Rule) (es : List PackedExecution) (lines more : List Line) (words fewer : List (List ℕ)) (marks : List ℕ) (o : Option ℕ) (next number : ℕ) (all : Step) → IsQuiet (map (constraint_seen rules) es) marks (box_of words) → IsNext marks next number → number < length es
    → reached more o fewer ≡ and_then (reached lines None words) (λ box. take_out_each number (lost box (constraint_seen rules (get_or es number no_execution))) box)
    → and_then (reached lines None words) (sweep_from next (drop next (map (constraint_seen rules) es))) ≡ all
    → and_then (reached more o fewer) (sweep_from (number + 1) (drop (number + 1) (map (constraint_seen rules) es))) ≡ all
next_turn rules es lines more words fewer marks o next number all quiet is_next low step is =
    let ks = map (constraint_seen rules) es in
    let inside : number < length ks = omega (arith, low, length-map es (constraint_seen rules)) in
    let s = reached lines None words in
    let rest = sweep_from (number + 1) (drop (number + 1) ks) in
    let x = get_or es number no_execution in
    let z : suc number ≡ number + 1 = omega arith in
    let turn : sweep_from next (drop next ks) (box_of words) ≡ and_then (take_out_each number (lost (box_of words) (constraint_seen rules x)) (box_of words)) rest =
    pass_to ks marks next number (box_of words) quiet is_next.after (omega (arith, inside)) is_next.first
    ∙ at_drop_more (λ xs. sweep_from number xs (box_of words)) ks number no_constraint inside
    ∙ ap (λ k. and_then (take_out_each number (lost (box_of words) k) (box_of words)) (sweep_from (suc number) (drop (number + 1) ks))) (get_or-map (constraint_seen rules) es number no_execution no_constraint low)
    ∙ ap (λ e. and_then (take_out_each number (lost (box_of words) (constraint_seen rules x)) (box_of words)) (sweep_from e (drop (number + 1) ks))) z in
    ap (λ t. and_then t rest) step
    ∙ then_then s (λ box. take_out_each number (lost box (constraint_seen rules x)) box) rest
    ∙ ap (λ t. and_then s (λ _. t)) (sym turn)
    ∙ is

-- without a change nothing was lost
pub nothing_lost : (k : Constraint) (lines more : List Line) (words fewer : List (List ℕ)) (number : ℕ) → fewer ≡ words → length more ≤ length lines → reached more None fewer ≡ and_then (reached lines None words) (λ box. take_out_each number (lost box k) box) → lost (box_of fewer) k ≡ []
nothing_lost k lines more words fewer number same short step =
    let added = ap (λ (s : Step). s.lines) step in
    let none : (take_out_each number (lost (box_of words) k) (box_of words)).lines ≡ [] =
    nil_from_length _ (omega (arith, short, ap length added, length-map more line_of, length-map lines line_of, length-append (map line_of lines) (take_out_each number (lost (box_of words) k) (box_of words)).lines)) in
    ap (λ ws. lost (box_of ws) k) same ∙ none_lost number (lost (box_of words) k) (box_of words) none

-- ---- what a change of some sets leaves untouched

pub untouched_none : (u : Users) (words : List (List ℕ)) (marks : List ℕ) → IsUntouched u words marks words marks
untouched_none u words marks e none = (none, λ v user. refl)

pub untouched_then : (u : Users) (words : List (List ℕ)) (marks : List ℕ) (fewer : List (List ℕ)) (more : List ℕ) (least : List (List ℕ)) (most : List ℕ) → IsUntouched u words marks fewer more → IsUntouched u fewer more least most → IsUntouched u words marks least most
untouched_then u words marks fewer more least most first then e none =
    let later = then e none in
    let earlier = first e later.0 in
    (earlier.0, λ v user. later.1 v user ∙ earlier.1 v user)

-- an execution whose points kept their sets has lost what it had
pub lost_kept : (rules : List Rule) (x : PackedExecution) (words fewer : List (List ℕ)) → All (λ v. v < length words) x.points → length fewer ≡ length words → ((place : ℕ) → place < length x.points → get_or fewer (slice_index x.points place) [] ≡ get_or words (slice_index x.points place) [])
    → lost (box_of fewer) (constraint_seen rules x) ≡ lost (box_of words) (constraint_seen rules x)
lost_kept rules x words fewer within long same =
    lost_same (box_of fewer) (box_of words) (constraint_seen rules x) _ x.points refl
    (λ i low. let inside = within i 0 low in set_at fewer (get_or x.points i 0) (omega (arith, inside, long)) ∙ ap values_in (same i low) ∙ sym (set_at words (get_or x.points i 0) inside))

-- so after it was revised each one without a mark is quiet again
pub quiet_again : (rules : List Rule) (es : List PackedExecution) (u : Users) (number : ℕ) (words : List (List ℕ)) (marks : List ℕ) (fewer : List (List ℕ)) (more : List ℕ) → All (IsWithin (length rules) (length words)) es → AreTold u es → length fewer ≡ length words
    → IsQuietBut number (map (constraint_seen rules) es) marks (box_of words) → IsUntouchedBut number u words marks fewer more → (bit_of more number ≡ 0 → lost (box_of fewer) (constraint_seen rules (get_or es number no_execution)) ≡ [])
    → IsQuiet (map (constraint_seen rules) es) more (box_of fewer)
quiet_again rules es u number words marks fewer more within told long quiet untouched here e low none =
    let low' : e < length es = omega (arith, low, length-map es (constraint_seen rules)) in
    let x = get_or es e no_execution in
    let seen : get_or (map (constraint_seen rules) es) e no_constraint ≡ constraint_seen rules x = get_or-map (constraint_seen rules) es e no_execution no_constraint low' in
    let inside : IsWithin (length rules) (length words) x = within e no_execution low' in
    ap (lost (box_of fewer)) seen
    ∙ elim (cases_eq e number) [
      | inl same ↦ ap (λ n. lost (box_of fewer) (constraint_seen rules (get_or es n no_execution))) same ∙ here (ap (bit_of more) (sym same) ∙ none)
      | inr other ↦
          lost_kept rules x words fewer inside.points_within long (λ place small. (untouched e other none).1 (slice_index x.points place) (told e place low' (omega (arith, small, inside.long))))
          ∙ ap (lost (box_of words)) (sym seen)
          ∙ quiet e other low (untouched e other none).0
    ]

-- ---- the executions of the points that changed

pub stays_marked : (marks more : List ℕ) (e : ℕ) → IsMore marks more → bit_of marks e ≡ 1 → bit_of more e ≡ 1
stays_marked marks more e kept there =
    ⊎_elim (λ (low : bit_of more e < 1). absurd (let none : ⊥ = omega (arith, there, kept e (let z : bit_of more e ≡ 0 = omega (arith, low) in z)) in none)) (λ (high : 1 ≤ bit_of more e). omega (arith, high, bit_at-lt (slice_index more (e / 64)) (e % 64))) (cases_lt (bit_of more e) 1)

kept_back : (cs : List Change) (words : List (List ℕ)) (v : ℕ) → ((k : ℕ) (d : Change) → k < length cs → (get_or cs k d).point ≢ v) → get_or (taken_back cs words) v [] ≡ get_or words v []
kept_back [] words v other = refl
kept_back (c ∷ cs) words v other = get_or-set_other (taken_back cs words) c.point v c.before [] (λ e. other 0 c (omega arith) (sym e)) ∙ kept_back cs words v (λ k d low. other (suc k) d (omega (arith, low)))

dropped_at : (n k : ℕ) (cs : List Change) (d : Change) → get_or (drop n cs) k d ≡ get_or cs (n + k) d
dropped_at zero k cs d = let z : k ≡ 0 + k = omega arith in ap (λ i. get_or cs i d) z
dropped_at (suc n) k [] d = refl
dropped_at (suc n) k (c ∷ cs) d = let z : suc n + k ≡ suc (n + k) = omega arith in dropped_at n k cs d ∙ sym (ap (λ i. get_or (c ∷ cs) i d) z)

dropped_length : (n : ℕ) (cs : List Change) → n ≤ length cs → n + length (drop n cs) ≡ length cs
dropped_length zero cs low = omega arith
dropped_length (suc n) [] low = absurd (let none : ⊥ = omega (arith, low) in none)
dropped_length (suc n) (c ∷ cs) low = omega (arith, dropped_length n cs (omega (arith, low)))

-- a point that did not change past so many changes has the set that it had then
pub unchanged : (n : ℕ) (trail : List Change) (words : List (List ℕ)) (v : ℕ) → n ≤ length trail → ((k : ℕ) (d : Change) → n ≤ k → k < length trail → (get_or trail k d).point ≢ v) → get_or (words_after n trail words) v [] ≡ get_or words v []
unchanged n trail words v low other =
    kept_back (drop n trail) words v (λ k d inside e. other (n + k) d (omega arith) (omega (arith, inside, dropped_length n trail low)) (ap (λ (c : Change). c.point) (sym (dropped_at n k trail d)) ∙ e))

pub on_true : (b : Bool) (P Q : Type 0) → (P → Q) → OnTrue b P → OnTrue b Q
on_true true P Q f h = f h
on_true false P Q f h = tt

-- ---- what was closed and has kept the sets of an execution's points has lost nothing there

pub length_back : (cs : List Change) (words : List (List ℕ)) → length (taken_back cs words) ≡ length words
length_back [] words = refl
length_back (c ∷ cs) words = length-set (taken_back cs words) c.point c.before ∙ length_back cs words

pub quiet_closed : (rules : List Rule) (es : List PackedExecution) (u : Users) (words after : List (List ℕ)) (marks : List ℕ) → length after ≡ length words → (sweep_from 0 (map (constraint_seen rules) es) (box_of after)).lines ≡ [] → All (IsWithin (length rules) (length words)) es → AreTold u es
    → ((e : ℕ) → bit_of marks e ≡ 0 → (v : ℕ) → IsUser u v e → get_or after v [] ≡ get_or words v []) → IsQuiet (map (constraint_seen rules) es) marks (box_of words)
quiet_closed rules es u words after marks long closed within told untouched e low none =
    let low' : e < length es = omega (arith, low, length-map es (constraint_seen rules)) in
    let x = get_or es e no_execution in
    let seen : get_or (map (constraint_seen rules) es) e no_constraint ≡ constraint_seen rules x = get_or-map (constraint_seen rules) es e no_execution no_constraint low' in
    let inside : IsWithin (length rules) (length words) x = within e no_execution low' in
    let all : All (λ k. lost (box_of after) k ≡ []) (map (constraint_seen rules) es) = All-from_recursion (λ k. lost (box_of after) k ≡ []) (map (constraint_seen rules) es) (sweep_nothing (box_of after) 0 (map (constraint_seen rules) es) closed) in
    ap (lost (box_of words)) seen
    ∙ lost_kept rules x after words (λ i d i_low. omega (arith, inside.points_within i d i_low, long)) (sym long) (λ place small. sym (untouched e none (slice_index x.points place) (told e place low' (omega (arith, small, inside.long)))))
    ∙ ap (lost (box_of after)) (sym seen)
    ∙ all e no_constraint low

-- a box without an empty point, where only points with candidates were changed
pub still_filled : (words after : List (List ℕ)) → length after ≡ length words → first_empty (box_of after) ≡ None → ((v : ℕ) → values_in (get_or words v []) ≡ [] → values_in (get_or after v []) ≡ []) → first_empty (box_of words) ≡ None
still_filled words after long filled kept = by_answer (first_empty (box_of words)) refl
  where
    by_answer : (o : Option ℕ) → first_empty (box_of words) ≡ o → o ≡ None
    by_answer None is = refl
    by_answer (Some v) is =
        let within : v < length words = omega (arith, point_there (box_of words) v is, length-map words values_in) in
        let gone = kept v (sym (set_at words v within) ∙ empty_there (box_of words) v is) in
        let none = All-from_recursion (λ set. (length set == 0) ≡ false) (box_of after) (position_none (λ set. length set == 0) (box_of after) filled) v [] (omega (arith, within, long, length-map after values_in)) in
        absurd (let bad : true ≡ false = sym (ap (λ set. length set == 0) (set_at after v (omega (arith, within, long)) ∙ gone)) ∙ none in false≢true (sym bad))
