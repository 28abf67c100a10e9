-- Laws of looking at each clause until nothing more is forced.
use Rattle.std.proofs.Common.{◌≡◌, ℕ, ◌+◌, ◌<◌, ◌≤◌, zero, suc, Bool, true, false, List, [], ◌∷◌, refl, sym, ◌∙◌, ap, subst, arith, length, take, get_or}
use Rattle.std.specs.List.{All, Contains, list_any}
use Rattle.std.proofs.lemmas.Bool.{false≢true}
use Rattle.std.proofs.lemmas.Grind.{common_steps, take_at_read}
use Rattle.wf_sat_check.specs.Rup.Propagation.{is_satisfied_by}
use Rattle.wf_sat_check.specs.Store.Literals.{has, opposite, with_literal}
use Rattle.wf_sat_check.specs.Rup.Settled.{IsFalseOn, Stands, StandsOneOf, Stops, StopsBefore}
use Rattle.wf_sat_check.specs.declared.rup.settled.Standing.{Standing}
use Rattle.std.proofs.lemmas.List.Elements.{All-push}
use Rattle.wf_sat_check.specs.declared.rup.settled.Standing.TheVariants.{Settled, Forces, Fails}
use Rattle.wf_sat_check.proofs.OfStore.Lemmas.{has-front, has-with, has-with_same}

abbrev pub open_one : Bool → ℕ
open_one true = 0
open_one false = 1

-- how many of the clauses have no literal that is true
abbrev pub open_count : List ℕ → List (List ℕ) → ℕ
open_count trail [] = 0
open_count trail (c ∷ cs) = open_one (is_satisfied_by trail c) + open_count trail cs

any-more : (p q : ℕ → Bool) → ((x : ℕ) → p x ≡ true → q x ≡ true) → (c : List ℕ) → list_any p c ≡ true → list_any q c ≡ true
any-more p q more [] h = absurd (false≢true h)
any-more p q more (x ∷ c) h = grind (arith, common_steps, h, more x, any-more p q more c)

pub any-at : (q : ℕ → Bool) (c : List ℕ) (l : ℕ) → has c l ≡ true → q l ≡ true → list_any q c ≡ true
any-at q [] l h here = absurd (false≢true h)
any-at q (x ∷ c) l h here = grind (arith, common_steps, h, here, any-at q c l)

-- a clause stays true
pub satisfied-with : (trail : List ℕ) (l : ℕ) (c : List ℕ) → is_satisfied_by trail c ≡ true → is_satisfied_by (with_literal trail l) c ≡ true
satisfied-with trail l c h = any-more (has trail) (has (with_literal trail l)) (has-with trail l) c h

-- one that has the literal is true
pub satisfied-by_it : (trail : List ℕ) (l : ℕ) (c : List ℕ) → has c l ≡ true → is_satisfied_by (with_literal trail l) c ≡ true
satisfied-by_it trail l c h = any-at (has (with_literal trail l)) c l h (has-with_same trail l)

one-le : (a b : Bool) → (a ≡ true → b ≡ true) → open_one b ≤ open_one a
one-le true b h = let e : open_one b ≡ 0 = ap open_one (h refl) in omega arith
one-le false true h = omega arith
one-le false false h = omega arith

pub count-le : (trail : List ℕ) (l : ℕ) (cs : List (List ℕ)) → open_count (with_literal trail l) cs ≤ open_count trail cs
count-le trail l [] = omega arith
count-le trail l (c ∷ cs) =
    let first : open_one (is_satisfied_by (with_literal trail l) c) ≤ open_one (is_satisfied_by trail c) =
    one-le (is_satisfied_by trail c) (is_satisfied_by (with_literal trail l) c) (satisfied-with trail l c) in
    let rest : open_count (with_literal trail l) cs ≤ open_count trail cs = count-le trail l cs in
    omega arith

pub count-less : (trail : List ℕ) (l : ℕ) (cs : List (List ℕ)) (k : ℕ) (c : List ℕ) → k < length cs → get_or cs k c ≡ c
    → is_satisfied_by trail c ≡ false → has c l ≡ true → open_count (with_literal trail l) cs < open_count trail cs
count-less trail l [] k c within e none here = absurd (omega arith)
count-less trail l (x ∷ cs) zero c within e none here =
    let before : open_one (is_satisfied_by trail x) ≡ 1 = ap (λ y. open_one (is_satisfied_by trail y)) e ∙ ap open_one none in
    let after : open_one (is_satisfied_by (with_literal trail l) x) ≡ 0 =
    ap (λ y. open_one (is_satisfied_by (with_literal trail l) y)) e ∙ ap open_one (satisfied-by_it trail l c here) in
    let rest : open_count (with_literal trail l) cs ≤ open_count trail cs = count-le trail l cs in
    omega arith
count-less trail l (x ∷ cs) (suc k) c within e none here =
    let inside : k < length cs = omega arith in
    let first : open_one (is_satisfied_by (with_literal trail l) x) ≤ open_one (is_satisfied_by trail x) =
    one-le (is_satisfied_by trail x) (is_satisfied_by (with_literal trail l) x) (satisfied-with trail l x) in
    let rest : open_count (with_literal trail l) cs < open_count trail cs = count-less trail l cs k c inside e none here in
    omega arith

-- each round leaves fewer clauses that are not true
pub fewer : (clauses : List (List ℕ)) (trail : List ℕ) (l : ℕ) → StandsOneOf clauses trail (Forces l)
    → open_count (with_literal trail l) clauses < open_count trail clauses
fewer clauses trail l (c, here, one) = count-less trail l clauses here.0 c here.1 here.2 one.unsatisfied one.inside

-- what holds of the elements before a place, and of the one there, holds of those up to it
pub All-one_more : (P : ℕ → Type 0) (xs : List ℕ) (i d : ℕ) → i < length xs → P (get_or xs i d) → All P (take i xs) → All P (take (i + 1) xs)
All-one_more P xs i d within here all =
    subst (All P) (sym (take_at_read xs i d within).1) (All-push P (take i xs) (get_or xs i d) all here)

-- the clause is the one that is meant
pub stands-one : (clauses : List (List ℕ)) (trail clause : List ℕ) (s : Standing) → Contains clauses clause → (s ≡ Settled → ⊥)
    → Stands trail clause s → StandsOneOf clauses trail s
stands-one clauses trail clause Settled here other stands = absurd (other refl)
stands-one clauses trail clause (Forces l) here other stands = (clause, here, stands)
stands-one clauses trail clause Fails here other stands = (clause, here, stands)

-- more literals that are true leave false what was
pub false-front : (old new literals : List ℕ) → take (length old) new ≡ old → IsFalseOn old literals → IsFalseOn new literals
false-front old new literals front all = λ k d here. has-front old new (opposite (get_or literals k d)) front (all k d here)

-- where a literal's negation is put, it is false too
pub false-more : (old new literals : List ℕ) (i d : ℕ) → i < length literals → take (length old) new ≡ old
    → new ≡ with_literal old (opposite (get_or literals i d)) → IsFalseOn old (take i literals) → IsFalseOn new (take (i + 1) literals)
false-more old new literals i d within front e all =
    All-one_more (λ l. has new (opposite l) ≡ true) literals i d within
    (ap (λ t. has t (opposite (get_or literals i d))) e ∙ has-with_same old (opposite (get_or literals i d)))
    (false-front old new (take i literals) front all)

pub stops-before : (clauses : List (List ℕ)) (clause assumed propagated settled : List ℕ) → IsFalseOn assumed clause
    → take (length assumed) propagated ≡ assumed → take (length propagated) settled ≡ propagated → Stops clauses settled → StopsBefore clauses clause settled
stops-before clauses clause assumed propagated settled all first then_ stops = record {
  stops = stops;
  negated = false-front propagated settled clause then_ (false-front assumed propagated clause first all);
}

pub front-front : (first second third : List ℕ) → take (length first) second ≡ first → take (length second) third ≡ second → take (length first) third ≡ first
front-front first second third h k = grind (arith, common_steps, h, k)
