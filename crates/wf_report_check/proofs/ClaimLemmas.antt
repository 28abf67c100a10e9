-- What is found in lines, one line after another.
use Rattle.std.proofs.Common.{◌≡◌, ℕ, zero, suc, ◌+◌, ◌<◌, List, [], ◌∷◌, drop, get_or, length, map, Option, Some, Result, Err, refl, ap, ◌∙◌, sym, subst, arith}
use Rattle.wf_model.specs.Problem.{Problem}
use Rattle.wf_model.specs.Box.{Box}
use Rattle.wf_model.specs.Refutation.{Line, remove, empty, branch}
use Rattle.wf_model.specs.Check.{Refusal, Verdict, after_verdict, left, trailing, verdict}
use Rattle.wf_base.specs.Lines.Lines.{line_of}
use Rattle.wf_base.specs.declared.lines.line.Line as line
use Rattle.wf_report_check.specs.Claims.{Leaves, fault_left, verdict_on}
use Rattle.wf_report_check.specs.Left.{LinesLeft, Takes, claim_fault, claimed, fault_from, fault_of, left_of, lines_fault}
use Rattle.wf_report_check.specs.Faults.{Fails, IsFault, Judges}
use Rattle.wf_report_check.specs.declared.boxes.Blocks.{Blocks}
use Rattle.wf_report.specs.declared.fault.CertFault.{CertFault}
use Rattle.wf_report.specs.declared.fault.CertFault.TheVariants.{TooLong, Syntax, Header, MapLength, Violates, NoSuch, Unsound, NotEmpty, NotOpen, Unfinished, Trailing, NotFirst, NotTheMap, OutOfMemory}
use Rattle.wf_report_check.specs.declared.judge.ReportClaim.{ReportClaim}
use Rattle.wf_report_check.specs.declared.judge.ReportClaim.TheVariants.{Nothing, Least}
use Rattle.wf_report_check.specs.declared.judge.CheckProgress.{CheckProgress}
use Rattle.wf_report_check.specs.declared.judge.CheckProgress.TheVariants.{Going, Refuted, Found}

pub remove_first : (p : Problem) (claim : ReportClaim) (k e c a : ℕ) (ls : List Line) (box : Box) (boxes : List Box) → lines_fault p claim k (remove e c a ∷ ls) (box ∷ boxes) ≡ after_verdict (verdict p k (remove e c a) box boxes) (lines_fault p claim (suc k) ls)
remove_first p Nothing k e c a ls box boxes = refl
remove_first p (Least m) k e c a ls box boxes = refl

pub empty_first : (p : Problem) (claim : ReportClaim) (k v : ℕ) (ls : List Line) (box : Box) (boxes : List Box) → lines_fault p claim k (empty v ∷ ls) (box ∷ boxes) ≡ after_verdict (verdict p k (empty v) box boxes) (lines_fault p claim (suc k) ls)
empty_first p Nothing k v ls box boxes = refl
empty_first p (Least m) k v ls box boxes = refl

pub branch_first : (p : Problem) (claim : ReportClaim) (k v : ℕ) (ls : List Line) (box : Box) (boxes : List Box) → lines_fault p claim k (branch v ∷ ls) (box ∷ boxes) ≡ after_verdict (verdict_on p claim k (branch v) box boxes) (lines_fault p claim (suc k) ls)
branch_first p Nothing k v ls box boxes = refl
branch_first p (Least m) k v ls box boxes = refl

-- a line that is a fault, and one that leaves boxes
pub fault_first : (e : CertFault) (whole : Option Refusal) (v : Verdict) (next : List Box → Option Refusal) → whole ≡ after_verdict v next → IsFault e v → Fails e whole
fault_first TooLong whole v next is h = absurd h
fault_first (Syntax k) whole v next is h = absurd h
fault_first (Header k) whole v next is h = absurd h
fault_first MapLength whole v next is h = absurd h
fault_first (Violates k) whole v next is h = absurd h
fault_first (NoSuch k) whole v next is h = is ∙ ap (λ v. after_verdict v next) h
fault_first (Unsound k) whole v next is h = is ∙ ap (λ v. after_verdict v next) h
fault_first (NotEmpty k) whole v next is h = is ∙ ap (λ v. after_verdict v next) h
fault_first (NotOpen k) whole v next is h = is ∙ ap (λ v. after_verdict v next) h
fault_first Unfinished whole v next is h = absurd h
fault_first (Trailing k) whole v next is h = absurd h
fault_first (NotFirst k) whole v next is h = is ∙ ap (λ v. after_verdict v next) h
fault_first (NotTheMap k) whole v next is h = is ∙ ap (λ v. after_verdict v next) h
fault_first OutOfMemory whole v next is h = tt

pub left_first : (whole : Option Refusal) (v : Verdict) (next : List Box → Option Refusal) (boxes : List Box) → whole ≡ after_verdict v next → v ≡ left boxes → whole ≡ next boxes
left_first whole v next boxes is h = is ∙ ap (λ v. after_verdict v next) h

-- a line by its variant
pub line_seen : (p : Problem) (claim : ReportClaim) (k : ℕ) (line same : line.Line) (ls : List Line) (box : Box) (boxes : List Box) → line ≡ same
    → lines_fault p claim k (line_of line ∷ ls) (box ∷ boxes) ≡ lines_fault p claim k (line_of same ∷ ls) (box ∷ boxes)
line_seen p claim k line same ls box boxes is = ap (λ l. lines_fault p claim k (line_of l ∷ ls) (box ∷ boxes)) is

pub leaves_fault : {X : Type 0} (result : Result X CertFault) (e f : CertFault) (whole : Option Refusal) (rest : X → Option Refusal) → result ≡ Err e → e ≡ f → Fails f whole → Leaves result whole rest
leaves_fault result e f whole rest is same h = subst (λ r. Leaves r whole rest) (sym is) (subst (λ e. Fails e whole) (sym same) h)

pub judges_fault : {X : Type 0} (result : Result X CertFault) (e f : CertFault) (whole : Option Refusal) → result ≡ Err e → e ≡ f → Fails f whole → Judges result whole
judges_fault result e f whole is same h = subst (λ r. Judges r whole) (sym is) (subst (λ e. Fails e whole) (sym same) h)

-- ---- all lines

-- the next line, before those that follow it
pub next_line : (lines : List line.Line) (i : ℕ) (d : line.Line) → i < length lines → map line_of (drop i lines) ≡ line_of (get_or lines i d) ∷ map line_of (drop (i + 1) lines)
next_line [] i d low = absurd (omega (arith, low))
next_line (x ∷ lines) zero d low = refl
next_line (x ∷ lines) (suc i) d low =
    let e : suc i + 1 ≡ suc (i + 1) = omega arith in
    rw e (next_line lines i d (omega (arith, low)))

-- ---- line by line

pub claim_is : (p : Problem) (claim : ReportClaim) (k : ℕ) (ls : List Line) (boxes : List Box) → claim_fault p (claimed claim) k ls boxes ≡ lines_fault p claim k ls boxes
claim_is p Nothing k ls boxes = refl
claim_is p (Least m) k ls boxes = refl

pub takes_fault : {X : Type 0} (result : Result X CertFault) (e f : CertFault) (p : Problem) (claim : Option (List ℕ)) (l : Line) (old new : LinesLeft) → result ≡ Err e → e ≡ f
    → ((ls : List Line) → Fails f (fault_of p claim (l ∷ ls) old)) → Takes p claim l old new result
takes_fault result e f p claim l old new is same h = subst (Takes p claim l old new) (sym is) (λ ls. subst (λ e. Fails e (fault_of p claim (l ∷ ls) old)) (sym same) (h ls))

-- the fault of the lines that follow, as the checker of lines sees it
pub seen_left : (p : Problem) (claim : ReportClaim) (k : ℕ) (ls : List Line) (progress : CheckProgress) (blocks : Blocks) → fault_from p (claimed claim) k ls (left_of progress blocks) ≡ fault_left p claim k ls progress blocks
seen_left p Nothing k ls Going blocks = refl
seen_left p (Least m) k ls Going blocks = refl
seen_left p Nothing k ls Refuted blocks = refl
seen_left p (Least m) k ls Refuted blocks = refl
seen_left p Nothing k ls Found blocks = refl
seen_left p (Least m) k ls Found blocks = refl

-- a line behind the last one
pub trailing_now : (p : Problem) (claim : ReportClaim) (k : ℕ) (l : Line) (ls : List Line) (progress : CheckProgress) (blocks : Blocks) → (progress ≡ Going → ⊥) → fault_left p claim k (l ∷ ls) progress blocks ≡ Some (trailing k)
trailing_now p claim k l ls Going blocks h = absurd (h refl)
trailing_now p Nothing k l ls Refuted blocks h = refl
trailing_now p (Least m) k l ls Refuted blocks h = refl
trailing_now p claim k l ls Found blocks h = refl
