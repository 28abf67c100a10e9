-- A proof's text in pieces, and what is taken of it.
use Rattle.std.proofs.Common.{◌≡◌, ◌++◌, ◌∷◌, ℕ, true, List, [], inl, refl, sym, ◌∙◌, ap, subst, append_assoc, append-nil}
use Rattle.std.proofs.lemmas.Bool.{false≢true}
use Rattle.wf_sat_check.specs.Rup.Fed.{IsBroken, IsFaultIn, IsReadTo, IsRefusedIn, TakesAll, TakesSteps}
use Rattle.wf_sat_check.specs.Rup.Seen.{Known}
use Rattle.wf_sat_text.specs.Drat.Text.{End, State, Step, Text, behind, broken_in, open_in, state_after, step_of, text_from, text_of, turn_of}
use Rattle.wf_sat_text.specs.declared.drat.reader.ParseError.{ParseError}
use Rattle.wf_sat_text.specs.declared.drat.reader.Transition.{Transition}
use Rattle.wf_sat_text.specs.declared.drat.reader.Transition.TheVariants.{GoesOn, BeginsDeletion, Takes, Ends, Stops}
use Rattle.wf_sat_check.specs.declared.rup.proof.ProofFault.{ProofFault}
use Rattle.wf_sat_check.specs.declared.rup.proof.ProofFault.TheVariants.{NotALiteral, NoSuchVariable, NotImplied, NoContradiction, Binary, OutOfMemory}

-- ---- texts in two pieces

abbrev state_in : State → End → State
state_in s (open_in state) = state
state_in s (broken_in line flaw) = s

abbrev IsOpen : End → Type 0
IsOpen (open_in state) = Unit {0}
IsOpen (broken_in line flaw) = ⊥

-- a text leaves off, or has a flaw
open≢broken : (state : State) (line : ℕ) (flaw : ParseError) → open_in state ≡ broken_in line flaw → ⊥
open≢broken state line flaw same = subst IsOpen same tt

-- where a piece leaves off, the next one is read on, if that is so behind its first byte
behind_turn : (transition : Transition) (s mid : State) (byte : ℕ) (a b : List ℕ)
    → ((next : State) → (text_of next a).end ≡ open_in mid → text_of next (a ++ b) ≡ behind (text_of next a).steps (text_of mid b))
    → (text_from transition s byte (λ next. text_of next a)).end ≡ open_in mid
    → text_from transition s byte (λ next. text_of next (a ++ b)) ≡ behind (text_from transition s byte (λ next. text_of next a)).steps (text_of mid b)
behind_turn (GoesOn reading) s mid byte a b rest e = rest (state_after (GoesOn reading) byte s) e
behind_turn BeginsDeletion s mid byte a b rest e = rest (state_after BeginsDeletion byte s) e
behind_turn (Takes literal) s mid byte a b rest e = rest (state_after (Takes literal) byte s) e
behind_turn Ends s mid byte a b rest e = ap (behind (step_of s ∷ [])) (rest (state_after Ends byte s) e)
behind_turn (Stops flaw) s mid byte a b rest e = absurd (open≢broken mid s.line flaw (sym e))

-- where a piece leaves off, the next one is read on
pub text_behind : (s mid : State) (a b : List ℕ) → (text_of s a).end ≡ open_in mid → text_of s (a ++ b) ≡ behind (text_of s a).steps (text_of mid b)
text_behind s mid [] b e = ap (λ state. text_of state b) (ap (state_in s) e)
text_behind s mid (byte ∷ a) b e = behind_turn (turn_of s byte) s mid byte a b (λ next. text_behind next mid a b) e

broken_turn : (transition : Transition) (s : State) (byte : ℕ) (a b : List ℕ) (line : ℕ) (flaw : ParseError)
    → ((next : State) → (text_of next a).end ≡ broken_in line flaw → text_of next (a ++ b) ≡ text_of next a)
    → (text_from transition s byte (λ next. text_of next a)).end ≡ broken_in line flaw
    → text_from transition s byte (λ next. text_of next (a ++ b)) ≡ text_from transition s byte (λ next. text_of next a)
broken_turn (GoesOn reading) s byte a b line flaw rest e = rest (state_after (GoesOn reading) byte s) e
broken_turn BeginsDeletion s byte a b line flaw rest e = rest (state_after BeginsDeletion byte s) e
broken_turn (Takes literal) s byte a b line flaw rest e = rest (state_after (Takes literal) byte s) e
broken_turn Ends s byte a b line flaw rest e = ap (behind (step_of s ∷ [])) (rest (state_after Ends byte s) e)
broken_turn (Stops found) s byte a b line flaw rest e = refl

-- nothing is read behind a flaw
pub text_broken : (s : State) (a b : List ℕ) (line : ℕ) (flaw : ParseError) → (text_of s a).end ≡ broken_in line flaw → text_of s (a ++ b) ≡ text_of s a
text_broken s [] b line flaw e = absurd (open≢broken s line flaw e)
text_broken s (byte ∷ a) b line flaw e = broken_turn (turn_of s byte) s byte a b line flaw (λ next. text_broken next a b line flaw) e

-- further bytes say further steps
pub record HasMore (s : State) (a b : List ℕ) : Type 0 where
  pub more : List Step
  pub steps : (text_of s (a ++ b)).steps ≡ (text_of s a).steps ++ more

more_behind : (s : State) (a b : List ℕ) (end : End) → (text_of s a).end ≡ end → HasMore s a b
more_behind s a b (open_in mid) e = record { more = (text_of mid b).steps; steps = ap (λ (t : Text). t.steps) (text_behind s mid a b e) }
more_behind s a b (broken_in line flaw) e = record {
  more = [];
  steps = ap (λ (t : Text). t.steps) (text_broken s a b line flaw e) ∙ sym (append-nil (text_of s a).steps);
}

-- ---- steps that are taken

pub takes_both : (first second : List Step) (old mid new : Known) → TakesSteps first old mid → TakesSteps second mid new → TakesSteps (first ++ second) old new
takes_both [] second old mid new same taken = subst (λ k. TakesSteps second k new) same taken
takes_both (step ∷ steps) second old mid new begun taken = (begun.0, begun.1, begun.2, takes_both steps second begun.1 mid new begun.3 taken)

-- none is taken behind the contradiction
refuted_still : (steps : List Step) (old new : Known) → old.is_refuted ≡ true → TakesSteps steps old new → new.is_refuted ≡ true
refuted_still [] old new refuted same = ap (λ (k : Known). k.is_refuted) same ∙ refuted
refuted_still (step ∷ steps) old new refuted taken = absurd (false≢true (sym taken.0 ∙ refuted))

pub not_all : (text : Text) (old new : Known) → old.is_refuted ≡ true → TakesAll text old new → ⊥
not_all text old new refuted all = false≢true (sym all.unrefuted ∙ refuted_still text.steps old new refuted all.taken)

-- behind the contradiction there is no fault but want of memory
pub no_fault : (text : Text) (old new : Known) (fault : ProofFault) → old.is_refuted ≡ true → IsFaultIn text old new fault → fault ≡ OutOfMemory
no_fault text old new (NotALiteral line) refuted broken = absurd (not_all text old new refuted broken.all)
no_fault text old new (NoSuchVariable line) refuted broken = absurd (not_all text old new refuted broken.all)
no_fault text old new (NotImplied line) refuted is = absurd (is.refused.does_not_follow (inl (refuted_still is.first.done old new refuted is.first.taken)))
no_fault text old new (NoContradiction line) refuted never = absurd never
no_fault text old new Binary refuted broken = absurd (not_all text old new refuted broken.1.all)
no_fault text old new OutOfMemory refuted is = refl

-- ---- a piece more

module _ (s mid : State) (a b : List ℕ) (old now new : Known) (first : IsReadTo (text_of s a) mid old now) where
  both_taken : (done : List Step) → TakesSteps done now new → TakesSteps ((text_of s a).steps ++ done) old new
  both_taken done taken = takes_both (text_of s a).steps done old now new first.all.taken taken

  whole : text_of s (a ++ b) ≡ behind (text_of s a).steps (text_of mid b)
  whole = text_behind s mid a b first.end

  pub read_on : (next : State) → IsReadTo (text_of mid b) next now new → IsReadTo (text_of s (a ++ b)) next old new
  read_on next read = subst (λ text. IsReadTo text next old new) (sym whole) (record {
    all = record { taken = both_taken (text_of mid b).steps read.all.taken; unrefuted = read.all.unrefuted };
    end = read.end;
  })

  broken_on : (line : ℕ) (flaw : ParseError) → IsBroken (text_of mid b) line flaw now new → IsBroken (text_of s (a ++ b)) line flaw old new
  broken_on line flaw broken = subst (λ text. IsBroken text line flaw old new) (sym whole) (record {
    all = record { taken = both_taken (text_of mid b).steps broken.all.taken; unrefuted = broken.all.unrefuted };
    end = broken.end;
  })

  refused_on : (line : ℕ) → IsRefusedIn (text_of mid b) line now new → IsRefusedIn (text_of s (a ++ b)) line old new
  refused_on line is = subst (λ text. IsRefusedIn text line old new) (sym whole) (record {
    clause = is.clause;
    left = is.left;
    first = record {
      done = (text_of s a).steps ++ is.first.done;
      steps = ap (λ steps. (text_of s a).steps ++ steps) is.first.steps ∙ sym (append_assoc (text_of s a).steps is.first.done _);
      taken = both_taken is.first.done is.first.taken;
    };
    refused = is.refused;
  })

  pub fault_on : (fault : ProofFault) → IsFaultIn (text_of mid b) now new fault → IsFaultIn (text_of s (a ++ b)) old new fault
  fault_on (NotALiteral line) broken = broken_on line _ broken
  fault_on (NoSuchVariable line) broken = broken_on line _ broken
  fault_on (NotImplied line) is = refused_on line is
  fault_on (NoContradiction line) never = never
  fault_on Binary (line, broken) = (line, broken_on line _ broken)
  fault_on OutOfMemory is = tt

-- ---- what stands behind a fault

module _ (s : State) (a b : List ℕ) (old new : Known) where
  broken_still : (line : ℕ) (flaw : ParseError) → IsBroken (text_of s a) line flaw old new → IsBroken (text_of s (a ++ b)) line flaw old new
  broken_still line flaw broken = subst (λ text. IsBroken text line flaw old new) (sym (text_broken s a b line flaw broken.end)) broken

  refused_still : (line : ℕ) → IsRefusedIn (text_of s a) line old new → IsRefusedIn (text_of s (a ++ b)) line old new
  refused_still line is =
      let has = more_behind s a b (text_of s a).end refl in
      record {
        clause = is.clause;
        left = is.left ++ has.more;
        first = record {
          done = is.first.done;
          steps = has.steps ∙ ap (λ steps. steps ++ has.more) is.first.steps ∙ append_assoc is.first.done _ has.more;
          taken = is.first.taken;
        };
        refused = is.refused;
      }

  pub fault_still : (fault : ProofFault) → IsFaultIn (text_of s a) old new fault → IsFaultIn (text_of s (a ++ b)) old new fault
  fault_still (NotALiteral line) broken = broken_still line _ broken
  fault_still (NoSuchVariable line) broken = broken_still line _ broken
  fault_still (NotImplied line) is = refused_still line is
  fault_still (NoContradiction line) never = never
  fault_still Binary (line, broken) = (line, broken_still line _ broken)
  fault_still OutOfMemory is = tt
