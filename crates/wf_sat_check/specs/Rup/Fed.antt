-- What a checker makes of a proof's steps.
use Rattle.std.specs.Prelude.{◌≡◌, ◌⊎◌, ◌++◌, ℕ, true, false, List, [], ◌∷◌, Bool}
use Rattle.wf_sat_text.specs.Clauses.Formula.{Clause}
use Rattle.wf_sat_check.specs.Rup.Deleted.{Deletes, HasAlike, IsWithout}
use Rattle.wf_sat_check.specs.Rup.Kept.{AddsAtMost, IsKept, KnowsStill}
use Rattle.wf_sat_check.specs.Rup.Rat.{IsRedundant, IsUnjustified}
use Rattle.wf_sat_check.specs.Rup.Seen.{Known}
pub use Rattle.wf_sat_text.specs.Drat.Codes.{last_variable}
pub use Rattle.wf_sat_text.specs.Drat.Text.{proof_start}
use Rattle.wf_sat_text.specs.Drat.Text.{State, Step, Text, broken_in, deletion, lemma, open_in, state_after, step_of, text_of}
use Rattle.wf_sat_check.specs.Rup.Unit.{DoesNotFollow}
use Rattle.wf_sat_check.specs.declared.rup.proof.ProofFault.{ProofFault}
use Rattle.wf_sat_check.specs.declared.rup.proof.ProofFault.TheVariants.{NotALiteral, NoSuchVariable, NotImplied, NoContradiction, Binary, OutOfMemory}
use Rattle.wf_sat_text.specs.declared.drat.reader.Transition.{Transition}
use Rattle.wf_sat_text.specs.declared.drat.reader.Transition.TheVariants.{GoesOn, BeginsDeletion, Takes, Ends, Stops}
use Rattle.wf_sat_text.specs.declared.drat.reader.ParseError.{ParseError}
use Rattle.wf_sat_text.specs.declared.drat.reader.ParseError.TheVariants as flaw

-- each model of what was known can be changed into one of the lemma too; from now on the lemma is
-- known beside what was known, and no clause else
pub record Learns (clause : Clause) (old new : Known) : Type 0 where
  pub redundant : IsRedundant old clause
  pub kept : IsKept clause new
  pub still : KnowsStill old new
  pub alone : AddsAtMost clause old new

-- one clause with these literals is no longer known, if there was one
pub record Forgets (clause : Clause) (old new : Known) : Type 0 where
  pub exact : Deletes clause old new
  pub found : HasAlike clause old → IsWithout clause old new

-- the step is taken
abbrev pub TakesStep : Step → Known → Known → Type 0
TakesStep (lemma line clause) old new = Learns clause old new
TakesStep (deletion clause) old new = Forgets clause old new

-- these steps are taken one by one, each where nothing was refuted before
abbrev pub TakesSteps : List Step → Known → Known → Type 0
TakesSteps [] old new = new ≡ old
TakesSteps (step ∷ steps) old new =
    (old.is_refuted ≡ false) × (next : Known) × TakesStep step old next × TakesSteps steps next new

-- all steps of the text are taken, and the contradiction isn't found
pub record TakesAll (text : Text) (old new : Known) : Type 0 where
  pub taken : TakesSteps text.steps old new
  pub unrefuted : new.is_refuted ≡ false

-- the first steps of the text are taken; these are left
pub record TakesFirst (text : Text) (left : List Step) (old new : Known) : Type 0 where
  pub done : List Step
  pub steps : text.steps ≡ done ++ left
  pub taken : TakesSteps done old new

-- the first steps are taken, and then the contradiction is found
pub record IsRefutedIn (text : Text) (old new : Known) : Type 0 where
  pub left : List Step
  pub first : TakesFirst text left old new
  pub refuted : new.is_refuted ≡ true

-- all steps are taken, and the text's bytes end here
pub record IsReadTo (text : Text) (state : State) (old new : Known) : Type 0 where
  pub all : TakesAll text old new
  pub end : text.end ≡ open_in state

-- all steps are taken, and then the text has this flaw
pub record IsBroken (text : Text) (line : ℕ) (flaw : ParseError) (old new : Known) : Type 0 where
  pub all : TakesAll text old new
  pub end : text.end ≡ broken_in line flaw

-- the first steps are taken; the next one is a lemma that ends in this line and may not be added
pub record IsRefusedIn (text : Text) (line : ℕ) (old new : Known) : Type 0 where
  pub clause : Clause
  pub left : List Step
  pub first : TakesFirst text (lemma line clause ∷ left) old new
  pub refused : IsUnjustified new clause

-- the text is refused for this fault
abbrev pub IsFaultIn : Text → Known → Known → ProofFault → Type 0
IsFaultIn text old new (NotALiteral line) = IsBroken text line flaw.NotALiteral old new
IsFaultIn text old new (NoSuchVariable line) = IsBroken text line flaw.NoSuchVariable old new
IsFaultIn text old new (NotImplied line) = IsRefusedIn text line old new
IsFaultIn text old new (NoContradiction line) = ⊥
IsFaultIn text old new Binary = (line : ℕ) × IsBroken text line flaw.Binary old new
IsFaultIn text old new OutOfMemory = Unit {0}

-- the text is read to its end, or to the contradiction
abbrev pub IsReadIn : Text → State → Known → Known → Type 0
IsReadIn text state old new = IsRefutedIn text old new ⊎ IsReadTo text state old new

-- what is still to be read at a proof's end: that of its last line
abbrev pub last_text : State → Text
last_text state = text_of state (10 ∷ [])

-- the proof ends in this line, all its steps are taken, and the contradiction does not follow
pub record LacksContradiction (state : State) (line : ℕ) (old new : Known) : Type 0 where
  pub in_line : line ≡ state.line
  pub next : State
  pub read : IsReadTo (last_text state) next old new
  pub refused : DoesNotFollow new []

-- the proof is refused for this fault at its end
abbrev pub IsFaultAtEnd : State → Known → Known → ProofFault → Type 0
IsFaultAtEnd state old new (NotALiteral line) = IsFaultIn (last_text state) old new (NotALiteral line)
IsFaultAtEnd state old new (NoSuchVariable line) = IsFaultIn (last_text state) old new (NoSuchVariable line)
IsFaultAtEnd state old new (NotImplied line) = IsFaultIn (last_text state) old new (NotImplied line)
IsFaultAtEnd state old new (NoContradiction line) = LacksContradiction state line old new
IsFaultAtEnd state old new Binary = IsFaultIn (last_text state) old new Binary
IsFaultAtEnd state old new OutOfMemory = Unit {0}

-- ---- one byte

-- the fault that a flaw is in a line
abbrev pub fault_at : ℕ → ParseError → ProofFault
fault_at line flaw.NotALiteral = NotALiteral line
fault_at line flaw.NoSuchVariable = NoSuchVariable line
fault_at line flaw.Binary = Binary

-- the step is a lemma that ends in this line and may not be added
pub record IsRefusedStep (step : Step) (line : ℕ) (old new : Known) : Type 0 where
  pub clause : Clause
  pub is : step ≡ lemma line clause
  pub unchanged : new ≡ old
  pub refused : IsUnjustified old clause

-- the step is refused for this fault
abbrev pub IsFaultOfStep : Step → Known → Known → ProofFault → Type 0
IsFaultOfStep step old new (NotALiteral line) = ⊥
IsFaultOfStep step old new (NoSuchVariable line) = ⊥
IsFaultOfStep step old new (NotImplied line) = IsRefusedStep step line old new
IsFaultOfStep step old new (NoContradiction line) = ⊥
IsFaultOfStep step old new Binary = ⊥
IsFaultOfStep step old new OutOfMemory = Unit {0}

-- a byte that comes to this transition is taken; whether the contradiction is found by it
abbrev pub IsTurned : Transition → ℕ → State → State → Known → Known → Bool → Type 0
IsTurned Ends byte state next old new refuted =
    (next ≡ state_after Ends byte state) × (refuted ≡ new.is_refuted) × TakesStep (step_of state) old new
IsTurned (Stops flaw) byte state next old new refuted = ⊥
IsTurned (GoesOn reading) byte state next old new refuted =
    (next ≡ state_after (GoesOn reading) byte state) × (refuted ≡ false) × (new ≡ old)
IsTurned BeginsDeletion byte state next old new refuted = (next ≡ state_after BeginsDeletion byte state) × (refuted ≡ false) × (new ≡ old)
IsTurned (Takes literal) byte state next old new refuted = (next ≡ state_after (Takes literal) byte state) × (refuted ≡ false) × (new ≡ old)

-- a transition is refused for this fault
abbrev pub IsFaultOfTurn : Transition → State → Known → Known → ProofFault → Type 0
IsFaultOfTurn Ends state old new fault = IsFaultOfStep (step_of state) old new fault
IsFaultOfTurn (Stops flaw) state old new fault = (fault ≡ fault_at state.line flaw) × (new ≡ old)
IsFaultOfTurn (GoesOn reading) state old new fault = fault ≡ OutOfMemory
IsFaultOfTurn BeginsDeletion state old new fault = fault ≡ OutOfMemory
IsFaultOfTurn (Takes literal) state old new fault = fault ≡ OutOfMemory
