-- Laws of a proof's steps, taken one by one while its text is read.
use Rattle.std.proofs.Common.{◌≡◌, ℕ, Option, Some, None, ◌+◌, ◌<◌, length, drop, get_or, true, false, List, [], ◌∷◌, ◌++◌, refl, sym, ◌∙◌, ap, subst, append_assoc, append-nil}
use Rattle.std.proofs.lemmas.Bool.{false≢true}
use Rattle.std.proofs.lemmas.List.{drop_more}
use Rattle.std.proofs.lemmas.Option.{none-some}
use Rattle.wf_sat_check.specs.Rup.Fed.{Learns, IsBroken, IsRefusedIn, IsRefusedStep, fault_at, IsFaultIn, IsFaultOfStep, IsFaultOfTurn, IsRefutedIn, IsTurned, TakesStep, TakesSteps}
use Rattle.std.specs.Prelude.{if◌then◌else◌}
use Rattle.wf_sat_text.specs.Clauses.Formula.{Clause}
use Rattle.wf_sat_check.specs.Rup.Seen.{Known}
use Rattle.wf_sat_check.specs.Rup.Rat.{IsUnjustified}
use Rattle.wf_sat_text.specs.Drat.Moves.{Moves}
use Rattle.wf_sat_text.specs.Drat.Text.{State, Step, Text, behind, deletion, lemma, state_after, step_of, text_from, text_of, turn_of}
use Rattle.wf_sat_check.specs.declared.rup.proof.ProofFault.{ProofFault}
use Rattle.wf_sat_check.specs.declared.rup.proof.ProofFault.TheVariants.{NotALiteral, NoSuchVariable, NotImplied, NoContradiction, Binary, OutOfMemory}
use Rattle.wf_sat_text.specs.declared.drat.reader.Transition.{Transition}
use Rattle.wf_sat_text.specs.declared.drat.reader.Transition.TheVariants.{GoesOn, BeginsDeletion, Takes, Ends, Stops}
use Rattle.wf_sat_text.specs.declared.drat.reader.ParseError.{ParseError}
use Rattle.wf_sat_text.specs.declared.drat.reader.ParseError.TheVariants as flaw

-- of the text these bytes are left, and the steps before them are taken
pub record IsUpTo (text : Text) (state : State) (bytes : List ℕ) (old new : Known) : Type 0 where
  pub done : List Step
  pub same : text ≡ behind done (text_of state bytes)
  pub taken : TakesSteps done old new
  pub unrefuted : new.is_refuted ≡ false

takes-more : (done : List Step) (step : Step) (old mid new : Known) → TakesSteps done old mid → mid.is_refuted ≡ false → TakesStep step mid new
    → TakesSteps (done ++ step ∷ []) old new
takes-more [] step old mid new same unrefuted taken =
    (ap (λ (k : Known). k.is_refuted) (sym same) ∙ unrefuted, new, subst (λ k. TakesStep step k new) same taken, refl)
takes-more (s ∷ ss) step old mid new before unrefuted taken =
    (before.0, before.1, before.2, takes-more ss step before.1 mid new before.3 unrefuted taken)

behind-behind : (a b : List Step) (text : Text) → behind a (behind b text) ≡ behind (a ++ b) text
behind-behind a b text = ap (λ steps. record { steps = steps; end = text.end }) (sym (append_assoc a b text.steps))

-- one byte more is left
pub up-to_byte : (text : Text) (state : State) (bytes : List ℕ) (i : ℕ) (old new : Known) → i < length bytes
    → IsUpTo text state (drop i bytes) old new → IsUpTo text state (get_or bytes i 0 ∷ drop (i + 1) bytes) old new
up-to_byte text state bytes i old new within u = subst (λ left. IsUpTo text state left old new) (drop_more bytes i 0 within) u

-- what is left begins with a byte that comes to this transition
turned : (text : Text) (state : State) (byte : ℕ) (bytes : List ℕ) (done : List Step) (transition : Transition) → turn_of state byte ≡ transition
    → text ≡ behind done (text_of state (byte ∷ bytes)) → text ≡ behind done (text_from transition state byte (λ next. text_of next bytes))
turned text state byte bytes done transition e same = same ∙ ap (λ t. behind done (text_from t state byte (λ next. text_of next bytes))) e

-- a byte is read that ends no step
pub up-to_same : (text : Text) (state next : State) (bytes : List ℕ) (old mid new : Known) (done : List Step)
    → TakesSteps done old mid → mid.is_refuted ≡ false → new ≡ mid → text ≡ behind done (text_of next bytes) → IsUpTo text next bytes old new
up-to_same text state next bytes old mid new done taken unrefuted e same = record {
  done = done;
  same = same;
  taken = subst (λ k. TakesSteps done old k) (sym e) taken;
  unrefuted = ap (λ (k : Known). k.is_refuted) e ∙ unrefuted;
}

-- a byte is read, and no contradiction found by it
pub up-to_next : (transition : Transition) (text : Text) (state next : State) (byte : ℕ) (bytes : List ℕ) (old mid new : Known) → turn_of state byte ≡ transition
    → IsUpTo text state (byte ∷ bytes) old mid → IsTurned transition byte state next mid new false → IsUpTo text next bytes old new
up-to_next (GoesOn reading) text state next byte bytes old mid new e u t =
    up-to_same text state next bytes old mid new u.done u.taken u.unrefuted t.2
    (turned text state byte bytes u.done (GoesOn reading) e u.same ∙ ap (λ n. behind u.done (text_of n bytes)) (sym t.0))
up-to_next BeginsDeletion text state next byte bytes old mid new e u t =
    up-to_same text state next bytes old mid new u.done u.taken u.unrefuted t.2
    (turned text state byte bytes u.done BeginsDeletion e u.same ∙ ap (λ n. behind u.done (text_of n bytes)) (sym t.0))
up-to_next (Takes literal) text state next byte bytes old mid new e u t =
    up-to_same text state next bytes old mid new u.done u.taken u.unrefuted t.2
    (turned text state byte bytes u.done (Takes literal) e u.same ∙ ap (λ n. behind u.done (text_of n bytes)) (sym t.0))
up-to_next Ends text state next byte bytes old mid new e u t = record {
  done = u.done ++ step_of state ∷ [];
  same = turned text state byte bytes u.done Ends e u.same ∙ behind-behind u.done (step_of state ∷ []) (text_of (state_after Ends byte state) bytes)
      ∙ ap (λ n. behind (u.done ++ step_of state ∷ []) (text_of n bytes)) (sym t.0);
  taken = takes-more u.done (step_of state) old mid new u.taken u.unrefuted t.2;
  unrefuted = sym t.1;
}
up-to_next (Stops flaw) text state next byte bytes old mid new e u t = absurd t

-- a byte is read, and the contradiction found by it
pub refuted-in : (transition : Transition) (text : Text) (state next : State) (byte : ℕ) (bytes : List ℕ) (old mid new : Known) → turn_of state byte ≡ transition
    → IsUpTo text state (byte ∷ bytes) old mid → IsTurned transition byte state next mid new true → IsRefutedIn text old new
refuted-in (GoesOn reading) text state next byte bytes old mid new e u t = absurd (false≢true (sym t.1))
refuted-in BeginsDeletion text state next byte bytes old mid new e u t = absurd (false≢true (sym t.1))
refuted-in (Takes literal) text state next byte bytes old mid new e u t = absurd (false≢true (sym t.1))
refuted-in Ends text state next byte bytes old mid new e u t = record {
  left = (text_of (state_after Ends byte state) bytes).steps;
  first = record {
    done = u.done ++ step_of state ∷ [];
    steps = ap (λ (x : Text). x.steps)
        (turned text state byte bytes u.done Ends e u.same ∙ behind-behind u.done (step_of state ∷ []) (text_of (state_after Ends byte state) bytes));
    taken = takes-more u.done (step_of state) old mid new u.taken u.unrefuted t.2;
  };
  refuted = sym t.1;
}
refuted-in (Stops flaw) text state next byte bytes old mid new e u t = absurd t

-- no bytes are read
pub up-to_unmoved : (text : Text) (bytes : List ℕ) (from : ℕ) (moved : Option ℕ) (inside next state : State) (old new : Known) → moved ≡ None
    → Moves bytes inside from inside next moved → inside ≡ state → IsUpTo text state (drop from bytes) old new → IsUpTo text next (drop from bytes) old new
up-to_unmoved text bytes from None inside next state old new none same is u = subst (λ s. IsUpTo text s (drop from bytes) old new) (sym (same ∙ is)) u
up-to_unmoved text bytes from (Some to) inside next state old new none same is u = absurd (none-some to (sym none))

-- ---- faults

-- the text has a flaw behind the steps that are taken
broken : (text : Text) (state : State) (byte : ℕ) (bytes : List ℕ) (old mid new : Known) (flaw : ParseError) → turn_of state byte ≡ Stops flaw
    → IsUpTo text state (byte ∷ bytes) old mid → new ≡ mid → IsBroken text state.line flaw old new
broken text state byte bytes old mid new flaw e u same =
    let is : text ≡ behind u.done (text_from (Stops flaw) state byte (λ next. text_of next bytes)) = turned text state byte bytes u.done (Stops flaw) e u.same in
    record {
      all = record {
        taken = subst (λ k. TakesSteps text.steps old k) (sym same)
            (subst (λ steps. TakesSteps steps old mid) (sym (ap (λ (x : Text). x.steps) is ∙ append-nil u.done)) u.taken);
        unrefuted = ap (λ (k : Known). k.is_refuted) same ∙ u.unrefuted;
      };
      end = ap (λ (x : Text). x.end) is;
    }

fault-of_flaw : (text : Text) (line : ℕ) (flaw : ParseError) (old new : Known) → IsBroken text line flaw old new → IsFaultIn text old new (fault_at line flaw)
fault-of_flaw text line flaw.NotALiteral old new b = b
fault-of_flaw text line flaw.NoSuchVariable old new b = b
fault-of_flaw text line flaw.Binary old new b = (line, b)

-- the next step is a lemma that may not be added
refused-in : (text : Text) (state : State) (byte : ℕ) (bytes : List ℕ) (old mid new : Known) (line : ℕ) → turn_of state byte ≡ Ends
    → IsUpTo text state (byte ∷ bytes) old mid → IsRefusedStep (step_of state) line mid new → IsRefusedIn text line old new
refused-in text state byte bytes old mid new line e u r =
    let rest : List Step = (text_of (state_after Ends byte state) bytes).steps in
    record {
      clause = r.clause;
      left = rest;
      first = record {
        done = u.done;
        steps = ap (λ (x : Text). x.steps) (turned text state byte bytes u.done Ends e u.same) ∙ ap (λ step. u.done ++ step ∷ rest) r.is;
        taken = subst (λ k. TakesSteps u.done old k) (sym r.unchanged) u.taken;
      };
      refused = subst (λ k. IsUnjustified k r.clause) (sym r.unchanged) r.refused;
    }

fault-of_step : (text : Text) (state : State) (byte : ℕ) (bytes : List ℕ) (old mid new : Known) (fault : ProofFault) → turn_of state byte ≡ Ends
    → IsUpTo text state (byte ∷ bytes) old mid → IsFaultOfStep (step_of state) mid new fault → IsFaultIn text old new fault
fault-of_step text state byte bytes old mid new (NotALiteral line) e u f = absurd f
fault-of_step text state byte bytes old mid new (NoSuchVariable line) e u f = absurd f
fault-of_step text state byte bytes old mid new (NotImplied line) e u f = refused-in text state byte bytes old mid new line e u f
fault-of_step text state byte bytes old mid new (NoContradiction line) e u f = absurd f
fault-of_step text state byte bytes old mid new Binary e u f = absurd f
fault-of_step text state byte bytes old mid new OutOfMemory e u f = tt

-- a byte is refused
pub fault-in : (transition : Transition) (text : Text) (state : State) (byte : ℕ) (bytes : List ℕ) (old mid new : Known) (fault : ProofFault) → turn_of state byte ≡ transition
    → IsUpTo text state (byte ∷ bytes) old mid → IsFaultOfTurn transition state mid new fault → IsFaultIn text old new fault
fault-in (GoesOn reading) text state byte bytes old mid new fault e u f = subst (IsFaultIn text old new) (sym f) tt
fault-in BeginsDeletion text state byte bytes old mid new fault e u f = subst (IsFaultIn text old new) (sym f) tt
fault-in (Takes literal) text state byte bytes old mid new fault e u f = subst (IsFaultIn text old new) (sym f) tt
fault-in Ends text state byte bytes old mid new fault e u f = fault-of_step text state byte bytes old mid new fault e u f
fault-in (Stops flaw) text state byte bytes old mid new fault e u f =
    subst (IsFaultIn text old new) (sym f.0) (fault-of_flaw text state.line flaw old new (broken text state byte bytes old mid new flaw e u f.1))

-- the contradiction was found before
pub refuted-before : (text : Text) (known : Known) → known.is_refuted ≡ true → IsRefutedIn text known known
refuted-before text known refuted = record { left = text.steps; first = record { done = []; steps = refl; taken = refl }; refuted = refuted }

-- ---- a step

pub takes-lemma : (state : State) (clause : Clause) (old new : Known) → state.is_deletion ≡ false → clause ≡ state.clause
    → Learns clause old new → TakesStep (step_of state) old new
takes-lemma state clause old new e same learns =
    subst (λ is. TakesStep (if is then deletion state.clause else lemma state.line state.clause) old new) (sym e) (subst (λ c. Learns c old new) same learns)
